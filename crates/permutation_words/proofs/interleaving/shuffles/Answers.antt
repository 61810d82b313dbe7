use Rattle.std.proofs.Common.{◌+◌, arith}
use Rattle.permutation_words.proofs.ListsOfPlaces.{all_left, next_left, next_takes}
use Rattle.permutation_words.proofs.interleaving.shuffles.Goals as goal

pub loop-places-init : goal.loop-places-init
loop-places-init c =
    all_left c.args.a.now c.args.b.now c.new-codes.result c.in_ok-places-items.places-items c.into_iter-places-iterator.result (c.len.result + c.len-2.result) c.len-3.result
    (omega (arith, c.len.ensures.value, c.len-2.ensures.value)) c.len-3.ensures.value c.new-codes.ensures c.into_iter-places-iterator.ensures.into_iter_gives
    c.in_ok-places-items.places-items.pool.ok.0 c.in_ok-places-items.ensures.pool c.in_ok-places-items.ensures.places

pub interleaved-requires : goal.interleaved-requires
interleaved-requires c =
    next_takes c.args.a.now c.args.b.now c.loop-places.codes c.loop-places.places-iterator c.next.new.self c.in-Some.places c.in_ok-places.field-0 c.in_ok-places.was
    c.loop-places.invariant c.in-Some.ensures.steps c.as_slice.result.now c.as_slice.ensures.value c.requires c.len.ensures.is_code c.len-2.ensures.is_code

pub loop-places-preserved : goal.loop-places-preserved
loop-places-preserved c =
    next_left c.args.a.now c.args.b.now c.loop-places.codes c.loop-places.places-iterator c.next.new.self c.in-Some.places c.in_ok-places.field-0 c.in_ok-places.was
    c.loop-places.invariant c.in-Some.ensures.steps c.as_slice.result.now c.push.new.self c.interleaved.result c.as_slice.ensures.value c.interleaved.ensures c.in_ok-push.ensures.ok
