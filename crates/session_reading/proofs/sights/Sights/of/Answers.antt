use Rattle.std.proofs.Common.{◌≡◌, ◌<◌, ◌-◌, length, take, drop, arith, sym, ap, length-drop, take_all}
use Rattle.built_forms.specs.Forms.{begins_unbuilt}
use Rattle.index_spellings.specs.Indices.{begins_bad_list}
use Rattle.session_reading.specs.Faults.{begins_large}
use Rattle.session_reading.proofs.Seen.{found_more}
use Rattle.session_reading.proofs.sights.Sights.of.Goals as goal

pub loop-place-preserved : goal.loop-place-preserved
loop-place-preserved c =
    let ls = c.args.lexemes.now in
    let n = c.loop-place.place in
    let short : n < length ls = omega (arith, c.loop-place-test.true) in
    let rest : take (length ls - n) (drop n ls) ≡ drop n ls = take_all (length ls - n) (drop n ls) (omega (arith, length-drop n ls)) in
    record {
      large_number = rw c.look.ensures.large_number (found_more begins_large ls n c.loop-place.sights.large_number _ short (ap begins_large (sym rest)) c.loop-place.invariant.large_number);
      unbuilt = rw c.look.ensures.unbuilt (found_more begins_unbuilt ls n c.loop-place.sights.unbuilt _ short (ap begins_unbuilt (sym rest)) c.loop-place.invariant.unbuilt);
      bad_list = rw c.look.ensures.bad_list (found_more begins_bad_list ls n c.loop-place.sights.bad_list _ short (ap begins_bad_list (sym rest)) c.loop-place.invariant.bad_list);
    }
