use Rattle.std.proofs.Common.{◌≡◌, ◌+◌, ◌-◌, ◌/◌, ◌<◌, [], get_or, sym, ◌∙◌, ap, arith, length}
use Rattle.std.specs.Ordering.{nat_cmp, is_lt}
use Rattle.std.specs.Cmp.Lexicographic.{slice_cmp}
use Rattle.std.proofs.lemmas.List.{get_or_default}
use Rattle.realisations.specs.Codes.{Code}
use Rattle.inclusion_rules.proofs.Groups.{after_from, before_up_to}
use Rattle.inclusion_rules.proofs.table.place_of.Goals as goal

pub loop-low-preserved-then-lt : goal.loop-low-preserved-then-lt
loop-low-preserved-then-lt c =
    let mid = c.loop-low.low + (c.loop-low.high - c.loop-low.low) / 2 in
    let here : mid < length c.args.pairs.now = omega (arith, c.loop-low.invariant.in_range, c.loop-low-test.true) in
    let read : get_or c.args.pairs.now mid ([], []) ≡ get_or c.args.pairs.now mid c.index-pairs-mid.result = get_or_default c.args.pairs.now mid ([], []) c.index-pairs-mid.result here in
    record {
      ordered = omega arith;
      in_range = c.loop-low.invariant.in_range;
      before = before_up_to c.args.pairs.now c.requires c.args.index.now mid here
          (ap (λ (p : Code × Code). is_lt (slice_cmp nat_cmp p.0 c.args.index.now)) read ∙ sym c.lt.ensures ∙ c.if-lt.true);
      after = c.loop-low.invariant.after;
    }

pub loop-low-preserved : goal.loop-low-preserved
loop-low-preserved c =
    let mid = c.loop-low.low + (c.loop-low.high - c.loop-low.low) / 2 in
    let here : mid < length c.args.pairs.now = omega (arith, c.loop-low.invariant.in_range, c.loop-low-test.true) in
    let read : get_or c.args.pairs.now mid ([], []) ≡ get_or c.args.pairs.now mid c.index-pairs-mid.result = get_or_default c.args.pairs.now mid ([], []) c.index-pairs-mid.result here in
    record {
      ordered = omega arith;
      in_range = omega (arith, here);
      before = c.loop-low.invariant.before;
      after = after_from c.args.pairs.now c.requires c.args.index.now mid here
          (ap (λ (p : Code × Code). is_lt (slice_cmp nat_cmp p.0 c.args.index.now)) read ∙ sym c.lt.ensures ∙ c.if-lt.false);
    }
