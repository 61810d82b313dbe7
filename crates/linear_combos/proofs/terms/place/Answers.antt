use Rattle.std.proofs.Common.{◌≡◌, ◌+◌, ◌-◌, ◌/◌, ◌<◌, [], pos, get_or, length, sym, ◌∙◌, ap, arith}
use Rattle.std.proofs.lemmas.List.{get_or_default}
use Rattle.realisations.specs.Combinations.{key_cmp, term_at}
use Rattle.linear_combos.proofs.Place.{smaller_up_to, greater_from}
use Rattle.realisations.proofs.KeyOrders.{same_key}
use Rattle.linear_combos.proofs.terms.place.Goals as goal

pub loop-low-preserved-in-Less : goal.loop-low-preserved-in-Less
loop-low-preserved-in-Less c =
    let mid = c.loop-low.low + (c.loop-low.high - c.loop-low.low) / 2 in
    let here : mid < length c.args.terms.now = omega arith in
    let read : term_at c.args.terms.now mid ≡ get_or c.args.terms.now mid c.index-terms-mid.result = get_or_default c.args.terms.now mid (pos 0, []) c.index-terms-mid.result here in
    record {
      ordered = omega arith;
      in_range = omega arith;
      smaller = smaller_up_to _ c.requires _ mid here (ap (λ t. key_cmp t.1 c.args.key.now) read ∙ sym c.in-Less.ensures);
      greater = c.loop-low.invariant.greater;
    }

pub returns-in-Equal-clause-found : goal.returns-in-Equal-clause-found
returns-in-Equal-clause-found c =
    let mid = c.loop-low.low + (c.loop-low.high - c.loop-low.low) / 2 in
    let here : mid < length c.args.terms.now = omega arith in
    let read : term_at c.args.terms.now mid ≡ get_or c.args.terms.now mid c.index-terms-mid.result = get_or_default c.args.terms.now mid (pos 0, []) c.index-terms-mid.result here in
    record { in_range = here; has_key = same_key _ _ (ap (λ t. key_cmp t.1 c.args.key.now) read ∙ sym c.in-Equal.ensures) }

pub loop-low-preserved : goal.loop-low-preserved
loop-low-preserved c =
    let mid = c.loop-low.low + (c.loop-low.high - c.loop-low.low) / 2 in
    let here : mid < length c.args.terms.now = omega arith in
    let read : term_at c.args.terms.now mid ≡ get_or c.args.terms.now mid c.index-terms-mid.result = get_or_default c.args.terms.now mid (pos 0, []) c.index-terms-mid.result here in
    record {
      ordered = omega arith;
      in_range = omega arith;
      smaller = c.loop-low.invariant.smaller;
      greater = greater_from _ c.requires _ mid here (ap (λ t. key_cmp t.1 c.args.key.now) read ∙ sym c.in-Greater.ensures);
    }
