use Rattle.std.proofs.Common.{refl, ◌≡◌, ◌≢◌, ◌+◌, ◌^◌, ◌<◌, [], length, pos, arith, unsigned_abs, sym, ◌∙◌, ap}
use Rattle.std.proofs.Math.IntN.{◌+ℤ◌}
use Rattle.std.proofs.lemmas.Int.{to_z-of_z}
use Rattle.std.proofs.lemmas.List.{get_or_default}
use Rattle.std.proofs.lemmas.List.Sums.{sum_by-remove, sum_by-set, get_or-le-sum_by}
use Rattle.realisations.specs.Combinations.{norm_of, term_at}
use Rattle.hopf_num.proofs.SumsOfProducts.{abs_sum}
use Rattle.linear_combos.proofs.Numerals.{sum_is, fits_abs, part_is}
use Rattle.linear_combos.proofs.Edits.{remove_terms, set_terms, lowest_one, keys-remove, keys-set}
use Rattle.linear_combos.proofs.Weights.{weighed-remove, weighed-set}
use mir.Syntax.{w128}
use mir.Val.{SFits, to_z, of_z}
use Rattle.linear_combos.proofs.combo.Combo.gather.Goals as goal

pub invariant_of-self : goal.invariant_of-self
invariant_of-self c =
    let terms : c.args.self.now.terms ≡ c.self.inside.terms.items = ap (λ s. s.terms) (sym c.self.view_is) in
    let here : c.args.at < length c.self.inside.terms.items = rw (← terms) c.requires.in_range in
    let room : norm_of c.self.inside.terms.items + unsigned_abs c.args.num < 2 ^ 127 = rw (← terms) c.requires.room in
    let read : term_at c.self.inside.terms.items c.args.at ≡ c.index.result.now = get_or_default c.self.inside.terms.items c.args.at (pos 0, []) c.index.result.now here ∙ sym c.index.ensures in
    let size : unsigned_abs (term_at c.self.inside.terms.items c.args.at).0 ≡ unsigned_abs c.index.result.now.0 = ap (λ t. unsigned_abs t.0) read in
    let fits : SFits w128 c.index.result.now.0 = fits_abs _ (omega (arith, room, size, get_or-le-sum_by (λ t. unsigned_abs t.0) c.self.inside.terms.items c.args.at (pos 0, []) here)) in
    let value : c.unsigned_abs.result ≡ unsigned_abs c.index.result.now.0 = c.unsigned_abs.ensures.value ∙ ap unsigned_abs (to_z-of_z w128 c.index.result.now.0 fits) in
    let den : c.self.inside.den ≡ 1 = ap (λ s. s.den) c.self.view_is ∙ c.requires.whole in
    rw (c.remove_term.ensures, den) (
      record { ordered = remove_terms _ _ c.args.at here c.self.invariant.0.ordered; lowest = lowest_one _ },
      omega (arith, c.self.invariant.1, value, size, sum_by-remove (λ t. unsigned_abs t.0) c.self.inside.terms.items c.args.at (pos 0, []) here),
    )

pub invariant_of-self-else-sum-eq0 : goal.invariant_of-self-else-sum-eq0
invariant_of-self-else-sum-eq0 c =
    let terms : c.args.self.now.terms ≡ c.self.inside.terms.items = ap (λ s. s.terms) (sym c.self.view_is) in
    let here : c.args.at < length c.self.inside.terms.items = rw (← terms) c.requires.in_range in
    let room : norm_of c.self.inside.terms.items + unsigned_abs c.args.num < 2 ^ 127 = rw (← terms) c.requires.room in
    let read : term_at c.self.inside.terms.items c.args.at ≡ c.index.result.now = get_or_default c.self.inside.terms.items c.args.at (pos 0, []) c.index.result.now here ∙ sym c.index.ensures in
    let size : unsigned_abs (term_at c.self.inside.terms.items c.args.at).0 ≡ unsigned_abs c.index.result.now.0 = ap (λ t. unsigned_abs t.0) read in
    let some : unsigned_abs c.index.result.now.0 + unsigned_abs c.args.num < 2 ^ 127 = omega (arith, room, size, get_or-le-sum_by (λ t. unsigned_abs t.0) c.self.inside.terms.items c.args.at (pos 0, []) here) in
    let fits : SFits w128 c.index.result.now.0 = fits_abs _ (omega arith) in
    let total = to_z w128 (of_z w128 (to_z w128 (of_z w128 c.index.result.now.0) +ℤ to_z w128 (of_z w128 c.args.num))) in
    let sum : total ≡ c.index.result.now.0 +ℤ c.args.num = sum_is _ _ fits c.ranges.num some in
    let key = c.index_mut-term.result.now.1 in
    let same : (term_at c.self.inside.terms.items c.args.at).1 ≡ key = ap (λ t. t.1) (get_or_default c.self.inside.terms.items c.args.at (pos 0, []) c.index_mut-term.result.now here ∙ sym c.index_mut-term.ensures.value) in
    let part : to_z w128 (of_z w128 c.index.result.now.0) +ℤ to_z w128 (of_z w128 c.args.num) ≡ total = part_is _ _ fits c.ranges.num ∙ sym sum in
    let nonzero : total ≢ pos 0 = λ e. c.if-sum-eq0.false (ap (of_z w128) (part ∙ e)) in
    let value : c.unsigned_abs.result ≡ unsigned_abs c.index.result.now.0 = c.unsigned_abs.ensures.value ∙ ap unsigned_abs (to_z-of_z w128 c.index.result.now.0 fits) in
    let value' : c.unsigned_abs-else-sum-eq0.result ≡ unsigned_abs (c.index.result.now.0 +ℤ c.args.num) = c.unsigned_abs-else-sum-eq0.ensures.value ∙ ap unsigned_abs sum in
    let edit = sum_by-set (λ t. unsigned_abs t.0) c.self.inside.terms.items c.args.at (total, key) (pos 0, []) here in
    let size' : unsigned_abs total ≡ unsigned_abs (c.index.result.now.0 +ℤ c.args.num) = ap unsigned_abs sum in
    let bound = abs_sum c.index.result.now.0 c.args.num in
    let below = get_or-le-sum_by (λ t. unsigned_abs t.0) c.self.inside.terms.items c.args.at (pos 0, []) here in
    let den : c.self.inside.den ≡ 1 = ap (λ s. s.den) c.self.view_is ∙ c.requires.whole in
    rw den (
      record {
        ordered = set_terms _ c.self.inside.terms.items c.args.at total key here same nonzero (omega (arith, edit, size, size', bound, room)) c.self.invariant.0.ordered;
        lowest = lowest_one _;
      },
      omega (arith, edit, size, size', value, value', below, c.self.invariant.1),
    )

pub returns-then-sum-eq0-clause-adds : goal.returns-then-sum-eq0-clause-adds
returns-then-sum-eq0-clause-adds c =
    let terms : c.args.self.now.terms ≡ c.self.inside.terms.items = ap (λ s. s.terms) (sym c.self.view_is) in
    let here : c.args.at < length c.self.inside.terms.items = rw (← terms) c.requires.in_range in
    let room : norm_of c.self.inside.terms.items + unsigned_abs c.args.num < 2 ^ 127 = rw (← terms) c.requires.room in
    let read : term_at c.self.inside.terms.items c.args.at ≡ c.index.result.now = get_or_default c.self.inside.terms.items c.args.at (pos 0, []) c.index.result.now here ∙ sym c.index.ensures in
    let size : unsigned_abs (term_at c.self.inside.terms.items c.args.at).0 ≡ unsigned_abs c.index.result.now.0 = ap (λ t. unsigned_abs t.0) read in
    let some : unsigned_abs c.index.result.now.0 + unsigned_abs c.args.num < 2 ^ 127 = omega (arith, room, size, get_or-le-sum_by (λ t. unsigned_abs t.0) c.self.inside.terms.items c.args.at (pos 0, []) here) in
    let fits : SFits w128 c.index.result.now.0 = fits_abs _ (omega arith) in
    let sum : to_z w128 (of_z w128 (to_z w128 (of_z w128 c.index.result.now.0) +ℤ to_z w128 (of_z w128 c.args.num))) ≡ c.index.result.now.0 +ℤ c.args.num = sum_is _ _ fits c.ranges.num some in
    let none : pos 0 ≡ (term_at c.self.inside.terms.items c.args.at).0 +ℤ c.args.num = ap (to_z w128) (sym c.if-sum-eq0.true) ∙ sum ∙ ap (λ t. t.0 +ℤ c.args.num) (sym read) in
    rw (c.remove_term.ensures, terms) (record { weighs = λ g. weighed-remove g _ c.args.at c.args.num _ here refl none; keys = keys-remove c.self.inside.terms.items c.args.at _ here })

pub returns-else-sum-eq0-clause-adds : goal.returns-else-sum-eq0-clause-adds
returns-else-sum-eq0-clause-adds c =
    let terms : c.args.self.now.terms ≡ c.self.inside.terms.items = ap (λ s. s.terms) (sym c.self.view_is) in
    let here : c.args.at < length c.self.inside.terms.items = rw (← terms) c.requires.in_range in
    let room : norm_of c.self.inside.terms.items + unsigned_abs c.args.num < 2 ^ 127 = rw (← terms) c.requires.room in
    let read : term_at c.self.inside.terms.items c.args.at ≡ c.index.result.now = get_or_default c.self.inside.terms.items c.args.at (pos 0, []) c.index.result.now here ∙ sym c.index.ensures in
    let size : unsigned_abs (term_at c.self.inside.terms.items c.args.at).0 ≡ unsigned_abs c.index.result.now.0 = ap (λ t. unsigned_abs t.0) read in
    let some : unsigned_abs c.index.result.now.0 + unsigned_abs c.args.num < 2 ^ 127 = omega (arith, room, size, get_or-le-sum_by (λ t. unsigned_abs t.0) c.self.inside.terms.items c.args.at (pos 0, []) here) in
    let fits : SFits w128 c.index.result.now.0 = fits_abs _ (omega arith) in
    let total = to_z w128 (of_z w128 (to_z w128 (of_z w128 c.index.result.now.0) +ℤ to_z w128 (of_z w128 c.args.num))) in
    let sum : total ≡ c.index.result.now.0 +ℤ c.args.num = sum_is _ _ fits c.ranges.num some in
    let key = c.index_mut-term.result.now.1 in
    let same : (term_at c.self.inside.terms.items c.args.at).1 ≡ key = ap (λ t. t.1) (get_or_default c.self.inside.terms.items c.args.at (pos 0, []) c.index_mut-term.result.now here ∙ sym c.index_mut-term.ensures.value) in
    let adds : total ≡ (term_at c.self.inside.terms.items c.args.at).0 +ℤ c.args.num = sum ∙ ap (λ t. t.0 +ℤ c.args.num) (sym read) in
    let key' : (term_at c.args.self.now.terms c.args.at).1 ≡ key = ap (λ l. (term_at l c.args.at).1) terms ∙ same in
    rw (key', terms) (record { weighs = λ g. weighed-set g c.self.inside.terms.items c.args.at c.args.num total key here same adds; keys = keys-set c.self.inside.terms.items c.args.at total key here same })
