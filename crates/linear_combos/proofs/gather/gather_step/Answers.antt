use Rattle.std.proofs.Common.{◌≡◌, ◌≢◌, ◌<◌, ◌+◌, sym, ◌∙◌, ap, arith, unsigned_abs, length, slice_set, refl}
use Rattle.std.proofs.Math.IntN.{pos, ◌+ℤ◌}
use mir.Syntax.{w128}
use mir.Val.{to_z, of_z}
use Rattle.std.proofs.lemmas.Int.{to_z-of_z}
use Rattle.std.proofs.lemmas.Slice.Eq.{slice_eq-Decides, bytes_eq-Decides}
use Rattle.realisations.specs.Combinations.{term_at}
use Rattle.linear_combos.specs.Gathering.{added, over, behind}
use Rattle.linear_combos.proofs.Numerals.{fits_abs}
use Rattle.linear_combos.proofs.Place.{read_term}
use Rattle.linear_combos.proofs.gather.gather_step.Goals as goal

pub returns-then-eq : goal.returns-then-eq
returns-then-eq c =
    let ts = c.args.terms.now.items in
    let before : c.args.last < length ts = omega (arith, c.requires.earlier, c.requires.in_range) in
    let here : term_at ts c.args.at ≡ c.index.result.now = read_term ts c.args.at c.index.result.now c.requires.in_range c.index.ensures in
    let there : term_at ts c.args.last ≡ c.index-2.result.now = read_term ts c.args.last c.index-2.result.now before c.index-2.ensures in
    let same : c.index-2.result.now.1 ≡ c.index.result.now.1 = (slice_eq-Decides bytes_eq-Decides _ _ c.eq.result c.eq.ensures).0 c.if-eq.true in
    let num : to_z w128 (of_z w128 c.index.result.now.0) ≡ (term_at ts c.args.at).0 =
    to_z-of_z w128 c.index.result.now.0 (fits_abs _ (omega (arith, c.requires.room, ap (λ t. unsigned_abs t.0) here))) ∙ ap (λ t. t.0) (sym here) in
    let pending : to_z w128 (of_z w128 c.index-2.result.now.0) ≡ (term_at ts c.args.last).0 =
    to_z-of_z w128 c.index-2.result.now.0 (fits_abs _ (omega (arith, c.requires.room, ap (λ t. unsigned_abs t.0) there))) ∙ ap (λ t. t.0) (sym there) in
    let sum : to_z w128 (of_z w128 c.total.result) ≡ (term_at ts c.args.last).0 +ℤ (term_at ts c.args.at).0 =
    to_z-of_z w128 c.total.result (record { sfits = c.total.type_inv }) ∙ c.total.ensures ∙ (λ i. pending i +ℤ num i) in
    added (ap (λ t. t.1) there ∙ same ∙ ap (λ t. t.1) (sym here)) (ap (slice_set ts c.args.last) (λ i. (sum i, sym (ap (λ t. t.1) here) i))) refl

pub returns-then-pending-eq0 : goal.returns-then-pending-eq0
returns-then-pending-eq0 c =
    let ts = c.args.terms.now.items in
    let before : c.args.last < length ts = omega (arith, c.requires.earlier, c.requires.in_range) in
    let here : term_at ts c.args.at ≡ c.index.result.now = read_term ts c.args.at c.index.result.now c.requires.in_range c.index.ensures in
    let there : term_at ts c.args.last ≡ c.index-2.result.now = read_term ts c.args.last c.index-2.result.now before c.index-2.ensures in
    let num : to_z w128 (of_z w128 c.index.result.now.0) ≡ (term_at ts c.args.at).0 =
    to_z-of_z w128 c.index.result.now.0 (fits_abs _ (omega (arith, c.requires.room, ap (λ t. unsigned_abs t.0) here))) ∙ ap (λ t. t.0) (sym here) in
    let pending : to_z w128 (of_z w128 c.index-2.result.now.0) ≡ (term_at ts c.args.last).0 =
    to_z-of_z w128 c.index-2.result.now.0 (fits_abs _ (omega (arith, c.requires.room, ap (λ t. unsigned_abs t.0) there))) ∙ ap (λ t. t.0) (sym there) in
    let other : (term_at ts c.args.last).1 ≢ (term_at ts c.args.at).1 = (λ e.
    absurd (cc (c.if-eq.false, (slice_eq-Decides bytes_eq-Decides _ _ c.eq.result c.eq.ensures).1 (ap (λ t. t.1) (sym there) ∙ e ∙ ap (λ t. t.1) here)))) in
    over other (sym pending ∙ ap (to_z w128) c.if-pending-eq0.true) (ap (slice_set ts c.args.last) (λ i. (num i, sym (ap (λ t. t.1) here) i))) refl

pub returns : goal.returns
returns c =
    let ts = c.args.terms.now.items in
    let before : c.args.last < length ts = omega (arith, c.requires.earlier, c.requires.in_range) in
    let here : term_at ts c.args.at ≡ c.index.result.now = read_term ts c.args.at c.index.result.now c.requires.in_range c.index.ensures in
    let there : term_at ts c.args.last ≡ c.index-2.result.now = read_term ts c.args.last c.index-2.result.now before c.index-2.ensures in
    let num : to_z w128 (of_z w128 c.index.result.now.0) ≡ (term_at ts c.args.at).0 =
    to_z-of_z w128 c.index.result.now.0 (fits_abs _ (omega (arith, c.requires.room, ap (λ t. unsigned_abs t.0) here))) ∙ ap (λ t. t.0) (sym here) in
    let other : (term_at ts c.args.last).1 ≢ (term_at ts c.args.at).1 = (λ e.
    absurd (cc (c.if-eq.false, (slice_eq-Decides bytes_eq-Decides _ _ c.eq.result c.eq.ensures).1 (ap (λ t. t.1) (sym there) ∙ e ∙ ap (λ t. t.1) here)))) in
    let some : (term_at ts c.args.last).0 ≢ pos 0 = (λ e. absurd (c.if-pending-eq0.false (ap (of_z w128) (ap (λ t. t.0) (sym there) ∙ e)))) in
    behind other some (ap (slice_set ts (c.args.last + 1)) (λ i. (num i, sym (ap (λ t. t.1) here) i))) refl
