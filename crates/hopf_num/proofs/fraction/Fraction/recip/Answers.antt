use Rattle.std.proofs.Common.{◌≡◌, ◌≢◌, pos, unsigned_abs, ap, subst, sym, ◌∙◌, to_z}
use Rattle.std.specs.Int.{w128}
use Rattle.std.proofs.lemmas.Int.{to_z-of_z, to_z_pos, fits_signed_from_abs}
use Rattle.hopf_num.proofs.LowestTerms.{abs-neg, IsFraction-turned}
use Rattle.hopf_num.proofs.fraction.Fraction.recip.Goals.{then-self-lt0, else-self-lt0}
use Rattle.hopf_num.proofs.fraction.Fraction.recip.Goals as goal

pub invariant_of-result : goal.invariant_of-result
invariant_of-result c =
    let den = to_z_pos w128 c.self.inside.den c.self.invariant.den_small in
    let num = to_z-of_z w128 c.self.inside.num (fits_signed_from_abs w128 c.self.inside.num c.self.invariant.num_small) in
    let size : unsigned_abs (to_z w128 c.if-self-lt0.result-bits) ≡ c.self.inside.den =
    elim c.if-self-lt0.branch [
      | then-self-lt0 w ↦
          ap unsigned_abs (w.result-is ∙ to_z-of_z w128 w.negation.result (record { sfits = w.negation.type_inv }) ∙ w.negation.ensures)
          ∙ rw den (abs-neg c.self.inside.den)
      | else-self-lt0 w ↦ ap unsigned_abs (w.result-is ∙ den)
    ] in
    IsFraction-turned _ (to_z w128 c.if-self-lt0.result-bits) c.unsigned_abs.result c.self.invariant
    (subst (λ r. r.num ≢ pos 0) (sym c.self.view_is) c.requires) size (c.unsigned_abs.ensures.value ∙ ap unsigned_abs num)
