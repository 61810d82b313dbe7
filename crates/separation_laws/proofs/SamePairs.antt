-- Readings that agree at all points have the same separating pairs.
use Rattle.std.proofs.Common.{◌≡◌, ℕ, ◌<◌, length, insert, remove, sym, ◌∙◌, ap, subst}
use Rattle.std.specs.Prelude.{IsTrue}
use Rattle.std.proofs.Math.IntN.{pos, ◌*ℤ◌}
use Rattle.std.proofs.Common.{◌≡◌, ℕ, ◌<◌, length, insert, sym, ◌∙◌, ap}
use Rattle.std.proofs.Math.IntN.{pos, ◌*ℤ◌}
use Rattle.basis_names.specs.declared.bases.AlgebraId.{AlgebraId}
use Rattle.hopf_num.proofs.Ring.{*ℤ-pos_cancel}
use Rattle.realisations.specs.IndexKinds.{is_packed}
use Rattle.realisations.specs.Points.{ArePoints, Point, Points}
use Rattle.realisations.specs.Readings.{Reading, denominator, kinds_of, numerator}
use Rattle.separation_laws.specs.Laws.{AgreeEverywhere, SamePairLaw}
use Rattle.separation_laws.specs.Separation.{AreOthers, IsPartner, ReadDifferently}
use Rattle.separation_laws.proofs.ClassBases.{packed_point}
use Rattle.separation_laws.proofs.Components.{points-insert}

-- Readings that agree at all points have the same separating pairs; and a leaf over a coarser basis has none.

-- the other way round
pub agree_turned : (a b : Reading) → AgreeEverywhere a b → AgreeEverywhere b a
agree_turned a b h = record { kinds = sym h.kinds; positive = h.positive_other; positive_other = h.positive; agree = λ ps points. sym (h.agree ps (subst (λ kinds. ArePoints kinds ps) (sym h.kinds) points)) }

-- numerators that are the same over one reading are the same over the other
numerators_same : (a b : Reading) (ps ps' : Points) → AgreeEverywhere a b → ArePoints (kinds_of a) ps → ArePoints (kinds_of a) ps'
    → numerator a ps ≡ numerator a ps' → numerator b ps ≡ numerator b ps'
numerators_same a b ps ps' h points points' same =
    *ℤ-pos_cancel (numerator b ps) (numerator b ps') (denominator a) h.positive
    (sym (h.agree ps points) ∙ ap (λ z. z *ℤ pos (denominator b)) same ∙ h.agree ps' points')

module _ (a b : Reading) (h : AgreeEverywhere a b) (n : ℕ) (lt : n < length (kinds_of b)) where
  -- packed words that read differently in one read differently in the other
  pub differently_agrees : (u v : Point) → IsTrue (is_packed u) → IsTrue (is_packed v) → ReadDifferently a n u v → ReadDifferently b n u v
  differently_agrees u v pu pv (qs, others, differ) =
      let others' : AreOthers b n qs = subst (λ kinds. ArePoints (remove kinds n) qs) h.kinds others in
      let at = λ (w : Point) (packed : IsTrue (is_packed w)). points-insert n (kinds_of b) qs w lt others' (packed_point w packed) in
      (qs, others', λ same. differ (numerators_same b a (insert qs n u) (insert qs n v) (agree_turned a b h) (at u pu) (at v pv) same))

  -- so packed words have the same partners
  pub partner_agrees : (target : AlgebraId) (u v : Point) → IsTrue (is_packed u) → IsPartner a n target u v → IsPartner b n target u v
  partner_agrees target u v packed is = record { packed = is.packed; same_class = is.same_class; differs = differently_agrees u v packed is.packed is.differs }

-- the separating pair is the same
pub pair_agrees : SamePairLaw
pair_agrees a b h n lt target u v pair =
    let lt' : n < length (kinds_of b) = subst (λ kinds. n < length kinds) h.kinds lt in
    let back = agree_turned a b h in
    record {
      packed = pair.packed;
      partner = partner_agrees a b h n lt' target u v pair.packed pair.partner;
      first = λ w w' packed before partner. pair.first w w' packed before (partner_agrees b a back n lt target w w' packed partner);
      first_partner = λ w before partner. pair.first_partner w before (partner_agrees b a back n lt target u w pair.packed partner);
    }
