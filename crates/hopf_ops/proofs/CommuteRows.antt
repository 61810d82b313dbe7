-- The row of a commuting image allows exactly one answer, whose value reads as the image.
use Rattle.std.proofs.Common.{◌≡◌, ℕ, ◌<◌, [], ◌∷◌, length, get_or, Ok, inl, inr, refl, sym, ◌∙◌, subst}
use Rattle.basis_names.specs.declared.bases.BasisId.TheVariants.{QsymM}
use Rattle.realisations.specs.Readings.{applied, commute}
use Rattle.hopf_laws.specs.Values.{Expansion, IsValue, Expands, reading_of}
use Rattle.basis_routes.specs.Conversions.{linear_checks}
use Rattle.basis_routes.specs.Lists.{replaced}
use Rattle.basis_routes.specs.Places.{position_of, component_checks}
use Rattle.basis_routes.specs.Rows.{Answer, Answers, Checked, Decides}
use Rattle.basis_routes.proofs.ComponentsExist.{image_exists, kinds-commuted}
use Rattle.basis_routes.proofs.ConversionRows.{component_checks_are, component_within}
use Rattle.basis_routes.proofs.ConversionsExist.{linear_checks_are}
use Rattle.basis_routes.proofs.DecidedRows.{checked_decide, checked_answers_decide}
use Rattle.basis_routes.proofs.EqualBases.{same_basis_decided}
use Rattle.basis_routes.proofs.ImagesOfMonomials.{image_of_monomial}
use Rattle.basis_routes.proofs.OnceRows.{IsOnce}
use Rattle.basis_routes.proofs.ValueRows.{same_value}
use Rattle.hopf_ops.specs.Laws.{CommuteLaw}
use Rattle.hopf_ops.specs.Operations.{CommuteAt}
use Rattle.hopf_ops.proofs.ConvertedOperands.{den-positive}

module _ (n : ℕ) (a : Expansion) (lt : n < length a.bases) (ha : IsValue a) where
  -- where it is not over QSym.M
  image_decides : Decides (Checked (linear_checks a) (Answers (replaced n (QsymM ∷ []) a.bases) (applied commute n (reading_of a)))) (replaced n (QsymM ∷ []) a.bases) (applied commute n (reading_of a))
  image_decides =
      checked_answers_decide (linear_checks a) (replaced n (QsymM ∷ []) a.bases) (applied commute n (reading_of a)) (linear_checks_are a ha)
      (λ pass. record { positive = den-positive a ha; exists = image_exists n a lt ha pass; kinds = kinds-commuted n a.bases lt })

  commute_once : IsOnce (CommuteAt n a)
  commute_once r s (inl (same, is)) (inl (same', is')) = is ∙ sym is'
  commute_once r s (inl (same, is)) (inr (other, row)) = absurd (other same)
  commute_once r s (inr (other, row)) (inl (same, is)) = absurd (other same)
  commute_once r s (inr (other, row)) (inr (other', row')) = image_decides.once r s row row'

  commute_some : (answer : Answer) × CommuteAt n a answer
  commute_some = elim (same_basis_decided (get_or a.bases n QsymM) QsymM) [
    | inl same ↦ (Ok a, inl (same, refl))
    | inr other ↦ (image_decides.some.0, inr (other, image_decides.some.1))
  ]

  commute_reads : (v : Expansion) → CommuteAt n a (Ok v) → Expands (replaced n (QsymM ∷ []) a.bases) (applied commute n (reading_of a)) v
  commute_reads v (inl (same, is)) =
      subst (Expands (replaced n (QsymM ∷ []) a.bases) (applied commute n (reading_of a))) (sym (same_value v a is)) (image_of_monomial n a lt same ha)
  commute_reads v (inr (other, row)) = image_decides.reads v row

  commute_decides : Decides (CommuteAt n a) (replaced n (QsymM ∷ []) a.bases) (applied commute n (reading_of a))
  commute_decides = record { once = commute_once; some = commute_some; reads = commute_reads; kinds = λ v h. kinds-commuted n a.bases lt }

pub commutes_decide : CommuteLaw
commutes_decide at a ha =
    checked_decide (component_checks at (length a.bases)) (CommuteAt (position_of at) a) (replaced (position_of at) (QsymM ∷ []) a.bases) (applied commute (position_of at) (reading_of a))
    (component_checks_are at (length a.bases)) (λ pass. commute_decides (position_of at) a (component_within at (length a.bases) pass) ha)
