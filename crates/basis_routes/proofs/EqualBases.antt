-- Equality of bases is decided: each is known by its number in their list.
use Rattle.std.proofs.Common.{◌≡◌, ◌≢◌, ◌⊎◌, ℕ, get_or, inl, inr, refl, sym, ◌∙◌, ap}
use Rattle.std.proofs.lemmas.Bool.{cases_eq}
use Rattle.basis_names.specs.declared.bases.BasisId.{BasisId}
use Rattle.basis_names.specs.declared.bases.BasisId.TheVariants.{QsymM, QsymF, NcsfS, NcsfL, NcsfR, FqsymF, FqsymG, WqsymM, FsymS, PbtP}
use Rattle.basis_names.specs.Bases.{bases}

number_of : BasisId → ℕ
number_of QsymM = 0
number_of QsymF = 1
number_of NcsfS = 2
number_of NcsfL = 3
number_of NcsfR = 4
number_of FqsymF = 5
number_of FqsymG = 6
number_of WqsymM = 7
number_of FsymS = 8
number_of PbtP = 9

numbered : (basis : BasisId) → get_or bases (number_of basis) QsymM ≡ basis
unfolding number_of
numbered QsymM = refl
numbered QsymF = refl
numbered NcsfS = refl
numbered NcsfL = refl
numbered NcsfR = refl
numbered FqsymF = refl
numbered FqsymG = refl
numbered WqsymM = refl
numbered FsymS = refl
numbered PbtP = refl

-- two bases are the same or not
pub same_basis_decided : (x y : BasisId) → (x ≡ y) ⊎ (x ≢ y)
same_basis_decided x y = elim (cases_eq (number_of x) (number_of y)) [
  | inl same ↦ inl (sym (numbered x) ∙ ap (λ n. get_or bases n QsymM) same ∙ numbered y)
  | inr other ↦ inr (λ same. other (ap number_of same))
]
