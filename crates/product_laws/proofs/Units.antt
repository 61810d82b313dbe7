-- The element of the empty index is the unit of the product.
use Rattle.std.proofs.Common.{◌≡◌, ℕ, ◌+◌, ◌*◌, ◌<◌, Bool, true, false, List, [], ◌∷◌, length, take, drop, refl, sym, ◌∙◌, ap, arith, inl, inr}
use Rattle.std.proofs.lemmas.Bool.{cases_lt}
use Rattle.std.proofs.lemmas.List.{take_all, drop_all, length-drop}
use Rattle.basis_names.specs.declared.bases.BasisId.{BasisId}
use Rattle.realisations.specs.Bases.{kind_of}
use Rattle.realisations.specs.Lists.{same_list, one_if}
use Rattle.realisations.specs.Occurrence.{occurs}
use Rattle.realisations.specs.Points.{word}
use Rattle.basis_representatives.proofs.SameLists.{same_list-true}
use Rattle.product_laws.specs.Products.{IsProduct}
use Rattle.product_laws.proofs.ElementProducts.{OccursAtLength, reads_as_product}

-- the element of the empty code occurs at the empty word alone
abbrev pub OccursAtNone : BasisId → Type 0
OccursAtNone basis = (p : List ℕ) → occurs basis [] p ≡ same_list p []

-- the unit on the left
pub left_unit : (basis : BasisId) (t : List ℕ) → kind_of basis ≡ word → OccursAtNone basis → IsProduct basis [] t (t ∷ [])
left_unit basis t is_word none =
    reads_as_product basis (t ∷ []) [] t 0 is_word
    (λ p e. ap length (same_list-true p [] (sym (none p) ∙ e)))
    (λ p point. omega (arith, ap one_if (none []), ap (λ m. m * one_if (occurs basis t p)) (ap one_if (none []))))

-- the unit on the right
pub right_unit : (basis : BasisId) (s : List ℕ) (m : ℕ) → kind_of basis ≡ word → OccursAtLength basis s m → OccursAtNone basis → IsProduct basis s [] (s ∷ [])
right_unit basis s m is_word at_length none = reads_as_product basis (s ∷ []) s [] m is_word at_length (λ p point. counts p)
  where
    none_past : (v : List ℕ) → 0 < length v → same_list v [] ≡ false
    none_past [] h = absurd (omega arith)
    none_past (x ∷ v) h = refl

    none_unless : (p : List ℕ) → m < length p → (b : Bool) → occurs basis s p ≡ b → b ≡ false
    none_unless p longer false e = refl
    none_unless p longer true e = absurd (omega (arith, at_length p e))

    counts : (p : List ℕ) → one_if (occurs basis s p) + 0 ≡ one_if (occurs basis s (take m p)) * one_if (occurs basis [] (drop m p))
    counts p = elim (cases_lt m (length p)) [
      | inl longer ↦
          let rest : one_if (occurs basis [] (drop m p)) ≡ 0 = ap one_if (none (drop m p) ∙ none_past (drop m p) (omega (arith, length-drop m p))) in
          let no : one_if (occurs basis s p) ≡ 0 = ap one_if (none_unless p longer (occurs basis s p) refl) in
          rw (rest, no) (omega arith)
      | inr short ↦
          let rest : one_if (occurs basis [] (drop m p)) ≡ 1 = ap (λ v. one_if (occurs basis [] v)) (drop_all m p short) ∙ ap one_if (none []) in
          rw (rest, take_all m p short) (omega arith)
    ]
