-- Coproduct rules on a component of a key, counted from 0.
use Rattle.std.specs.Prelude.{◌≡◌, ℕ, zero, suc, ◌<◌, pos, ◌*ℤ◌, if◌then◌else◌, List, [], ◌∷◌, ◌++◌, map, length, slice_index_or}
use Rattle.realisations.specs.Codes.{Code, Key}
use Rattle.realisations.specs.Lists.{one_if, same_list}
use Rattle.realisations.specs.Indices.{AreIndices}
use Rattle.basis_names.specs.declared.bases.BasisId.{BasisId}
use Rattle.realisations.specs.Points.{ArePoints, Point, Points}
use Rattle.realisations.specs.Bases.{kind_of}
use Rattle.realisations.specs.Occurrence.{occurs}
use Rattle.realisations.specs.Readings.{leaf, applied, coproduct, of_key, AgreeAt, Terms, Operation, counit, mult, product, element, numerator}
use Rattle.coproduct_laws.specs.Coproducts.{IsCoproduct}

-- the bases once the component was doubled
abbrev pub doubled_at : ℕ → List BasisId → List BasisId
doubled_at n [] = []
doubled_at zero (basis ∷ bases) = basis ∷ basis ∷ bases
doubled_at (suc n) (basis ∷ bases) = basis ∷ doubled_at n bases

-- the key with a pair in place of the component
abbrev pub with_pair_at : ℕ → Code × Code → Key → Key
with_pair_at n e [] = []
with_pair_at zero e (code ∷ key) = e.0 ∷ e.1 ∷ key
with_pair_at (suc n) e (code ∷ key) = code ∷ with_pair_at n e key

-- the pairs are the coproduct of the component of the key
abbrev pub IsCoproductAt : ℕ → List BasisId → Key → List (Code × Code) → Type 0
IsCoproductAt zero (basis ∷ bases) (code ∷ key) pairs = IsCoproduct basis code pairs
IsCoproductAt (suc n) (basis ∷ bases) (code ∷ key) pairs = IsCoproductAt n bases key pairs
IsCoproductAt n _ _ pairs = ⊥

-- the key with each pair in place of the component reads as the coproduct of the component, at all points
abbrev pub ComponentLaw : Type 0
ComponentLaw = (n : ℕ) (bases : List BasisId) (key : Key) (pairs : List (Code × Code)) → IsCoproductAt n bases key pairs →
    (ps : Points) → ArePoints (map kind_of (doubled_at n bases)) ps →
    AgreeAt (leaf (doubled_at n bases) 1 (map (λ e. (pos 1, with_pair_at n e key)) pairs)) (applied coproduct n (of_key bases key)) ps

-- a list without the element at a place, counted from 0
abbrev pub without_at : {X : Type 0} → ℕ → List X → List X
without_at n [] = []
without_at zero (x ∷ xs) = xs
without_at (suc n) (x ∷ xs) = x ∷ without_at n xs

-- the terms of the counit of a component: the key without the component where that is the empty index, and else none
abbrev pub counit_terms_at : ℕ → Key → Terms
counit_terms_at n key = if same_list (slice_index_or key n []) [] then (pos 1, without_at n key) ∷ [] else []

-- they read as the counit of the component, at all points
abbrev pub ComponentCounitLaw : Type 0
ComponentCounitLaw = (n : ℕ) (bases : List BasisId) (key : Key) → n < length bases → AreIndices bases key →
    (ps : Points) → AgreeAt (leaf (without_at n bases) 1 (counit_terms_at n key)) (applied counit n (of_key bases key)) ps

-- the product of two neighbouring components of a key reads as the product of their elements, times what the components before and after read as
abbrev pub ComponentMultLaw : Type 0
ComponentMultLaw = (before after : List BasisId) (basis : BasisId) (front back : Key) (a b : Code) (ps rs : Points) (p : Point) → length front ≡ length before → length ps ≡ length before →
    numerator (applied mult (length before) (of_key (before ++ basis ∷ basis ∷ after) (front ++ a ∷ b ∷ back))) (ps ++ p ∷ rs)
    ≡ (numerator (of_key before front) ps *ℤ numerator (product (element basis a) (element basis b)) (p ∷ [])) *ℤ numerator (of_key after back) rs

-- an operation on a later component multiplies by the occurrence of the first
abbrev pub LaterComponentLaw : Type 0
LaterComponentLaw = (operation : Operation) (n : ℕ) (basis : BasisId) (bases : List BasisId) (code : Code) (key : Key) (p : Point) (ps : Points) →
    numerator (applied operation (suc n) (of_key (basis ∷ bases) (code ∷ key))) (p ∷ ps) ≡ pos (one_if (occurs basis code p)) *ℤ numerator (applied operation n (of_key bases key)) ps
