-- The product of two elements of a basis of words, at a word.
use Rattle.std.proofs.Common.{◌≡◌, ℕ, ◌*◌, Bool, true, false, List, [], ◌∷◌, map, length, take, drop, refl, sym, ◌∙◌, ap, subst, arith}
use Rattle.std.proofs.Math.IntN.{ℤ, pos, ◌*ℤ◌}
use Rattle.std.proofs.lemmas.Int.{ints}
use Rattle.std.specs.List.{flat_map}
use Rattle.basis_names.specs.declared.bases.BasisId.{BasisId}
use Rattle.realisations.specs.Bases.{kind_of}
use Rattle.realisations.specs.Combinations.{weighed}
use Rattle.realisations.specs.Lists.{one_if, int_sum}
use Rattle.realisations.specs.Occurrence.{occurs}
use Rattle.realisations.specs.Points.{word, IsPoint}
use Rattle.realisations.specs.Readings.{Terms, leaf, product, element, numerator, all_cuts, occurrence}
use Rattle.realisations.specs.Words.{word_cuts}
use Rattle.realisations.proofs.Sums.{sums}
use Rattle.product_laws.specs.Products.{IsProduct, terms_of_codes}
use Rattle.product_laws.proofs.OneCut.{one_cut}

-- how many of the listed elements occur at a word
abbrev pub occurrences : BasisId → List (List ℕ) → List ℕ → ℕ
occurrences basis codes p = sums (λ code. one_if (occurs basis code p)) codes

-- one element at one point
pub element_at : (basis : BasisId) (code p : List ℕ) → numerator (element basis code) (p ∷ []) ≡ pos (one_if (occurs basis code p))
element_at basis code p = ap pos (omega arith)

-- a list of elements
pub codes_at : (basis : BasisId) (codes : List (List ℕ)) (p : List ℕ)
    → int_sum (map (λ code. pos (occurrence (basis ∷ []) (code ∷ []) (p ∷ []))) codes) ≡ pos (occurrences basis codes p)
codes_at basis [] p = refl
codes_at basis (code ∷ codes) p = omega (arith, ints, codes_at basis codes p)

-- a sum of elements at a word is the number of those that occur there
pub terms_of_codes_at : (basis : BasisId) (codes : List (List ℕ)) (p : List ℕ) → numerator (leaf (basis ∷ []) 1 (terms_of_codes codes)) (p ∷ []) ≡ pos (occurrences basis codes p)
terms_of_codes_at basis [] p = refl
terms_of_codes_at basis (code ∷ codes) p = omega (arith, ints, terms_of_codes_at basis codes p)

-- the sum over the cuts of a word
abbrev pub cut_sum : BasisId → List ℕ → List ℕ → List ℕ → ℕ
cut_sum basis s t p = sums (λ (c : List ℕ × List ℕ). one_if (occurs basis s c.0) * one_if (occurs basis t c.1)) (word_cuts p)

-- a product of two elements over a list of cuts
pub over_pairs : (basis : BasisId) (s t : List ℕ) (cs : List (List ℕ × List ℕ)) →
    int_sum (map (λ (c : List (List ℕ) × List (List ℕ)). numerator (element basis s) c.0 *ℤ numerator (element basis t) c.1) (flat_map (λ (c : List ℕ × List ℕ). map (λ (d : List (List ℕ) × List (List ℕ)). (c.0 ∷ d.0, c.1 ∷ d.1)) (all_cuts [] [])) cs))
    ≡ pos (sums (λ (c : List ℕ × List ℕ). one_if (occurs basis s c.0) * one_if (occurs basis t c.1)) cs)
over_pairs basis s t [] = refl
over_pairs basis s t (c ∷ cs) =
    let head : numerator (element basis s) (c.0 ∷ []) *ℤ numerator (element basis t) (c.1 ∷ []) ≡ pos (one_if (occurs basis s c.0) * one_if (occurs basis t c.1)) =
    ap (λ z. z *ℤ numerator (element basis t) (c.1 ∷ [])) (element_at basis s c.0) ∙ ap (λ z. pos (one_if (occurs basis s c.0)) *ℤ z) (element_at basis t c.1) in
    omega (arith, ints, head, over_pairs basis s t cs)

-- a product of two elements at a word
pub product_at : (basis : BasisId) (s t p : List ℕ) → kind_of basis ≡ word → numerator (product (element basis s) (element basis t)) (p ∷ []) ≡ pos (cut_sum basis s t p)
product_at basis s t p is_word = rw is_word (over_pairs basis s t (word_cuts p))

-- the element of a code occurs at words of m letters alone
abbrev pub OccursAtLength : BasisId → List ℕ → ℕ → Type 0
OccursAtLength basis code m = (p : List ℕ) → occurs basis code p ≡ true → length p ≡ m

-- where the first factor occurs at words of m letters alone, the product of two elements is read at the first m letters and at the rest
pub cut_sum_at : (basis : BasisId) (s t : List ℕ) (m : ℕ) → OccursAtLength basis s m
    → (p : List ℕ) → cut_sum basis s t p ≡ one_if (occurs basis s (take m p)) * one_if (occurs basis t (drop m p))
cut_sum_at basis s t m at_length p = one_cut m (λ u v. one_if (occurs basis s u) * one_if (occurs basis t v)) none p
  where
    none : (u v : List ℕ) → (length u ≡ m → ⊥) → one_if (occurs basis s u) * one_if (occurs basis t v) ≡ 0
    none u v other = by_test (occurs basis s u) refl
      where
        by_test : (b : Bool) → occurs basis s u ≡ b → one_if b * one_if (occurs basis t v) ≡ 0
        by_test false e = omega arith
        by_test true e = absurd (other (at_length u e))

-- the elements that occur at each word as often as the factors do at its first m letters and at the rest sum to the product
pub reads_as_product : (basis : BasisId) (codes : List (List ℕ)) (s t : List ℕ) (m : ℕ) → kind_of basis ≡ word → OccursAtLength basis s m
    → ((p : List ℕ) → IsPoint word p → occurrences basis codes p ≡ one_if (occurs basis s (take m p)) * one_if (occurs basis t (drop m p)))
    → IsProduct basis s t codes
reads_as_product basis codes s t m is_word at_length counts p point =
    ap (λ z. z *ℤ pos 1)
    (terms_of_codes_at basis codes p
    ∙ ap pos (counts p (subst (λ kind. IsPoint kind p) is_word point) ∙ sym (cut_sum_at basis s t m at_length p))
    ∙ sym (product_at basis s t p is_word))

-- terms that weigh as a list of elements read as their sum
pub terms_read : (basis : BasisId) (codes : List (List ℕ)) (new : Terms)
    → ((weight : List (List ℕ) → ℤ) → weighed weight new ≡ int_sum (map (λ code. weight (code ∷ [])) codes))
    → (p : List ℕ) → numerator (leaf (basis ∷ []) 1 new) (p ∷ []) ≡ numerator (leaf (basis ∷ []) 1 (terms_of_codes codes)) (p ∷ [])
terms_read basis codes new weighs p =
    weighs (λ key. pos (occurrence (basis ∷ []) key (p ∷ []))) ∙ codes_at basis codes p ∙ sym (terms_of_codes_at basis codes p)
