-- The norms of combinations over a class basis of words whose readings are small.
use Rattle.std.proofs.Common.{◌≡◌, ℕ, ◌*◌, ◌^◌, ◌<◌, ◌≤◌, Bool, true, false, [], ◌∷◌, length, refl, sym, ◌∙◌, ap, subst, arith, unsigned_abs}
use Rattle.std.proofs.Math.IntN.{ℤ, pos}
use Rattle.std.proofs.Math.Nat.{mul-le-mul_left}
use Rattle.std.proofs.lemmas.List.{length-map}
use Rattle.basis_names.specs.declared.bases.BasisId.{BasisId}
use Rattle.antipode_laws.specs.Recursion.{first_code}
use Rattle.antipode_laws.proofs.WeighedKeys.{weighed_same_keys}
use Rattle.antipodes.proofs.Coefficients.{numerator_is, norm_at_most, counts_same, codes_of, codes_once, every_code}
use Rattle.antipodes.proofs.SubtractedParts.{one_code_of, one_degree}
use Rattle.inclusion_laws.proofs.ListedIndices.{IsOfLetters}
use Rattle.product_laws.proofs.DistinctWords.{AreUpTo, few_distinct}
use Rattle.realisations.specs.Bases.{representative}
use Rattle.realisations.specs.Codes.{Code, Key}
use Rattle.realisations.specs.Combinations.{IsCanonical, HasKey, key_cmp, norm_of, term_at, weighed}
use Rattle.realisations.specs.Indices.{IsIndex, AreIndices, degree_of, total_degree}
use Rattle.realisations.specs.Lists.{same_list, one_if}
use Rattle.realisations.specs.Occurrence.{occurs}
use Rattle.realisations.specs.Points.{Point}
use Rattle.realisations.specs.Readings.{Terms, leaf, occurrence, numerator}
use Rattle.realisations.proofs.Coefficients.{counts, coefficient}
use Rattle.word_laws.specs.AddedCodes.{times_in}

one_factor : (b : Bool) → one_if b * 1 ≡ one_if b
one_factor true = refl
one_factor false = refl

module _ (basis : BasisId) (n : ℕ) (ts : Terms) (rank : ℕ) (canonical : IsCanonical rank 1 ts) (indices : (key : Key) → HasKey ts key → AreIndices (basis ∷ []) key)
    (degrees : (key : Key) → HasKey ts key → total_degree (basis ∷ []) key ≡ n) where
  -- the code at a place
  abbrev pub code_of : ℕ → Code
  code_of i = first_code (term_at ts i).1

  pub single : (i : ℕ) → i < length ts → (term_at ts i).1 ≡ code_of i ∷ []
  single i lt = (one_code_of basis (term_at ts i).1 (indices (term_at ts i).1 (i, lt, refl))).0

  pub index_at : (i : ℕ) → i < length ts → IsIndex basis (code_of i)
  index_at i lt = (one_code_of basis (term_at ts i).1 (indices (term_at ts i).1 (i, lt, refl))).1

  pub degree_here : (i : ℕ) → i < length ts → degree_of basis (code_of i) ≡ n
  degree_here i lt = one_degree basis (term_at ts i).1 (indices (term_at ts i).1 (i, lt, refl)) ∙ degrees (term_at ts i).1 (i, lt, refl)

  -- a numerator is the sum of the numerators of the terms with its code
  pub numerator_by_codes : (i : ℕ) → i < length ts → (term_at ts i).0 ≡ weighed (λ key. pos (one_if (same_list (code_of i) (first_code key)))) ts
  numerator_by_codes i lt =
      sym (numerator_is ts canonical.ordered.rising i lt)
      ∙ ap (λ key. coefficient ts key) (single i lt)
      ∙ weighed_same_keys (λ key. pos (counts (key_cmp key (code_of i ∷ [])))) (λ key. pos (one_if (same_list (code_of i) (first_code key)))) ts
      (λ key has. ap (λ k. pos (counts (key_cmp k (code_of i ∷ [])))) (one_code_of basis key (indices key has)).0 ∙ ap pos (counts_same (first_code key) (code_of i)))

  -- what is read at a point, by codes
  pub read_by_codes : (p : Point) → numerator (leaf (basis ∷ []) 1 ts) (p ∷ []) ≡ weighed (λ key. pos (one_if (occurs basis (first_code key) p))) ts
  read_by_codes p =
      weighed_same_keys (λ key. pos (occurrence (basis ∷ []) key (p ∷ []))) (λ key. pos (one_if (occurs basis (first_code key) p))) ts
      (λ key has. ap (λ k. pos (occurrence (basis ∷ []) k (p ∷ []))) (one_code_of basis key (indices key has)).0 ∙ ap pos (one_factor (occurs basis (first_code key) p)))

  -- no code is there twice
  pub once : (code : Code) → times_in code (codes_of ts) ≤ 1
  once code = codes_once ts canonical.ordered.rising single code

  -- over a class basis of words of letters up to their length, each numerator is read at the representative of its code
  pub norm_of_classes : IsOfLetters basis → (b : ℕ) → ((code : Code) → IsIndex basis code → degree_of basis code ≡ n → unsigned_abs (numerator (leaf (basis ∷ []) 1 ts) (representative basis code ∷ [])) ≤ b) → norm_of ts ≤ b * n ^ n
  norm_of_classes of b small =
      let each : (i : ℕ) → i < length ts → unsigned_abs (term_at ts i).0 ≤ b = λ i lt. omega (arith, ap unsigned_abs (at_representative i lt), small (code_of i) (index_at i lt) (degree_here i lt)) in
      let few : length (codes_of ts) ≤ n ^ n =
      few_distinct n n (codes_of ts) (every_code (λ c. AreUpTo n c × (length c ≡ n)) ts (λ i lt. subst (λ m. AreUpTo m (code_of i) × (length (code_of i) ≡ m)) (degree_here i lt) (of.letters (code_of i) (index_at i lt)))) once in
      omega (arith, norm_at_most ts b each, mul-le-mul_left b few, ap (λ k. b * k) (length-map ts (λ (t : ℤ × Key). first_code t.1)))
    where
      at_representative : (i : ℕ) → i < length ts → (term_at ts i).0 ≡ numerator (leaf (basis ∷ []) 1 ts) (representative basis (code_of i) ∷ [])
      at_representative i lt =
          numerator_by_codes i lt
          ∙ weighed_same_keys (λ key. pos (one_if (same_list (code_of i) (first_code key)))) (λ key. pos (one_if (occurs basis (first_code key) (representative basis (code_of i))))) ts
          (λ key has. ap (λ t. pos (one_if t)) (sym (of.classes (code_of i) (index_at i lt) (first_code key) (one_code_of basis key (indices key has)).1)))
          ∙ sym (read_by_codes (representative basis (code_of i)))
