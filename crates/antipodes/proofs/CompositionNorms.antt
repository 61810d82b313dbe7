-- The norms of combinations over a basis indexed by compositions whose readings are small: what the elements read at representatives is a matrix, bit by bit, that has an inverse with entries 0, 1 and -1.
use Rattle.std.proofs.Common.{◌≡◌, ℕ, ◌*◌, ◌^◌, ◌<◌, ◌≤◌, Bool, true, false, List, [], ◌∷◌, length, refl, sym, ◌∙◌, ap, subst, arith, unsigned_abs}
use Rattle.std.specs.List.{All, AllByRecursion, sum}
use Rattle.std.proofs.Math.IntN.{ℤ, pos, ◌+ℤ◌, ◌*ℤ◌}
use Rattle.std.proofs.Math.Nat.{mul-le-mul_left}
use Rattle.std.proofs.lemmas.Int.{unsigned_abs-mul}
use Rattle.std.proofs.lemmas.List.{length-map}
use Rattle.std.proofs.lemmas.List.Elements.{All-head, All-tail}
use Rattle.basis_names.specs.declared.bases.BasisId.{BasisId}
use Rattle.basis_names.specs.declared.bases.BasisId.TheVariants.{QsymM, QsymF, NcsfS, NcsfL, NcsfR}
use Rattle.antipode_laws.specs.Recursion.{first_code}
use Rattle.antipode_laws.proofs.IntegerSums.{sum_over, sum_over_same, sum_over-swap, times-sum_over}
use Rattle.antipode_laws.proofs.WeighedKeys.{weighed_same_keys}
use Rattle.antipodes.proofs.BoundedSums.{sums_le_every, sums_constant, abs-sum_over}
use Rattle.antipodes.proofs.ClassNorms.{code_of, numerator_by_codes, read_by_codes, once}
use Rattle.antipodes.proofs.Coefficients.{norm_at_most, codes_of, every_code, few_of_list}
use Rattle.antipodes.proofs.SubtractedParts.{one_code_of, one_degree, weighed-times_right}
use Rattle.basis_representatives.proofs.AllRepresentatives.{class_laws}
use Rattle.basis_representatives.proofs.BasesOfCompositions.{fundamental_at-representative, complete_at-representative, elementary_at-representative}
use Rattle.basis_representatives.proofs.Bits.{composition_of, bits_of}
use Rattle.basis_representatives.proofs.DescentBits.{sum-composition_of, bits_of-composition_of}
use Rattle.basis_representatives.proofs.Places.{within}
use Rattle.basis_representatives.proofs.Refinement.{by_bits}
use Rattle.basis_representatives.proofs.SameLists.{same_list-sym}
use Rattle.change_laws.proofs.BitMatrices.{Matrix, matrix_of, all_bits, entries, entries-matrix_of, Multiplies, entries-multiply}
use Rattle.change_laws.proofs.BitTests.{IsBitTest, same_class, finer_class, same_class-bits, finer_class-bits, coarser_class-bits}
use Rattle.change_laws.proofs.CompositionsByBits.{alike, same_list-composition_of, every_composition, every_composition_once, few_compositions}
use Rattle.change_laws.proofs.IntSums as change
use Rattle.change_laws.proofs.PassingSums.{IsCompositionOf, each_composition}
use Rattle.change_laws.proofs.SignedEntries.{mobius}
use Rattle.product_laws.proofs.DistinctWords.{times_in-turned}
use Rattle.realisations.specs.Bases.{representative}
use Rattle.realisations.specs.Codes.{Code, Key}
use Rattle.realisations.specs.Combinations.{IsCanonical, HasKey, norm_of, term_at, weighed}
use Rattle.realisations.specs.Descents.{is_finer}
use Rattle.realisations.specs.IndexKinds.{IsComposition}
use Rattle.realisations.specs.Indices.{IsIndex, AreIndices, degree_of, total_degree}
use Rattle.realisations.specs.Lists.{same_list, one_if}
use Rattle.realisations.specs.Occurrence.{occurs}
use Rattle.realisations.specs.Readings.{Terms, leaf, numerator}
use Rattle.realisations.proofs.Sums.{sums}
use Rattle.word_laws.specs.AddedCodes.{times_in}

-- the elements occur at representatives by a test of the bits, whose matrix has an inverse with small entries
pub record HasInverse (basis : BasisId) : Type 0 where
  pub composition : (code : Code) → IsIndex basis code → IsComposition code
  pub index : (code : Code) → IsComposition code → IsIndex basis code
  pub degree : (code : Code) → degree_of basis code ≡ sum code
  pub related : Code → Code → Bool
  pub test : Bool → Bool → Bool
  pub bits : IsBitTest related test
  pub occurs_at : (code index : Code) → IsComposition code → IsComposition index → occurs basis code (representative basis index) ≡ related code index
  pub inverse : Matrix
  pub multiplies : Multiplies (matrix_of test) inverse (matrix_of alike)
  pub small : (x y : Bool) → unsigned_abs (inverse x y) ≤ 1

-- the entries of the tensor powers are small too
small_entries : (f : Matrix) → ((x y : Bool) → unsigned_abs (f x y) ≤ 1) → (a b : List Bool) → unsigned_abs (entries f a b) ≤ 1
small_entries f small [] [] = omega arith
small_entries f small [] (y ∷ b) = omega arith
small_entries f small (x ∷ a) [] = omega arith
small_entries f small (x ∷ a) (y ∷ b) =
    omega (arith, unsigned_abs-mul (f x y) (entries f a b), mul-le-mul_left (unsigned_abs (f x y)) (small_entries f small a b), small x y)

-- the two forms of what each element has
each_of : {X : Type 0} (P : X → Type 0) (xs : List X) → All P xs → AllByRecursion P xs
each_of P [] h = tt
each_of P (x ∷ xs) h = (All-head P x xs h, each_of P xs (All-tail P x xs h))

module _ (basis : BasisId) (has : HasInverse basis) where
  -- the coefficient of an index in what is read at a representative, back
  abbrev back : Code → Code → ℤ
  back j code = entries has.inverse (bits_of j) (bits_of code)

  abbrev reads : Code → Code → ℤ
  reads code j = pos (one_if (has.related code j))

  -- what is read at all representatives, back, is the coefficient
  read_back : (code : Code) → IsComposition code → (other : Code) → IsComposition other → sum other ≡ sum code
      → sum_over (λ j. reads code j *ℤ back j other) (every_composition (sum code)) ≡ pos (one_if (same_list code other))
  read_back code h other h' size =
      by_bits (λ c. (o : Code) → IsComposition o → sum o ≡ sum c → sum_over (λ j. reads c j *ℤ back j o) (every_composition (sum c)) ≡ pos (one_if (same_list c o)))
      of_none
      (λ a o ho size. by_bits (λ o. sum o ≡ sum (composition_of a) → sum_over (λ j. reads (composition_of a) j *ℤ back j o) (every_composition (sum (composition_of a))) ≡ pos (one_if (same_list (composition_of a) o)))
      (λ e. absurd (omega (arith, e, sum-composition_of a))) (λ c e. of_bits a c) o ho size)
      code h other h' size
    where
      of_none : (o : Code) → IsComposition o → sum o ≡ 0 → sum_over (λ j. reads [] j *ℤ back j o) ([] ∷ []) ≡ pos (one_if (same_list [] o))
      of_none o ho size =
          by_bits (λ o. sum o ≡ 0 → sum_over (λ j. reads [] j *ℤ back j o) ([] ∷ []) ≡ pos (one_if (same_list [] o)))
          (λ e. ap (λ t. (pos (one_if t) *ℤ pos 1) +ℤ pos 0) has.bits.both_empty)
          (λ c e. absurd (omega (arith, e, sum-composition_of c))) o ho size

      of_bits : (a c : List Bool) → sum_over (λ j. reads (composition_of a) j *ℤ back j (composition_of c)) (every_composition (sum (composition_of a))) ≡ pos (one_if (same_list (composition_of a) (composition_of c)))
      of_bits a c =
          ap (λ n. sum_over (λ j. reads (composition_of a) j *ℤ back j (composition_of c)) (every_composition n)) (sum-composition_of a)
          ∙ change.sum_over-map (λ j. reads (composition_of a) j *ℤ back j (composition_of c)) composition_of (all_bits (length a))
          ∙ sum_over_same _ _
          (λ b. λ i. (ap (λ t. pos (one_if t)) (has.bits.bits a b) ∙ sym (entries-matrix_of has.test a b)) i *ℤ entries has.inverse (bits_of-composition_of b i) (bits_of-composition_of c i)) (all_bits (length a))
          ∙ entries-multiply (matrix_of has.test) has.inverse (matrix_of alike) has.multiplies a c
          ∙ entries-matrix_of alike a c
          ∙ ap (λ t. pos (one_if t)) (sym (same_list-composition_of a c))

  module _ (n : ℕ) (ts : Terms) (rank : ℕ) (canonical : IsCanonical rank 1 ts) (indices : (key : Key) → HasKey ts key → AreIndices (basis ∷ []) key)
      (degrees : (key : Key) → HasKey ts key → total_degree (basis ∷ []) key ≡ n) (b : ℕ)
      (small : (code : Code) → IsIndex basis code → degree_of basis code ≡ n → unsigned_abs (numerator (leaf (basis ∷ []) 1 ts) (representative basis code ∷ [])) ≤ b) where
    -- the code of a key
    composition_at : (key : Key) → HasKey ts key → IsCompositionOf n (first_code key)
    composition_at key h = record {
      positive = has.composition (first_code key) (one_code_of basis key (indices key h)).1;
      size = sym (has.degree (first_code key)) ∙ one_degree basis key (indices key h) ∙ degrees key h;
    }

    -- the reading at the representative of a composition
    abbrev read_at : Code → ℤ
    read_at j = weighed (λ key. reads (first_code key) j) ts

    read_at_is : (j : Code) → IsCompositionOf n j → read_at j ≡ numerator (leaf (basis ∷ []) 1 ts) (representative basis j ∷ [])
    read_at_is j h =
        weighed_same_keys (λ key. reads (first_code key) j) (λ key. pos (one_if (occurs basis (first_code key) (representative basis j)))) ts
        (λ key is. ap (λ t. pos (one_if t)) (sym (has.occurs_at (first_code key) j (composition_at key is).positive h.positive)))
        ∙ sym (read_by_codes basis n ts rank canonical indices degrees (representative basis j))

    -- each numerator is a sum over all compositions of these
    numerator_back : (i : ℕ) → i < length ts → (code : Code) → code ≡ code_of basis n ts rank canonical indices degrees i → (term_at ts i).0 ≡ sum_over (λ j. read_at j *ℤ back j code) (every_composition n)
    numerator_back i lt code is =
        numerator_by_codes basis n ts rank canonical indices degrees i lt
        ∙ weighed_same_keys _ (λ key. sum_over (λ j. reads (first_code key) j *ℤ back j code) (every_composition n)) ts each
        ∙ sum_over_same _ _ (λ (t : ℤ × Key). times-sum_over t.0 (λ j. reads (first_code t.1) j *ℤ back j code) (every_composition n)) ts
        ∙ sum_over-swap (λ (t : ℤ × Key) j. t.0 *ℤ (reads (first_code t.1) j *ℤ back j code)) ts (every_composition n)
        ∙ sum_over_same _ _ (λ j. weighed-times_right (λ key. reads (first_code key) j) (back j code) ts) (every_composition n)
      where
        each : (key : Key) → HasKey ts key → pos (one_if (same_list (first_code (term_at ts i).1) (first_code key))) ≡ sum_over (λ j. reads (first_code key) j *ℤ back j code) (every_composition n)
        each key here =
            let own = composition_at (term_at ts i).1 (i, lt, refl) in
            let other = composition_at key here in
            ap (λ v. pos (one_if (same_list v (first_code key)))) (sym is)
            ∙ ap (λ t. pos (one_if t)) (same_list-sym code (first_code key))
            ∙ sym (read_back (first_code key) other.positive code (subst IsComposition (sym is) own.positive) (ap sum is ∙ own.size ∙ sym other.size))
            ∙ ap (λ m. sum_over (λ j. reads (first_code key) j *ℤ back j code) (every_composition m)) other.size

    small_numerator : (i : ℕ) → i < length ts → unsigned_abs (term_at ts i).0 ≤ b * 2 ^ n
    small_numerator i lt =
        let code : Code = code_of basis n ts rank canonical indices degrees i in
        let bound : sums (λ j. unsigned_abs (read_at j *ℤ back j code)) (every_composition n) ≤ sums (λ j. b) (every_composition n) =
        sums_le_every (IsCompositionOf n) (λ j. unsigned_abs (read_at j *ℤ back j code)) (λ j. b) (λ j h. small_part j h code) (every_composition n) (each_of (IsCompositionOf n) (every_composition n) (each_composition n)) in
        omega (
          arith,
          ap unsigned_abs (numerator_back i lt code refl),
          abs-sum_over (λ j. read_at j *ℤ back j code) (every_composition n),
          bound,
          sums_constant b (every_composition n),
          mul-le-mul_left b (few_compositions n),
        )
      where
        small_part : (j : Code) → IsCompositionOf n j → (code : Code) → unsigned_abs (read_at j *ℤ back j code) ≤ b
        small_part j h code =
            omega (
              arith,
              unsigned_abs-mul (read_at j) (back j code),
              mul-le-mul_left (unsigned_abs (read_at j)) (small_entries has.inverse has.small (bits_of j) (bits_of code)),
              ap unsigned_abs (read_at_is j h),
              small j (has.index j h.positive) (has.degree j ∙ h.size),
            )

    pub norm_of_compositions : norm_of ts ≤ (b * 2 ^ n) * 2 ^ n
    norm_of_compositions =
        let few : length (codes_of ts) ≤ length (every_composition n) = few_of_list (codes_of ts) (every_composition n) (every_code (λ c. times_in c (every_composition n) ≡ 1) ts once_there) (once basis n ts rank canonical indices degrees) in
        let terms : length ts ≤ 2 ^ n = omega (arith, few, few_compositions n, length-map ts (λ (t : ℤ × Key). first_code t.1)) in
        omega (arith, norm_at_most ts (b * 2 ^ n) small_numerator, mul-le-mul_left (b * 2 ^ n) terms)
      where
        once_there : (i : ℕ) → i < length ts → times_in (first_code (term_at ts i).1) (every_composition n) ≡ 1
        once_there i lt =
            let own = composition_at (term_at ts i).1 (i, lt, refl) in
            sym (times_in-turned (first_code (term_at ts i).1) (every_composition n)) ∙ ap (λ m. sums (λ v. one_if (same_list v (first_code (term_at ts i).1))) (every_composition m)) (sym own.size) ∙ every_composition_once (first_code (term_at ts i).1) own.positive

-- entries of tests are small
small_test : (test : Bool → Bool → Bool) (x y : Bool) → unsigned_abs (matrix_of test x y) ≤ 1
small_test test x y = by_test (test x y)
  where
    by_test : (t : Bool) → unsigned_abs (pos (one_if t)) ≤ 1
    by_test true = omega arith
    by_test false = omega arith

small_mobius : (x y : Bool) → unsigned_abs (mobius x y) ≤ 1
small_mobius true true = omega arith
small_mobius true false = omega arith
small_mobius false true = omega arith
small_mobius false false = omega arith

-- the five bases
pub monomials : HasInverse QsymM
monomials = record {
  composition = λ code h. h;
  index = λ code h. h;
  degree = λ code. refl;
  related = same_class;
  test = λ x y. alike y x;
  bits = same_class-bits;
  occurs_at = λ code index hc h. class_laws.monomial index h code hc;
  inverse = matrix_of alike;
  multiplies = multiplies;
  small = small_test alike;
}
  where
    multiplies : Multiplies (matrix_of (λ x y. alike y x)) (matrix_of alike) (matrix_of alike)
    multiplies true true = refl
    multiplies true false = refl
    multiplies false true = refl
    multiplies false false = refl

pub ribbons : HasInverse NcsfR
ribbons = record {
  composition = λ code h. h;
  index = λ code h. h;
  degree = λ code. refl;
  related = same_class;
  test = λ x y. alike y x;
  bits = same_class-bits;
  occurs_at = λ code index hc h. class_laws.ribbons index h code hc;
  inverse = matrix_of alike;
  multiplies = multiplies;
  small = small_test alike;
}
  where
    multiplies : Multiplies (matrix_of (λ x y. alike y x)) (matrix_of alike) (matrix_of alike)
    multiplies true true = refl
    multiplies true false = refl
    multiplies false true = refl
    multiplies false false = refl

pub fundamentals : HasInverse QsymF
fundamentals = record {
  composition = λ code h. h;
  index = λ code h. h;
  degree = λ code. refl;
  related = finer_class;
  test = within;
  bits = finer_class-bits;
  occurs_at = λ code index hc h. fundamental_at-representative code index h;
  inverse = mobius;
  multiplies = multiplies;
  small = small_mobius;
}
  where
    multiplies : Multiplies (matrix_of within) mobius (matrix_of alike)
    multiplies true true = refl
    multiplies true false = refl
    multiplies false true = refl
    multiplies false false = refl

pub completes : HasInverse NcsfS
completes = record {
  composition = λ code h. h;
  index = λ code h. h;
  degree = λ code. refl;
  related = is_finer;
  test = λ x y. within y x;
  bits = coarser_class-bits;
  occurs_at = λ code index hc h. complete_at-representative code index h;
  inverse = λ x y. mobius y x;
  multiplies = multiplies;
  small = λ x y. small_mobius y x;
}
  where
    multiplies : Multiplies (matrix_of (λ x y. within y x)) (λ x y. mobius y x) (matrix_of alike)
    multiplies true true = refl
    multiplies true false = refl
    multiplies false true = refl
    multiplies false false = refl

pub elementaries : HasInverse NcsfL
elementaries = record {
  composition = λ code h. h;
  index = λ code h. h;
  degree = λ code. refl;
  related = is_finer;
  test = λ x y. within y x;
  bits = coarser_class-bits;
  occurs_at = elementary_at-representative;
  inverse = λ x y. mobius y x;
  multiplies = multiplies;
  small = λ x y. small_mobius y x;
}
  where
    multiplies : Multiplies (matrix_of (λ x y. within y x)) (λ x y. mobius y x) (matrix_of alike)
    multiplies true true = refl
    multiplies true false = refl
    multiplies false true = refl
    multiplies false false = refl
