-- What the antipode of an element reads at a point is no larger than the number of the places that Takeuchi's sum reads the element at, with one sign.
use Rattle.std.proofs.Common.{◌≡◌, ℕ, ◌≤◌, Bool, true, false, List, [], ◌∷◌, length, get_or, refl, ◌∙◌, ap, arith, unsigned_abs}
use Rattle.std.specs.Prelude.{not, if◌then◌else◌}
use Rattle.std.specs.List.{concat}
use Rattle.std.proofs.Math.IntN.{pos, ◌+ℤ◌, neg_ℤ}
use Rattle.std.proofs.lemmas.Int.{ints}
use Rattle.basis_names.specs.declared.bases.BasisId.{BasisId}
use Rattle.antipode_laws.proofs.IntegerSums.{sum_over, sum_over_same}
use Rattle.antipode_laws.proofs.OperationReads.{takeuchi}
use Rattle.antipode_laws.proofs.RankOneReadings.{element_is, antipode_is}
use Rattle.antipode_laws.proofs.TakeuchiSums.{takeuchi_same}
use Rattle.antipodes.proofs.BoundedSums.{sums_le, sums_at_most, abs-sum_over, abs-with_sign, up_to_ten}
use Rattle.antipodes.proofs.CountedExponents.{ordered_partitions, few_pieces}
use Rattle.antipodes.proofs.CountedPieces.{is_even, count_where, partitions_where, few_shuffles}
use Rattle.change_laws.proofs.CompositionsByBits.{alike}
use Rattle.index_rules.specs.Spaces.{degree_at}
use Rattle.realisations.specs.Bases.{kind_of}
use Rattle.realisations.specs.Codes.{Code}
use Rattle.realisations.specs.Exponents.{all_exponent_pieces}
use Rattle.realisations.specs.Lists.{one_if, with_sign}
use Rattle.realisations.specs.Occurrence.{occurs}
use Rattle.realisations.specs.Points.{Kind, exponents, word, Point}
use Rattle.realisations.specs.Readings.{applied, antipode, element, numerator}
use Rattle.realisations.specs.Words.{all_shuffles, word_pieces}
use Rattle.realisations.proofs.Sums.{sums}

-- a test counts at most once
one_if-small : (b : Bool) → one_if b ≤ 1
one_if-small true = omega arith
one_if-small false = omega arith

-- the sum of a test over points
tests_over : (test : Point → Bool) (ps : List Point) → sum_over (λ p. pos (one_if (test p))) ps ≡ pos (sums (λ p. one_if (test p)) ps)
tests_over test [] = refl
tests_over test (p ∷ ps) = omega (arith, ints, tests_over test ps)

-- the sign of a number of pieces
sign_of_pieces : (c : List (List ℕ)) (k : ℕ) → with_sign (length c) (pos k) ≡ pos (if is_even c then k else 0) +ℤ neg_ℤ (pos (if not (is_even c) then k else 0))
sign_of_pieces [] k = omega (arith, ints)
sign_of_pieces (u ∷ c) k = by_test (is_even c) (sign_of_pieces c k)
  where
    by_test : (b : Bool) → with_sign (length c) (pos k) ≡ pos (if b then k else 0) +ℤ neg_ℤ (pos (if not b then k else 0))
        → neg_ℤ (with_sign (length c) (pos k)) ≡ pos (if not b then k else 0) +ℤ neg_ℤ (pos (if not (not b) then k else 0))
    by_test true e = omega (arith, ints, e)
    by_test false e = omega (arith, ints, e)

-- a sum with the signs of pieces, by their numbers
signs_of_pieces : (k : List (List ℕ) → ℕ) (cs : List (List (List ℕ))) → sum_over (λ c. with_sign (length c) (pos (k c))) cs
    ≡ pos (sums (λ c. if is_even c then k c else 0) cs) +ℤ neg_ℤ (pos (sums (λ c. if not (is_even c) then k c else 0) cs))
signs_of_pieces k [] = omega (arith, ints)
signs_of_pieces k (c ∷ cs) = omega (arith, ints, sign_of_pieces c (k c), signs_of_pieces k cs)

-- a difference is at most the larger number
abs-difference : (m n b : ℕ) → m ≤ b → n ≤ b → unsigned_abs (pos m +ℤ neg_ℤ (pos n)) ≤ b
abs-difference m n b hm hn = omega (arith, ints)

-- words: at most as many as the shuffles of an even number of pieces, or of an odd one
abbrev pub most_of_word : ℕ → ℕ
most_of_word n = get_or (1 ∷ 1 ∷ 2 ∷ 7 ∷ 38 ∷ 271 ∷ 2342 ∷ 23647 ∷ 272918 ∷ 3543631 ∷ 51123782 ∷ []) n 0

most_where : (b : Bool) (n : ℕ) → n ≤ 10 → partitions_where b n ≤ most_of_word n
most_where true n le =
    up_to_ten (λ n. partitions_where true n ≤ most_of_word n) (omega arith) (omega arith) (omega arith) (omega arith) (omega arith) (omega arith) (omega arith) (omega arith) (omega arith) (omega arith) (omega arith) n le
most_where false n le =
    up_to_ten (λ n. partitions_where false n ≤ most_of_word n) (omega arith) (omega arith) (omega arith) (omega arith) (omega arith) (omega arith) (omega arith) (omega arith) (omega arith) (omega arith) (omega arith) n le

module _ (test : Point → Bool) where
  few_where : (b : Bool) (w : Point) → length w ≤ 10 → sums (λ c. if alike b (is_even c) then sums (λ p. one_if (test p)) (all_shuffles c) else 0) (word_pieces w) ≤ most_of_word (length w)
  few_where b w le =
      omega (
        arith,
        sums_le (λ c. if alike b (is_even c) then sums (λ p. one_if (test p)) (all_shuffles c) else 0) (count_where b) (λ c. by_test (alike b (is_even c)) c) (word_pieces w),
        few_shuffles b w le,
        most_where b (length w) le,
      )
    where
      few : (c : List (List ℕ)) → sums (λ p. one_if (test p)) (all_shuffles c) ≤ length (all_shuffles c)
      few c = omega (arith, sums_at_most (λ p. one_if (test p)) 1 (λ p. one_if-small (test p)) (all_shuffles c))

      by_test : (t : Bool) (c : List (List ℕ)) → (if t then sums (λ p. one_if (test p)) (all_shuffles c) else 0) ≤ (if t then length (all_shuffles c) else 0)
      by_test true c = few c
      by_test false c = omega arith

  takeuchi_word : (w : Point) → length w ≤ 10 → unsigned_abs (takeuchi word (λ q. pos (one_if (test q))) w) ≤ most_of_word (length w)
  takeuchi_word w le =
      let k : List (List ℕ) → ℕ = λ c. sums (λ p. one_if (test p)) (all_shuffles c) in
      let split : takeuchi word (λ q. pos (one_if (test q))) w ≡ pos (sums (λ c. if is_even c then k c else 0) (word_pieces w)) +ℤ neg_ℤ (pos (sums (λ c. if not (is_even c) then k c else 0) (word_pieces w))) =
      sum_over_same _ _ (λ c. ap (with_sign (length c)) (tests_over test (all_shuffles c))) (word_pieces w) ∙ signs_of_pieces k (word_pieces w) in
      omega (
        arith,
        ap unsigned_abs split,
        abs-difference (sums (λ c. if is_even c then k c else 0) (word_pieces w)) (sums (λ c. if not (is_even c) then k c else 0) (word_pieces w)) (most_of_word (length w)) (few_where true w le) (few_where false w le),
      )

  -- exponents: at most as many as the ways to write them as a sum of nonzero ones
  takeuchi_exponents : (p : Point) → degree_at exponents p ≤ 10 → unsigned_abs (takeuchi exponents (λ q. pos (one_if (test q))) p) ≤ ordered_partitions (degree_at exponents p)
  takeuchi_exponents p le =
      omega (
        arith,
        abs-sum_over (λ parts. with_sign (length parts) (sum_over (λ q. pos (one_if (test q))) (concat parts ∷ []))) (all_exponent_pieces p),
        sums_at_most (λ parts. unsigned_abs (with_sign (length parts) (sum_over (λ q. pos (one_if (test q))) (concat parts ∷ [])))) 1 each (all_exponent_pieces p),
        few_pieces p le,
      )
    where
      each : (parts : List (List ℕ)) → unsigned_abs (with_sign (length parts) (sum_over (λ q. pos (one_if (test q))) (concat parts ∷ []))) ≤ 1
      each parts =
          omega (
            arith,
            abs-with_sign (length parts) (sum_over (λ q. pos (one_if (test q))) (concat parts ∷ [])),
            ap unsigned_abs (tests_over test (concat parts ∷ [])),
            one_if-small (test (concat parts)),
          )

-- the bound of both
abbrev pub most_at : Kind → ℕ → ℕ
most_at exponents n = ordered_partitions n
most_at word n = most_of_word n

takeuchi_small : (kind : Kind) (test : Point → Bool) (p : Point) → degree_at kind p ≤ 10 → unsigned_abs (takeuchi kind (λ q. pos (one_if (test q))) p) ≤ most_at kind (degree_at kind p)
takeuchi_small exponents test p le = takeuchi_exponents test p le
takeuchi_small word test p le = takeuchi_word test p le

-- so what the antipode of an element reads is small up to degree 10
pub small_reading : (basis : BasisId) (code : Code) (p : Point) → degree_at (kind_of basis) p ≤ 10 → unsigned_abs (numerator (applied antipode 0 (element basis code)) (p ∷ [])) ≤ most_at (kind_of basis) (degree_at (kind_of basis) p)
small_reading basis code p le =
    omega (
      arith,
      ap unsigned_abs (antipode_is (kind_of basis) (element basis code) refl p ∙ takeuchi_same (kind_of basis) _ _ (element_is basis code) p),
      takeuchi_small (kind_of basis) (occurs basis code) p le,
    )
