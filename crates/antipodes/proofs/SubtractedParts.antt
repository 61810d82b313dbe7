-- Steps of the recursion: the antipodes of the first codes of a coproduct, each followed by the second code, taken away one by one.
use Rattle.std.proofs.Common.{◌≡◌, ℕ, ◌+◌, ◌-◌, ◌*◌, ◌^◌, ◌<◌, ◌≤◌, Bool, true, false, [], ◌∷◌, length, take, inl, inr, refl, sym, ◌∙◌, ap, subst, arith, unsigned_abs}
use Rattle.std.specs.Prelude.{slice_index_or, if◌then◌else◌}
use Rattle.std.proofs.Math.IntN.{ℤ, pos, ◌+ℤ◌, ◌*ℤ◌, *ℤ-zero}
use Rattle.std.proofs.Math.Nat.{mul-le-mul_left, mul-le-mul_right}
use Rattle.std.proofs.Math.Pow.{pow_mono, pow-add}
use Rattle.std.proofs.lemmas.Int.{ints}
use Rattle.std.proofs.lemmas.List.{take_all}
use Rattle.basis_names.specs.declared.bases.BasisId.{BasisId}
use Rattle.hopf_num.proofs.Ring.{*ℤ_assoc}
use Rattle.antipode_laws.specs.Recursion.{first_code, second_code, ends, IsCoproductOf, IsAntipodeOf}
use Rattle.antipode_laws.proofs.IntegerSums.{sum_over_same, sum_over-times}
use Rattle.antipode_laws.proofs.RecursionAnswers.{recursion_law}
use Rattle.antipode_laws.proofs.WeighedKeys.{weighed_same_keys}
use Rattle.antipodes.specs.Subtracting.{SubtractsFollowed, IsCoproduct, turned_part, AreSubtracted, AreTurned}
use Rattle.index_rules.specs.Spaces.{IsIndexWithin, limit_for}
use Rattle.linear_combos.specs.Combos.{IsSumOfTerms}
use Rattle.linear_combos.proofs.Edits.{lowest_one}
use Rattle.linear_combos.proofs.Merging.{weighed-more}
use Rattle.linear_combos.proofs.Weights.{norm-more, norm-part}
use Rattle.realisations.specs.Bases.{kind_of}
use Rattle.realisations.specs.Codes.{Code, Key}
use Rattle.realisations.specs.Combinations.{Combination, AreTerms, IsCanonical, HasKey, norm_of, term_at, weighed}
use Rattle.realisations.specs.Indices.{IsIndex, AreIndices, degree_of, total_degree}
use Rattle.realisations.specs.Lists.{one_if}
use Rattle.realisations.specs.Occurrence.{occurs}
use Rattle.realisations.specs.Points.{Point, IsPoint}
use Rattle.realisations.specs.Readings.{Terms, applied, antipode, element, occurrence, numerator}

-- over 1 readings agree where their numerators do
pub over_one : (y z : ℤ) → y *ℤ pos 1 ≡ z *ℤ pos 1 → y ≡ z
over_one y z e = omega (arith, ints, e)

-- the codes of a key of two, as a key shows them that is the same
pub second_shown : (shown key : Key) (code : Code) → shown ≡ key → length key ≡ 2 → code ≡ slice_index_or shown 1 code → code ≡ second_code key
second_shown shown key code same long is = is ∙ ap (λ k. slice_index_or k 1 code) same ∙ by_length key long
  where
    by_length : (key : Key) → length key ≡ 2 → slice_index_or key 1 code ≡ second_code key
    by_length [] e = absurd (omega (arith, e))
    by_length (a ∷ []) e = absurd (omega (arith, e))
    by_length (a ∷ b ∷ key) e = refl

pub first_shown : (shown key : Key) (code : Code) → shown ≡ key → length key ≡ 2 → code ≡ slice_index_or shown 0 code → code ≡ first_code key
first_shown shown key code same long is = is ∙ ap (λ k. slice_index_or k 0 code) same ∙ by_length key long
  where
    by_length : (key : Key) → length key ≡ 2 → slice_index_or key 0 code ≡ first_code key
    by_length [] e = absurd (omega (arith, e))
    by_length (a ∷ key) e = refl

module _ (basis : BasisId) where
  -- the codes of a key of two indices
  pub two_codes_of : (key : Key) → AreIndices (basis ∷ basis ∷ []) key → (key ≡ first_code key ∷ second_code key ∷ []) × IsIndex basis (first_code key) × IsIndex basis (second_code key)
  two_codes_of [] h = absurd h
  two_codes_of (a ∷ []) h = absurd h.1
  two_codes_of (a ∷ b ∷ []) h = (refl, h.0, h.1.0)
  two_codes_of (a ∷ b ∷ c ∷ key) h = absurd h.1.1

  pub two_degrees : (key : Key) → AreIndices (basis ∷ basis ∷ []) key → degree_of basis (first_code key) + degree_of basis (second_code key) ≡ total_degree (basis ∷ basis ∷ []) key
  two_degrees [] h = absurd h
  two_degrees (a ∷ []) h = absurd h.1
  two_degrees (a ∷ b ∷ []) h = omega arith
  two_degrees (a ∷ b ∷ c ∷ key) h = absurd h.1.1

  -- a key of one index
  pub one_code_of : (key : Key) → AreIndices (basis ∷ []) key → (key ≡ first_code key ∷ []) × IsIndex basis (first_code key)
  one_code_of [] h = absurd h
  one_code_of (a ∷ []) h = (refl, h.0)
  one_code_of (a ∷ b ∷ key) h = absurd h.1

  pub one_degree : (key : Key) → AreIndices (basis ∷ []) key → degree_of basis (first_code key) ≡ total_degree (basis ∷ []) key
  one_degree [] h = absurd h
  one_degree (a ∷ []) h = omega arith
  one_degree (a ∷ b ∷ key) h = absurd h.1

-- a factor behind comes out of a weighed sum
pub weighed-times_right : (f : Key → ℤ) (z : ℤ) (ts : Terms) → weighed (λ key. f key *ℤ z) ts ≡ weighed f ts *ℤ z
weighed-times_right f z ts =
    sum_over_same _ _ (λ (t : ℤ × Key). *ℤ_assoc t.0 (f t.1) z) ts ∙ sym (sum_over-times (λ (t : ℤ × Key). t.0 *ℤ f t.1) z ts)

-- a code of one component beside one of another
pair_is : (basis : BasisId) (a b : Code) (p q : Point) → pos (occurrence (basis ∷ basis ∷ []) (a ∷ b ∷ []) (p ∷ q ∷ [])) ≡ pos (occurrence (basis ∷ []) (a ∷ []) (p ∷ [])) *ℤ numerator (element basis b) (q ∷ [])
pair_is basis a b p q = by_tests (occurs basis a p) (occurs basis b q)
  where
    by_tests : (s t : Bool) → pos (one_if s * (one_if t * 1)) ≡ pos (one_if s * 1) *ℤ ((pos 1 *ℤ pos (one_if t * 1)) +ℤ pos 0)
    by_tests true true = refl
    by_tests true false = refl
    by_tests false true = refl
    by_tests false false = refl

-- the antipode of a code, followed by another one, reads as both
followed_reads : (basis : BasisId) (code second : Code) (c : Combination) → IsAntipodeOf basis code c → (p q : Point) → IsPoint (kind_of basis) p
    → weighed (λ codes. pos (occurrence (basis ∷ basis ∷ []) (first_code codes ∷ second ∷ []) (p ∷ q ∷ []))) c.terms
    ≡ numerator (applied antipode 0 (element basis code)) (p ∷ []) *ℤ numerator (element basis second) (q ∷ [])
followed_reads basis code second c is p q point =
    weighed_same_keys _ (λ codes. pos (occurrence (basis ∷ []) codes (p ∷ [])) *ℤ numerator (element basis second) (q ∷ [])) c.terms
    (λ codes has. pair_is basis (first_code codes) second p q ∙ ap (λ k. pos (occurrence (basis ∷ []) k (p ∷ [])) *ℤ numerator (element basis second) (q ∷ [])) (sym (one_code_of basis codes (is.indices codes has)).0))
    ∙ weighed-times_right (λ codes. pos (occurrence (basis ∷ []) codes (p ∷ []))) (numerator (element basis second) (q ∷ [])) c.terms
    ∙ ap (λ z. z *ℤ numerator (element basis second) (q ∷ [])) (over_one _ _ (is.reads (p ∷ []) (point, tt)))

-- what a key adds, by the test of its second code
part_ends : (basis : BasisId) (p q : Point) (key : Key) → ends key ≡ true → turned_part basis p q key ≡ pos 0
part_ends basis p q key e = ap (λ b. if b then pos 0 else numerator (applied antipode 0 (element basis (first_code key))) (p ∷ []) *ℤ numerator (element basis (second_code key)) (q ∷ [])) e

part_goes_on : (basis : BasisId) (p q : Point) (key : Key) → ends key ≡ false → turned_part basis p q key ≡ numerator (applied antipode 0 (element basis (first_code key))) (p ∷ []) *ℤ numerator (element basis (second_code key)) (q ∷ [])
part_goes_on basis p q key e = ap (λ b. if b then pos 0 else numerator (applied antipode 0 (element basis (first_code key))) (p ∷ []) *ℤ numerator (element basis (second_code key)) (q ∷ [])) e

-- the norm with an answer more, whose own norm is within p
more_norm : (n a x p q : ℕ) → n ≤ a * p → q ≤ p → n + x * q ≤ (a + x) * p
more_norm n a x p q so_far small = omega (arith, mul-le-mul_left x small)

-- a power of 2 within the room
pub power_room : (k : ℕ) → k ≤ 126 → 2 ^ k < 2 ^ 127
power_room k le = let power : 2 ^ k ≤ 2 ^ 126 = pow_mono le in omega (arith, power)

module _ (basis : BasisId) (growth : ℕ) (code : Code) (c : Combination) (is : IsCoproduct basis growth code c) where
  pub coproduct_of : IsCoproductOf basis code c
  coproduct_of = record { index = is.index.index; positive = is.positive; answer = is.answer.answer }

  indices_at : (key : Key) → HasKey c.terms key → AreIndices (basis ∷ basis ∷ []) key
  indices_at key has = is.answer.answer.indices key has

  -- the first code of a key whose second code is not empty has a lower degree
  pub lower : (key : Key) → HasKey c.terms key → ends key ≡ false → degree_of basis (first_code key) < degree_of basis code
  lower key has e = recursion_law.lower basis code c coproduct_of key has e

  pub first_within : (key : Key) → HasKey c.terms key → ends key ≡ false → IsIndexWithin basis (first_code key)
  first_within key has e = record { index = (two_codes_of basis key (indices_at key has)).1; degree = omega (arith, lower key has e, is.index.degree) }

  -- each key has two codes
  pub two_codes_at : (i : ℕ) → i < length c.terms → length (term_at c.terms i).1 ≡ 2
  two_codes_at i lt = is.answer.answer.canonical.ordered.ranks i lt ∙ is.answer.answer.rank

  -- before the first term nothing was taken away
  pub none_subtracted : (new : Combination) → new ≡ record { rank = 2; den = 1; terms = [] } → AreSubtracted basis code c.terms 0 new
  none_subtracted new none =
      subst (AreSubtracted basis code c.terms 0) (sym none) (record {
        rank = refl;
        whole = refl;
        norm = omega arith;
        indices = λ key has. absurd (omega (arith, has.1));
        degrees = λ key has. absurd (omega (arith, has.1));
        reads = λ p q hp hq. refl;
      })

  module _ (i : ℕ) (here : i < length c.terms) (mid : Combination) (so_far : AreSubtracted basis code c.terms i mid) where
    abbrev key : Key
    key = (term_at c.terms i).1

    abbrev num : ℤ
    num = (term_at c.terms i).0

    -- the term whose second code is empty adds nothing
    pub nothing_subtracted : ends key ≡ true → AreSubtracted basis code c.terms (i + 1) mid
    nothing_subtracted e = record {
      rank = so_far.rank;
      whole = so_far.whole;
      norm = let more : norm_of (take i c.terms) ≤ norm_of (take (i + 1) c.terms) = omega (arith, norm-more c.terms i here) in omega (arith, so_far.norm, mul-le-mul_right (2 ^ (5 * (degree_of basis code - 1))) more);
      indices = so_far.indices;
      degrees = so_far.degrees;
      reads = λ p q hp hq.
          let none : num *ℤ turned_part basis p q key ≡ pos 0 = ap (λ z. num *ℤ z) (part_ends basis p q key e) ∙ *ℤ-zero num in
          omega (arith, ints, so_far.reads p q hp hq, weighed-more (turned_part basis p q) c.terms i here, none);
    }

    module _ (e : ends key ≡ false) (first : Combination) (turned : IsAntipodeOf basis (first_code key) first) where
      small : norm_of first.terms ≤ 2 ^ (5 * (degree_of basis code - 1))
      small =
          let degrees : degree_of basis (first_code key) ≤ degree_of basis code - 1 = omega (arith, lower key (i, here, refl) e) in
          let power : 2 ^ (5 * degree_of basis (first_code key)) ≤ 2 ^ (5 * (degree_of basis code - 1)) = pow_mono (mul-le-mul_left 5 degrees) in
          omega (arith, turned.small, power)

      norm_after : norm_of mid.terms + unsigned_abs num * norm_of first.terms ≤ norm_of (take (i + 1) c.terms) * 2 ^ (5 * (degree_of basis code - 1))
      norm_after =
          omega (
            arith,
            more_norm (norm_of mid.terms) (norm_of (take i c.terms)) (unsigned_abs num) (2 ^ (5 * (degree_of basis code - 1))) (norm_of first.terms) so_far.norm small,
            ap (λ n. n * 2 ^ (5 * (degree_of basis code - 1))) (norm-more c.terms i here),
          )

      -- the antipode of the first code has room
      pub part_room : (growth + 10) * limit_for basis ≤ 126 → norm_of mid.terms + unsigned_abs num * norm_of first.terms < 2 ^ 127
      part_room room =
          let n = degree_of basis code in
          let part : norm_of (take (i + 1) c.terms) * 2 ^ (5 * (n - 1)) ≤ norm_of c.terms * 2 ^ (5 * (n - 1)) = mul-le-mul_right (2 ^ (5 * (n - 1))) (norm-part c.terms (i + 1)) in
          let whole : norm_of c.terms * 2 ^ (5 * (n - 1)) ≤ 2 ^ (growth * n) * 2 ^ (5 * (n - 1)) = mul-le-mul_right (2 ^ (5 * (n - 1))) is.answer.norm in
          let both : 2 ^ (growth * n + 5 * (n - 1)) ≡ 2 ^ (growth * n) * 2 ^ (5 * (n - 1)) = pow-add 2 (growth * n) (5 * (n - 1)) in
          let degrees : (growth + 10) * n ≤ (growth + 10) * limit_for basis = mul-le-mul_left (growth + 10) is.index.degree in
          let bits : growth * n + 5 * (n - 1) ≤ 126 = omega (arith, degrees, room) in
          omega (arith, norm_after, part, whole, both, power_room (growth * n + 5 * (n - 1)) bits)

      -- and was taken away
      pub part_subtracted : (new : Combination) → SubtractsFollowed mid num (second_code key) first.terms (length first.terms) new → AreSubtracted basis code c.terms (i + 1) new
      part_subtracted new adds =
          let all : take (length first.terms) first.terms ≡ first.terms = take_all (length first.terms) first.terms (omega arith) in
          record {
            rank = adds.rank ∙ so_far.rank;
            whole = adds.den ∙ so_far.whole;
            norm = omega (arith, adds.norm, ap (λ us. unsigned_abs num * norm_of us) all, norm_after);
            indices = λ k has. elim (adds.keys k has) [
              | inl old ↦ so_far.indices k old
              | inr put ↦ (put_key k put).0
            ];
            degrees = λ k has. elim (adds.keys k has) [
              | inl old ↦ so_far.degrees k old
              | inr put ↦ (put_key k put).1
            ];
            reads = λ p q hp hq.
                let w = λ (k : Key). pos (occurrence (basis ∷ basis ∷ []) k (p ∷ q ∷ [])) in
                let f = λ (codes : Key). w (first_code codes ∷ second_code key ∷ []) in
                let put : weighed f first.terms ≡ turned_part basis p q key = followed_reads basis (first_code key) (second_code key) first turned p q hp ∙ sym (part_goes_on basis p q key e) in
                omega (
                  arith,
                  ints,
                  adds.weighs w,
                  so_far.reads p q hp hq,
                  ap (λ us. num *ℤ weighed f us) all,
                  ap (λ z. num *ℤ z) put,
                  weighed-more (turned_part basis p q) c.terms i here,
                );
          }
        where
          put_key : (k : Key) → ((codes : Key) × HasKey first.terms codes × (k ≡ first_code codes ∷ second_code key ∷ [])) → AreIndices (basis ∷ basis ∷ []) k × (total_degree (basis ∷ basis ∷ []) k ≡ degree_of basis code)
          put_key k (codes, has, put) =
              let codes_index : AreIndices (basis ∷ []) codes = turned.indices codes has in
              let key_index : AreIndices (basis ∷ basis ∷ []) key = indices_at key (i, here, refl) in
              let pair : AreIndices (basis ∷ basis ∷ []) (first_code codes ∷ second_code key ∷ []) = ((one_code_of basis codes codes_index).1, ((two_codes_of basis key key_index).2, tt)) in
              let degrees : total_degree (basis ∷ basis ∷ []) (first_code codes ∷ second_code key ∷ []) ≡ degree_of basis code =
              omega (arith, one_degree basis codes codes_index, turned.degrees codes has, two_degrees basis key key_index, is.answer.answer.degrees key (i, here, refl)) in
              subst (λ v. AreIndices (basis ∷ basis ∷ []) v × (total_degree (basis ∷ basis ∷ []) v ≡ degree_of basis code)) (sym put) (pair, degrees)

  -- all of them, with canonical terms
  pub gathered_parts : (new : Combination) → AreTerms new.rank new.terms → AreSubtracted basis code c.terms (length c.terms) new → AreTurned basis growth code c.terms new
  gathered_parts new ordered all = record {
    canonical = subst (λ d. IsCanonical new.rank d new.terms) (sym all.whole) (record { ordered = ordered; lowest = lowest_one new.terms });
    all = all;
    norm =
        let n = degree_of basis code in
        let part : norm_of (take (length c.terms) c.terms) * 2 ^ (5 * (n - 1)) ≤ norm_of c.terms * 2 ^ (5 * (n - 1)) = mul-le-mul_right (2 ^ (5 * (n - 1))) (norm-part c.terms (length c.terms)) in
        let whole : norm_of c.terms * 2 ^ (5 * (n - 1)) ≤ 2 ^ (growth * n) * 2 ^ (5 * (n - 1)) = mul-le-mul_right (2 ^ (5 * (n - 1))) is.answer.norm in
        omega (arith, all.norm, part, whole);
  }

  -- and once a builder gathered them
  pub all_turned : (mid new : Combination) → AreSubtracted basis code c.terms (length c.terms) mid → IsSumOfTerms mid.rank mid.terms new → AreTurned basis growth code c.terms new
  all_turned mid new all sum =
      gathered_parts new (subst (λ r. AreTerms r new.terms) (sym sum.rank_is) sum.gathers.terms)
      (record {
        rank = sum.rank_is ∙ all.rank;
        whole = sum.whole;
        norm = omega (arith, sum.gathers.norm, all.norm);
        indices = λ key has. all.indices key (sum.gathers.keys key has);
        degrees = λ key has. all.degrees key (sum.gathers.keys key has);
        reads = λ p q hp hq. sum.gathers.weighs (λ key. pos (occurrence (basis ∷ basis ∷ []) key (p ∷ q ∷ []))) ∙ all.reads p q hp hq;
      })
