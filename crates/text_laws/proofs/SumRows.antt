-- The row of a sum of the first terms of a value and the next one.
use Rattle.std.proofs.Common.{◌≡◌, ℕ, zero, suc, ◌+◌, ◌*◌, ◌/◌, ◌^◌, ◌<◌, ◌≤◌, Bool, true, false, Ok, List, [], ◌∷◌, ◌++◌, length, drop, get_or, inl, refl, sym, ◌∙◌, ap, subst, arith, unsigned_abs, mul-le-mul_left}
use Rattle.std.specs.Prelude.{All, IsSome, max, unwrap_or, Some}
use Rattle.std.proofs.Math.IntN.{ℤ, pos, negsuc, ◌+ℤ◌, ◌*ℤ◌, *ℤ_comm, pos-*ℤ-pos}
use Rattle.std.proofs.Math.Nat.{mul-div_cancel', le_of_mul-le-mul_left, dvd-mul_right, mul-pos}
use Rattle.std.specs.Int.{◌∣◌}
use Rattle.std.proofs.lemmas.Int.{ints}
use Rattle.std.proofs.lemmas.Nat.Gcd.{le_of_dvd}
use Rattle.std.proofs.lemmas.List.Elements.{All-nil, All-cons, All-append}
use Rattle.hopf_num.specs.Divisors.{IsLcm}
use Rattle.hopf_num.specs.declared.room.Need.TheVariants.{CommonDenominator, Sum}
use Rattle.hopf_num.proofs.CommonDivisors.{gcd-exists, IsLcm-quotient}
use Rattle.hopf_num.proofs.Ring.{+ℤ-*ℤ, *ℤ_assoc}
use Rattle.basis_names.specs.declared.bases.BasisId.{BasisId}
use Rattle.basis_names.specs.declared.bases.BasisId.TheVariants.{QsymM, QsymF, NcsfS, NcsfL, NcsfR, FqsymF, FqsymG, WqsymM, FsymS, PbtP}
use Rattle.realisations.specs.Combinations.{Combination, norm_of, weighed}
use Rattle.realisations.specs.Readings.{Terms, Reading, leaf, occurrence, denominator, AgreeAt}
use Rattle.realisations.proofs.Agreement.{agree_refl, agree_trans, sum_agrees, times_turned}
use Rattle.realisations.proofs.Linearity.{weighed-append}
use Rattle.hopf_laws.specs.Bases.{least_limit}
use Rattle.hopf_laws.specs.Values.{Expansion, IsValue, reading_of, degree_of_value}
use Rattle.basis_routes.specs.declared.checks.Check.TheVariants.{SameRank, Joined, DegreeWithin, Room}
use Rattle.basis_routes.specs.Checks.{Passes}
use Rattle.basis_routes.specs.Conversions.{ConvertsFrom}
use Rattle.basis_routes.specs.JoinTable.{join_of}
use Rattle.basis_routes.specs.Joins.{joined, join_checks}
use Rattle.basis_routes.proofs.Degrees.{degree_within}
use Rattle.hopf_ops.specs.Operations.{SumRow, SumOver, sum_room, common_checks}
use Rattle.hopf_ops.specs.ReadingOperations.{sum_or_difference, negative}
use Rattle.text_laws.proofs.TermValues.{over, term_value, IsTerm, value_of_term}
use Rattle.text_laws.proofs.PartialSums.{over_bases, IsPart, HasFactor, norm-append}

-- Joins and conversions over the same bases.

joins : (basis : BasisId) → join_of basis basis ≡ Some basis
joins QsymM = refl
joins QsymF = refl
joins NcsfS = refl
joins NcsfL = refl
joins NcsfR = refl
joins FqsymF = refl
joins FqsymG = refl
joins WqsymM = refl
joins FsymS = refl
joins PbtP = refl

joined_same : (bases : List BasisId) → joined bases bases ≡ bases
joined_same [] = refl
joined_same (basis ∷ bases) = λ i. unwrap_or (joins basis i) basis ∷ joined_same bases i

joins_pass : (bases : List BasisId) → All Passes (join_checks bases bases)
joins_pass [] = All-nil Passes
joins_pass (basis ∷ bases) =
    let here : IsSome (join_of basis basis) = rw (joins basis) refl in
    All-cons Passes (Joined basis basis) (join_checks bases bases) here (joins_pass bases)

seen : (xs : List BasisId) (n : ℕ) (x : BasisId) (more : List BasisId) → drop n xs ≡ x ∷ more → (get_or xs n x ≡ x) × (drop (n + 1) xs ≡ more)
seen [] zero x more e = absurd (cc)
seen [] (suc n) x more e = absurd (cc)
seen (y ∷ xs) zero x more e = let same : y ≡ x = cc in let rest : xs ≡ more = cc in (same, rest)
seen (y ∷ xs) (suc n) x more e =
    let later = seen xs n x more e in
    let next : suc n + 1 ≡ suc (n + 1) = omega arith in
    (later.0, ap (λ k. drop k (y ∷ xs)) next ∙ later.1)

-- a value that has the bases stays as it is
converts_same : (v : Expansion) (n : ℕ) (news : List BasisId) → drop n v.bases ≡ news → ConvertsFrom n news v (Ok v)
converts_same v n [] e = refl
converts_same v n (new ∷ news) e =
    let here = seen v.bases n new news e in
    inl (v, inl (here.0, refl), converts_same v (n + 1) news here.1)

-- The sum rule.

-- a part of a sum, brought to a common denominator, is within the terms that it is of
part_room : (k d g den m a : ℕ) → d * g ≡ den → 1 ≤ den → 1 ≤ d → d ∣ m → m ∣ den → k * g ≤ a → k * (m / d) ≤ a
part_room k d g den m a whole positive some divides within le =
    let back : d * (m / d) ≡ m = mul-div_cancel' d divides in
    let below : m ≤ den = le_of_dvd positive within in
    let scaled : d * (m / d) ≤ d * g = omega (arith, back, below, whole) in
    let quotient : m / d ≤ g = le_of_mul-le-mul_left scaled some in
    let times : k * (m / d) ≤ k * g = mul-le-mul_left k quotient in
    omega (arith, times, le)

least_exists : (a b : ℕ) → 1 ≤ a → 1 ≤ b → (m : ℕ) × IsLcm a b m
least_exists a b some_a some_b = let g = gcd-exists a b in (a / g.0 * b, IsLcm-quotient a b g.0 some_a some_b g.1)

-- Readings.

-- a number with a sign
abbrev pub signed_number : Bool → ℕ → ℤ
signed_number false n = pos n
signed_number true n = negsuc 0 *ℤ pos n

module _ (bases : List BasisId) (den : ℕ) (ts : Terms) (num : ℤ) (key : List (List ℕ)) (n d : ℕ) where
  abbrev one_more : Terms
  one_more = ts ++ (num, key) ∷ []

  -- the second summand, with its sign, over the denominator
  summand_agrees : (minus : Bool) (o : ℤ) → signed_number minus n *ℤ pos den ≡ num *ℤ pos d → (y : ℤ) → y ≡ signed_number minus n *ℤ o → ((num *ℤ o) +ℤ pos 0) *ℤ pos d ≡ y *ℤ pos den
  summand_agrees minus o same y is =
      let s = signed_number minus n in
      let plain : (num *ℤ o) +ℤ pos 0 ≡ num *ℤ o = omega (arith, ints) in
      ap (λ z. z *ℤ pos d) plain ∙ times_turned num o (pos d) ∙ ap (λ z. z *ℤ o) (sym same) ∙ times_turned s (pos den) o ∙ ap (λ z. z *ℤ pos den) (sym is)

  -- sums over two denominators
  sums_are : (x z y : ℤ) (e : ℕ) → z *ℤ pos e ≡ y *ℤ pos den → (x +ℤ z) *ℤ pos (den * e) ≡ ((x *ℤ pos e) +ℤ (y *ℤ pos den)) *ℤ pos den
  sums_are x z y e same =
      ap (λ k. (x +ℤ z) *ℤ k) (sym (pos-*ℤ-pos den e) ∙ *ℤ_comm (pos den) (pos e)) ∙ *ℤ_assoc (x +ℤ z) (pos e) (pos den)
      ∙ ap (λ k. k *ℤ pos den) (+ℤ-*ℤ x z (pos e) ∙ ap (λ k. (x *ℤ pos e) +ℤ k) same)

  terms_agree : (minus : Bool) (ps : List (List ℕ)) → signed_number minus n *ℤ pos den ≡ num *ℤ pos d
      → AgreeAt (leaf bases den one_more) (sum_or_difference minus (leaf bases den ts) (reading_of (term_value bases (over n d) key))) ps
  terms_agree minus ps same = by_sign minus same
    where
      w : List (List ℕ) → ℤ
      w k = pos (occurrence bases k ps)

      whole : weighed w one_more ≡ weighed w ts +ℤ ((num *ℤ w key) +ℤ pos 0)
      whole = weighed-append w ts ((num, key) ∷ [])

      by_sign : (m : Bool) → signed_number m n *ℤ pos den ≡ num *ℤ pos d → AgreeAt (leaf bases den one_more) (sum_or_difference m (leaf bases den ts) (reading_of (term_value bases (over n d) key))) ps
      by_sign false same =
          let y : ℤ = (pos n *ℤ w key) +ℤ pos 0 in
          let is : y ≡ pos n *ℤ w key = omega (arith, ints) in
          ap (λ z. z *ℤ pos (den * d)) whole ∙ sums_are (weighed w ts) ((num *ℤ w key) +ℤ pos 0) y d (summand_agrees false (w key) same y is)
      by_sign true same =
          let y : ℤ = negsuc 0 *ℤ ((pos n *ℤ w key) +ℤ pos 0) in
          let plain : (pos n *ℤ w key) +ℤ pos 0 ≡ pos n *ℤ w key = omega (arith, ints) in
          let is : y ≡ (negsuc 0 *ℤ pos n) *ℤ w key = ap (λ z. negsuc 0 *ℤ z) plain ∙ *ℤ_assoc (negsuc 0) (pos n) (w key) in
          let one : 1 * d ≡ d = omega arith in
          subst (λ e. weighed w one_more *ℤ pos (den * e) ≡ ((weighed w ts *ℤ pos e) +ℤ (y *ℤ pos den)) *ℤ pos den) (sym one)
          (ap (λ z. z *ℤ pos (den * d)) whole ∙ sums_are (weighed w ts) ((num *ℤ w key) +ℤ pos 0) y d (summand_agrees true (w key) same y is))

  positive_sum : (minus : Bool) (a b : Reading) → 1 ≤ denominator a → 1 ≤ denominator b → 1 ≤ denominator (sum_or_difference minus a b)
  positive_sum false a b left right = let both = mul-pos {m = denominator a} {n = denominator b} left right in both
  positive_sum true a b left right = let both = mul-pos {m = denominator a} {n = 1 * denominator b} left (omega (arith, right)) in both

  first_agrees : (minus : Bool) (a a' b : Reading) (ps : List (List ℕ)) → AgreeAt a a' ps → AgreeAt (sum_or_difference minus a b) (sum_or_difference minus a' b) ps
  first_agrees false a a' b ps agree = sum_agrees a a' b b ps agree (agree_refl b ps)
  first_agrees true a a' b ps agree = sum_agrees a a' (negative b) (negative b) ps agree (agree_refl (negative b) ps)

  -- The row.
  pub sum_row : (minus : Bool) (c c' : Combination) → IsPart bases den ts c → IsPart bases den one_more c' → IsTerm bases (over n d) key → HasFactor n d (unsigned_abs num) den
      → signed_number minus n *ℤ pos den ≡ num *ℤ pos d → 1 ≤ den → den < 2 ^ 127 → norm_of one_more < 2 ^ 127
      → SumRow minus (over_bases bases c) (term_value bases (over n d) key) (Ok (over_bases bases c'))
  sum_row minus c c' part part' term has same positive small room = inl (checks, subst (λ targets. SumOver minus targets a b (Ok v)) (sym (joined_same bases)) converted)
    where
      a : Expansion
      a = over_bases bases c

      b : Expansion
      b = term_value bases (over n d) key

      v : Expansion
      v = over_bases bases c'

      some : 1 ≤ c.den
      some = part.value.canonical.lowest.positive

      value_b : IsValue b
      value_b = value_of_term bases (over n d) key term

      checks : All Passes (common_checks (max (degree_of_value a) (degree_of_value b)) a b)
      checks =
          let limit : least_limit (joined bases bases) ≡ least_limit bases = ap least_limit (joined_same bases) in
          let degree : max (degree_of_value a) (degree_of_value b) ≤ least_limit (joined bases bases) = omega (arith, limit, degree_within a part.value, degree_within b value_b) in
          let within = DegreeWithin (max (degree_of_value a) (degree_of_value b)) (least_limit (joined bases bases)) in
          All-cons Passes (SameRank (length bases) (length bases)) (join_checks bases bases ++ within ∷ []) refl
          (All-append Passes (join_checks bases bases) (within ∷ []) (joins_pass bases) (All-cons Passes within [] degree (All-nil Passes)))

      reads : (ps : List (List ℕ)) → AgreeAt (reading_of v) (sum_or_difference minus (reading_of a) (reading_of b)) ps
      reads ps =
          let l = leaf bases den ts in
          let l' = leaf bases den one_more in
          let middle = sum_or_difference minus l (reading_of b) in
          agree_trans (reading_of v) l' (sum_or_difference minus (reading_of a) (reading_of b)) ps positive (part'.reads ps)
          (agree_trans l' middle (sum_or_difference minus (reading_of a) (reading_of b)) ps (positive_sum minus l (reading_of b) positive term.fraction.positive)
          (terms_agree minus ps same) (first_agrees minus l (reading_of a) (reading_of b) ps (sym (part.reads ps))))

      m : (m : ℕ) × IsLcm c.den d m
      m = least_exists c.den d some term.fraction.positive

      passes : All Passes (sum_room m.0 a b)
      passes =
          let left : c.den ∣ den = subst (λ k. c.den ∣ k) part.den_is (dvd-mul_right c.den part.common) in
          let right : d ∣ den = subst (λ k. d ∣ k) has.den_is (dvd-mul_right d has.factor) in
          let within : m.0 ∣ den = m.1.2 den left right in
          let common = Room (CommonDenominator c.den d) in
          let sum = Room (Sum (norm_of c.terms) (m.0 / c.den) (norm_of ((pos n, key) ∷ [])) (m.0 / d)) in
          let unit : norm_of ((pos n, key) ∷ []) ≡ n = omega arith in
          let num_norm : norm_of ((num, key) ∷ []) ≡ unsigned_abs num = omega arith in
          let first : norm_of c.terms * (m.0 / c.den) ≤ norm_of ts = part_room (norm_of c.terms) c.den part.common den m.0 (norm_of ts) part.den_is positive some m.1.0 within part.norm_within in
          let second : n * (m.0 / d) ≤ unsigned_abs num = part_room n d has.factor den m.0 (unsigned_abs num) has.den_is positive term.fraction.positive m.1.1 within (omega (arith, has.num_is)) in
          let fits : norm_of c.terms * (m.0 / c.den) + norm_of ((pos n, key) ∷ []) * (m.0 / d) < 2 ^ 127 =
          omega (arith, first, second, ap (λ k. k * (m.0 / d)) unit, num_norm, norm-append ts ((num, key) ∷ []), room) in
          All-cons Passes common (sum ∷ []) (den, positive, left, right, small) (All-cons Passes sum [] fits (All-nil Passes))

      converted : SumOver minus bases a b (Ok v)
      converted = inl (a, converts_same a 0 bases refl, inl (b, converts_same b 0 bases refl, (m.0, m.1, inl (passes, (v, record { value = part'.value; over = refl; reads = λ ps points. reads ps }, refl)))))
