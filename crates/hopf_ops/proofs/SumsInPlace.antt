-- A sum that is made of its first operand.
use Rattle.std.proofs.Common.{◌≡◌, ℕ, ◌+◌, ◌*◌, ◌/◌, ◌^◌, ◌<◌, ◌≤◌, List, [], ◌∷◌, length, take, Result, Ok, Err, inl, inr, refl, sym, ◌∙◌, ap, subst, arith, unsigned_abs}
use Rattle.std.proofs.Math.IntN.{ℤ, pos, ◌+ℤ◌, ◌*ℤ◌, *ℤ_comm, *ℤ-one, pos-*ℤ-pos, one}
use Rattle.std.proofs.Math.Nat.{dvd-mul_left, dvd-mul_right, mul-div_cancel, pos_of_dvd_of_pos}
use Rattle.std.proofs.lemmas.Int.{ints}
use Rattle.std.specs.Int.{◌∣◌}
use Rattle.std.specs.Prelude.{All, Bool, true, false, if◌then◌else◌, neg_ℤ}
use Rattle.std.proofs.lemmas.List.{take_all}
use Rattle.std.proofs.lemmas.List.Elements.{All-nil, All-cons}
use Rattle.std.proofs.lemmas.Nat.Gcd.{dvd_refl, dvd_antisymm, le_of_dvd}
use Rattle.hopf_num.specs.Divisors.{IsLcm}
use Rattle.hopf_num.specs.Room.{HasRoom, IsFirstWithoutRoom, TestsRoom, sum_rule}
use Rattle.hopf_num.specs.declared.room.Need.{Need}
use Rattle.hopf_num.specs.declared.room.NumFault.{NumFault}
use Rattle.std.specs.Result.{is_err}
use Rattle.hopf_num.specs.declared.room.Need.TheVariants.{CommonDenominator, Sum}
use Rattle.realisations.specs.Combinations.{Combination, weighed}
use Rattle.linear_combos.specs.Combos.{IsMultiple}
use Rattle.realisations.proofs.Agreement.{times_turned}
use Rattle.hopf_num.proofs.Ring.{*ℤ_assoc, *ℤ-neg_ℤ, +ℤ-*ℤ}
use Rattle.hopf_ops.specs.Answers.{IsSumOrDifference}
use Rattle.hopf_ops.specs.Gathering.{AddsMultiple}

times_one : (z : ℤ) → z *ℤ pos 1 ≡ z
unfolding one
times_one z = *ℤ-one z

-- the factor of the second operand
abbrev SignOf : Bool → ℕ → ℤ
SignOf minus factor = if minus then (neg_ℤ (pos factor)) else (pos factor)

-- a negation and then a product
negated_times : (x y : ℤ) → neg_ℤ x *ℤ y ≡ neg_ℤ (x *ℤ y)
negated_times x y = *ℤ_comm (neg_ℤ x) y ∙ *ℤ-neg_ℤ y x ∙ ap neg_ℤ (*ℤ_comm y x)

-- a sum over the first denominator, which is the factor times the second, in the way of a sum
module _ (s : ℤ → ℤ) (turn : (x y : ℤ) → s x *ℤ y ≡ s (x *ℤ y)) (d e f : ℕ) (multiple : d ≡ f * e) where
  over_first : (x y z : ℤ) (o : ℕ) → z *ℤ pos d ≡ (x +ℤ (s (pos f) *ℤ y)) *ℤ pos o → z *ℤ (pos d *ℤ pos e) ≡ (x *ℤ pos e +ℤ s (y *ℤ pos d)) *ℤ pos o
  over_first x y z o is =
      let scaled : (pos f *ℤ y) *ℤ pos e ≡ y *ℤ pos d =
      ap (λ n. n *ℤ pos e) (*ℤ_comm (pos f) y) ∙ sym (*ℤ_assoc y (pos f) (pos e)) ∙ ap (λ n. y *ℤ n) (pos-*ℤ-pos f e ∙ ap pos (sym multiple)) in
      let right : (s (pos f) *ℤ y) *ℤ pos e ≡ s (y *ℤ pos d) = ap (λ n. n *ℤ pos e) (turn (pos f) y) ∙ turn (pos f *ℤ y) (pos e) ∙ ap s scaled in
      *ℤ_assoc z (pos d) (pos e) ∙ ap (λ n. n *ℤ pos e) is ∙ times_turned (x +ℤ (s (pos f) *ℤ y)) (pos o) (pos e)
      ∙ ap (λ n. n *ℤ pos o) (+ℤ-*ℤ x (s (pos f) *ℤ y) (pos e) ∙ ap (λ n. x *ℤ pos e +ℤ n) right)

-- the numerators of the first operand with a multiple of the second, over the first denominator
record IsGrown (a : Combination) (num : ℤ) (b c : Combination) : Type 0 where
  sum : Combination
  adds : AddsMultiple (record { rank = a.rank; den = 1; terms = a.terms }) num b.terms (length b.terms) sum
  over : IsMultiple sum (record { num = pos 1; den = a.den }) c

-- what it weighs
weighs_grown : (a : Combination) (num : ℤ) (b c : Combination) → IsGrown a num b c
    → (w : List (List ℕ) → ℤ) → weighed w c.terms *ℤ pos a.den ≡ (weighed w a.terms +ℤ (num *ℤ weighed w b.terms)) *ℤ pos c.den
weighs_grown a num b c is w =
    let all : take (length b.terms) b.terms ≡ b.terms = take_all (length b.terms) b.terms (omega arith) in
    let den : pos is.sum.den *ℤ pos a.den ≡ pos a.den = ap (λ n. pos n *ℤ pos a.den) is.adds.den ∙ *ℤ_comm (pos 1) (pos a.den) ∙ times_one (pos a.den) in
    ap (λ n. weighed w c.terms *ℤ n) (sym den) ∙ is.over.weighs w
    ∙ ap (λ n. n *ℤ pos c.den) (times_one (weighed w is.sum.terms) ∙ is.adds.weighs w ∙ ap (λ ts. weighed w a.terms +ℤ (num *ℤ weighed w ts)) all)

-- it is the sum or difference
is_sum_of_grown : (minus : Bool) (f : ℕ) (a b c : Combination) → a.den ≡ f * b.den → IsGrown a (SignOf minus f) b c → IsSumOrDifference minus a b c
is_sum_of_grown true f a b c multiple is = record {
  rank = is.over.rank ∙ is.adds.rank;
  weighs = λ w. over_first neg_ℤ negated_times a.den b.den f multiple (weighed w a.terms) (weighed w b.terms) (weighed w c.terms) c.den (weighs_grown a (neg_ℤ (pos f)) b c is w);
  keys = λ key has. is.adds.keys key (is.over.keys key has);
}
is_sum_of_grown false f a b c multiple is = record {
  rank = is.over.rank ∙ is.adds.rank;
  weighs = λ w. over_first (λ z. z) (λ x y. refl) a.den b.den f multiple (weighed w a.terms) (weighed w b.terms) (weighed w c.terms) c.den (weighs_grown a (pos f) b c is w);
  keys = λ key has. is.adds.keys key (is.over.keys key has);
}

-- in the parts that the code has
pub is_sum_of_terms : (minus : Bool) (f : ℕ) (num : ℤ) (a b sum c : Combination) → num ≡ SignOf minus f → a.den ≡ f * b.den
    → AddsMultiple (record { rank = a.rank; den = 1; terms = a.terms }) num b.terms (length b.terms) sum → IsMultiple sum (record { num = pos 1; den = a.den }) c
    → IsSumOrDifference minus a b c
is_sum_of_terms minus f num a b sum c sign multiple adds over =
    is_sum_of_grown minus f a b c multiple
    (subst (λ n. IsGrown a n b c) sign (record { sum = sum; adds = adds; over = over }))

-- the absolute value of the factor
size_of_sign : (minus : Bool) (f : ℕ) → unsigned_abs (SignOf minus f) ≡ f
size_of_sign true f = omega (arith, ints)
size_of_sign false f = refl

-- the multiple has room where the sum has
pub room_of_sign : (minus : Bool) (f : ℕ) (num : ℤ) (m n : ℕ) → num ≡ SignOf minus f → HasRoom (Sum m 1 n f) → m + unsigned_abs num * n < 2 ^ 127
room_of_sign minus f num m n sign room = rw (sign, size_of_sign minus f) (omega (arith, room))

-- the factor is no greater than the first denominator
pub factor-le : (d e f : ℕ) → d ≡ f * e → 1 ≤ d → f ≤ d
factor-le d e f multiple positive = le_of_dvd positive (subst (λ n. f ∣ n) (sym multiple) (dvd-mul_right f e))

module _ (d e f m left right : ℕ) (multiple : d ≡ f * e) (positive : 1 ≤ d) (small : d < 2 ^ 127) (least : IsLcm d e m) where
  second : 1 ≤ e
  second = pos_of_dvd_of_pos (subst (λ n. e ∣ n) (sym multiple) (dvd-mul_left e f)) positive

  second_divides : e ∣ d
  second_divides = subst (λ n. e ∣ n) (sym multiple) (dvd-mul_left e f)

  -- the first denominator is the least common multiple
  lcm_is_first : m ≡ d
  lcm_is_first = dvd_antisymm (least.2 d (dvd_refl d) second_divides) least.0

  common : HasRoom (CommonDenominator d e)
  common = (d, positive, dvd_refl d, second_divides, small)

  first_factor : m / d ≡ 1
  first_factor = ap (λ n. n / d) (lcm_is_first ∙ one_times d) ∙ mul-div_cancel 1 positive
    where
      one_times : (n : ℕ) → n ≡ 1 * n
      one_times n = omega arith

  second_factor : m / e ≡ f
  second_factor = ap (λ n. n / e) (lcm_is_first ∙ multiple) ∙ mul-div_cancel f second

  same_rule : sum_rule m d e left right ≡ CommonDenominator d e ∷ Sum left 1 right f ∷ []
  same_rule = λ i. CommonDenominator d e ∷ Sum left (first_factor i) right (second_factor i) ∷ []

  -- so the rule of a sum has room where the norms have
  pub rule_has_room : HasRoom (Sum left 1 right f) → All HasRoom (sum_rule m d e left right)
  rule_has_room room =
      subst (λ needs. All HasRoom needs) (sym same_rule)
      (All-cons HasRoom (CommonDenominator d e) (Sum left 1 right f ∷ []) common (All-cons HasRoom (Sum left 1 right f) [] room (All-nil HasRoom)))

  -- and else the norms are the first need without it
  pub rule_lacks_room : (HasRoom (Sum left 1 right f) → ⊥) → IsFirstWithoutRoom (sum_rule m d e left right) (Sum left 1 right f)
  rule_lacks_room lacks = subst (λ needs. IsFirstWithoutRoom needs (Sum left 1 right f)) (sym same_rule) (inr (common, inl (refl, lacks)))

-- a need has room where its test is no error
pub passes_test : {T : Type 0} (need : Need) (result : Result T NumFault) → TestsRoom (need ∷ []) result → is_err result ≡ false → HasRoom need
passes_test need (Ok value) tests right = tests 0 need (omega arith)
passes_test need (Err fault) tests right = absurd (cc)
