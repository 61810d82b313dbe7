-- Terms with the greatest common divisor of their denominator and numerators, and what is left once it is taken out.
use Rattle.std.proofs.Common.{◌≡◌, ◌≢◌, ℕ, suc, ◌+◌, ◌*◌, ◌/◌, ◌^◌, ◌<◌, ◌≤◌, List, [], ◌∷◌, ◌++◌, length, set, take, drop, int_div, refl, sym, ◌∙◌, ap, subst, arith, unsigned_abs}
use Rattle.std.proofs.Math.IntN.{ℤ, pos, ◌*ℤ◌, *ℤ-one, zero-*ℤ, pos-*ℤ-pos, one}
use Rattle.std.proofs.Math.Nat.{one-dvd, mul-div_cancel', mul-dvd-mul_left, dvd_of_mul-dvd-mul_left, pos_of_dvd_of_pos, div-le_self, mul-one, eq-one_of_dvd-one, mul-le-mul_right, mul-div_cancel_left}
use Rattle.std.specs.Int.{◌∣◌, IsGcd}
use Rattle.std.specs.List.{insert}
use Rattle.std.proofs.lemmas.Int.{ints}
use Rattle.std.proofs.lemmas.Nat.Gcd.{dvd_trans, le_of_dvd}
use Rattle.std.proofs.lemmas.List.{take_all, drop_all, length_push, get_or_push, get_or_append_left, get_or-map, get_or_default, get_or-take, length-map, length-append, length-take-le, length-drop}
use Rattle.std.proofs.lemmas.List.Edits.{map_over_more}
use Rattle.std.proofs.lemmas.List.Sums.{sum_by-cons, sum_by-insert}
use Rattle.hopf_num.proofs.Ring.{*ℤ_assoc, +ℤ-*ℤ}
use Rattle.hopf_num.proofs.LowestTerms.{abs-int_div, int_div-times, positive-quotient}
use Rattle.realisations.specs.Readings.{Terms}
use Rattle.realisations.specs.Combinations.{key_cmp, term_at, norm_of, weighed, HasKey, AreTerms, IsLowest, IsCanonical, AddsTerm}
use Rattle.linear_combos.specs.Combos.{IsGapFor}
use Rattle.linear_combos.specs.Merges.{IsCommon, IsUnreduced, IsOver, quotients}
use Rattle.realisations.proofs.Agreement.{times_turned}
use Rattle.linear_combos.proofs.Edits.{insert_terms, insert_each, adds-insert}

-- a term at the end stands in the last gap
pub push-insert : (ts : Terms) (n : ℤ) (key : List (List ℕ)) → ts ++ (n, key) ∷ [] ≡ insert ts (length ts) (n, key)
push-insert ts n key = simp (take_all (length ts) ts (omega arith), drop_all (length ts) ts (omega arith))

-- the common divisor with one numerator more
pub IsCommon-push : (den : ℕ) (ts : Terms) (n : ℤ) (key : List (List ℕ)) (g h : ℕ) → IsCommon den ts g → IsGcd (unsigned_abs n) g h
    → IsCommon den (ts ++ (n, key) ∷ []) h
IsCommon-push den ts n key g h old is = record {
  divides_den = dvd_trans h is.1 old.divides_den;
  divides = subst (λ (us : Terms). (i : ℕ) → i < length us → h ∣ unsigned_abs (term_at us i).0) (sym (push-insert ts n key))
      (insert_each ts (length ts) (n, key) (omega arith) (λ t. h ∣ unsigned_abs t.0) (λ i lt. dvd_trans h is.1 (old.divides i lt)) is.0);
  greatest = λ d p each.
      let size = length_push ts (n, key) in
      let last : d ∣ unsigned_abs n = subst (λ (t : ℤ × List (List ℕ)). d ∣ unsigned_abs t.0) (get_or_push ts (n, key) (pos 0, []) (length ts) refl) (each (length ts) (omega (arith, size))) in
      is.2 d last (old.greatest d p (λ i lt.
      subst (λ (t : ℤ × List (List ℕ)). d ∣ unsigned_abs t.0) (get_or_append_left ts ((n, key) ∷ []) (pos 0, []) i lt) (each i (omega (arith, size)))));
}

-- where the first numerators have no factor in common with the denominator, all have none
pub IsCommon-front : (den : ℕ) (ts : Terms) (n : ℕ) → n < length ts → IsCommon den (take n ts) 1 → IsCommon den ts 1
unfolding one
IsCommon-front den ts n within front = record {
  divides_den = one-dvd den;
  divides = λ i lt. one-dvd _;
  greatest = λ d p each. front.greatest d p (λ i lt.
      let size = length-take-le n ts (omega arith) in
      subst (λ (t : ℤ × List (List ℕ)). d ∣ unsigned_abs t.0) (sym (get_or-take n ts i (pos 0, []) (omega (arith, size)))) (each i (omega (arith, size))));
}

-- a term that is not 0 at the end
pub IsUnreduced-push : (r den : ℕ) (ts : Terms) (norm g h : ℕ) (n : ℤ) (key : List (List ℕ)) → IsUnreduced r den ts norm g →
    IsGapFor ts key (length ts) → n ≢ pos 0 → length key ≡ r → norm_of ts + unsigned_abs n < 2 ^ 127 → IsGcd (unsigned_abs n) g h →
    IsUnreduced r den (ts ++ (n, key) ∷ []) (norm + unsigned_abs n) h
IsUnreduced-push r den ts norm g h n key old gap nonzero ranked room is = record {
  ordered = subst (AreTerms r) (sym (push-insert ts n key)) (insert_terms r ts (length ts) n key old.ordered gap nonzero ranked room);
  positive = old.positive;
  small = old.small;
  norm_is = omega (arith, old.norm_is, ap norm_of (push-insert ts n key), sum_by-insert (λ t. unsigned_abs t.0) ts (length ts) (n, key));
  common_is = IsCommon-push den ts n key g h old.common_is is;
}

-- and a term at the end adds it
pub adds-push : (old new : Terms) (n : ℤ) (key : List (List ℕ)) → new ≡ old ++ (n, key) ∷ [] → AddsTerm old new n key
adds-push old new n key is = adds-insert old new (length old) n key (omega arith) (is ∙ push-insert old n key)

-- each numerator is a multiple of g
abbrev AreMultiples : ℕ → Terms → Type 0
AreMultiples g ts = (i : ℕ) → i < length ts → g ∣ unsigned_abs (term_at ts i).0

-- g times the norm of the quotients is the norm
norm-quotients : (g : ℕ) (ts : Terms) → AreMultiples g ts → g * norm_of (quotients g ts) ≡ norm_of ts
norm-quotients g [] each = omega arith
norm-quotients g (t ∷ ts) each =
    let head : g * (unsigned_abs t.0 / g) ≡ unsigned_abs t.0 = mul-div_cancel' g (each 0 (omega arith)) in
    let size : unsigned_abs (int_div t.0 (pos g)) ≡ unsigned_abs t.0 / g = abs-int_div t.0 g in
    let tail : g * norm_of (quotients g ts) ≡ norm_of ts = norm-quotients g ts (λ i lt. each (suc i) (omega arith)) in
    let left = sum_by-cons (λ (u : ℤ × List (List ℕ)). unsigned_abs u.0) (int_div t.0 (pos g), t.1) (quotients g ts) in
    let right = sum_by-cons (λ (u : ℤ × List (List ℕ)). unsigned_abs u.0) t ts in
    omega (arith, ap (λ n. g * n) left, ap (λ n. g * n) size, head, tail, right)

-- so the norm of the quotients is no larger
norm-quotients-le : (g : ℕ) (ts : Terms) → 1 ≤ g → AreMultiples g ts → norm_of (quotients g ts) ≤ norm_of ts
norm-quotients-le g ts positive each =
    let whole : g * norm_of (quotients g ts) ≡ norm_of ts = norm-quotients g ts each in
    let below : 1 * norm_of (quotients g ts) ≤ g * norm_of (quotients g ts) = mul-le-mul_right (norm_of (quotients g ts)) positive in
    omega (arith, whole, below)

-- the quotients weigh the g-th part
weighed-quotients : (w : List (List ℕ) → ℤ) (g : ℕ) (ts : Terms) → AreMultiples g ts → weighed w (quotients g ts) *ℤ pos g ≡ weighed w ts
weighed-quotients w g [] each = zero-*ℤ (pos g)
weighed-quotients w g (t ∷ ts) each =
    let q = int_div t.0 (pos g) in
    let head : (q *ℤ w t.1) *ℤ pos g ≡ t.0 *ℤ w t.1 = times_turned q (w t.1) (pos g) ∙ ap (λ z. z *ℤ w t.1) (int_div-times t.0 g (each 0 (omega arith))) in
    let tail : weighed w (quotients g ts) *ℤ pos g ≡ weighed w ts = weighed-quotients w g ts (λ i lt. each (suc i) (omega arith)) in
    omega (arith, ints, +ℤ-*ℤ (q *ℤ w t.1) (weighed w (quotients g ts)) (pos g), head, tail)

-- the quotient by 1
int_div-one : (n : ℤ) → int_div n (pos 1) ≡ n
unfolding one
int_div-one n = sym (*ℤ-one (int_div n (pos 1))) ∙ int_div-times n 1 (one-dvd _)

-- quotients by 1 are the terms themselves
pub quotients-one : (ts : Terms) → quotients 1 ts ≡ ts
quotients-one [] = refl
quotients-one (t ∷ ts) = λ i. (int_div-one t.0 i, t.1) ∷ quotients-one ts i

-- one more numerator divided in place
pub quotient_step : (g : ℕ) (ts us new : Terms) (i : ℕ) → i < length ts → us ≡ quotients g (take i ts) ++ drop i ts
    → new ≡ set us i (int_div (term_at us i).0 (pos g), (term_at us i).1) → new ≡ quotients g (take (i + 1) ts) ++ drop (i + 1) ts
quotient_step g ts us new i lt so_far is =
    let size : length us ≡ length ts =
    omega (arith, ap length so_far, length-append (quotients g (take i ts)) (drop i ts), length-map {B = ℤ × List (List ℕ)} (take i ts) (λ (t : ℤ × List (List ℕ)). (int_div t.0 (pos g), t.1)), length-take-le i ts (omega arith), length-drop i ts) in
    let here : i < length us = omega (arith, size) in
    is ∙ map_over_more (λ (t : ℤ × List (List ℕ)). (int_div t.0 (pos g), t.1)) ts us i (term_at us i) lt so_far (get_or_default us i (pos 0, []) (term_at us i) here)

-- a term of the quotients
term_at-quotients : (g : ℕ) (ts : Terms) (i : ℕ) → i < length ts → term_at (quotients g ts) i ≡ (int_div (term_at ts i).0 (pos g), (term_at ts i).1)
term_at-quotients g ts i lt = get_or-map (λ (t : ℤ × List (List ℕ)). (int_div t.0 (pos g), t.1)) ts i (pos 0, []) (pos 0, []) lt

module _ (g : ℕ) (ts : Terms) (positive : 1 ≤ g) (each : AreMultiples g ts) where
  -- the keys stay
  key-quotients : (i : ℕ) → i < length ts → (term_at (quotients g ts) i).1 ≡ (term_at ts i).1
  key-quotients i lt = ap (λ t. t.1) (term_at-quotients g ts i lt)

  -- as many terms
  length-quotients : length (quotients g ts) ≡ length ts
  length-quotients = length-map {B = ℤ × List (List ℕ)} ts (λ (t : ℤ × List (List ℕ)). (int_div t.0 (pos g), t.1))

  -- no quotient is 0
  nonzero-quotients : (i : ℕ) → i < length ts → (term_at ts i).0 ≢ pos 0 → (term_at (quotients g ts) i).0 ≢ pos 0
  nonzero-quotients i lt nonzero e =
      let q : int_div (term_at ts i).0 (pos g) ≡ pos 0 = sym (ap (λ t. t.0) (term_at-quotients g ts i lt)) ∙ e in
      nonzero (sym (int_div-times (term_at ts i).0 g (each i lt)) ∙ ap (λ z. z *ℤ pos g) q ∙ zero-*ℤ (pos g))

  -- the quotients are canonical terms
  AreTerms-quotients : (r : ℕ) → AreTerms r ts → AreTerms r (quotients g ts)
  AreTerms-quotients r old =
      let size = length-quotients in record {
        rising = λ i j less lt.
            ap (λ k. key_cmp k ((term_at (quotients g ts) j).1)) (key-quotients i (omega arith))
            ∙ ap (key_cmp ((term_at ts i).1)) (key-quotients j (omega arith)) ∙ old.rising i j less (omega arith);
        nonzero = λ i lt. nonzero-quotients i (omega arith) (old.nonzero i (omega arith));
        ranks = λ i lt. ap length (key-quotients i (omega arith)) ∙ old.ranks i (omega arith);
        small = omega (arith, norm-quotients-le g ts positive each, old.small);
      }

  -- no new key
  keys-quotients : (key : List (List ℕ)) → HasKey (quotients g ts) key → HasKey ts key
  keys-quotients key (i, lt, is) =
      let size = length-quotients in
      let here : i < length ts = omega arith in
      (i, here, sym (key-quotients i here) ∙ is)

  -- what divides the quotients and the quotient of the denominator is 1, where g is the greatest common divisor
  IsLowest-quotients : (den : ℕ) → 1 ≤ den → den < 2 ^ 127 → IsCommon den ts g → IsLowest (den / g) (quotients g ts)
  unfolding one
  IsLowest-quotients den some small is =
      let size = length-quotients in
      let whole : g * (den / g) ≡ den = mul-div_cancel' g is.divides_den in
      let below : den / g ≤ den = div-le_self den g in
      record {
        positive = positive-quotient den g some is.divides_den;
        small = omega (arith, below, small);
        coprime = λ d divides quotient.
            let up : (i : ℕ) → i < length ts → g * d ∣ unsigned_abs (term_at ts i).0 =
            λ i lt.
            let same : unsigned_abs (term_at (quotients g ts) i).0 ≡ unsigned_abs (term_at ts i).0 / g =
            ap (λ t. unsigned_abs t.0) (term_at-quotients g ts i lt) ∙ abs-int_div (term_at ts i).0 g in
            let down : d ∣ unsigned_abs (term_at ts i).0 / g = subst (λ n. d ∣ n) same (quotient i (omega arith)) in
            subst (λ n. g * d ∣ n) (mul-div_cancel' g (each i lt)) (mul-dvd-mul_left d g down)
            in
            let up_den : g * d ∣ den = subst (λ n. g * d ∣ n) whole (mul-dvd-mul_left d g divides) in
            let all : g * d ∣ g * 1 = subst (λ n. g * d ∣ n) (sym (mul-one g)) (is.greatest (g * d) up_den up) in
            eq-one_of_dvd-one (dvd_of_mul-dvd-mul_left _ positive all);
      }

-- the common divisor is positive, as the denominator is
pub common-positive : (r den : ℕ) (ts : Terms) (norm g : ℕ) → IsUnreduced r den ts norm g → 1 ≤ g
common-positive r den ts norm g is = pos_of_dvd_of_pos is.common_is.divides_den is.positive

-- and it is at most the denominator
pub common-small : (r den : ℕ) (ts : Terms) (norm g : ℕ) → IsUnreduced r den ts norm g → g < 2 ^ 127
common-small r den ts norm g is =
    let below : g ≤ den = le_of_dvd is.positive is.common_is.divides_den in omega (arith, below, is.small)

-- without the common divisor all is canonical
pub IsCanonical-quotients : (r den : ℕ) (ts : Terms) (norm g : ℕ) → IsUnreduced r den ts norm g
    → IsCanonical r (den / g) (quotients g ts) × (norm / g ≡ norm_of (quotients g ts))
IsCanonical-quotients r den ts norm g is =
    let some : 1 ≤ g = common-positive r den ts norm g is in
    let each = is.common_is.divides in
    let whole : norm ≡ g * norm_of (quotients g ts) = is.norm_is ∙ sym (norm-quotients g ts each) in (
      record {
        ordered = AreTerms-quotients g ts some each r is.ordered;
        lowest = IsLowest-quotients g ts some each den is.positive is.small is.common_is;
      },
      ap (λ n. n / g) whole ∙ mul-div_cancel_left (norm_of (quotients g ts)) some,
    )

-- and it is the same combination
pub IsOver-quotients : (r den : ℕ) (ts : Terms) (norm g : ℕ) → IsUnreduced r den ts norm g
    → IsOver r den ts (record { rank = r; den = den / g; terms = quotients g ts })
IsOver-quotients r den ts norm g is =
    let some : 1 ≤ g = common-positive r den ts norm g is in
    let each = is.common_is.divides in
    let whole : g * (den / g) ≡ den = mul-div_cancel' g is.common_is.divides_den in record {
      rank = refl;
      weighs = λ w.
          ap (λ n. weighed w (quotients g ts) *ℤ pos n) (sym whole) ∙ ap (λ z. weighed w (quotients g ts) *ℤ z) (sym (pos-*ℤ-pos g (den / g)))
          ∙ *ℤ_assoc (weighed w (quotients g ts)) (pos g) (pos (den / g)) ∙ ap (λ z. z *ℤ pos (den / g)) (weighed-quotients w g ts each);
      keys = keys-quotients g ts some each;
      den_within = div-le_self den g;
      norm_within = norm-quotients-le g ts some each;
    }
