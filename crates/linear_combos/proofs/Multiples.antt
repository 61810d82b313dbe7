-- Multiples of terms: each numerator times a number.
use Rattle.std.proofs.Common.{◌≡◌, ◌≢◌, ℕ, ◌+◌, ◌*◌, ◌-◌, ◌^◌, ◌<◌, ◌≤◌, List, [], ◌∷◌, ◌++◌, length, set, take, drop, sym, ◌∙◌, ap, arith, unsigned_abs}
use Rattle.std.proofs.Math.IntN.{ℤ, pos, negsuc, ◌*ℤ◌, *ℤ-zero, zero-*ℤ}
use Rattle.std.proofs.Math.Nat.{eq_of_mul-eq-mul_right, mul-le-mul, mul-le-mul_right}
use Rattle.std.proofs.lemmas.Int.{ints, unsigned_abs-mul}
use Rattle.std.proofs.lemmas.List.{get_or-map, get_or_default, get_or-drop, get_or-append_right, length-map, length-append, length-take-le, length-drop}
use Rattle.std.proofs.lemmas.List.Edits.{map_over_more}
use Rattle.std.proofs.lemmas.List.Sums.{sum_by-cons}
use Rattle.hopf_num.specs.Fractions.{Ratio}
use Rattle.hopf_num.proofs.Ring.{+ℤ-*ℤ}
use Rattle.realisations.specs.Readings.{Terms}
use Rattle.realisations.specs.Combinations.{Combination, key_cmp, term_at, norm_of, weighed, IsCanonical}
use Rattle.realisations.proofs.Agreement.{times_turned}
use Rattle.linear_combos.specs.Combos.{IsMultiple}
use Rattle.linear_combos.specs.Merges.{AreMultiples, IsCommon, IsUnreduced, IsOver, multiples}
use Rattle.linear_combos.proofs.Edits.{zero_canonical}
use Rattle.linear_combos.proofs.Weights.{norm-more, norm-part}

abbrev multiple : ℤ → ℤ × List (List ℕ) → ℤ × List (List ℕ)
multiple p t = (t.0 *ℤ p, t.1)

-- no term is a multiple by 0
pub multiples_none : (ts : Terms) (p : ℤ) → p ≡ pos 0 → AreMultiples p ts []
multiples_none ts p none = record {
  terms = λ rank old. (zero_canonical rank).ordered;
  norm = rw none (omega arith);
  weighs = λ w. rw none (sym (*ℤ-zero (weighed w ts)));
  keys = λ key has. absurd (omega (arith, has.1));
}

-- the norm of multiples
norm-multiples : (p : ℤ) (ts : Terms) → norm_of (multiples p ts) ≡ norm_of ts * unsigned_abs p
norm-multiples p [] = omega arith
norm-multiples p (t ∷ ts) =
    let left = sum_by-cons (λ (u : ℤ × List (List ℕ)). unsigned_abs u.0) (multiple p t) (multiples p ts) in
    let right = ap (λ n. n * unsigned_abs p) (sum_by-cons (λ (u : ℤ × List (List ℕ)). unsigned_abs u.0) t ts) in
    omega (arith, left, right, unsigned_abs-mul t.0 p, norm-multiples p ts)

-- and what they weigh
weighed-multiples : (w : List (List ℕ) → ℤ) (p : ℤ) (ts : Terms) → weighed w (multiples p ts) ≡ weighed w ts *ℤ p
weighed-multiples w p [] = sym (zero-*ℤ p)
weighed-multiples w p (t ∷ ts) =
    let head : (t.0 *ℤ p) *ℤ w t.1 ≡ (t.0 *ℤ w t.1) *ℤ p = times_turned t.0 p (w t.1) in
    omega (arith, ints, head, weighed-multiples w p ts, +ℤ-*ℤ (t.0 *ℤ w t.1) (weighed w ts) p)

-- a product of numbers that are not 0
abs_zero : (z : ℤ) → unsigned_abs z ≡ 0 → z ≡ pos 0
abs_zero (pos n) e = ap pos e
abs_zero (negsuc n) e = absurd (omega arith)

times_nonzero : (a p : ℤ) → a ≢ pos 0 → p ≢ pos 0 → a *ℤ p ≢ pos 0
times_nonzero a p some other e =
    let positive : 0 < unsigned_abs p = omega (arith, not_zero p other) in
    let none : unsigned_abs a * unsigned_abs p ≡ 0 * unsigned_abs p = omega (arith, sym (unsigned_abs-mul a p), ap unsigned_abs e) in
    some (abs_zero a (eq_of_mul-eq-mul_right (unsigned_abs p) positive (unsigned_abs a) 0 none))
  where
    not_zero : (z : ℤ) → z ≢ pos 0 → unsigned_abs z ≢ 0
    not_zero z h e = h (abs_zero z e)

module _ (p : ℤ) (some : p ≢ pos 0) (ts : Terms) where
  term_of : (i : ℕ) → i < length ts → term_at (multiples p ts) i ≡ multiple p (term_at ts i)
  term_of i lt = get_or-map (multiple p) ts i (pos 0, []) (pos 0, []) lt

  size : length (multiples p ts) ≡ length ts
  size = length-map {B = ℤ × List (List ℕ)} ts (multiple p)

  key_of : (i : ℕ) → i < length ts → (term_at (multiples p ts) i).1 ≡ (term_at ts i).1
  key_of i lt = ap (λ t. t.1) (term_of i lt)

  -- multiples by another number
  pub multiples_some : norm_of ts * unsigned_abs p < 2 ^ 127 → AreMultiples p ts (multiples p ts)
  multiples_some room = record {
    terms = λ rank old. record {
      rising = λ i j less lt.
          let long = size in
          ap (λ k. key_cmp k ((term_at (multiples p ts) j).1)) (key_of i (omega arith))
          ∙ ap (key_cmp ((term_at ts i).1)) (key_of j (omega arith)) ∙ old.rising i j less (omega arith);
      nonzero = λ i lt.
          let long = size in
          λ e. times_nonzero (term_at ts i).0 p (old.nonzero i (omega arith)) some (sym (ap (λ t. t.0) (term_of i (omega arith))) ∙ e);
      ranks = λ i lt. let long = size in ap length (key_of i (omega arith)) ∙ old.ranks i (omega arith);
      small = omega (arith, norm-multiples p ts, room);
    };
    norm = norm-multiples p ts;
    weighs = λ w. weighed-multiples w p ts;
    keys = λ key has.
        let (i, lt, is) = has in
        let here : i < length ts = omega (arith, size, lt) in
        (i, here, sym (key_of i here) ∙ is);
  }

-- one more numerator multiplied in place
pub multiple_step : (p : ℤ) (ts us new : Terms) (i : ℕ) → i < length ts → us ≡ multiples p (take i ts) ++ drop i ts
    → new ≡ set us i ((term_at us i).0 *ℤ p, (term_at us i).1) → new ≡ multiples p (take (i + 1) ts) ++ drop (i + 1) ts
multiple_step p ts us new i lt so_far is =
    let long : length us ≡ length ts =
    omega (arith, ap length so_far, length-append (multiples p (take i ts)) (drop i ts), length-map {B = ℤ × List (List ℕ)} (take i ts) (multiple p), length-take-le i ts (omega arith), length-drop i ts) in
    let here : i < length us = omega (arith, long) in
    is ∙ map_over_more (multiple p) ts us i (term_at us i) lt so_far (get_or_default us i (pos 0, []) (term_at us i) here)

-- multiples over a multiple of the denominator
pub IsMultiple-multiples : (a c : Combination) (by : Ratio) (us : Terms) → AreMultiples by.num a.terms us → IsOver a.rank (a.den * by.den) us c → IsMultiple a by c
IsMultiple-multiples a c by us m is = record {
  rank = is.rank;
  weighs = λ w. is.weighs w ∙ ap (λ z. z *ℤ pos c.den) (m.weighs w);
  keys = λ key has. m.keys key (is.keys key has);
}

-- a term ahead is still as it was
pub term_ahead : (p : ℤ) (ts us : Terms) (i : ℕ) → i < length ts → us ≡ multiples p (take i ts) ++ drop i ts → term_at us i ≡ term_at ts i
term_ahead p ts us i lt so_far =
    let front : length (multiples p (take i ts)) ≡ i = length-map {B = ℤ × List (List ℕ)} (take i ts) (multiple p) ∙ length-take-le i ts (omega arith) in
    let at : i + (i - i) ≡ i = omega arith in
    ap (λ (l : Terms). term_at l i) so_far ∙ get_or-append_right (multiples p (take i ts)) (drop i ts) i i (pos 0, []) front (omega arith)
    ∙ get_or-drop i ts (i - i) (pos 0, []) ∙ ap (term_at ts) at

-- and its multiple has room
pub term_room : (ts : Terms) (p : ℤ) (i : ℕ) → i < length ts → norm_of ts * unsigned_abs p < 2 ^ 127 → unsigned_abs ((term_at ts i).0 *ℤ p) < 2 ^ 127
term_room ts p i lt room =
    let part : unsigned_abs (term_at ts i).0 ≤ norm_of ts = omega (arith, norm-more ts i lt, norm-part ts (i + 1)) in
    omega (arith, unsigned_abs-mul (term_at ts i).0 p, mul-le-mul_right (unsigned_abs p) part, room)

-- multiples over a multiple of the denominator are canonical but for common factors
pub IsUnreduced-multiples : (r den by : ℕ) (p : ℤ) (ts us : Terms) (norm g : ℕ) → IsCanonical r den ts → norm ≡ norm_of ts → 1 ≤ by → den * by < 2 ^ 127 → AreMultiples p ts us
    → IsCommon (den * by) us g → IsUnreduced r (den * by) us (norm * unsigned_abs p) g
IsUnreduced-multiples r den by p ts us norm g old size positive small m common = record {
  ordered = m.terms r old.ordered;
  positive = omega (arith, mul-le-mul old.lowest.positive positive);
  small = small;
  norm_is = ap (λ n. n * unsigned_abs p) size ∙ sym m.norm;
  common_is = common;
}
