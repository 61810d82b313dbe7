-- Terms in which the code of one component is replaced by the codes of terms over one basis.
use Rattle.std.proofs.Common.{◌≡◌, ℕ, suc, ◌*◌, ◌<◌, ◌≤◌, List, [], ◌∷◌, map, length, set, insert, remove, refl, sym, ◌∙◌, ap, arith, length-set, get_or-set_same, mul-le-mul_left, unsigned_abs}
use Rattle.std.proofs.Math.IntN.{ℤ, pos, ◌*ℤ◌, *ℤ-zero, pos-*ℤ-pos}
use Rattle.std.specs.List.{flat_map}
use Rattle.std.proofs.lemmas.Int.{ints, unsigned_abs-mul}
use Rattle.std.proofs.lemmas.List.Sums.{sum_by-cons, sum_by-append}
use Rattle.basis_names.specs.declared.bases.BasisId.{BasisId}
use Rattle.basis_names.specs.declared.bases.BasisId.TheVariants.{QsymM}
use Rattle.hopf_num.proofs.Ring.{*ℤ-+ℤ, *ℤ_assoc, +ℤ-*ℤ}
use Rattle.realisations.specs.Codes.{Code, Key}
use Rattle.realisations.specs.Combinations.{norm_of, weighed}
use Rattle.realisations.specs.Indices.{AreIndices}
use Rattle.realisations.specs.Lists.{one_if}
use Rattle.realisations.specs.Occurrence.{occurs}
use Rattle.realisations.specs.Points.{Point, Points}
use Rattle.realisations.specs.Readings.{Terms, leaf, numerator, occurrence}
use Rattle.realisations.proofs.Coefficients.{weighed_same}
use Rattle.realisations.proofs.Linearity.{weighed-append}
use Rattle.linear_combos.specs.Keys.{code_at}
use Rattle.change_laws.proofs.LiftedKeys.{length-indices}
use Rattle.separation_laws.specs.Conversions.{basis_at}
use Rattle.separation_laws.proofs.Components.{occurrence-insert, remove-set}
use Rattle.separation_laws.proofs.EachTerm.{EachKey, each-append, each_weaker}

-- one term: its code in component n replaced by those of terms of rank 1
abbrev pub expanded_term : ℕ → Terms → ℤ × Key → Terms
expanded_term n us t = map (λ (u : ℤ × Key). (t.0 *ℤ u.0, set t.1 n (code_at u.1 0))) us

-- all terms; what a code is replaced by depends on it
abbrev pub expanded : ℕ → (Code → Terms) → Terms → Terms
expanded n entries ts = flat_map (λ (t : ℤ × Key). expanded_term n (entries (code_at t.1 n)) t) ts

weighed-expanded_term : (w : Key → ℤ) (n : ℕ) (us : Terms) (t : ℤ × Key) → weighed w (expanded_term n us t) ≡ t.0 *ℤ weighed (λ k. w (set t.1 n (code_at k 0))) us
weighed-expanded_term w n [] t = sym (*ℤ-zero t.0)
weighed-expanded_term w n (u ∷ us) t =
    let x = w (set t.1 n (code_at u.1 0)) in
    omega (
      arith,
      ints,
      sym (*ℤ_assoc t.0 u.0 x),
      *ℤ-+ℤ t.0 (u.0 *ℤ x) (weighed (λ k. w (set t.1 n (code_at k 0))) us),
      weighed-expanded_term w n us t,
    )

-- the terms weigh what their keys weigh once replaced
pub weighed-expanded : (w : Key → ℤ) (n : ℕ) (entries : Code → Terms) (ts : Terms)
    → weighed w (expanded n entries ts) ≡ weighed (λ key. weighed (λ k. w (set key n (code_at k 0))) (entries (code_at key n))) ts
weighed-expanded w n entries [] = refl
weighed-expanded w n entries (t ∷ ts) =
    omega (
      arith,
      ints,
      weighed-append w (expanded_term n (entries (code_at t.1 n)) t) (expanded n entries ts),
      weighed-expanded_term w n (entries (code_at t.1 n)) t,
      weighed-expanded w n entries ts,
    )

-- what each key has once its code is replaced
each-expanded_term : (P : Key → Type 0) (n : ℕ) (us : Terms) (t : ℤ × Key) → EachKey (λ k. P (set t.1 n (code_at k 0))) us → EachKey P (expanded_term n us t)
each-expanded_term P n [] t h = tt
each-expanded_term P n (u ∷ us) t h = (h.0, each-expanded_term P n us t h.1)

pub each-expanded : (P Q : Key → Type 0) (n : ℕ) (entries : Code → Terms) (ts : Terms)
    → ((key : Key) → Q key → EachKey (λ k. P (set key n (code_at k 0))) (entries (code_at key n))) → EachKey Q ts → EachKey P (expanded n entries ts)
each-expanded P Q n entries [] shows h = tt
each-expanded P Q n entries (t ∷ ts) shows h =
    each-append (λ (u : ℤ × Key). P u.1) (expanded_term n (entries (code_at t.1 n)) t) (expanded n entries ts)
    (each-expanded_term P n (entries (code_at t.1 n)) t (shows t.1 h.0)) (each-expanded P Q n entries ts shows h.1)

norm-expanded_term : (n : ℕ) (us : Terms) (t : ℤ × Key) → norm_of (expanded_term n us t) ≡ unsigned_abs t.0 * norm_of us
norm-expanded_term n [] t = omega arith
norm-expanded_term n (u ∷ us) t =
    let size = λ (v : ℤ × Key). unsigned_abs v.0 in
    omega (
      arith,
      sum_by-cons size (t.0 *ℤ u.0, set t.1 n (code_at u.1 0)) (expanded_term n us t),
      ap (λ k. unsigned_abs t.0 * k) (sum_by-cons size u us),
      unsigned_abs-mul t.0 u.0,
      norm-expanded_term n us t,
    )

-- the norm grows at most by that of the terms in the place of a code
pub norm-expanded : (n m : ℕ) (entries : Code → Terms) (ts : Terms) → EachKey (λ key. norm_of (entries (code_at key n)) ≤ m) ts → norm_of (expanded n entries ts) ≤ norm_of ts * m
norm-expanded n m entries [] h = omega arith
norm-expanded n m entries (t ∷ ts) h =
    let size = λ (u : ℤ × Key). unsigned_abs u.0 in
    let first = expanded_term n (entries (code_at t.1 n)) t in
    let rest = expanded n entries ts in
    omega (
      arith,
      sum_by-append size first rest,
      ap (λ k. k * m) (sum_by-cons size t ts),
      norm-expanded_term n (entries (code_at t.1 n)) t,
      mul-le-mul_left (unsigned_abs t.0) h.0,
      norm-expanded n m entries ts h.1,
    )

-- a key occurs at a word in one component, its code there replaced, where the new code occurs at the word and its other codes at the points
pub occurrence-set : (n : ℕ) (bases : List BasisId) (to : BasisId) (key : Key) (qs : Points) (code : Code) (w : Point) → n < length bases → length key ≡ length bases → suc (length qs) ≡ length bases
    → occurrence (set bases n to) (set key n code) (insert qs n w) ≡ one_if (occurs to code w) * occurrence (remove bases n) (remove key n) qs
occurrence-set n bases to key qs code w lt same long =
    let bases_long = length-set bases n to in
    let key_long = length-set key n code in
    occurrence-insert n (set bases n to) (set key n code) qs w (omega arith) (omega arith) (omega arith)
    ∙ (λ i. one_if (occurs (get_or-set_same bases n to QsymM lt i) (get_or-set_same key n code [] (omega arith) i) w) * occurrence (remove-set bases n to i) (remove-set key n code i) qs)

-- a factor of all weights
weighed-times : (f : Key → ℕ) (r : ℕ) (us : Terms) → weighed (λ k. pos (f k * r)) us ≡ weighed (λ k. pos (f k)) us *ℤ pos r
weighed-times f r [] =
    let none : 0 * r ≡ 0 = omega arith in
    sym (pos-*ℤ-pos 0 r ∙ ap pos none)
weighed-times f r (u ∷ us) =
    omega (
      arith,
      ints,
      ap (λ z. u.0 *ℤ z) (sym (pos-*ℤ-pos (f u.1) r)),
      *ℤ_assoc u.0 (pos (f u.1)) (pos r),
      +ℤ-*ℤ (u.0 *ℤ pos (f u.1)) (weighed (λ k. pos (f k)) us) (pos r),
      weighed-times f r us,
    )

-- terms of rank 1 as an element at one word: their sum occurs there as the element of a code of another basis at another word
abbrev pub OccursAs : BasisId → Terms → Point → BasisId → Code → Point → Type 0
OccursAs to us p from code q = weighed (λ k. pos (one_if (occurs to (code_at k 0) p))) us ≡ pos (one_if (occurs from code q))

module _ (n : ℕ) (bases : List BasisId) (lt : n < length bases) (from to : BasisId) (is : basis_at bases n ≡ from) (entries : Code → Terms)
    (qs : Points) (long : suc (length qs) ≡ length bases) (p q : Point) where
  -- what one key weighs once its code is replaced
  at_key : (key : Key) → length key ≡ length bases → OccursAs to (entries (code_at key n)) p from (code_at key n) q
      → weighed (λ k. pos (occurrence (set bases n to) (set key n (code_at k 0)) (insert qs n p))) (entries (code_at key n)) ≡ pos (occurrence bases key (insert qs n q))
  at_key key same occur =
      let code = code_at key n in
      let r = occurrence (remove bases n) (remove key n) qs in
      (λ i. weighed (λ k. pos (occurrence-set n bases to key qs (code_at k 0) p lt same long i)) (entries code))
      ∙ weighed-times (λ k. one_if (occurs to (code_at k 0) p)) r (entries code)
      ∙ ap (λ z. z *ℤ pos r) occur
      ∙ pos-*ℤ-pos (one_if (occurs from code q)) r
      ∙ ap (λ basis. pos (one_if (occurs basis code q) * r)) (sym is)
      ∙ ap pos (sym (occurrence-insert n bases key qs q lt same long))

  -- where each code occurs at the one word as what replaces it does at the other, so do the terms
  pub numerator-expanded : (den den' : ℕ) (ts : Terms) → EachKey (λ key. AreIndices bases key × OccursAs to (entries (code_at key n)) p from (code_at key n) q) ts
      → numerator (leaf (set bases n to) den' (expanded n entries ts)) (insert qs n p) ≡ numerator (leaf bases den ts) (insert qs n q)
  numerator-expanded den den' ts each =
      weighed-expanded (λ k. pos (occurrence (set bases n to) k (insert qs n p))) n entries ts
      ∙ weighed_same
      (λ key. weighed (λ k. pos (occurrence (set bases n to) (set key n (code_at k 0)) (insert qs n p))) (entries (code_at key n)))
      (λ key. pos (occurrence bases key (insert qs n q))) ts
      (each_weaker (λ (t : ℤ × Key). AreIndices bases t.1 × OccursAs to (entries (code_at t.1 n)) p from (code_at t.1 n) q)
      (λ (t : ℤ × Key). weighed (λ k. pos (occurrence (set bases n to) (set t.1 n (code_at k 0)) (insert qs n p))) (entries (code_at t.1 n)) ≡ pos (occurrence bases t.1 (insert qs n q)))
      (λ t h. at_key t.1 (length-indices bases t.1 h.0) h.1) ts each)
