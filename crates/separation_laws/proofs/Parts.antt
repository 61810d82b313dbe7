-- The part of terms that has a code in one component: its coefficients, its canonical form and its reading.
use Rattle.std.proofs.Common.{◌≡◌, ◌≢◌, ℕ, zero, suc, ◌+◌, ◌*◌, ◌<◌, ◌≤◌, Bool, true, false, if◌then◌else◌, List, [], ◌∷◌, length, insert, remove, refl, sym, ◌∙◌, ap, arith, unsigned_abs}
use Rattle.std.proofs.Math.IntN.{ℤ, pos, ◌+ℤ◌, ◌*ℤ◌, *ℤ-zero}
use Rattle.std.specs.declared.cmp.Ordering.TheVariants.{Less}
use Rattle.std.proofs.lemmas.Int.{ints}
use Rattle.std.proofs.lemmas.List.Edits.{length-remove}
use Rattle.std.proofs.lemmas.List.Sums.{sum_by-cons}
use Rattle.basis_names.specs.declared.bases.BasisId.{BasisId}
use Rattle.realisations.specs.Codes.{Code, Key}
use Rattle.realisations.specs.Combinations.{AreTerms, HasRisingKeys, key_cmp, norm_of, weighed}
use Rattle.realisations.specs.Indices.{AreIndices}
use Rattle.realisations.specs.Lists.{one_if, same_list}
use Rattle.realisations.specs.Occurrence.{occurs}
use Rattle.realisations.specs.Points.{Point, Points}
use Rattle.realisations.specs.Readings.{Terms, leaf, numerator, occurrence}
use Rattle.realisations.proofs.Coefficients.{Each, Rising, coefficient, counts, each_from, rising_from}
use Rattle.basis_representatives.proofs.SameLists.{same_list-true}
use Rattle.linear_combos.specs.Keys.{code_at}
use Rattle.change_laws.proofs.LiftedKeys.{length-indices}
use Rattle.separation_laws.specs.Classes.{IsClassBasis}
use Rattle.separation_laws.specs.Conversions.{basis_at}
use Rattle.separation_laws.specs.FiniteTests.{part}
use Rattle.separation_laws.proofs.Components.{occurrence-insert}
use Rattle.separation_laws.proofs.EachTerm.{EachKey, each_both, each_term_at, each_weaker}
use Rattle.separation_laws.proofs.KeyOrder.{counts-insert, less-remove}

-- a weight that is one of the code in the component times one of the other codes weighs the part
pub weighed-part : (n : ℕ) (code : List ℕ) (f g : Key → ℕ) (ts : Terms) → EachKey (λ key. f key ≡ one_if (same_list code (code_at key n)) * g (remove key n)) ts
    → weighed (λ key. pos (f key)) ts ≡ weighed (λ key. pos (g key)) (part n code ts)
weighed-part n code f g [] h = refl
weighed-part n code f g (t ∷ ts) h = by_test (same_list code (code_at t.1 n)) h.0 (weighed-part n code f g ts h.1)
  where
    by_test : (b : Bool) → f t.1 ≡ one_if b * g (remove t.1 n) → weighed (λ key. pos (f key)) ts ≡ weighed (λ key. pos (g key)) (part n code ts)
        → t.0 *ℤ pos (f t.1) +ℤ weighed (λ key. pos (f key)) ts ≡ weighed (λ key. pos (g key)) (if b then (t.0, remove t.1 n) ∷ part n code ts else part n code ts)
    by_test true e ih =
        let same : f t.1 ≡ g (remove t.1 n) = omega arith in
        λ i. (t.0 *ℤ pos (same i)) +ℤ ih i
    by_test false e ih =
        let none : f t.1 ≡ 0 = omega arith in
        omega (arith, ints, ih, ap (λ k. t.0 *ℤ pos k) none, *ℤ-zero t.0)

-- the coefficients of the part are those of its code with the other codes
pub coefficient-part : (n : ℕ) (code : List ℕ) (others : Key) (ts : Terms) → EachKey (λ key. (n < length key) × (suc (length others) ≡ length key)) ts
    → coefficient ts (insert others n code) ≡ coefficient (part n code ts) others
coefficient-part n code others ts long =
    weighed-part n code (λ key. counts (key_cmp key (insert others n code))) (λ key. counts (key_cmp key others)) ts
    (each_weaker (λ (t : ℤ × Key). (n < length t.1) × (suc (length others) ≡ length t.1))
    (λ (t : ℤ × Key). counts (key_cmp t.1 (insert others n code)) ≡ one_if (same_list code (code_at t.1 n)) * counts (key_cmp (remove t.1 n) others))
    (λ t h. counts-insert n t.1 others code h.0 h.1) ts long)

-- over a class basis in the component the leaf reads at a word as the part of its class, over the other bases
pub numerator-part : (basis : BasisId) (class_of : Point → Code) (classes : IsClassBasis basis class_of) (n : ℕ) (bases : List BasisId) (den den' : ℕ) (ts : Terms) → n < length bases → basis_at bases n ≡ basis
    → EachKey (AreIndices bases) ts → (w : List ℕ) (qs : Points) → suc (length qs) ≡ length bases
    → numerator (leaf bases den ts) (insert qs n w) ≡ numerator (leaf (remove bases n) den' (part n (class_of w) ts)) qs
numerator-part basis class_of classes n bases den den' ts lt is indices w qs long =
    weighed-part n (class_of w) (λ key. occurrence bases key (insert qs n w)) (λ key. occurrence (remove bases n) key qs) ts
    (each_weaker (λ (t : ℤ × Key). AreIndices bases t.1)
    (λ (t : ℤ × Key). occurrence bases t.1 (insert qs n w) ≡ one_if (same_list (class_of w) (code_at t.1 n)) * occurrence (remove bases n) (remove t.1 n) qs)
    (λ t h.
    occurrence-insert n bases t.1 qs w lt (length-indices bases t.1 h) long
    ∙ ap (λ r. one_if (occurs r (code_at t.1 n) w) * occurrence (remove bases n) (remove t.1 n) qs) is
    ∙ ap (λ b. one_if b * occurrence (remove bases n) (remove t.1 n) qs) (classes.occurs_in (code_at t.1 n) w)) ts indices)

-- what each term with the code has once without it, each term of the part has
pub each-part : (P : ℤ × Key → Type 0) (n : ℕ) (code : List ℕ) (ts : Terms) → Each (λ (t : ℤ × Key). code ≡ code_at t.1 n → P (t.0, remove t.1 n)) ts → Each P (part n code ts)
each-part P n code [] h = tt
each-part P n code (t ∷ ts) h = by_test (same_list code (code_at t.1 n)) refl (each-part P n code ts h.1)
  where
    by_test : (b : Bool) → same_list code (code_at t.1 n) ≡ b → Each P (part n code ts) → Each P (if b then (t.0, remove t.1 n) ∷ part n code ts else part n code ts)
    by_test true e ih = (h.0 (same_list-true code (code_at t.1 n) e), ih)
    by_test false e ih = ih

-- the part has rising keys
rising-part : (n : ℕ) (code : List ℕ) (ts : Terms) → EachKey (λ key. n < length key) ts → Rising ts → Rising (part n code ts)
rising-part n code [] long rising = tt
rising-part n code (t ∷ ts) long rising = by_test (same_list code (code_at t.1 n)) refl (rising-part n code ts long.1 rising.1)
  where
    by_test : (b : Bool) → same_list code (code_at t.1 n) ≡ b → Rising (part n code ts) → Rising (if b then (t.0, remove t.1 n) ∷ part n code ts else part n code ts)
    by_test true e ih = (
      each-part (λ (u : ℤ × Key). key_cmp (remove t.1 n) u.1 ≡ Less) n code ts
          (each_weaker (λ (u : ℤ × Key). (n < length u.1) × (key_cmp t.1 u.1 ≡ Less))
          (λ (u : ℤ × Key). code ≡ code_at u.1 n → key_cmp (remove t.1 n) (remove u.1 n) ≡ Less)
          (λ u h here. less-remove n t.1 u.1 long.0 h.0 (sym (same_list-true code (code_at t.1 n) e) ∙ here) h.1) ts
          (each_both (λ (u : ℤ × Key). n < length u.1) (λ (u : ℤ × Key). key_cmp t.1 u.1 ≡ Less) ts long.1 rising.0)),
      ih,
    )
    by_test false e ih = ih

-- and a norm that is no larger
norm-part : (n : ℕ) (code : List ℕ) (ts : Terms) → norm_of (part n code ts) ≤ norm_of ts
norm-part n code [] = omega arith
norm-part n code (t ∷ ts) = by_test (same_list code (code_at t.1 n)) (norm-part n code ts)
  where
    by_test : (b : Bool) → norm_of (part n code ts) ≤ norm_of ts → norm_of (if b then (t.0, remove t.1 n) ∷ part n code ts else part n code ts) ≤ norm_of (t ∷ ts)
    by_test true ih =
        omega (arith, sum_by-cons (λ (u : ℤ × Key). unsigned_abs u.0) t ts, sum_by-cons (λ (u : ℤ × Key). unsigned_abs u.0) (t.0, remove t.1 n) (part n code ts))
    by_test false ih = omega (arith, sum_by-cons (λ (u : ℤ × Key). unsigned_abs u.0) t ts)

-- the two forms of rising keys
rising_to : (ts : Terms) → Rising ts → HasRisingKeys ts
rising_to [] r i j lt below = absurd (omega arith)
rising_to (t ∷ ts) r i zero lt below = absurd (omega arith)
rising_to (t ∷ ts) r zero (suc j) lt below = each_term_at (λ (u : ℤ × Key). key_cmp t.1 u.1 ≡ Less) ts r.0 j (omega arith)
rising_to (t ∷ ts) r (suc i) (suc j) lt below = rising_to ts r.1 i j (omega arith) (omega arith)

-- a part of canonical terms is canonical
pub terms-part : (n : ℕ) (bases : List BasisId) (code : List ℕ) (ts : Terms) → n < length bases → AreTerms (length bases) ts → AreTerms (length (remove bases n)) (part n code ts)
terms-part n bases code ts lt h =
    let fewer = length-remove bases n lt in
    let P = λ (t : ℤ × Key). (t.0 ≢ pos 0) × (length t.1 ≡ length (remove bases n)) in
    let long : EachKey (λ key. length key ≡ length bases) ts = each_from (λ (t : ℤ × Key). length t.1 ≡ length bases) ts h.ranks in
    let each : Each P (part n code ts) =
    each-part P n code ts
    (each_weaker (λ (t : ℤ × Key). (t.0 ≢ pos 0) × (length t.1 ≡ length bases)) (λ (t : ℤ × Key). code ≡ code_at t.1 n → P (t.0, remove t.1 n))
    (λ t k here. (k.0, fewer_codes t.1 k.1 fewer)) ts
    (each_both (λ (t : ℤ × Key). t.0 ≢ pos 0) (λ (t : ℤ × Key). length t.1 ≡ length bases) ts (each_from (λ (t : ℤ × Key). t.0 ≢ pos 0) ts h.nonzero) long)) in
    record {
      rising = rising_to (part n code ts) (rising-part n code ts (each_weaker (λ (t : ℤ × Key). length t.1 ≡ length bases) (λ (t : ℤ × Key). n < length t.1) (λ t k. omega arith) ts long) (rising_from ts h.rising));
      nonzero = λ i below. (each_term_at P (part n code ts) each i below).0;
      ranks = λ i below. (each_term_at P (part n code ts) each i below).1;
      small = let le = norm-part n code ts in let small = h.small in omega arith;
    }
  where
    fewer_codes : (key : Key) → length key ≡ length bases → length (remove bases n) + 1 ≡ length bases → length (remove key n) ≡ length (remove bases n)
    fewer_codes key same fewer = let e = length-remove key n (omega arith) in omega arith
