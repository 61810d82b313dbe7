-- A canonical combination is determined by its coefficients over its denominator.
use Rattle.std.proofs.Common.{◌≡◌, ◌≢◌, ℕ, zero, suc, ◌*◌, ◌/◌, ◌<◌, ◌≤◌, [], ◌∷◌, length, map, drop, refl, sym, ◌∙◌, ap, subst, arith, unsigned_abs}
use Rattle.std.proofs.Math.IntN.{ℤ, pos, ◌*ℤ◌, *ℤ_comm, zero-*ℤ}
use Rattle.std.proofs.lemmas.Int.{ints, unsigned_abs-mul}
use Rattle.std.specs.Int.{◌∣◌, IsGcd}
use Rattle.std.specs.declared.cmp.Ordering.TheVariants.{Less}
use Rattle.std.proofs.Math.Nat.{dvd-mul_left, dvd_of_mul-dvd-mul_left, mul-div_cancel', pos_of_dvd_of_pos, mul_assoc, mul_comm, mul-one}
use Rattle.std.proofs.lemmas.Nat.Gcd.{dvd_antisymm}
use Rattle.realisations.specs.Readings.{Terms}
use Rattle.realisations.specs.Combinations.{Combination, IsCanonical, IsLowest, HasKey, key_cmp, term_at, weighed}
use Rattle.hopf_num.proofs.CommonDivisors.{gcd-exists, dvd-times_coprime, IsGcd-quotients}
use Rattle.hopf_num.proofs.Ring.{+ℤ-*ℤ, *ℤ_assoc, *ℤ-pos_cancel}
use Rattle.realisations.proofs.Coefficients.{Codes, coefficient, IsTermOf, Each, Rising, each_from, rising_from, same_terms}

-- terms with their numerators times n
abbrev pub scaled : ℕ → Terms → Terms
scaled n ts = map (λ t. (t.0 *ℤ pos n, t.1)) ts

-- what each key has, each key has still
pub each-scaled : (P : Codes → Type 0) (n : ℕ) (ts : Terms) → Each (λ (t : ℤ × Codes). P t.1) ts → Each (λ (t : ℤ × Codes). P t.1) (scaled n ts)
each-scaled P n [] h = tt
each-scaled P n (t ∷ ts) h = (h.0, each-scaled P n ts h.1)

rising-scaled : (n : ℕ) (ts : Terms) → Rising ts → Rising (scaled n ts)
rising-scaled n [] h = tt
rising-scaled n (t ∷ ts) h = (each-scaled (λ k. key_cmp t.1 k ≡ Less) n ts h.0, rising-scaled n ts h.1)

nonzero-times : (z : ℤ) (n : ℕ) → 1 ≤ n → z ≢ pos 0 → z *ℤ pos n ≢ pos 0
nonzero-times z n positive h = λ e. h (*ℤ-pos_cancel z (pos 0) n positive (e ∙ sym (zero-*ℤ (pos n))))

terms-scaled : (P : Codes → Type 0) (n : ℕ) (ts : Terms) → 1 ≤ n → Each (IsTermOf P) ts → Each (IsTermOf P) (scaled n ts)
terms-scaled P n [] positive h = tt
terms-scaled P n (t ∷ ts) positive h = ((nonzero-times t.0 n positive h.0.0, h.0.1), terms-scaled P n ts positive h.1)

-- they weigh n times as much
pub weighed-scaled : (f : Codes → ℤ) (n : ℕ) (ts : Terms) → weighed f (scaled n ts) ≡ weighed f ts *ℤ pos n
weighed-scaled f n [] = sym (zero-*ℤ (pos n))
weighed-scaled f n (t ∷ ts) =
    let w = f t.1 in
    let head : (t.0 *ℤ pos n) *ℤ w ≡ (t.0 *ℤ w) *ℤ pos n = sym (*ℤ_assoc t.0 (pos n) w) ∙ ap (λ z. t.0 *ℤ z) (*ℤ_comm (pos n) w) ∙ *ℤ_assoc t.0 w (pos n) in
    omega (arith, ints, head, weighed-scaled f n ts, +ℤ-*ℤ (t.0 *ℤ w) (weighed f ts) (pos n))

-- term by term the same keys, and the same numerators over m and over n
abbrev SameRatios : ℕ → ℕ → Terms → Terms → Type 0
SameRatios m n [] [] = Unit {0}
SameRatios m n [] (u ∷ us) = ⊥
SameRatios m n (t ∷ ts) [] = ⊥
SameRatios m n (t ∷ ts) (u ∷ us) = (t.0 *ℤ pos n ≡ u.0 *ℤ pos m) × (t.1 ≡ u.1) × SameRatios m n ts us

ratios_from : (m n : ℕ) (ts us : Terms) → scaled n ts ≡ scaled m us → SameRatios m n ts us
ratios_from m n [] [] e = tt
ratios_from m n [] (u ∷ us) e = absurd (omega (arith, ap length e))
ratios_from m n (t ∷ ts) [] e = absurd (omega (arith, ap length e))
ratios_from m n (t ∷ ts) (u ∷ us) e =
    let first = ap (λ l. term_at l 0) e in
    (ap (λ (v : ℤ × Codes). v.0) first, ap (λ (v : ℤ × Codes). v.1) first, ratios_from m n ts us (ap (λ (l : Terms). drop 1 l) e))

same_from_ratios : (n : ℕ) (ts us : Terms) → 1 ≤ n → SameRatios n n ts us → ts ≡ us
same_from_ratios n [] [] positive h = refl
same_from_ratios n [] (u ∷ us) positive h = absurd h
same_from_ratios n (t ∷ ts) [] positive h = absurd h
same_from_ratios n (t ∷ ts) (u ∷ us) positive h =
    let num = *ℤ-pos_cancel t.0 u.0 n positive h.0 in
    let rest = same_from_ratios n ts us positive h.2 in
    λ i. (num i, h.1 i) ∷ rest i

ratios-turned : (m n : ℕ) (ts us : Terms) → SameRatios m n ts us → SameRatios n m us ts
ratios-turned m n [] [] h = tt
ratios-turned m n [] (u ∷ us) h = absurd h
ratios-turned m n (t ∷ ts) [] h = absurd h
ratios-turned m n (t ∷ ts) (u ∷ us) h = (sym h.0, sym h.1, ratios-turned m n ts us h.2)

-- the denominator divides each numerator times the other denominator
ratios-divide : (m n : ℕ) (ts us : Terms) → SameRatios m n ts us → Each (λ (t : ℤ × Codes). m ∣ unsigned_abs t.0 * n) ts
ratios-divide m n [] us h = tt
ratios-divide m n (t ∷ ts) [] h = absurd h
ratios-divide m n (t ∷ ts) (u ∷ us) h =
    let same : unsigned_abs u.0 * m ≡ unsigned_abs t.0 * n = sym (unsigned_abs-mul u.0 (pos m)) ∙ ap unsigned_abs (sym h.0) ∙ unsigned_abs-mul t.0 (pos n) in
    (subst (λ k. m ∣ k) same (dvd-mul_left m (unsigned_abs u.0)), ratios-divide m n ts us h.2)

each_at : (P : ℤ × Codes → Type 0) (ts : Terms) → Each P ts → (i : ℕ) → i < length ts → P (term_at ts i)
each_at P [] h i lt = absurd (omega arith)
each_at P (t ∷ ts) h zero lt = h.0
each_at P (t ∷ ts) h (suc i) lt = each_at P ts h.1 i (omega arith)

-- a denominator in lowest terms that divides each numerator times n divides n
lowest-divides : (m n : ℕ) (ts : Terms) → 1 ≤ n → IsLowest m ts → Each (λ (t : ℤ × Codes). m ∣ unsigned_abs t.0 * n) ts → m ∣ n
lowest-divides m n ts positive lowest h =
    let (g, is) = gcd-exists m n in
    let some : 0 < g = pos_of_dvd_of_pos is.1 positive in
    let left : g * (m / g) ≡ m = mul-div_cancel' g is.0 in
    let right : g * (n / g) ≡ n = mul-div_cancel' g is.1 in
    let part : (m / g) ∣ m = subst (λ k. (m / g) ∣ k) left (dvd-mul_left (m / g) g) in
    let one_left : m / g ≡ 1 = lowest.coprime (m / g) part (λ i lt. divides g is some left right (unsigned_abs (term_at ts i).0) (each_at _ ts h i lt)) in
    let same : g ≡ m = sym (mul-one g) ∙ ap (λ k. g * k) (sym one_left) ∙ left in
    subst (λ k. k ∣ n) same is.1
  where
    divides : (g : ℕ) → IsGcd m n g → 0 < g → g * (m / g) ≡ m → g * (n / g) ≡ n → (a : ℕ) → m ∣ a * n → (m / g) ∣ a
    divides g is some left right a h =
        let regroup : a * n ≡ g * (n / g * a) = ap (λ k. a * k) (sym right) ∙ mul_comm a (g * (n / g)) ∙ mul_assoc g (n / g) a in
        let down : (m / g) ∣ n / g * a = dvd_of_mul-dvd-mul_left _ some (subst (λ k. g * (m / g) ∣ k) regroup (subst (λ k. k ∣ a * n) (sym left) h)) in
        dvd-times_coprime _ _ _ (IsGcd-quotients m n g some is) down

-- canonical combinations with the same ratios are the same
same_combination : (c d : Combination) → c.rank ≡ d.rank → IsLowest c.den c.terms → IsLowest d.den d.terms → SameRatios c.den d.den c.terms d.terms → c ≡ d
same_combination c d rank hc hd same =
    let den : c.den ≡ d.den =
    dvd_antisymm (lowest-divides c.den d.den c.terms hd.positive hc (ratios-divide c.den d.den c.terms d.terms same))
    (lowest-divides d.den c.den d.terms hc.positive hd (ratios-divide d.den c.den d.terms c.terms (ratios-turned c.den d.den c.terms d.terms same))) in
    let terms : c.terms ≡ d.terms = same_from_ratios d.den c.terms d.terms hd.positive (subst (λ n. SameRatios n d.den c.terms d.terms) den same) in
    λ i. record { rank = rank i; den = den i; terms = terms i }

-- each term has a numerator other than 0 and a key of a kind
terms_of_kind : (P : Codes → Type 0) (rank den : ℕ) (ts : Terms) → IsCanonical rank den ts → ((key : Codes) → HasKey ts key → P key) → Each (IsTermOf P) ts
terms_of_kind P rank den ts h kind = each_from _ ts (λ i lt. (h.ordered.nonzero i lt, kind ((term_at ts i).1) (i, lt, refl)))

-- canonical combinations of one rank, over keys of a kind, with the same coefficients over their denominators are the same
pub same_by_coefficients : (P : Codes → Type 0) (c d : Combination) → IsCanonical c.rank c.den c.terms → IsCanonical d.rank d.den d.terms → c.rank ≡ d.rank
    → ((key : Codes) → HasKey c.terms key → P key) → ((key : Codes) → HasKey d.terms key → P key)
    → ((key : Codes) → P key → coefficient (scaled d.den c.terms) key ≡ coefficient (scaled c.den d.terms) key)
    → c ≡ d
same_by_coefficients P c d hc hd rank kc kd same =
    same_combination c d rank hc.lowest hd.lowest
    (ratios_from c.den d.den c.terms d.terms
    (same_terms P (scaled d.den c.terms) (scaled c.den d.terms)
    (rising-scaled d.den c.terms (rising_from c.terms hc.ordered.rising)) (rising-scaled c.den d.terms (rising_from d.terms hd.ordered.rising))
    (terms-scaled P d.den c.terms hd.lowest.positive (terms_of_kind P c.rank c.den c.terms hc kc))
    (terms-scaled P c.den d.terms hc.lowest.positive (terms_of_kind P d.rank d.den d.terms hd kd))
    same))
