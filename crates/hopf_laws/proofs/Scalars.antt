-- Combinations of rank 0: at most one term, a number.
use Rattle.std.proofs.Common.{◌≡◌, ℕ, zero, suc, ◌<◌, ◌⊎◌, inl, inr, List, [], ◌∷◌, length, refl, sym, ◌∙◌, ap, subst, arith, unsigned_abs}
use Rattle.std.proofs.Math.IntN.{ℤ, pos, negsuc, ◌*ℤ◌, *ℤ_comm, *ℤ-one, one}
use Rattle.std.proofs.Math.Nat.{one-dvd}
use Rattle.std.proofs.lemmas.Int.{ints}
use Rattle.std.proofs.lemmas.Nat.Gcd.{dvd_refl}
use Rattle.std.specs.declared.cmp.Ordering.TheVariants.{Less, Equal}
use Rattle.std.specs.Int.{◌∣◌}
use Rattle.hopf_num.specs.Fractions.{Ratio, IsFraction}
use Rattle.hopf_num.proofs.LowestTerms.{fraction-unique}
use Rattle.realisations.specs.Combinations.{Combination, AreTerms, IsLowest, IsCanonical, norm_of, key_cmp, term_at, terms_of, weighed}
use Rattle.linear_combos.specs.Combos.{IsMultiple}
use Rattle.realisations.specs.Readings.{Terms, leaf, occurrence, numerator}
use Rattle.basis_names.specs.declared.bases.BasisId.{BasisId}
use Rattle.hopf_laws.specs.Values.{Expansion, IsValue, ratio_of}

-- the number of terms of rank 0
abbrev pub number_of : Terms → ℤ
number_of [] = pos 0
number_of (t ∷ ts) = t.0

-- it is the first numerator, and 0 where there is none
pub number_of-first : (ts : Terms) → number_of ts ≡ (term_at ts 0).0
number_of-first [] = refl
number_of-first (t ∷ ts) = refl

pub number_of-none : (ts : Terms) → length ts ≡ 0 → number_of ts ≡ pos 0
number_of-none [] e = refl
number_of-none (t ∷ ts) e = absurd (omega arith)

no_codes : (key : List (List ℕ)) → length key ≡ 0 → key ≡ []
no_codes [] e = refl
no_codes (code ∷ key) e = absurd (omega arith)

-- terms of rank 0 are none, or one
pub scalar_terms : (ts : Terms) → AreTerms 0 ts → (ts ≡ []) ⊎ (ts ≡ (number_of ts, []) ∷ [])
scalar_terms [] h = inl refl
scalar_terms (t ∷ []) h =
    let key : t.1 ≡ [] = no_codes t.1 (h.ranks 0 (omega arith)) in
    inr (λ i. (t.0, key i) ∷ [])
scalar_terms (t ∷ u ∷ ts) h =
    let first : t.1 ≡ [] = no_codes t.1 (h.ranks 0 (omega arith)) in
    let second : u.1 ≡ [] = no_codes u.1 (h.ranks 1 (omega arith)) in
    let less : key_cmp t.1 u.1 ≡ Less = h.rising 0 1 (omega arith) (omega arith) in
    let equal : Equal ≡ Less = sym (λ i. key_cmp (first i) (second i)) ∙ less in
    absurd (cc)

pub numerator-scalar : (den : ℕ) (ts : Terms) → AreTerms 0 ts → numerator (leaf [] den ts) [] ≡ number_of ts
unfolding one
numerator-scalar den ts h = elim (scalar_terms ts h) [
  | inl none ↦ ap (λ us. numerator (leaf [] den us) []) none ∙ ap number_of (sym none)
  | inr some ↦ ap (λ us. numerator (leaf [] den us) []) some ∙ omega (arith, ints, *ℤ-one (number_of ts))
]

pub norm-scalar : (ts : Terms) → AreTerms 0 ts → norm_of ts ≡ unsigned_abs (number_of ts)
norm-scalar ts h = elim (scalar_terms ts h) [
  | inl none ↦ ap norm_of none ∙ ap (λ us. unsigned_abs (number_of us)) (sym none)
  | inr some ↦ ap norm_of some ∙ omega arith
]

-- a scalar in lowest terms is a fraction
pub fraction-scalar : (den : ℕ) (ts : Terms) → AreTerms 0 ts → IsLowest den ts → IsFraction (record { num = number_of ts; den = den })
fraction-scalar den ts h lowest = record {
  positive = lowest.positive;
  lowest = (one-dvd _, one-dvd _, λ d p q. subst (λ n. n ∣ 1) (sym (lowest.coprime d q (divides d p))) (dvd_refl 1));
  num_small = omega (arith, h.small, norm-scalar ts h);
  den_small = lowest.small;
}
  where
    divides : (d : ℕ) → d ∣ unsigned_abs (number_of ts) → (i : ℕ) → i < length ts → d ∣ unsigned_abs (term_at ts i).0
    divides d p i lt = elim (scalar_terms ts h) [
      | inl none ↦ absurd (omega (arith, lt, ap length none))
      | inr some ↦
          let only : i ≡ 0 = omega (arith, lt, ap length some) in
          subst (λ n. d ∣ unsigned_abs n) (ap (λ us. (term_at us 0).0) (sym some) ∙ ap (λ k. (term_at ts k).0) (sym only)) p
    ]

pub no_bases : (bases : List BasisId) → length bases ≡ 0 → bases ≡ []
no_bases [] e = refl
no_bases (basis ∷ bases) e = absurd (omega arith)

-- a scalar is the number of its terms over its denominator
pub ratio-scalar : (v : Expansion) → IsValue v → length v.bases ≡ 0 → ratio_of v ≡ record { num = number_of v.combination.terms; den = v.combination.den }
ratio-scalar v is none =
    let terms : AreTerms 0 v.combination.terms = subst (λ n. AreTerms n v.combination.terms) (is.rank ∙ none) is.canonical.ordered in
    (λ i. record { num = numerator (leaf ((no_bases v.bases none i)) v.combination.den v.combination.terms) []; den = v.combination.den })
    ∙ (λ i. record { num = numerator-scalar v.combination.den v.combination.terms terms i; den = v.combination.den })

-- a number as terms reads as the number
weighed-number : (n : ℤ) → weighed (λ key. pos (occurrence [] key [])) (terms_of n []) ≡ n
unfolding one
weighed-number (pos zero) = refl
weighed-number (pos (suc n)) = omega (arith, ints, *ℤ-one (pos (suc n)))
weighed-number (negsuc n) = omega (arith, ints, *ℤ-one (negsuc n))

-- a numerator over a denominator, brought to lowest terms, is the fraction that it was
pub number-over : (number : Ratio) (whole c : Combination) → IsFraction number → whole ≡ record { rank = 0; den = 1; terms = terms_of number.num [] }
    → IsMultiple whole (record { num = pos 1; den = number.den }) c → IsCanonical c.rank c.den c.terms
    → record { num = numerator (leaf [] c.den c.terms) []; den = c.den } ≡ number
unfolding one
number-over number whole c is e over canonical =
    let over' = subst (λ (x : Combination). IsMultiple x (record { num = pos 1; den = number.den }) c) e over in
    let terms : AreTerms 0 c.terms = subst (λ n. AreTerms n c.terms) over'.rank canonical.ordered in
    let reads : number_of c.terms *ℤ pos number.den ≡ number.num *ℤ pos c.den =
    (λ i. sym (numerator-scalar c.den c.terms terms) i *ℤ sym (*ℤ_comm (pos 1) (pos number.den) ∙ *ℤ-one (pos number.den)) i)
    ∙ over'.weighs (λ key. pos (occurrence [] key []))
    ∙ ap (λ z. z *ℤ pos c.den) (*ℤ-one _ ∙ weighed-number number.num) in
    (λ i. record { num = numerator-scalar c.den c.terms terms i; den = c.den })
    ∙ fraction-unique (record { num = number_of c.terms; den = c.den }) number (fraction-scalar c.den c.terms terms canonical.lowest) is reads
