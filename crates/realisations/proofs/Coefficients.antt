-- Terms with rising keys are determined by the coefficients of their keys.
use Rattle.std.proofs.Common.{◌≡◌, ◌≢◌, ℕ, suc, ◌<◌, List, [], ◌∷◌, length, refl, sym, ◌∙◌, ap, arith}
use Rattle.std.proofs.Math.IntN.{ℤ, pos, ◌*ℤ◌, *ℤ-zero, *ℤ-one, one}
use Rattle.std.proofs.lemmas.Int.{ints}
use Rattle.std.specs.declared.cmp.Ordering.{Ordering}
use Rattle.std.specs.declared.cmp.Ordering.TheVariants.{Less, Equal, Greater}
use Rattle.std.specs.Ordering.{ordering_reverse}
use Rattle.realisations.specs.Readings.{Terms}
use Rattle.realisations.specs.Combinations.{key_cmp, term_at, weighed, HasRisingKeys}
use Rattle.realisations.proofs.KeyOrders.{key_order, same_key}

-- the codes of a key
abbrev pub Codes : Type 0
Codes = List (List ℕ)

-- 1 where two things compare as equal, else 0
abbrev pub counts : Ordering → ℕ
counts Less = 0
counts Equal = 1
counts Greater = 0

-- the sum of the numerators of the terms with this key
abbrev pub coefficient : Terms → Codes → ℤ
coefficient ts key = weighed (λ k. pos (counts (key_cmp k key))) ts

-- each term has this
abbrev pub Each : (ℤ × Codes → Type 0) → Terms → Type 0
Each P [] = Unit {0}
Each P (t ∷ ts) = P t × Each P ts

-- the keys rise strictly, by recursion
abbrev pub Rising : Terms → Type 0
Rising [] = Unit {0}
Rising (t ∷ ts) = Each (λ u. key_cmp t.1 u.1 ≡ Less) ts × Rising ts

-- the numerator is not 0, and the key is of this kind
abbrev pub IsTermOf : (Codes → Type 0) → ℤ × Codes → Type 0
IsTermOf P t = (t.0 ≢ pos 0) × P t.1

-- what each place has, each term has
pub each_from : (P : ℤ × Codes → Type 0) (ts : Terms) → ((i : ℕ) → i < length ts → P (term_at ts i)) → Each P ts
each_from P [] h = tt
each_from P (t ∷ ts) h = (h 0 (omega arith), each_from P ts (λ i lt. h (suc i) (omega arith)))

-- the two forms of rising keys
pub rising_from : (ts : Terms) → HasRisingKeys ts → Rising ts
rising_from [] h = tt
rising_from (t ∷ ts) h = (
  each_from (λ u. key_cmp t.1 u.1 ≡ Less) ts (λ i lt. h 0 (suc i) (omega arith) (omega arith)),
  rising_from ts (λ i j lt le. h (suc i) (suc j) (omega arith) (omega arith)),
)

-- a key below one that is below all is below all
above_less : (key key' : Codes) (ts : Terms) → key_cmp key key' ≡ Less → Each (λ u. key_cmp key' u.1 ≡ Less) ts → Each (λ u. key_cmp key u.1 ≡ Less) ts
above_less key key' [] h a = tt
above_less key key' (t ∷ ts) h a = (key_order.trans key key' t.1 h a.0, above_less key key' ts h a.1)

-- a smaller key, seen from the other one
pub less_turned : (a b : Codes) → key_cmp a b ≡ Less → key_cmp b a ≡ Greater
less_turned a b h = key_order.antisymm b a ∙ ap ordering_reverse h

-- a greater key, seen from the other one
greater_turned : (a b : Codes) → key_cmp a b ≡ Greater → key_cmp b a ≡ Less
greater_turned a b h = key_order.antisymm b a ∙ ap ordering_reverse h

-- a key is equal to itself
key_cmp-self : (key : Codes) → key_cmp key key ≡ Equal
key_cmp-self key = equal_if_turned (key_cmp key key) (key_order.antisymm key key)
  where
    equal_if_turned : (o : Ordering) → o ≡ ordering_reverse o → o ≡ Equal
    equal_if_turned Less h = absurd (cc)
    equal_if_turned Equal h = refl
    equal_if_turned Greater h = absurd (cc)

-- below all keys of the terms the coefficient is 0
coefficient-below : (key : Codes) (ts : Terms) → Each (λ u. key_cmp key u.1 ≡ Less) ts → coefficient ts key ≡ pos 0
coefficient-below key [] a = refl
coefficient-below key (t ∷ ts) a =
    let head : t.0 *ℤ pos (counts (key_cmp t.1 key)) ≡ pos 0 = ap (λ o. t.0 *ℤ pos (counts o)) (less_turned key t.1 a.0) ∙ *ℤ-zero t.0 in
    omega (arith, ints, coefficient-below key ts a.1)

-- at the first of rising keys the coefficient is the first numerator
coefficient-first : (t : ℤ × Codes) (ts : Terms) → Each (λ u. key_cmp t.1 u.1 ≡ Less) ts → coefficient (t ∷ ts) t.1 ≡ t.0
unfolding one
coefficient-first t ts a =
    let head : t.0 *ℤ pos (counts (key_cmp t.1 t.1)) ≡ t.0 = ap (λ o. t.0 *ℤ pos (counts o)) (key_cmp-self t.1) ∙ *ℤ-one t.0 in
    omega (arith, ints, coefficient-below t.1 ts a)

-- terms with rising keys, no numerator 0 and the same coefficients are the same
pub same_terms : (P : Codes → Type 0) (ts us : Terms) → Rising ts → Rising us → Each (IsTermOf P) ts → Each (IsTermOf P) us
    → ((key : Codes) → P key → coefficient ts key ≡ coefficient us key) → ts ≡ us
same_terms P [] [] rt ru et eu h = refl
same_terms P [] (u ∷ us) rt ru et eu h = absurd (eu.0.0 (sym (coefficient-first u us ru.0) ∙ sym (h u.1 eu.0.1)))
same_terms P (t ∷ ts) [] rt ru et eu h = absurd (et.0.0 (sym (coefficient-first t ts rt.0) ∙ h t.1 et.0.1))
same_terms P (t ∷ ts) (u ∷ us) rt ru et eu h = by_order (key_cmp t.1 u.1) refl (same_terms P ts us rt.1 ru.1 et.1 eu.1)
  where
    by_order : (o : Ordering) → key_cmp t.1 u.1 ≡ o → (((key : Codes) → P key → coefficient ts key ≡ coefficient us key) → ts ≡ us) → t ∷ ts ≡ u ∷ us
    by_order Less e rest =
        absurd (et.0.0 (sym (coefficient-first t ts rt.0) ∙ h t.1 et.0.1 ∙ coefficient-below t.1 (u ∷ us) (e, above_less t.1 u.1 us e ru.0)))
    by_order Greater e rest =
        let less : key_cmp u.1 t.1 ≡ Less = greater_turned t.1 u.1 e in
        absurd (eu.0.0 (sym (coefficient-first u us ru.0) ∙ sym (h u.1 eu.0.1) ∙ coefficient-below u.1 (t ∷ ts) (less, above_less u.1 t.1 ts less rt.0)))
    by_order Equal e rest =
        let key : t.1 ≡ u.1 = same_key t.1 u.1 e in
        let num : t.0 ≡ u.0 = sym (coefficient-first t ts rt.0) ∙ h t.1 et.0.1 ∙ ap (coefficient (u ∷ us)) key ∙ coefficient-first u us ru.0 in
        let first : t ≡ u = λ i. (num i, key i) in
        let tails : ts ≡ us = rest (λ k p.
        let weight : t.0 *ℤ pos (counts (key_cmp t.1 k)) ≡ u.0 *ℤ pos (counts (key_cmp u.1 k)) = ap (λ (v : ℤ × Codes). v.0 *ℤ pos (counts (key_cmp v.1 k))) first in
        omega (arith, ints, weight, h k p)) in
        λ i. first i ∷ tails i

-- weights that are the same at each key weigh the same
pub weighed_same : (f g : Codes → ℤ) (ts : Terms) → Each (λ (t : ℤ × Codes). f t.1 ≡ g t.1) ts → weighed f ts ≡ weighed g ts
weighed_same f g [] e = refl
weighed_same f g (t ∷ ts) e = omega (arith, ints, ap (λ z. t.0 *ℤ z) e.0, weighed_same f g ts e.1)
