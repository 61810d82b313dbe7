-- A weight that is 0 at each key whose coefficient is not weighs nothing, whatever the order of the terms and however often a key comes.
use Rattle.std.proofs.Common.{◌≡◌, ◌⊎◌, ℕ, zero, suc, ◌≤◌, [], ◌∷◌, length, refl, sym, ◌∙◌, ap, subst, arith, inl, inr}
use Rattle.std.proofs.Math.IntN.{ℤ, pos, ◌+ℤ◌, ◌*ℤ◌, *ℤ-zero, zero-*ℤ, *ℤ-one, one}
use Rattle.std.proofs.lemmas.Int.{ints}
use Rattle.std.specs.declared.cmp.Ordering.{Ordering}
use Rattle.std.specs.declared.cmp.Ordering.TheVariants.{Less, Equal, Greater}
use Rattle.std.specs.Ordering.{ordering_reverse}
use Rattle.realisations.specs.Readings.{Terms}
use Rattle.realisations.specs.Combinations.{key_cmp, weighed}
use Rattle.realisations.proofs.KeyOrders.{key_order, same_key}
use Rattle.realisations.proofs.Coefficients.{Codes, counts, coefficient, Each}
use Rattle.hopf_num.proofs.Ring.{+ℤ-*ℤ}

-- a key is equal to itself
pub key_cmp-self : (key : Codes) → key_cmp key key ≡ Equal
key_cmp-self key = equal_if_turned (key_cmp key key) (key_order.antisymm key key)
  where
    equal_if_turned : (o : Ordering) → o ≡ ordering_reverse o → o ≡ Equal
    equal_if_turned Less h = absurd (cc)
    equal_if_turned Equal h = refl
    equal_if_turned Greater h = absurd (cc)

-- a term in front, unless its key is equal to another
abbrev in_front : Ordering → ℤ × Codes → Terms → Terms
in_front Less t ts = t ∷ ts
in_front Equal t ts = ts
in_front Greater t ts = t ∷ ts

-- the terms with other keys
abbrev without : Codes → Terms → Terms
without key [] = []
without key (t ∷ ts) = in_front (key_cmp t.1 key) t (without key ts)

length-without : (key : Codes) (ts : Terms) → length (without key ts) ≤ length ts
length-without key [] = omega arith
length-without key (t ∷ ts) = by_order (key_cmp t.1 key) (length-without key ts)
  where
    by_order : (o : Ordering) → length (without key ts) ≤ length ts → length (in_front o t (without key ts)) ≤ suc (length ts)
    by_order Less h = omega arith
    by_order Equal h = omega arith
    by_order Greater h = omega arith

each-without : (P : ℤ × Codes → Type 0) (key : Codes) (ts : Terms) → Each P ts → Each P (without key ts)
each-without P key [] h = tt
each-without P key (t ∷ ts) h = by_order (key_cmp t.1 key) (each-without P key ts h.1)
  where
    by_order : (o : Ordering) → Each P (without key ts) → Each P (in_front o t (without key ts))
    by_order Less rest = (h.0, rest)
    by_order Equal rest = rest
    by_order Greater rest = (h.0, rest)

-- a weighed sum is what a key weighs, times its coefficient, and what the others weigh
weighed-without : (f : Codes → ℤ) (key : Codes) (ts : Terms) → weighed f ts ≡ (coefficient ts key *ℤ f key) +ℤ weighed f (without key ts)
unfolding one
weighed-without f key [] = omega (arith, ints, zero-*ℤ (f key))
weighed-without f key (t ∷ ts) = by_order (key_cmp t.1 key) refl (weighed-without f key ts)
  where
    other : weighed f ts ≡ (coefficient ts key *ℤ f key) +ℤ weighed f (without key ts)
        → (t.0 *ℤ f t.1) +ℤ weighed f ts ≡ (((t.0 *ℤ pos 0) +ℤ coefficient ts key) *ℤ f key) +ℤ ((t.0 *ℤ f t.1) +ℤ weighed f (without key ts))
    other h = omega (arith, ints, h, +ℤ-*ℤ (t.0 *ℤ pos 0) (coefficient ts key) (f key), ap (λ z. z *ℤ f key) (*ℤ-zero t.0), zero-*ℤ (f key))

    by_order : (o : Ordering) → key_cmp t.1 key ≡ o → weighed f ts ≡ (coefficient ts key *ℤ f key) +ℤ weighed f (without key ts)
        → (t.0 *ℤ f t.1) +ℤ weighed f ts ≡ (((t.0 *ℤ pos (counts (key_cmp t.1 key))) +ℤ coefficient ts key) *ℤ f key) +ℤ weighed f (in_front (key_cmp t.1 key) t (without key ts))
    by_order Less e h = rw e (other h)
    by_order Equal e h =
        let same : t.0 *ℤ f t.1 ≡ t.0 *ℤ f key = ap (λ k. t.0 *ℤ f k) (same_key t.1 key e) in
        rw e (omega (arith, ints, h, same, +ℤ-*ℤ (t.0 *ℤ pos 1) (coefficient ts key) (f key), ap (λ z. z *ℤ f key) (*ℤ-one t.0)))
    by_order Greater e h = rw e (other h)

-- among the others the key has no coefficient
coefficient-without : (key : Codes) (ts : Terms) → coefficient (without key ts) key ≡ pos 0
coefficient-without key [] = refl
coefficient-without key (t ∷ ts) = by_order (key_cmp t.1 key) refl (coefficient-without key ts)
  where
    by_order : (o : Ordering) → key_cmp t.1 key ≡ o → coefficient (without key ts) key ≡ pos 0 → coefficient (in_front o t (without key ts)) key ≡ pos 0
    by_order Less e h = omega (arith, ints, h, ap (λ o. t.0 *ℤ pos (counts o)) e, *ℤ-zero t.0)
    by_order Equal e h = h
    by_order Greater e h = omega (arith, ints, h, ap (λ o. t.0 *ℤ pos (counts o)) e, *ℤ-zero t.0)

-- and each other key keeps its coefficient
coefficient-without_other : (key k : Codes) (ts : Terms) → counts (key_cmp key k) ≡ 0 → coefficient ts k ≡ coefficient (without key ts) k
coefficient-without_other key k ts apart =
    omega (arith, ints, weighed-without (λ v. pos (counts (key_cmp v k))) key ts, ap (λ n. coefficient ts key *ℤ pos n) apart, *ℤ-zero (coefficient ts key))

-- the weight or the coefficient of a key is 0
abbrev Vanishes : (Codes → ℤ) → Terms → Codes → Type 0
Vanishes weight ts k = (weight k ≡ pos 0) ⊎ (coefficient ts k ≡ pos 0)

vanishes-within : (P : Codes → Type 0) (weight : Codes → ℤ) (n : ℕ) (ts : Terms) → length ts ≤ n → Each (λ (t : ℤ × Codes). P t.1) ts
    → ((k : Codes) → P k → Vanishes weight ts k) → weighed weight ts ≡ pos 0
vanishes-within P weight n [] le each h = refl
vanishes-within P weight zero (t ∷ ts) le each h = absurd (omega arith)
vanishes-within P weight (suc n) (t ∷ ts) le each h =
    let key : Codes = t.1 in
    let first : coefficient (t ∷ ts) key *ℤ weight key ≡ pos 0 = elim (h key each.0) [
      | inl none ↦ ap (λ z. coefficient (t ∷ ts) key *ℤ z) none ∙ *ℤ-zero (coefficient (t ∷ ts) key)
      | inr none ↦ ap (λ z. z *ℤ weight key) none ∙ zero-*ℤ (weight key)
    ] in
    let rest : weighed weight (without key ts) ≡ pos 0 =
    vanishes-within P weight n (without key ts) (omega (arith, length-without key ts)) (each-without (λ (t : ℤ × Codes). P t.1) key ts each.1)
    (λ k p. by_order k (key_cmp key k) refl (h k p)) in
    omega (arith, ints, weighed-without weight key (t ∷ ts), first, rest, ap (weighed weight) gone)
  where
    gone : without t.1 (t ∷ ts) ≡ without t.1 ts
    gone = ap (λ o. in_front o t (without t.1 ts)) (key_cmp-self t.1)

    kept : (k : Codes) → counts (key_cmp t.1 k) ≡ 0 → coefficient (t ∷ ts) k ≡ pos 0 → coefficient (without t.1 ts) k ≡ pos 0
    kept k apart none = ap (λ us. coefficient us k) (sym gone) ∙ sym (coefficient-without_other t.1 k (t ∷ ts) apart) ∙ none

    by_order : (k : Codes) (o : Ordering) → key_cmp t.1 k ≡ o → Vanishes weight (t ∷ ts) k → Vanishes weight (without t.1 ts) k
    by_order k o e (inl none) = inl none
    by_order k Equal e (inr none) = inr (subst (λ (v : Codes). coefficient (without t.1 ts) v ≡ pos 0) (same_key t.1 k e) (coefficient-without t.1 ts))
    by_order k Less e (inr none) = inr (kept k (ap counts e) none)
    by_order k Greater e (inr none) = inr (kept k (ap counts e) none)

-- where at each key of a kind the weight or the coefficient is 0, terms of this kind weigh nothing
pub vanishes : (P : Codes → Type 0) (weight : Codes → ℤ) (ts : Terms) → Each (λ (t : ℤ × Codes). P t.1) ts
    → ((k : Codes) → P k → (weight k ≡ pos 0) ⊎ (coefficient ts k ≡ pos 0)) → weighed weight ts ≡ pos 0
vanishes P weight ts each h = vanishes-within P weight (length ts) ts (omega arith) each h
