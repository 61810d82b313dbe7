-- Readings that are unit triangular in some measure determine coefficients.
use Rattle.std.proofs.Common.{◌≡◌, ◌⊎◌, ℕ, zero, suc, ◌<◌, [], ◌∷◌, ap, arith, inl, inr}
use Rattle.std.proofs.Math.IntN.{ℤ, pos, neg_ℤ, ◌+ℤ◌, *ℤ_comm}
use Rattle.std.proofs.lemmas.Int.{ints}
use Rattle.realisations.specs.Readings.{Terms}
use Rattle.realisations.specs.Combinations.{key_cmp, weighed}
use Rattle.realisations.proofs.Coefficients.{Codes, counts, coefficient, Each}
use Rattle.hopf_num.proofs.Ring.{*ℤ-+ℤ, *ℤ-neg_ℤ}
use Rattle.basis_representatives.proofs.VanishingWeights.{vanishes}

-- at a key of this kind another one of this kind is read 1 where they are the same, and else 0 unless its measure is smaller
abbrev pub IsTriangular : (P : Codes → Type 0) → (Codes → ℕ) → (Codes → (key : Codes) → P key → ℕ) → Type 0
IsTriangular P measure reads = (k key : Codes) → P k → (p : P key) → (reads k key p ≡ counts (key_cmp k key)) ⊎ (measure k < measure key)

-- a weighed sum with a difference of two weights
weighed-difference : (f g : Codes → ℤ) (ts : Terms) → weighed (λ k. f k +ℤ neg_ℤ (g k)) ts ≡ weighed f ts +ℤ neg_ℤ (weighed g ts)
weighed-difference f g [] = omega (arith, ints)
weighed-difference f g (t ∷ ts) =
    omega (arith, ints, weighed-difference f g ts, *ℤ-+ℤ t.0 (f t.1) (neg_ℤ (g t.1)), *ℤ-neg_ℤ t.0 (g t.1))

module _ (P : Codes → Type 0) (measure : Codes → ℕ) (reads : Codes → (key : Codes) → P key → ℕ) (triangular : IsTriangular P measure reads) where
  none-below : (ts : Terms) → Each (λ (t : ℤ × Codes). P t.1) ts
      → ((key : Codes) (p : P key) → weighed (λ k. pos (reads k key p)) ts ≡ pos 0)
      → (n : ℕ) (key : Codes) → P key → measure key < n → coefficient ts key ≡ pos 0
  none-below ts each h zero key p less = absurd (omega arith)
  none-below ts each h (suc n) key p less =
      let other = λ (k : Codes). pos (counts (key_cmp k key)) in
      let none : weighed (λ k. pos (reads k key p) +ℤ neg_ℤ (other k)) ts ≡ pos 0 = vanishes P (λ k. pos (reads k key p) +ℤ neg_ℤ (other k)) ts each
      (λ k q. elim (triangular k key q p) [
        | inl same ↦ inl (omega (arith, ints, ap pos same))
        | inr smaller ↦ inr (none-below ts each h n k q (omega arith))
      ]) in
      omega (arith, ints, h key p, none, weighed-difference (λ k. pos (reads k key p)) other ts)

  -- terms of this kind that read as 0 at each key of this kind have no coefficients
  pub no_coefficients : (ts : Terms) → Each (λ (t : ℤ × Codes). P t.1) ts
      → ((key : Codes) (p : P key) → weighed (λ k. pos (reads k key p)) ts ≡ pos 0)
      → (key : Codes) → P key → coefficient ts key ≡ pos 0
  no_coefficients ts each h key p = none-below ts each h (suc (measure key)) key p (omega arith)

-- the numerators of the first list, and those of the second with the other sign
abbrev minus : Terms → Terms → Terms
minus [] [] = []
minus [] (u ∷ us) = (neg_ℤ u.0, u.1) ∷ minus [] us
minus (t ∷ ts) us = t ∷ minus ts us

each-minus : (P : Codes → Type 0) (ts us : Terms) → Each (λ (t : ℤ × Codes). P t.1) ts → Each (λ (t : ℤ × Codes). P t.1) us
    → Each (λ (t : ℤ × Codes). P t.1) (minus ts us)
each-minus P [] [] ht hu = tt
each-minus P [] (u ∷ us) ht hu = (hu.0, each-minus P [] us ht hu.1)
each-minus P (t ∷ ts) us ht hu = (ht.0, each-minus P ts us ht.1 hu)

weighed-minus : (f : Codes → ℤ) (ts us : Terms) → weighed f (minus ts us) ≡ weighed f ts +ℤ neg_ℤ (weighed f us)
weighed-minus f [] [] = omega (arith, ints)
weighed-minus f [] (u ∷ us) =
    omega (arith, ints, weighed-minus f [] us, *ℤ_comm (neg_ℤ u.0) (f u.1), *ℤ-neg_ℤ (f u.1) u.0, *ℤ_comm u.0 (f u.1))
weighed-minus f (t ∷ ts) us = omega (arith, ints, weighed-minus f ts us)

-- two lists of terms that read alike at each key have the same coefficients
pub same_coefficients : (P : Codes → Type 0) (measure : Codes → ℕ) (reads : Codes → (key : Codes) → P key → ℕ) → IsTriangular P measure reads
    → (ts us : Terms) → Each (λ (t : ℤ × Codes). P t.1) ts → Each (λ (t : ℤ × Codes). P t.1) us
    → ((key : Codes) (p : P key) → weighed (λ k. pos (reads k key p)) ts ≡ weighed (λ k. pos (reads k key p)) us)
    → (key : Codes) → P key → coefficient ts key ≡ coefficient us key
same_coefficients P measure reads triangular ts us ht hu h key p =
    let none : coefficient (minus ts us) key ≡ pos 0 =
    no_coefficients P measure reads triangular (minus ts us) (each-minus P ts us ht hu)
    (λ k q. let apart = weighed-minus (λ v. pos (reads v k q)) ts us in omega (arith, ints, apart, h k q)) key p in
    omega (arith, ints, none, weighed-minus (λ k. pos (counts (key_cmp k key))) ts us)
