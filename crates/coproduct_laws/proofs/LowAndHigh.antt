-- The letters of a word up to k and past k.
use Rattle.std.proofs.Common.{◌≡◌, ℕ, ◌<◌, ◌≤◌, Bool, true, false, List, [], ◌∷◌, refl, sym, ◌∙◌, ap, arith}
use Rattle.std.specs.Prelude.{nat_le, nat_lt}
use Rattle.std.specs.List.{filter}
use Rattle.std.proofs.lemmas.Bool.Decides.{nat_tests}
use Rattle.realisations.specs.Lists.{same_list}
use Rattle.realisations.specs.Points.{word, IsPoint}
use Rattle.realisations.specs.Words.{greatest, raise}
use Rattle.realisations.proofs.RisingMaps.{Letters}
use Rattle.basis_representatives.proofs.SameLists.{cons_same, same_list-both}
use Rattle.coproduct_laws.specs.ValueCuts.{letters_up_to, letters_past, lower}

-- each letter is at most k
abbrev pub AreLow : ℕ → List ℕ → Type 0
AreLow k w = Letters (λ x. x ≤ k) w

-- each letter is greater than k
abbrev pub AreHigh : ℕ → List ℕ → Type 0
AreHigh k w = Letters (λ x. k < x) w

-- the greatest of letters up to k is at most k
pub greatest_from_low : (k : ℕ) (w : List ℕ) → AreLow k w → greatest w ≤ k
greatest_from_low k [] h = omega arith
greatest_from_low k (x ∷ w) h = omega (arith, h.0, greatest_from_low k w h.1)

-- letters of a word over 1 < 2 < .., raised by k, are past k
pub high_raised : (k : ℕ) (w : List ℕ) → IsPoint word w → AreHigh k (raise k w)
high_raised k [] h = tt
high_raised k (x ∷ w) h = (omega (arith, h.0), high_raised k w h.1)

-- letters in front: one up to k is among the letters up to k, and not past k; and one past k the other way round

pub up_to_low : (k x : ℕ) (w : List ℕ) → nat_le x k ≡ true → letters_up_to k (x ∷ w) ≡ x ∷ letters_up_to k w
up_to_low k x w e = rw e refl

pub up_to_high : (k x : ℕ) (w : List ℕ) → nat_le x k ≡ false → letters_up_to k (x ∷ w) ≡ letters_up_to k w
up_to_high k x w e = rw e refl

pub past_low : (k x : ℕ) (w : List ℕ) → nat_le x k ≡ true → letters_past k (x ∷ w) ≡ letters_past k w
past_low k x w e = let d : nat_lt k x ≡ false = grind (arith, nat_tests, e) in rw d refl

pub past_high : (k x : ℕ) (w : List ℕ) → nat_le x k ≡ false → letters_past k (x ∷ w) ≡ x ∷ letters_past k w
past_high k x w e = let d : nat_lt k x ≡ true = grind (arith, nat_tests, e) in rw d refl

-- letters that pass a test have what the test tells
letters_that_pass : (P : ℕ → Type 0) (test : ℕ → Bool) → ((x : ℕ) → test x ≡ true → P x) → (w : List ℕ) → Letters P (filter test w)
letters_that_pass P test tells [] = tt
letters_that_pass P test tells (x ∷ w) = by_test (test x) refl (letters_that_pass P test tells w)
  where
    by_test : (b : Bool) → test x ≡ b → Letters P (filter test w) → Letters P (filter test (x ∷ w))
    by_test true e rest = rw e (tells x e, rest)
    by_test false e rest = rw e rest

-- and what all letters have
pub letters_of_filter : (P : ℕ → Type 0) (test : ℕ → Bool) (w : List ℕ) → Letters P w → Letters P (filter test w)
letters_of_filter P test [] h = tt
letters_of_filter P test (x ∷ w) h = by_test (test x) refl (letters_of_filter P test w h.1)
  where
    by_test : (b : Bool) → test x ≡ b → Letters P (filter test w) → Letters P (filter test (x ∷ w))
    by_test true e rest = rw e (h.0, rest)
    by_test false e rest = rw e rest

-- the letters up to k are low
pub low_up_to : (k : ℕ) (w : List ℕ) → AreLow k (letters_up_to k w)
low_up_to k w = letters_that_pass (λ x. x ≤ k) (λ x. nat_le x k) (λ x e. grind (arith, nat_tests, e)) w

-- the letters past k are high
pub high_past : (k : ℕ) (w : List ℕ) → AreHigh k (letters_past k w)
high_past k w = letters_that_pass (λ x. k < x) (λ x. nat_lt k x) (λ x e. grind (arith, nat_tests, e)) w

-- raising undoes lowering where no letter would fall below 0
raise-lower : (k : ℕ) (w : List ℕ) → AreHigh k w → raise k (lower k w) ≡ w
raise-lower k [] h = refl
raise-lower k (x ∷ w) h = cons_same (omega (arith, h.0)) (raise-lower k w h.1)

-- lowering undoes raising
lower-raise : (k : ℕ) (w : List ℕ) → lower k (raise k w) ≡ w
lower-raise k [] = refl
lower-raise k (x ∷ w) = cons_same (omega arith) (lower-raise k w)

-- a raised word is a word where the word is the lowered one
pub same_list-raise : (k : ℕ) (u w : List ℕ) → AreHigh k w → same_list (raise k u) w ≡ same_list u (lower k w)
same_list-raise k u w h =
    same_list-both (raise k u) w u (lower k w)
    (λ e. sym (lower-raise k u) ∙ ap (λ v. lower k v) e)
    (λ e. ap (λ v. raise k v) e ∙ raise-lower k w h)
