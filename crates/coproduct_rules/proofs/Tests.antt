-- Tests and their parts.
use Rattle.std.proofs.Common.{◌≡◌, ◌*◌, Bool, true, false, List, ◌∷◌, refl, sym, ap, arith}
use Rattle.std.specs.Prelude.{ℕ, ◌&&◌, ◌||◌}
use Rattle.realisations.specs.Lists.{same_list, one_if}
use Rattle.realisations.proofs.Sums.{sums, sums_none}
use Rattle.basis_representatives.proofs.SameLists.{same_list-true}

-- the first of two tests holds
pub and_first : (a b : Bool) → a && b ≡ true → a ≡ true
and_first true b e = refl
and_first false b e = absurd (cc)

-- the second holds
pub and_second : (a b : Bool) → a && b ≡ true → b ≡ true
and_second true b e = e
and_second false b e = absurd (cc)

-- one of two tests holds, and not the second
pub or_first : (a b : Bool) → b ≡ false → a || b ≡ true → a ≡ true
or_first true b e h = refl
or_first false b e h = absurd (cc)

-- the second holds, so one of them
pub or_right : (a b : Bool) → b ≡ true → a || b ≡ true
or_right true b e = refl
or_right false b e = e

-- a test that does not depend on what is summed over
pub sums-tested : {X : Type 0} (b : Bool) (g : X → Bool) (xs : List X) → sums (λ x. one_if (b && g x)) xs ≡ one_if b * sums (λ x. one_if (g x)) xs
sums-tested true g xs = omega arith
sums-tested false g xs = omega (arith, sums_none (λ x. 0) (λ x. refl) xs)

-- a test that fails for each list of another measure
pub same_list-apart : (measure : List ℕ → ℕ) (u v : List ℕ) → (measure u ≡ measure v → ⊥) → one_if (same_list u v) ≡ 0
same_list-apart measure u v apart = by_test (same_list u v) refl
  where
    by_test : (b : Bool) → same_list u v ≡ b → one_if b ≡ 0
    by_test true e = absurd (apart (ap measure (same_list-true u v e)))
    by_test false e = refl

-- two tests that hold alike are one
pub same_tests : (a b : Bool) → (a ≡ true → b ≡ true) → (b ≡ true → a ≡ true) → a ≡ b
same_tests true b f g = sym (f refl)
same_tests false true f g = g refl
same_tests false false f g = refl

-- equal lists have equal first numbers and rests
pub same_heads : (x y : ℕ) (c d : List ℕ) → x ∷ c ≡ y ∷ d → (x ≡ y) × (c ≡ d)
same_heads x y c d e = (cc, cc)
