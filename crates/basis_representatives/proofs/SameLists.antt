-- The test whether two lists of numbers are the same.
use Rattle.std.proofs.Common.{◌≡◌, ℕ, ◌*◌, Bool, true, false, List, [], ◌∷◌, refl, sym, ◌∙◌, ap}
use Rattle.std.specs.Prelude.{nat_eq, ◌&&◌}
use Rattle.std.proofs.lemmas.Bool.{and_parts, eqb-true, eq-eqb}
use Rattle.realisations.specs.Lists.{same_list, one_if}

-- the test of two codes says that they are the same
pub same_list-true : (a b : List ℕ) → same_list a b ≡ true → a ≡ b
same_list-true [] [] e = refl
same_list-true [] (y ∷ b) e = absurd (cc)
same_list-true (x ∷ a) [] e = absurd (cc)
same_list-true (x ∷ a) (y ∷ b) e =
    let parts = and_parts (nat_eq x y) (same_list a b) e in
    let head = eqb-true x y parts.0 in
    let rest = same_list-true a b parts.1 in
    λ i. head i ∷ rest i

-- a list is the same as itself
pub same_list-self : (a : List ℕ) → same_list a a ≡ true
same_list-self [] = refl
same_list-self (x ∷ a) = let e : nat_eq x x ≡ true = eq-eqb x x refl in rw (e, same_list-self a) refl

-- codes that differ in a number are not the same
pub same_list-false : (f : List ℕ → ℕ) (a b : List ℕ) → (f a ≡ f b → ⊥) → same_list a b ≡ false
same_list-false f a b h = by_test (same_list a b) refl
  where
    by_test : (t : Bool) → same_list a b ≡ t → same_list a b ≡ false
    by_test true e = absurd (h (ap f (same_list-true a b e)))
    by_test false e = e

-- two tests that hold at the same time
pub same_list-both : (a b c d : List ℕ) → (a ≡ b → c ≡ d) → (c ≡ d → a ≡ b) → same_list a b ≡ same_list c d
same_list-both a b c d to from = by_tests (same_list a b) refl (same_list c d) refl
  where
    by_tests : (p : Bool) → same_list a b ≡ p → (q : Bool) → same_list c d ≡ q → same_list a b ≡ same_list c d
    by_tests true e q f =
        let same : c ≡ d = to (same_list-true a b e) in
        e ∙ sym (ap (λ x. same_list x d) same ∙ same_list-self d)
    by_tests false e true f =
        let same : a ≡ b = from (same_list-true c d f) in
        ap (λ x. same_list x b) same ∙ same_list-self b ∙ sym f
    by_tests false e false f = e ∙ sym f

-- the test is symmetric
pub same_list-sym : (a b : List ℕ) → same_list a b ≡ same_list b a
same_list-sym a b = same_list-both a b b a (λ e. sym e) (λ e. sym e)

-- lists with the same head and the same rest
pub cons_same : {A : Type 0} {a b : A} {u v : List A} → a ≡ b → u ≡ v → a ∷ u ≡ b ∷ v
cons_same p q = λ i. p i ∷ q i

-- two tests that both hold count as their product
pub one_if-and : (p q : Bool) → one_if (p && q) ≡ one_if p * one_if q
one_if-and true true = refl
one_if-and true false = refl
one_if-and false true = refl
one_if-and false false = refl
