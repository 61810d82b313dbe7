-- How often a word is a shuffle of a word of low letters and a word of high letters.
use Rattle.std.proofs.Common.{◌≡◌, ℕ, ◌+◌, ◌*◌, Bool, true, false, List, [], ◌∷◌, refl, ◌∙◌, ap, arith}
use Rattle.std.specs.Prelude.{nat_eq, nat_le, ◌&&◌}
use Rattle.std.proofs.lemmas.Bool.Decides.{nat_tests}
use Rattle.realisations.specs.Lists.{same_list, one_if}
use Rattle.realisations.specs.Words.{shuffles}
use Rattle.realisations.proofs.Sums.{sums, sums_none}
use Rattle.basis_representatives.proofs.SameLists.{one_if-and}
use Rattle.coproduct_laws.specs.ValueCuts.{letters_up_to, letters_past}
use Rattle.coproduct_laws.proofs.LowAndHigh.{AreLow, AreHigh, up_to_low, up_to_high, past_low, past_high}
use Rattle.coproduct_laws.proofs.Shuffling.{over_shuffles, over_shuffles-step}

-- a test that does not depend on what is summed over
sums-tested : {X : Type 0} (b : Bool) (g : X → Bool) (xs : List X) → sums (λ x. one_if (b && g x)) xs ≡ one_if b * sums (λ x. one_if (g x)) xs
sums-tested true g xs = omega arith
sums-tested false g xs = omega (arith, sums_none (λ x. 0) (λ x. refl) xs)

-- the first letters are the same, and the others
one_if-same_list : (x : ℕ) (u : List ℕ) (y : ℕ) (v : List ℕ) → one_if (same_list (x ∷ u) (y ∷ v)) ≡ one_if (nat_eq x y) * one_if (same_list u v)
one_if-same_list x u y v = one_if-and (nat_eq x y) (same_list u v)

-- a word of high letters
only_high : (k : ℕ) (b w : List ℕ) → AreHigh k b → one_if (same_list b w) ≡ one_if (same_list [] (letters_up_to k w)) * one_if (same_list b (letters_past k w))
only_high k b [] h = omega arith
only_high k b (z ∷ w) h = by_test (nat_le z k) refl (λ b h. only_high k b w h) b h
  where
    by_test : (t : Bool) → nat_le z k ≡ t
        → ((b : List ℕ) → AreHigh k b → one_if (same_list b w) ≡ one_if (same_list [] (letters_up_to k w)) * one_if (same_list b (letters_past k w)))
        → (b : List ℕ) → AreHigh k b → one_if (same_list b (z ∷ w)) ≡ one_if (same_list [] (letters_up_to k (z ∷ w))) * one_if (same_list b (letters_past k (z ∷ w)))
    by_test true e ih [] h = rw (up_to_low k z w e) (omega arith)
    by_test true e ih (y ∷ b) h = let d : nat_eq y z ≡ false = grind (arith, nat_tests, h.0, e) in rw (up_to_low k z w e, d) (omega arith)
    by_test false e ih [] h = rw (past_high k z w e) (omega arith)
    by_test false e ih (y ∷ b) h =
        rw (up_to_high k z w e, past_high k z w e)
        (omega (arith, one_if-same_list y b z w, ap (λ n. one_if (same_list [] (letters_up_to k w)) * n) (one_if-same_list y b z (letters_past k w)), ap (λ n. one_if (nat_eq y z) * n) (ih b h.1)))

-- a word of low letters
only_low : (k : ℕ) (a w : List ℕ) → AreLow k a → one_if (same_list a w) ≡ one_if (same_list a (letters_up_to k w)) * one_if (same_list [] (letters_past k w))
only_low k a [] h = omega arith
only_low k a (z ∷ w) h = by_test (nat_le z k) refl (λ a h. only_low k a w h) a h
  where
    by_test : (t : Bool) → nat_le z k ≡ t
        → ((a : List ℕ) → AreLow k a → one_if (same_list a w) ≡ one_if (same_list a (letters_up_to k w)) * one_if (same_list [] (letters_past k w)))
        → (a : List ℕ) → AreLow k a → one_if (same_list a (z ∷ w)) ≡ one_if (same_list a (letters_up_to k (z ∷ w))) * one_if (same_list [] (letters_past k (z ∷ w)))
    by_test true e ih [] h = rw (up_to_low k z w e) (omega arith)
    by_test true e ih (y ∷ a) h =
        rw (up_to_low k z w e, past_low k z w e)
        (omega (arith, one_if-same_list y a z w, ap (λ n. n * one_if (same_list [] (letters_past k w))) (one_if-same_list y a z (letters_up_to k w)), ap (λ n. one_if (nat_eq y z) * n) (ih a h.1)))
    by_test false e ih [] h = rw (past_high k z w e) (omega arith)
    by_test false e ih (y ∷ a) h = let d : nat_eq y z ≡ false = grind (arith, nat_tests, h.0, e) in rw (past_high k z w e, d) (omega arith)

-- a word is a shuffle of low letters a and of high letters b once where its low letters are a and its high letters are b, and else never
pub shuffle_count : (k : ℕ) (a b : List ℕ) → AreLow k a → AreHigh k b → (w : List ℕ)
    → over_shuffles (λ x. one_if (same_list x w)) a b ≡ one_if (same_list a (letters_up_to k w)) * one_if (same_list b (letters_past k w))
shuffle_count k [] b ha hb w = omega (arith, only_high k b w hb)
shuffle_count k (x ∷ a) [] ha hb w = omega (arith, only_low k (x ∷ a) w ha)
shuffle_count k (x ∷ a) (y ∷ b) ha hb [] =
    over_shuffles-step (λ t. one_if (same_list t [])) x a y b
    ∙ omega (arith, sums_none (λ (t : List ℕ). 0) (λ t. refl) (shuffles a (y ∷ b)), sums_none (λ (t : List ℕ). 0) (λ t. refl) (shuffles (x ∷ a) b))
shuffle_count k (x ∷ a) (y ∷ b) ha hb (z ∷ w) =
    over_shuffles-step (λ t. one_if (same_list t (z ∷ w))) x a y b
    ∙ by_test (nat_le z k) refl _ _
    (sums-tested (nat_eq x z) (λ t. same_list t w) (shuffles a (y ∷ b)) ∙ ap (λ n. one_if (nat_eq x z) * n) (shuffle_count k a (y ∷ b) ha.1 hb w))
    (sums-tested (nat_eq y z) (λ t. same_list t w) (shuffles (x ∷ a) b) ∙ ap (λ n. one_if (nat_eq y z) * n) (shuffle_count k (x ∷ a) b ha hb.1 w))
  where
    by_test : (t : Bool) → nat_le z k ≡ t → (m n : ℕ)
        → m ≡ one_if (nat_eq x z) * (one_if (same_list a (letters_up_to k w)) * one_if (same_list (y ∷ b) (letters_past k w)))
        → n ≡ one_if (nat_eq y z) * (one_if (same_list (x ∷ a) (letters_up_to k w)) * one_if (same_list b (letters_past k w)))
        → m + n ≡ one_if (same_list (x ∷ a) (letters_up_to k (z ∷ w))) * one_if (same_list (y ∷ b) (letters_past k (z ∷ w)))
    by_test true e m n p q =
        let d : nat_eq y z ≡ false = grind (arith, nat_tests, hb.0, e) in
        let none : n ≡ 0 = q ∙ ap (λ t. one_if t * (one_if (same_list (x ∷ a) (letters_up_to k w)) * one_if (same_list b (letters_past k w)))) d ∙ omega arith in
        rw (up_to_low k z w e, past_low k z w e, none, p) (omega (arith, ap (λ n. n * one_if (same_list (y ∷ b) (letters_past k w))) (one_if-same_list x a z (letters_up_to k w))))
    by_test false e m n p q =
        let d : nat_eq x z ≡ false = grind (arith, nat_tests, ha.0, e) in
        let none : m ≡ 0 = p ∙ ap (λ t. one_if t * (one_if (same_list a (letters_up_to k w)) * one_if (same_list (y ∷ b) (letters_past k w)))) d ∙ omega arith in
        rw (up_to_high k z w e, past_high k z w e, none, q) (omega (arith, ap (λ n. one_if (same_list (x ∷ a) (letters_up_to k w)) * n) (one_if-same_list y b z (letters_past k w))))
