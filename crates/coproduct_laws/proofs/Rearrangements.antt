-- Shuffles are rearrangements: they have the same counts of letters and the same ranks.
use Rattle.std.proofs.Common.{◌≡◌, ℕ, ◌+◌, Bool, true, false, List, [], ◌∷◌, ◌++◌, refl, ◌∙◌, ap, arith}
use Rattle.std.specs.Prelude.{nat_eq, nat_le, not, ◌&&◌, ◌||◌}
use Rattle.std.proofs.lemmas.Bool.{eqb-true}
use Rattle.std.proofs.lemmas.Bool.Decides.{nat_tests}
use Rattle.realisations.specs.Lists.{is_among, one_if, count}
use Rattle.realisations.specs.Standardisation.{rank_in}
use Rattle.coproduct_laws.proofs.Shuffling.{over_shuffles, over_shuffles_same}

-- what two words with the same letters have in common
pub record Rearranges (t w : List ℕ) : Type 0 where
  pub counts : (test : ℕ → Bool) → count test w ≡ count test t
  pub among : (x : ℕ) → is_among x w ≡ is_among x t
  pub ranks : (x : ℕ) → rank_in w x ≡ rank_in t x

-- a word is a rearrangement of itself
rearranges-same : (w : List ℕ) → Rearranges w w
rearranges-same w = record { counts = λ test. refl; among = λ x. refl; ranks = λ x. refl }

-- the same first letter
rearranges-first : (x : ℕ) (t w : List ℕ) → Rearranges t w → Rearranges (x ∷ t) (x ∷ w)
rearranges-first x t w r = record {
  counts = λ test. ap (λ n. one_if (test x) + n) (r.counts test);
  among = λ y. ap (λ b. nat_eq x y || b) (r.among y);
  ranks = λ y. rw (r.among x, r.ranks y);
}

-- a rearrangement of a rearrangement
rearranges-then : (s t w : List ℕ) → Rearranges s t → Rearranges t w → Rearranges s w
rearranges-then s t w p q = record {
  counts = λ test. q.counts test ∙ p.counts test;
  among = λ x. q.among x ∙ p.among x;
  ranks = λ x. q.ranks x ∙ p.ranks x;
}

-- two letters change places
rearranges-swap : (x y : ℕ) (w : List ℕ) → Rearranges (x ∷ y ∷ w) (y ∷ x ∷ w)
rearranges-swap x y w = record {
  counts = λ test. omega arith;
  among = λ z. swap_or (nat_eq y z) (nat_eq x z) (is_among z w);
  ranks = λ z. swap_ranks (nat_eq x y) refl z (rank_in w z);
}
  where
    swap_or : (a b c : Bool) → (a || (b || c)) ≡ (b || (a || c))
    swap_or true true c = refl
    swap_or true false c = refl
    swap_or false true c = refl
    swap_or false false c = refl

    swap_ranks : (d : Bool) → nat_eq x y ≡ d → (z n : ℕ)
        → one_if (nat_le y z && not (nat_eq x y || is_among y w)) + (one_if (nat_le x z && not (is_among x w)) + n)
        ≡ one_if (nat_le x z && not (nat_eq y x || is_among x w)) + (one_if (nat_le y z && not (is_among y w)) + n)
    swap_ranks true d z n = let e : x ≡ y = eqb-true x y d in rw e refl
    swap_ranks false d z n = let e : nat_eq y x ≡ false = grind (arith, nat_tests, d) in rw (d, e) (omega arith)

-- a letter in the middle comes to the front
rearranges-middle : (x : ℕ) (u v : List ℕ) → Rearranges (u ++ (x ∷ v)) (x ∷ (u ++ v))
rearranges-middle x [] v = rearranges-same (x ∷ v)
rearranges-middle x (y ∷ u) v =
    rearranges-then (y ∷ (u ++ (x ∷ v))) (y ∷ x ∷ (u ++ v)) (x ∷ y ∷ (u ++ v)) (rearranges-first y (u ++ (x ∷ v)) (x ∷ (u ++ v)) (rearranges-middle x u v)) (rearranges-swap y x (u ++ v))

-- nothing is appended
rearranges-nil : (u : List ℕ) → Rearranges (u ++ []) u
rearranges-nil [] = rearranges-same []
rearranges-nil (x ∷ u) = rearranges-first x (u ++ []) u (rearranges-nil u)

-- functions that agree on all rearrangements of both words have one sum over their shuffles
pub over_rearrangements : (f g : List ℕ → ℕ) (u v : List ℕ) → ((w : List ℕ) → Rearranges (u ++ v) w → f w ≡ g w) → over_shuffles f u v ≡ over_shuffles g u v
over_rearrangements f g u v same =
    over_shuffles_same Rearranges
    (λ x u v w r. rearranges-first x (u ++ v) w r)
    (λ y u v w r. rearranges-then (u ++ (y ∷ v)) (y ∷ (u ++ v)) (y ∷ w) (rearranges-middle y u v) (rearranges-first y (u ++ v) w r))
    rearranges-nil rearranges-same f g u v same
