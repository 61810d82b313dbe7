-- Words each of whose letters stands in a relation to the next one: nondecreasing words, and falling ones.
use Rattle.std.proofs.Common.{◌≡◌, ℕ, ◌*◌, Bool, true, false, List, [], ◌∷◌, refl, sym, ◌∙◌, ap, arith}
use Rattle.std.specs.Prelude.{◌&&◌}
use Rattle.std.specs.List.{AllByRecursion}
use Rattle.realisations.specs.Lists.{one_if}
use Rattle.realisations.specs.Words.{shuffles}
use Rattle.realisations.proofs.Sums.{sums_none}
use Rattle.basis_representatives.proofs.SameLists.{one_if-and}
use Rattle.coproduct_rules.proofs.Tests.{sums-tested}
use Rattle.coproduct_laws.proofs.Shuffling.{over_shuffles, over_shuffles-step}
use Rattle.coproduct_rules.proofs.ShuffleCuts.{over_shuffles-nil_right}

-- each letter and the next one pass the test
abbrev pub is_chain : (ℕ → ℕ → Bool) → List ℕ → Bool
is_chain ok [] = true
is_chain ok (x ∷ []) = true
is_chain ok (x ∷ y ∷ w) = ok x y && is_chain ok (y ∷ w)

-- shuffling is commutative
pub over_shuffles_comm : (f : List ℕ → ℕ) (u v : List ℕ) → over_shuffles f u v ≡ over_shuffles f v u
over_shuffles_comm f [] v = sym (over_shuffles-nil_right f v ∙ omega arith)
over_shuffles_comm f (x ∷ u) [] = omega arith
over_shuffles_comm f (x ∷ u) (y ∷ v) =
    omega (
      arith,
      over_shuffles-step f x u y v,
      over_shuffles-step f y v x u,
      over_shuffles_comm (λ w. f (x ∷ w)) u (y ∷ v),
      over_shuffles_comm (λ w. f (y ∷ w)) (x ∷ u) v,
    )

-- letters of two kinds, such that the first kind may stand before the second and never after it
module _ (P Q : ℕ → Type 0) (ok : ℕ → ℕ → Bool) (forward : (x y : ℕ) → P x → Q y → ok x y ≡ true) (back : (x y : ℕ) → P x → Q y → ok y x ≡ false) where
  -- no chain has a letter of the second kind and later one of the first
  none_after : (y x : ℕ) (a b : List ℕ) → Q y → P x → AllByRecursion Q b → over_shuffles (λ w. one_if (is_chain ok (y ∷ w))) (x ∷ a) b ≡ 0
  none_after y x a [] hy hx hb = rw (back x y hx hy) refl
  none_after y x a (z ∷ b) hy hx hb =
      over_shuffles-step (λ w. one_if (is_chain ok (y ∷ w))) x a z b
      ∙ omega (arith, first, sums-tested (ok y z) (λ w. is_chain ok (z ∷ w)) (shuffles (x ∷ a) b), ap (λ n. one_if (ok y z) * n) (none_after z x a b hb.0 hx hb.1))
    where
      first : over_shuffles (λ w. one_if (is_chain ok (y ∷ x ∷ w))) a (z ∷ b) ≡ 0
      first = rw (back x y hx hy) (sums_none (λ w. 0) (λ w. refl) (shuffles a (z ∷ b)))

  -- after a letter of the first kind
  after : (x : ℕ) (a : List ℕ) (y : ℕ) (b : List ℕ) → P x → AllByRecursion P a → Q y → AllByRecursion Q b
      → over_shuffles (λ w. one_if (is_chain ok (x ∷ w))) a (y ∷ b) ≡ one_if (is_chain ok (x ∷ a)) * one_if (is_chain ok (y ∷ b))
  after x [] y b hx ha hy hb = rw (forward x y hx hy) (omega arith)
  after x (x' ∷ a) y b hx ha hy hb =
      over_shuffles-step (λ w. one_if (is_chain ok (x ∷ w))) x' a y b
      ∙ omega (
        arith,
        sums-tested (ok x x') (λ w. is_chain ok (x' ∷ w)) (shuffles a (y ∷ b)),
        sums-tested (ok x y) (λ w. is_chain ok (y ∷ w)) (shuffles (x' ∷ a) b),
        ap (λ n. one_if (ok x x') * n) (after x' a y b ha.0 ha.1 hy hb),
        ap (λ n. one_if (ok x y) * n) (none_after y x' a b hy ha.0 hb),
        ap (λ n. n * one_if (is_chain ok (y ∷ b))) (one_if-and (ok x x') (is_chain ok (x' ∷ a))),
      )

  -- of the shuffles of two words only the first followed by the second can be a chain, and is one where both are
  pub chain_shuffles : (a b : List ℕ) → AllByRecursion P a → AllByRecursion Q b
      → over_shuffles (λ w. one_if (is_chain ok w)) a b ≡ one_if (is_chain ok a) * one_if (is_chain ok b)
  chain_shuffles [] b ha hb = omega arith
  chain_shuffles (x ∷ a) [] ha hb = omega arith
  chain_shuffles (x ∷ a) (y ∷ b) ha hb =
      over_shuffles-step (λ w. one_if (is_chain ok w)) x a y b
      ∙ omega (arith, after x a y b ha.0 ha.1 hb.0 hb.1, none_after y x a b hb.0 ha.0 hb.1)
