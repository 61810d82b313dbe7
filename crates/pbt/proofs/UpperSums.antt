-- The pairs of a tree and its upper parts are counted alike.
use Rattle.std.proofs.Common.{◌≡◌, ℕ, ◌+◌, ◌*◌, ◌≤◌, List, ◌++◌, map, sym, ◌∙◌, ap, arith}
use Rattle.std.specs.List.{flat_map}
use Rattle.coproduct_rules.specs.UpperParts.{upper_parts}
use Rattle.coproduct_rules.proofs.DecreasingTrees.{is_tree, is_tree-empty}
use Rattle.coproduct_rules.proofs.DoubleSums.{sums_swap, sums-scale_right}
use Rattle.coproduct_rules.proofs.ShuffleCuts.{over_word_cuts_same}
use Rattle.coproduct_rules.proofs.UpperParts.{forest_count, forest_count-append, forest_count-one}
use Rattle.realisations.specs.Points.{IsPoint, word}
use Rattle.realisations.specs.Trees.{Tree, empty, node, decreasing_tree}
use Rattle.realisations.specs.Words.{word_cuts}
use Rattle.realisations.proofs.Sums.{sums, sums-flat_map, sums-map, sums-scale, sums_same}
use Rattle.tree_laws.specs.TreeProducts.{tree_products}
use Rattle.tree_laws.specs.UpperParts.{joined_pairs, upper_pairs}
use Rattle.pbt.proofs.TreeProducts.{product_cuts}

-- the last of three sums goes first
sums_turn : {X Y Z : Type 0} (f : X → Y → Z → ℕ) (xs : List X) (ys : List Y) (zs : List Z)
    → sums (λ x. sums (λ y. sums (λ z. f x y z) zs) ys) xs ≡ sums (λ z. sums (λ x. sums (λ y. f x y z) ys) xs) zs
sums_turn f xs ys zs = sums_same _ _ (λ x. sums_swap (λ y z. f x y z) ys zs) xs ∙ sums_swap (λ x z. sums (λ y. f x y z) ys) xs zs

-- the pairs of a node that have a root
sums_joined : (f : Tree × Tree → ℕ) (l r : Tree)
    → sums f (flat_map (λ a. flat_map (λ b. joined_pairs a b) (upper_pairs r)) (upper_pairs l)) ≡ sums (λ a. sums (λ b. sums (λ z. f (z, node a.1 b.1)) (tree_products a.0 b.0)) (upper_pairs r)) (upper_pairs l)
sums_joined f l r =
    sums-flat_map f (λ (a : Tree × Tree). flat_map (λ (b : Tree × Tree). joined_pairs a b) (upper_pairs r)) (upper_pairs l)
    ∙ sums_same _ _ (λ (a : Tree × Tree). sums-flat_map f (λ (b : Tree × Tree). joined_pairs a b) (upper_pairs r)
    ∙ sums_same _ _ (λ (b : Tree × Tree). sums-map f (λ (z : Tree). (z, node a.1 b.1)) (tree_products a.0 b.0)) (upper_pairs r)) (upper_pairs l)

-- and its upper parts that have one
sums_rooted : (f : List Tree × Tree → ℕ) (l r : Tree)
    → sums f (flat_map (λ a. map (λ b. (a.0 ++ b.0, node a.1 b.1)) (upper_parts r)) (upper_parts l)) ≡ sums (λ a. sums (λ b. f (a.0 ++ b.0, node a.1 b.1)) (upper_parts r)) (upper_parts l)
sums_rooted f l r =
    sums-flat_map f (λ (a : List Tree × Tree). map (λ (b : List Tree × Tree). (a.0 ++ b.0, node a.1 b.1)) (upper_parts r)) (upper_parts l)
    ∙ sums_same _ _ (λ (a : List Tree × Tree). sums-map f (λ (b : List Tree × Tree). (a.0 ++ b.0, node a.1 b.1)) (upper_parts r)) (upper_parts l)

-- at each word the pairs of a tree and its upper parts are counted alike, whatever the upper parts count
abbrev AreAlike : Tree → Type 0
AreAlike tree = (u : List ℕ) → IsPoint word u → (f : Tree → ℕ)
    → sums (λ (e : Tree × Tree). is_tree (decreasing_tree u) e.0 * f e.1) (upper_pairs tree) ≡ sums (λ (e : List Tree × Tree). forest_count e.0 u * f e.1) (upper_parts tree)

module _ (l r : Tree) (left : AreAlike l) (right : AreAlike r) (f : Tree → ℕ) where
  -- a pair of each side at a cut
  abbrev trees_at : Tree × Tree → Tree × Tree → List ℕ × List ℕ → ℕ
  trees_at a b c = is_tree (decreasing_tree c.0) a.0 * is_tree (decreasing_tree c.1) b.0 * f (node a.1 b.1)

  -- an upper part of each side at a cut
  abbrev parts_at : List Tree × Tree → List Tree × Tree → List ℕ × List ℕ → ℕ
  parts_at a b c = forest_count a.0 c.0 * forest_count b.0 c.1 * f (node a.1 b.1)

  assoc : (a b c : ℕ) → a * b * c ≡ a * (b * c)
  assoc a b c = omega arith

  at_cut : (p q : List ℕ) → IsPoint word p → IsPoint word q
      → sums (λ a. sums (λ b. trees_at a b (p, q)) (upper_pairs r)) (upper_pairs l) ≡ sums (λ a. sums (λ b. parts_at a b (p, q)) (upper_parts r)) (upper_parts l)
  at_cut p q hp hq =
      sums_same _ _ (λ (a : Tree × Tree).
      sums_same _ _ (λ (b : Tree × Tree). assoc (is_tree (decreasing_tree p) a.0) (is_tree (decreasing_tree q) b.0) (f (node a.1 b.1))) (upper_pairs r)
      ∙ sums-scale (is_tree (decreasing_tree p) a.0) (λ (b : Tree × Tree). is_tree (decreasing_tree q) b.0 * f (node a.1 b.1)) (upper_pairs r)
      ∙ ap (λ n. is_tree (decreasing_tree p) a.0 * n) (right q hq (λ w. f (node a.1 w)))) (upper_pairs l)
      ∙ left p hp (λ v. sums (λ (b : List Tree × Tree). forest_count b.0 q * f (node v b.1)) (upper_parts r))
      ∙ sums_same _ _ (λ (a : List Tree × Tree).
      sym (sums_same _ _ (λ (b : List Tree × Tree). assoc (forest_count a.0 p) (forest_count b.0 q) (f (node a.1 b.1))) (upper_parts r)
      ∙ sums-scale (forest_count a.0 p) (λ (b : List Tree × Tree). forest_count b.0 q * f (node a.1 b.1)) (upper_parts r))) (upper_parts l)

  rooted_alike : (u : List ℕ) → IsPoint word u
      → sums (λ (e : Tree × Tree). is_tree (decreasing_tree u) e.0 * f e.1) (flat_map (λ a. flat_map (λ b. joined_pairs a b) (upper_pairs r)) (upper_pairs l))
      ≡ sums (λ (e : List Tree × Tree). forest_count e.0 u * f e.1) (flat_map (λ a. map (λ b. (a.0 ++ b.0, node a.1 b.1)) (upper_parts r)) (upper_parts l))
  rooted_alike u hu =
      sums_joined (λ e. is_tree (decreasing_tree u) e.0 * f e.1) l r
      ∙ sums_same _ _ (λ (a : Tree × Tree). sums_same _ _ (λ (b : Tree × Tree).
      sums-scale_right (f (node a.1 b.1)) (λ z. is_tree (decreasing_tree u) z) (tree_products a.0 b.0)
      ∙ ap (λ n. n * f (node a.1 b.1)) (product_cuts a.0 b.0 u hu)
      ∙ sym (sums-scale_right (f (node a.1 b.1)) (λ (c : List ℕ × List ℕ). is_tree (decreasing_tree c.0) a.0 * is_tree (decreasing_tree c.1) b.0) (word_cuts u))) (upper_pairs r)) (upper_pairs l)
      ∙ sums_turn (λ a b c. trees_at a b c) (upper_pairs l) (upper_pairs r) (word_cuts u)
      ∙ over_word_cuts_same (λ x. 1 ≤ x) _ _ u hu (λ p q hp hq. at_cut p q hp hq)
      ∙ sym (sums_turn (λ a b c. parts_at a b c) (upper_parts l) (upper_parts r) (word_cuts u))
      ∙ sums_same _ _ (λ (a : List Tree × Tree). sums_same _ _ (λ (b : List Tree × Tree).
      sums-scale_right (f (node a.1 b.1)) (λ (c : List ℕ × List ℕ). forest_count a.0 c.0 * forest_count b.0 c.1) (word_cuts u)
      ∙ ap (λ n. n * f (node a.1 b.1)) (forest_count-append a.0 b.0 u)) (upper_parts r)) (upper_parts l)
      ∙ sym (sums_rooted (λ e. forest_count e.0 u * f e.1) l r)

pub upper_sums : (tree : Tree) → AreAlike tree
upper_sums empty u hu f = ap (λ n. n * f empty + 0) (is_tree-empty u)
upper_sums (node l r) u hu f =
    (λ i. sym (forest_count-one (node l r) u) i * f empty + rooted_alike l r (λ v hv g. upper_sums l v hv g) (λ v hv g. upper_sums r v hv g) f u hu i)
