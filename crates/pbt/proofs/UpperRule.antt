-- The pairs of a tree are a coproduct rule, and there are few of them.
use Rattle.std.proofs.Common.{◌≡◌, ◌+◌, ◌*◌, ◌^◌, ◌≤◌, length, refl, sym, ◌∙◌, ap, arith}
use Rattle.std.specs.List.{AllByRecursion, flat_map}
use Rattle.std.proofs.Math.Pow.{pow_mono}
use Rattle.std.proofs.lemmas.List.{length-map}
use Rattle.basis_names.specs.declared.bases.BasisId.TheVariants.{PbtP}
use Rattle.basis_representatives.proofs.TreeCodes.{length-tree_code}
use Rattle.coproduct_laws.specs.Coproducts.{ArePairs, IsCoproductRule}
use Rattle.coproduct_laws.proofs.CoproductCounts.{coproduct_by_counts}
use Rattle.coproduct_rules.proofs.DecreasingTrees.{is_tree}
use Rattle.coproduct_rules.proofs.UpperRule.{upper_points}
use Rattle.realisations.specs.Codes.{Code}
use Rattle.realisations.specs.Lists.{one_if}
use Rattle.realisations.specs.Occurrence.{occurs}
use Rattle.realisations.specs.Trees.{Tree, empty, node, decreasing_tree, tree_code, tree_size}
use Rattle.realisations.proofs.Every.{every-flat_map, every-map}
use Rattle.realisations.proofs.Sums.{sums-map}
use Rattle.tree_laws.specs.TreeProducts.{tree_products}
use Rattle.tree_laws.specs.UpperParts.{joined_pairs, upper_codes, upper_pairs}
use Rattle.tree_laws.proofs.ProductTrees.{sizes_of_products}
use Rattle.pbt.proofs.FewPairs.{few_pairs}
use Rattle.pbt.proofs.UpperSums.{upper_sums}

-- both trees of a pair have all nodes
pair_sizes : (tree : Tree) → AllByRecursion (λ (e : Tree × Tree). tree_size e.0 + tree_size e.1 ≡ tree_size tree) (upper_pairs tree)
pair_sizes empty = (omega arith, tt)
pair_sizes (node l r) = (
  omega arith,
  every-flat_map (λ (a : Tree × Tree). tree_size a.0 + tree_size a.1 ≡ tree_size l) _ (λ (a : Tree × Tree). flat_map (λ (b : Tree × Tree). joined_pairs a b) (upper_pairs r))
      (λ a ha. every-flat_map (λ (b : Tree × Tree). tree_size b.0 + tree_size b.1 ≡ tree_size r) _ (λ (b : Tree × Tree). joined_pairs a b)
      (λ b hb. every-map (λ v. tree_size v ≡ tree_size a.0 + tree_size b.0) _ (λ (v : Tree). (v, node a.1 b.1)) (λ v hv. omega (arith, ha, hb, hv)) (tree_products a.0 b.0) (sizes_of_products a.0 b.0))
      (upper_pairs r) (pair_sizes r))
      (upper_pairs l) (pair_sizes l),
)

-- a tree of n nodes, at most 7, has at most 2^n pairs
pub few_codes : (tree : Tree) → tree_size tree ≤ 7 → length (upper_codes tree) ≤ 2 ^ (1 * tree_size tree)
few_codes tree small =
    let size : length (upper_codes tree) ≡ length (upper_pairs tree) = length-map {B = Code × Code} (upper_pairs tree) (λ (e : Tree × Tree). (tree_code e.0, tree_code e.1)) in
    let exponent : 1 * tree_size tree ≡ tree_size tree = omega arith in
    omega (arith, size, few_pairs tree small, ap (λ k. 2 ^ k) exponent)

-- pairs of codes of trees
are_pairs : (tree : Tree) → ArePairs PbtP (tree_code tree) (upper_codes tree)
are_pairs tree =
    every-map (λ (e : Tree × Tree). tree_size e.0 + tree_size e.1 ≡ tree_size tree) _ (λ (e : Tree × Tree). (tree_code e.0, tree_code e.1))
    (λ e h. ((e.0, refl), (e.1, refl), omega (arith, h, length-tree_code e.0, length-tree_code e.1, length-tree_code tree))) (upper_pairs tree) (pair_sizes tree)

-- the pairs of a tree of at most 7 nodes are a coproduct rule
pub upper_rule : (tree : Tree) → tree_size tree ≤ 7 → IsCoproductRule PbtP (tree_code tree) (upper_codes tree)
upper_rule tree small =
    let more : 2 ^ (1 * tree_size tree) ≤ 2 ^ (5 * length (tree_code tree)) = pow_mono (omega (arith, length-tree_code tree)) in
    record {
      reads = coproduct_by_counts PbtP (tree_code tree) (upper_codes tree) (λ u v hu hv.
          upper_points tree u v hv
          ∙ sym (upper_sums tree u hu (λ t. is_tree (decreasing_tree v) t))
          ∙ sym (sums-map (λ (p : Code × Code). one_if (occurs PbtP p.0 u) * one_if (occurs PbtP p.1 v)) (λ (e : Tree × Tree). (tree_code e.0, tree_code e.1)) (upper_pairs tree)));
      indices = are_pairs tree;
      few = omega (arith, few_codes tree small, more);
    }
