-- The upper parts of a tree and what hangs below them: their sizes, and their number.
use Rattle.std.proofs.Common.{◌≡◌, ℕ, ◌+◌, ◌*◌, ◌^◌, ◌≤◌, List, [], ◌∷◌, ◌++◌, map, length, refl, ◌∙◌, ap, arith}
use Rattle.std.specs.List.{AllByRecursion, flat_map}
use Rattle.std.proofs.Math.Nat.{mul-le-mul}
use Rattle.std.proofs.Math.Pow.{pow_mono}
use Rattle.std.proofs.lemmas.Nat.{pow-add, pow_pos}
use Rattle.std.proofs.lemmas.List.{length-map}
use Rattle.realisations.specs.Trees.{Tree, empty, node, tree_size, tree_code}
use Rattle.realisations.specs.IndexKinds.{IsTreeCode}
use Rattle.basis_names.specs.declared.bases.BasisId.TheVariants.{PbtP}
use Rattle.coproduct_laws.specs.Coproducts.{ArePairs}
use Rattle.coproduct_rules.specs.UpperParts.{upper_parts, forest_size, AreProducts, upper_cuts}
use Rattle.realisations.proofs.Every.{every-flat_map, every-map}
use Rattle.coproduct_rules.proofs.PartPairs.{length-flat_map-le, pow_two-suc}
use Rattle.basis_representatives.proofs.TreeCodes.{length-tree_code}
use Rattle.coproduct_rules.specs.Laws.{TreeCoproductLaw}
use Rattle.coproduct_rules.proofs.UpperRule.{tree_coproduct}

-- the nodes of two lists of trees
forest_size-append : (s t : List Tree) → forest_size (s ++ t) ≡ forest_size s + forest_size t
forest_size-append [] t = omega arith
forest_size-append (tree ∷ s) t = omega (arith, forest_size-append s t)

-- an upper part and the trees below it have all nodes
pub upper_sizes : (tree : Tree) → AllByRecursion (λ e. forest_size e.0 + tree_size e.1 ≡ tree_size tree) (upper_parts tree)
upper_sizes empty = (omega arith, tt)
upper_sizes (node l r) = (
  omega arith,
  every-flat_map (λ (a : List Tree × Tree). forest_size a.0 + tree_size a.1 ≡ tree_size l) _ (λ (a : List Tree × Tree). map (λ (b : List Tree × Tree). (a.0 ++ b.0, node a.1 b.1)) (upper_parts r))
      (λ a ha. every-map (λ (b : List Tree × Tree). forest_size b.0 + tree_size b.1 ≡ tree_size r) _ (λ (b : List Tree × Tree). (a.0 ++ b.0, node a.1 b.1))
      (λ b hb. omega (arith, ha, hb, forest_size-append a.0 b.0)) (upper_parts r) (upper_sizes r))
      (upper_parts l) (upper_sizes l),
)

-- each is a set of nodes
pub few_upper_parts : (tree : Tree) → length (upper_parts tree) ≤ 2 ^ tree_size tree
few_upper_parts empty = omega arith
few_upper_parts (node l r) =
    let product : length {A = List Tree × Tree} (flat_map (λ (a : List Tree × Tree). map (λ (b : List Tree × Tree). (a.0 ++ b.0, node a.1 b.1)) (upper_parts r)) (upper_parts l)) ≤ length (upper_parts l) * length (upper_parts r) =
    length-flat_map-le (λ (a : List Tree × Tree). forest_size a.0 + tree_size a.1 ≡ tree_size l) (λ (a : List Tree × Tree). map (λ (b : List Tree × Tree). (a.0 ++ b.0, node a.1 b.1)) (upper_parts r)) (length (upper_parts r))
    (λ a h. omega (arith, length-map {B = List Tree × Tree} (upper_parts r) (λ (b : List Tree × Tree). (a.0 ++ b.0, node a.1 b.1)))) (upper_parts l) (upper_sizes l) in
    let both : length (upper_parts l) * length (upper_parts r) ≤ 2 ^ tree_size l * 2 ^ tree_size r = mul-le-mul (few_upper_parts l) (few_upper_parts r) in
    omega (arith, product, both, pow-add 2 (tree_size l) (tree_size r), pow_pos (tree_size l + tree_size r), pow_two-suc (tree_size l + tree_size r))

module _ (products : List Tree → List (List ℕ)) (are : AreProducts products) (tree : Tree) where
  -- PBT.P: pairs of codes of trees
  pub tree_pairs : ArePairs PbtP (tree_code tree) (upper_cuts products tree)
  tree_pairs =
      every-flat_map (λ (e : List Tree × Tree). forest_size e.0 + tree_size e.1 ≡ tree_size tree) _ (λ e. map (λ code. (code, tree_code e.1)) (products e.0))
      (λ e he. every-map (λ code. IsTreeCode code × (length code ≡ forest_size e.0)) _ (λ code. (code, tree_code e.1))
      (λ code h. (h.0, (e.1, refl), omega (arith, h.1, he, length-tree_code e.1, length-tree_code tree))) (products e.0) (are.indices e.0))
      (upper_parts tree) (upper_sizes tree)

  -- PBT.P: at most 2^(5n) of them
  pub few_tree_pairs : length (upper_cuts products tree) ≤ 2 ^ (5 * length (tree_code tree))
  few_tree_pairs =
      let all : length (upper_cuts products tree) ≤ length (upper_parts tree) * 2 ^ (4 * tree_size tree) =
      length-flat_map-le (λ (e : List Tree × Tree). forest_size e.0 + tree_size e.1 ≡ tree_size tree) (λ e. map (λ code. (code, tree_code e.1)) (products e.0)) (2 ^ (4 * tree_size tree))
      (λ e he. each e he) (upper_parts tree) (upper_sizes tree) in
      let both : length (upper_parts tree) * 2 ^ (4 * tree_size tree) ≤ 2 ^ tree_size tree * 2 ^ (4 * tree_size tree) = mul-le-mul (few_upper_parts tree) (omega arith) in
      let whole : 2 ^ (5 * length (tree_code tree)) ≡ 2 ^ tree_size tree * 2 ^ (4 * tree_size tree) = ap (λ n. 2 ^ n) (omega (arith, length-tree_code tree)) ∙ pow-add 2 (tree_size tree) (4 * tree_size tree) in
      omega (arith, all, both, whole)
    where
      each : (e : List Tree × Tree) → forest_size e.0 + tree_size e.1 ≡ tree_size tree → length (map {B = List ℕ × List ℕ} (λ code. (code, tree_code e.1)) (products e.0)) ≤ 2 ^ (4 * tree_size tree)
      each e he =
          let more : 2 ^ (4 * forest_size e.0) ≤ 2 ^ (4 * tree_size tree) = pow_mono (omega (arith, he)) in
          omega (arith, more, length-map {B = List ℕ × List ℕ} (products e.0) (λ code. (code, tree_code e.1)), are.few e.0)

-- the rule of PBT.P
pub tree_rule : TreeCoproductLaw
tree_rule products are tree = record { reads = tree_coproduct products are tree; indices = tree_pairs products are tree; few = few_tree_pairs products are tree }
