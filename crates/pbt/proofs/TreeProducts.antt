-- The listed trees of a product are a rule: their number, and how often they occur at a word.
use Rattle.std.proofs.Common.{◌≡◌, ℕ, suc, ◌+◌, ◌*◌, ◌^◌, ◌≤◌, Bool, true, false, List, [], map, length, drop, refl, sym, ◌∙◌, ap, subst, arith, inl, inr, ◌⊎◌}
use Rattle.std.proofs.Math.IntN.{ℤ, pos, ◌*ℤ◌}
use Rattle.std.proofs.Math.Pow.{pow_mono}
use Rattle.std.proofs.lemmas.Int.{ints}
use Rattle.std.proofs.lemmas.List.{length-append, length-map}
use Rattle.std.proofs.lemmas.Nat.{pow_pos}
use Rattle.basis_names.specs.declared.bases.BasisId.TheVariants.{PbtP}
use Rattle.basis_representatives.proofs.TreeCodes.{length-tree_code}
use Rattle.coproduct_rules.proofs.DecreasingTrees.{is_tree}
use Rattle.coproduct_rules.proofs.PartPairs.{pow_two-suc}
use Rattle.coproduct_rules.proofs.ShuffleCuts.{over_word_cuts}
use Rattle.product_laws.specs.Classes.{splits_into}
use Rattle.product_laws.specs.Products.{IsProduct, IsProductRule}
use Rattle.product_laws.specs.TreeCuts.{front_code, IsTreeProduct}
use Rattle.product_laws.proofs.ClassProducts.{indices_read}
use Rattle.product_laws.proofs.ClassRules.{both_same, same_both}
use Rattle.product_laws.proofs.ElementProducts.{product_at, terms_of_codes_at}
use Rattle.product_laws.proofs.TreeRoots.{by_roots}
use Rattle.product_laws.proofs.TreeRule.{by_trees}
use Rattle.realisations.specs.Codes.{Code}
use Rattle.realisations.specs.IndexKinds.{IsTreeCode}
use Rattle.realisations.specs.Lists.{one_if}
use Rattle.realisations.specs.Occurrence.{occurs}
use Rattle.realisations.specs.Points.{IsPoint, word}
use Rattle.realisations.specs.Trees.{Tree, empty, node, decreasing_tree, tree_code, tree_size}
use Rattle.realisations.proofs.Every.{every-map}
use Rattle.realisations.proofs.Sums.{sums, sums-map}
use Rattle.tree_laws.specs.TreeProducts.{IsProductCode, tree_products}
use Rattle.tree_laws.proofs.ProductTrees.{lists_products, sizes_of_products}
use Rattle.word_laws.specs.AddedCodes.{times_in}

-- the codes of the trees of a product
abbrev pub product_codes : Tree → Tree → List Code
product_codes t u = map tree_code (tree_products t u)

-- there are at most 2^n of them of n nodes
pub few_products : (t u : Tree) → length (tree_products t u) ≤ 2 ^ (tree_size t + tree_size u)
few_products empty u = omega (arith, pow_pos (tree_size empty + tree_size u))
few_products (node a b) empty = omega (arith, pow_pos (tree_size (node a b) + tree_size empty))
few_products (node a b) (node c d) =
    let n : ℕ = tree_size a + tree_size b + (tree_size c + tree_size d) + 1 in
    let first : 2 ^ (tree_size (node a b) + tree_size c) ≤ 2 ^ n = pow_mono (omega arith) in
    let second : 2 ^ (tree_size b + tree_size (node c d)) ≤ 2 ^ n = pow_mono (omega arith) in
    let whole : tree_size (node a b) + tree_size (node c d) ≡ suc n = omega arith in
    omega (
      arith,
      length-append (map (λ y. node y d) (tree_products (node a b) c)) (map (λ x. node a x) (tree_products b (node c d))),
      length-map {B = Tree} (tree_products (node a b) c) (λ y. node y d),
      length-map {B = Tree} (tree_products b (node c d)) (λ x. node a x),
      few_products (node a b) c,
      few_products b (node c d),
      first,
      second,
      ap (λ k. 2 ^ k) whole,
      pow_two-suc n,
    )

module _ (t u : Tree) where
  -- whether a code is cut into those of the factors
  abbrev cuts : Code → Bool
  cuts code = splits_into (λ n c. front_code n c) (λ n c. drop n c) (length (tree_code t)) (tree_code t) (tree_code u) code

  -- a code is listed once where it is, and else not
  times : (code : Code) → IsTreeCode code
      → (IsProductCode t u code × (times_in code (product_codes t u) ≡ times_in code [] + 1)) ⊎ ((IsProductCode t u code → ⊥) × (times_in code (product_codes t u) ≡ times_in code []))
      → (b : Bool) → cuts code ≡ b → times_in code (product_codes t u) ≡ one_if b
  times code tree (inl (_, once)) true e = once
  times code tree (inl ((v, product, is), _)) false e =
      let h : IsTreeProduct (tree_code t) (tree_code u) code = subst (IsTreeProduct (tree_code t) (tree_code u)) is (by_roots.cut t u v product) in
      let test : cuts code ≡ true = both_same _ (tree_code t) _ (tree_code u) h.front h.back in
      absurd (apart (cuts code) test e)
    where
      apart : (b : Bool) → b ≡ true → b ≡ false → ⊥
      apart true p q = cc
      apart false p q = cc
  times code (v, is) (inr (none, _)) true e =
      let parts = same_both (front_code (length (tree_code t)) code) (tree_code t) (drop (length (tree_code t)) code) (tree_code u) e in
      let h : IsTreeProduct (tree_code t) (tree_code u) code = record { tree = (v, is); front = parts.0; back = parts.1 } in
      absurd (none (v, by_roots.rooted t u v (subst (IsTreeProduct (tree_code t) (tree_code u)) (sym is) h), is))
  times code tree (inr (_, never)) false e = never

  -- so they read as the product
  pub product_reads : IsProduct PbtP (tree_code t) (tree_code u) (product_codes t u)
  product_reads =
      indices_read PbtP (λ p. tree_code (decreasing_tree p)) (λ n c. front_code n c) (λ n c. drop n c) by_trees (tree_code t) (tree_code u) (product_codes t u)
      (λ code index. times code index (lists_products t u code) (cuts code) refl)

  -- at a word as many occur as there are cuts of the word into words of the factors
  pub product_cuts : (w : List ℕ) → IsPoint word w → sums (λ v. is_tree (decreasing_tree w) v) (tree_products t u) ≡ over_word_cuts (λ a b. is_tree (decreasing_tree a) t * is_tree (decreasing_tree b) u) w
  product_cuts w point =
      sym (sums-map (λ (code : Code). one_if (occurs PbtP code w)) tree_code (tree_products t u))
      ∙ by_readings (product_reads w point) (terms_of_codes_at PbtP (product_codes t u) w) (product_at PbtP (tree_code t) (tree_code u) w refl)
    where
      by_readings : {m n : ℤ} {a b : ℕ} → m *ℤ pos 1 ≡ n *ℤ pos 1 → m ≡ pos a → n ≡ pos b → a ≡ b
      by_readings {m} {n} {a} {b} h p q =
          let same : pos a *ℤ pos 1 ≡ pos b *ℤ pos 1 = (λ i. sym p i *ℤ pos 1) ∙ h ∙ (λ i. q i *ℤ pos 1) in
          omega (arith, ints, same)

  -- and are a rule
  pub product_rule : IsProductRule PbtP (tree_code t) (tree_code u) (product_codes t u)
  product_rule =
      let n : ℕ = length (tree_code t) + length (tree_code u) in
      let more : 2 ^ (tree_size t + tree_size u) ≤ 2 ^ (5 * n) = pow_mono (omega (arith, length-tree_code t, length-tree_code u)) in
      record {
        reads = product_reads;
        indices = every-map (λ v. tree_size v ≡ tree_size t + tree_size u) (λ code. IsTreeCode code × (length code ≡ n)) tree_code
            (λ v h. ((v, refl), omega (arith, h, length-tree_code v, length-tree_code t, length-tree_code u))) (tree_products t u) (sizes_of_products t u);
        few = omega (arith, length-map {B = Code} (tree_products t u) tree_code, few_products t u, more);
      }
