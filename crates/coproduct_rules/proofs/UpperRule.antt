-- The coproduct rule of PBT.P, as readings.
use Rattle.std.proofs.Common.{◌≡◌, ℕ, ◌*◌, List, [], ◌∷◌, map, length, take, drop, refl, sym, ◌∙◌, ap, arith}
use Rattle.std.proofs.Math.IntN.{ℤ, pos, ◌+ℤ◌, ◌*ℤ◌}
use Rattle.std.proofs.lemmas.Int.{ints}
use Rattle.std.specs.List.{flat_map}
use Rattle.realisations.specs.Lists.{one_if, int_sum}
use Rattle.realisations.specs.Words.{greatest, raise, shifted_shuffles, word_cuts}
use Rattle.realisations.specs.Trees.{Tree, tree_code, decreasing_tree}
use Rattle.realisations.specs.Points.{word, IsPoint}
use Rattle.basis_names.specs.declared.bases.BasisId.TheVariants.{PbtP}
use Rattle.realisations.specs.Occurrence.{occurs}
use Rattle.realisations.specs.Readings.{Reading, leaf, applied, coproduct, tensor, element, kinds_of, numerator, denominator}
use Rattle.realisations.proofs.Sums.{sums, sums-map, sums-flat_map, sums_same}
use Rattle.coproduct_laws.specs.Coproducts.{IsCoproduct}
use Rattle.coproduct_rules.specs.UpperParts.{upper_parts, product_of_trees, AreProducts, upper_cuts}
use Rattle.coproduct_rules.proofs.DoubleSums.{sums-scale_right}
use Rattle.basis_representatives.proofs.PackedWords.{letters_to_greatest}
use Rattle.coproduct_laws.proofs.LowAndHigh.{high_raised}
use Rattle.coproduct_laws.proofs.CoproductCounts.{coproduct_by_counts, at_points}
use Rattle.coproduct_rules.proofs.KeyReadings.{numerator-coproduct}
use Rattle.coproduct_rules.proofs.Raising.{decreasing_tree-raise}
use Rattle.coproduct_rules.proofs.DecreasingTrees.{is_tree, is_tree-empty}
use Rattle.coproduct_rules.proofs.UpperParts.{forest_count, upper_count, upper_parts_count}

-- the points at which the element of a tree occurs in the coproduct are counted by the upper parts
pub upper_points : (tree : Tree) (u v : List ℕ) → IsPoint word v → at_points PbtP (tree_code tree) (shifted_shuffles u v) ≡ upper_count tree u v
upper_points tree u v positive =
    upper_parts_count (greatest u) tree u (raise (greatest u) v) (letters_to_greatest u (greatest u) (omega arith)) (high_raised (greatest u) v positive)
    ∙ ap (λ t. sums (λ e. forest_count e.0 u * is_tree t e.1) (upper_parts tree)) (decreasing_tree-raise (greatest u) v)

-- a product of elements of trees reads as the number of ways to cut a word into words with these trees
product_cuts : (f g : List ℕ → ℕ) (a b : Reading) → ((w : List ℕ) → numerator a (w ∷ []) ≡ pos (f w)) → ((w : List ℕ) → numerator b (w ∷ []) ≡ pos (g w)) → (cs : List (List ℕ × List ℕ))
    → int_sum (map (λ (c : List (List ℕ) × List (List ℕ)). numerator a c.0 *ℤ numerator b c.1) (flat_map (λ c. map (λ (d : List (List ℕ) × List (List ℕ)). (c.0 ∷ d.0, c.1 ∷ d.1)) (([], []) ∷ [])) cs))
    ≡ pos (sums (λ c. f c.0 * g c.1) cs)
product_cuts f g a b ha hb [] = refl
product_cuts f g a b ha hb (c ∷ cs) =
    (λ i. (ha c.0 i *ℤ hb c.1 i) +ℤ product_cuts f g a b ha hb cs i) ∙ omega (arith, ints)

-- the element of a tree at a word
numerator-tree : (tree : Tree) (w : List ℕ) → numerator (element PbtP (tree_code tree)) (w ∷ []) ≡ pos (is_tree (decreasing_tree w) tree)
numerator-tree tree w = omega (arith, ints)

-- the product of the elements of some trees at a word
pub numerator-trees : (trees : List Tree) (w : List ℕ) → numerator (product_of_trees trees) (w ∷ []) ≡ pos (forest_count trees w)
numerator-trees [] w = ap (λ n. (pos 1 *ℤ pos (n * 1)) +ℤ pos 0) (is_tree-empty w) ∙ omega (arith, ints)
numerator-trees (tree ∷ trees) w =
    product_cuts (λ a. is_tree (decreasing_tree a) tree) (λ b. forest_count trees b) (element PbtP (tree_code tree)) (product_of_trees trees)
    (λ a. numerator-tree tree a) (λ b. numerator-trees trees b) (word_cuts w)

-- it is over 1
pub denominator-trees : (trees : List Tree) → denominator (product_of_trees trees) ≡ 1
denominator-trees [] = refl
denominator-trees (tree ∷ trees) = omega (arith, denominator-trees trees)

-- it is read at one word
pub kinds-trees : (trees : List Tree) → kinds_of (product_of_trees trees) ≡ word ∷ []
kinds-trees [] = refl
kinds-trees (tree ∷ trees) = refl

-- the coproduct of the element of a tree reads as the sum over its upper parts of the product of the elements of the subtrees that hang below, tensor the element of the part
numerator-upper : (u v : List ℕ) (es : List (List Tree × Tree))
    → int_sum (map (λ e. numerator (tensor (product_of_trees e.0) (element PbtP (tree_code e.1))) (u ∷ v ∷ [])) es) ≡ pos (sums (λ e. forest_count e.0 u * is_tree (decreasing_tree v) e.1) es)
numerator-upper u v [] = refl
numerator-upper u v (e ∷ es) =
    (λ i. numerator (product_of_trees e.0) (take (length (kinds-trees e.0 i)) (u ∷ v ∷ [])) *ℤ numerator (element PbtP (tree_code e.1)) (drop (length (kinds-trees e.0 i)) (u ∷ v ∷ [])) +ℤ numerator-upper u v es i)
    ∙ (λ i. numerator-trees e.0 u i *ℤ numerator-tree e.1 v i +ℤ pos (sums (λ e. forest_count e.0 u * is_tree (decreasing_tree v) e.1) es))
    ∙ omega (arith, ints)

-- the coproduct as a sum of readings
pub upper_parts_coproduct : (tree : Tree) (u v : List ℕ) → IsPoint word v
    → numerator (applied coproduct 0 (element PbtP (tree_code tree))) (u ∷ v ∷ [])
    ≡ int_sum (map (λ e. numerator (tensor (product_of_trees e.0) (element PbtP (tree_code e.1))) (u ∷ v ∷ [])) (upper_parts tree))
upper_parts_coproduct tree u v positive =
    numerator-coproduct PbtP (tree_code tree) u v ∙ ap pos (upper_points tree u v positive) ∙ sym (numerator-upper u v (upper_parts tree))

-- codes that read as a product of elements

-- how many codes occur at a word
abbrev at_codes : List ℕ → List (List ℕ) → ℕ
at_codes u codes = sums (λ code. one_if (occurs PbtP code u)) codes

-- codes read as the number of them that occur
numerator-codes : (u : List ℕ) (codes : List (List ℕ)) → numerator (leaf (PbtP ∷ []) 1 (map (λ code. (pos 1, code ∷ [])) codes)) (u ∷ []) ≡ pos (at_codes u codes)
numerator-codes u [] = refl
numerator-codes u (code ∷ codes) = omega (arith, ints, numerator-codes u codes)

-- codes that read as a product occur as often as it does
products_count : (products : List Tree → List (List ℕ)) → AreProducts products → (trees : List Tree) (u : List ℕ) → IsPoint word u → at_codes u (products trees) ≡ forest_count trees u
products_count products are trees u hu =
    by_readings (are.reads trees u hu) (numerator-codes u (products trees)) (numerator-trees trees u) (denominator-trees trees)
  where
    by_readings : {m n : ℤ} {d a b : ℕ} → m *ℤ pos d ≡ n *ℤ pos 1 → m ≡ pos a → n ≡ pos b → d ≡ 1 → a ≡ b
    by_readings {m} {n} {d} {a} {b} h p q r =
        let same : pos a *ℤ pos 1 ≡ pos b *ℤ pos 1 = (λ i. sym p i *ℤ pos (sym r i)) ∙ h ∙ (λ i. q i *ℤ pos 1) in
        omega (arith, ints, same)

-- PBT.P: over the upper parts V of a tree, the products of the hanging subtrees, listed by any rule, tensor V
pub tree_coproduct : (products : List Tree → List (List ℕ)) → AreProducts products → (tree : Tree) → IsCoproduct PbtP (tree_code tree) (upper_cuts products tree)
tree_coproduct products are tree =
    coproduct_by_counts PbtP (tree_code tree) (upper_cuts products tree) (λ u v hu hv.
    upper_points tree u v hv
    ∙ sums_same (λ e. forest_count e.0 u * is_tree (decreasing_tree v) e.1) _
    (λ e. ap (λ n. n * is_tree (decreasing_tree v) e.1) (sym (products_count products are e.0 u hu))
    ∙ sym (sums-map (λ (p : List ℕ × List ℕ). one_if (occurs PbtP p.0 u) * one_if (occurs PbtP p.1 v)) (λ (code : List ℕ). (code, tree_code e.1)) (products e.0)
    ∙ sums-scale_right (is_tree (decreasing_tree v) e.1) (λ (code : List ℕ). one_if (occurs PbtP code u)) (products e.0))) (upper_parts tree)
    ∙ sym (sums-flat_map (λ (p : List ℕ × List ℕ). one_if (occurs PbtP p.0 u) * one_if (occurs PbtP p.1 v)) (λ e. map (λ (code : List ℕ). (code, tree_code e.1)) (products e.0)) (upper_parts tree)))
