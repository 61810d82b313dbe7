-- Each product of two elements of a basis, but of QSym.M, has a rule of these, and so an answer.
use Rattle.std.proofs.Common.{◌≡◌, ℕ, suc, ◌+◌, ◌≤◌, List, ◌∷◌, length, refl, sym, ◌∙◌, ap, subst, arith}
use Rattle.std.specs.List.{concat}
use Rattle.std.proofs.lemmas.List.{length-append}
use Rattle.std.proofs.lemmas.List.FromFn.{length-map-range_with_len}
use Rattle.basis_names.specs.declared.bases.BasisId.{BasisId}
use Rattle.basis_names.specs.declared.bases.BasisId.TheVariants.{FqsymF, FqsymG, FsymS, NcsfL, NcsfR, NcsfS, PbtP, QsymF, QsymM, WqsymM}
use Rattle.realisations.specs.IndexKinds.{IsTableauCode, IsTreeCode}
use Rattle.realisations.specs.Indices.{IsIndex, degree_of}
use Rattle.realisations.specs.Standardisation.{inverse, pack, standardise}
use Rattle.realisations.specs.Tableaux.{reading_word, recording_tableau, row_of, rows_of, tableau_code}
use Rattle.realisations.specs.Trees.{Tree, empty, node, decreasing_tree, subtree_sizes, tree_code, tree_of, tree_size}
use Rattle.basis_representatives.proofs.AllRepresentatives.{class_laws}
use Rattle.basis_representatives.proofs.Inverses.{length-inverse, permutation-inverse}
use Rattle.basis_representatives.proofs.Letters.{Letters-append}
use Rattle.basis_representatives.proofs.Permutations.{each_once, permutation_from}
use Rattle.basis_representatives.proofs.ReadingWords.{length-reading_word, permutation-reading_word}
use Rattle.basis_representatives.proofs.TableauCodes.{rows_of-code}
use Rattle.basis_representatives.proofs.TreeCodes.{length-tree_code}
use Rattle.basis_representatives.proofs.TreesOfCodes.{tree_of-code}
use Rattle.std.proofs.lemmas.Bool.{and_parts}
use Rattle.realisations.specs.IndexKinds.{is_permutation}
use Rattle.realisations.specs.Tableaux.{is_increasing}
use Rattle.std.specs.Prelude.{drop, take}
use Rattle.product_laws.specs.Laws.{ExistenceLaw}
use Rattle.product_laws.specs.Products.{IsProductRule}
use Rattle.product_laws.specs.TableauCuts.{back_tableau}
use Rattle.product_laws.specs.TreeCuts.{front_code}
use Rattle.product_laws.proofs.ChosenCodes.{chosen_rule}
use Rattle.product_laws.proofs.ConcatenationRules.{concatenation_rules}
use Rattle.product_laws.proofs.CutRules.{by_packings, by_standardisations, letters_of_packed, letters_of_permutation}
use Rattle.product_laws.proofs.DistinctWords.{AreUpTo}
use Rattle.product_laws.proofs.FundamentalProducts.{fundamental_rule}
use Rattle.product_laws.proofs.GatheredElements.{gathers}
use Rattle.product_laws.proofs.RibbonRule.{ribbon_rule}
use Rattle.product_laws.proofs.ShuffleRule.{shuffle_rule}
use Rattle.product_laws.proofs.TableauRule.{by_tableaux}
use Rattle.product_laws.proofs.TreeRule.{by_trees}

-- the representative of a tableau is a permutation of its size
word_of_tableau : (code : List ℕ) → IsTableauCode code
    → AreUpTo (length code) (inverse (reading_word (rows_of code))) × (length (inverse (reading_word (rows_of code))) ≡ length code)
word_of_tableau code (rows, standard, is) =
    let parts = and_parts (is_permutation (concat rows)) (is_increasing rows) standard in
    let same : rows_of code ≡ rows = ap rows_of (sym is) ∙ rows_of-code rows standard in
    let reads = permutation-reading_word rows (each_once (concat rows) parts.0) in
    let size : length (inverse (reading_word rows)) ≡ length code =
    length-inverse (reading_word rows) ∙ length-reading_word rows ∙ sym (length-map-range_with_len (λ i. row_of i rows) 1 (length (concat rows))) ∙ ap length is in
    subst (λ t. AreUpTo (length code) (inverse (reading_word t)) × (length (inverse (reading_word t)) ≡ length code)) (sym same)
    (subst (λ n. AreUpTo n (inverse (reading_word rows))) size (letters_of_permutation (inverse (reading_word rows)) (permutation_from (inverse (reading_word rows)) (permutation-inverse (reading_word rows) reads))), size)

-- the sizes of the subtrees of a tree are from 1 to its size
letters_of_sizes : (t : Tree) (n : ℕ) → tree_size t ≤ n → AreUpTo n (subtree_sizes t)
letters_of_sizes empty n le = tt
letters_of_sizes (node l r) n le =
    Letters-append (λ x. (1 ≤ x) × (x ≤ n)) (subtree_sizes l) (suc (tree_size l + tree_size r) ∷ subtree_sizes r) (letters_of_sizes l n (omega (arith, le)))
    ((omega arith, omega (arith, le)), letters_of_sizes r n (omega (arith, le)))

length-sizes : (t : Tree) → length (subtree_sizes t) ≡ tree_size t
length-sizes empty = refl
length-sizes (node l r) = omega (arith, length-append (subtree_sizes l) (suc (tree_size l + tree_size r) ∷ subtree_sizes r), length-sizes l, length-sizes r)

word_of_tree : (code : List ℕ) → IsTreeCode code → AreUpTo (length code) (subtree_sizes (tree_of code)) × (length (subtree_sizes (tree_of code)) ≡ length code)
word_of_tree code (t, is) =
    let same : tree_of code ≡ t = ap tree_of (sym is) ∙ tree_of-code t in
    let size : tree_size t ≡ length code = sym (length-tree_code t) ∙ ap length is in
    subst (λ u. AreUpTo (length code) (subtree_sizes u) × (length (subtree_sizes u) ≡ length code)) (sym same)
    (letters_of_sizes t (length code) (omega (arith, size)), length-sizes t ∙ size)

HasRule : BasisId → Type 0
HasRule basis = (left right : List ℕ) → IsIndex basis left → IsIndex basis right → degree_of basis left + degree_of basis right ≤ 32 → (codes : List (List ℕ)) × IsProductRule basis left right codes

rules : (basis : BasisId) → (basis ≡ QsymM → ⊥) → HasRule basis
unfolding HasRule
rules QsymM other = absurd (other refl)
rules QsymF other = λ left right hl hr small. (_, fundamental_rule left right hl hr)
rules NcsfR other = λ left right hl hr small. (_, ribbon_rule left right hl hr)
rules NcsfS other = λ left right hl hr small. (_, concatenation_rules.complete left right hl hr)
rules NcsfL other = λ left right hl hr small. (_, concatenation_rules.elementary left right hl hr)
rules FqsymF other = λ left right hl hr small. (_, shuffle_rule left right hl hr)
rules FqsymG other = λ left right hl hr small.
    chosen_rule FqsymG (λ p. standardise p) (λ n c. standardise (take n c)) (λ n c. standardise (drop n c)) by_standardisations class_laws.by_inverses
    (λ c is. (letters_of_permutation c is, refl)) left right small
rules WqsymM other = λ left right hl hr small.
    chosen_rule WqsymM (λ p. pack p) (λ n c. pack (take n c)) (λ n c. pack (drop n c)) by_packings class_laws.packed_words
    (λ c is. (letters_of_packed c is, refl)) left right small
rules FsymS other = λ left right hl hr small.
    chosen_rule FsymS (λ p. tableau_code (recording_tableau p)) (λ n code. take n code) (λ n code. back_tableau n code) by_tableaux class_laws.tableaux
    word_of_tableau left right small
rules PbtP other = λ left right hl hr small.
    chosen_rule PbtP (λ p. tree_code (decreasing_tree p)) (λ n code. front_code n code) (λ n code. drop n code) by_trees class_laws.trees
    word_of_tree left right small

pub products_exist : ExistenceLaw
unfolding HasRule
products_exist basis other left right hl hr small =
    let rule = rules basis other left right hl hr (omega (arith, small)) in
    gathers basis left right rule.0 rule.1 small
