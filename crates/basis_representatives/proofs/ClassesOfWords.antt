-- The class bases of the word algebras: the representative of an index has the index as its class.
use Rattle.std.proofs.Common.{◌≡◌, ℕ, List, ◌∙◌, ap, sym}
use Rattle.std.specs.Prelude.{IsTrue}
use Rattle.std.specs.List.{concat}
use Rattle.std.proofs.lemmas.Bool.{and_parts}
use Rattle.basis_names.specs.declared.bases.BasisId.TheVariants.{FqsymF, FqsymG, WqsymM, FsymS, PbtP}
use Rattle.realisations.specs.Lists.{same_list}
use Rattle.realisations.specs.Standardisation.{standardise, inverse}
use Rattle.realisations.specs.Tableaux.{tableau_code, insertion_tableau, recording_tableau, is_increasing, reading_word, rows_of}
use Rattle.realisations.specs.Trees.{tree_code, decreasing_tree, subtree_sizes, tree_of}
use Rattle.realisations.specs.IndexKinds.{is_permutation, is_standard_tableau}
use Rattle.basis_representatives.specs.Laws.{AreClasses}
use Rattle.basis_representatives.proofs.Inverses.{inverse-inverse, permutation-inverse}
use Rattle.basis_representatives.proofs.PackedWords.{all_letters, pack-packed}
use Rattle.basis_representatives.proofs.Permutations.{HasEachOnce, each_once, standardise-permutation}
use Rattle.basis_representatives.proofs.ReadingWords.{insertion_tableau-reading_word, permutation-reading_word}
use Rattle.basis_representatives.proofs.TableauCodes.{rows_of-code}
use Rattle.basis_representatives.proofs.TreeCodes.{code-decreasing_tree, decreasing_code-subtree_sizes}
use Rattle.basis_representatives.proofs.TreesOfCodes.{tree_of-code}

-- a packed word is its own packing
pub classes_of_packed_words : AreClasses WqsymM
classes_of_packed_words index h code h' = ap (λ u. same_list u code) (pack-packed index (all_letters index h))

-- a permutation is its own standardisation
pub classes_of_permutations : AreClasses FqsymG
classes_of_permutations index h code h' = ap (λ s. same_list s code) (standardise-permutation index (each_once index h))

-- the inverse of a permutation has the permutation as the inverse of its standardisation
pub inverse-standardise-inverse : (s : List ℕ) → HasEachOnce s → inverse (standardise (inverse s)) ≡ s
inverse-standardise-inverse s h = ap inverse (standardise-permutation (inverse s) (permutation-inverse s h)) ∙ inverse-inverse s h

pub classes_of_inverses : AreClasses FqsymF
classes_of_inverses index h code h' = ap (λ s. same_list s code) (inverse-standardise-inverse index (each_once index h))

-- the inverse of the reading word of a standard tableau has this tableau
pub recording_tableau-reading_word : (rows : List (List ℕ)) → IsTrue (is_standard_tableau rows) → recording_tableau (inverse (reading_word rows)) ≡ rows
recording_tableau-reading_word rows h =
    let parts = and_parts (is_permutation (concat rows)) (is_increasing rows) h in
    ap insertion_tableau (inverse-standardise-inverse (reading_word rows) (permutation-reading_word rows (each_once (concat rows) parts.0)))
    ∙ insertion_tableau-reading_word rows parts.1

-- the tableau of a code, by the rows of the code
pub classes_of_tableaux : AreClasses FsymS
classes_of_tableaux index h code h' =
    let rows : rows_of index ≡ h.0 = ap rows_of (sym h.2) ∙ rows_of-code h.0 h.1 in
    ap (λ c. same_list c code)
    (ap (λ t. tableau_code (recording_tableau (inverse (reading_word t)))) rows ∙ ap tableau_code (recording_tableau-reading_word h.0 h.1) ∙ h.2)

-- the tree of a code
pub classes_of_trees : AreClasses PbtP
classes_of_trees index h code h' =
    let tree : tree_of index ≡ h.0 = ap tree_of (sym h.1) ∙ tree_of-code h.0 in
    ap (λ c. same_list c code)
    (ap (λ t. tree_code (decreasing_tree (subtree_sizes t))) tree ∙ code-decreasing_tree (subtree_sizes h.0) ∙ decreasing_code-subtree_sizes h.0 ∙ h.1)
