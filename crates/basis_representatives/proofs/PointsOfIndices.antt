-- The representatives of indices are points.
use Rattle.std.proofs.Common.{ℕ, ◌+◌, ◌≤◌, suc, List, ◌∷◌, arith}
use Rattle.basis_names.specs.declared.bases.BasisId.{BasisId}
use Rattle.basis_names.specs.declared.bases.BasisId.TheVariants.{QsymM, QsymF, NcsfR, NcsfS, NcsfL, FqsymF, FqsymG, WqsymM, FsymS, PbtP}
use Rattle.realisations.specs.Descents.{complement}
use Rattle.realisations.specs.Indices.{IsIndex}
use Rattle.realisations.specs.Points.{word, IsPoint}
use Rattle.realisations.specs.Bases.{kind_of, representative}
use Rattle.realisations.specs.Tableaux.{rows_of, reading_word}
use Rattle.realisations.specs.Trees.{Tree, empty, node, tree_size, tree_of, subtree_sizes}
use Rattle.realisations.proofs.PointsOfReadings.{word_composed, word_inverted}
use Rattle.basis_representatives.proofs.Letters.{Letters-append}
use Rattle.basis_representatives.proofs.PackedWords.{all_letters}
use Rattle.basis_representatives.proofs.Permutations.{each_once, letters_that_occur, letters-permutation}

-- a subtree has at least one node
word_of_tree : (tree : Tree) → IsPoint word (subtree_sizes tree)
word_of_tree empty = tt
word_of_tree (node left right) =
    Letters-append (λ x. 1 ≤ x) (subtree_sizes left) (suc (tree_size left + tree_size right) ∷ subtree_sizes right) (word_of_tree left) (omega arith, word_of_tree right)

-- the letters of a permutation count from 1, as do those of an inverse; so do the letters of a packed word and of the word of a composition
pub representative_point : (basis : BasisId) (index : List ℕ) → IsIndex basis index → IsPoint (kind_of basis) (representative basis index)
representative_point QsymM index h = tt
representative_point QsymF index h = tt
representative_point NcsfS index h = word_composed index
representative_point NcsfL index h = word_composed (complement index)
representative_point NcsfR index h = word_composed index
representative_point FqsymF index h = word_inverted index
representative_point FqsymG index h = letters_that_occur (λ x. 1 ≤ x) index (λ x occurs. (letters-permutation index (each_once index h) x occurs).0)
representative_point WqsymM index h = (all_letters index h).positive
representative_point FsymS index h = word_inverted (reading_word (rows_of index))
representative_point PbtP index h = word_of_tree (tree_of index)
