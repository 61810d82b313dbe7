-- Each basis is graded: its elements occur only at points of their degree.
use Rattle.std.proofs.Common.{◌≡◌, ℕ, true, List, length, refl, sym, ◌∙◌, ap, eqb-true, nat_eq}
use Rattle.std.specs.Prelude.{IsTrue}
use Rattle.std.specs.List.{sum}
use Rattle.std.proofs.lemmas.Bool.{and_parts}
use Rattle.basis_names.specs.declared.bases.BasisId.{BasisId}
use Rattle.basis_names.specs.declared.bases.BasisId.TheVariants.{FqsymF, FqsymG, FsymS, NcsfL, NcsfR, NcsfS, PbtP, QsymF, QsymM, WqsymM}
use Rattle.realisations.specs.Bases.{kind_of}
use Rattle.realisations.specs.Descents.{ascents, descent_composition, descent_set, descents, places_outside}
use Rattle.realisations.specs.Exponents.{nondecreasing_word, without_zeros}
use Rattle.realisations.specs.Indices.{degree_of}
use Rattle.realisations.specs.Lists.{is_subset}
use Rattle.realisations.specs.Occurrence.{occurs}
use Rattle.realisations.specs.Points.{Kind, Point, exponents, word}
use Rattle.realisations.specs.Standardisation.{inverse, pack, standardise}
use Rattle.realisations.specs.Tableaux.{recording_tableau, tableau_code}
use Rattle.realisations.specs.Trees.{decreasing_tree, tree_code}
use Rattle.basis_representatives.proofs.BlockWords.{length-nondecreasing_word}
use Rattle.basis_representatives.proofs.SameLists.{same_list-true}
use Rattle.separation_laws.specs.Classes.{index_of_word, is_class_basis}
use Rattle.separation_laws.proofs.ClassBases.{indices_of}

-- the degree of a point: the sum of its exponents, or the length of a word
abbrev pub point_degree : Kind → Point → ℕ
point_degree exponents p = sum (without_zeros p)
point_degree word p = length p

-- over a class basis the index of a word has its length
same_length : (basis : BasisId) (is : IsTrue (is_class_basis basis)) (code p : List ℕ) → index_of_word basis p ≡ code → length p ≡ degree_of basis code
same_length basis is code p same = sym ((indices_of basis is).degree p) ∙ ap (degree_of basis) same

-- each basis is graded
pub graded : (basis : BasisId) (code p : List ℕ) → occurs basis code p ≡ true → point_degree (kind_of basis) p ≡ degree_of basis code
graded QsymM code p h = ap sum (same_list-true (without_zeros p) code h)
graded QsymF code p h =
    sym (length-nondecreasing_word p)
    ∙ eqb-true (length (nondecreasing_word p)) (sum code) ((and_parts (nat_eq (length (nondecreasing_word p)) (sum code)) (is_subset (descent_set code) (ascents (nondecreasing_word p))) h).0)
graded NcsfS code p h = eqb-true (length p) (sum code) ((and_parts (nat_eq (length p) (sum code)) (is_subset (descents p) (descent_set code)) h).0)
graded NcsfL code p h = eqb-true (length p) (sum code) ((and_parts (nat_eq (length p) (sum code)) (is_subset (places_outside code) (descents p)) h).0)
graded NcsfR code p h = same_length NcsfR refl code p (same_list-true (descent_composition p) code h)
graded FqsymG code p h = same_length FqsymG refl code p (same_list-true (standardise p) code h)
graded FqsymF code p h = same_length FqsymF refl code p (same_list-true (inverse (standardise p)) code h)
graded WqsymM code p h = same_length WqsymM refl code p (same_list-true (pack p) code h)
graded FsymS code p h = same_length FsymS refl code p (same_list-true (tableau_code (recording_tableau p)) code h)
graded PbtP code p h = same_length PbtP refl code p (same_list-true (tree_code (decreasing_tree p)) code h)
