-- Known values of the definitions, by evaluation. Each tells left from right, or a basis from its inverse or transposed twin.
use Rattle.std.specs.Prelude.{◌≡◌, true, false, pos, negsuc, [], ◌∷◌, refl}
use Rattle.realisations.specs.Words.{all_shuffles, word_pieces, words_of}
use Rattle.realisations.specs.Standardisation.{standardise, pack, inverse}
use Rattle.realisations.specs.Descents.{descents, descent_composition, descent_set, is_finer, word_of_composition, complement}
use Rattle.realisations.specs.Trees.{empty, node, tree_code, tree_of, decreasing_tree}
use Rattle.realisations.specs.Tableaux.{insertion_tableau, recording_tableau, tableau_code, rows_of}
use Rattle.basis_names.specs.declared.bases.BasisId.TheVariants.{QsymM, QsymF, NcsfR, NcsfS, NcsfL, FqsymG, FqsymF, WqsymM, FsymS, PbtP}
use Rattle.realisations.specs.Bases.{representative}
use Rattle.realisations.specs.Occurrence.{occurs}
use Rattle.realisations.specs.IndexKinds.{is_permutation, is_packed, is_standard_tableau}
use Rattle.realisations.specs.Readings.{coproduct, antipode, counit, mult, commute, applied, product, tensor, sum_of, multiple, pairing, element, numerator, denominator}

-- words

-- equal letters count from the left
pub standardise-21231 : standardise (2 ∷ 1 ∷ 2 ∷ 3 ∷ 1 ∷ []) ≡ 3 ∷ 1 ∷ 4 ∷ 5 ∷ 2 ∷ []
standardise-21231 = refl

pub pack-72732 : pack (7 ∷ 2 ∷ 7 ∷ 3 ∷ 2 ∷ []) ≡ 3 ∷ 1 ∷ 3 ∷ 2 ∷ 1 ∷ []
pack-72732 = refl

pub inverse-231 : inverse (2 ∷ 3 ∷ 1 ∷ []) ≡ 3 ∷ 1 ∷ 2 ∷ []
inverse-231 = refl

pub descents-72732 : descents (7 ∷ 2 ∷ 7 ∷ 3 ∷ 2 ∷ []) ≡ 1 ∷ 3 ∷ 4 ∷ []
descents-72732 = refl

pub descent_composition-72732 : descent_composition (7 ∷ 2 ∷ 7 ∷ 3 ∷ 2 ∷ []) ≡ 1 ∷ 2 ∷ 1 ∷ 1 ∷ []
descent_composition-72732 = refl

pub descent_set-1211 : descent_set (1 ∷ 2 ∷ 1 ∷ 1 ∷ []) ≡ 1 ∷ 3 ∷ 4 ∷ []
descent_set-1211 = refl

pub word_of_composition-21 : word_of_composition (2 ∷ 1 ∷ []) ≡ 2 ∷ 2 ∷ 1 ∷ []
word_of_composition-21 = refl

pub finer-121-31 : is_finer (1 ∷ 2 ∷ 1 ∷ []) (3 ∷ 1 ∷ []) ≡ true
finer-121-31 = refl

pub not_finer-31-121 : is_finer (3 ∷ 1 ∷ []) (1 ∷ 2 ∷ 1 ∷ []) ≡ false
not_finer-31-121 = refl

pub words_of-21 : words_of (2 ∷ 1 ∷ []) ≡ (1 ∷ 1 ∷ 2 ∷ []) ∷ (1 ∷ 2 ∷ 1 ∷ []) ∷ (2 ∷ 1 ∷ 1 ∷ []) ∷ []
words_of-21 = refl

pub word_pieces-12 : word_pieces (1 ∷ 2 ∷ []) ≡ ((1 ∷ []) ∷ (2 ∷ []) ∷ []) ∷ ((1 ∷ 2 ∷ []) ∷ []) ∷ []
word_pieces-12 = refl

-- the second piece is raised by 2, and the third by 3
pub all_shuffles-2-1-1 : all_shuffles ((2 ∷ []) ∷ (1 ∷ []) ∷ (1 ∷ []) ∷ []) ≡ (2 ∷ 3 ∷ 4 ∷ []) ∷ (3 ∷ 2 ∷ 4 ∷ []) ∷ (3 ∷ 4 ∷ 2 ∷ []) ∷ (2 ∷ 4 ∷ 3 ∷ []) ∷ (4 ∷ 2 ∷ 3 ∷ []) ∷ (4 ∷ 3 ∷ 2 ∷ []) ∷ []
all_shuffles-2-1-1 = refl

-- the root is the last greatest letter
pub decreasing_tree-212 : decreasing_tree (2 ∷ 1 ∷ 2 ∷ []) ≡ node (node empty (node empty empty)) empty
decreasing_tree-212 = refl

pub tree_code-212 : tree_code (decreasing_tree (2 ∷ 1 ∷ 2 ∷ [])) ≡ 2 ∷ 1 ∷ 1 ∷ []
tree_code-212 = refl

pub insertion_tableau-25143 : insertion_tableau (2 ∷ 5 ∷ 1 ∷ 4 ∷ 3 ∷ []) ≡ (1 ∷ 3 ∷ []) ∷ (2 ∷ 4 ∷ []) ∷ (5 ∷ []) ∷ []
insertion_tableau-25143 = refl

-- of the inverse: P of 231 itself has the rows 1 3 and 2
pub recording_tableau-221 : recording_tableau (2 ∷ 2 ∷ 1 ∷ []) ≡ (1 ∷ 2 ∷ []) ∷ (3 ∷ []) ∷ []
recording_tableau-221 = refl

pub tableau_code-25143 : tableau_code ((1 ∷ 3 ∷ []) ∷ (2 ∷ 4 ∷ []) ∷ (5 ∷ []) ∷ []) ≡ 1 ∷ 2 ∷ 1 ∷ 2 ∷ 3 ∷ []
tableau_code-25143 = refl

-- indices

pub permutation-231 : is_permutation (2 ∷ 3 ∷ 1 ∷ []) ≡ true
permutation-231 = refl

pub no_permutation-131 : is_permutation (1 ∷ 3 ∷ 1 ∷ []) ≡ false
no_permutation-131 = refl

pub packed-212 : is_packed (2 ∷ 1 ∷ 2 ∷ []) ≡ true
packed-212 = refl

pub not_packed-313 : is_packed (3 ∷ 1 ∷ 3 ∷ []) ≡ false
not_packed-313 = refl

pub tableau-13-24-5 : is_standard_tableau ((1 ∷ 3 ∷ []) ∷ (2 ∷ 4 ∷ []) ∷ (5 ∷ []) ∷ []) ≡ true
tableau-13-24-5 = refl

pub no_tableau-14-23 : is_standard_tableau ((1 ∷ 4 ∷ []) ∷ (2 ∷ 3 ∷ []) ∷ []) ≡ false
no_tableau-14-23 = refl

pub no_tableau-1-23 : is_standard_tableau ((1 ∷ []) ∷ (2 ∷ 3 ∷ []) ∷ []) ≡ false
no_tableau-1-23 = refl

-- occurrence

pub m_21-at-0201 : occurs QsymM (2 ∷ 1 ∷ []) (0 ∷ 2 ∷ 0 ∷ 1 ∷ []) ≡ true
m_21-at-0201 = refl

pub m_21-at-12 : occurs QsymM (2 ∷ 1 ∷ []) (1 ∷ 2 ∷ []) ≡ false
m_21-at-12 = refl

pub f_21-at-21 : occurs QsymF (2 ∷ 1 ∷ []) (2 ∷ 1 ∷ []) ≡ true
f_21-at-21 = refl

pub f_21-at-12 : occurs QsymF (2 ∷ 1 ∷ []) (1 ∷ 2 ∷ []) ≡ false
f_21-at-12 = refl

pub r_21-at-221 : occurs NcsfR (2 ∷ 1 ∷ []) (2 ∷ 2 ∷ 1 ∷ []) ≡ true
r_21-at-221 = refl

pub r_21-at-212 : occurs NcsfR (2 ∷ 1 ∷ []) (2 ∷ 1 ∷ 2 ∷ []) ≡ false
r_21-at-212 = refl

pub s_21-at-121 : occurs NcsfS (2 ∷ 1 ∷ []) (1 ∷ 2 ∷ 1 ∷ []) ≡ true
s_21-at-121 = refl

pub s_21-at-111 : occurs NcsfS (2 ∷ 1 ∷ []) (1 ∷ 1 ∷ 1 ∷ []) ≡ true
s_21-at-111 = refl

pub s_21-at-211 : occurs NcsfS (2 ∷ 1 ∷ []) (2 ∷ 1 ∷ 1 ∷ []) ≡ false
s_21-at-211 = refl

pub l_21-at-211 : occurs NcsfL (2 ∷ 1 ∷ []) (2 ∷ 1 ∷ 1 ∷ []) ≡ true
l_21-at-211 = refl

pub l_21-at-321 : occurs NcsfL (2 ∷ 1 ∷ []) (3 ∷ 2 ∷ 1 ∷ []) ≡ true
l_21-at-321 = refl

pub l_21-at-221 : occurs NcsfL (2 ∷ 1 ∷ []) (2 ∷ 2 ∷ 1 ∷ []) ≡ false
l_21-at-221 = refl

pub g_231-at-221 : occurs FqsymG (2 ∷ 3 ∷ 1 ∷ []) (2 ∷ 2 ∷ 1 ∷ []) ≡ true
g_231-at-221 = refl

pub f_231-at-221 : occurs FqsymF (2 ∷ 3 ∷ 1 ∷ []) (2 ∷ 2 ∷ 1 ∷ []) ≡ false
f_231-at-221 = refl

pub f_312-at-221 : occurs FqsymF (3 ∷ 1 ∷ 2 ∷ []) (2 ∷ 2 ∷ 1 ∷ []) ≡ true
f_312-at-221 = refl

pub m_121-at-474 : occurs WqsymM (1 ∷ 2 ∷ 1 ∷ []) (4 ∷ 7 ∷ 4 ∷ []) ≡ true
m_121-at-474 = refl

pub m_132-at-474 : occurs WqsymM (1 ∷ 3 ∷ 2 ∷ []) (4 ∷ 7 ∷ 4 ∷ []) ≡ false
m_132-at-474 = refl

pub s_12-3-at-221 : occurs FsymS (1 ∷ 1 ∷ 2 ∷ []) (2 ∷ 2 ∷ 1 ∷ []) ≡ true
s_12-3-at-221 = refl

pub s_12-3-at-212 : occurs FsymS (1 ∷ 1 ∷ 2 ∷ []) (2 ∷ 1 ∷ 2 ∷ []) ≡ false
s_12-3-at-212 = refl

pub p_211-at-212 : occurs PbtP (2 ∷ 1 ∷ 1 ∷ []) (2 ∷ 1 ∷ 2 ∷ []) ≡ true
p_211-at-212 = refl

pub p_311-at-212 : occurs PbtP (3 ∷ 1 ∷ 1 ∷ []) (2 ∷ 1 ∷ 2 ∷ []) ≡ false
p_311-at-212 = refl

-- operations

-- F[1] F[2,1] = F[1,3,2] + F[3,1,2] + F[3,2,1]: F[3,1,2] occurs at 231, and F[2,3,1] at 312
pub product_f_1-f_21-at-231 : numerator (product (element FqsymF (1 ∷ [])) (element FqsymF (2 ∷ 1 ∷ []))) ((2 ∷ 3 ∷ 1 ∷ []) ∷ []) ≡ pos 1
product_f_1-f_21-at-231 = refl

pub product_f_1-f_21-at-312 : numerator (product (element FqsymF (1 ∷ [])) (element FqsymF (2 ∷ 1 ∷ []))) ((3 ∷ 1 ∷ 2 ∷ []) ∷ []) ≡ pos 0
product_f_1-f_21-at-312 = refl

-- M[1] M[1] = 2 M[1,1] + M[2]
pub product_m_1-m_1-at-11 : numerator (product (element QsymM (1 ∷ [])) (element QsymM (1 ∷ []))) ((1 ∷ 1 ∷ []) ∷ []) ≡ pos 2
product_m_1-m_1-at-11 = refl

pub product_m_1-m_1-at-2 : numerator (product (element QsymM (1 ∷ [])) (element QsymM (1 ∷ []))) ((2 ∷ []) ∷ []) ≡ pos 1
product_m_1-m_1-at-2 = refl

-- the coproduct of M[1,2,1] has M[1,1] # M[1], whose second letter is raised above the first word
pub coproduct_m_121-at-11-1 : numerator (applied coproduct 0 (element WqsymM (1 ∷ 2 ∷ 1 ∷ []))) ((1 ∷ 1 ∷ []) ∷ (1 ∷ []) ∷ []) ≡ pos 1
coproduct_m_121-at-11-1 = refl

pub coproduct_m_121-at-1-11 : numerator (applied coproduct 0 (element WqsymM (1 ∷ 2 ∷ 1 ∷ []))) ((1 ∷ []) ∷ (1 ∷ 1 ∷ []) ∷ []) ≡ pos 0
coproduct_m_121-at-1-11 = refl

pub coproduct_m_21-at-2-1 : numerator (applied coproduct 0 (element QsymM (2 ∷ 1 ∷ []))) ((2 ∷ []) ∷ (1 ∷ []) ∷ []) ≡ pos 1
coproduct_m_21-at-2-1 = refl

pub coproduct_m_21-at-1-2 : numerator (applied coproduct 0 (element QsymM (2 ∷ 1 ∷ []))) ((1 ∷ []) ∷ (2 ∷ []) ∷ []) ≡ pos 0
coproduct_m_21-at-1-2 = refl

-- the antipode of M[1,2] is M[1,1] + M[2,1] in WQSym
pub antipode_m_12-at-11 : numerator (applied antipode 0 (element WqsymM (1 ∷ 2 ∷ []))) ((1 ∷ 1 ∷ []) ∷ []) ≡ pos 1
antipode_m_12-at-11 = refl

pub antipode_m_12-at-21 : numerator (applied antipode 0 (element WqsymM (1 ∷ 2 ∷ []))) ((2 ∷ 1 ∷ []) ∷ []) ≡ pos 1
antipode_m_12-at-21 = refl

pub antipode_m_12-at-12 : numerator (applied antipode 0 (element WqsymM (1 ∷ 2 ∷ []))) ((1 ∷ 2 ∷ []) ∷ []) ≡ pos 0
antipode_m_12-at-12 = refl

-- the antipode of F[1,3,2] is - F[2,1,3] - F[2,3,1] + F[3,1,2]
pub antipode_f_132-at-231 : numerator (applied antipode 0 (element FqsymF (1 ∷ 3 ∷ 2 ∷ []))) ((2 ∷ 3 ∷ 1 ∷ []) ∷ []) ≡ pos 1
antipode_f_132-at-231 = refl

pub antipode_f_132-at-312 : numerator (applied antipode 0 (element FqsymF (1 ∷ 3 ∷ 2 ∷ []))) ((3 ∷ 1 ∷ 2 ∷ []) ∷ []) ≡ negsuc 0
antipode_f_132-at-312 = refl

-- the antipode of M[1,1] is M[1,1] + M[2], that of M[2] is - M[2], and that of M[2,1] is M[1,2] + M[3] in QSym
pub antipode_m_11-at-2 : numerator (applied antipode 0 (element QsymM (1 ∷ 1 ∷ []))) ((2 ∷ []) ∷ []) ≡ pos 1
antipode_m_11-at-2 = refl

pub antipode_m_2-at-2 : numerator (applied antipode 0 (element QsymM (2 ∷ []))) ((2 ∷ []) ∷ []) ≡ negsuc 0
antipode_m_2-at-2 = refl

pub antipode_m_21-at-12 : numerator (applied antipode 0 (element QsymM (2 ∷ 1 ∷ []))) ((1 ∷ 2 ∷ []) ∷ []) ≡ pos 1
antipode_m_21-at-12 = refl

pub antipode_m_21-at-21 : numerator (applied antipode 0 (element QsymM (2 ∷ 1 ∷ []))) ((2 ∷ 1 ∷ []) ∷ []) ≡ pos 0
antipode_m_21-at-21 = refl

-- letters of points are at least 1: a letter 0 would not be raised above itself, and the coproduct of G of 12 would be 2 there
pub coproduct_g_12-at-1-1 : numerator (applied coproduct 0 (element FqsymG (1 ∷ 2 ∷ []))) ((1 ∷ []) ∷ (1 ∷ []) ∷ []) ≡ pos 1
coproduct_g_12-at-1-1 = refl

pub coproduct_g_12-at-0-0 : numerator (applied coproduct 0 (element FqsymG (1 ∷ 2 ∷ []))) ((0 ∷ []) ∷ (0 ∷ []) ∷ []) ≡ pos 2
coproduct_g_12-at-0-0 = refl

-- the antipode of an element of degree 0, and in the second of two components
pub antipode_g_empty : numerator (applied antipode 0 (element FqsymG [])) ([] ∷ []) ≡ pos 1
antipode_g_empty = refl

pub antipode_second : numerator (applied antipode 1 (tensor (element QsymM (1 ∷ [])) (element WqsymM (1 ∷ 2 ∷ [])))) ((1 ∷ []) ∷ (2 ∷ 1 ∷ []) ∷ []) ≡ pos 1
antipode_second = refl

pub counit_first : numerator (applied counit 0 (tensor (element FqsymG []) (element QsymM (1 ∷ [])))) ((1 ∷ []) ∷ []) ≡ pos 1
counit_first = refl

pub counit_of_degree_1 : numerator (applied counit 0 (element FqsymG (1 ∷ []))) [] ≡ pos 0
counit_of_degree_1 = refl

pub mult_f_1-f_21-at-231 : numerator (applied mult 0 (tensor (element FqsymF (1 ∷ [])) (element FqsymF (2 ∷ 1 ∷ [])))) ((2 ∷ 3 ∷ 1 ∷ []) ∷ []) ≡ pos 1
mult_f_1-f_21-at-231 = refl

pub mult_f_1-f_21-at-312 : numerator (applied mult 0 (tensor (element FqsymF (1 ∷ [])) (element FqsymF (2 ∷ 1 ∷ [])))) ((3 ∷ 1 ∷ 2 ∷ []) ∷ []) ≡ pos 0
mult_f_1-f_21-at-312 = refl

-- R[2,1] commutes to 2 M[1,1,1] + M[1,2] + M[2,1]
pub commute_r_21-at-111 : numerator (applied commute 0 (element NcsfR (2 ∷ 1 ∷ []))) ((1 ∷ 1 ∷ 1 ∷ []) ∷ []) ≡ pos 2
commute_r_21-at-111 = refl

-- M[1,2,2] commutes to M[1,2]
pub commute_m_122-at-12 : numerator (applied commute 0 (element WqsymM (1 ∷ 2 ∷ 2 ∷ []))) ((1 ∷ 2 ∷ []) ∷ []) ≡ pos 1
commute_m_122-at-12 = refl

pub commute_m_122-at-21 : numerator (applied commute 0 (element WqsymM (1 ∷ 2 ∷ 2 ∷ []))) ((2 ∷ 1 ∷ []) ∷ []) ≡ pos 0
commute_m_122-at-21 = refl

-- 1/2 M[1] + 1/3 M[1] = 5/6 M[1]
pub sum_num : numerator (sum_of (multiple (pos 1) 2 (element QsymM (1 ∷ []))) (multiple (pos 1) 3 (element QsymM (1 ∷ [])))) ((1 ∷ []) ∷ []) ≡ pos 5
sum_num = refl

pub sum_den : denominator (sum_of (multiple (pos 1) 2 (element QsymM (1 ∷ []))) (multiple (pos 1) 3 (element QsymM (1 ∷ [])))) ≡ 6
sum_den = refl

-- pairings

pub pair_f_231-f_312 : numerator (pairing 3 (element FqsymF (2 ∷ 3 ∷ 1 ∷ [])) (element FqsymF (3 ∷ 1 ∷ 2 ∷ []))) [] ≡ pos 1
pair_f_231-f_312 = refl

pub pair_f_231-f_231 : numerator (pairing 3 (element FqsymF (2 ∷ 3 ∷ 1 ∷ [])) (element FqsymF (2 ∷ 3 ∷ 1 ∷ []))) [] ≡ pos 0
pair_f_231-f_231 = refl

pub pair_r_11-m_2 : numerator (pairing 3 (element NcsfR (1 ∷ 1 ∷ [])) (element QsymM (2 ∷ []))) [] ≡ negsuc 0
pair_r_11-m_2 = refl

pub pair_s_21-m_21 : numerator (pairing 3 (element NcsfS (2 ∷ 1 ∷ [])) (element QsymM (2 ∷ 1 ∷ []))) [] ≡ pos 1
pair_s_21-m_21 = refl

pub pair_m_12-s_21 : numerator (pairing 3 (element QsymM (1 ∷ 2 ∷ [])) (element NcsfS (2 ∷ 1 ∷ []))) [] ≡ pos 0
pair_m_12-s_21 = refl

-- of tensors: the first with the first, and the second with the second
pub pair_tensors : numerator (pairing 1 (tensor (element NcsfS (1 ∷ [])) (element NcsfS [])) (tensor (element QsymM (1 ∷ [])) (element QsymM []))) [] ≡ pos 1
pair_tensors = refl

pub pair_tensors_crossed : numerator (pairing 1 (tensor (element NcsfS (1 ∷ [])) (element NcsfS [])) (tensor (element QsymM []) (element QsymM (1 ∷ [])))) [] ≡ pos 0
pair_tensors_crossed = refl

-- representatives

pub complement-213 : complement (2 ∷ 1 ∷ 3 ∷ []) ≡ 1 ∷ 3 ∷ 1 ∷ 1 ∷ []
complement-213 = refl

pub word_of-213 : representative NcsfR (2 ∷ 1 ∷ 3 ∷ []) ≡ 3 ∷ 3 ∷ 2 ∷ 1 ∷ 1 ∷ 1 ∷ []
word_of-213 = refl

pub word_of_elementary-21 : representative NcsfL (2 ∷ 1 ∷ []) ≡ 2 ∷ 1 ∷ 1 ∷ []
word_of_elementary-21 = refl

pub word_of_inverse-231 : representative FqsymF (2 ∷ 3 ∷ 1 ∷ []) ≡ 3 ∷ 1 ∷ 2 ∷ []
word_of_inverse-231 = refl

pub rows_of-1213 : rows_of (1 ∷ 2 ∷ 1 ∷ 3 ∷ []) ≡ (1 ∷ 3 ∷ []) ∷ (2 ∷ []) ∷ (4 ∷ []) ∷ []
rows_of-1213 = refl

-- the reading word 3 1 2
pub word_of_tableau-112 : representative FsymS (1 ∷ 1 ∷ 2 ∷ []) ≡ 2 ∷ 3 ∷ 1 ∷ []
word_of_tableau-112 = refl

pub tableau_at_its_word-112 : occurs FsymS (1 ∷ 1 ∷ 2 ∷ []) (2 ∷ 3 ∷ 1 ∷ []) ≡ true
tableau_at_its_word-112 = refl

pub tree_of-211 : tree_of (2 ∷ 1 ∷ 1 ∷ []) ≡ node (node empty (node empty empty)) empty
tree_of-211 = refl

pub word_of_tree-211 : representative PbtP (2 ∷ 1 ∷ 1 ∷ []) ≡ 2 ∷ 1 ∷ 3 ∷ []
word_of_tree-211 = refl

pub tree_at_its_word-211 : occurs PbtP (2 ∷ 1 ∷ 1 ∷ []) (2 ∷ 1 ∷ 3 ∷ []) ≡ true
tree_at_its_word-211 = refl
