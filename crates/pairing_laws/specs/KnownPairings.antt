-- Known values of pairings, by evaluation. Each tells a basis from its twin, or one order from the other.
use Rattle.std.specs.Prelude.{◌≡◌, true, false, pos, negsuc, [], ◌∷◌, refl}
use Rattle.basis_names.specs.declared.bases.AlgebraId.TheVariants.{Qsym, Ncsf, Fqsym, Wqsym, Fsym, Pbt}
use Rattle.basis_names.specs.declared.bases.BasisId.TheVariants.{QsymM, QsymF, NcsfS, NcsfL, NcsfR, FqsymF, FqsymG, FsymS, PbtP}
use Rattle.realisations.specs.Readings.{applied, coproduct, product, tensor, pairing, element, numerator}
use Rattle.realisations.specs.Standardisation.{inverse}
use Rattle.pairing_laws.specs.Duals.{matches}
use Rattle.pairing_laws.specs.PairedAlgebras.{is_paired}

-- FQSym: F by inverses, F and G dual

pub f_12-f_12 : numerator (pairing 2 (element FqsymF (1 ∷ 2 ∷ [])) (element FqsymF (1 ∷ 2 ∷ []))) [] ≡ pos 1
f_12-f_12 = refl

pub f_231-f_312 : numerator (pairing 3 (element FqsymF (2 ∷ 3 ∷ 1 ∷ [])) (element FqsymF (3 ∷ 1 ∷ 2 ∷ []))) [] ≡ pos 1
f_231-f_312 = refl

pub f_231-f_231 : numerator (pairing 3 (element FqsymF (2 ∷ 3 ∷ 1 ∷ [])) (element FqsymF (2 ∷ 3 ∷ 1 ∷ []))) [] ≡ pos 0
f_231-f_231 = refl

pub f_231-g_231 : numerator (pairing 3 (element FqsymF (2 ∷ 3 ∷ 1 ∷ [])) (element FqsymG (2 ∷ 3 ∷ 1 ∷ []))) [] ≡ pos 1
f_231-g_231 = refl

pub f_231-g_312 : numerator (pairing 3 (element FqsymF (2 ∷ 3 ∷ 1 ∷ [])) (element FqsymG (3 ∷ 1 ∷ 2 ∷ []))) [] ≡ pos 0
f_231-g_312 = refl

-- sizes past n count nothing
pub f_12-f_12-up_to_1 : numerator (pairing 1 (element FqsymF (1 ∷ 2 ∷ [])) (element FqsymF (1 ∷ 2 ∷ []))) [] ≡ pos 0
f_12-f_12-up_to_1 = refl

-- NCSF with QSym: S and M dual, R and F dual

pub s_21-m_21 : numerator (pairing 3 (element NcsfS (2 ∷ 1 ∷ [])) (element QsymM (2 ∷ 1 ∷ []))) [] ≡ pos 1
s_21-m_21 = refl

pub s_21-m_12 : numerator (pairing 3 (element NcsfS (2 ∷ 1 ∷ [])) (element QsymM (1 ∷ 2 ∷ []))) [] ≡ pos 0
s_21-m_12 = refl

pub m_21-s_21 : numerator (pairing 3 (element QsymM (2 ∷ 1 ∷ [])) (element NcsfS (2 ∷ 1 ∷ []))) [] ≡ pos 1
m_21-s_21 = refl

pub r_21-f_21 : numerator (pairing 3 (element NcsfR (2 ∷ 1 ∷ [])) (element QsymF (2 ∷ 1 ∷ []))) [] ≡ pos 1
r_21-f_21 = refl

pub r_21-f_3 : numerator (pairing 3 (element NcsfR (2 ∷ 1 ∷ [])) (element QsymF (3 ∷ []))) [] ≡ pos 0
r_21-f_3 = refl

-- R of 11 is S of 11 without S of 2, and L of 2 is R of 11
pub r_11-m_2 : numerator (pairing 2 (element NcsfR (1 ∷ 1 ∷ [])) (element QsymM (2 ∷ []))) [] ≡ negsuc 0
r_11-m_2 = refl

pub l_2-f_11 : numerator (pairing 2 (element NcsfL (2 ∷ [])) (element QsymF (1 ∷ 1 ∷ []))) [] ≡ pos 1
l_2-f_11 = refl

-- between algebras in FQSym

-- R of 21 is G of 132 and G of 231; of their inverses 132 and 312 the first has the descents of the ribbon
pub r_21-r_21 : numerator (pairing 3 (element NcsfR (2 ∷ 1 ∷ [])) (element NcsfR (2 ∷ 1 ∷ []))) [] ≡ pos 1
r_21-r_21 = refl

-- tableaux of one shape, with the rows 12 and 3, and 13 and 2; and of two shapes
pub s_112-s_121 : numerator (pairing 3 (element FsymS (1 ∷ 1 ∷ 2 ∷ [])) (element FsymS (1 ∷ 2 ∷ 1 ∷ []))) [] ≡ pos 1
s_112-s_121 = refl

pub s_112-s_111 : numerator (pairing 3 (element FsymS (1 ∷ 1 ∷ 2 ∷ [])) (element FsymS (1 ∷ 1 ∷ 1 ∷ []))) [] ≡ pos 0
s_112-s_111 = refl

-- the decreasing tree of 213, which is its own inverse, with ribbons
pub p_211-r_12 : numerator (pairing 3 (element PbtP (2 ∷ 1 ∷ 1 ∷ [])) (element NcsfR (1 ∷ 2 ∷ []))) [] ≡ pos 1
p_211-r_12 = refl

pub p_211-r_21 : numerator (pairing 3 (element PbtP (2 ∷ 1 ∷ 1 ∷ [])) (element NcsfR (2 ∷ 1 ∷ []))) [] ≡ pos 0
p_211-r_21 = refl

-- F of 1 times F of 21 has F of 312, whose inverse is 231: its coproduct has F of 1 tensor F of 21
pub product_f_1-f_21 : numerator (pairing 3 (product (element FqsymF (1 ∷ [])) (element FqsymF (2 ∷ 1 ∷ []))) (element FqsymF (2 ∷ 3 ∷ 1 ∷ []))) [] ≡ pos 1
product_f_1-f_21 = refl

pub coproduct_f_231 : numerator (pairing 3 (tensor (element FqsymF (1 ∷ [])) (element FqsymF (2 ∷ 1 ∷ []))) (applied coproduct 0 (element FqsymF (2 ∷ 3 ∷ 1 ∷ [])))) [] ≡ pos 1
coproduct_f_231 = refl

pub product_f_21-f_1 : numerator (pairing 3 (product (element FqsymF (2 ∷ 1 ∷ [])) (element FqsymF (1 ∷ []))) (element FqsymF (2 ∷ 3 ∷ 1 ∷ []))) [] ≡ pos 0
product_f_21-f_1 = refl

-- sums over pairs of terms: at the same indices, and at inverse ones
pub same_indices : matches (λ i. i) ((pos 2, (1 ∷ 2 ∷ []) ∷ []) ∷ (pos 3, (2 ∷ 1 ∷ []) ∷ []) ∷ []) ((pos 5, (2 ∷ 1 ∷ []) ∷ []) ∷ []) ≡ pos 15
same_indices = refl

pub inverse_indices : matches (λ s. inverse s) ((pos 2, (2 ∷ 3 ∷ 1 ∷ []) ∷ []) ∷ []) ((pos 5, (2 ∷ 3 ∷ 1 ∷ []) ∷ []) ∷ (pos 7, (3 ∷ 1 ∷ 2 ∷ []) ∷ []) ∷ []) ≡ pos 14
inverse_indices = refl

-- the table
pub ncsf_qsym : is_paired Ncsf Qsym ≡ true
ncsf_qsym = refl

pub qsym_ncsf : is_paired Qsym Ncsf ≡ true
qsym_ncsf = refl

pub pbt_fsym : is_paired Pbt Fsym ≡ true
pbt_fsym = refl

pub fqsym_qsym : is_paired Fqsym Qsym ≡ false
fqsym_qsym = refl

pub qsym_qsym : is_paired Qsym Qsym ≡ false
qsym_qsym = refl

pub wqsym_ncsf : is_paired Wqsym Ncsf ≡ false
wqsym_ncsf = refl

pub ncsf_wqsym : is_paired Ncsf Wqsym ≡ false
ncsf_wqsym = refl
