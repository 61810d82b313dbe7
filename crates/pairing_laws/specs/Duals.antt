-- What the pairings are on elements of bases and on combinations of them: dual bases.
use Rattle.std.specs.Prelude.{◌≡◌, ℕ, ◌≤◌, ℤ, pos, [], ◌∷◌}
use Rattle.basis_names.specs.declared.bases.BasisId.{BasisId}
use Rattle.basis_names.specs.declared.bases.BasisId.TheVariants.{QsymM, QsymF, NcsfS, NcsfR, FqsymF, FqsymG}
use Rattle.realisations.specs.Bases.{kind_of, representative, representatives}
use Rattle.realisations.specs.Codes.{Code}
use Rattle.realisations.specs.Combinations.{weighed}
use Rattle.realisations.specs.Indices.{IsIndex, degree_of}
use Rattle.realisations.specs.Lists.{one_if, same_list}
use Rattle.realisations.specs.Readings.{Terms, Reading, leaf, pairing, kinds_of, numerator, element}
use Rattle.realisations.specs.Standardisation.{inverse}
use Rattle.antipode_laws.specs.Recursion.{first_code}
use Rattle.pairing_laws.specs.Sight.{AreUpTo}

-- the element of an index is paired with a reading as what that reads at the representative of the index in the dual basis, so as its coefficient there; and a combination as the sum of its numerators, each times this
pub record Evaluates (basis dual : BasisId) : Type 0 where
  pub elements : (n : ℕ) (index : Code) (a : Reading) → IsIndex basis index → degree_of basis index ≤ n → kinds_of a ≡ kind_of dual ∷ [] →
      numerator (pairing n (element basis index) a) [] ≡ numerator a (representative dual index ∷ [])
  pub combinations : (n den : ℕ) (ts : Terms) (a : Reading) → AreUpTo n basis ts → kinds_of a ≡ kind_of dual ∷ [] →
      numerator (pairing n (leaf (basis ∷ []) den ts) a) [] ≡ weighed (λ key. numerator a (representatives (dual ∷ []) key)) ts

-- so do these: FQSym with itself (Duchamp, Hivert, Thibon 2002), NCSF with QSym, and QSym with NCSF (Gelfand, Krob, Lascoux, Leclerc, Retakh, Thibon 1995)
pub record EvaluationLaw : Type 0 where
  pub fqsym_f : Evaluates FqsymF FqsymG
  pub fqsym_g : Evaluates FqsymG FqsymF
  pub ncsf_s : Evaluates NcsfS QsymM
  pub qsym_f : Evaluates QsymF NcsfR

-- the sum over the pairs of terms of two combinations of rank 1 of the products of their numerators, where the index of the first, turned, is that of the second
abbrev pub matches : (Code → Code) → Terms → Terms → ℤ
matches turned ts us = weighed (λ key. weighed (λ key'. pos (one_if (same_list (turned (first_code key)) (first_code key')))) us) ts

-- elements of two bases are paired as 1 where the index of the first, turned, is that of the second, and else as 0; and so are combinations, term by term
pub record PairsBy (turned : Code → Code) (left right : BasisId) : Type 0 where
  pub elements : (n : ℕ) (i j : Code) → IsIndex left i → IsIndex right j → degree_of left i ≤ n → degree_of right j ≤ n →
      numerator (pairing n (element left i) (element right j)) [] ≡ pos (one_if (same_list (turned i) j))
  pub combinations : (n d e : ℕ) (ts us : Terms) → AreUpTo n left ts → AreUpTo n right us →
      numerator (pairing n (leaf (left ∷ []) d ts) (leaf (right ∷ []) e us)) [] ≡ matches turned ts us

-- dual bases: F and G of FQSym (Malvenuto, Reutenauer 1995; Duchamp, Hivert, Thibon 2002), S of NCSF and M of QSym, R of NCSF and F of QSym (Gelfand, Krob, Lascoux, Leclerc, Retakh, Thibon 1995), in either order. F with F and G with G are paired by inverses
pub record DualityLaw : Type 0 where
  pub fqsym_f_g : PairsBy (λ i. i) FqsymF FqsymG
  pub fqsym_g_f : PairsBy (λ i. i) FqsymG FqsymF
  pub ncsf_s_m : PairsBy (λ i. i) NcsfS QsymM
  pub qsym_m_s : PairsBy (λ i. i) QsymM NcsfS
  pub ncsf_r_f : PairsBy (λ i. i) NcsfR QsymF
  pub qsym_f_r : PairsBy (λ i. i) QsymF NcsfR
  pub fqsym_f_f : PairsBy (λ s. inverse s) FqsymF FqsymF
  pub fqsym_g_g : PairsBy (λ s. inverse s) FqsymG FqsymG
