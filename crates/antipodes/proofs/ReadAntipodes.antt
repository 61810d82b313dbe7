-- Combinations that read as antipodes, and the antipode of the empty index.
use Rattle.std.proofs.Common.{◌≡◌, ◌≢◌, ℕ, zero, suc, ◌*◌, ◌^◌, ◌<◌, ◌≤◌, true, false, [], ◌∷◌, length, refl, sym, ◌∙◌, ap, subst, arith}
use Rattle.std.proofs.Math.IntN.{pos}
use Rattle.std.proofs.lemmas.Int.{ints}
use Rattle.basis_names.specs.declared.bases.BasisId.{BasisId}
use Rattle.basis_names.specs.declared.bases.BasisId.TheVariants.{QsymM, QsymF, NcsfS, NcsfL, NcsfR, FqsymF, FqsymG, WqsymM, FsymS, PbtP}
use Rattle.antipode_laws.specs.Recursion.{IsAntipodeOf}
use Rattle.antipode_laws.proofs.RecursionAnswers.{recursion_law}
use Rattle.antipode_laws.proofs.UnitElements.{degree-empty, degree_positive}
use Rattle.basis_representatives.proofs.SameLists.{same_list-true}
use Rattle.linear_combos.proofs.Edits.{lowest_one}
use Rattle.realisations.specs.Bases.{kind_of}
use Rattle.realisations.specs.Codes.{Code, Key}
use Rattle.realisations.specs.Combinations.{Combination, IsCanonical, HasKey, term_at}
use Rattle.realisations.specs.Indices.{IsIndex, AreIndices, degree_of, total_degree}
use Rattle.realisations.specs.Lists.{same_list}
use Rattle.realisations.specs.Points.{Points, ArePoints}
use Rattle.realisations.specs.Readings.{leaf, applied, antipode, element, AgreeAt}
use Rattle.realisations.specs.Trees.{empty}
use Rattle.realisations.proofs.TuplesOfPoints.{at_one_point}

-- the combination reads as the antipode of an index, whatever its norm
pub record ReadsAsAntipode (basis : BasisId) (code : Code) (c : Combination) : Type 0 where
  pub canonical : IsCanonical c.rank c.den c.terms
  pub rank : c.rank ≡ 1
  pub whole : c.den ≡ 1
  pub indices : (key : Key) → HasKey c.terms key → AreIndices (basis ∷ []) key
  pub degrees : (key : Key) → HasKey c.terms key → total_degree (basis ∷ []) key ≡ degree_of basis code
  pub reads : (ps : Points) → ArePoints (kind_of basis ∷ []) ps → AgreeAt (leaf (basis ∷ []) 1 c.terms) (applied antipode 0 (element basis code)) ps

-- the empty code is an index of each basis
empty_index : (basis : BasisId) → IsIndex basis []
empty_index QsymM = tt
empty_index QsymF = tt
empty_index NcsfS = tt
empty_index NcsfL = tt
empty_index NcsfR = tt
empty_index FqsymF = refl
empty_index FqsymG = refl
empty_index WqsymM = refl
empty_index FsymS = ([], refl, refl)
empty_index PbtP = (empty, refl)

-- the antipode of the empty index is its element
pub empty_antipode : (basis : BasisId) (code : Code) (c : Combination) → same_list code [] ≡ true → (key : Key) → key ≡ code ∷ [] → c ≡ record { rank = length key; den = 1; terms = (pos 1, key) ∷ [] } → IsAntipodeOf basis code c
empty_antipode basis code c none key key_is is =
    let none_in : code ≡ [] = same_list-true code [] none in
    subst (IsAntipodeOf basis code) (sym (is ∙ (λ i. record { rank = length (key_is i); den = 1; terms = (pos 1, key_is i) ∷ [] })))
    (subst (λ v. IsAntipodeOf basis v (record { rank = 1; den = 1; terms = (pos 1, v ∷ []) ∷ [] })) (sym none_in) empty_element)
  where
    first_key : (k : Key) → HasKey ((pos 1, [] ∷ []) ∷ []) k → k ≡ [] ∷ []
    first_key k (zero, lt, same) = sym same
    first_key k (suc i, lt, same) = absurd (omega (arith, lt))

    nonzero : (i : ℕ) → i < 1 → (term_at ((pos 1, [] ∷ []) ∷ []) i).0 ≢ pos 0
    nonzero zero lt = λ e. absurd (omega (arith, ints, e))
    nonzero (suc i) lt = absurd (omega (arith, lt))

    ranks : (i : ℕ) → i < 1 → length ((term_at ((pos 1, [] ∷ []) ∷ []) i).1) ≡ 1
    ranks zero lt = refl
    ranks (suc i) lt = absurd (omega (arith, lt))

    empty_element : IsAntipodeOf basis [] (record { rank = 1; den = 1; terms = (pos 1, [] ∷ []) ∷ [] })
    empty_element = record {
      canonical = record {
        ordered = record { rising = λ i j lt le. absurd (omega (arith, lt, le)); nonzero = nonzero; ranks = ranks; small = omega arith };
        lowest = lowest_one ((pos 1, [] ∷ []) ∷ []);
      };
      rank = refl;
      whole = refl;
      small = let n : 5 * degree_of basis [] ≡ 0 = omega (arith, degree-empty basis) in omega (arith, ap (λ k. 2 ^ k) n);
      indices = λ k has. subst (AreIndices (basis ∷ [])) (sym (first_key k has)) (empty_index basis, tt);
      degrees = λ k has. ap (total_degree (basis ∷ [])) (first_key k has) ∙ omega arith;
      reads = at_one_point (kind_of basis) (λ ps. AgreeAt (element basis []) (applied antipode 0 (element basis [])) ps) (λ p point. sym (recursion_law.empty basis p));
    }

-- every other one has a positive degree
pub positive_degree : (basis : BasisId) (code : Code) → IsIndex basis code → same_list code [] ≡ false → 1 ≤ degree_of basis code
positive_degree basis [] is some = absurd (cc)
positive_degree basis (x ∷ code) is some = omega (arith, degree_positive basis x code is)
