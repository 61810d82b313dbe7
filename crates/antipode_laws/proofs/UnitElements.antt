-- The element of the empty index is the unit: it occurs at the empty word, and at exponents that are all 0, and nowhere else.
use Rattle.std.proofs.Common.{◌≡◌, ℕ, zero, suc, ◌<◌, Bool, true, false, List, [], ◌∷◌, ◌++◌, length, map, refl, sym, ◌∙◌, ap, arith}
use Rattle.std.specs.Prelude.{nat_eq, nat_lt, ◌&&◌, replicate, if◌then◌else◌, Some}
use Rattle.std.specs.List.{sum, range_with_len}
use Rattle.std.proofs.lemmas.Bool.Decides.{nat_tests}
use Rattle.realisations.specs.Lists.{same_list, is_subset}
use Rattle.realisations.specs.Exponents.{is_one, without_zeros, nondecreasing_from, nondecreasing_word}
use Rattle.realisations.specs.Standardisation.{standardise, inverse}
use Rattle.realisations.specs.Descents.{descents, descent_composition, longer_first, places_outside}
use Rattle.realisations.specs.Trees.{Tree, node, tree_size, tree_code, before_last, after_last, decreasing_within}
use Rattle.realisations.specs.Words.{greatest}
use Rattle.realisations.specs.Tableaux.{enter, enter_all, insertion_tableau, tableau_code, recording_tableau}
use Rattle.realisations.specs.IndexKinds.{IsComposition}
use Rattle.realisations.specs.Indices.{IsIndex, degree_of}
use Rattle.basis_names.specs.declared.bases.BasisId.{BasisId}
use Rattle.basis_names.specs.declared.bases.BasisId.TheVariants.{QsymM, QsymF, NcsfS, NcsfL, NcsfR, FqsymF, FqsymG, WqsymM, FsymS, PbtP}
use Rattle.realisations.specs.Bases.{kind_of}
use Rattle.realisations.specs.Occurrence.{occurs}
use Rattle.basis_representatives.proofs.Inverses.{length-inverse}
use Rattle.coproduct_rules.proofs.DegreeCuts.{sum-first}
use Rattle.antipode_laws.specs.Units.{is_unit}
use Rattle.antipode_laws.proofs.ExponentsOfOne.{is_one-suc}

-- a nonempty composition has a positive sum
sum_positive : (i : ℕ) (parts : List ℕ) → IsComposition (i ∷ parts) → 0 < sum (i ∷ parts)
sum_positive i parts h = omega (arith, h.0, sum-first i parts)

-- the empty index has degree 0
pub degree-empty : (basis : BasisId) → degree_of basis [] ≡ 0
degree-empty QsymM = refl
degree-empty QsymF = refl
degree-empty NcsfS = refl
degree-empty NcsfL = refl
degree-empty NcsfR = refl
degree-empty FqsymF = refl
degree-empty FqsymG = refl
degree-empty WqsymM = refl
degree-empty FsymS = refl
degree-empty PbtP = refl

-- and every other one a positive degree
pub degree_positive : (basis : BasisId) (x : ℕ) (code : List ℕ) → IsIndex basis (x ∷ code) → 0 < degree_of basis (x ∷ code)
degree_positive QsymM x code h = sum_positive x code h
degree_positive QsymF x code h = sum_positive x code h
degree_positive NcsfS x code h = sum_positive x code h
degree_positive NcsfL x code h = sum_positive x code h
degree_positive NcsfR x code h = sum_positive x code h
degree_positive FqsymF x code h = omega arith
degree_positive FqsymG x code h = omega arith
degree_positive WqsymM x code h = omega arith
degree_positive FsymS x code h = omega arith
degree_positive PbtP x code h = omega arith

without_zeros_none : (p : List ℕ) → same_list (without_zeros p) [] ≡ is_one p
without_zeros_none [] = refl
without_zeros_none (zero ∷ p) = without_zeros_none p
without_zeros_none (suc n ∷ p) = sym (is_one-suc n p)

and_true : (b : Bool) → b && true ≡ b
and_true true = refl
and_true false = refl

no_length : (x : ℕ) (w : List ℕ) → nat_eq (length (x ∷ w)) 0 ≡ false
no_length x w = grind (arith, nat_tests)

nondecreasing_none : (i : ℕ) (p : List ℕ) → nat_eq (length (nondecreasing_from i p)) 0 ≡ is_one p
nondecreasing_none i [] = refl
nondecreasing_none i (zero ∷ p) = nondecreasing_none (suc i) p
nondecreasing_none i (suc n ∷ p) = no_length i (replicate n i ++ nondecreasing_from (suc i) p) ∙ sym (is_one-suc n p)

-- a nonempty list is not the empty one
longer_first_some : (parts : List ℕ) → same_list (longer_first parts) [] ≡ false
longer_first_some [] = refl
longer_first_some (i ∷ parts) = refl

descent_composition_some : (x : ℕ) (w : List ℕ) → same_list (descent_composition (x ∷ w)) [] ≡ false
descent_composition_some x [] = refl
descent_composition_some x (y ∷ w) = by_test (nat_lt y x)
  where
    by_test : (b : Bool) → same_list (if b then 1 ∷ descent_composition (y ∷ w) else longer_first (descent_composition (y ∷ w))) [] ≡ false
    by_test true = refl
    by_test false = longer_first_some (descent_composition (y ∷ w))

tree_code_some : (left right : Tree) → same_list (tree_code (node left right)) [] ≡ false
tree_code_some left right = behind (tree_code left) (suc (tree_size right)) (tree_code right)
  where
    behind : (front : List ℕ) (n : ℕ) (rest : List ℕ) → same_list (front ++ n ∷ rest) [] ≡ false
    behind [] n rest = refl
    behind (x ∷ front) n rest = refl

range_some : (n : ℕ) (f : ℕ → ℕ) → same_list (map f (range_with_len 1 (suc n))) [] ≡ false
range_some n f = refl

-- a tableau that has letters
abbrev HasLetters : List (List ℕ) → Type 0
HasLetters [] = ⊥
HasLetters ([] ∷ rows) = ⊥
HasLetters ((x ∷ row) ∷ rows) = Unit {0}

entered_some : (x : ℕ) (rows : List (List ℕ)) → HasLetters (enter (Some x) rows)
entered_some x [] = tt
entered_some x ([] ∷ rows) = tt
entered_some x ((y ∷ row) ∷ rows) = by_test (nat_lt x y) refl
  where
    by_test : (b : Bool) → nat_lt x y ≡ b → HasLetters (enter (Some x) ((y ∷ row) ∷ rows))
    by_test true e = rw e tt
    by_test false e = rw e tt

all_entered : (w : List ℕ) (rows : List (List ℕ)) → HasLetters rows → HasLetters (enter_all w rows)
all_entered [] rows h = h
all_entered (x ∷ w) rows h = all_entered w (enter (Some x) rows) (entered_some x rows)

inserted_some : (w : List ℕ) → 0 < length w → HasLetters (insertion_tableau w)
inserted_some [] h = absurd (omega (arith, h))
inserted_some (x ∷ w) h = all_entered w ((x ∷ []) ∷ []) tt

tableau_code_some : (rows : List (List ℕ)) → HasLetters rows → same_list (tableau_code rows) [] ≡ false
tableau_code_some [] h = absurd h
tableau_code_some ([] ∷ rows) h = absurd h
tableau_code_some ((x ∷ row) ∷ rows) h = refl

-- the element of the empty index occurs where the unit is 1
pub empty_occurs : (basis : BasisId) (p : List ℕ) → occurs basis [] p ≡ is_unit (kind_of basis) p
empty_occurs QsymM p = without_zeros_none p
empty_occurs QsymF p = and_true (nat_eq (length (nondecreasing_word p)) 0) ∙ nondecreasing_none 1 p
empty_occurs NcsfR [] = refl
empty_occurs NcsfR (x ∷ w) = descent_composition_some x w
empty_occurs NcsfS [] = refl
empty_occurs NcsfS (x ∷ w) = ap (λ b. b && is_subset (descents (x ∷ w)) []) (no_length x w)
empty_occurs NcsfL [] = refl
empty_occurs NcsfL (x ∷ w) = ap (λ b. b && is_subset (places_outside []) (descents (x ∷ w))) (no_length x w)
empty_occurs FqsymG [] = refl
empty_occurs FqsymG (x ∷ w) = refl
empty_occurs FqsymF [] = refl
empty_occurs FqsymF (x ∷ w) = refl
empty_occurs WqsymM [] = refl
empty_occurs WqsymM (x ∷ w) = refl
empty_occurs FsymS [] = refl
empty_occurs FsymS (x ∷ w) =
    let some : 0 < length (inverse (standardise (x ∷ w))) = omega (arith, length-inverse (standardise (x ∷ w))) in
    tableau_code_some (recording_tableau (x ∷ w)) (inserted_some (inverse (standardise (x ∷ w))) some)
empty_occurs PbtP [] = refl
empty_occurs PbtP (x ∷ w) =
    let root = greatest (x ∷ w) in
    tree_code_some (decreasing_within (length w) (before_last root (x ∷ w))) (decreasing_within (length w) (after_last root (x ∷ w)))
