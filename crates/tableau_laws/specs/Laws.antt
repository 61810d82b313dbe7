-- Laws of standard tableaux. Public functions with empty bodies ensure them (`src/laws.rt`).
use Rattle.std.specs.Prelude.{◌≡◌, ℕ, IsTrue, List}
use Rattle.realisations.specs.Codes.{Code}
use Rattle.realisations.specs.IndexKinds.{IsTableauCode, is_permutation, is_standard_tableau}
use Rattle.realisations.specs.Standardisation.{standardise}
use Rattle.realisations.specs.Tableaux.{insertion_tableau, reading_word, rows_of, tableau_code}
use Rattle.tableau_laws.specs.Intervals.{letters_between, restricted, tableau_between}
use Rattle.tableau_laws.specs.Knuth.{Move, Chain}
use Rattle.tableau_laws.specs.LatticeWords.{IsLatticeWord}

-- a Knuth move keeps P of a permutation, a chain of moves leads to the reading word of its P, and one leads from one permutation to another where both have one P, and only there (Knuth 1970)
pub record KnuthLaw : Type 0 where
  pub move_keeps : (s s' : List ℕ) → IsTrue (is_permutation s) → Move s s' → insertion_tableau s ≡ insertion_tableau s'
  pub chain_keeps : (s s' : List ℕ) → IsTrue (is_permutation s) → Chain s s' → insertion_tableau s ≡ insertion_tableau s'
  pub to_reading_word : (s : List ℕ) → IsTrue (is_permutation s) → Chain s (reading_word (insertion_tableau s))
  pub joined : (s s' : List ℕ) → IsTrue (is_permutation s) → IsTrue (is_permutation s') → insertion_tableau s ≡ insertion_tableau s' → Chain s s'

-- on the standardised letters of an interval of values a Knuth move is one or nothing, and P depends on P of the whole permutation alone: those letters of its reading word will do (Knuth 1970)
pub record RestrictionLaw : Type 0 where
  pub move_restricts : (from to : ℕ) (s s' : List ℕ) → IsTrue (is_permutation s) → Move s s' →
      Move (standardise (letters_between from to s)) (standardise (letters_between from to s'))
  pub tableau_restricts : (from to : ℕ) (rows : List (List ℕ)) (s : List ℕ) → IsTrue (is_permutation s) → insertion_tableau s ≡ rows →
      tableau_between from to s ≡ restricted from to rows

-- a list of letters is the code of a standard tableau exactly where it is a lattice word, and then that of the tableau which has in row r the places of r
pub record CodeLaw : Type 0 where
  pub lattice : (code : Code) → IsTableauCode code → IsLatticeWord code
  pub standard : (code : Code) → IsLatticeWord code → IsTrue (is_standard_tableau (rows_of code))
  pub read_back : (code : Code) → IsLatticeWord code → tableau_code (rows_of code) ≡ code
