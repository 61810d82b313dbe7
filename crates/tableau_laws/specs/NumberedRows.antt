-- Nothing here need be believed: rows of letters by their numbers.
use Rattle.std.specs.Prelude.{◌≡◌, ℕ, suc, nat_eq, if◌then◌else◌, List, [], ◌∷◌, length, map}
use Rattle.std.specs.List.{range_with_len}
use Rattle.realisations.specs.Words.{greatest}
use Rattle.basis_representatives.proofs.RowByRow.{RisingRow}
use Rattle.tableau_laws.specs.LatticeWords.{IsLatticeWord}

-- of some letters, each of which has the number of a row, those in row r
abbrev pub letters_in : ℕ → List ℕ → List ℕ → List ℕ
letters_in r [] code = []
letters_in r (x ∷ letters) [] = []
letters_in r (x ∷ letters) (c ∷ code) = if nat_eq c r then x ∷ letters_in r letters code else letters_in r letters code

-- the rows from row r on, as many as are asked for
abbrev pub rows_from : ℕ → ℕ → List ℕ → List ℕ → List (List ℕ)
rows_from r k letters code = map (λ i. letters_in i letters code) (range_with_len r k)

-- all rows
abbrev pub rows_by : List ℕ → List ℕ → List (List ℕ)
rows_by letters code = rows_from 1 (greatest code) letters code

-- letters in rising order, and the numbers of their rows, which are a lattice word
pub record IsNumbered (letters code : List ℕ) : Type 0 where
  pub rising : RisingRow letters
  pub lattice : IsLatticeWord code
  pub same_size : length letters ≡ length code

-- the numbers of the rows of the letters past one that enters row r: the first of them in this row goes on to the next row, and so forth (Schensted 1961)
abbrev pub bumped : ℕ → List ℕ → List ℕ
bumped r [] = []
bumped r (c ∷ code) = if nat_eq c r then suc r ∷ bumped (suc r) code else c ∷ bumped r code
