-- Rows: what an operation may answer, said step by step. A row holds of the answers that it allows.
use Rattle.std.specs.Prelude.{◌≡◌, ◌⊎◌, List, map, All, Result, Ok, Err}
use Rattle.realisations.specs.Bases.{kind_of}
use Rattle.realisations.specs.Readings.{Reading, kinds_of}
use Rattle.basis_names.specs.declared.bases.BasisId.{BasisId}
use Rattle.hopf_laws.specs.Values.{Expansion, Expands}
use Rattle.basis_routes.specs.declared.checks.Check.{Check}
use Rattle.basis_routes.specs.declared.refusal.Refusal.{Refusal}
use Rattle.basis_routes.specs.declared.refusal.Refusal.TheVariants.{Memory}
use Rattle.basis_routes.specs.Checks.{Passes, IsFirstFailing}

-- a value, or why there is none
abbrev pub Answer : Type 0
Answer = Result Expansion Refusal

-- the answers that an operation may give
abbrev pub Row : Type 1
Row = Answer → Type 0

-- these checks in order, and then the rest; the first check that fails gives its refusal
abbrev pub Checked : List Check → Row → Row
Checked checks Rest answer = (All Passes checks × Rest answer) ⊎ ((refusal : Refusal) × IsFirstFailing checks refusal × (answer ≡ Err refusal))

-- a step, and then the rest with what it came to; a refusal of the step is the answer
abbrev pub Then : Row → (Expansion → Row) → Row
Then Step Rest answer = ((value : Expansion) × Step (Ok value) × Rest value answer) ⊎ ((refusal : Refusal) × Step (Err refusal) × (answer ≡ Err refusal))

-- the value over these bases that reads so
abbrev pub Answers : List BasisId → Reading → Row
Answers bases reading answer = (value : Expansion) × Expands bases reading value × (answer ≡ Ok value)

-- an answer of this row, or want of memory, which may come at any time
abbrev pub OrMemory : Row → Row
OrMemory Allowed answer = (answer ≡ Err Memory) ⊎ Allowed answer

-- a row allows exactly one answer; a value that it allows is the one over these bases that reads so, at points of these kinds
pub record Decides (Allowed : Row) (bases : List BasisId) (reading : Reading) : Type 0 where
  pub once : (r s : Answer) → Allowed r → Allowed s → r ≡ s
  pub some : (answer : Answer) × Allowed answer
  pub reads : (v : Expansion) → Allowed (Ok v) → Expands bases reading v
  pub kinds : (v : Expansion) → Allowed (Ok v) → map kind_of bases ≡ kinds_of reading
