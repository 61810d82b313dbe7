-- Sums of basis elements, each once, with signs.
use Rattle.std.specs.Prelude.{ℕ, ◌+◌, ◌-◌, length}
use Rattle.index_rules.specs.declared.sums.Signs.{Signs}
use Rattle.index_rules.specs.declared.sums.Signs.TheVariants.{Plus, ByLength}
use Rattle.realisations.specs.Codes.{Code}

-- how far two numbers are apart
abbrev pub distance : ℕ → ℕ → ℕ
distance m n = (m - n) + (n - m)

-- how many signs an index has: none, or one for each letter that its code is longer or shorter than a length
abbrev pub signs_of : Signs → Code → ℕ
signs_of Plus code = 0
signs_of (ByLength len) code = distance (length code) len
