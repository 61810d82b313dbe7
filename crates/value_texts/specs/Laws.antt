-- The law of texts.
use Rattle.std.specs.Prelude.{◌≡◌, ℕ, List}
use Rattle.hopf_laws.specs.Values.{Expansion, IsValue}
use Rattle.value_texts.specs.Text.{IsTextOf}

-- each value has one text
abbrev pub TextLaw : Type 0
TextLaw = (v : Expansion) → IsValue v → (text : List ℕ) × IsTextOf v text × ((other : List ℕ) → IsTextOf v other → other ≡ text)
