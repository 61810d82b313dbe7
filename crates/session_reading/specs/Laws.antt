-- The law of answers.
use Rattle.std.specs.Prelude.{◌≡◌, ℕ, List, Result}
use Rattle.session_grammar.specs.declared.expression.Statement.{Statement}
use Rattle.session_reading.specs.declared.fault.GrammarFault.{GrammarFault}
use Rattle.session_reading.specs.Parses.{IsAnswer}

-- each text has one answer
abbrev pub ParseLaw : Type 0
ParseLaw = (text : List ℕ) → (answer : Result Statement GrammarFault) × IsAnswer text answer × ((other : Result Statement GrammarFault) → IsAnswer text other → other ≡ answer)
