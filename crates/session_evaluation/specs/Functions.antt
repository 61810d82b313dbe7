-- The functions of the language on one value: the component that each acts on, its row, and what it is on readings.
use Rattle.realisations.specs.Readings.{Operation, coproduct, antipode, counit, mult, commute}
use Rattle.session_tokens.specs.declared.lexeme.Linear.{Linear}
use Rattle.session_tokens.specs.declared.lexeme.Linear.TheVariants.{Coproduct, Antipode, Counit, Mult, Commute}
use Rattle.session_grammar.specs.declared.expression.Place.{Place}
use Rattle.session_grammar.specs.declared.expression.Place.TheVariants.{Only, At}
use Rattle.basis_routes.specs.declared.place.Place.{Place as ValuePlace}
use Rattle.basis_routes.specs.declared.place.Place.TheVariants as value
use Rattle.basis_routes.specs.Rows.{Row}
use Rattle.hopf_laws.specs.Values.{Expansion}
use Rattle.hopf_ops.specs.Operations.{CoproductRow, AntipodeRow, CounitRow, MultRow, CommuteRow}

-- the component that an expression names
abbrev pub place_of : Place → ValuePlace
place_of Only = value.Only
place_of (At k) = value.At k

-- the row of a linear function
abbrev pub LinearRow : Linear → ValuePlace → Expansion → Row
LinearRow Coproduct at a answer = CoproductRow at a answer
LinearRow Antipode at a answer = AntipodeRow at a answer
LinearRow Counit at a answer = CounitRow at a answer
LinearRow Mult at a answer = MultRow at a answer
LinearRow Commute at a answer = CommuteRow at a answer

-- what it is on readings
abbrev pub operation_of : Linear → Operation
operation_of Coproduct = coproduct
operation_of Antipode = antipode
operation_of Counit = counit
operation_of Mult = mult
operation_of Commute = commute
