-- The lines of refusals.
use Rattle.std.specs.Prelude.{ℕ, List, ◌++◌, codes}
use Rattle.std.specs.Fmt.{decimal}
use Rattle.basis_names.specs.Bases.{name_of_algebra}
use Rattle.basis_names.specs.declared.bases.AlgebraId.{AlgebraId}
use Rattle.index_spellings.specs.Texts.{list_text}
use Rattle.basis_routes.specs.declared.refusal.Refusal.{Refusal}
use Rattle.session_reading.specs.declared.fault.GrammarFault.{GrammarFault}
use Rattle.hopf.specs.declared.refusal.StatementRefusal.{StatementRefusal}
use Rattle.basis_routes.specs.declared.refusal.Refusal.TheVariants as value
use Rattle.session_reading.specs.declared.fault.GrammarFault.TheVariants as fault
use Rattle.hopf.specs.declared.refusal.StatementRefusal.TheVariants as refusal

-- the numbers of refusals; want of memory is none and has 0
abbrev pub number_of_fault : GrammarFault → ℕ
number_of_fault fault.TooDeep = 3
number_of_fault (fault.Syntax place) = 4
number_of_fault (fault.Number place) = 5
number_of_fault (fault.ReservedName word) = 6
number_of_fault fault.NotBuilt = 20
number_of_fault (fault.BadIndex place) = 7
number_of_fault fault.Memory = 0

abbrev pub number_of_value : Refusal → ℕ
number_of_value value.Rank = 9
number_of_value value.Component = 10
number_of_value value.NotScalar = 11
number_of_value value.ZeroDivisor = 12
number_of_value (value.Mixed a b) = 13
number_of_value (value.NoRoute a b) = 14
number_of_value (value.NoPairing a b) = 15
number_of_value (value.Degree degree limit) = 16
number_of_value (value.TooLarge need) = 17
number_of_value (value.NotInSub algebra u v) = 18
number_of_value value.NotBuilt = 20
number_of_value value.Memory = 0

abbrev pub number_of : StatementRefusal → ℕ
number_of refusal.TooLong = 1
number_of refusal.Unfinished = 2
number_of (refusal.Grammar f) = number_of_fault f
number_of (refusal.UnknownName name) = 8
number_of (refusal.Value r) = number_of_value r
number_of refusal.TooManyNames = 19

-- the texts of refusals
abbrev pub text_of_fault : GrammarFault → List ℕ
text_of_fault fault.TooDeep = codes "brackets are nested deeper than 64"
text_of_fault (fault.Syntax place) = codes "syntax error at byte " ++ decimal place
text_of_fault (fault.Number place) = codes "number at byte " ++ decimal place ++ codes " is too large"
text_of_fault (fault.ReservedName word) = codes "reserved name " ++ word
text_of_fault fault.NotBuilt = codes "not built yet"
text_of_fault (fault.BadIndex place) = codes "bad index at byte " ++ decimal place
text_of_fault fault.Memory = codes "out of memory"

-- the words are spelled as lists
abbrev pub text_not_in : AlgebraId → List ℕ → List ℕ → List ℕ
text_not_in algebra u v = codes "not in " ++ name_of_algebra algebra ++ codes ": " ++ list_text u ++ codes " and " ++ list_text v ++ codes " read differently"

abbrev pub text_of_value : Refusal → List ℕ
text_of_value value.Rank = codes "wrong rank"
text_of_value value.Component = codes "no such component"
text_of_value value.NotScalar = codes "divisor is not a scalar"
text_of_value value.ZeroDivisor = codes "division by zero"
text_of_value (value.Mixed a b) = codes "no common algebra for " ++ name_of_algebra a ++ codes " and " ++ name_of_algebra b
text_of_value (value.NoRoute a b) = codes "no conversion from " ++ name_of_algebra a ++ codes " to " ++ name_of_algebra b
text_of_value (value.NoPairing a b) = codes "no pairing of " ++ name_of_algebra a ++ codes " and " ++ name_of_algebra b
text_of_value (value.Degree degree limit) = codes "degree " ++ decimal degree ++ codes " is past " ++ decimal limit
text_of_value (value.TooLarge need) = codes "coefficient room passed"
text_of_value (value.NotInSub algebra u v) = text_not_in algebra u v
text_of_value value.NotBuilt = codes "not built yet"
text_of_value value.Memory = codes "out of memory"

abbrev pub text_of : StatementRefusal → List ℕ
text_of refusal.TooLong = codes "statement is longer than 65536 bytes"
text_of refusal.Unfinished = codes "statement has no semicolon"
text_of (refusal.Grammar f) = text_of_fault f
text_of (refusal.UnknownName name) = codes "unknown name " ++ name
text_of (refusal.Value r) = text_of_value r
text_of refusal.TooManyNames = codes "more than 256 names"

-- the line of a refusal in the statement with this number
abbrev pub refusal_line : ℕ → StatementRefusal → List ℕ
refusal_line k r = codes "error " ++ decimal (number_of r) ++ codes " in statement " ++ decimal k ++ codes ": " ++ text_of r ++ codes "\n"
