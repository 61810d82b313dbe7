use Rattle.std.proofs.Common.{sym, ◌∙◌, length}
use Rattle.built_forms.specs.Forms.{begins_unbuilt}
use Rattle.index_spellings.specs.Indices.{begins_bad_list}
use Rattle.session_reading.specs.Faults.{begins_large}
use Rattle.session_reading.specs.Parses.{large_number, reserved, not_built, bad_list}
use Rattle.session_reading.proofs.Seen.{found_at, found_nowhere}
use Rattle.session_reading.proofs.parsing.flaw_of_statement.Goals as goal

pub returns-in-Some : goal.returns-in-Some
returns-in-Some c = let ls = c.args.lexemes.now in
    large_number (found_at begins_large ls (length ls) c.of-sights.result.large_number c.in-Some.place c.of-sights.ensures.large_number c.in-Some.is)

pub returns-in-Some-2 : goal.returns-in-Some-2
returns-in-Some-2 c = let ls = c.args.lexemes.now in
    reserved (found_nowhere begins_large ls (length ls) c.of-sights.result.large_number c.of-sights.ensures.large_number c.in_default.is)
    (sym c.in_ok-name.ensures ∙ c.in-Some-2.is)

pub returns-in-Some-unbuilt : goal.returns-in-Some-unbuilt
returns-in-Some-unbuilt c = let ls = c.args.lexemes.now in
    not_built (found_nowhere begins_large ls (length ls) c.of-sights.result.large_number c.of-sights.ensures.large_number c.in_default.is)
    (sym c.in_ok-name.ensures ∙ c.in_default-2.is)
    (found_at begins_unbuilt ls (length ls) c.of-sights.result.unbuilt c.in-Some-unbuilt.field-0 c.of-sights.ensures.unbuilt c.in-Some-unbuilt.is)

pub returns-in-Some-bad_list : goal.returns-in-Some-bad_list
returns-in-Some-bad_list c = let ls = c.args.lexemes.now in
    bad_list (found_nowhere begins_large ls (length ls) c.of-sights.result.large_number c.of-sights.ensures.large_number c.in_default.is)
    (sym c.in_ok-name.ensures ∙ c.in_default-2.is)
    (found_nowhere begins_unbuilt ls (length ls) c.of-sights.result.unbuilt c.of-sights.ensures.unbuilt c.in_default-unbuilt.is)
    (found_at begins_bad_list ls (length ls) c.of-sights.result.bad_list c.in-Some-bad_list.place c.of-sights.ensures.bad_list c.in-Some-bad_list.is)
