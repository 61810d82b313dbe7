use Rattle.std.proofs.Common.{◌+◌, ◌-◌, ◌++◌, ℕ, List, map, arith}
use Rattle.realisations.specs.Tableaux.{rows_of}
use Rattle.index_spellings.specs.Texts.{comma_separated, list_text}
use Rattle.index_spellings.proofs.TextsInTurn.{first_text, next_text, no_text}
use Rattle.index_spellings.proofs.RowsOfCodes.{length-row_texts, row_text}
use Rattle.index_spellings.proofs.texts.append_row_lists.Goals as goal

pub loop-row-init : goal.loop-row-init
loop-row-init c =
    let code : List ℕ = c.args.code.now in
    first_text (map list_text (rows_of code)) c.args.out.now c.append_list.new.out (list_text c.places_of.result)
    (omega (arith, length-row_texts code, c.greatest_letter-rows.ensures.value))
    (row_text code 1 0 c.places_of.result c.places_of.ensures (omega arith) (omega (arith, c.greatest_letter-rows.ensures.value)) (omega arith))
    c.in_ok-append_list.ensures

pub loop-row-preserved : goal.loop-row-preserved
loop-row-preserved c =
    let code : List ℕ = c.args.code.now in
    let row : ℕ = c.loop-row.row in
    next_text (map list_text (rows_of code)) (row - 1) (row + 1 - 1) (c.args.out.now ++ comma_separated (map list_text (rows_of code)))
    c.loop-row.out c.push_all.new.self c.append_list-in-loop-row.new.out (list_text c.places_of-in-loop-row.result)
    (omega (arith, length-row_texts code, c.greatest_letter-rows.ensures.value)) (omega arith)
    (row_text code row (row - 1) c.places_of-in-loop-row.result c.places_of-in-loop-row.ensures (omega arith) (omega (arith, c.greatest_letter-rows.ensures.value)) (omega arith))
    c.loop-row.invariant c.in_ok-push_all.ensures.ok c.in_ok-append_list-2.ensures

pub returns : goal.returns
returns c =
    let code : List ℕ = c.args.code.now in
    no_text (map list_text (rows_of code)) (c.loop-row.row - 1) (c.args.out.now ++ comma_separated (map list_text (rows_of code))) c.loop-row.out
    (omega (arith, length-row_texts code, c.greatest_letter-rows.ensures.value)) c.loop-row.invariant
