use Rattle.std.proofs.Common.{◌<◌, ℕ, List, length, take, arith, rules}
use Rattle.std.proofs.lemmas.List.{take_more_set}
use Rattle.session_tokens.specs.declared.lexeme.Lexeme.{Lexeme}
use Rattle.index_spellings.proofs.RowsRead.{no_room, after_comma, after_opening, after_number, after_closing}
use Rattle.index_spellings.proofs.rows.rows_in.Goals as goal
use Rattle.index_spellings.proofs.rows.rows_in.Goals.{in-Comma, in-LeftBracket+else-is_open, in-Number+else-not-is_open+else-not-has_room_for, in-RightBracket+else-not-is_open-2+else-len-eq-MOST}

pub returns-then-not-has_room_for : goal.returns-then-not-has_room_for
returns-then-not-has_room_for c =
    no_room c.args.items.now (take c.loop-item.len c.loop-item.rows) c.loop-item.row c.loop-item.item-index c.item-item.result c.loop-item-test.true c.item-item.is c.loop-item.is_open c.in-Number.number
    c.if-not-is_open.false c.in-Number.is c.loop-item.invariant.so_far c.if-not-has_room_for.ensures

pub loop-item-preserved : goal.loop-item-preserved
loop-item-preserved c =
    let items : List Lexeme = c.args.items.now in
    let closed : List (List ℕ) = take c.loop-item.len c.loop-item.rows in
    let row : List ℕ = c.loop-item.row in
    let i : ℕ = c.loop-item.item-index in
    let kept = c.loop-item.invariant in
    elim c.match-item.branch [
      | in-Comma w ↦
          rw (w.rows-is, w.len-is, w.is_open-is, w.row-is) (record {
            is_code = kept.is_code;
            few = kept.few;
            room = kept.room;
            so_far = after_comma items closed row i c.item-item.result c.loop-item-test.true c.item-item.is c.loop-item.is_open w.in-Comma.is kept.so_far;
          })
      | in-LeftBracket+else-is_open w ↦
          rw (w.rows-is, w.len-is, w.is_open-is, w.row-is, w.empty-row-in-LeftBracket.ensures) (record {
            is_code = search rules;
            few = kept.few;
            room = kept.room;
            so_far = after_opening items closed row i c.item-item.result c.loop-item-test.true c.item-item.is c.loop-item.is_open w.if-is_open.false w.in-LeftBracket.is kept.so_far;
          })
      | in-Number+else-not-is_open+else-not-has_room_for w ↦
          rw (w.rows-is, w.len-is, w.is_open-is, w.row-is, w.with-row.ensures) (record {
            is_code = w.if-not-has_room_for.ensures;
            few = kept.few;
            room = kept.room;
            so_far = after_number items closed row i c.item-item.result c.loop-item-test.true c.item-item.is c.loop-item.is_open w.in-Number.number w.if-not-is_open.false w.in-Number.is kept.so_far;
          })
      | in-RightBracket+else-not-is_open-2+else-len-eq-MOST w ↦
          rw (w.rows-is, w.len-is, w.is_open-is, w.row-is) (record {
            is_code = kept.is_code;
            few = omega arith;
            room = search rules;
            so_far = let room : c.loop-item.len < length c.loop-item.rows = omega arith in rw (take_more_set c.loop-item.rows c.loop-item.len row room) (after_closing items closed row i c.item-item.result c.loop-item-test.true c.item-item.is c.loop-item.is_open w.if-not-is_open-2.false w.in-RightBracket.is kept.so_far);
          })
    ]
