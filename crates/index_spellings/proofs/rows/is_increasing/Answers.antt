use Rattle.std.proofs.Common.{◌≡◌, ◌∙◌, true, sym}
use Rattle.index_spellings.specs.KeptRows.{is_rising}
use Rattle.index_spellings.proofs.RowTests.{no_row_left, row_falls, row_not_below, rows_left}
use Rattle.index_spellings.proofs.rows.is_increasing.Goals as goal
use Rattle.index_spellings.proofs.rows.is_increasing.Goals.{else-at-rows-via-then-at-rows+else-not-is_below, else-at-rows-via-else-at-rows}

pub returns-then-not-is_rising_row : goal.returns-then-not-is_rising_row
returns-then-not-is_rising_row c =
    sym (c.loop-at.invariant ∙ row_falls c.args.rows.now c.loop-at.at c.index-rows-at.result c.loop-at-test.true c.index-rows-at.is (sym c.is_rising_row.ensures ∙ c.if-not-is_rising_row.true))

pub returns-then-not-is_below : goal.returns-then-not-is_below
returns-then-not-is_below c =
    let up : is_rising c.index-rows-at.result ≡ true = sym c.is_rising_row.ensures ∙ c.if-not-is_rising_row.false in
    sym (c.loop-at.invariant
    ∙ row_not_below c.args.rows.now c.loop-at.at c.index-rows-at.result c.index-rows-at-then-at-rows.result c.if-at-rows.true c.index-rows-at.is c.index-rows-at-then-at-rows.is up
    (sym c.is_below.ensures ∙ c.if-not-is_below.true))

pub loop-at-preserved : goal.loop-at-preserved
loop-at-preserved c =
    let up : is_rising c.index-rows-at.result ≡ true = sym c.is_rising_row.ensures ∙ c.if-not-is_rising_row.false in
    elim c.else-at-rows.branch [
      | else-at-rows-via-then-at-rows+else-not-is_below w ↦
          c.loop-at.invariant
          ∙ rows_left c.args.rows.now c.loop-at.at c.index-rows-at.result w.index-rows-at-then-at-rows.result w.if-at-rows.true c.index-rows-at.is w.index-rows-at-then-at-rows.is up
          (sym w.is_below.ensures ∙ w.if-not-is_below.false)
      | else-at-rows-via-else-at-rows w ↦ c.loop-at.invariant ∙ no_row_left c.args.rows.now c.loop-at.at c.index-rows-at.result c.loop-at-test.true w.if-at-rows.false c.index-rows-at.is up
    ]
