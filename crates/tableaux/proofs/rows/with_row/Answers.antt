use Rattle.std.proofs.Common.{◌+◌, ◌++◌, ◌∷◌, [], drop, get_or, sym, ◌∙◌, ap, append_assoc}
use Rattle.tableau_laws.specs.NumberedRows.{letters_in}
use Rattle.tableaux.proofs.Steps.{row_passed, row_taken}
use Rattle.tableaux.proofs.rows.with_row.Goals as goal
use Rattle.tableaux.proofs.rows.with_row.Goals.{then-letter-row, else-letter-row}

pub loop-at-preserved : goal.loop-at-preserved
loop-at-preserved c =
    let letters = c.args.letters.now in
    let rows = c.args.rows.now in
    let at = c.loop-at.at in
    elim c.if-letter-row.branch [
      | then-letter-row w ↦
          ap (λ v. v ++ letters_in c.args.row (drop (at + 1) letters) (drop (at + 1) rows)) (w.out-is ∙ w.with-out.ensures)
          ∙ append_assoc c.loop-at.out (get_or letters at 0 ∷ []) (letters_in c.args.row (drop (at + 1) letters) (drop (at + 1) rows))
          ∙ ap (λ v. c.loop-at.out ++ v) (sym (row_taken c.args.row at letters rows c.loop-at-test.true c.requires.same_size (sym c.letter.ensures ∙ w.if-letter-row.true)))
          ∙ c.loop-at.invariant
      | else-letter-row w ↦
          ap (λ v. v ++ letters_in c.args.row (drop (at + 1) letters) (drop (at + 1) rows)) w.out-is
          ∙ ap (λ v. c.loop-at.out ++ v) (sym (row_passed c.args.row at letters rows c.loop-at-test.true c.requires.same_size (λ e. w.if-letter-row.false (c.letter.ensures ∙ e))))
          ∙ c.loop-at.invariant
    ]
