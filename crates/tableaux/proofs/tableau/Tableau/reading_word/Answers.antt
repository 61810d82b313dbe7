use Rattle.std.proofs.Common.{◌≡◌, ◌+◌, ◌-◌, ◌++◌, length, ◌∙◌, ap, sym, subst, arith}
use Rattle.std.specs.Prelude.{IsTrue, suc}
use Rattle.realisations.specs.IndexKinds.{is_permutation, is_standard_tableau}
use Rattle.realisations.specs.Tableaux.{reading_word}
use Rattle.linear_combos.specs.Codes.{IsCode}
use Rattle.tableau_laws.specs.NumberedRows.{letters_in, rows_by, rows_from}
use Rattle.tableau_laws.proofs.LatticeColumns.{greatest-lattice}
use Rattle.tableau_laws.proofs.NumberedTableaux.{length-standard, reading_word-standard}
use Rattle.tableaux.proofs.Codes.{IsCode-front}
use Rattle.tableaux.proofs.Kept.{code-reading_word}
use Rattle.tableaux.proofs.RowsInTurn.{next_row, no_row_left, reading_word-rows}
use Rattle.tableaux.proofs.tableau.Tableau.reading_word.Goals as goal

pub loop-later-init : goal.loop-later-init
loop-later-init c =
    ap (λ w. w ++ reading_word (rows_from 1 (c.len-size.result - 0) c.self.inside.letters.items c.self.inside.rows)) c.empty-word.ensures
    ∙ reading_word-rows (c.len-size.result - 0) c.self.inside.letters.items c.self.inside.rows (omega (arith, greatest-lattice c.self.inside.rows c.self.invariant.numbered.lattice, c.len-size.ensures.value))

pub with_row-word-requires-clause-is_code : goal.with_row-word-requires-clause-is_code
with_row-word-requires-clause-is_code c =
    let letters = c.self.inside.letters.items in
    let rows = c.self.inside.rows in
    let k = c.len-size.result - (c.loop-later.later + 1) in
    let next : c.len-size.result - c.loop-later.later ≡ suc k = omega (arith, c.loop-later-test.true) in
    let whole : c.loop-later.word ++ reading_word (rows_from 1 (suc k) letters rows) ≡ reading_word (rows_by letters rows) =
    ap (λ n. c.loop-later.word ++ reading_word (rows_from 1 n letters rows)) (sym next) ∙ c.loop-later.invariant in
    subst (λ w. IsCode (c.loop-later.word ++ letters_in (c.len-size.result - c.loop-later.later) w rows)) (sym c.as_slice.ensures.value)
    (IsCode-front (c.loop-later.word ++ letters_in (c.len-size.result - c.loop-later.later) letters rows) (reading_word (rows_from 1 k letters rows)) (reading_word (rows_by letters rows))
    (next_row c.loop-later.word k (c.len-size.result - c.loop-later.later) letters rows (reading_word (rows_by letters rows)) whole next)
    (code-reading_word letters rows c.self.invariant (subst (λ t. IsTrue (is_standard_tableau t)) (sym c.self.view_is) c.requires)))

pub loop-later-preserved : goal.loop-later-preserved
loop-later-preserved c =
    let letters = c.self.inside.letters.items in
    let rows = c.self.inside.rows in
    let k = c.len-size.result - (c.loop-later.later + 1) in
    let next : c.len-size.result - c.loop-later.later ≡ suc k = omega (arith, c.loop-later-test.true) in
    let whole : c.loop-later.word ++ reading_word (rows_from 1 (suc k) letters rows) ≡ reading_word (rows_by letters rows) =
    ap (λ n. c.loop-later.word ++ reading_word (rows_from 1 n letters rows)) (sym next) ∙ c.loop-later.invariant in
    ap (λ w. w ++ reading_word (rows_from 1 k letters rows))
    (c.with_row-word.ensures ∙ ap (λ w. c.loop-later.word ++ letters_in (c.len-size.result - c.loop-later.later) w rows) c.as_slice.ensures.value)
    ∙ next_row c.loop-later.word k (c.len-size.result - c.loop-later.later) letters rows (reading_word (rows_by letters rows)) whole next

pub returns-clause-permutes : goal.returns-clause-permutes
returns-clause-permutes c =
    let letters = c.self.inside.letters.items in
    let rows = c.self.inside.rows in
    let whole = no_row_left c.loop-later.word (c.len-size.result - c.loop-later.later) letters rows (reading_word (rows_by letters rows)) c.loop-later.invariant (omega (arith, c.loop-later-test.false)) in
    subst (λ w. IsTrue (is_permutation w)) (sym whole) (reading_word-standard letters rows c.self.invariant.numbered (subst (λ t. IsTrue (is_standard_tableau t)) (sym c.self.view_is) c.requires))

pub returns-clause-small : goal.returns-clause-small
returns-clause-small c =
    let letters = c.self.inside.letters.items in
    let rows = c.self.inside.rows in
    let whole = no_row_left c.loop-later.word (c.len-size.result - c.loop-later.later) letters rows (reading_word (rows_by letters rows)) c.loop-later.invariant (omega (arith, c.loop-later-test.false)) in
    omega (arith, ap length whole, length-standard letters rows c.self.invariant.numbered (subst (λ t. IsTrue (is_standard_tableau t)) (sym c.self.view_is) c.requires), c.self.invariant.small)
