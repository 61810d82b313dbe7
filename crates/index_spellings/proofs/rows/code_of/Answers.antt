use Rattle.std.proofs.Common.{◌+◌, ◌-◌, ℕ, List, arith, ◌∙◌}
use Rattle.realisations.specs.Tableaux.{tableau_code}
use Rattle.permutation_words.proofs.Building.{next_code, next_front, whole_front}
use Rattle.index_spellings.proofs.StandardRows.{IsCode-tableau, few_rows, length-tableau_code, row_at}
use Rattle.index_spellings.proofs.rows.code_of.Goals as goal

pub row_of-requires : goal.row_of-requires
row_of-requires c = omega (arith, few_rows c.args.rows.now c.requires.standard, c.requires.size, c.requires.small)

pub with-code-requires : goal.with-code-requires
with-code-requires c =
    let rows : List (List ℕ) = c.args.rows.now in
    let x : ℕ = c.loop-number.number in
    next_code (tableau_code rows) c.loop-number.code (x - 1) c.row_of.result (IsCode-tableau rows c.requires.standard (omega (arith, c.requires.size, c.requires.small)))
    (omega (arith, length-tableau_code rows, c.requires.size)) c.loop-number.invariant (row_at rows x (x - 1) c.row_of.result c.row_of.ensures (omega arith) (omega (arith, c.requires.size)) (omega arith))

pub loop-number-preserved : goal.loop-number-preserved
loop-number-preserved c =
    let rows : List (List ℕ) = c.args.rows.now in
    let x : ℕ = c.loop-number.number in
    c.with-code.ensures
    ∙ next_front (tableau_code rows) c.loop-number.code (x - 1) (x + 1 - 1) c.row_of.result (omega (arith, length-tableau_code rows, c.requires.size)) (omega arith) c.loop-number.invariant
    (row_at rows x (x - 1) c.row_of.result c.row_of.ensures (omega arith) (omega (arith, c.requires.size)) (omega arith))

pub returns : goal.returns
returns c =
    let rows : List (List ℕ) = c.args.rows.now in
    whole_front (tableau_code rows) c.loop-number.code (c.loop-number.number - 1) (omega (arith, length-tableau_code rows, c.requires.size)) c.loop-number.invariant
