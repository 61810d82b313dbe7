use Rattle.std.proofs.Common.{◌≡◌, length, ◌∙◌, ap, sym, subst, arith}
use Rattle.std.specs.List.{range_with_len}
use Rattle.tableau_laws.specs.NumberedRows.{rows_by}
use Rattle.tableau_laws.proofs.NumberedRows.{rows_of-rows_by}
use Rattle.tableaux.specs.NumberedTableaux.{IsKept}
use Rattle.tableaux.proofs.Kept.{kept-range}
use Rattle.tableaux.proofs.Steps.{length_pushed, more_pushed}
use Rattle.tableaux.proofs.tableau.Tableau.numbered.Goals as goal

pub push-requires : goal.push-requires
push-requires c =
    (omega arith, omega (arith, length_pushed c.loop-at.letters.items c.loop-at.at c.loop-at.invariant, c.loop-at-test.true, c.len-at-end.ensures.value, c.requires.small))

pub loop-at-preserved : goal.loop-at-preserved
loop-at-preserved c = more_pushed c.loop-at.letters.items c.push.new.self.items c.loop-at.at _ c.loop-at.invariant (omega arith) c.push.ensures.items

pub invariant_of-result : goal.invariant_of-result
invariant_of-result c =
    let last : c.loop-at.at ≡ length c.args.code.now = omega (arith, c.loop-at-test.false, c.loop-at.auto.at-end, c.len-at-end.ensures.value) in
    subst (λ w. IsKept w c.args.code.now) (sym (c.loop-at.invariant ∙ ap (range_with_len 1) last)) (kept-range c.args.code.now c.requires.lattice c.requires.small)

pub returns : goal.returns
returns c =
    let last : c.loop-at.at ≡ length c.args.code.now = omega (arith, c.loop-at-test.false, c.loop-at.auto.at-end, c.len-at-end.ensures.value) in
    ap (λ w. rows_by w c.args.code.now) (c.loop-at.invariant ∙ ap (range_with_len 1) last) ∙ sym (rows_of-rows_by c.args.code.now)
