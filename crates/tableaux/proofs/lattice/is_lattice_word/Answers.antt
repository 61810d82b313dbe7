use Rattle.std.proofs.Common.{◌≡◌, ◌∙◌, sym, take, get_or, arith}
use Rattle.tableaux.specs.NumberedTableaux.{follows_in}
use Rattle.tableaux.proofs.Steps.{longer_front, no_longer_front}
use Rattle.tableaux.proofs.lattice.is_lattice_word.Goals as goal

pub returns-then-not-follows : goal.returns-then-not-follows
returns-then-not-follows c =
    let at_front : follows_in c.prefix-front.result c.letter.result ≡ follows_in (take c.loop-at.at c.args.code.now) (get_or c.args.code.now c.loop-at.at 0) =
    (λ i. follows_in (c.prefix-front.ensures i) (c.letter.ensures i)) in
    no_longer_front c.args.code.now c.loop-at.at (let lt = c.loop-at-test.true in let e = c.len-at-end.ensures.value in omega (arith, lt, e))
    (sym at_front ∙ sym c.follows.ensures ∙ c.if-not-follows.true)

pub loop-at-preserved : goal.loop-at-preserved
loop-at-preserved c =
    let at_front : follows_in c.prefix-front.result c.letter.result ≡ follows_in (take c.loop-at.at c.args.code.now) (get_or c.args.code.now c.loop-at.at 0) =
    (λ i. follows_in (c.prefix-front.ensures i) (c.letter.ensures i)) in
    longer_front c.args.code.now c.loop-at.at (let lt = c.loop-at-test.true in let e = c.len-at-end.ensures.value in omega (arith, lt, e)) c.loop-at.invariant
    (sym at_front ∙ sym c.follows.ensures ∙ c.if-not-follows.false)
