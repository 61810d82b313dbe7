use Rattle.std.proofs.Common.{◌≡◌, ◌+◌, ◌-◌, ◌++◌, ◌∷◌, [], drop, get_or, sym, ◌∙◌, ap, arith, append_assoc}
use Rattle.tableaux.specs.NumberedTableaux.{lowered_between}
use Rattle.tableaux.proofs.Codes.{IsCode-front}
use Rattle.tableaux.proofs.Restricting.{code-standardised, letter_taken, lowered-standard, nothing_left}
use Rattle.tableaux.proofs.restriction.between.Goals as goal

pub with-out-requires : goal.with-out-requires
with-out-requires c =
    let word = c.args.word.now in
    let at = c.loop-at.at in
    let rest = lowered_between c.args.from c.args.to (drop (at + 1) word) in
    let lt = c.loop-at-test.true in
    let size = c.len-at-end.ensures.value in
    let is : c.letter-letter.result - c.saturating_sub-by.result ≡ get_or word at 0 - (c.args.from - 1) = (λ i. c.letter-letter.ensures i - c.saturating_sub-by.ensures i) in
    IsCode-front (c.loop-at.out ++ ((c.letter-letter.result - c.saturating_sub-by.result) ∷ [])) rest (lowered_between c.args.from c.args.to word)
    (append_assoc c.loop-at.out ((c.letter-letter.result - c.saturating_sub-by.result) ∷ []) rest
    ∙ ap (λ x. c.loop-at.out ++ (x ∷ rest)) is
    ∙ ap (λ w. c.loop-at.out ++ w)
    (sym (letter_taken c.args.from c.args.to word at (omega (arith, lt, size)) (omega (arith, c.if-from-letter.true, c.letter-letter.ensures)) (omega (arith, c.if-letter-to.true, c.letter-letter.ensures))))
    ∙ c.loop-at.invariant)
    (code-standardised c.args.from c.args.to word c.requires c.len-at-end.ensures.is_code.short)

pub returns : goal.returns
returns c =
    nothing_left c.args.from c.args.to c.loop-at.out c.args.word.now c.loop-at.at (omega (arith, c.loop-at-test.false, c.len-at-end.ensures.value)) c.loop-at.invariant
    ∙ lowered-standard c.args.from c.args.to c.args.word.now c.requires
