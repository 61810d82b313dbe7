use Rattle.std.proofs.Common.{◌+◌, ◌/◌, ◌%◌, ◌<◌, [], ◌∷◌, ◌++◌, take, arith, ap, sym, ◌∙◌}
use Rattle.std.specs.Fmt.{decimal}
use Rattle.std.proofs.lemmas.Fmt.{decimal_digit}
use Rattle.std.proofs.lemmas.List.{append_assoc}
use Rattle.hopf_num.proofs.DecimalSteps.{length-one, length-steps, steps}
use Rattle.hopf_num.proofs.decimal.+put_decimal.Goals as goal

pub put_digit-requires-clause-room : goal.put_digit-requires-clause-room
put_digit-requires-clause-room t c = omega (arith, length-one c.args.number c.if-number-lt10.true, c.requires)

pub put_decimal-last-requires : goal.put_decimal-last-requires
put_decimal-last-requires t c =
    let less : c.args.number / 10 < c.args.number = omega (arith, c.if-number-lt10.false) in
    (omega (arith, less, c.decreases), omega (arith, length-steps c.args.number c.if-number-lt10.false c.ranges.number.fits, c.requires))

pub put_digit-requires-else-number-lt10-clause-room : goal.put_digit-requires-else-number-lt10-clause-room
put_digit-requires-else-number-lt10-clause-room t c =
    omega (arith, length-steps c.args.number c.if-number-lt10.false c.ranges.number.fits, c.requires, c.put_decimal-last.ensures.end, c.put_decimal-last.ensures.len)

pub returns-then-number-lt10-clause-end : goal.returns-then-number-lt10-clause-end
returns-then-number-lt10-clause-end t c = omega (arith, length-one c.args.number c.if-number-lt10.true, c.put_digit.ensures.end)

pub returns-then-number-lt10-clause-text : goal.returns-then-number-lt10-clause-text
returns-then-number-lt10-clause-text t c = c.put_digit.ensures.text ∙ ap (λ w. take c.args.at c.args.out.now ++ w) (sym (decimal_digit c.args.number c.if-number-lt10.true))

pub returns-else-number-lt10-clause-end : goal.returns-else-number-lt10-clause-end
returns-else-number-lt10-clause-end t c =
    omega (arith, length-steps c.args.number c.if-number-lt10.false c.ranges.number.fits, c.put_decimal-last.ensures.end, c.put_digit-else-number-lt10.ensures.end)

pub returns-else-number-lt10-clause-text : goal.returns-else-number-lt10-clause-text
returns-else-number-lt10-clause-text t c =
    c.put_digit-else-number-lt10.ensures.text ∙ ap (λ w. w ++ (48 + c.args.number % 10) ∷ []) c.put_decimal-last.ensures.text
    ∙ append_assoc (take c.args.at c.args.out.now) (decimal (c.args.number / 10)) ((48 + c.args.number % 10) ∷ [])
    ∙ ap (λ w. take c.args.at c.args.out.now ++ w) (sym (steps c.args.number c.if-number-lt10.false c.ranges.number.fits))
