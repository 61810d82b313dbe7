use Rattle.std.proofs.Common.{◌≡◌, ◌∷◌, ◌++◌, length-set, arith, ap, sym, ◌∙◌, unsigned_abs}
use Rattle.std.specs.Int.{w128}
use Rattle.std.specs.Fmt.{decimal}
use Rattle.std.proofs.lemmas.Int.{to_z-of_z}
use Rattle.hopf_num.proofs.DecimalSteps.{length-decimal, take-one, signed-below}
use Rattle.hopf_num.proofs.decimal.put_signed.Goals as goal

pub put_decimal-requires : goal.put_decimal-requires
put_decimal-requires c = rw (length-set c.args.out.now 0 _) (omega (arith, length-decimal _ c.unsigned_abs.ensures.bound, c.requires))

pub put_decimal-requires-else-number-lt0 : goal.put_decimal-requires-else-number-lt0
put_decimal-requires-else-number-lt0 c = omega (arith, length-decimal _ c.unsigned_abs-else-number-lt0.ensures.bound, c.requires)

pub returns-then-number-lt0-clause-text : goal.returns-then-number-lt0-clause-text
returns-then-number-lt0-clause-text c =
    let number = to_z-of_z w128 c.args.number c.ranges.number in
    let size : c.unsigned_abs.result ≡ unsigned_abs c.args.number = c.unsigned_abs.ensures.value ∙ ap unsigned_abs number in
    let below = rw number at c.if-number-lt0.true in
    c.put_decimal.ensures.text ∙ ap (λ w. w ++ decimal c.unsigned_abs.result) (take-one c.args.out.now 45 (omega (arith, c.requires)))
    ∙ ap (λ n. 45 ∷ decimal n) size ∙ sym (signed-below c.args.number below)

pub returns-then-number-lt0-clause-short : goal.returns-then-number-lt0-clause-short
returns-then-number-lt0-clause-short c = omega (arith, length-decimal _ c.unsigned_abs.ensures.bound, c.put_decimal.ensures.end)

pub returns-else-number-lt0-clause-short : goal.returns-else-number-lt0-clause-short
returns-else-number-lt0-clause-short c = omega (arith, length-decimal _ c.unsigned_abs-else-number-lt0.ensures.bound, c.put_decimal-else-number-lt0.ensures.end)
