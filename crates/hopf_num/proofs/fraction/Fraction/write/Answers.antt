use Rattle.std.proofs.Common.{length-set, arith}
use Rattle.hopf_num.proofs.DecimalSteps.{length-decimal}
use Rattle.hopf_num.proofs.fraction.Fraction.write.Goals as goal

pub put_decimal-requires : goal.put_decimal-requires
put_decimal-requires c =
    let den = length-decimal c.self.inside.den (omega (arith, c.self.invariant.den_small)) in
    omega (arith, den, c.told-out, c.put_signed-end.ensures.short, c.put_signed-end.ensures.len, length-set c.put_signed-end.new.out c.put_signed-end.result 47)
