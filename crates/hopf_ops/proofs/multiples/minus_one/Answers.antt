use Rattle.std.proofs.Common.{negsuc, arith}
use Rattle.std.proofs.lemmas.Nat.Gcd.{dvd_refl}
use Rattle.hopf_num.specs.Fractions.{IsFraction}
use Rattle.hopf_num.proofs.LowestTerms.{fraction-unique}
use Rattle.hopf_ops.proofs.multiples.minus_one.Goals as goal

pub returns : goal.returns
returns c =
    let one : IsFraction (record { num = negsuc 0; den = 1 }) = record { positive = omega arith; lowest = (dvd_refl 1, dvd_refl 1, λ d p q. p); num_small = omega arith; den_small = omega arith } in
    fraction-unique c.unwrap.result (record { num = negsuc 0; den = 1 }) (rw c.unwrap.ensures at c.new.ensures.lowest) one (rw c.unwrap.ensures at c.new.ensures.value)
