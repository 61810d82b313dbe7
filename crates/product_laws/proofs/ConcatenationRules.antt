-- The rules of the products of complete functions and of elementary ones.
use Rattle.std.proofs.Common.{◌+◌, ◌*◌, arith}
use Rattle.std.specs.List.{sum}
use Rattle.std.proofs.lemmas.Nat.{pow_pos}
use Rattle.product_laws.specs.Laws.{ConcatenationLaw}
use Rattle.product_laws.proofs.MultiplicativeBases.{complete_read, elementary_read}
use Rattle.product_laws.proofs.Parts.{composition-append, sum-append}

pub concatenation_rules : ConcatenationLaw
concatenation_rules = record {
  complete = λ i j hi hj. record {
    reads = λ p point. complete_read i j p point;
    indices = ((composition-append i j hi hj, sum-append i j), tt);
    few = omega (arith, pow_pos (5 * (sum i + sum j)));
  };
  elementary = λ i j hi hj. record {
    reads = λ p point. elementary_read i j p point;
    indices = ((composition-append i j hi hj, sum-append i j), tt);
    few = omega (arith, pow_pos (5 * (sum i + sum j)));
  };
}
