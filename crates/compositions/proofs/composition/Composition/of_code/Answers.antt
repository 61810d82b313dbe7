use Rattle.std.proofs.Common.{refl, arith}
use Rattle.compositions.proofs.Parts.{composition_from_letters}
use Rattle.compositions.proofs.composition.Composition.of_code.Goals as goal

pub invariant_of-result : goal.invariant_of-result
invariant_of-result c = record { positive = composition_from_letters _ c.sum.ensures.is_code.letters; small = omega (arith, c.sum.ensures.value) }

pub returns : goal.returns
returns c = (refl, record { positive = composition_from_letters _ c.sum.ensures.is_code.letters; small = omega (arith, c.sum.ensures.value) })
