-- Product and coproduct of readings are adjoint under the pairings.
use Rattle.pairing_laws.specs.Adjoints.{AdjointnessLaw}
use Rattle.pairing_laws.proofs.DescentAdjointness.{descent_adjointness}
use Rattle.pairing_laws.proofs.ExponentAdjointness.{exponent_adjointness}
use Rattle.pairing_laws.proofs.WordAdjointnessLaw.{word_adjointness}

pub adjoint : AdjointnessLaw
adjoint = record { words = word_adjointness; words_with_exponents = descent_adjointness; exponents_with_words = exponent_adjointness }
