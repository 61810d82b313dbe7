-- The row of a negation allows exactly one answer, whose value reads as the negation.
use Rattle.std.proofs.Common.{refl, arith}
use Rattle.std.proofs.Math.Nat.{mul-pos}
use Rattle.hopf_laws.specs.Values.{reading_of}
use Rattle.basis_routes.proofs.DecidedRows.{answers_decide}
use Rattle.hopf_ops.specs.Laws.{NegationLaw}
use Rattle.hopf_ops.specs.ReadingOperations.{negative}
use Rattle.hopf_ops.proofs.ConvertedOperands.{den-positive}
use Rattle.hopf_ops.proofs.MultiplesExist.{negation_exists}

-- each value has exactly one negation
pub negations_decide : NegationLaw
negations_decide a ha =
    answers_decide a.bases (negative (reading_of a)) (record { positive = mul-pos {m = 1} (omega arith) (den-positive a ha); exists = negation_exists a ha; kinds = refl })
