use Rattle.std.proofs.Common.{take}
use Rattle.linear_combos.specs.Merges.{IsCommon}
use Rattle.linear_combos.proofs.unreduced.common_divisor.Given as goal

abbrev pub invariant-loop-term : goal.invariant-loop-term
invariant-loop-term l = IsCommon l.den (take l.term-index l.terms) l.common
