use Rattle.std.proofs.Common.{◌≡◌, ◌≤◌, drop}
use Rattle.session_reading.specs.Faults.{opens_past_64}
use Rattle.session_reading.proofs.depth.is_too_deep.Given as goal

abbrev pub invariant-loop-lexeme : goal.invariant-loop-lexeme
invariant-loop-lexeme l = (l.depth ≤ 64) × (opens_past_64 0 l.lexemes ≡ opens_past_64 l.depth (drop l.lexeme-index l.lexemes))
