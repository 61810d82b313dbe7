use Rattle.std.proofs.Common.{◌≡◌}
use Rattle.combo_speed.proofs.scattered_terms.Given as goal

abbrev pub invariant-loop-step : goal.invariant-loop-step
invariant-loop-step l = (l.combo.rank ≡ 1) × (l.combo.den ≡ 1)
