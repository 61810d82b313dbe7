use Rattle.session_reading.specs.Sights.{AreFound}
use Rattle.session_reading.proofs.sights.Sights.of.Given as goal

abbrev pub invariant-loop-place : goal.invariant-loop-place
invariant-loop-place l = AreFound l.lexemes l.place l.sights
