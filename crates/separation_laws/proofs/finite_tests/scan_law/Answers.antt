use Rattle.separation_laws.proofs.ProvedTests.{scans}
use Rattle.separation_laws.proofs.finite_tests.scan_law.Goals as goal

pub returns : goal.returns
returns c = scans
