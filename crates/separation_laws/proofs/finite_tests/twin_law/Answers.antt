use Rattle.separation_laws.proofs.ProvedTests.{twins}
use Rattle.separation_laws.proofs.finite_tests.twin_law.Goals as goal

pub returns : goal.returns
returns c = twins
