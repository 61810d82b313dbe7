use Rattle.separation_laws.proofs.ProvedTests.{returning}
use Rattle.separation_laws.proofs.finite_tests.return_law.Goals as goal

pub returns : goal.returns
returns c = returning
