use Rattle.separation_laws.proofs.ProvedTests.{parts}
use Rattle.separation_laws.proofs.finite_tests.part_law.Goals as goal

pub returns : goal.returns
returns c = parts
