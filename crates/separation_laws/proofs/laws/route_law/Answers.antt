use Rattle.separation_laws.proofs.Equality.{routes}
use Rattle.separation_laws.proofs.laws.route_law.Goals as goal

pub returns : goal.returns
returns c = routes
