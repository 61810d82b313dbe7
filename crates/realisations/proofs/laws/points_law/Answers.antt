use Rattle.realisations.proofs.PointsOfReadings.{at_points}
use Rattle.realisations.proofs.laws.points_law.Goals as goal

pub returns : goal.returns
returns c = at_points
