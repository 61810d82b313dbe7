use Rattle.change_laws.proofs.Lifts.{component_readings}
use Rattle.change_laws.proofs.laws.component_readings_law.Goals as goal

pub returns : goal.returns
returns c = component_readings
