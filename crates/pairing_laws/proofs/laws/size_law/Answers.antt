use Rattle.pairing_laws.proofs.Sizes.{sizes_past}
use Rattle.pairing_laws.proofs.laws.size_law.Goals as goal

pub returns : goal.returns
returns c = sizes_past
