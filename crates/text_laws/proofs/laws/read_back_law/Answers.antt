use Rattle.text_laws.proofs.ReadBack.{read_back}
use Rattle.text_laws.proofs.laws.read_back_law.Goals as goal

pub returns : goal.returns
returns c = read_back
