use Rattle.session_reading.proofs.OneAnswer.{answer_exists, answer_once}
use Rattle.session_reading.proofs.laws.parse_law.Goals as goal

pub returns : goal.returns
returns c text = let (answer, is) = answer_exists text in (answer, is, λ other is'. answer_once text other answer is' is)
