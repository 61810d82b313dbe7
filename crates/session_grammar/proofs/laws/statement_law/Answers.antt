use Rattle.session_grammar.proofs.OneReading.{parsed_exists, parsed_once}
use Rattle.session_grammar.proofs.laws.statement_law.Goals as goal

pub returns : goal.returns
returns c ls = let (answer, is) = parsed_exists ls in (answer, is, λ other is'. parsed_once ls other answer is' is)
