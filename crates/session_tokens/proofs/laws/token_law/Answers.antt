use Rattle.session_tokens.proofs.TokenSteps.{tokens_once}
use Rattle.session_tokens.proofs.TokensExist.{tokens_exist}
use Rattle.session_tokens.proofs.laws.token_law.Goals as goal

pub returns : goal.returns
returns c text = let (ts, are) = tokens_exist 1 text in (ts, are, λ us are'. tokens_once are' are)
