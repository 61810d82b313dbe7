use Rattle.index_spellings.proofs.ElementTokens.{element_tokens}
use Rattle.index_spellings.proofs.laws.element_text_law.Goals as goal

pub returns : goal.returns
returns c = element_tokens
