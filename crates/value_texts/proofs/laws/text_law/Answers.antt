use Rattle.value_texts.proofs.OneText.{text_exists, text_once}
use Rattle.value_texts.proofs.laws.text_law.Goals as goal

pub returns : goal.returns
returns c v is = let (text, has) = text_exists v is in (text, has, λ other has'. text_once v other text is.canonical.lowest.positive has' has)
