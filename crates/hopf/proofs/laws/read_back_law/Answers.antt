use Rattle.session_evaluation.proofs.Meanings.{meant}
use Rattle.text_laws.proofs.ReadBack.{read_back}
use Rattle.text_laws.specs.ReadBack.{told_value}
use Rattle.hopf.specs.Outcomes.{printed, read}
use Rattle.hopf.proofs.laws.read_back_law.Goals as goal

pub returns : goal.returns
returns c names v text are is text_is short =
    let back = read_back names v text is text_is in
    read short back.answer (printed back.evaluates (meant names back.expression (told_value v) are back.evaluates) back.same_text)
