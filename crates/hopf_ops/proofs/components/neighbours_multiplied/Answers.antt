use Rattle.std.proofs.lemmas.Result.{err_from_is_err_and}
use Rattle.hopf_ops.proofs.components.neighbours_multiplied.Goals as goal

pub returns-in_err-bases : goal.returns-in_err-bases
returns-in_err-bases c =
    let p = err_from_is_err_and c.from_residual.result c.from_residual.ensures.1 in
    rw (p.1, p.2) c.in_err-bases.ensures.refusal
