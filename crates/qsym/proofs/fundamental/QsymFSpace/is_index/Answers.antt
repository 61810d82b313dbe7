use Rattle.qsym.proofs.Indices.{fundamental_within}
use Rattle.qsym.proofs.fundamental.QsymFSpace.is_index.Goals as goal

pub returns : goal.returns
returns c = rw (c.limit.ensures, c.sum.ensures.value) (fundamental_within c.args.code.now c.sum.ensures.is_code)
