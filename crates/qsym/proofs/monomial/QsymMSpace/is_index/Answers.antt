use Rattle.qsym.proofs.Indices.{monomial_within}
use Rattle.qsym.proofs.monomial.QsymMSpace.is_index.Goals as goal

pub returns : goal.returns
returns c = rw (c.limit.ensures, c.sum.ensures.value) (monomial_within c.args.code.now c.sum.ensures.is_code)
