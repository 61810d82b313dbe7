use Rattle.std.proofs.Common.{arith}
use Rattle.index_rules.proofs.SignedTerms.{sign-even, sign-odd}
use Rattle.index_rules.proofs.sums.sign.Goals as goal

pub returns-then-k-eq0 : goal.returns-then-k-eq0
returns-then-k-eq0 c = sign-even c.args.k (omega (arith, c.if-k-eq0.true))

pub returns-else-k-eq0 : goal.returns-else-k-eq0
returns-else-k-eq0 c = sign-odd c.args.k (omega (arith, c.if-k-eq0.false))
