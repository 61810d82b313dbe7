use Rattle.hopf.proofs.Sessions.{pending_same}
use Rattle.hopf.proofs.laws.pending_law.Goals as goal

pub returns : goal.returns
returns c = pending_same c.args.session.now
