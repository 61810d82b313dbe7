use Rattle.hopf_io.proofs.Interrupted.{Keeps-Appends}
use Rattle.hopf_io.proofs.standard.write_uninterrupted.Goals as goal

pub returns-in-Ok-clause-bytes : goal.returns-in-Ok-clause-bytes
returns-in-Ok-clause-bytes g c = Keeps-Appends _ _ _ _ c.loop.invariant c.in-Ok.ensures.bytes
