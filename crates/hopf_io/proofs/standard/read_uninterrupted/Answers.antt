use Rattle.hopf_io.proofs.Interrupted.{Keeps-Consumes}
use Rattle.hopf_io.proofs.standard.read_uninterrupted.Goals as goal

pub returns-in-Ok-clause-bytes : goal.returns-in-Ok-clause-bytes
returns-in-Ok-clause-bytes g c =
    let read = c.in-Ok.ensures.bytes in
    (Keeps-Consumes _ _ _ _ c.loop.invariant read.0, read.1)
