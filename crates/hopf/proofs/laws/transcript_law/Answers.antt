use Rattle.hopf.proofs.Existence.{script_exists}
use Rattle.hopf.proofs.OneTranscript.{script_once}
use Rattle.hopf.proofs.laws.transcript_law.Goals as goal

pub returns : goal.returns
returns c names bytes are =
    let script = script_exists names bytes are in
    (script.0, script.1, script.2, λ others left' others_are. let same = script_once names bytes others script.0 left' script.1 are others_are script.2 in (same.0, same.1))
