use Rattle.session_evaluation.proofs.Comparisons.{equality_meant}
use Rattle.session_evaluation.proofs.Meanings.{meant}
use Rattle.session_evaluation.proofs.OneMeaning.{means_once, same_meaning}
use Rattle.session_evaluation.proofs.laws.meaning_law.Goals as goal

pub returns-clause-one : goal.returns-clause-one
returns-clause-one c = means_once

pub returns-clause-some : goal.returns-clause-some
returns-clause-some c = meant

pub returns-clause-same : goal.returns-clause-same
returns-clause-same c = same_meaning

pub returns-clause-equality : goal.returns-clause-equality
returns-clause-equality c = equality_meant
