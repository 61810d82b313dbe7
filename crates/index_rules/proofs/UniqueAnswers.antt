-- A rule has at most one answer.
use Rattle.std.proofs.Common.{sym, subst}
use Rattle.basis_representatives.proofs.Uniqueness.{unique_reading}
use Rattle.index_rules.specs.Laws.{SameAnswerLaw}
use Rattle.realisations.specs.Readings.{leaf, AgreeAt}

pub same_answers : SameAnswerLaw
same_answers bases n reading c d positive hc hd =
    unique_reading bases reading c d hc.canonical hd.canonical hc.rank hd.rank positive hc.indices hd.indices
    (λ ps points. subst (λ m. AgreeAt (leaf bases m c.terms) reading ps) (sym hc.whole) (hc.reads ps points))
    (λ ps points. subst (λ m. AgreeAt (leaf bases m d.terms) reading ps) (sym hd.whole) (hd.reads ps points))
