-- Readings agree at all points exactly where their combinations over one list of bases are the same; so conversions one after another end alike.
use Rattle.std.proofs.Common.{◌≡◌, ◌≤◌, List, sym, subst}
use Rattle.basis_names.specs.declared.bases.BasisId.{BasisId}
use Rattle.realisations.specs.Combinations.{Combination}
use Rattle.realisations.specs.Points.{ArePoints}
use Rattle.realisations.specs.Readings.{AgreeAt, Reading, denominator, leaf}
use Rattle.realisations.proofs.Agreement.{agree_trans}
use Rattle.basis_representatives.proofs.Uniqueness.{unique_reading}
use Rattle.separation_laws.specs.Conversions.{Expresses, IsConversion}
use Rattle.separation_laws.specs.Laws.{EqualityLaw, RouteLaw}

-- combinations over the same bases that agree at all points are the same
pub same_from_agreement : (bases : List BasisId) (a : Reading) (c d : Combination) → 1 ≤ denominator a → Expresses bases a c → Expresses bases a d → c ≡ d
same_from_agreement bases a c d positive hc hd =
    unique_reading bases a c d hc.canonical hd.canonical hc.rank hd.rank positive hc.over.indices hd.over.indices hc.over.reads hd.over.reads

-- readings agree at all points exactly where the combinations that express them are the same
pub equality : EqualityLaw
equality bases a b c d pa pb hc hd =
    let fd = leaf bases d.den d.terms in (
      λ same ps points.
          let there : AgreeAt fd a ps = subst (λ (e : Combination). AgreeAt (leaf bases e.den e.terms) a ps) same (hc.over.reads ps points) in
          agree_trans a fd b ps hd.canonical.lowest.positive (sym there) (hd.over.reads ps points),
      λ agree. same_from_agreement bases b c d pb
          (record {
            canonical = hc.canonical;
            rank = hc.rank;
            over = record {
              indices = hc.over.indices;
              reads = λ ps points. agree_trans (leaf bases c.den c.terms) a b ps pa (hc.over.reads ps points) (agree ps points);
            };
          }) hd,
    )

-- conversions one after another
pub routes : RouteLaw
routes = record {
  after = λ bases bases' a c d kinds hc hd. record {
    canonical = hd.canonical;
    rank = hd.rank;
    over = record {
      indices = hd.over.indices;
      reads = λ ps points.
          agree_trans (leaf bases' d.den d.terms) (leaf bases c.den c.terms) a ps hc.canonical.lowest.positive (hd.over.reads ps points)
          (hc.over.reads ps (subst (λ ks. ArePoints ks ps) (sym kinds) points));
    };
  };
  same = same_from_agreement;
  within = λ bases d m e a c c' positive h hc'. subst (λ (x : Combination). IsConversion bases d m e a x) (same_from_agreement bases a c c' positive h.expresses hc') h;
}
