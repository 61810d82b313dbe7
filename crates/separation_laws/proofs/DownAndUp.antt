-- The finite test by a way down and up again: the kept terms, brought back, are the combination exactly where words of one class read alike.
use Rattle.std.proofs.Common.{◌≡◌, ℕ, ◌<◌, List, length, map, set, refl, sym, ◌∙◌, ap, subst}
use Rattle.basis_names.specs.declared.bases.AlgebraId.{AlgebraId}
use Rattle.basis_names.specs.declared.bases.BasisId.{BasisId}
use Rattle.realisations.specs.Bases.{kind_of}
use Rattle.realisations.specs.Combinations.{Combination, IsCanonical, norm_of}
use Rattle.realisations.specs.Indices.{AreIndices}
use Rattle.realisations.specs.Lists.{same_list}
use Rattle.realisations.specs.Points.{ArePoints, word}
use Rattle.realisations.specs.Readings.{AgreeAt, leaf}
use Rattle.realisations.proofs.Agreement.{agree_trans}
use Rattle.change_laws.proofs.CompositionsByBits.{alike}
use Rattle.separation_laws.specs.Classes.{IsClassBasis, class_basis, class_for, index_of_word}
use Rattle.separation_laws.specs.Conversions.{Expresses, IsConversion, basis_at}
use Rattle.separation_laws.specs.FiniteTests.{kept}
use Rattle.separation_laws.proofs.Alike.{ClassesReadAlike, alike_from_terms}
use Rattle.separation_laws.proofs.CoarserClasses.{Refines}
use Rattle.separation_laws.proofs.Components.{kinds-set}
use Rattle.separation_laws.proofs.ConversionsExist.{conversion_of_terms}
use Rattle.separation_laws.proofs.DecidedReadings.{AreTermsOver}
use Rattle.separation_laws.proofs.EachTerm.{each_key_at}
use Rattle.separation_laws.proofs.Equality.{routes, same_from_agreement}
use Rattle.separation_laws.proofs.Kept.{degrees-kept, indices-kept, kept_reads, norm-kept}

module _ (fine : BasisId) (fine_classes : IsClassBasis fine (index_of_word fine)) (target : AlgebraId) (classes : IsClassBasis (class_basis target) (class_for target)) (refines : Refines fine target)
    (n : ℕ) (bases : List BasisId) (lt : n < length bases) (is : basis_at bases n ≡ fine) (d : ℕ) (c : Combination) (over : AreTermsOver bases d c.terms) (canonical : IsCanonical c.rank c.den c.terms)
    (down : Combination) (keeps : Expresses (set bases n (class_basis target)) (leaf (set bases n (class_basis target)) c.den (kept n fine target c.terms)) down) where
  kind : kind_of (basis_at bases n) ≡ word
  kind = ap kind_of is ∙ fine_classes.kind

  kinds : map kind_of (set bases n (class_basis target)) ≡ map kind_of bases
  kinds = kinds-set n bases (class_basis target) (kind ∙ sym classes.kind)

  -- where words of one class read alike, what the kept terms make expresses the combination
  down_expresses : ClassesReadAlike (leaf bases c.den c.terms) n target → Expresses (set bases n (class_basis target)) (leaf bases c.den c.terms) down
  down_expresses alike =
      let bases' = set bases n (class_basis target) in
      let us = kept n fine target c.terms in
      record {
        canonical = keeps.canonical;
        rank = keeps.rank;
        over = record {
          indices = keeps.over.indices;
          reads = λ ps points.
              agree_trans (leaf bases' down.den down.terms) (leaf bases' c.den us) (leaf bases c.den c.terms) ps canonical.lowest.positive (keeps.over.reads ps points)
              (kept_reads fine fine_classes target classes refines n bases lt is c.den c.terms over.indices alike ps points);
        };
      }

  -- of no larger degree, norm and denominator
  pub down_conversion : ClassesReadAlike (leaf bases c.den c.terms) n target → IsConversion (set bases n (class_basis target)) d (norm_of c.terms) c.den (leaf bases c.den c.terms) down
  down_conversion alike =
      let bases' = set bases n (class_basis target) in
      let a = leaf bases c.den c.terms in
      let made = conversion_of_terms bases' a c.den d (norm_of c.terms) (kept n fine target c.terms)
      (indices-kept fine fine_classes target classes refines n bases lt is c.den c.terms over.indices)
      (degrees-kept fine fine_classes target classes refines n bases lt is c.den c.terms over.indices d over.degrees)
      (norm-kept fine fine_classes target classes refines n c.terms) canonical.ordered.small canonical.lowest.positive canonical.lowest.small
      (kept_reads fine fine_classes target classes refines n bases lt is c.den c.terms over.indices alike) in
      routes.within bases' d (norm_of c.terms) c.den a made.0 down canonical.lowest.positive made.1 (down_expresses alike)

  module _ (rank : c.rank ≡ length bases) (up : Combination) (back : Expresses bases (leaf (set bases n (class_basis target)) down.den down.terms) up) where
    -- where the way down and up again ends where it began, words of one class read alike
    pub alike_from_return : up ≡ c → ClassesReadAlike (leaf bases c.den c.terms) n target
    alike_from_return same =
        alike_from_terms n bases c.den c.terms lt over.indices kind (class_basis target) classes.kind down.den down.terms keeps.canonical.lowest.positive
        (record {
          indices = keeps.over.indices;
          reads = λ ps points.
              sym (subst (λ (x : Combination). AgreeAt (leaf bases x.den x.terms) (leaf (set bases n (class_basis target)) down.den down.terms) ps) same
              (back.over.reads ps (subst (λ ks. ArePoints ks ps) kinds points)));
        }) target (λ code u v class. classes.occurs_in code u ∙ ap (λ x. same_list x code) class ∙ sym (classes.occurs_in code v))

    -- and the other way round
    pub return_from_alike : ClassesReadAlike (leaf bases c.den c.terms) n target → up ≡ c
    return_from_alike alike =
        let a = leaf bases c.den c.terms in
        same_from_agreement bases a up c canonical.lowest.positive
        (routes.after (set bases n (class_basis target)) bases a down up kinds (down_expresses alike) back)
        (record {
          canonical = canonical;
          rank = rank;
          over = record { indices = each_key_at (AreIndices bases) c.terms over.indices; reads = λ ps points. refl };
        })
