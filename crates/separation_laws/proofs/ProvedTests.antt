-- The laws of finite tests.
use Rattle.std.proofs.Common.{arith}
use Rattle.realisations.specs.Readings.{leaf}
use Rattle.separation_laws.specs.FiniteTestLaws.{FirstWordLaw, PartLaw, ReturnLaw, ScanLaw, TwinLaw}
use Rattle.separation_laws.proofs.ClassBases.{classes_of, indices_of}
use Rattle.separation_laws.proofs.ClassTests.{no_partner_in_class, partner_in_class}
use Rattle.separation_laws.proofs.CoarserClasses.{refines_from}
use Rattle.separation_laws.proofs.DownAndUp.{alike_from_return, down_conversion, return_from_alike}
use Rattle.separation_laws.proofs.FiniteTests.{alike_from_one_part, one_part_from_alike, one_part_from_terms, terms_from_one_part}
use Rattle.separation_laws.proofs.FirstPairs.{indices_from_pair, pair_from_indices}
use Rattle.separation_laws.proofs.FirstWords.{first_words_exist}
use Rattle.separation_laws.proofs.ListedWords.{packed_words_listed}
use Rattle.separation_laws.proofs.PartedWords.{differ_by_parts, parted_by_parts}
use Rattle.separation_laws.proofs.ProvedLaws.{alike_from_none, over_from}
use Rattle.separation_laws.proofs.Representatives.{alike_from_representatives, representatives_from_alike}
use Rattle.separation_laws.proofs.Scans.{no_pair_scanned, pair_scanned}
use Rattle.separation_laws.proofs.SeparatingPairs.{no_pair}
use Rattle.separation_laws.proofs.TermTwins.{one_part_from_twins, twins_from_one_part}

pub parts : PartLaw
parts = record {
  differ = λ fine is bases n d den ts h u v. differ_by_parts fine (indices_of fine is) n bases den d ts h.component.there h.basis h.terms (over_from bases n d ts h.component) u v;
  partner = λ fine target finer bases n d den ts h u.
      parted_by_parts fine (indices_of fine finer.classes) n bases den d ts h.component.there h.basis h.terms (over_from bases n d ts h.component)
      target (classes_of target finer.words) (refines_from fine target finer) u;
  no_pair = λ fine target finer bases n d den ts h.
      let fine_classes = indices_of fine finer.classes in
      let classes = classes_of target finer.words in
      let refines = refines_from fine target finer in
      let over = over_from bases n d ts h.component in
      let lt = h.component.there in (
        λ none.
            terms_from_one_part fine fine_classes n bases den ts lt h.basis h.terms over.indices target classes refines
            (one_part_from_alike fine fine_classes n bases den ts lt h.basis h.terms over.indices target classes refines
            (alike_from_none target finer.words bases n d den ts h.component none)),
        λ test.
            no_pair (leaf bases den ts) n target
            (alike_from_one_part fine fine_classes n bases den ts lt h.basis h.terms over.indices target classes refines
            (one_part_from_terms fine fine_classes n bases den ts lt h.basis h.terms over.indices target classes refines test)),
      );
}

pub twins : TwinLaw
twins = record {
  no_pair = λ fine target finer bases n d den ts h.
      let fine_classes = indices_of fine finer.classes in
      let classes = classes_of target finer.words in
      let refines = refines_from fine target finer in
      let over = over_from bases n d ts h.component in
      let lt = h.component.there in (
        λ none.
            twins_from_one_part fine fine_classes n bases den ts lt h.basis h.terms over.indices target classes refines
            (one_part_from_alike fine fine_classes n bases den ts lt h.basis h.terms over.indices target classes refines
            (alike_from_none target finer.words bases n d den ts h.component none)),
        λ test.
            no_pair (leaf bases den ts) n target
            (alike_from_one_part fine fine_classes n bases den ts lt h.basis h.terms over.indices target classes refines
            (one_part_from_twins fine fine_classes n bases den ts lt h.basis h.terms over.indices target classes refines test)),
      );
  no_partner = λ fine target finer bases n d den ts h.
      no_partner_in_class fine (indices_of fine finer.classes) target (classes_of target finer.words) (refines_from fine target finer) n bases den d ts h.component.there h.basis h.terms
      (over_from bases n d ts h.component);
  partner = λ fine target finer bases n d den ts h.
      partner_in_class fine (indices_of fine finer.classes) target (classes_of target finer.words) (refines_from fine target finer) n bases den d ts h.component.there h.basis h.terms
      (over_from bases n d ts h.component);
}

pub returning : ReturnLaw
returning = record {
  no_pair = λ fine target finer bases n d c down up h keeps back.
      let fine_classes = indices_of fine finer.classes in
      let classes = classes_of target finer.words in
      let refines = refines_from fine target finer in
      let over = over_from bases n d c.terms h.component in
      let lt = h.component.there in (
        λ none.
            return_from_alike fine fine_classes target classes refines n bases lt h.basis d c over h.canonical down keeps h.rank up back
            (alike_from_none target finer.words bases n d c.den c.terms h.component none),
        λ same. no_pair (leaf bases c.den c.terms) n target (alike_from_return fine fine_classes target classes refines n bases lt h.basis d c over h.canonical down keeps h.rank up back same),
      );
  down = λ fine target finer bases n d c down h keeps none.
      down_conversion fine (indices_of fine finer.classes) target (classes_of target finer.words) (refines_from fine target finer) n bases h.component.there h.basis d c
      (over_from bases n d c.terms h.component) h.canonical down keeps (alike_from_none target finer.words bases n d c.den c.terms h.component none);
}

pub first_words : FirstWordLaw
first_words = record {
  exist = λ fine is. first_words_exist fine (indices_of fine is);
  pair = λ fine first target finer firsts bases n d den ts h.
      pair_from_indices fine (indices_of fine finer.classes) first firsts target (classes_of target finer.words) (refines_from fine target finer) n bases den d ts h.component.there h.basis h.terms
      (over_from bases n d ts h.component);
  indices = λ fine first target finer firsts bases n d den ts h.
      indices_from_pair fine (indices_of fine finer.classes) first firsts target (classes_of target finer.words) (refines_from fine target finer) n bases den d ts h.component.there h.basis h.terms
      (over_from bases n d ts h.component);
}

pub scans : ScanLaw
scans = record {
  words = λ d listing lists. packed_words_listed d listing lists d (omega arith);
  none = λ target words bases n d den ts h ws are none. no_pair_scanned target (classes_of target words) n bases h.there h.kind den d ts (over_from bases n d ts h) ws are none;
  pair = λ target words bases n d den ts h ws are. pair_scanned target (classes_of target words) n bases h.there h.kind den d ts (over_from bases n d ts h) ws are;
  representatives = λ target words bases n d den ts h. (
    λ none. representatives_from_alike target (classes_of target words) n bases h.there h.kind den d ts (over_from bases n d ts h) (alike_from_none target words bases n d den ts h none),
    λ like. no_pair (leaf bases den ts) n target (alike_from_representatives target (classes_of target words) n bases h.there h.kind den d ts (over_from bases n d ts h) like),
  );
}
