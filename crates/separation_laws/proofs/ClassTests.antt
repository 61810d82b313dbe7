-- Whether a word has a partner, by the twins of the terms of its coarse class.
use Rattle.std.proofs.Common.{◌≡◌, ℕ, ◌<◌, List, length, set, sym, ◌∙◌, subst}
use Rattle.std.proofs.Math.IntN.{ℤ}
use Rattle.basis_names.specs.declared.bases.AlgebraId.{AlgebraId}
use Rattle.basis_names.specs.declared.bases.BasisId.{BasisId}
use Rattle.realisations.specs.Bases.{representative}
use Rattle.realisations.specs.Codes.{Code, Key}
use Rattle.realisations.specs.Combinations.{AreTerms}
use Rattle.realisations.specs.Indices.{IsIndex}
use Rattle.realisations.specs.Points.{Point}
use Rattle.realisations.specs.Readings.{Terms, leaf}
use Rattle.realisations.specs.Standardisation.{pack}
use Rattle.linear_combos.specs.Keys.{code_at}
use Rattle.separation_laws.specs.Classes.{IsClassBasis, class_basis, class_for, index_of_word}
use Rattle.separation_laws.specs.Conversions.{basis_at}
use Rattle.separation_laws.specs.FiniteTests.{HasTerm, IsInClassOf, IsOtherPart, TwinsInClass, coarse_class}
use Rattle.separation_laws.specs.Separation.{IsPartner}
use Rattle.separation_laws.proofs.ClassBases.{is_packed-pack}
use Rattle.separation_laws.proofs.Classes.{class-pack}
use Rattle.separation_laws.proofs.CoarserClasses.{Refines}
use Rattle.separation_laws.proofs.DecidedReadings.{AreTermsOver}
use Rattle.separation_laws.proofs.EachTerm.{index_at}
use Rattle.separation_laws.proofs.PartedWords.{coarse_same, differ_by_parts, partner_from_other}
use Rattle.separation_laws.proofs.Representatives.{each_parted}
use Rattle.separation_laws.proofs.TermTwins.{indices_of_term, one_part_in_class, twin_from_part}

module _ (fine : BasisId) (fine_classes : IsClassBasis fine (index_of_word fine)) (target : AlgebraId) (classes : IsClassBasis (class_basis target) (class_for target)) (refines : Refines fine target)
    (n : ℕ) (bases : List BasisId) (den d : ℕ) (ts : Terms) (lt : n < length bases) (is : basis_at bases n ≡ fine) (terms : AreTerms (length bases) ts) (over : AreTermsOver bases d ts) where
  -- where the terms of its class have their twins, a word has no partner
  pub no_partner_in_class : (u : Point) → TwinsInClass n fine target ts (class_for target u) → (v : Point) → IsPartner (leaf bases den ts) n target u v → ⊥
  no_partner_in_class u test v partner =
      let same = coarse_same fine fine_classes n bases den d ts lt is terms over target classes refines in
      (differ_by_parts fine fine_classes n bases den d ts lt is terms over u v).0 partner.differs
      (one_part_in_class fine fine_classes n bases den ts lt is terms over.indices target classes refines (class_for target u) test
      (index_of_word fine u) (index_of_word fine v) (fine_classes.index u) (fine_classes.index v) (same u) (same v ∙ partner.same_class))

  -- where a term of its class lacks a twin, a word has a partner
  pub partner_in_class : (u : Point) (num : ℤ) (key : Key) → HasTerm ts num key → coarse_class target fine (code_at key n) ≡ class_for target u
      → (e : Code) → IsInClassOf target fine (code_at key n) e → (HasTerm ts num (set key n e) → ⊥) → (v : Point) × IsPartner (leaf bases den ts) n target u v
  partner_in_class u num key has same e in_class lacks =
      let c = code_at key n in
      let ik = indices_of_term n bases ts lt terms over.indices num key has in
      let ic : IsIndex fine c = subst (λ basis. IsIndex basis c) is (index_at n bases key lt ik) in
      let x = pack (representative fine c) in
      let y = pack (representative fine e) in
      let back = λ (code : Code) (h : IsIndex fine code). class-pack fine (index_of_word fine) fine_classes (representative fine code) ∙ fine_classes.class code h in
      let other : IsOtherPart n fine target ts c e = record { in_class = in_class; differs = λ parts. lacks (twin_from_part n bases ts lt terms over.indices num key has e parts) } in
      let partner : IsPartner (leaf bases den ts) n target x y =
      partner_from_other fine fine_classes n bases den d ts lt is terms over target classes refines c e other x y (back c ic) (back e in_class.index) (is_packed-pack (representative fine e)) in
      let class_x : class_for target x ≡ class_for target u = class-pack (class_basis target) (class_for target) classes (representative fine c) ∙ same in
      each_parted (leaf bases den ts) n target x y u (is_packed-pack (representative fine c)) partner (sym class_x)
