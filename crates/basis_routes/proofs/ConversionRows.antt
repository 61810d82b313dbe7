-- The row of a conversion that is asked for: it allows exactly one answer, whose value reads as the operand.
use Rattle.std.proofs.Common.{◌≡◌, ℕ, ◌<◌, ◌≤◌, IsTrue, List, [], ◌∷◌, ◌++◌, length, map, get_or, Ok, inl, inr, sym, ◌∙◌, ap, subst, arith}
use Rattle.std.specs.Prelude.{All}
use Rattle.std.proofs.lemmas.List.Elements.{All-head, All-nil, All-cons, All-append}
use Rattle.basis_names.specs.declared.bases.BasisId.{BasisId}
use Rattle.built_bases.specs.Table.{is_built}
use Rattle.basis_names.specs.Bases.{algebra_of}
use Rattle.realisations.specs.Bases.{kind_of, lies_in}
use Rattle.hopf_laws.specs.Bases.{least_limit}
use Rattle.hopf_laws.specs.Values.{Expansion, IsValue, Expands, reading_of, degree_of_value}
use Rattle.basis_routes.specs.declared.checks.Check.{Check}
use Rattle.basis_routes.specs.declared.checks.Check.TheVariants.{SameRank, HasComponent, Routed, Contained, DegreeWithin}
use Rattle.basis_routes.specs.declared.place.Place.{Place}
use Rattle.basis_routes.specs.declared.place.Place.TheVariants.{Only, At}
use Rattle.basis_routes.specs.Checks.{Passes, IsCheck}
use Rattle.basis_routes.specs.Conversions.{linear_checks, limit_between, conversion_checks, BroughtTo, ConversionRow}
use Rattle.basis_routes.specs.Laws.{ConversionLaw}
use Rattle.basis_routes.specs.Lists.{replaced}
use Rattle.basis_routes.specs.Places.{position_of, component_checks}
use Rattle.basis_routes.specs.Rows.{Answer, Answers}
use Rattle.basis_routes.proofs.ChangedValues.{can_convert}
use Rattle.basis_routes.proofs.ContainedBases.{lies_kind}
use Rattle.basis_routes.proofs.ConversionsExist.{linear_checks_are, brought_some, NotAbove}
use Rattle.basis_routes.proofs.ConvertedRows.{brought_expands}
use Rattle.basis_routes.proofs.OnceRows.{checked_once, brought_once}
use Rattle.basis_routes.proofs.ReplacedBases.{HasAt, has_at, get_or-at, replaced-at, kinds-replaced}
use Rattle.basis_routes.proofs.SomeRows.{checked_some}
use Rattle.basis_routes.proofs.ValueRows.{checked_value}

-- the checks that a component is there can be made
pub component_checks_are : (at : Place) (rank : ℕ) → All IsCheck (component_checks at rank)
component_checks_are Only rank = All-cons IsCheck (SameRank rank 1) [] tt (All-nil IsCheck)
component_checks_are (At k) rank = All-cons IsCheck (HasComponent k rank) [] tt (All-nil IsCheck)

-- where they pass it is there
pub component_within : (at : Place) (rank : ℕ) → All Passes (component_checks at rank) → position_of at < rank
component_within Only rank pass = let one : rank ≡ 1 = All-head Passes (SameRank rank 1) [] pass in omega (arith, one)
component_within (At k) rank pass = let both = All-head Passes (HasComponent k rank) [] pass in omega (arith, both.0, both.1)

-- the checks of a conversion that is asked for can be made
conversion_checks_are : (n : ℕ) (new : BasisId) (v : Expansion) → IsValue v → All IsCheck (conversion_checks n new v)
conversion_checks_are n new v is =
    let old = get_or v.bases n new in
    let limit = limit_between old new (replaced n (new ∷ []) v.bases) in
    let last : List Check = Contained old new ∷ [] in
    All-cons IsCheck (Routed old new) (DegreeWithin (degree_of_value v) limit ∷ linear_checks v ++ last) tt
    (All-cons IsCheck (DegreeWithin (degree_of_value v) limit) (linear_checks v ++ last) tt
    (All-append IsCheck (linear_checks v) last (linear_checks_are v is) (All-cons IsCheck (Contained old new) [] tt (All-nil IsCheck))))

module _ (at : Place) (new : BasisId) (v : Expansion) (is : IsValue v) where
  abbrev checks : List Check
  checks = conversion_checks (position_of at) new v

  -- the component that is there
  at_place : All Passes (component_checks at (length v.bases)) → HasAt (position_of at) v.bases
  at_place pass = has_at (position_of at) v.bases (component_within at (length v.bases) pass)

  -- its bases once it is converted
  changed_at : (h : HasAt (position_of at) v.bases) → replaced (position_of at) (new ∷ []) v.bases ≡ h.before ++ new ∷ h.after
  changed_at h = ap (λ bs. replaced (position_of at) (new ∷ []) bs) h.is ∙ replaced-at (position_of at) h.before (new ∷ []) h.after h.basis h.long

  basis_at : (h : HasAt (position_of at) v.bases) → get_or v.bases (position_of at) new ≡ h.basis
  basis_at h = ap (λ bs. get_or bs (position_of at) new) h.is ∙ get_or-at (position_of at) h.before h.after h.basis new h.long

  pub conversion_once : (r s : Answer) → ConversionRow at new v r → ConversionRow at new v s → r ≡ s
  conversion_once = checked_once (component_checks at (length v.bases)) (BroughtTo checks (position_of at) new v) (brought_once checks (position_of at) new v is)

  pub conversion_some : IsTrue (is_built new) → (answer : Answer) × ConversionRow at new v answer
  conversion_some built =
      let row = checked_some (component_checks at (length v.bases)) (BroughtTo checks (position_of at) new v) (NotAbove v) (component_checks_are at (length v.bases))
      (λ pass.
      let h = at_place pass in
      brought_some h.before h.after h.basis new v is h.is checks (position_of at) h.long (conversion_checks_are (position_of at) new v is)
      (λ passes.
      let can = can_convert (position_of at) new v passes in (
        built,
        subst (λ (b : BasisId). IsTrue (lies_in (algebra_of b) (algebra_of new))) (basis_at h) can.inside,
        subst (λ bs. degree_of_value v ≤ least_limit bs) (changed_at h) can.within,
        can.room,
      ))) in
      (row.answer, row.allowed)

  pub conversion_reads : (w : Expansion) → ConversionRow at new v (Ok w) → Expands (replaced (position_of at) (new ∷ []) v.bases) (reading_of v) w
  conversion_reads w row =
      let (pass, brought) = checked_value (component_checks at (length v.bases)) (BroughtTo checks (position_of at) new v) w row in
      let h = at_place pass in
      subst (λ bs. Expands bs (reading_of v) w) (sym (changed_at h)) (brought_expands checks (position_of at) new v w h.before h.after h.basis is h.is h.long brought)

  -- the new basis is of the kind of the old one
  kind_kept : (w : Expansion) → BroughtTo checks (position_of at) new v (Ok w) → kind_of (get_or v.bases (position_of at) new) ≡ kind_of new
  kind_kept w (inl (same, here)) = ap kind_of same
  kind_kept w (inr (other, row)) =
      let pass = (checked_value checks (Answers (replaced (position_of at) (new ∷ []) v.bases) (reading_of v)) w row).0 in
      lies_kind (get_or v.bases (position_of at) new) new (can_convert (position_of at) new v pass).inside

  pub conversion_kinds : (w : Expansion) → ConversionRow at new v (Ok w) → map kind_of (replaced (position_of at) (new ∷ []) v.bases) ≡ map kind_of v.bases
  conversion_kinds w row =
      let (pass, brought) = checked_value (component_checks at (length v.bases)) (BroughtTo checks (position_of at) new v) w row in
      let h = at_place pass in
      ap (λ bs. map kind_of bs) (changed_at h) ∙ kinds-replaced h.before h.after h.basis new (sym (ap kind_of (basis_at h)) ∙ kind_kept w brought) ∙ ap (λ bs. map kind_of bs) (sym h.is)

-- the law of conversions
pub conversions_decide : ConversionLaw
conversions_decide at new v is built = record {
  once = conversion_once at new v is;
  some = conversion_some at new v is built;
  reads = conversion_reads at new v is;
  kinds = conversion_kinds at new v is;
}
