-- The coproduct of a component of a value, the antipode of either part and the product of both, in turn, are its counit and then the unit.
use Rattle.std.proofs.Common.{◌≡◌, ◌≢◌, ℕ, zero, suc, ◌+◌, ◌<◌, ◌⊎◌, Bool, true, false, List, [], ◌∷◌, ◌++◌, length, map, inl, inr, refl, sym, ◌∙◌, ap, subst, arith, add-one}
use Rattle.std.specs.Prelude.{if◌then◌else◌, unwrap_or}
use Rattle.std.proofs.Math.IntN.{ℤ, pos, ◌*ℤ◌, *ℤ-zero, zero-*ℤ}
use Rattle.std.proofs.lemmas.Int.{ints}
use Rattle.antipode_laws.specs.Units.{unit_of_counit, is_unit_at}
use Rattle.antipode_laws.proofs.AntipodeLaw.{antipode_law}
use Rattle.basis_names.specs.declared.bases.BasisId.{BasisId}
use Rattle.basis_representatives.proofs.SameLists.{same_list-true}
use Rattle.change_laws.specs.Lifts.{code_at}
use Rattle.coproduct_rules.specs.Components.{without_at, counit_terms_at}
use Rattle.coproduct_rules.proofs.Components.{counit_component}
use Rattle.hopf_laws.specs.Values.{Expansion, IsValue, Expands, reading_of}
use Rattle.hopf_laws.proofs.Uniqueness.{expands_once}
use Rattle.hopf_num.proofs.Ring.{*ℤ-pos_cancel}
use Rattle.linear_combos.proofs.Edits.{zero_canonical}
use Rattle.realisations.specs.Bases.{kind_of}
use Rattle.realisations.specs.Codes.{Code, Key}
use Rattle.realisations.specs.Combinations.{Combination, HasKey, weighed}
use Rattle.realisations.specs.Laws.{IsDoubled}
use Rattle.realisations.specs.Lists.{same_list}
use Rattle.realisations.specs.Points.{Kind, Points, ArePoints}
use Rattle.realisations.specs.Readings.{Terms, Reading, leaf, applied, antipode, coproduct, counit, mult, kinds_of, kinds_after_at, of_key, numerator, AgreeAt}
use Rattle.realisations.proofs.Agreement.{agree_trans}
use Rattle.realisations.proofs.Linearity.{operates_linearly}
use Rattle.basis_routes.specs.Conversions.{linear_checks}
use Rattle.basis_routes.specs.JoinTable.{join_of}
use Rattle.basis_routes.specs.Lists.{doubled}
use Rattle.basis_routes.specs.Places.{position_of, doubling_checks}
use Rattle.basis_routes.specs.Rows.{Answers}
use Rattle.basis_routes.proofs.ContainedBases.{lies_itself}
use Rattle.basis_routes.proofs.LiftedValues.{over}
use Rattle.basis_routes.proofs.Rows.{passes_earlier}
use Rattle.basis_routes.proofs.ValueRows.{checked_value}
use Rattle.hopf_ops.specs.Convolutions.{ConvolutionLaw, IsUnitOfCounit}
use Rattle.hopf_ops.specs.Operations.{mult_bases}
use Rattle.hopf_ops.proofs.AntipodeRows.{antipodes_decide}
use Rattle.hopf_ops.proofs.AppliedReadings.{applied_agrees}
use Rattle.hopf_ops.proofs.ConvertedOperands.{den-positive}
use Rattle.hopf_ops.proofs.CoproductRows.{coproducts_decide, doubling_passes}
use Rattle.hopf_ops.proofs.MultRows.{mults_decide}

-- a basis is its join with itself
join-self : (b : BasisId) → unwrap_or (join_of b b) b ≡ b
join-self b = rw ((lies_itself (b ∷ [])).0) refl

-- the product of both parts of a doubled component is over the given bases
mult_bases-doubled : (n : ℕ) (bases : List BasisId) → n < length bases → mult_bases n (doubled n bases) ≡ bases
mult_bases-doubled n [] lt = absurd (omega (arith, lt))
mult_bases-doubled zero (b ∷ bases) lt = ap (λ (c : BasisId). c ∷ bases) (join-self b)
mult_bases-doubled (suc n) (b ∷ bases) lt = ap (λ (bs : List BasisId). b ∷ bs) (mult_bases-doubled n bases (omega (arith, lt)))

-- both parts are of one kind
kinds_doubled : (n : ℕ) (bases : List BasisId) → n < length bases → IsDoubled n (map kind_of (doubled n bases))
kinds_doubled n [] lt = absurd (omega (arith, lt))
kinds_doubled zero (b ∷ bases) lt = refl
kinds_doubled (suc n) (b ∷ bases) lt = kinds_doubled n bases (omega (arith, lt))

-- Where no key has the empty code, the counit is 0.

weighed-zero : (f : Key → ℤ) (ts : Terms) → ((key : Key) → HasKey ts key → f key ≡ pos 0) → weighed f ts ≡ pos 0
weighed-zero f [] h = refl
weighed-zero f (t ∷ ts) h =
    let first : t.0 *ℤ f t.1 ≡ pos 0 = ap (λ z. t.0 *ℤ z) (h t.1 (0, omega arith, refl)) ∙ *ℤ-zero t.0 in
    omega (arith, ints, first, weighed-zero f ts (λ key has. h key (suc has.0, omega (arith, has.1), has.2)))

same_list-none : (code : Code) → code ≢ [] → same_list code [] ≡ false
same_list-none code some = by_test (same_list code []) refl
  where
    by_test : (b : Bool) → same_list code [] ≡ b → same_list code [] ≡ false
    by_test true same = absurd (some (same_list-true code [] same))
    by_test false same = same

counit-none : (n : ℕ) (v : Expansion) → n < length v.bases → IsValue v → ((key : Key) → HasKey v.combination.terms key → code_at n key ≢ []) → (ps : Points) → numerator (applied counit n (reading_of v)) ps ≡ pos 0
counit-none n v lt is none ps =
    operates_linearly counit n v.bases v.combination.den v.combination.terms ps
    ∙ weighed-zero (λ key. numerator (applied counit n (of_key v.bases key)) ps) v.combination.terms each
  where
    each : (key : Key) → HasKey v.combination.terms key → numerator (applied counit n (of_key v.bases key)) ps ≡ pos 0
    each key has =
        let agree : AgreeAt (leaf (without_at n v.bases) 1 (counit_terms_at n key)) (applied counit n (of_key v.bases key)) ps = counit_component n v.bases key lt (is.indices key has) ps in
        let empty : numerator (leaf (without_at n v.bases) 1 (counit_terms_at n key)) ps ≡ pos 0 =
        ap (λ (b : Bool). numerator (leaf (without_at n v.bases) 1 (if b then (pos 1, without_at n key) ∷ [] else [])) ps) (same_list-none (code_at n key) (none key has)) in
        omega (arith, ints, agree, empty)

unit-none : (n : ℕ) (a : Reading) → ((ps : Points) → numerator (applied counit n a) ps ≡ pos 0) → (ps : Points) → unit_of_counit n a ps ≡ pos 0
unit-none n a none ps = by_test (is_unit_at n (kinds_of a) ps)
  where
    by_test : (b : Bool) → (if b then numerator (applied counit n a) (without_at n ps) else pos 0) ≡ pos 0
    by_test true = none (without_at n ps)
    by_test false = refl

-- a value that reads 0 has no terms
zero_value : (v : Expansion) → IsValue v → ((ps : Points) → ArePoints (map kind_of v.bases) ps → numerator (reading_of v) ps ≡ pos 0) → v.combination.terms ≡ []
zero_value v is reads = ap (λ (w : Expansion). w.combination.terms) same
  where
    none : Combination
    none = record { rank = length v.bases; den = 1; terms = [] }

    is_none : IsValue (over v.bases none)
    is_none = record {
      short = is.short;
      built = is.built;
      rank = refl;
      canonical = zero_canonical (length v.bases);
      indices = λ key has. absurd (omega (arith, has.1));
      degrees = λ key has. absurd (omega (arith, has.1));
    }

    same : v ≡ over v.bases none
    same =
        expands_once v.bases (leaf v.bases 1 []) v (over v.bases none) (omega arith)
        (record { value = is; over = refl; reads = λ ps points. ap (λ z. z *ℤ pos 1) (reads ps points) ∙ sym (zero-*ℤ (pos v.combination.den)) })
        (record { value = is_none; over = refl; reads = λ ps points. refl })

-- three values in turn
module _ (n m : ℕ) (a x y z : Expansion) (lt : n < length a.bases) (ha : IsValue a) (part : (m ≡ n) ⊎ (m ≡ n + 1))
    (hx : Expands (doubled n a.bases) (applied coproduct n (reading_of a)) x)
    (kx : map kind_of (doubled n a.bases) ≡ kinds_after_at n coproduct (map kind_of a.bases))
    (hy : Expands x.bases (applied antipode m (reading_of x)) y)
    (ky : map kind_of x.bases ≡ kinds_after_at m antipode (map kind_of x.bases))
    (hz : Expands (mult_bases n y.bases) (applied mult n (reading_of y)) z)
    (kz : map kind_of (mult_bases n y.bases) ≡ kinds_after_at n mult (map kind_of y.bases)) where
  -- the coproduct, and its antipode, of the given value
  abbrev parts : Reading
  parts = applied coproduct n (reading_of a)

  abbrev turned : Reading
  turned = applied antipode m parts

  y_bases : y.bases ≡ doubled n a.bases
  y_bases = hy.over ∙ hx.over

  left_over : mult_bases n y.bases ≡ a.bases
  left_over = ap (mult_bases n) y_bases ∙ mult_bases-doubled n a.bases lt

  x_kinds : map kind_of x.bases ≡ kinds_of parts
  x_kinds = ap (λ (bs : List BasisId). map kind_of bs) hx.over ∙ kx

  y_kinds : map kind_of y.bases ≡ kinds_of turned
  y_kinds = ap (λ (bs : List BasisId). map kind_of bs) hy.over ∙ ky ∙ ap (λ (ks : List Kind). kinds_after_at m antipode ks) x_kinds

  y_reads : (ps : Points) → ArePoints (map kind_of y.bases) ps → AgreeAt (reading_of y) turned ps
  y_reads ps points =
      let here : ArePoints (map kind_of x.bases) ps = subst (λ (bs : List BasisId). ArePoints (map kind_of bs) ps) hy.over points in
      agree_trans (reading_of y) (applied antipode m (reading_of x)) turned ps (den-positive x hx.value) (hy.reads ps here)
      (applied_agrees antipode m (reading_of x) parts ps (λ e. absurd (let both : antipode ≡ mult = e in cc)) x_kinds (subst (λ (ks : List Kind). ArePoints ks ps) ky here)
      (λ qs at. hx.reads qs (subst (λ (bs : List BasisId). ArePoints (map kind_of bs) qs) hx.over at)))

  z_reads : (ps : Points) → ArePoints (map kind_of a.bases) ps → AgreeAt (reading_of z) (applied mult n turned) ps
  z_reads ps points =
      let here : ArePoints (map kind_of (mult_bases n y.bases)) ps = subst (λ (bs : List BasisId). ArePoints (map kind_of bs) ps) (sym left_over) points in
      agree_trans (reading_of z) (applied mult n (reading_of y)) (applied mult n turned) ps (den-positive y hy.value) (hz.reads ps here)
      (applied_agrees mult n (reading_of y) turned ps (λ e. subst (λ (bs : List BasisId). IsDoubled n (map kind_of bs)) (sym y_bases) (kinds_doubled n a.bases lt)) y_kinds
      (subst (λ (ks : List Kind). ArePoints ks ps) kz here) y_reads)

  -- by the law of the antipode
  convolved : (k : ℕ) → (k ≡ n) ⊎ (k ≡ n + 1) → (ps : Points) → numerator (applied mult n (applied antipode k parts)) ps ≡ unit_of_counit n (reading_of a) ps
  convolved k (inl first) ps =
      subst (λ (j : ℕ). numerator (applied mult n (applied antipode j parts)) ps ≡ unit_of_counit n (reading_of a) ps) (sym first)
      (antipode_law.first n (reading_of a) (antipode_law.combinations n a.bases a.combination.den a.combination.terms) ps)
  convolved k (inr second) ps =
      subst (λ (j : ℕ). numerator (applied mult n (applied antipode j parts)) ps ≡ unit_of_counit n (reading_of a) ps) (sym (second ∙ add-one n))
      (antipode_law.second n (reading_of a) (antipode_law.combinations n a.bases a.combination.den a.combination.terms) ps)

  z_over : z.bases ≡ a.bases
  z_over = hz.over ∙ left_over

  z_unit : (ps : Points) → ArePoints (map kind_of a.bases) ps → numerator (reading_of z) ps *ℤ pos a.combination.den ≡ unit_of_counit n (reading_of a) ps *ℤ pos z.combination.den
  z_unit ps points = z_reads ps points ∙ ap (λ w. w *ℤ pos z.combination.den) (convolved m part ps)

  z_zero : ((key : Key) → HasKey a.combination.terms key → code_at n key ≢ []) → (ps : Points) → ArePoints (map kind_of z.bases) ps → numerator (reading_of z) ps ≡ pos 0
  z_zero none ps points =
      let unit : unit_of_counit n (reading_of a) ps ≡ pos 0 = unit-none n (reading_of a) (counit-none n a lt ha none) ps in
      *ℤ-pos_cancel (numerator (reading_of z) ps) (pos 0) a.combination.den (den-positive a ha)
      (z_unit ps (subst (λ (bs : List BasisId). ArePoints (map kind_of bs) ps) z_over points)
      ∙ ap (λ w. w *ℤ pos z.combination.den) unit ∙ zero-*ℤ (pos z.combination.den) ∙ sym (zero-*ℤ (pos a.combination.den)))

  is_unit_of_counit : IsUnitOfCounit n a z
  is_unit_of_counit = record { over = z_over; reads = z_unit; zero = λ none. zero_value z hz.value (z_zero none) }

pub values_convolve : ConvolutionLaw
values_convolve at part both a x y z ha which there cx cy cz =
    let n = position_of at in
    let m = position_of part in
    let places = doubling_checks at (length a.bases) in
    let pass = (checked_value (places ++ linear_checks a) (Answers (doubled n a.bases) (applied coproduct n (reading_of a))) x cx).0 in
    let lt = (doubling_passes at (length a.bases) (passes_earlier places (linear_checks a) pass)).0 in
    let of_x = coproducts_decide at a ha in
    let hx : Expands (doubled n a.bases) (applied coproduct n (reading_of a)) x = of_x.reads x cx in
    let of_y = antipodes_decide part x hx.value in
    let hy : Expands x.bases (applied antipode m (reading_of x)) y = of_y.reads y cy in
    let of_z = mults_decide both y hy.value in
    let hz : Expands (mult_bases n y.bases) (applied mult n (reading_of y)) z =
    subst (λ (k : ℕ). Expands (mult_bases k y.bases) (applied mult k (reading_of y)) z) there (of_z.reads z cz) in
    let kz : map kind_of (mult_bases n y.bases) ≡ kinds_after_at n mult (map kind_of y.bases) =
    subst (λ (k : ℕ). map kind_of (mult_bases k y.bases) ≡ kinds_after_at k mult (map kind_of y.bases)) there (of_z.kinds z cz) in
    is_unit_of_counit n m a x y z lt ha which hx (of_x.kinds x cx) hy (of_y.kinds y cy) hz kz
