-- Operations on components have values: coproducts, antipodes, commuting images, products of neighbours, and counits.
use Rattle.std.proofs.Common.{◌≡◌, ℕ, zero, suc, ◌+◌, ◌-◌, ◌^◌, ◌<◌, ◌≤◌, List, [], ◌∷◌, ◌++◌, length, map, inl, inr, refl, sym, ap, subst, arith, unsigned_abs, add-one}
use Rattle.std.proofs.lemmas.Bool.{cases_eq}
use Rattle.std.specs.Prelude.{All}
use Rattle.basis_names.specs.declared.bases.BasisId.{BasisId}
use Rattle.basis_names.specs.declared.bases.BasisId.TheVariants.{QsymM}
use Rattle.commuting_images.specs.Images.{image_facts}
use Rattle.hopf_laws.specs.Values.{Expansion, IsValue, Expands, reading_of}
use Rattle.change_laws.specs.Lifts.{code_at, replaced}
use Rattle.index_rules.proofs.LiftsExist.{lifts_exist, products_exist}
use Rattle.index_rules.proofs.ReducedCombos.{divided_exists}
use Rattle.index_rules.proofs.ReplacedKeys.{length-replaced}
use Rattle.linear_combos.proofs.Edits.{lowest_one, zero_canonical}
use Rattle.linear_combos.proofs.Gathering.{add_exists}
use Rattle.linear_combos.proofs.Weights.{norm-part}
use Rattle.realisations.specs.Bases.{kind_of}
use Rattle.realisations.specs.Codes.{Key}
use Rattle.realisations.specs.Combinations.{Combination, AreTerms, IsCanonical, IsLowest, norm_of, term_at}
use Rattle.realisations.specs.Readings.{applied, antipode, commute, coproduct, counit, mult, kinds_after_at}
use Rattle.basis_routes.specs.Checks.{Passes}
use Rattle.basis_routes.specs.Conversions.{linear_checks}
use Rattle.basis_routes.specs.KeptTerms.{AreKept, IsKept}
use Rattle.basis_routes.specs.Lists.{doubled, replaced as with_others, without}
use Rattle.basis_routes.proofs.AntipodeValues.{antipode_facts, antipode_lifted, has_antipode}
use Rattle.basis_routes.proofs.BasesAround.{basis_there, built-here}
use Rattle.basis_routes.proofs.CoproductValues.{has_coproduct, coproduct_facts, coproduct_lifted}
use Rattle.basis_routes.proofs.CounitValues.{counit_expands}
use Rattle.basis_routes.proofs.ImageValues.{has_image, image_lifted}
use Rattle.basis_routes.proofs.KeptTerms.{none_kept, term_left_out, term_room, term_kept, kept_over, empty_code}
use Rattle.basis_routes.proofs.LiftedValues.{over}
use Rattle.basis_routes.proofs.ProductValues.{can_multiply, products_expand}
use Rattle.basis_routes.proofs.RulesExist.{has_products, has_antipodes, has_coproducts, has_images}

-- the coproduct of component n, where there is room for one component more, and the linear rule holds
pub coproduct_exists : (n : ℕ) (v : Expansion) → n < length v.bases → length v.bases ≤ 2 → IsValue v → All Passes (linear_checks v)
    → (w : Expansion) × Expands (doubled n v.bases) (applied coproduct n (reading_of v)) w
coproduct_exists n v lt short is room =
    let (b, at) = basis_there n v.bases lt in
    let has = has_coproduct n v.bases b lt at in
    let (growth, coproducts) = has_coproducts b (has.built v.combination is) in
    let (c, lift) = lifts_exist (coproduct_facts b growth) coproducts n v.combination is.canonical (has.can v.combination is short room growth) in
    (over (doubled n v.bases) c, coproduct_lifted n v b c v.combination lt at is short refl (growth, lift))

-- its kinds
pub kinds-doubled : (n : ℕ) (bases : List BasisId) → n < length bases → map kind_of (doubled n bases) ≡ kinds_after_at n coproduct (map kind_of bases)
kinds-doubled n [] lt = absurd (omega (arith, lt))
kinds-doubled zero (b ∷ bases) lt = refl
kinds-doubled (suc n) (b ∷ bases) lt = ap (λ ks. kind_of b ∷ ks) (kinds-doubled n bases (omega (arith, lt)))

-- and those of a counit
pub kinds-without : (n : ℕ) (bases : List BasisId) → n < length bases → map kind_of (without n bases) ≡ kinds_after_at n counit (map kind_of bases)
kinds-without n [] lt = absurd (omega (arith, lt))
kinds-without zero (b ∷ bases) lt = refl
kinds-without (suc n) (b ∷ bases) lt = ap (λ ks. kind_of b ∷ ks) (kinds-without n bases (omega (arith, lt)))

-- the antipode of component n, where the linear rule holds
pub antipode_exists : (n : ℕ) (v : Expansion) → n < length v.bases → IsValue v → All Passes (linear_checks v)
    → (w : Expansion) × Expands v.bases (applied antipode n (reading_of v)) w
antipode_exists n v lt is room =
    let (b, at) = basis_there n v.bases lt in
    let has = has_antipode n v.bases b lt at in
    let (c, lift) = lifts_exist (antipode_facts b) (has_antipodes b (has.built v.combination is)) n v.combination is.canonical (has.can v.combination is room) in
    (over v.bases c, antipode_lifted n v b c v.combination lt at is refl lift)

-- its kinds
pub kinds-antipode : (n : ℕ) (bases : List BasisId) → n < length bases → map kind_of bases ≡ kinds_after_at n antipode (map kind_of bases)
kinds-antipode n [] lt = absurd (omega (arith, lt))
kinds-antipode zero (b ∷ bases) lt = refl
kinds-antipode (suc n) (b ∷ bases) lt = ap (λ ks. kind_of b ∷ ks) (kinds-antipode n bases (omega (arith, lt)))

-- the commuting image of component n, where the linear rule holds
pub image_exists : (n : ℕ) (v : Expansion) → n < length v.bases → IsValue v → All Passes (linear_checks v)
    → (w : Expansion) × Expands (with_others n (QsymM ∷ []) v.bases) (applied commute n (reading_of v)) w
image_exists n v lt is room =
    let (b, at) = basis_there n v.bases lt in
    let has = has_image n v.bases b lt at in
    let images = has_images b (has.built v.combination is) in
    let (c, lift) = lifts_exist (image_facts b images.growth) images.images n v.combination is.canonical (has.can v.combination is room images.growth) in
    (over (with_others n (QsymM ∷ []) v.bases) c, image_lifted n v b c v.combination lt at is refl (images.growth, lift))

-- its kinds
pub kinds-commuted : (n : ℕ) (bases : List BasisId) → n < length bases → map kind_of (with_others n (QsymM ∷ []) bases) ≡ kinds_after_at n commute (map kind_of bases)
kinds-commuted n [] lt = absurd (omega (arith, lt))
kinds-commuted zero (b ∷ bases) lt = refl
kinds-commuted (suc n) (b ∷ bases) lt = ap (λ ks. kind_of b ∷ ks) (kinds-commuted n bases (omega (arith, lt)))

-- the product of two neighbours over one basis, where the linear rule holds
pub product_exists : (before after : List BasisId) (basis : BasisId) (v : Expansion) → IsValue v → v.bases ≡ before ++ basis ∷ basis ∷ after → All Passes (linear_checks v)
    → (w : Expansion) × Expands (before ++ basis ∷ after) (applied mult (length before) (reading_of v)) w
product_exists before after basis v is at room =
    let whole : List BasisId = before ++ basis ∷ basis ∷ after in
    let same : v ≡ over whole v.combination = λ i. record { bases = at i; combination = v.combination } in
    let value : IsValue (over whole v.combination) = subst IsValue same is in
    let (growth, products) = has_products basis (built-here before (basis ∷ after) basis value.built) in
    let (c, made) = products_exist basis growth products (length before) v.combination is.canonical (can_multiply before after basis v.combination value (subst (λ x. All Passes (linear_checks x)) same room)) in (
      over (before ++ basis ∷ after) c,
      subst (λ x. Expands (before ++ basis ∷ after) (applied mult (length before) (reading_of x)) (over (before ++ basis ∷ after) c)) (sym same)
          (products_expand before after basis v.combination value growth c made),
    )

-- The counit of a component: what is left of the terms can be gathered one by one.

-- canonical terms of what is left of the first terms
record IsSoFar (n : ℕ) (old : Combination) (i : ℕ) (c : Combination) : Type 0 where
  ordered : AreTerms c.rank c.terms
  kept : AreKept n old i c

module _ (n : ℕ) (old : Combination) (is : IsCanonical old.rank old.den old.terms) (here : n < old.rank) where
  next_kept : (i : ℕ) → i < length old.terms → (mid : Combination) → IsSoFar n old i mid → (new : Combination) × IsSoFar n old (i + 1) new
  next_kept i lt mid so_far =
      let num = (term_at old.terms i).0 in
      let key : Key = (term_at old.terms i).1 in
      elim (cases_eq (length (code_at n key)) 0) [
        | inl none ↦
            let fits : length (replaced n [] key) ≡ mid.rank =
            omega (arith, is.ordered.ranks i lt, length-replaced n [] key (omega (arith, is.ordered.ranks i lt, here)), so_far.kept.rank) in
            let room : norm_of mid.terms + unsigned_abs num < 2 ^ 127 = omega (arith, term_room n old i lt mid so_far.kept, norm-part old.terms (i + 1), is.ordered.small) in
            let (us, adds) = add_exists mid.rank mid.terms num (replaced n [] key) so_far.ordered fits room in
            let new : Combination = record { rank = mid.rank; den = mid.den; terms = us } in (
              new,
              record { ordered = adds.terms; kept = term_kept n old i lt mid so_far.kept new num (replaced n [] key) refl refl (empty_code (code_at n key) none) adds.adds adds.norm refl refl },
            )
        | inr some ↦ (mid, record { ordered = so_far.ordered; kept = term_left_out n old i lt mid so_far.kept some })
      ]

  all_so_far : (i : ℕ) → i ≤ length old.terms → (c : Combination) × IsSoFar n old i c
  all_so_far zero le =
      let none : Combination = record { rank = old.rank - 1; den = 1; terms = [] } in
      (none, record { ordered = (zero_canonical (old.rank - 1)).ordered; kept = none_kept n old none (old.rank - 1) (omega (arith, here)) refl })
  all_so_far (suc i) le =
      let (mid, so_far) = all_so_far i (omega (arith, le)) in
      let (new, next) = next_kept i (omega (arith, le)) mid so_far in
      (new, subst (λ m. IsSoFar n old m new) (add-one i) next)

  pub kept_exists : (c : Combination) × IsKept n old c
  kept_exists =
      let (whole, all) = all_so_far (length old.terms) (omega arith) in
      let canonical : IsCanonical whole.rank whole.den whole.terms = record { ordered = all.ordered; lowest = subst (λ d. IsLowest d whole.terms) (sym all.kept.whole) (lowest_one whole.terms) } in
      let (c, lowest, over_den) = divided_exists whole old.den is.lowest.positive is.lowest.small all.ordered all.kept.whole in
      (c, kept_over n old whole c old.den refl (record { canonical = canonical; all = all.kept }) lowest over_den)

-- so a value has a counit of each component
pub counit_exists : (n : ℕ) (v : Expansion) → n < length v.bases → IsValue v → (w : Expansion) × Expands (without n v.bases) (applied counit n (reading_of v)) w
counit_exists n v lt is =
    let (c, kept) = kept_exists n v.combination is.canonical (omega (arith, is.rank, lt)) in
    (over (without n v.bases) c, counit_expands n v v.combination c lt is refl kept)
