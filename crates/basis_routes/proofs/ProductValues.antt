-- The product of two neighbouring components of a value.
use Rattle.std.proofs.Common.{◌≡◌, ℕ, zero, suc, ◌+◌, ◌<◌, ◌≤◌, IsTrue, List, [], ◌∷◌, ◌++◌, length, refl, sym, ◌∙◌, ap, subst, arith}
use Rattle.std.specs.Prelude.{All, slice_index_or}
use Rattle.std.proofs.lemmas.List.{length-append}
use Rattle.basis_names.specs.declared.bases.BasisId.{BasisId}
use Rattle.built_bases.specs.Table.{is_built}
use Rattle.change_laws.specs.Lifts.{code_at, replaced}
use Rattle.hopf_laws.specs.Bases.{least_limit}
use Rattle.hopf_laws.specs.Values.{Expansion, IsValue, Expands, reading_of, degree_of_value}
use Rattle.index_rules.specs.Lifts.{CanMultiply, AreMultiplied}
use Rattle.index_rules.specs.Rules.{greatest_of}
use Rattle.index_rules.specs.Spaces.{limit_for}
use Rattle.index_rules.proofs.MultipliedReads.{products_read_as}
use Rattle.realisations.specs.Bases.{kind_of}
use Rattle.realisations.specs.Codes.{Key}
use Rattle.realisations.specs.Combinations.{Combination, HasKey}
use Rattle.realisations.specs.Indices.{IsIndex, AreIndices, degree_of, total_degree}
use Rattle.realisations.specs.Readings.{leaf, applied, mult, AgreeAt}
use Rattle.basis_routes.specs.Checks.{Passes}
use Rattle.basis_routes.specs.Conversions.{linear_checks}
use Rattle.basis_routes.specs.Lists.{doubled, without}
use Rattle.basis_routes.proofs.BasesAround.{at_component, doubled-around, built-append, built-front, built-back, built-here, within_each, within_least, within-append, within-front, within-back, points_around}
use Rattle.basis_routes.proofs.Degrees.{degree_within, degree-le-greatest}
use Rattle.basis_routes.proofs.LiftedValues.{over, greatest-within, linear-room, one_point}

-- two neighbouring codes of a key
record AreNeighbours (bases : List BasisId) (basis : BasisId) (a b : List ℕ) (key : Key) : Type 0 where
  first : IsIndex basis a
  second : IsIndex basis b
  degrees : degree_of basis a + degree_of basis b ≤ total_degree bases key

neighbours : (before after : List BasisId) (basis : BasisId) (key : Key) → AreIndices (before ++ basis ∷ basis ∷ after) key
    → AreNeighbours (before ++ basis ∷ basis ∷ after) basis (code_at (length before) key) (code_at (suc (length before)) key) key
neighbours [] after basis [] h = absurd h
neighbours [] after basis (a ∷ []) h = absurd h.1
neighbours [] after basis (a ∷ b ∷ key) h = record { first = h.0; second = h.1.0; degrees = omega arith }
neighbours (c ∷ before) after basis [] h = absurd h
neighbours (c ∷ before) after basis (x ∷ key) h =
    let rest = neighbours before after basis key h.1 in
    record { first = rest.first; second = rest.second; degrees = omega (arith, rest.degrees) }

-- a key with an index of the same degree in the place of both
record IsJoinedKey (bases old : List BasisId) (new key : Key) : Type 0 where
  indices : AreIndices bases new
  degrees : total_degree bases new ≡ total_degree old key

joined_key : (before after : List BasisId) (basis : BasisId) (codes key : Key) → AreIndices (before ++ basis ∷ basis ∷ after) key → AreIndices (basis ∷ []) codes
    → total_degree (basis ∷ []) codes ≡ degree_of basis (code_at (length before) key) + degree_of basis (code_at (suc (length before)) key)
    → IsJoinedKey (before ++ basis ∷ after) (before ++ basis ∷ basis ∷ after) (replaced (length before) codes (replaced (suc (length before)) [] key)) key
joined_key [] after basis codes [] h new same = absurd h
joined_key [] after basis codes (a ∷ []) h new same = absurd h.1
joined_key [] after basis [] (a ∷ b ∷ key) h new same = absurd new
joined_key [] after basis (c ∷ d ∷ codes) (a ∷ b ∷ key) h new same = absurd new.1
joined_key [] after basis (c ∷ []) (a ∷ b ∷ key) h new same = record { indices = (new.0, h.1.1); degrees = omega (arith, same) }
joined_key (f ∷ before) after basis codes [] h new same = absurd h
joined_key (f ∷ before) after basis codes (x ∷ key) h new same =
    let rest = joined_key before after basis codes key h.1 new same in
    record { indices = (h.0, rest.indices); degrees = omega (arith, rest.degrees) }

module _ (before after : List BasisId) (basis : BasisId) (old : Combination) (is : IsValue (over (before ++ basis ∷ basis ∷ after) old)) where
  within_both : (n : ℕ) → n ≤ least_limit (before ++ basis ∷ basis ∷ after) → n ≤ limit_for basis
  within_both n le = (within-back n before (basis ∷ basis ∷ after) (within_each n (before ++ basis ∷ basis ∷ after) le)).0

  pair-degree : (key : Key) → HasKey old.terms key → degree_of basis (code_at (length before) key) + degree_of basis (code_at (suc (length before)) key) ≤ degree_of_value (over (before ++ basis ∷ basis ∷ after) old)
  pair-degree key has = omega (arith, (neighbours before after basis key (is.indices key has)).degrees, degree-le-greatest (before ++ basis ∷ basis ∷ after) old.terms key has)

  -- neighbours over one basis can be multiplied, where the linear rule holds
  pub can_multiply : All Passes (linear_checks (over (before ++ basis ∷ basis ∷ after) old)) → CanMultiply basis (length before) old
  can_multiply room = record {
    here = omega (arith, is.rank, length-append before (basis ∷ basis ∷ after));
    most = omega (arith, is.rank, is.short);
    factors = λ key has.
        let two = neighbours before after basis key (is.indices key has) in
        record {
          first = two.first;
          second = two.second;
          degree = within_both _ (omega (arith, pair-degree key has, degree_within (over (before ++ basis ∷ basis ∷ after) old) is));
        };
    room = linear-room (over (before ++ basis ∷ basis ∷ after) old) (greatest_of (λ key. degree_of basis (code_at (length before) key) + degree_of basis (code_at (suc (length before)) key)) old.terms)
        (greatest-within (λ key. degree_of basis (code_at (length before) key) + degree_of basis (code_at (suc (length before)) key)) (degree_of_value (over (before ++ basis ∷ basis ∷ after) old)) old.terms pair-degree) room;
  }

  -- a limit of the bases is one of those that are left
  least_of_left : (n : ℕ) → n ≤ least_limit (before ++ basis ∷ basis ∷ after) → n ≤ least_limit (before ++ basis ∷ after)
  least_of_left n le =
      let each = within_each n (before ++ basis ∷ basis ∷ after) le in
      within_least n (before ++ basis ∷ after) (omega (arith, length-append before (basis ∷ after)))
      (within-append n before (basis ∷ after) (within-front n before (basis ∷ basis ∷ after) each) (within-back n before (basis ∷ basis ∷ after) each).1)

  put_key : (growth : ℕ) (new : Combination) → AreMultiplied basis growth (length before) old new → (key : Key) → HasKey new.terms key
      → AreIndices (before ++ basis ∷ after) key × (total_degree (before ++ basis ∷ after) key ≤ least_limit (before ++ basis ∷ after))
  put_key growth new multiplied key has =
      let put = multiplied.keys key has in
      let joined = joined_key before after basis put.codes put.key (is.indices put.key put.has) put.indices put.degrees in (
        subst (AreIndices (before ++ basis ∷ after)) (sym put.is) joined.indices,
        least_of_left (total_degree (before ++ basis ∷ after) key) (omega (arith, ap (total_degree (before ++ basis ∷ after)) put.is, joined.degrees, is.degrees put.key put.has)),
      )

  -- the products are the value that reads as the product of both components
  pub products_expand : (growth : ℕ) (new : Combination) → AreMultiplied basis growth (length before) old new
      → Expands (before ++ basis ∷ after) (applied mult (length before) (reading_of (over (before ++ basis ∷ basis ∷ after) old))) (over (before ++ basis ∷ after) new)
  products_expand growth new multiplied = record {
    value = record {
      short = omega (arith, is.short, length-append before (basis ∷ after), length-append before (basis ∷ basis ∷ after));
      built = built-append before (basis ∷ after) (built-front before (basis ∷ basis ∷ after) is.built) (built-back before (basis ∷ basis ∷ after) is.built).1;
      rank = omega (arith, multiplied.rank, is.rank, length-append before (basis ∷ after), length-append before (basis ∷ basis ∷ after));
      canonical = multiplied.canonical;
      indices = λ key has. (put_key growth new multiplied key has).0;
      degrees = λ key has. (put_key growth new multiplied key has).1;
    };
    over = refl;
    reads = λ ps points.
        let parts = points_around before (basis ∷ []) after ps points in
        let one = one_point (kind_of basis) parts.here parts.points in
        subst (λ qs. AgreeAt (leaf (before ++ basis ∷ after) new.den new.terms) (applied mult (length before) (leaf (before ++ basis ∷ basis ∷ after) old.den old.terms)) qs) (sym (parts.is ∙ ap (λ qs. parts.front ++ (qs ++ parts.back)) one.is))
        (products_read_as before after basis growth old new parts.front parts.back one.point parts.long one.of_kind is.indices multiplied);
  }

-- what the product of component n of a value and the next one asks and gives, over the bases of both, and over those that are left
pub record HasProduct (n : ℕ) (whole left : List BasisId) (basis : BasisId) : Type 0 where
  pub built : (old : Combination) → IsValue (over whole old) → IsTrue (is_built basis)
  pub can : (old : Combination) → IsValue (over whole old) → All Passes (linear_checks (over whole old)) → CanMultiply basis n old
  pub expands : (old new : Combination) (growth : ℕ) → IsValue (over whole old) → AreMultiplied basis growth n old new
      → Expands left (applied mult n (reading_of (over whole old))) (over left new)

product_around : (before after : List BasisId) (basis : BasisId) → HasProduct (length before) (doubled (length before) (before ++ basis ∷ after)) (before ++ basis ∷ after) basis
product_around before after basis = subst (λ whole. HasProduct (length before) whole (before ++ basis ∷ after) basis) (sym (doubled-around before after basis)) (record {
  built = λ old is. built-here before (basis ∷ after) basis is.built;
  can = λ old is room. can_multiply before after basis old is room;
  expands = λ old new growth is multiplied. products_expand before after basis old is growth new multiplied;
})

length-without : (n : ℕ) (bases : List BasisId) → n < length bases → suc (length (without n bases)) ≡ length bases
length-without n [] lt = absurd (omega (arith, lt))
length-without zero (b ∷ bases) lt = refl
length-without (suc n) (b ∷ bases) lt = ap suc (length-without n bases (omega (arith, lt)))

index-doubled : (n : ℕ) (left : List BasisId) (basis : BasisId) → n < length left → slice_index_or (doubled n left) n basis ≡ slice_index_or left n basis
index-doubled n [] basis lt = absurd (omega (arith, lt))
index-doubled zero (b ∷ left) basis lt = refl
index-doubled (suc n) (b ∷ left) basis lt = index-doubled n left basis (omega (arith, lt))

-- the bases of both, where a component and the next one, n + 1 counted from 0, have one basis
pub has_product : (n m : ℕ) (bases : List BasisId) (basis : BasisId) → m ≡ n + 1 → m < length bases → basis ≡ slice_index_or bases n basis → bases ≡ doubled n (without m bases)
    → HasProduct n bases (without m bases) basis
has_product n m bases basis next lt at same =
    let left = without m bases in
    let here : n < length left = omega (arith, next, lt, length-without m bases lt) in
    let is : basis ≡ slice_index_or left n basis = at ∙ ap (λ (bs : List BasisId). slice_index_or bs n basis) same ∙ index-doubled n left basis here in
    subst (λ (whole : List BasisId). HasProduct n whole left basis) (sym same) (at_component (λ k bs b. HasProduct k (doubled k bs) bs b) product_around n left basis here is)

-- the value that the products make
pub multiplied : (n m : ℕ) (v : Expansion) (basis : BasisId) (new old : Combination) → m ≡ n + 1 → m < length v.bases → basis ≡ slice_index_or v.bases n basis → v.bases ≡ doubled n (without m v.bases)
    → IsValue v → old ≡ v.combination → (g : ℕ) × AreMultiplied basis g n old new → Expands (without m v.bases) (applied mult n (reading_of v)) (over (without m v.bases) new)
multiplied n m v basis new old next lt at same is value (growth, h) =
    (has_product n m v.bases basis next lt at same).expands v.combination new growth is (subst (λ c. AreMultiplied basis growth n c new) value h)
