-- Products of keys, component by component.
use Rattle.std.proofs.Common.{◌≡◌, ℕ, ◌+◌, ◌-◌, ◌*◌, ◌^◌, ◌<◌, ◌≤◌, List, [], ◌∷◌, ◌++◌, length, map, drop, slice_index_or, refl, sym, ◌∙◌, ap, subst, arith, add-one}
use Rattle.std.proofs.Math.IntN.{ℤ, pos, ◌*ℤ◌, pos-*ℤ-pos}
use Rattle.std.proofs.Math.Nat.{mul-le-mul}
use Rattle.std.proofs.Math.Numerals.{one-add}
use Rattle.std.proofs.Math.Seq.{drop-cons}
use Rattle.std.proofs.Math.Pow.{pow_mono}
use Rattle.std.proofs.lemmas.List.{length-drop}
use Rattle.std.proofs.lemmas.Nat.{pow-add}
use Rattle.std.proofs.lemmas.Int.{ints}
use Rattle.realisations.specs.Lists.{one_if, int_sum}
use Rattle.basis_names.specs.declared.bases.BasisId.{BasisId}
use Rattle.realisations.specs.Bases.{kind_of}
use Rattle.realisations.specs.Points.{ArePoints}
use Rattle.realisations.specs.Occurrence.{occurs}
use Rattle.realisations.specs.Answers.{IsAnswer}
use Rattle.realisations.specs.Indices.{AreIndices, total_degree, degree_of}
use Rattle.realisations.specs.Combinations.{Combination, IsCanonical, AreTerms, HasKey, weighed}
use Rattle.linear_combos.specs.Combos.{IsTensor}
use Rattle.realisations.specs.Readings.{leaf, occurrence, numerator, product, of_key, element, cuts, all_cuts, AgreeAt}
use Rattle.realisations.proofs.Coefficients.{Codes}
use Rattle.realisations.proofs.Linearity.{numerator-of_key}
use Rattle.realisations.proofs.Sums.{sums, sums-map, sums-flat_map, sums_same, sums-scale}
use Rattle.realisations.proofs.TuplesOfPoints.{length-points_over}
use Rattle.hopf_num.proofs.Ring.{*ℤ-pos_cancel}
use Rattle.hopf_laws.specs.Bases.{least_limit}
use Rattle.hopf_ops.specs.Gathering.{AreFactorKeys, IsProductOfKeys}
use Rattle.hopf_ops.proofs.TensorsOfValues.{indices-append, total_degree-append, weighed-tensor}

-- the cuts at which both keys occur, each on its part
abbrev both_occur : List BasisId → Codes → Codes → List (Codes × Codes) → ℕ
both_occur bases k l cs = sums (λ (c : Codes × Codes). occurrence bases k c.0 * occurrence bases l c.1) cs

-- a product of two keys counts them
product-both_occur : (bases : List BasisId) (k l : Codes) (cs : List (Codes × Codes)) →
    int_sum (map (λ (c : Codes × Codes). numerator (of_key bases k) c.0 *ℤ numerator (of_key bases l) c.1) cs) ≡ pos (both_occur bases k l cs)
product-both_occur bases k l [] = refl
product-both_occur bases k l (c ∷ cs) =
    let head : numerator (of_key bases k) c.0 *ℤ numerator (of_key bases l) c.1 ≡ pos (occurrence bases k c.0 * occurrence bases l c.1) =
    ap (λ z. z *ℤ numerator (of_key bases l) c.1) (numerator-of_key bases k c.0) ∙ ap (λ z. pos (occurrence bases k c.0) *ℤ z) (numerator-of_key bases l c.1)
    ∙ pos-*ℤ-pos (occurrence bases k c.0) (occurrence bases l c.1) in
    omega (arith, ints, head, product-both_occur bases k l cs)

-- a common factor on the right
sums-scale_right : {X : Type 0} (n : ℕ) (f : X → ℕ) (xs : List X) → sums (λ x. f x * n) xs ≡ sums f xs * n
sums-scale_right n f [] = omega arith
sums-scale_right n f (x ∷ xs) = omega (arith, sums-scale_right n f xs)

-- the cuts of one point at which both elements occur
abbrev both_occur_at : BasisId → List ℕ → List ℕ → List ℕ → ℕ
both_occur_at basis x y p = sums (λ (c : List ℕ × List ℕ). one_if (occurs basis x c.0) * one_if (occurs basis y c.1)) (cuts (kind_of basis) p)

-- one component more: its cuts and those of the others are chosen by themselves
both_occur-more : (basis : BasisId) (bases : List BasisId) (x y p : List ℕ) (k l ps : Codes) →
    both_occur (basis ∷ bases) (x ∷ k) (y ∷ l) (all_cuts (map kind_of (basis ∷ bases)) (p ∷ ps))
    ≡ both_occur_at basis x y p * both_occur bases k l (all_cuts (map kind_of bases) ps)
both_occur-more basis bases x y p k l ps =
    let rest = all_cuts (map kind_of bases) ps in
    let counted = λ (c : Codes × Codes). occurrence (basis ∷ bases) (x ∷ k) c.0 * occurrence (basis ∷ bases) (y ∷ l) c.1 in
    let first = λ (c : List ℕ × List ℕ). one_if (occurs basis x c.0) * one_if (occurs basis y c.1) in
    let others = λ (d : Codes × Codes). occurrence bases k d.0 * occurrence bases l d.1 in
    let behind : List ℕ × List ℕ → Codes × Codes → Codes × Codes = λ c d. (c.0 ∷ d.0, c.1 ∷ d.1) in
    let for_each_cut : (c : List ℕ × List ℕ) → sums counted (map (behind c) rest) ≡ first c * sums others rest =
    λ c. sums-map counted (behind c) rest
    ∙ sums_same (λ d. counted (behind c d)) (λ d. first c * others d) (λ d. omega arith) rest
    ∙ sums-scale (first c) others rest in
    sums-flat_map counted (λ c. map (behind c) rest) (cuts (kind_of basis) p)
    ∙ sums_same (λ c. sums counted (map (behind c) rest)) (λ c. first c * sums others rest) for_each_cut (cuts (kind_of basis) p)
    ∙ sums-scale_right (sums others rest) first (cuts (kind_of basis) p)

-- so the product of two keys is, at each tuple of points, the product of that of their first codes and that of the others
pub numerator-product_more : (basis : BasisId) (bases : List BasisId) (x y p : List ℕ) (k l ps : Codes) →
    numerator (product (of_key (basis ∷ bases) (x ∷ k)) (of_key (basis ∷ bases) (y ∷ l))) (p ∷ ps)
    ≡ numerator (product (element basis x) (element basis y)) (p ∷ []) *ℤ numerator (product (of_key bases k) (of_key bases l)) ps
numerator-product_more basis bases x y p k l ps =
    let one : both_occur (basis ∷ []) (x ∷ []) (y ∷ []) (all_cuts (map kind_of (basis ∷ [])) (p ∷ [])) ≡ both_occur_at basis x y p =
    omega (arith, both_occur-more basis [] x y p [] [] []) in
    let first = product-both_occur (basis ∷ []) (x ∷ []) (y ∷ []) (all_cuts (map kind_of (basis ∷ [])) (p ∷ [])) ∙ ap pos one in
    let others = product-both_occur bases k l (all_cuts (map kind_of bases) ps) in
    product-both_occur (basis ∷ bases) (x ∷ k) (y ∷ l) (all_cuts (map kind_of (basis ∷ bases)) (p ∷ ps))
    ∙ ap pos (both_occur-more basis bases x y p k l ps)
    ∙ sym (pos-*ℤ-pos (both_occur_at basis x y p) (both_occur bases k l (all_cuts (map kind_of bases) ps)))
    ∙ (λ i. sym first i *ℤ sym others i)

-- an equation of fractions over 1
over_one : (z v : ℤ) (d e f : ℕ) → d ≡ 1 → e ≡ 1 → f ≡ 1 → z *ℤ (pos d *ℤ pos e) ≡ v *ℤ pos f → z ≡ v
over_one z v d e f hd he hf h = *ℤ-pos_cancel z v 1 (omega arith) ((λ i. z *ℤ (pos (sym hd i) *ℤ pos (sym he i))) ∙ h ∙ (λ i. v *ℤ pos (hf i)))

module _ (basis : BasisId) (bases : List BasisId) (x y : List ℕ) (k l : Codes) (m n : ℕ) (a b c : Combination)
    (first : IsAnswer (basis ∷ []) m (product (element basis x) (element basis y)) a) (others : IsAnswer bases n (product (of_key bases k) (of_key bases l)) b)
    (is : IsTensor a b c) (canonical : IsCanonical c.rank c.den c.terms) where
  -- what the keys of the tensor product are
  tensor_key : (key : Codes) → ((left : Codes) × (right : Codes) × HasKey a.terms left × HasKey b.terms right × (key ≡ left ++ right))
      → AreIndices (basis ∷ bases) key × (total_degree (basis ∷ bases) key ≡ m + n)
  tensor_key key (left, right, l, r, e) =
      rw e (
        indices-append (basis ∷ []) bases left right (first.indices left l) (others.indices right r),
        total_degree-append (basis ∷ []) bases left right (first.indices left l) ∙ (λ i. first.degrees left l i + others.degrees right r i),
      )

  -- it is over 1
  tensor_whole : c.den ≡ 1
  tensor_whole =
      let product : a.den * b.den ≡ 1 = λ i. first.whole i * others.whole i in
      omega (arith, is.den, product, canonical.lowest.positive)

  -- what it reads as
  tensor_product_reads : (ps : Codes) → ArePoints (map kind_of (basis ∷ bases)) ps
      → AgreeAt (leaf (basis ∷ bases) 1 c.terms) (product (of_key (basis ∷ bases) (x ∷ k)) (of_key (basis ∷ bases) (y ∷ l))) ps
  tensor_product_reads [] points = absurd points
  tensor_product_reads (p ∷ ps) points =
      let sizes : length (p ∷ ps) ≡ length (basis ∷ []) + length bases = omega (arith, length-points_over bases ps points.1) in
      let terms : AreTerms (length (basis ∷ [])) a.terms = subst (λ r. AreTerms r a.terms) first.rank first.canonical.ordered in
      let left : numerator (leaf (basis ∷ []) 1 a.terms) (p ∷ []) ≡ numerator (product (element basis x) (element basis y)) (p ∷ []) =
      *ℤ-pos_cancel (numerator (leaf (basis ∷ []) 1 a.terms) (p ∷ [])) (numerator (product (element basis x) (element basis y)) (p ∷ [])) 1 (omega arith) (first.reads (p ∷ []) (points.0, tt)) in
      let right : numerator (leaf bases 1 b.terms) ps ≡ numerator (product (of_key bases k) (of_key bases l)) ps =
      *ℤ-pos_cancel (numerator (leaf bases 1 b.terms) ps) (numerator (product (of_key bases k) (of_key bases l)) ps) 1 (omega arith) (others.reads ps points.1) in
      let weight = λ (key : Codes). pos (occurrence (basis ∷ bases) key (p ∷ ps)) in
      let whole : weighed weight c.terms ≡ weighed (λ left. weighed (λ right. weight (left ++ right)) b.terms) a.terms =
      over_one (weighed weight c.terms) (weighed (λ left. weighed (λ right. weight (left ++ right)) b.terms) a.terms) a.den b.den c.den first.whole others.whole tensor_whole (is.weighs weight) in
      ap (λ z. z *ℤ pos 1) (whole
      ∙ weighed-tensor (basis ∷ []) bases a.terms b.terms (p ∷ ps) terms sizes
      ∙ (λ i. left i *ℤ right i)
      ∙ sym (numerator-product_more basis bases x y p k l ps))

  -- so it is the product of the keys with a component more
  pub tensor_answer : IsAnswer (basis ∷ bases) (m + n) (product (of_key (basis ∷ bases) (x ∷ k)) (of_key (basis ∷ bases) (y ∷ l))) c
  tensor_answer = record {
    canonical = canonical;
    rank = is.rank ∙ (λ i. first.rank i + others.rank i) ∙ one-add (length bases);
    whole = tensor_whole;
    small = let e : 5 * (m + n) ≡ 5 * m + 5 * n = omega arith in
        rw (e, pow-add 2 (5 * m) (5 * n)) (omega (arith, is.norm, mul-le-mul first.small others.small));
    indices = λ key has. (tensor_key key (is.keys key has)).0;
    degrees = λ key has. (tensor_key key (is.keys key has)).1;
    reads = tensor_product_reads;
  }

-- the least of some limits is at most the least of those behind the first
least_limit-others : (basis : BasisId) (bases : List BasisId) → 1 ≤ length bases → least_limit (basis ∷ bases) ≤ least_limit bases
least_limit-others basis [] some = absurd (omega arith)
least_limit-others basis (next ∷ bases) some = omega arith

-- where two keys have a product, so have those behind their first codes
pub other_factors : (basis : BasisId) (bases : List BasisId) (x y : List ℕ) (k l : Codes) → AreFactorKeys (basis ∷ bases) (x ∷ k) (y ∷ l) → 1 ≤ length bases → AreFactorKeys bases k l
other_factors basis bases x y k l h some =
    record { built = h.built.1; left_indices = h.left_indices.1; right_indices = h.right_indices.1; degree = omega (arith, h.degree, least_limit-others basis bases some) }

-- where there is one component, the product of its codes is that of the keys
pub one_component : (basis : BasisId) (bases : List BasisId) (x y : List ℕ) (k l : Codes) (c : Combination) → length bases ≡ 0 → AreFactorKeys (basis ∷ bases) (x ∷ k) (y ∷ l)
    → IsAnswer (basis ∷ []) (degree_of basis x + degree_of basis y) (product (element basis x) (element basis y)) c
    → IsProductOfKeys (basis ∷ bases) (x ∷ k) (y ∷ l) c
one_component basis (next ∷ bases) x y k l c none h is = absurd (omega arith)
one_component basis [] x y (z ∷ k) l c none h is = absurd h.left_indices.1
one_component basis [] x y [] (z ∷ l) c none h is = absurd h.right_indices.1
one_component basis [] x y [] [] c none h is =
    let d = degree_of basis x in
    let e = degree_of basis y in
    let sum : d + e ≡ d + 0 + (e + 0) = omega arith in
    subst (λ n. IsAnswer (basis ∷ []) n (product (element basis x) (element basis y)) c) sum is

-- with a component more it is the tensor product
pub more_components : (basis : BasisId) (bases : List BasisId) (x y : List ℕ) (k l : Codes) (a b c : Combination)
    → IsAnswer (basis ∷ []) (degree_of basis x + degree_of basis y) (product (element basis x) (element basis y)) a
    → IsProductOfKeys bases k l b → IsTensor a b c → IsCanonical c.rank c.den c.terms → IsProductOfKeys (basis ∷ bases) (x ∷ k) (y ∷ l) c
more_components basis bases x y k l a b c first others is canonical =
    let all = basis ∷ bases in
    let sum : (degree_of basis x + degree_of basis y) + (total_degree bases k + total_degree bases l) ≡ total_degree all (x ∷ k) + total_degree all (y ∷ l) = omega arith in
    subst (λ n. IsAnswer all n (product (of_key all (x ∷ k)) (of_key all (y ∷ l))) c) sum
    (tensor_answer basis bases x y k l _ _ a b c first others is canonical)

-- a list from a place on, by what is read there
pub drop-read : {A : Type 0} (xs : List A) (skipped : ℕ) (x : A) → skipped < length xs → x ≡ slice_index_or xs (skipped + 1 - 1) x → drop skipped xs ≡ x ∷ drop (skipped + 1) xs
drop-read xs skipped x lt read =
    let same : skipped + 1 - 1 ≡ skipped = omega arith in
    let here : x ≡ slice_index_or xs skipped x = rw same at read in
    drop-cons xs skipped x lt ∙ (λ i. sym here i ∷ drop (sym (add-one skipped) i) xs)

-- a key of indices has a code for each component
pub indices_rank : (bases : List BasisId) (key : Codes) → AreIndices bases key → length key ≡ length bases
indices_rank [] [] h = refl
indices_rank [] (code ∷ key) h = absurd h
indices_rank (basis ∷ bases) [] h = absurd h
indices_rank (basis ∷ bases) (code ∷ key) h = omega (arith, indices_rank bases key h.1)

-- the norms of two products of degrees up to 10 in all have room
pub norms_room : (p q m n : ℕ) → p ≤ 2 ^ (5 * m) → q ≤ 2 ^ (5 * n) → m + n ≤ 10 → p * q < 2 ^ 127
norms_room p q m n left right within =
    let degrees : 5 * m + 5 * n ≤ 50 = omega arith in
    omega (arith, mul-le-mul left right, pow-add 2 (5 * m) (5 * n), pow_mono degrees)

module _ (bases : List BasisId) (left right : Codes) (skipped : ℕ) (more : skipped < length bases) (h : AreFactorKeys (drop skipped bases) (drop skipped left) (drop skipped right)) where
  -- a code is left of the first key
  left_code : skipped + 1 ≤ length left
  left_code = omega (arith, indices_rank (drop skipped bases) (drop skipped left) h.left_indices, length-drop skipped bases, length-drop skipped left)

  -- and of the second
  right_code : skipped + 1 ≤ length right
  right_code = omega (arith, indices_rank (drop skipped bases) (drop skipped right) h.right_indices, length-drop skipped bases, length-drop skipped right)

module _ (bases : List BasisId) (left right : Codes) (skipped : ℕ) (more : skipped < length bases) (h : AreFactorKeys (drop skipped bases) (drop skipped left) (drop skipped right))
    (basis : BasisId) (x y : List ℕ) (basis_read : basis ≡ slice_index_or bases (skipped + 1 - 1) basis) (left_read : x ≡ slice_index_or left (skipped + 1 - 1) x) (right_read : y ≡ slice_index_or right (skipped + 1 - 1) y) where
  -- the bases that are left, taken apart
  bases_split : drop skipped bases ≡ basis ∷ drop (skipped + 1) bases
  bases_split = drop-read bases skipped basis more basis_read

  -- the codes of the first key that are left
  left_split : drop skipped left ≡ x ∷ drop (skipped + 1) left
  left_split = drop-read left skipped x (omega (arith, left_code bases left right skipped more h)) left_read

  -- and those of the second
  right_split : drop skipped right ≡ y ∷ drop (skipped + 1) right
  right_split = drop-read right skipped y (omega (arith, right_code bases left right skipped more h)) right_read

  -- the keys taken apart have a product
  pub factors_split : AreFactorKeys (basis ∷ drop (skipped + 1) bases) (x ∷ drop (skipped + 1) left) (y ∷ drop (skipped + 1) right)
  factors_split = rw (bases_split, left_split, right_split) at h

  -- and it is that of the keys
  pub product_joined : (c : Combination) → IsProductOfKeys (basis ∷ drop (skipped + 1) bases) (x ∷ drop (skipped + 1) left) (y ∷ drop (skipped + 1) right) c → IsProductOfKeys (drop skipped bases) (drop skipped left) (drop skipped right) c
  product_joined c is = rw (bases_split, left_split, right_split) is
