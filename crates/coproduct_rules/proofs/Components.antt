-- An operation on a component of a key leaves the other components, and so a coproduct rule holds on each component.
use Rattle.std.proofs.Common.{◌≡◌, ℕ, zero, suc, ◌*◌, Bool, true, false, List, [], ◌∷◌, ◌++◌, map, refl, sym, ◌∙◌, ap, arith, ◌<◌, length}
use Rattle.std.specs.Prelude.{slice_index_or, if◌then◌else◌}
use Rattle.std.proofs.Math.IntN.{ℤ, pos, ◌+ℤ◌, ◌*ℤ◌, neg_ℤ, *ℤ_comm, *ℤ-zero}
use Rattle.std.proofs.lemmas.Int.{ints}
use Rattle.hopf_num.proofs.Ring.{*ℤ-+ℤ, +ℤ-*ℤ, *ℤ-neg_ℤ, *ℤ_assoc}
use Rattle.realisations.specs.Lists.{one_if, int_sum, with_sign, same_list}
use Rattle.realisations.specs.Indices.{AreIndices}
use Rattle.basis_names.specs.declared.bases.BasisId.{BasisId}
use Rattle.realisations.specs.Bases.{kind_of}
use Rattle.realisations.specs.Occurrence.{occurs}
use Rattle.realisations.specs.Readings.{leaf, applied, coproduct, mult, product, element, of_key, numerator, occurrence, on_ordinal_sum, reads_at, counit, cuts}
use Rattle.coproduct_laws.specs.Coproducts.{terms_of_pairs}
use Rattle.coproduct_rules.specs.Components.{doubled_at, with_pair_at, ComponentLaw, without_at, ComponentCounitLaw, ComponentMultLaw, LaterComponentLaw}
use Rattle.coproduct_rules.proofs.Counits.{occurs-nil, mult_of_key}
use Rattle.coproduct_laws.proofs.CoproductCounts.{at_pair, at_points}
use Rattle.coproduct_rules.proofs.KeyReadings.{numerator-pairs, numerator-coproduct}

-- one component in front

-- a factor 1 or 0 in front of a product
front_factor : (o m : ℕ) (b : Bool) → o ≡ one_if b → pos 1 *ℤ pos (o * m) ≡ pos o *ℤ (pos 1 *ℤ pos m)
front_factor o m true e = rw e (omega (arith, ints))
front_factor o m false e = rw e (omega (arith, ints))

-- a key with one more code in front reads as the product of its occurrence and the rest
numerator-after : (basis : BasisId) (bases : List BasisId) (code : List ℕ) (key : List (List ℕ)) (p : List ℕ) (ps : List (List ℕ))
    → numerator (of_key (basis ∷ bases) (code ∷ key)) (p ∷ ps) ≡ pos (one_if (occurs basis code p)) *ℤ numerator (of_key bases key) ps
numerator-after basis bases code key p ps = by_test (occurs basis code p) (occurrence bases key ps)
  where
    by_test : (b : Bool) (m : ℕ) → (pos 1 *ℤ pos (one_if b * m)) +ℤ pos 0 ≡ pos (one_if b) *ℤ ((pos 1 *ℤ pos m) +ℤ pos 0)
    by_test true m = omega (arith, ints)
    by_test false m = omega (arith, ints)

-- a sign comes out of a product
with_sign-times : (k : ℕ) (y z : ℤ) → with_sign k (y *ℤ z) ≡ y *ℤ with_sign k z
with_sign-times zero y z = refl
with_sign-times (suc k) y z = ap neg_ℤ (with_sign-times k y z) ∙ sym (*ℤ-neg_ℤ y (with_sign k z))

-- nothing, times 1 or 0
times-zero : (b : Bool) → pos 0 ≡ pos (one_if b) *ℤ pos 0
times-zero true = refl
times-zero false = refl

-- an operation on a later component multiplies by the occurrence of the first
pub operation_after : LaterComponentLaw
operation_after operation n basis bases code key p ps = each (reads_at n operation (map kind_of bases) ps)
  where
    each : (rs : List (ℕ × List (List ℕ)))
        → int_sum (map (λ (r : ℕ × List (List ℕ)). with_sign r.0 (numerator (of_key (basis ∷ bases) (code ∷ key)) r.1)) (map (λ (r : ℕ × List (List ℕ)). (r.0, p ∷ r.1)) rs))
        ≡ pos (one_if (occurs basis code p)) *ℤ int_sum (map (λ (r : ℕ × List (List ℕ)). with_sign r.0 (numerator (of_key bases key) r.1)) rs)
    each [] = times-zero (occurs basis code p)
    each (r ∷ rs) =
        let first = ap (λ z. with_sign r.0 z) (numerator-after basis bases code key p r.1) ∙ with_sign-times r.0 (pos (one_if (occurs basis code p))) (numerator (of_key bases key) r.1) in
        (λ i. first i +ℤ each rs i)
        ∙ sym (*ℤ-+ℤ (pos (one_if (occurs basis code p))) (with_sign r.0 (numerator (of_key bases key) r.1)) (int_sum (map (λ (r : ℕ × List (List ℕ)). with_sign r.0 (numerator (of_key bases key) r.1)) rs)))

-- the coproduct of the first component multiplies by the occurrence of the others
pub coproduct_first : (basis : BasisId) (bases : List BasisId) (code : List ℕ) (key : List (List ℕ)) (u v : List ℕ) (ps : List (List ℕ))
    → numerator (applied coproduct 0 (of_key (basis ∷ bases) (code ∷ key))) (u ∷ v ∷ ps) ≡ pos (at_points basis code (on_ordinal_sum (kind_of basis) u v) * occurrence bases key ps)
coproduct_first basis bases code key u v ps = each (on_ordinal_sum (kind_of basis) u v)
  where
    each : (xs : List (List ℕ)) → int_sum (map (λ (r : ℕ × List (List ℕ)). with_sign r.0 (numerator (of_key (basis ∷ bases) (code ∷ key)) r.1)) (map (λ p. (0, p ∷ ps)) xs)) ≡ pos (at_points basis code xs * occurrence bases key ps)
    each [] = omega (arith, ints)
    each (x ∷ xs) = omega (arith, ints, each xs)

-- the pairs before the other codes read as their number times the occurrence of the others
pairs_first : (basis : BasisId) (bases : List BasisId) (key : List (List ℕ)) (u v : List ℕ) (ps : List (List ℕ)) (pairs : List (List ℕ × List ℕ))
    → numerator (leaf (basis ∷ basis ∷ bases) 1 (map (λ e. (pos 1, e.0 ∷ e.1 ∷ key)) pairs)) (u ∷ v ∷ ps) ≡ pos (at_pair basis u v pairs * occurrence bases key ps)
pairs_first basis bases key u v ps [] = omega (arith, ints)
pairs_first basis bases key u v ps (e ∷ pairs) = omega (arith, ints, pairs_first basis bases key u v ps pairs)

-- terms with one more code in front read as the product of its occurrence and the rest
pairs_after : (basis : BasisId) (bases : List BasisId) (code p : List ℕ) (f : List ℕ × List ℕ → List (List ℕ)) (ps : List (List ℕ)) (pairs : List (List ℕ × List ℕ))
    → numerator (leaf (basis ∷ bases) 1 (map (λ e. (pos 1, code ∷ f e)) pairs)) (p ∷ ps) ≡ pos (one_if (occurs basis code p)) *ℤ numerator (leaf bases 1 (map (λ e. (pos 1, f e)) pairs)) ps
pairs_after basis bases code p f ps [] = times-zero (occurs basis code p)
pairs_after basis bases code p f ps (e ∷ pairs) =
    (λ i. front_factor (one_if (occurs basis code p)) (occurrence bases (f e) ps) (occurs basis code p) refl i +ℤ pairs_after basis bases code p f ps pairs i)
    ∙ sym (*ℤ-+ℤ (pos (one_if (occurs basis code p))) (pos 1 *ℤ pos (occurrence bases (f e) ps)) (numerator (leaf bases 1 (map (λ e. (pos 1, f e)) pairs)) ps))

-- a coproduct rule holds on each component
pub component_rule : ComponentLaw
component_rule zero [] key pairs h ps points = absurd h
component_rule zero (basis ∷ bases) [] pairs h ps points = absurd h
component_rule zero (basis ∷ bases) (code ∷ key) pairs h [] points = absurd points
component_rule zero (basis ∷ bases) (code ∷ key) pairs h (u ∷ []) points = absurd points.1
component_rule zero (basis ∷ bases) (code ∷ key) pairs h (u ∷ v ∷ ps) points =
    ap (λ z. z *ℤ pos 1) (pairs_first basis bases key u v ps pairs ∙ ap (λ n. pos (n * occurrence bases key ps)) counts ∙ sym (coproduct_first basis bases code key u v ps))
  where
    by_numerators : (m n : ℤ) (a b : ℕ) → m *ℤ pos 1 ≡ n *ℤ pos 1 → m ≡ pos a → n ≡ pos b → a ≡ b
    by_numerators m n a b e p q =
        let same : pos a *ℤ pos 1 ≡ pos b *ℤ pos 1 = ap (λ z. z *ℤ pos 1) (sym p) ∙ e ∙ ap (λ z. z *ℤ pos 1) q in
        omega (arith, ints, same)

    counts : at_pair basis u v pairs ≡ at_points basis code (on_ordinal_sum (kind_of basis) u v)
    counts =
        by_numerators (numerator (leaf (basis ∷ basis ∷ []) 1 (terms_of_pairs pairs)) (u ∷ v ∷ [])) (numerator (applied coproduct 0 (element basis code)) (u ∷ v ∷ []))
        (at_pair basis u v pairs) (at_points basis code (on_ordinal_sum (kind_of basis) u v)) (h u v points.0 points.1.0) (numerator-pairs basis u v pairs) (numerator-coproduct basis code u v)
component_rule (suc n) [] key pairs h ps points = absurd h
component_rule (suc n) (basis ∷ bases) [] pairs h ps points = absurd h
component_rule (suc n) (basis ∷ bases) (code ∷ key) pairs h [] points = absurd points
component_rule (suc n) (basis ∷ bases) (code ∷ key) pairs h (p ∷ ps) points =
    let rest : numerator (leaf (doubled_at n bases) 1 (map (λ e. (pos 1, with_pair_at n e key)) pairs)) ps ≡ numerator (applied coproduct n (of_key bases key)) ps
    = whole _ _ (component_rule n bases key pairs h ps points.1) in
    ap (λ z. z *ℤ pos 1)
    (pairs_after basis (doubled_at n bases) code p (λ e. with_pair_at n e key) ps pairs
    ∙ ap (λ z. pos (one_if (occurs basis code p)) *ℤ z) rest
    ∙ sym (operation_after coproduct n basis bases code key p ps))
  where
    whole : (y z : ℤ) → y *ℤ pos 1 ≡ z *ℤ pos 1 → y ≡ z
    whole y z e = omega (arith, ints, e)

-- the counit of the first component multiplies by its occurrence at the empty point
pub counit_first : (basis : BasisId) (bases : List BasisId) (code : List ℕ) (key : List (List ℕ)) (ps : List (List ℕ))
    → numerator (applied counit 0 (of_key (basis ∷ bases) (code ∷ key))) ps ≡ pos (one_if (occurs basis code [])) *ℤ numerator (of_key bases key) ps
counit_first basis bases code key ps = omega (arith, ints, numerator-after basis bases code key [] ps)

-- the counit rule holds on each component
counit_at : (n : ℕ) (bases : List BasisId) (key : List (List ℕ)) → n < length bases → AreIndices bases key → (ps : List (List ℕ))
    → numerator (applied counit n (of_key bases key)) ps ≡ pos (one_if (same_list (slice_index_or key n []) [])) *ℤ numerator (of_key (without_at n bases) (without_at n key)) ps
counit_at n [] key h indices ps = absurd (omega arith)
counit_at n (basis ∷ bases) [] h indices ps = absurd indices
counit_at zero (basis ∷ bases) (code ∷ key) h indices ps =
    counit_first basis bases code key ps ∙ ap (λ b. pos (one_if b) *ℤ numerator (of_key bases key) ps) (occurs-nil basis code indices.0)
counit_at (suc n) (basis ∷ bases) (code ∷ key) h indices [] = nothing (same_list (slice_index_or key n []) [])
  where
    nothing : (b : Bool) → pos 0 ≡ pos (one_if b) *ℤ ((pos 1 *ℤ pos 0) +ℤ pos 0)
    nothing true = refl
    nothing false = refl
counit_at (suc n) (basis ∷ bases) (code ∷ key) h indices (p ∷ ps) =
    operation_after counit n basis bases code key p ps
    ∙ ap (λ z. pos (one_if (occurs basis code p)) *ℤ z) (counit_at n bases key (omega arith) indices.1 ps)
    ∙ swap (pos (one_if (occurs basis code p))) (pos (one_if (same_list (slice_index_or key n []) []))) (numerator (of_key (without_at n bases) (without_at n key)) ps)
    ∙ ap (λ z. pos (one_if (same_list (slice_index_or key n []) [])) *ℤ z) (sym (numerator-after basis (without_at n bases) code (without_at n key) p ps))
  where
    swap : (x y z : ℤ) → x *ℤ (y *ℤ z) ≡ y *ℤ (x *ℤ z)
    swap x y z = *ℤ_assoc x y z ∙ ap (λ w. w *ℤ z) (*ℤ_comm x y) ∙ sym (*ℤ_assoc y x z)

pub counit_component : ComponentCounitLaw
counit_component n bases key h indices ps =
    ap (λ z. z *ℤ pos 1) (by_test (same_list (slice_index_or key n []) []) ∙ sym (counit_at n bases key h indices ps))
  where
    by_test : (b : Bool) → numerator (leaf (without_at n bases) 1 (if b then (pos 1, without_at n key) ∷ [] else [])) ps ≡ pos (one_if b) *ℤ numerator (of_key (without_at n bases) (without_at n key)) ps
    by_test true = omega (arith, ints)
    by_test false = omega (arith, ints)

-- the product of the first two components
mult_first : (basis : BasisId) (bases : List BasisId) (a b : List ℕ) (key : List (List ℕ)) (p : List ℕ) (ps : List (List ℕ))
    → numerator (applied mult 0 (of_key (basis ∷ basis ∷ bases) (a ∷ b ∷ key))) (p ∷ ps) ≡ numerator (product (element basis a) (element basis b)) (p ∷ []) *ℤ numerator (of_key bases key) ps
mult_first basis bases a b key p ps =
    each (cuts (kind_of basis) p) ∙ ap (λ z. z *ℤ numerator (of_key bases key) ps) (by_ones _ _ (mult_of_key basis a b p))
  where
    by_ones : (y z : ℤ) → y *ℤ pos 1 ≡ z *ℤ pos 1 → y ≡ z
    by_ones y z e = omega (arith, ints, e)

    two : (s t : Bool) (m : ℕ) → (pos 1 *ℤ pos (one_if s * (one_if t * m))) +ℤ pos 0 ≡ ((pos 1 *ℤ pos (one_if s * (one_if t * 1))) +ℤ pos 0) *ℤ ((pos 1 *ℤ pos m) +ℤ pos 0)
    two true true m = omega (arith, ints)
    two true false m = omega (arith, ints)
    two false true m = omega (arith, ints)
    two false false m = omega (arith, ints)

    each : (cs : List (List ℕ × List ℕ))
        → int_sum (map (λ (r : ℕ × List (List ℕ)). with_sign r.0 (numerator (of_key (basis ∷ basis ∷ bases) (a ∷ b ∷ key)) r.1)) (map (λ c. (0, c.0 ∷ c.1 ∷ ps)) cs))
        ≡ int_sum (map (λ (r : ℕ × List (List ℕ)). with_sign r.0 (numerator (of_key (basis ∷ basis ∷ []) (a ∷ b ∷ [])) r.1)) (map (λ c. (0, c.0 ∷ c.1 ∷ [])) cs)) *ℤ numerator (of_key bases key) ps
    each [] = sym (*ℤ_comm (pos 0) (numerator (of_key bases key) ps) ∙ *ℤ-zero (numerator (of_key bases key) ps))
    each (c ∷ cs) =
        (λ i. two (occurs basis a c.0) (occurs basis b c.1) (occurrence bases key ps) i +ℤ each cs i)
        ∙ sym (+ℤ-*ℤ (numerator (of_key (basis ∷ basis ∷ []) (a ∷ b ∷ [])) (c.0 ∷ c.1 ∷ []))
        (int_sum (map (λ (r : ℕ × List (List ℕ)). with_sign r.0 (numerator (of_key (basis ∷ basis ∷ []) (a ∷ b ∷ [])) r.1)) (map (λ c. (0, c.0 ∷ c.1 ∷ [])) cs))) (numerator (of_key bases key) ps))

-- and of any two neighbouring ones
pub mult_at : ComponentMultLaw
mult_at [] after basis [] back a b [] rs p ef ep =
    mult_first basis after a b back p rs
    ∙ ap (λ z. z *ℤ numerator (of_key after back) rs) (one_times (numerator (product (element basis a) (element basis b)) (p ∷ [])))
  where
    one_times : (z : ℤ) → z ≡ ((pos 1 *ℤ pos 1) +ℤ pos 0) *ℤ z
    one_times z = omega (arith, ints)
mult_at [] after basis (c ∷ front) back a b ps rs p ef ep = absurd (omega (arith, ef))
mult_at [] after basis [] back a b (q ∷ ps) rs p ef ep = absurd (omega (arith, ep))
mult_at (first ∷ before) after basis [] back a b ps rs p ef ep = absurd (omega (arith, ef))
mult_at (first ∷ before) after basis (c ∷ front) back a b [] rs p ef ep = absurd (omega (arith, ep))
mult_at (first ∷ before) after basis (c ∷ front) back a b (q ∷ ps) rs p ef ep =
    let product_here = numerator (product (element basis a) (element basis b)) (p ∷ []) in
    let others = numerator (of_key after back) rs in
    operation_after mult (length before) first (before ++ basis ∷ basis ∷ after) c (front ++ a ∷ b ∷ back) q (ps ++ p ∷ rs)
    ∙ ap (λ z. pos (one_if (occurs first c q)) *ℤ z) (mult_at before after basis front back a b ps rs p (omega (arith, ef)) (omega (arith, ep)))
    ∙ *ℤ_assoc (pos (one_if (occurs first c q))) (numerator (of_key before front) ps *ℤ product_here) others
    ∙ ap (λ z. z *ℤ others) (*ℤ_assoc (pos (one_if (occurs first c q))) (numerator (of_key before front) ps) product_here
    ∙ ap (λ z. z *ℤ product_here) (sym (numerator-after first before c front q ps)))
