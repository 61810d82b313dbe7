-- The antipode by recursion over the coproduct.
use Rattle.std.proofs.Common.{◌≡◌, ℕ, ◌*◌, Bool, true, false, List, [], ◌∷◌, refl, sym, ◌∙◌, ap, arith}
use Rattle.std.specs.Prelude.{if◌then◌else◌}
use Rattle.std.proofs.Math.IntN.{ℤ, pos, neg_ℤ, ◌+ℤ◌, ◌*ℤ◌, *ℤ-one, *ℤ-zero, one}
use Rattle.std.proofs.lemmas.Int.{ints}
use Rattle.basis_names.specs.declared.bases.BasisId.{BasisId}
use Rattle.realisations.specs.Bases.{kind_of}
use Rattle.realisations.specs.Codes.{Key}
use Rattle.realisations.specs.Combinations.{HasKey, weighed}
use Rattle.realisations.specs.Exponents.{is_one}
use Rattle.realisations.specs.Indices.{IsIndex, AreIndices}
use Rattle.realisations.specs.Lists.{one_if, same_list}
use Rattle.realisations.specs.Occurrence.{occurs}
use Rattle.realisations.specs.Points.{Kind, exponents, word, Points, IsPoint, ArePoints}
use Rattle.realisations.specs.Readings.{Terms, Reading, leaf, applied, antipode, coproduct, counit, mult, element, of_key, numerator, reads_at, cuts}
use Rattle.realisations.specs.Words.{word_cuts}
use Rattle.realisations.proofs.Linearity.{reads_linearly}
use Rattle.realisations.proofs.TuplesOfPoints.{at_one_point}
use Rattle.coproduct_rules.proofs.Counits.{occurs-nil}
use Rattle.antipode_laws.specs.Recursion.{first_code, second_code, antipode_times, recursion_part}
use Rattle.antipode_laws.specs.Units.{is_unit}
use Rattle.antipode_laws.proofs.AntipodeLaw.{antipode_law}
use Rattle.antipode_laws.proofs.ExponentCuts.{unless, back_zero, over_cuts_same, over_cuts-zero}
use Rattle.antipode_laws.proofs.IgnoredZeros.{leaf_ignores_zeros}
use Rattle.antipode_laws.proofs.IntegerSums.{sum_over_same, sum_over-map}
use Rattle.antipode_laws.proofs.OperationReads.{total, total_mult, total_antipode, over_point_cuts}
use Rattle.antipode_laws.proofs.RankOneReadings.{element_is, antipode_is, coproduct_is, product_is, over_ordinal_sum-nil}
use Rattle.antipode_laws.proofs.ReadAtPoints.{total_at_points, total-weighed, total-times}
use Rattle.antipode_laws.proofs.TakeuchiSums.{takeuchi_same, takeuchi-times_right}
use Rattle.antipode_laws.proofs.UnitElements.{empty_occurs}
use Rattle.antipode_laws.proofs.WeighedKeys.{weighed_same_keys, weighed-add}

-- a product with the unit is the other factor
pub times_unit : (kind : Kind) (f : List ℕ → ℤ) (p : List ℕ) → over_point_cuts kind (λ u v. f u *ℤ pos (one_if (is_unit kind v))) p ≡ f p
unfolding one
times_unit word f [] = omega (arith, ints, *ℤ-one (f []))
times_unit word f (x ∷ p) =
    let shift = sum_over-map (λ (c : List ℕ × List ℕ). f c.0 *ℤ pos (one_if (is_unit word c.1))) (λ (c : List ℕ × List ℕ). (x ∷ c.0, c.1)) (word_cuts p) in
    omega (arith, ints, *ℤ-zero (f []), shift, times_unit word (λ u. f (x ∷ u)) p)
times_unit exponents f p =
    back_zero p (λ u v. f u *ℤ pos (one_if (is_one v))) (f p) (λ v e. ap (λ b. f p *ℤ pos (one_if b)) e ∙ *ℤ-one (f p))
    ∙ ap (λ z. z +ℤ f p) (over_cuts_same p _ (λ u v. pos 0) (λ u v s. nothing (is_one v) (f u)) ∙ over_cuts-zero p)
    ∙ omega (arith, ints)
  where
    nothing : (b : Bool) (z : ℤ) → unless b (z *ℤ pos (one_if b)) ≡ pos 0
    nothing true z = refl
    nothing false z = *ℤ-zero z

-- the antipode on the first of two components, and then their product
abbrev convolved : Reading → List ℕ → ℤ
convolved a p = numerator (applied mult 0 (applied antipode 0 a)) (p ∷ [])

module _ (basis : BasisId) where
  -- the readings of a pair of codes, of the antipode of the first, and of the second
  abbrev pair : Key → Reading
  pair key = of_key (basis ∷ basis ∷ []) key

  abbrev turned : Key → List ℕ → ℤ
  turned key p = numerator (applied antipode 0 (element basis (first_code key))) (p ∷ [])

  abbrev second : Key → List ℕ → ℤ
  second key p = numerator (element basis (second_code key)) (p ∷ [])

  -- a pair reads as a product
  pair_is : (a b u v : List ℕ) → numerator (pair (a ∷ b ∷ [])) (u ∷ v ∷ []) ≡ numerator (element basis a) (u ∷ []) *ℤ numerator (element basis b) (v ∷ [])
  pair_is a b u v = by_tests (occurs basis a u) (occurs basis b v)
    where
      by_tests : (s t : Bool) → (pos 1 *ℤ pos (one_if s * (one_if t * 1))) +ℤ pos 0 ≡ ((pos 1 *ℤ pos (one_if s * 1)) +ℤ pos 0) *ℤ ((pos 1 *ℤ pos (one_if t * 1)) +ℤ pos 0)
      by_tests true true = refl
      by_tests true false = refl
      by_tests false true = refl
      by_tests false false = refl

  -- the antipode on the first of a pair, and then the product, is the product with the antipode of the first
  pair_convolved : (a b p : List ℕ) → convolved (pair (a ∷ b ∷ [])) p ≡ numerator (antipode_times basis (a ∷ b ∷ [])) (p ∷ [])
  pair_convolved a b p =
      let kind : Kind = kind_of basis in
      total_mult kind (numerator (applied antipode 0 (pair (a ∷ b ∷ [])))) p []
      ∙ sum_over_same _ _
      (λ (c : List ℕ × List ℕ). total_antipode kind (numerator (pair (a ∷ b ∷ []))) c.0 (c.1 ∷ [])
      ∙ takeuchi_same kind _ _ (λ q. pair_is a b q c.1) c.0
      ∙ takeuchi-times_right kind (λ q. numerator (element basis a) (q ∷ [])) (numerator (element basis b) (c.1 ∷ [])) c.0
      ∙ ap (λ z. z *ℤ numerator (element basis b) (c.1 ∷ [])) (sym (antipode_is kind (element basis a) refl c.0)))
      (cuts kind p)
      ∙ sym (product_is kind (applied antipode 0 (element basis a)) refl (element basis b) p)

  -- with the empty code as the second it is the antipode of the first
  unit_convolved : (a p : List ℕ) → convolved (pair (a ∷ [] ∷ [])) p ≡ turned (a ∷ [] ∷ []) p
  unit_convolved a p =
      let kind : Kind = kind_of basis in
      pair_convolved a [] p
      ∙ product_is kind (applied antipode 0 (element basis a)) refl (element basis []) p
      ∙ sum_over_same _ _
      (λ (c : List ℕ × List ℕ). ap (λ z. turned (a ∷ [] ∷ []) c.0 *ℤ z) (element_is basis [] c.1 ∙ ap (λ b. pos (one_if b)) (empty_occurs basis c.1))) (cuts kind p)
      ∙ times_unit kind (turned (a ∷ [] ∷ [])) p

  -- the second code's element at the empty point
  second_at_empty : (b : List ℕ) → IsIndex basis b → numerator (element basis b) ([] ∷ []) ≡ pos (one_if (same_list b []))
  second_at_empty b index = element_is basis b [] ∙ ap (λ t. pos (one_if t)) (occurs-nil basis b index)

  -- what a key adds to the recursion, and what it adds to the antipode itself
  key_convolved : (key : Key) → AreIndices (basis ∷ basis ∷ []) key → (p : List ℕ) → convolved (pair key) p ≡ recursion_part basis p key +ℤ (turned key p *ℤ second key [])
  unfolding one
  key_convolved [] h p = absurd h
  key_convolved (a ∷ []) h p = absurd h.1
  key_convolved (a ∷ b ∷ c ∷ key) h p = absurd h.1.1
  key_convolved (a ∷ [] ∷ []) h p =
      let last : numerator (element basis []) ([] ∷ []) ≡ pos 1 = second_at_empty [] h.1.0 in
      omega (arith, ints, unit_convolved a p, ap (λ z. turned (a ∷ [] ∷ []) p *ℤ z) last, *ℤ-one (turned (a ∷ [] ∷ []) p))
  key_convolved (a ∷ (x ∷ b) ∷ []) h p =
      let none : numerator (element basis (x ∷ b)) ([] ∷ []) ≡ pos 0 = second_at_empty (x ∷ b) h.1.0 in
      omega (arith, ints, pair_convolved a (x ∷ b) p, ap (λ z. turned (a ∷ (x ∷ b) ∷ []) p *ℤ z) none, *ℤ-zero (turned (a ∷ (x ∷ b) ∷ []) p))

-- terms over 1 that read as the coproduct of an index other than the empty one
module _ (basis : BasisId) (code : List ℕ) (ts : Terms) (index : IsIndex basis code) (some : same_list code [] ≡ false)
    (indices : (key : Key) → HasKey ts key → AreIndices (basis ∷ basis ∷ []) key)
    (reads : (qs : Points) → ArePoints (kind_of basis ∷ kind_of basis ∷ []) qs → numerator (leaf (basis ∷ basis ∷ []) 1 ts) qs ≡ numerator (applied coproduct 0 (element basis code)) qs) where
  abbrev kind : Kind
  kind = kind_of basis

  abbrev terms : Reading
  terms = leaf (basis ∷ basis ∷ []) 1 ts

  -- both operations are linear
  convolved_terms : (p : List ℕ) → convolved terms p ≡ weighed (λ key. convolved (pair basis key) p) ts
  convolved_terms p =
      let each : (qs : Points) → numerator (applied antipode 0 terms) qs ≡ weighed (λ key. numerator (applied antipode 0 (pair basis key)) qs) ts =
      λ qs. (λ i. total (λ rs. reads_linearly (basis ∷ basis ∷ []) 1 ts rs i) (reads_at 0 antipode (kind ∷ kind ∷ []) qs))
      ∙ total-weighed (λ key. numerator (pair basis key)) ts (reads_at 0 antipode (kind ∷ kind ∷ []) qs) in
      (λ i. total (λ qs. each qs i) (reads_at 0 mult (kind ∷ kind ∷ []) (p ∷ [])))
      ∙ total-weighed (λ key. numerator (applied antipode 0 (pair basis key))) ts (reads_at 0 mult (kind ∷ kind ∷ []) (p ∷ []))

  -- all terms together give nothing
  convolution_vanishes : (p : List ℕ) → IsPoint kind p → weighed (λ key. convolved (pair basis key) p) ts ≡ pos 0
  convolution_vanishes p h =
      sym (convolved_terms p)
      ∙ total_at_points mult 0 (kind ∷ kind ∷ []) _ (numerator (applied antipode 0 (applied coproduct 0 (element basis code))))
      (λ qs k. total_at_points antipode 0 (kind ∷ kind ∷ []) (numerator terms) (numerator (applied coproduct 0 (element basis code))) reads (λ e. absurd (cc)) qs k)
      (λ e. refl) (p ∷ []) (h, tt)
      ∙ antipode_law.first 0 (element basis code) (leaf_ignores_zeros 0 (basis ∷ []) 1 ((pos 1, code ∷ []) ∷ [])) (p ∷ [])
      ∙ ap (λ z. if is_unit kind p then z else pos 0) no_counit ∙ by_test (is_unit kind p)
    where
      no_counit : numerator (applied counit 0 (element basis code)) [] ≡ pos 0
      no_counit = omega (arith, ints, element_is basis code [], ap (λ b. pos (one_if b)) (occurs-nil basis code index ∙ some))

      by_test : (b : Bool) → (if b then pos 0 else pos 0) ≡ pos 0
      by_test true = refl
      by_test false = refl

  -- the terms with the empty code as their second are the element
  element_read : (q : List ℕ) → IsPoint kind q → numerator (element basis code) (q ∷ []) ≡ weighed (λ key. numerator (element basis (first_code key)) (q ∷ []) *ℤ second basis key []) ts
  element_read q h =
      sym (coproduct_is kind (element basis code) refl q [] ∙ over_ordinal_sum-nil kind (λ p. numerator (element basis code) (p ∷ [])) q)
      ∙ sym (reads (q ∷ [] ∷ []) (h, (empty_point kind, tt)))
      ∙ reads_linearly (basis ∷ basis ∷ []) 1 ts (q ∷ [] ∷ [])
      ∙ weighed_same_keys _ _ ts (λ key has. of_shape key (indices key has))
    where
      empty_point : (kind : Kind) → IsPoint kind []
      empty_point exponents = tt
      empty_point word = tt

      of_shape : (key : Key) → AreIndices (basis ∷ basis ∷ []) key → numerator (pair basis key) (q ∷ [] ∷ []) ≡ numerator (element basis (first_code key)) (q ∷ []) *ℤ second basis key []
      of_shape [] h = absurd h
      of_shape (a ∷ []) h = absurd h.1
      of_shape (a ∷ b ∷ []) h = pair_is basis a b q []
      of_shape (a ∷ b ∷ c ∷ key) h = absurd h.1.1

  -- so their antipodes are the antipode
  antipode_read : (p : List ℕ) → IsPoint kind p → numerator (applied antipode 0 (element basis code)) (p ∷ []) ≡ weighed (λ key. turned basis key p *ℤ second basis key []) ts
  antipode_read p h =
      total_at_points antipode 0 (kind ∷ []) (numerator (element basis code)) (λ qs. weighed (λ key. numerator (element basis (first_code key)) qs *ℤ second basis key []) ts)
      (at_one_point kind (λ qs. numerator (element basis code) qs ≡ weighed (λ key. numerator (element basis (first_code key)) qs *ℤ second basis key []) ts) element_read)
      (λ e. absurd (cc)) (p ∷ []) (h, tt)
      ∙ total-weighed (λ key qs. numerator (element basis (first_code key)) qs *ℤ second basis key []) ts (reads_at 0 antipode (kind ∷ []) (p ∷ []))
      ∙ weighed_same_keys _ _ ts (λ key has. total-times (numerator (element basis (first_code key))) (second basis key []) (reads_at 0 antipode (kind ∷ []) (p ∷ [])))

  pub recursion : (p : List ℕ) → IsPoint kind p → numerator (applied antipode 0 (element basis code)) (p ∷ []) ≡ neg_ℤ (weighed (recursion_part basis p) ts)
  recursion p h =
      let split : weighed (λ key. convolved (pair basis key) p) ts ≡ weighed (recursion_part basis p) ts +ℤ weighed (λ key. turned basis key p *ℤ second basis key []) ts =
      weighed_same_keys _ _ ts (λ key has. key_convolved basis key (indices key has) p) ∙ weighed-add (recursion_part basis p) (λ key. turned basis key p *ℤ second basis key []) ts in
      omega (arith, ints, split, convolution_vanishes p h, antipode_read p h)
