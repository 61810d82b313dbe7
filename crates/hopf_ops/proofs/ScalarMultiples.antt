-- The product with a scalar as a multiple.
use Rattle.std.proofs.Common.{◌≡◌, ◌*◌, ◌^◌, ◌<◌, inl, inr, [], ◌∷◌, ◌++◌, length, refl, sym, ◌∙◌, ap, subst, arith, unsigned_abs}
use Rattle.std.specs.Prelude.{All}
use Rattle.std.proofs.Math.IntN.{ℤ, pos, ◌+ℤ◌, ◌*ℤ◌, *ℤ_comm, *ℤ-zero}
use Rattle.std.proofs.Math.Nat.{mul_comm}
use Rattle.std.proofs.lemmas.Int.{ints}
use Rattle.std.proofs.lemmas.List.{append-nil}
use Rattle.hopf_num.specs.Fractions.{Ratio}
use Rattle.hopf_num.proofs.Ring.{*ℤ_assoc, +ℤ-*ℤ}
use Rattle.realisations.specs.Combinations.{Combination, IsCanonical, AreTerms, norm_of, weighed}
use Rattle.realisations.specs.Readings.{Terms, leaf, tensor, AgreeAt}
use Rattle.realisations.proofs.Coefficients.{Codes}
use Rattle.linear_combos.specs.Combos.{IsMultiple}
use Rattle.hopf_laws.specs.Values.{Expansion, IsValue, Expands, reading_of, ratio_of}
use Rattle.hopf_laws.proofs.Scalars.{number_of, scalar_terms, norm-scalar, no_bases, ratio-scalar}
use Rattle.basis_routes.specs.Checks.{Passes}
use Rattle.hopf_ops.specs.Operations.{product_room}
use Rattle.hopf_ops.proofs.MultiplesOfValues.{multiple_value}
use Rattle.hopf_ops.proofs.ProductsOfValues.{room_of_dens, room_of_norms}
use Rattle.hopf_ops.proofs.TensorsOfValues.{WeighsAsTensor, tensor_reads}

-- a scalar behind each key
weighed-right : (w : Codes → ℤ) (n : ℤ) (ts : Terms) → weighed (λ left. weighed (λ right. w (left ++ right)) ((n, []) ∷ [])) ts ≡ weighed w ts *ℤ n
weighed-right w n [] = omega (arith, ints)
weighed-right w n (t ∷ ts) =
    let same : w (t.1 ++ []) ≡ w t.1 = ap w (append-nil t.1) in
    let head : t.0 *ℤ (n *ℤ w (t.1 ++ []) +ℤ pos 0) ≡ (t.0 *ℤ w t.1) *ℤ n =
    ap (λ z. t.0 *ℤ z) (none_more (n *ℤ w (t.1 ++ [])) ∙ ap (λ z. n *ℤ z) same ∙ *ℤ_comm n (w t.1)) ∙ *ℤ_assoc t.0 (w t.1) n in
    omega (arith, ints, head, weighed-right w n ts, +ℤ-*ℤ (t.0 *ℤ w t.1) (weighed w ts) n)
  where
    none_more : (z : ℤ) → z +ℤ pos 0 ≡ z
    none_more z = omega (arith, ints)

weighed-right_none : (w : Codes → ℤ) (ts : Terms) → weighed (λ left. weighed (λ right. w (left ++ right)) []) ts ≡ pos 0
weighed-right_none w [] = refl
weighed-right_none w (t ∷ ts) = omega (arith, ints, *ℤ-zero t.0, weighed-right_none w ts)

-- whatever the terms of a scalar are
scalar_right : (w : Codes → ℤ) (ts us : Terms) → AreTerms 0 us → weighed (λ left. weighed (λ right. w (left ++ right)) us) ts ≡ weighed w ts *ℤ number_of us
scalar_right w ts us h = elim (scalar_terms us h) [
  | inl none ↦ ap (λ vs. weighed (λ left. weighed (λ right. w (left ++ right)) vs) ts) none ∙ weighed-right_none w ts ∙ sym (*ℤ-zero (weighed w ts)) ∙ ap (λ vs. weighed w ts *ℤ number_of vs) (sym none)
  | inr some ↦ ap (λ vs. weighed (λ left. weighed (λ right. w (left ++ right)) vs) ts) some ∙ weighed-right w (number_of us) ts
]

scalar_left : (w : Codes → ℤ) (ts us : Terms) → AreTerms 0 us → weighed (λ left. weighed (λ right. w (left ++ right)) ts) us ≡ weighed w ts *ℤ number_of us
scalar_left w ts us h = elim (scalar_terms us h) [
  | inl none ↦ ap (weighed (λ left. weighed (λ right. w (left ++ right)) ts)) none ∙ sym (*ℤ-zero (weighed w ts)) ∙ ap (λ vs. weighed w ts *ℤ number_of vs) (sym none)
  | inr some ↦ ap (weighed (λ left. weighed (λ right. w (left ++ right)) ts)) some ∙ omega (arith, ints, *ℤ_comm (number_of us) (weighed w ts))
]

module _ (a b : Expansion) (ha : IsValue a) (hb : IsValue b) (none : length b.bases ≡ 0) where
  terms : AreTerms 0 b.combination.terms
  terms = subst (λ n. AreTerms n b.combination.terms) (hb.rank ∙ none) hb.canonical.ordered

  -- the norm of the scalar is its absolute numerator
  size : norm_of b.combination.terms ≡ unsigned_abs (ratio_of b).num
  size = norm-scalar b.combination.terms terms ∙ ap (λ (r : Ratio). unsigned_abs r.num) (sym (ratio-scalar b hb none))

  pub room_right : All Passes (product_room 0 a b) → norm_of a.combination.terms * unsigned_abs (ratio_of b).num < 2 ^ 127
  room_right pass = omega (arith, room_of_norms 0 a b pass, ap (λ n. norm_of a.combination.terms * n) size)

  pub dens_right : All Passes (product_room 0 a b) → a.combination.den * (ratio_of b).den < 2 ^ 127
  dens_right pass = room_of_dens 0 a b pass

  pub dens_left : All Passes (product_room 0 b a) → a.combination.den * (ratio_of b).den < 2 ^ 127
  dens_left pass = omega (arith, room_of_dens 0 b a pass, mul_comm b.combination.den a.combination.den)

  pub room_left : All Passes (product_room 0 b a) → norm_of a.combination.terms * unsigned_abs (ratio_of b).num < 2 ^ 127
  room_left pass =
      omega (arith, room_of_norms 0 b a pass, ap (λ n. norm_of a.combination.terms * n) size, mul_comm (norm_of b.combination.terms) (norm_of a.combination.terms))

  module _ (c : Combination) (is : IsMultiple a.combination (ratio_of b) c) (canonical : IsCanonical c.rank c.den c.terms) where
    num : (ratio_of b).num ≡ number_of b.combination.terms
    num = ap (λ (r : Ratio). r.num) (ratio-scalar b hb none)

    weighs_right : WeighsAsTensor a.combination b.combination c
    weighs_right w = is.weighs w ∙ ap (λ z. z *ℤ pos c.den) (ap (λ z. weighed w a.combination.terms *ℤ z) num ∙ sym (scalar_right w a.combination.terms b.combination.terms terms))

    weighs_left : WeighsAsTensor b.combination a.combination c
    weighs_left w =
        ap (λ z. weighed w c.terms *ℤ z) (*ℤ_comm (pos b.combination.den) (pos a.combination.den)) ∙ is.weighs w
        ∙ ap (λ z. z *ℤ pos c.den) (ap (λ z. weighed w a.combination.terms *ℤ z) num ∙ sym (scalar_left w a.combination.terms b.combination.terms terms))

    no_more : b.bases ≡ []
    no_more = no_bases b.bases none

    behind : a.bases ≡ a.bases ++ b.bases
    behind = sym (append-nil a.bases) ∙ ap (λ bs. a.bases ++ bs) (sym no_more)

    before : a.bases ≡ b.bases ++ a.bases
    before = ap (λ bs. bs ++ a.bases) (sym no_more)

    -- the multiple is the product with the scalar behind
    pub product_right : (v : Expansion) → v ≡ record { bases = a.bases; combination = c } → Expands (a.bases ++ b.bases) (tensor (reading_of a) (reading_of b)) v
    product_right v made =
        let expands : Expands (a.bases ++ b.bases) (tensor (reading_of a) (reading_of b)) (record { bases = a.bases; combination = c }) = record {
          value = multiple_value a (ratio_of b) c ha is canonical;
          over = behind;
          reads = λ ps points. subst (λ bs. AgreeAt (leaf bs c.den c.terms) (tensor (reading_of a) (reading_of b)) ps) (sym behind) (tensor_reads a b c ha weighs_right ps points);
        } in
        subst (Expands (a.bases ++ b.bases) (tensor (reading_of a) (reading_of b))) (sym made) expands

    -- and with the scalar in front
    pub product_left : (v : Expansion) → v ≡ record { bases = a.bases; combination = c } → Expands (b.bases ++ a.bases) (tensor (reading_of b) (reading_of a)) v
    product_left v made =
        let expands : Expands (b.bases ++ a.bases) (tensor (reading_of b) (reading_of a)) (record { bases = a.bases; combination = c }) = record {
          value = multiple_value a (ratio_of b) c ha is canonical;
          over = before;
          reads = λ ps points. subst (λ bs. AgreeAt (leaf bs c.den c.terms) (tensor (reading_of b) (reading_of a)) ps) (sym before) (tensor_reads b a c hb weighs_left ps points);
        } in
        subst (Expands (b.bases ++ a.bases) (tensor (reading_of b) (reading_of a))) (sym made) expands
