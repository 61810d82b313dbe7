-- The products of the antipodes of first codes with second codes are the antipode.
use Rattle.std.proofs.Common.{◌≡◌, ℕ, suc, ◌+◌, ◌-◌, ◌*◌, ◌^◌, ◌≤◌, Bool, true, false, List, [], ◌∷◌, length, refl, sym, ◌∙◌, ap, subst, arith}
use Rattle.std.specs.Prelude.{if◌then◌else◌}
use Rattle.std.specs.Int.{◌∣◌}
use Rattle.std.proofs.Math.IntN.{ℤ, pos, neg_ℤ, ◌*ℤ◌}
use Rattle.std.proofs.Math.Nat.{mul-le-mul_left, mul-le-mul_right, eq-one_of_dvd-one}
use Rattle.std.proofs.Math.Pow.{pow_mono, pow-add}
use Rattle.std.proofs.lemmas.List.{append-nil, take_all}
use Rattle.basis_names.specs.declared.bases.BasisId.{BasisId}
use Rattle.antipode_laws.specs.Recursion.{first_code, second_code, ends, antipode_times, recursion_part}
use Rattle.antipode_laws.proofs.IntegerSums.{sum_over_same, sum_over-neg, sum_over-zero, with_sign-neg}
use Rattle.antipode_laws.proofs.OperationReads.{total, total_mult, over_point_cuts}
use Rattle.antipode_laws.proofs.RankOneReadings.{product_is}
use Rattle.antipode_laws.proofs.ReadAtPoints.{total_at_points, total-weighed}
use Rattle.antipode_laws.proofs.RecursionAnswers.{recursion_law}
use Rattle.antipodes.specs.Subtracting.{IsCoproduct, turned_part, AreTurned}
use Rattle.antipodes.proofs.ReadAntipodes.{ReadsAsAntipode}
use Rattle.antipodes.proofs.SubtractedParts.{coproduct_of, power_room, two_codes_of, two_degrees}
use Rattle.change_laws.specs.Lifts.{code_at, replaced}
use Rattle.index_rules.specs.Lifts.{CanMultiply, AreMultiplied}
use Rattle.index_rules.specs.Rules.{greatest_of}
use Rattle.index_rules.specs.Spaces.{limit_for}
use Rattle.index_rules.proofs.MultipliedReads.{products_read_as}
use Rattle.realisations.specs.Bases.{kind_of}
use Rattle.realisations.specs.Codes.{Code, Key}
use Rattle.realisations.specs.Combinations.{Combination, HasKey, norm_of, weighed}
use Rattle.realisations.specs.Indices.{IsIndex, AreIndices, degree_of, total_degree}
use Rattle.realisations.specs.Lists.{with_sign}
use Rattle.realisations.specs.Points.{Kind, Point, Points, IsPoint, ArePoints}
use Rattle.realisations.specs.Readings.{Terms, Reading, leaf, applied, antipode, mult, element, numerator, cuts, reads_at, AgreeAt}
use Rattle.realisations.proofs.TuplesOfPoints.{at_one_point}

-- what all keys are within, the greatest is
greatest-within : (degree : Key → ℕ) (n : ℕ) (ts : Terms) → ((key : Key) → HasKey ts key → degree key ≤ n) → greatest_of degree ts ≤ n
greatest-within degree n [] h = omega arith
greatest-within degree n (t ∷ ts) h =
    let first = h t.1 (0, omega arith, refl) in
    let rest = greatest-within degree n ts (λ key has. h key (suc has.0, omega (arith, has.1), has.2)) in
    omega (arith, first, rest)

-- a sign comes out of a sum
total-neg : (f : Points → ℤ) (rs : List (ℕ × Points)) → total (λ qs. neg_ℤ (f qs)) rs ≡ neg_ℤ (total f rs)
total-neg f rs = sum_over_same _ _ (λ (r : ℕ × Points). with_sign-neg r.0 (f r.1)) rs ∙ sum_over-neg (λ (r : ℕ × Points). with_sign r.0 (f r.1)) rs

-- over the cuts of a point
over_cuts-none : (kind : Kind) (p : Point) → over_point_cuts kind (λ u v. pos 0) p ≡ pos 0
over_cuts-none kind p = sum_over-zero (cuts kind p)

module _ (basis : BasisId) (growth product_growth : ℕ) (code : Code) (c : Combination) (is : IsCoproduct basis growth code c) (turned : Combination) (parts : AreTurned basis growth code c.terms turned) where
  degree_at : (key : Key) → HasKey turned.terms key → degree_of basis (code_at 0 key) + degree_of basis (code_at 1 key) ≡ degree_of basis code
  degree_at key has =
      let index = parts.all.indices key has in
      let two = two_codes_of basis key index in
      ap (λ v. degree_of basis (code_at 0 v) + degree_of basis (code_at 1 v)) two.0 ∙ two_degrees basis key index ∙ parts.all.degrees key has

  -- the components can be multiplied
  pub can_multiply : (growth + 10) * limit_for basis ≤ 126 → CanMultiply basis 0 turned
  can_multiply room = record {
    here = omega (arith, parts.all.rank);
    most = omega (arith, parts.all.rank);
    factors = λ key has.
        let two = two_codes_of basis key (parts.all.indices key has) in
        record {
          first = subst (λ v. IsIndex basis (code_at 0 v)) (sym two.0) two.1;
          second = subst (λ v. IsIndex basis (code_at 1 v)) (sym two.0) two.2;
          degree = omega (arith, degree_at key has, is.index.degree);
        };
    room =
        let n = degree_of basis code in
        let g = greatest_of (λ key. degree_of basis (code_at 0 key) + degree_of basis (code_at 1 key)) turned.terms in
        let within : g ≤ n = greatest-within (λ key. degree_of basis (code_at 0 key) + degree_of basis (code_at 1 key)) n turned.terms (λ key has. omega (arith, degree_at key has)) in
        let power : 2 ^ (5 * g) ≤ 2 ^ (5 * n) = pow_mono (mul-le-mul_left 5 within) in
        let both : 2 ^ (growth * n + 5 * (n - 1)) ≡ 2 ^ (growth * n) * 2 ^ (5 * (n - 1)) = pow-add 2 (growth * n) (5 * (n - 1)) in
        let three : 2 ^ (growth * n + 5 * (n - 1) + 5 * n) ≡ 2 ^ (growth * n + 5 * (n - 1)) * 2 ^ (5 * n) = pow-add 2 (growth * n + 5 * (n - 1)) (5 * n) in
        let degrees : (growth + 10) * n ≤ (growth + 10) * limit_for basis = mul-le-mul_left (growth + 10) is.index.degree in
        let bits : growth * n + 5 * (n - 1) + 5 * n ≤ 126 = omega (arith, degrees, room) in
        let norm : norm_of turned.terms ≤ 2 ^ (growth * n + 5 * (n - 1)) = omega (arith, parts.norm, both) in
        omega (arith, mul-le-mul_left (norm_of turned.terms) power, mul-le-mul_right (2 ^ (5 * n)) norm, three, power_room (growth * n + 5 * (n - 1) + 5 * n) bits);
  }

  module _ (new : Combination) (products : AreMultiplied basis product_growth 0 turned new) where
    whole_new : new.den ≡ 1
    whole_new = eq-one_of_dvd-one (subst (λ k. new.den ∣ k) parts.all.whole products.den)

    -- each key is one of the products
    new_key : (key : Key) → HasKey new.terms key → AreIndices (basis ∷ []) key × (total_degree (basis ∷ []) key ≡ degree_of basis code)
    new_key key has =
        let put = products.keys key has in
        let two = two_codes_of basis put.key (parts.all.indices put.key put.has) in
        let same : key ≡ put.codes = put.is ∙ ap (λ v. replaced 0 put.codes (replaced 1 [] v)) two.0 ∙ append-nil put.codes in
        subst (λ v. AreIndices (basis ∷ []) v × (total_degree (basis ∷ []) v ≡ degree_of basis code)) (sym same) (put.indices, put.degrees ∙ degree_at put.key put.has)

    -- a part at two points
    abbrev part_at : Key → Points → ℤ
    part_at key [] = pos 0
    part_at key (u ∷ []) = pos 0
    part_at key (u ∷ v ∷ qs) = turned_part basis u v key

    -- a part, over the cuts of a point
    part_over_cuts : (p : Point) (key : Key) → over_point_cuts (kind_of basis) (λ u v. turned_part basis u v key) p ≡ recursion_part basis p key
    part_over_cuts p key = by_test (ends key)
      where
        by_test : (b : Bool) → over_point_cuts (kind_of basis) (λ u v. if b then pos 0 else numerator (applied antipode 0 (element basis (first_code key))) (u ∷ []) *ℤ numerator (element basis (second_code key)) (v ∷ [])) p
            ≡ (if b then pos 0 else numerator (antipode_times basis key) (p ∷ []))
        by_test true = over_cuts-none (kind_of basis) p
        by_test false = sym (product_is (kind_of basis) (applied antipode 0 (element basis (first_code key))) refl (element basis (second_code key)) p)

    reads_here : (p : Point) → IsPoint (kind_of basis) p → AgreeAt (leaf (basis ∷ []) 1 new.terms) (applied antipode 0 (element basis code)) (p ∷ [])
    reads_here p point =
        let kind : Kind = kind_of basis in
        let old : Reading = leaf (basis ∷ basis ∷ []) 1 turned.terms in
        let parts_at : Key → Points → ℤ = λ key qs. part_at key qs in
        let multiplied : AgreeAt (leaf (basis ∷ []) 1 new.terms) (applied mult 0 old) (p ∷ []) =
        subst (λ e. AgreeAt (leaf (basis ∷ []) e new.terms) (applied mult 0 old) (p ∷ [])) whole_new
        (subst (λ d. AgreeAt (leaf (basis ∷ []) new.den new.terms) (applied mult 0 (leaf (basis ∷ basis ∷ []) d turned.terms)) (p ∷ [])) parts.all.whole
        (products_read_as [] [] basis product_growth turned new [] [] p refl point parts.all.indices products)) in
        multiplied
        ∙ ap (λ z. z *ℤ pos 1)
        (total_at_points mult 0 (kind ∷ kind ∷ []) (numerator old) (λ qs. neg_ℤ (weighed (λ key. parts_at key qs) c.terms)) at_two (λ e. refl) (p ∷ []) (point, tt)
        ∙ total-neg (λ qs. weighed (λ key. parts_at key qs) c.terms) (reads_at 0 mult (kind ∷ kind ∷ []) (p ∷ []))
        ∙ ap neg_ℤ (total-weighed parts_at c.terms (reads_at 0 mult (kind ∷ kind ∷ []) (p ∷ [])) ∙ sum_over_same _ _ (λ (t : ℤ × Key). ap (λ z. t.0 *ℤ z) (total_mult kind (parts_at t.1) p [] ∙ part_over_cuts p t.1)) c.terms)
        ∙ sym (recursion_law.reads basis code c (coproduct_of basis growth code c is) p point))
      where
        at_two : (qs : Points) → ArePoints (kind_of basis ∷ kind_of basis ∷ []) qs → numerator (leaf (basis ∷ basis ∷ []) 1 turned.terms) qs ≡ neg_ℤ (weighed (λ key. part_at key qs) c.terms)
        at_two [] h = absurd h
        at_two (u ∷ []) h = absurd h.1
        at_two (u ∷ v ∷ []) h = parts.all.reads u v h.0 h.1.0 ∙ ap (λ ts. neg_ℤ (weighed (turned_part basis u v) ts)) (take_all (length c.terms) c.terms (omega arith))
        at_two (u ∷ v ∷ w ∷ qs) h = absurd h.1.1

    -- so they are the antipode
    pub reads_as_antipode : ReadsAsAntipode basis code new
    reads_as_antipode = record {
      canonical = products.canonical;
      rank = omega (arith, products.rank, parts.all.rank);
      whole = whole_new;
      indices = λ key has. (new_key key has).0;
      degrees = λ key has. (new_key key has).1;
      reads = at_one_point (kind_of basis) (λ ps. AgreeAt (leaf (basis ∷ []) 1 new.terms) (applied antipode 0 (element basis code)) ps) reads_here;
    }
