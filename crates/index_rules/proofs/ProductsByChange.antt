-- Products of two elements by the products over another basis: both are changed, multiplied, and changed back.
use Rattle.std.proofs.Common.{◌≡◌, ℕ, suc, ◌+◌, ◌*◌, ◌^◌, ◌<◌, ◌≤◌, [], ◌∷◌, ◌++◌, refl, sym, ◌∙◌, ap, subst, arith}
use Rattle.std.specs.Int.{◌∣◌}
use Rattle.std.proofs.Math.IntN.{ℤ, pos, ◌*ℤ◌, *ℤ-one, *ℤ_comm, one}
use Rattle.std.proofs.Math.Nat.{mul-le-mul_left, mul-le-mul_right, eq-one_of_dvd-one}
use Rattle.std.proofs.Math.Pow.{pow_mono, pow-add}
use Rattle.std.proofs.lemmas.List.{append-nil}
use Rattle.basis_names.specs.declared.bases.BasisId.{BasisId}
use Rattle.basis_names.specs.declared.bases.BasisId.TheVariants.{QsymM, QsymF, NcsfS, NcsfL, NcsfR, FqsymF, FqsymG, WqsymM, FsymS, PbtP}
use Rattle.change_laws.specs.Lifts.{code_at, replaced}
use Rattle.index_rules.specs.Changes.{change_facts}
use Rattle.index_rules.specs.Lifts.{CanLift, CanMultiply, IsLift, AreMultiplied, two_codes, reads_as}
use Rattle.index_rules.specs.Rules.{IsAnswerWithin, IsIndexOf, greatest_of}
use Rattle.index_rules.specs.Spaces.{limit_for}
use Rattle.index_rules.proofs.LiftsRead.{change_reads, lifted_indices}
use Rattle.linear_combos.specs.Combos.{IsTensor}
use Rattle.realisations.specs.Bases.{kind_of}
use Rattle.realisations.specs.Codes.{Code, Key}
use Rattle.realisations.specs.Combinations.{Combination, IsCanonical, HasKey, norm_of, term_at, weighed}
use Rattle.realisations.specs.Indices.{IsIndex, AreIndices, degree_of, total_degree}
use Rattle.realisations.specs.Points.{Point, IsPoint}
use Rattle.realisations.specs.Readings.{Terms, Reading, leaf, product, element, of_key, numerator, denominator, kinds_of, AgreeAt}
use Rattle.realisations.proofs.Agreement.{agree_trans, product_agrees}
use Rattle.realisations.proofs.Coefficients.{each_from, weighed_same}
use Rattle.realisations.proofs.Linearity.{reads_bilinearly}
use Rattle.realisations.proofs.TuplesOfPoints.{at_one_point}

-- what all keys are within, the greatest is
greatest-within : (degree : Key → ℕ) (n : ℕ) (ts : Terms) → ((key : Key) → HasKey ts key → degree key ≤ n) → greatest_of degree ts ≤ n
greatest-within degree n [] h = omega arith
greatest-within degree n (t ∷ ts) h =
    let first = h t.1 (0, omega arith, refl) in
    let rest = greatest-within degree n ts (λ key has. h key (suc has.0, omega (arith, has.1), has.2)) in
    omega (arith, first, rest)

-- norms that grow one after the other
grown : (x y f g n k : ℕ) → x ≤ 2 ^ (f * n) → y ≤ x * 2 ^ (g * k) → k ≤ n → y ≤ 2 ^ ((f + g) * n)
grown x y f g n k hx hy hk =
    let power : 2 ^ (g * k) ≤ 2 ^ (g * n) = pow_mono (mul-le-mul_left g hk) in
    let e : (f + g) * n ≡ f * n + g * n = omega arith in
    let both : 2 ^ ((f + g) * n) ≡ 2 ^ (f * n) * 2 ^ (g * n) = ap (λ m. 2 ^ m) e ∙ pow-add 2 (f * n) (g * n) in
    omega (arith, hy, both, mul-le-mul_left x power, mul-le-mul_right (2 ^ (g * n)) hx)

within_five : (x f n : ℕ) → f ≤ 5 → x ≤ 2 ^ (f * n) → x ≤ 2 ^ (5 * n)
within_five x f n le h =
    let power : 2 ^ (f * n) ≤ 2 ^ (5 * n) = pow_mono (mul-le-mul_right n le) in
    omega (arith, h, power)

-- no degree is past 12
pub limit-small : (basis : BasisId) → limit_for basis ≤ 12
limit-small QsymM = omega arith
limit-small QsymF = omega arith
limit-small NcsfS = omega arith
limit-small NcsfL = omega arith
limit-small NcsfR = omega arith
limit-small FqsymF = omega arith
limit-small FqsymG = omega arith
limit-small WqsymM = omega arith
limit-small FsymS = omega arith
limit-small PbtP = omega arith

-- two growths of degrees up to 12 have room
pub growths : (x y m n : ℕ) → x ≤ 2 ^ (5 * m) → y ≤ 2 ^ (5 * n) → m ≤ 12 → n ≤ 12 → x * y < 2 ^ 127
growths x y m n hx hy hm hn =
    let left : 2 ^ (5 * m) ≤ 2 ^ 60 = power (5 * m) (omega (arith, hm)) in
    let right : 2 ^ (5 * n) ≤ 2 ^ 60 = power (5 * n) (omega (arith, hn)) in
    let small : x ≤ 2 ^ 60 = omega (arith, hx, left) in
    let small' : y ≤ 2 ^ 60 = omega (arith, hy, right) in
    omega (arith, mul-le-mul_left x small', mul-le-mul_right (2 ^ 60) small)
  where
    power : (k : ℕ) → k ≤ 60 → 2 ^ k ≤ 2 ^ 60
    power k h = pow_mono h

power_within : (k n : ℕ) → k ≤ n → 2 ^ (5 * k) ≤ 2 ^ (5 * n)
power_within k n le = pow_mono (mul-le-mul_left 5 le)

-- a key of one index
pub record IsOneIndex (basis : BasisId) (n : ℕ) (key : Key) : Type 0 where
  pub code : Code
  pub is : key ≡ code ∷ []
  pub index : IsIndex basis code
  pub degree : degree_of basis code ≡ n

one_index : (basis : BasisId) (n : ℕ) (key : Key) → AreIndices (basis ∷ []) key → total_degree (basis ∷ []) key ≡ n → IsOneIndex basis n key
one_index basis n [] h e = absurd h
one_index basis n (code ∷ []) h e = record { code = code; is = refl; index = h.0; degree = omega (arith, e) }
one_index basis n (code ∷ c ∷ key) h e = absurd h.1

-- a key of two
pub record IsTwoIndices (basis : BasisId) (n m : ℕ) (key : Key) : Type 0 where
  pub first : Code
  pub second : Code
  pub is : key ≡ first ∷ second ∷ []
  pub first_index : IsIndex basis first
  pub second_index : IsIndex basis second
  pub first_degree : degree_of basis first ≡ n
  pub second_degree : degree_of basis second ≡ m

-- a factor of 1
whole_sum : (x y : ℤ) → x *ℤ pos 1 ≡ y *ℤ pos 1 → x ≡ y
unfolding one
whole_sum x y e = sym (*ℤ-one x) ∙ e ∙ *ℤ-one y

one_times : (z : ℤ) → pos 1 *ℤ z ≡ z
unfolding one
one_times z = *ℤ_comm (pos 1) z ∙ *ℤ-one z

-- a divisor of 1
one_den : (d e : ℕ) → e ≡ 1 → d ∣ e → d ≡ 1
one_den d e is h = eq-one_of_dvd-one (subst (λ k. d ∣ k) is h)

module _ (basis : BasisId) (growth n m : ℕ) (small : n + m ≤ 12) (r s : Reading) (c d t : Combination) (hc : IsAnswerWithin growth (basis ∷ []) n r c) (hd : IsAnswerWithin growth (basis ∷ []) m s d)
    (canonical : IsCanonical t.rank t.den t.terms) (tensor : IsTensor c d t) where
  -- each key of the tensor has two indices
  two_indices : (key : Key) → HasKey t.terms key → IsTwoIndices basis n m key
  two_indices key has =
      let (left, right, in_left, in_right, is) = tensor.keys key has in
      let x = one_index basis n left (hc.answer.indices left in_left) (hc.answer.degrees left in_left) in
      let y = one_index basis m right (hd.answer.indices right in_right) (hd.answer.degrees right in_right) in
      record {
        first = x.code;
        second = y.code;
        is = is ∙ (λ i. x.is i ++ y.is i);
        first_index = x.index;
        second_index = y.index;
        first_degree = x.degree;
        second_degree = y.degree;
      }

  pair_degree : (key : Key) → HasKey t.terms key → degree_of basis (code_at 0 key) + degree_of basis (code_at 1 key) ≡ n + m
  pair_degree key has =
      let two = two_indices key has in
      ap (λ v. degree_of basis (code_at 0 v) + degree_of basis (code_at 1 v)) two.is ∙ omega (arith, two.first_degree, two.second_degree)

  greatest : greatest_of (λ key. degree_of basis (code_at 0 key) + degree_of basis (code_at 1 key)) t.terms ≤ n + m
  greatest = greatest-within (λ key. degree_of basis (code_at 0 key) + degree_of basis (code_at 1 key)) (n + m) t.terms (λ key has. omega (arith, pair_degree key has))

  whole_tensor : t.den ≡ 1
  whole_tensor =
      let dens : c.den * d.den ≡ 1 = λ i. hc.answer.whole i * hd.answer.whole i in
      omega (arith, tensor.den, canonical.lowest.positive, dens)

  norm_tensor : (f : ℕ) → norm_of c.terms ≤ 2 ^ (f * n) → norm_of d.terms ≤ 2 ^ (f * m) → norm_of t.terms ≤ 2 ^ (f * (n + m))
  norm_tensor f left right =
      let e : f * (n + m) ≡ f * n + f * m = omega arith in
      let both : 2 ^ (f * (n + m)) ≡ 2 ^ (f * n) * 2 ^ (f * m) = ap (λ k. 2 ^ k) e ∙ pow-add 2 (f * n) (f * m) in
      omega (arith, tensor.norm, both, mul-le-mul_left (norm_of c.terms) right, mul-le-mul_right (2 ^ (f * m)) left)

  -- so its components can be multiplied
  pub can_multiply : n + m ≤ limit_for basis → CanMultiply basis 0 t
  can_multiply within = record {
    here = omega (arith, tensor.rank, hc.answer.rank, hd.answer.rank);
    most = omega (arith, tensor.rank, hc.answer.rank, hd.answer.rank);
    factors = λ key has.
        let two = two_indices key has in
        record {
          first = subst (λ v. IsIndex basis (code_at 0 v)) (sym two.is) two.first_index;
          second = subst (λ v. IsIndex basis (code_at 1 v)) (sym two.is) two.second_index;
          degree = omega (arith, pair_degree key has, within);
        };
    room = growths (norm_of t.terms) (2 ^ (5 * greatest_of (λ key. degree_of basis (code_at 0 key) + degree_of basis (code_at 1 key)) t.terms)) (n + m) (n + m)
        (norm_tensor 5 hc.answer.small hd.answer.small) (power_within _ (n + m) greatest) small small;
  }

  -- the sum over the keys of the tensor is the product
  products_read : (q : Point) → weighed (reads_as (two_codes basis 0 0) [] [] [] (q ∷ []) []) t.terms ≡ numerator (product (leaf (basis ∷ []) 1 c.terms) (leaf (basis ∷ []) 1 d.terms)) (q ∷ [])
  products_read q =
      let w = reads_as (two_codes basis 0 0) [] [] [] (q ∷ []) [] in
      let dens : pos c.den *ℤ pos d.den ≡ pos 1 = λ i. pos (hc.answer.whole i) *ℤ pos (hd.answer.whole i) in
      whole_sum (weighed w t.terms) (weighed (λ l. weighed (λ k. w (l ++ k)) d.terms) c.terms)
      (ap (λ z. weighed w t.terms *ℤ z) (sym dens) ∙ tensor.weighs w ∙ ap (λ e. weighed (λ l. weighed (λ k. w (l ++ k)) d.terms) c.terms *ℤ pos e) whole_tensor)
      ∙ weighed_same (λ l. weighed (λ k. w (l ++ k)) d.terms) (λ l. weighed (λ k. numerator (product (of_key (basis ∷ []) l) (of_key (basis ∷ []) k)) (q ∷ [])) d.terms) c.terms
      (each_from _ c.terms (λ i lt. weighed_same (λ k. w ((term_at c.terms i).1 ++ k)) (λ k. numerator (product (of_key (basis ∷ []) (term_at c.terms i).1) (of_key (basis ∷ []) k)) (q ∷ [])) d.terms
      (each_from _ d.terms (λ j lt'.
      let x = one_index basis n (term_at c.terms i).1 (hc.answer.indices (term_at c.terms i).1 (i, lt, refl)) (hc.answer.degrees (term_at c.terms i).1 (i, lt, refl)) in
      let y = one_index basis m (term_at d.terms j).1 (hd.answer.indices (term_at d.terms j).1 (j, lt', refl)) (hd.answer.degrees (term_at d.terms j).1 (j, lt', refl)) in
      at_codes (term_at c.terms i).1 (term_at d.terms j).1 x.code y.code x.is y.is))))
      ∙ sym (reads_bilinearly (basis ∷ []) 1 1 c.terms d.terms (q ∷ []))
    where
      at_codes : (l k : Key) (x y : Code) → l ≡ x ∷ [] → k ≡ y ∷ []
          → reads_as (two_codes basis 0 0) [] [] [] (q ∷ []) [] (l ++ k) ≡ numerator (product (of_key (basis ∷ []) l) (of_key (basis ∷ []) k)) (q ∷ [])
      at_codes l k x y el ek =
          (λ i. reads_as (two_codes basis 0 0) [] [] [] (q ∷ []) [] (el i ++ ek i))
          ∙ one_times (numerator (product (element basis x) (element basis y)) (q ∷ []))
          ∙ sym (λ i. numerator (product (of_key (basis ∷ []) (el i)) (of_key (basis ∷ []) (ek i))) (q ∷ []))

  module _ (product_growth : ℕ) (five : growth + product_growth ≤ 5) (kinds : kind_of basis ∷ [] ≡ kinds_of r) (p : Combination) (is : AreMultiplied basis product_growth 0 t p) where
    -- a key of a product is one of its answers
    put_key : (key : Key) → HasKey p.terms key → AreIndices (basis ∷ []) key × (total_degree (basis ∷ []) key ≡ n + m)
    put_key key has =
        let put = is.keys key has in
        let two = two_indices put.key put.has in
        let same : key ≡ put.codes = put.is ∙ ap (λ v. replaced 0 put.codes (replaced 1 [] v)) two.is ∙ append-nil put.codes in (
          subst (AreIndices (basis ∷ [])) (sym same) put.indices,
          ap (total_degree (basis ∷ [])) same ∙ put.degrees ∙ pair_degree put.key put.has,
        )

    whole_product : p.den ≡ 1
    whole_product = one_den p.den t.den whole_tensor is.den

    reads : (q : Point) → IsPoint (kind_of basis) q → AgreeAt (leaf (basis ∷ []) 1 p.terms) (product r s) (q ∷ [])
    reads q point =
        let over = λ (key : Key) (has : HasKey t.terms key). (let two = two_indices key has in subst (λ v. AreIndices (basis ∷ []) (replaced 1 [] v)) (sym two.is) (two.first_index, tt)) in
        let sum : numerator (leaf (basis ∷ []) 1 p.terms) (q ∷ []) ≡ weighed (reads_as (two_codes basis 0 0) [] [] [] (q ∷ []) []) t.terms =
        whole_sum (numerator (leaf (basis ∷ []) 1 p.terms) (q ∷ [])) (weighed (reads_as (two_codes basis 0 0) [] [] [] (q ∷ []) []) t.terms)
        (ap (λ e. numerator (leaf (basis ∷ []) 1 p.terms) (q ∷ []) *ℤ pos e) (sym whole_tensor) ∙ is.reads [] [] [] (q ∷ []) [] refl refl over (point, tt)
        ∙ ap (λ e. weighed (reads_as (two_codes basis 0 0) [] [] [] (q ∷ []) []) t.terms *ℤ pos e) whole_product) in
        ap (λ z. z *ℤ pos (denominator (product r s))) (sum ∙ products_read q)
        ∙ product_agrees (leaf (basis ∷ []) 1 c.terms) r (leaf (basis ∷ []) 1 d.terms) s (q ∷ []) kinds (point, tt) (λ qs points. hc.answer.reads qs points) (λ qs points. hd.answer.reads qs points)

    norm_product : norm_of p.terms ≤ 2 ^ ((growth + product_growth) * (n + m))
    norm_product = grown (norm_of t.terms) (norm_of p.terms) growth product_growth (n + m) (greatest_of (λ key. degree_of basis (code_at 0 key) + degree_of basis (code_at 1 key)) t.terms) (norm_tensor growth hc.norm hd.norm) is.norm greatest

    -- the products are the answer of the product of the readings
    pub multiplied_answer : IsAnswerWithin (growth + product_growth) (basis ∷ []) (n + m) (product r s) p
    multiplied_answer = record {
      answer = record {
        canonical = is.canonical;
        rank = omega (arith, is.rank, tensor.rank, hc.answer.rank, hd.answer.rank);
        whole = whole_product;
        small = within_five (norm_of p.terms) (growth + product_growth) (n + m) five norm_product;
        indices = λ key has. (put_key key has).0;
        degrees = λ key has. (put_key key has).1;
        reads = at_one_point (kind_of basis) (AgreeAt (leaf (basis ∷ []) 1 p.terms) (product r s)) reads;
      };
      norm = norm_product;
    }

module _ (from to : BasisId) (most change_growth growth n : ℕ) (r : Reading) (p : Combination) (is : IsAnswerWithin growth (from ∷ []) n r p) where
  degree_at_most : greatest_of (λ key. degree_of from (code_at 0 key)) p.terms ≤ n
  degree_at_most = greatest-within (λ key. degree_of from (code_at 0 key)) n p.terms (λ key has.
      let x = one_index from n key (is.answer.indices key has) (is.answer.degrees key has) in
      omega (arith, ap (λ v. degree_of from (code_at 0 v)) x.is, x.degree))

  -- an answer can be changed
  pub can_change : n ≤ most → n ≤ 12 → CanLift (change_facts from to most change_growth) 0 p
  can_change within small = record {
    here = omega (arith, is.answer.rank);
    most = omega (arith, is.answer.rank);
    indices = λ key has.
        let x = one_index from n key (is.answer.indices key has) (is.answer.degrees key has) in
        subst (λ v. IsIndexOf (change_facts from to most change_growth) (code_at 0 v)) (sym x.is) (record { index = x.index; degree = omega (arith, x.degree, within) });
    room = growths (norm_of p.terms) (2 ^ (5 * greatest_of (λ key. degree_of from (code_at 0 key)) p.terms)) n n is.answer.small (power_within _ n degree_at_most) small small;
  }

  -- and is the answer over the other basis
  pub changed_answer : growth + change_growth ≤ 5 → kind_of to ≡ kind_of from → (out : Combination) → IsLift (change_facts from to most change_growth) 0 p out → IsAnswerWithin (growth + change_growth) (to ∷ []) n r out
  changed_answer five kinds out lifted =
      let whole : out.den ≡ 1 = one_den out.den p.den is.answer.whole lifted.den in
      let norm = grown (norm_of p.terms) (norm_of out.terms) growth change_growth n (greatest_of (λ key. degree_of from (code_at 0 key)) p.terms) is.norm lifted.norm degree_at_most in
      record {
        answer = record {
          canonical = lifted.canonical;
          rank = omega (arith, lifted.rank, is.answer.rank);
          whole = whole;
          small = within_five (norm_of out.terms) (growth + change_growth) n five norm;
          indices = λ key has. (lifted_indices [] [] (change_facts from to most change_growth) p out is.answer.indices lifted key has).indices;
          degrees = λ key has.
              let old = lifted_indices [] [] (change_facts from to most change_growth) p out is.answer.indices lifted key has in
              old.degrees ∙ is.answer.degrees old.key old.has;
          reads = at_one_point (kind_of to) (AgreeAt (leaf (to ∷ []) 1 out.terms) r) (λ q point.
              agree_trans (leaf (to ∷ []) 1 out.terms) (leaf (from ∷ []) 1 p.terms) r (q ∷ []) (omega arith)
              (subst (λ e. AgreeAt (leaf (to ∷ []) e out.terms) (leaf (from ∷ []) 1 p.terms) (q ∷ [])) whole
              (subst (λ e. AgreeAt (leaf (to ∷ []) out.den out.terms) (leaf (from ∷ []) e p.terms) (q ∷ [])) is.answer.whole
              (change_reads [] [] from to most change_growth p out [] [] q refl point is.answer.indices lifted)))
              (is.answer.reads (q ∷ []) (subst (λ kind. IsPoint kind q) kinds point, tt)));
        };
        norm = norm;
      }
