-- What reads as an answer over M, of any norm: products and lifts of commuting images. Where there is an answer, it is that one.
use Rattle.std.proofs.Common.{◌≡◌, ℕ, suc, ◌+◌, ◌*◌, ◌^◌, ◌≤◌, List, [], ◌∷◌, ◌++◌, map, refl, sym, ◌∙◌, ap, subst, arith}
use Rattle.std.specs.Int.{◌∣◌}
use Rattle.std.specs.List.{AllByRecursion}
use Rattle.std.proofs.Math.IntN.{ℤ, pos, ◌*ℤ◌, *ℤ-one, *ℤ_comm, one}
use Rattle.std.proofs.Math.Nat.{eq-one_of_dvd-one, mul-le-mul_left, mul-le-mul_right}
use Rattle.std.proofs.Math.Pow.{pow_mono, pow-add}
use Rattle.std.proofs.lemmas.Int.{ints}
use Rattle.std.proofs.lemmas.List.{append-nil}
use Rattle.basis_names.specs.declared.bases.BasisId.{BasisId}
use Rattle.basis_names.specs.declared.bases.BasisId.TheVariants.{QsymM}
use Rattle.basis_representatives.proofs.Uniqueness.{unique_reading}
use Rattle.change_laws.specs.Lifts.{code_at, replaced}
use Rattle.index_rules.specs.Lifts.{AreMultiplied, CanLift, IsLift, reads_as, two_codes}
use Rattle.index_rules.specs.Rules.{IsAnswerWithin, greatest_of}
use Rattle.index_rules.specs.Spaces.{limit_for}
use Rattle.index_rules.proofs.LiftsRead.{lifted_indices, operation_reads}
use Rattle.index_rules.proofs.ProductsByChange.{can_change, limit-small}
use Rattle.inclusion_laws.proofs.CountsOfWords.{words_are_points}
use Rattle.linear_combos.specs.Combos.{IsTensor}
use Rattle.realisations.specs.Answers.{IsAnswer}
use Rattle.realisations.specs.Bases.{kind_of}
use Rattle.realisations.specs.Codes.{Code, Key}
use Rattle.realisations.specs.Combinations.{Combination, IsCanonical, HasKey, norm_of, term_at, weighed}
use Rattle.realisations.specs.Indices.{AreIndices, IsIndex, degree_of, total_degree}
use Rattle.realisations.specs.Lists.{int_sum, with_sign}
use Rattle.realisations.specs.Points.{Kind, Point, Points, IsPoint, exponents, word}
use Rattle.realisations.specs.Readings.{Terms, Reading, leaf, product, applied, commute, element, of_key, numerator, denominator, kinds_of, reads_at, AgreeAt}
use Rattle.realisations.specs.Words.{words_of}
use Rattle.realisations.proofs.Agreement.{agree_trans, product_agrees}
use Rattle.realisations.proofs.Coefficients.{each_from, weighed_same}
use Rattle.realisations.proofs.Linearity.{reads_bilinearly}
use Rattle.realisations.proofs.TuplesOfPoints.{at_one_point}
use Rattle.commuting_images.specs.Images.{image_facts}
use Rattle.commuting_images.specs.ImagesOfParts.{IsOfAnyNorm}

pub of_any_norm : (n : ℕ) (reading : Reading) (c : Combination) → IsAnswer (QsymM ∷ []) n reading c → IsOfAnyNorm n reading c
of_any_norm n reading c is = record { canonical = is.canonical; rank = is.rank; whole = is.whole; indices = is.indices; degrees = is.degrees; reads = is.reads }

-- where there is an answer, it is this one
pub the_answer : (growth n : ℕ) (reading : Reading) (c d : Combination) → 1 ≤ denominator reading → IsOfAnyNorm n reading c → IsAnswerWithin growth (QsymM ∷ []) n reading d
    → IsAnswerWithin growth (QsymM ∷ []) n reading c
the_answer growth n reading c d positive hc hd =
    let a = hd.answer in
    subst (IsAnswerWithin growth (QsymM ∷ []) n reading)
    (unique_reading (QsymM ∷ []) reading d c a.canonical hc.canonical a.rank hc.rank positive a.indices hc.indices
    (λ ps points. subst (λ m. AgreeAt (leaf (QsymM ∷ []) m d.terms) reading ps) (sym a.whole) (a.reads ps points))
    (λ ps points. subst (λ m. AgreeAt (leaf (QsymM ∷ []) m c.terms) reading ps) (sym hc.whole) (hc.reads ps points)))
    hd

-- an answer within any growth is one within 5
pub within_five : (growth n : ℕ) (reading : Reading) (c : Combination) → IsAnswerWithin growth (QsymM ∷ []) n reading c → IsAnswerWithin 5 (QsymM ∷ []) n reading c
within_five growth n reading c is = record { answer = is.answer; norm = is.answer.small }

-- a reading that agrees with another one, over 1, at all exponents
pub read_as : (growth n : ℕ) (r s : Reading) (c : Combination) → denominator r ≡ 1 → ((p : Point) → AgreeAt r s (p ∷ [])) → IsAnswerWithin growth (QsymM ∷ []) n r c → IsAnswerWithin growth (QsymM ∷ []) n s c
read_as growth n r s c whole agree is =
    let a = is.answer in
    record {
      answer = record {
        canonical = a.canonical;
        rank = a.rank;
        whole = a.whole;
        small = a.small;
        indices = a.indices;
        degrees = a.degrees;
        reads = at_one_point exponents (AgreeAt (leaf (QsymM ∷ []) 1 c.terms) s) (λ p point.
            agree_trans (leaf (QsymM ∷ []) 1 c.terms) r s (p ∷ []) (omega (arith, whole)) (a.reads (p ∷ []) (point, tt)) (agree p));
      };
      norm = is.norm;
    }

pub any_read_as : (n : ℕ) (r s : Reading) (c : Combination) → denominator r ≡ 1 → ((p : Point) → AgreeAt r s (p ∷ [])) → IsOfAnyNorm n r c → IsOfAnyNorm n s c
any_read_as n r s c whole agree is = record {
  canonical = is.canonical;
  rank = is.rank;
  whole = is.whole;
  indices = is.indices;
  degrees = is.degrees;
  reads = at_one_point exponents (AgreeAt (leaf (QsymM ∷ []) 1 c.terms) s) (λ p point.
      agree_trans (leaf (QsymM ∷ []) 1 c.terms) r s (p ∷ []) (omega (arith, whole)) (is.reads (p ∷ []) (point, tt)) (agree p));
}

-- a factor of 1
whole_sum : (x y : ℤ) → x *ℤ pos 1 ≡ y *ℤ pos 1 → x ≡ y
unfolding one
whole_sum x y e = sym (*ℤ-one x) ∙ e ∙ *ℤ-one y

one_times : (z : ℤ) → pos 1 *ℤ z ≡ z
unfolding one
one_times z = *ℤ_comm (pos 1) z ∙ *ℤ-one z

-- a divisor of 1
one_den : (d e : ℕ) → e ≡ 1 → d ∣ e → d ≡ 1
one_den d e is h = eq-one_of_dvd-one (subst (λ k. d ∣ k) is h)

-- commuting images of readings over words that agree
images_agree : (a b : Reading) → denominator a ≡ 1 → denominator b ≡ 1 → ((w : Point) → IsPoint word w → AgreeAt a b (w ∷ [])) → (ws : List Point) → AllByRecursion (IsPoint word) ws
    → int_sum (map (λ (r : ℕ × Points). with_sign r.0 (numerator a r.1)) (map (λ (q : Point). (0, q ∷ [])) ws))
    ≡ int_sum (map (λ (r : ℕ × Points). with_sign r.0 (numerator b r.1)) (map (λ (q : Point). (0, q ∷ [])) ws))
images_agree a b ea eb agree [] h = refl
images_agree a b ea eb agree (w ∷ ws) h =
    let first : numerator a (w ∷ []) ≡ numerator b (w ∷ []) =
    whole_sum (numerator a (w ∷ [])) (numerator b (w ∷ [])) (ap (λ d. numerator a (w ∷ []) *ℤ pos d) (sym eb) ∙ agree w h.0 ∙ ap (λ d. numerator b (w ∷ []) *ℤ pos d) ea) in
    omega (arith, ints, first, images_agree a b ea eb agree ws h.1)

-- what all keys are within, the greatest is
greatest-within : (degree : Key → ℕ) (n : ℕ) (ts : Terms) → ((key : Key) → HasKey ts key → degree key ≤ n) → greatest_of degree ts ≤ n
greatest-within degree n [] h = omega arith
greatest-within degree n (t ∷ ts) h =
    let first = h t.1 (0, omega arith, refl) in
    let rest = greatest-within degree n ts (λ key has. h key (suc has.0, omega (arith, has.1), has.2)) in
    omega (arith, first, rest)

-- images of the terms of an element over another basis of words
module _ (from basis : BasisId) (words : kind_of from ≡ word) (words' : kind_of basis ≡ word) (growth g n : ℕ) (code : Code) (c : Combination) (hc : IsAnswerWithin growth (from ∷ []) n (element basis code) c) where
  pub can_image : n ≤ limit_for from → CanLift (image_facts from g) 0 c
  can_image within =
      let limit = limit-small from in
      let can = can_change from QsymM (limit_for from) g growth n (element basis code) c hc within (omega (arith, within, limit)) in
      record {
        here = can.here;
        most = can.most;
        indices = λ key has. let h = can.indices key has in record { index = h.index; degree = h.degree };
        room = can.room;
      }

  module _ (out : Combination) (lifted : IsLift (image_facts from g) 0 c out) where
    whole_lift : out.den ≡ 1
    whole_lift = one_den out.den c.den hc.answer.whole lifted.den

    agree : (q : Point) → AgreeAt (applied commute 0 (leaf (from ∷ []) 1 c.terms)) (applied commute 0 (element basis code)) (q ∷ [])
    agree q =
        ap (λ z. z *ℤ pos 1)
        (ap (λ (kind : Kind). int_sum (map (λ (r : ℕ × Points). with_sign r.0 (numerator (leaf (from ∷ []) 1 c.terms) r.1)) (reads_at 0 commute (kind ∷ []) (q ∷ [])))) words
        ∙ images_agree (leaf (from ∷ []) 1 c.terms) (element basis code) refl refl (λ w point. hc.answer.reads (w ∷ []) (subst (λ kind. IsPoint kind w) (sym words) point, tt)) (words_of q) (words_are_points q)
        ∙ ap (λ (kind : Kind). int_sum (map (λ (r : ℕ × Points). with_sign r.0 (numerator (element basis code) r.1)) (reads_at 0 commute (kind ∷ []) (q ∷ [])))) (sym words'))

    -- they add up to the image
    pub lifted_image : IsOfAnyNorm n (applied commute 0 (element basis code)) out
    lifted_image = record {
      canonical = lifted.canonical;
      rank = omega (arith, lifted.rank, hc.answer.rank);
      whole = whole_lift;
      indices = λ key has. (lifted_indices [] [] (image_facts from g) c out hc.answer.indices lifted key has).indices;
      degrees = λ key has.
          let old = lifted_indices [] [] (image_facts from g) c out hc.answer.indices lifted key has in
          old.degrees ∙ hc.answer.degrees old.key old.has;
      reads = at_one_point exponents (AgreeAt (leaf (QsymM ∷ []) 1 out.terms) (applied commute 0 (element basis code))) (λ q point.
          agree_trans (leaf (QsymM ∷ []) 1 out.terms) (applied commute 0 (leaf (from ∷ []) 1 c.terms)) (applied commute 0 (element basis code)) (q ∷ []) (omega arith)
          (subst (λ e. AgreeAt (leaf (QsymM ∷ []) e out.terms) (applied commute 0 (leaf (from ∷ []) 1 c.terms)) (q ∷ [])) whole_lift
          (subst (λ e. AgreeAt (leaf (QsymM ∷ []) out.den out.terms) (applied commute 0 (leaf (from ∷ []) e c.terms)) (q ∷ [])) hc.answer.whole
          (operation_reads commute tt [] [] (QsymM ∷ []) from (limit_for from) g c out [] (q ∷ []) [] refl refl (point, tt) hc.answer.indices lifted)))
          (agree q));
    }

    -- and their norm grows as both norms
    pub lifted_norm : norm_of out.terms ≤ 2 ^ ((growth + g) * n)
    lifted_norm =
        let degree : Key → ℕ = λ key. degree_of from (code_at 0 key) in
        let greatest : greatest_of degree c.terms ≤ n = greatest-within degree n c.terms (λ key has. within key (hc.answer.indices key has) (hc.answer.degrees key has)) in
        let power : 2 ^ (g * greatest_of degree c.terms) ≤ 2 ^ (g * n) = pow_mono (mul-le-mul_left g greatest) in
        let e : (growth + g) * n ≡ growth * n + g * n = omega arith in
        let both : 2 ^ ((growth + g) * n) ≡ 2 ^ (growth * n) * 2 ^ (g * n) = ap (λ m. 2 ^ m) e ∙ pow-add 2 (growth * n) (g * n) in
        omega (arith, lifted.norm, both, mul-le-mul_left (norm_of c.terms) power, mul-le-mul_right (2 ^ (g * n)) hc.norm)
      where
        within : (key : Key) → AreIndices (from ∷ []) key → total_degree (from ∷ []) key ≡ n → degree_of from (code_at 0 key) ≤ n
        within [] h e = absurd h
        within (code ∷ []) h e = omega (arith, e)
        within (code ∷ code' ∷ key) h e = absurd h.1

-- a key of one index
record IsOneIndex (n : ℕ) (key : Key) : Type 0 where
  code : Code
  is : key ≡ code ∷ []
  index : IsIndex QsymM code
  degree : degree_of QsymM code ≡ n

one_index : (n : ℕ) (key : Key) → AreIndices (QsymM ∷ []) key → total_degree (QsymM ∷ []) key ≡ n → IsOneIndex n key
one_index n [] h e = absurd h
one_index n (code ∷ []) h e = record { code = code; is = refl; index = h.0; degree = omega (arith, e) }
one_index n (code ∷ c ∷ key) h e = absurd h.1

-- a key of two
record IsTwoIndices (n : ℕ) (key : Key) : Type 0 where
  first : Code
  second : Code
  is : key ≡ first ∷ second ∷ []
  first_index : IsIndex QsymM first
  degrees : degree_of QsymM first + degree_of QsymM second ≡ n

-- what a key of two weighs: the product of both
abbrev weight : Point → Key → ℤ
weight q = reads_as (two_codes QsymM 0 0) [] [] [] (q ∷ []) []

-- products of the terms of two answers
module _ (n m growth : ℕ) (r s : Reading) (c d t p : Combination) (hc : IsOfAnyNorm n r c) (hd : IsOfAnyNorm m s d) (canonical : IsCanonical t.rank t.den t.terms) (tensor : IsTensor c d t)
    (is : AreMultiplied QsymM growth 0 t p) where
  two_indices : (key : Key) → HasKey t.terms key → IsTwoIndices (n + m) key
  two_indices key has =
      let (left, right, in_left, in_right, same) = tensor.keys key has in
      let x = one_index n left (hc.indices left in_left) (hc.degrees left in_left) in
      let y = one_index m right (hd.indices right in_right) (hd.degrees right in_right) in
      record { first = x.code; second = y.code; is = same ∙ (λ i. x.is i ++ y.is i); first_index = x.index; degrees = omega (arith, x.degree, y.degree) }

  whole_tensor : t.den ≡ 1
  whole_tensor =
      let dens : c.den * d.den ≡ 1 = λ i. hc.whole i * hd.whole i in
      omega (arith, tensor.den, canonical.lowest.positive, dens)

  whole_product : p.den ≡ 1
  whole_product = one_den p.den t.den whole_tensor is.den

  put_key : (key : Key) → HasKey p.terms key → AreIndices (QsymM ∷ []) key × (total_degree (QsymM ∷ []) key ≡ n + m)
  put_key key has =
      let put = is.keys key has in
      let two = two_indices put.key put.has in
      let same : key ≡ put.codes = put.is ∙ ap (λ v. replaced 0 put.codes (replaced 1 [] v)) two.is ∙ append-nil put.codes in (
        subst (AreIndices (QsymM ∷ [])) (sym same) put.indices,
        ap (total_degree (QsymM ∷ [])) same ∙ put.degrees ∙ ap (λ v. degree_of QsymM (code_at 0 v) + degree_of QsymM (code_at 1 v)) two.is ∙ two.degrees,
      )

  at_codes : (q : Point) (l k : Key) (x y : Code) → l ≡ x ∷ [] → k ≡ y ∷ [] → weight q (l ++ k) ≡ numerator (product (of_key (QsymM ∷ []) l) (of_key (QsymM ∷ []) k)) (q ∷ [])
  at_codes q l k x y el ek =
      (λ i. weight q (el i ++ ek i))
      ∙ one_times (numerator (product (element QsymM x) (element QsymM y)) (q ∷ []))
      ∙ sym (λ i. numerator (product (of_key (QsymM ∷ []) (el i)) (of_key (QsymM ∷ []) (ek i))) (q ∷ []))

  products_read : (q : Point) → weighed (weight q) t.terms ≡ numerator (product (leaf (QsymM ∷ []) 1 c.terms) (leaf (QsymM ∷ []) 1 d.terms)) (q ∷ [])
  products_read q =
      let w = weight q in
      let dens : pos c.den *ℤ pos d.den ≡ pos 1 = λ i. pos (hc.whole i) *ℤ pos (hd.whole i) in
      whole_sum (weighed w t.terms) (weighed (λ l. weighed (λ k. w (l ++ k)) d.terms) c.terms)
      (ap (λ z. weighed w t.terms *ℤ z) (sym dens) ∙ tensor.weighs w ∙ ap (λ e. weighed (λ l. weighed (λ k. w (l ++ k)) d.terms) c.terms *ℤ pos e) whole_tensor)
      ∙ weighed_same (λ l. weighed (λ k. w (l ++ k)) d.terms) (λ l. weighed (λ k. numerator (product (of_key (QsymM ∷ []) l) (of_key (QsymM ∷ []) k)) (q ∷ [])) d.terms) c.terms
      (each_from _ c.terms (λ i lt. weighed_same (λ k. w ((term_at c.terms i).1 ++ k)) (λ k. numerator (product (of_key (QsymM ∷ []) (term_at c.terms i).1) (of_key (QsymM ∷ []) k)) (q ∷ [])) d.terms
      (each_from _ d.terms (λ j lt'.
      let x = one_index n (term_at c.terms i).1 (hc.indices (term_at c.terms i).1 (i, lt, refl)) (hc.degrees (term_at c.terms i).1 (i, lt, refl)) in
      let y = one_index m (term_at d.terms j).1 (hd.indices (term_at d.terms j).1 (j, lt', refl)) (hd.degrees (term_at d.terms j).1 (j, lt', refl)) in
      at_codes q (term_at c.terms i).1 (term_at d.terms j).1 x.code y.code x.is y.is))))
      ∙ sym (reads_bilinearly (QsymM ∷ []) 1 1 c.terms d.terms (q ∷ []))

  reads : exponents ∷ [] ≡ kinds_of r → (q : Point) → AgreeAt (leaf (QsymM ∷ []) 1 p.terms) (product r s) (q ∷ [])
  reads kinds q =
      let over = λ (key : Key) (has : HasKey t.terms key). (let two = two_indices key has in subst (λ v. AreIndices (QsymM ∷ []) (replaced 1 [] v)) (sym two.is) (two.first_index, tt)) in
      let sum : numerator (leaf (QsymM ∷ []) 1 p.terms) (q ∷ []) ≡ weighed (weight q) t.terms =
      whole_sum (numerator (leaf (QsymM ∷ []) 1 p.terms) (q ∷ [])) (weighed (weight q) t.terms)
      (ap (λ e. numerator (leaf (QsymM ∷ []) 1 p.terms) (q ∷ []) *ℤ pos e) (sym whole_tensor) ∙ is.reads [] [] [] (q ∷ []) [] refl refl over (tt, tt)
      ∙ ap (λ e. weighed (weight q) t.terms *ℤ pos e) whole_product) in
      ap (λ z. z *ℤ pos (denominator (product r s))) (sum ∙ products_read q)
      ∙ product_agrees (leaf (QsymM ∷ []) 1 c.terms) r (leaf (QsymM ∷ []) 1 d.terms) s (q ∷ []) kinds (tt, tt) (λ qs points. hc.reads qs points) (λ qs points. hd.reads qs points)

  -- they add up to the product
  pub multiplied_image : exponents ∷ [] ≡ kinds_of r → IsOfAnyNorm (n + m) (product r s) p
  multiplied_image kinds = record {
    canonical = is.canonical;
    rank = omega (arith, is.rank, tensor.rank, hc.rank, hd.rank);
    whole = whole_product;
    indices = λ key has. (put_key key has).0;
    degrees = λ key has. (put_key key has).1;
    reads = at_one_point exponents (AgreeAt (leaf (QsymM ∷ []) 1 p.terms) (product r s)) (λ q point. reads kinds q);
  }
