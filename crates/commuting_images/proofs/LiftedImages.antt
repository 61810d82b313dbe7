-- The commuting image of an element over a basis of words is the sum of those of the elements there.
use Rattle.std.proofs.Common.{◌≡◌, ℕ, suc, ◌+◌, ◌*◌, ◌^◌, ◌≤◌, List, [], ◌∷◌, map, refl, sym, ◌∙◌, ap, subst, arith}
use Rattle.std.specs.Int.{◌∣◌}
use Rattle.std.specs.List.{AllByRecursion}
use Rattle.std.proofs.Math.IntN.{ℤ, pos, ◌+ℤ◌, ◌*ℤ◌, *ℤ-one, one}
use Rattle.std.proofs.Math.Nat.{eq-one_of_dvd-one, mul-le-mul_left, mul-le-mul_right}
use Rattle.std.proofs.Math.Pow.{pow-add, pow_mono}
use Rattle.basis_names.specs.declared.bases.BasisId.{BasisId}
use Rattle.basis_names.specs.declared.bases.BasisId.TheVariants.{QsymM}
use Rattle.change_laws.specs.Lifts.{code_at}
use Rattle.commuting_images.specs.Images.{image_facts}
use Rattle.inclusion_laws.proofs.CountsOfWords.{words_are_points}
use Rattle.index_rules.specs.Changes.{operation_facts}
use Rattle.index_rules.specs.Lifts.{CanLift, IsLift}
use Rattle.index_rules.specs.Rules.{IsAnswerWithin, greatest_of}
use Rattle.index_rules.specs.Spaces.{limit_for}
use Rattle.index_rules.proofs.LiftsRead.{lifted_indices, operation_reads}
use Rattle.index_rules.proofs.ProductsByChange.{can_change}
use Rattle.realisations.specs.Bases.{kind_of}
use Rattle.realisations.specs.Codes.{Key}
use Rattle.realisations.specs.Combinations.{Combination, HasKey, norm_of}
use Rattle.realisations.specs.Indices.{AreIndices, degree_of, total_degree}
use Rattle.realisations.specs.Lists.{int_sum, with_sign}
use Rattle.realisations.specs.Points.{Kind, Point, Points, ArePoints, IsPoint, exponents, word}
use Rattle.realisations.specs.Readings.{Reading, Terms, AgreeAt, applied, commute, denominator, kinds_of, leaf, numerator, reads_at}
use Rattle.realisations.specs.Words.{words_of}
use Rattle.realisations.proofs.Agreement.{agree_trans}
use Rattle.realisations.proofs.TuplesOfPoints.{at_one_point}

-- the sum of a reading over words
abbrev over_words : Reading → List Point → ℤ
over_words a ws = int_sum (map (λ (r : ℕ × Points). with_sign r.0 (numerator a r.1)) (map (λ (q : Point). (0, q ∷ [])) ws))

-- a commuting image is read at the words that become a monomial
at_words : (a : Reading) → kinds_of a ≡ word ∷ [] → (p : Point) → numerator (applied commute 0 a) (p ∷ []) ≡ over_words a (words_of p)
at_words a same p = ap (λ (kinds : List Kind). int_sum (map (λ (r : ℕ × Points). with_sign r.0 (numerator a r.1)) (reads_at 0 commute kinds (p ∷ [])))) same

-- so the images of readings of words that agree do
same_over_words : (a b : Reading) → ((w : Point) → IsPoint word w → numerator a (w ∷ []) ≡ numerator b (w ∷ [])) → (ws : List Point) → AllByRecursion (IsPoint word) ws → over_words a ws ≡ over_words b ws
same_over_words a b same [] h = refl
same_over_words a b same (w ∷ ws) h = λ i. same w h.0 i +ℤ same_over_words a b same ws h.1 i

images_agree : (a b : Reading) → kinds_of a ≡ word ∷ [] → kinds_of b ≡ word ∷ [] → denominator a ≡ denominator b → ((w : Point) → IsPoint word w → numerator a (w ∷ []) ≡ numerator b (w ∷ []))
    → (p : Point) → AgreeAt (applied commute 0 a) (applied commute 0 b) (p ∷ [])
images_agree a b kinds kinds' dens same p =
    let sums = at_words a kinds p ∙ same_over_words a b same (words_of p) (words_are_points p) ∙ sym (at_words b kinds' p) in
    λ i. sums i *ℤ pos (sym dens i)

-- a factor of 1
whole_sum : (x y : ℤ) → x *ℤ pos 1 ≡ y *ℤ pos 1 → x ≡ y
unfolding one
whole_sum x y e = sym (*ℤ-one x) ∙ e ∙ *ℤ-one y

-- norms that grow one after the other
grown : (x y f g n k : ℕ) → x ≤ 2 ^ (f * n) → y ≤ x * 2 ^ (g * k) → k ≤ n → y ≤ 2 ^ ((f + g) * n)
grown x y f g n k hx hy hk =
    let power : 2 ^ (g * k) ≤ 2 ^ (g * n) = pow_mono (mul-le-mul_left g hk) in
    let e : (f + g) * n ≡ f * n + g * n = omega arith in
    let both : 2 ^ ((f + g) * n) ≡ 2 ^ (f * n) * 2 ^ (g * n) = ap (λ m. 2 ^ m) e ∙ pow-add 2 (f * n) (g * n) in
    omega (arith, hy, both, mul-le-mul_left x power, mul-le-mul_right (2 ^ (g * n)) hx)

-- what all keys are within, the greatest is
greatest-within : (degree : Key → ℕ) (n : ℕ) (ts : Terms) → ((key : Key) → HasKey ts key → degree key ≤ n) → greatest_of degree ts ≤ n
greatest-within degree n [] h = omega arith
greatest-within degree n (t ∷ ts) h =
    let first = h t.1 (0, omega arith, refl) in
    let rest = greatest-within degree n ts (λ key has. h key (suc has.0, omega (arith, has.1), has.2)) in
    omega (arith, first, rest)

-- the degree of the one code of a key
degree_of_one : (basis : BasisId) (n : ℕ) (key : Key) → AreIndices (basis ∷ []) key → total_degree (basis ∷ []) key ≡ n → degree_of basis (code_at 0 key) ≤ n
degree_of_one basis n [] h e = absurd h
degree_of_one basis n (code ∷ []) h e = omega (arith, e)
degree_of_one basis n (code ∷ other ∷ key) h e = absurd h.1

module _ (from : BasisId) (words : kind_of from ≡ word) (growth image_growth n : ℕ) (r : Reading) (p : Combination) (is : IsAnswerWithin growth (from ∷ []) n r p) where
  greatest : greatest_of (λ key. degree_of from (code_at 0 key)) p.terms ≤ n
  greatest = greatest-within (λ key. degree_of from (code_at 0 key)) n p.terms (λ key has. degree_of_one from n key (is.answer.indices key has) (is.answer.degrees key has))

  -- the images of an answer can be taken
  pub can_take_images : n ≤ limit_for from → n ≤ 12 → CanLift (image_facts from image_growth) 0 p
  can_take_images within small =
      let can = can_change from QsymM (limit_for from) image_growth growth n r p is within small in
      record {
        here = can.here;
        most = can.most;
        indices = λ key has. let index = can.indices key has in record { index = index.index; degree = index.degree };
        room = can.room;
      }

  module _ (five : growth + image_growth ≤ 5) (kinds : kinds_of r ≡ word ∷ []) (over_one : denominator r ≡ 1) (out : Combination) (lifted : IsLift (image_facts from image_growth) 0 p out) where
    whole : out.den ≡ 1
    whole = eq-one_of_dvd-one (subst (λ k. out.den ∣ k) is.answer.whole lifted.den)

    norm : norm_of out.terms ≤ 2 ^ ((growth + image_growth) * n)
    norm = grown (norm_of p.terms) (norm_of out.terms) growth image_growth n (greatest_of (λ key. degree_of from (code_at 0 key)) p.terms) is.norm lifted.norm greatest

    small : norm_of out.terms ≤ 2 ^ (5 * n)
    small = let power : 2 ^ ((growth + image_growth) * n) ≤ 2 ^ (5 * n) = pow_mono (mul-le-mul_right n five) in omega (arith, norm, power)

    -- the answer reads at words as the reading does
    at_word : (w : Point) → IsPoint word w → numerator (leaf (from ∷ []) 1 p.terms) (w ∷ []) ≡ numerator r (w ∷ [])
    at_word w point =
        let agree = is.answer.reads (w ∷ []) (subst (λ kind. IsPoint kind w) (sym words) point, tt) in
        whole_sum (numerator (leaf (from ∷ []) 1 p.terms) (w ∷ [])) (numerator r (w ∷ [])) (ap (λ d. numerator (leaf (from ∷ []) 1 p.terms) (w ∷ []) *ℤ pos d) (sym over_one) ∙ agree)

    reads : (q : Point) → IsPoint exponents q → AgreeAt (leaf (QsymM ∷ []) 1 out.terms) (applied commute 0 r) (q ∷ [])
    reads q point =
        agree_trans (leaf (QsymM ∷ []) 1 out.terms) (applied commute 0 (leaf (from ∷ []) 1 p.terms)) (applied commute 0 r) (q ∷ []) (omega arith)
        (subst (λ e. AgreeAt (leaf (QsymM ∷ []) e out.terms) (applied commute 0 (leaf (from ∷ []) 1 p.terms)) (q ∷ [])) whole
        (subst (λ e. AgreeAt (leaf (QsymM ∷ []) out.den out.terms) (applied commute 0 (leaf (from ∷ []) e p.terms)) (q ∷ [])) is.answer.whole
        (operation_reads commute tt [] [] (QsymM ∷ []) from (limit_for from) image_growth p out [] (q ∷ []) [] refl refl (point, tt) is.answer.indices lifted)))
        (images_agree (leaf (from ∷ []) 1 p.terms) r (ap (λ kind. kind ∷ []) words) kinds (sym over_one) at_word q)

    -- and they are the answer of the image of the reading
    pub images_answer : IsAnswerWithin (growth + image_growth) (QsymM ∷ []) n (applied commute 0 r) out
    images_answer = record {
      answer = record {
        canonical = lifted.canonical;
        rank = omega (arith, lifted.rank, is.answer.rank);
        whole = whole;
        small = small;
        indices = λ key has. (lifted_indices [] [] (image_facts from image_growth) p out is.answer.indices lifted key has).indices;
        degrees = λ key has.
            let old = lifted_indices [] [] (image_facts from image_growth) p out is.answer.indices lifted key has in
            old.degrees ∙ is.answer.degrees old.key old.has;
        reads = at_one_point exponents (AgreeAt (leaf (QsymM ∷ []) 1 out.terms) (applied commute 0 r)) reads;
      };
      norm = norm;
    }
