-- The product of two fundamental quasi-symmetric functions.
use Rattle.std.proofs.Common.{◌≡◌, ℕ, suc, ◌+◌, ◌*◌, ◌^◌, ◌≤◌, Bool, List, [], ◌∷◌, map, length, take, drop, refl, sym, ◌∙◌, ap, subst, arith}
use Rattle.std.proofs.Math.IntN.{pos, ◌*ℤ◌}
use Rattle.std.specs.Prelude.{nat_eq, nat_le, ◌&&◌, replicate}
use Rattle.std.specs.List.{sum}
use Rattle.std.proofs.Math.Nat.{pow-le-pow_right}
use Rattle.std.proofs.lemmas.Bool.{ne_eqb}
use Rattle.std.proofs.lemmas.List.{length-append, length-map}
use Rattle.basis_names.specs.declared.bases.BasisId.TheVariants.{QsymF}
use Rattle.realisations.specs.Descents.{descent_composition, word_of_composition}
use Rattle.realisations.specs.Exponents.{number_cuts, exponent_cuts}
use Rattle.realisations.specs.IndexKinds.{IsComposition}
use Rattle.realisations.specs.Lists.{one_if}
use Rattle.realisations.specs.Occurrence.{occurs}
use Rattle.realisations.specs.Words.{greatest, raise, shifted_shuffles, shuffles}
use Rattle.realisations.proofs.DescentCompositions.{descends}
use Rattle.realisations.proofs.Every.{every-any, every-map}
use Rattle.realisations.proofs.PointsOfReadings.{word_composed}
use Rattle.realisations.proofs.RisingMaps.{Letters, descent_composition-map}
use Rattle.realisations.proofs.Sums.{sums, sums-append, sums-map, sums-flat_map, sums_same, sums_none, sums-scale, over_cuts}
use Rattle.basis_representatives.proofs.BlockWords.{descent_composition-word_of_composition}
use Rattle.basis_representatives.proofs.Letters.{Letters-weaker}
use Rattle.basis_representatives.proofs.PackedWords.{letters_to_greatest}
use Rattle.basis_representatives.proofs.Ranges.{length-block}
use Rattle.basis_representatives.proofs.SameLists.{one_if-and}
use Rattle.basis_representatives.proofs.Steps.{IsComposition-descent_composition}
use Rattle.word_laws.proofs.SpreadParts.{letters_parts}
use Rattle.product_laws.specs.FundamentalProducts.{fundamental_products}
use Rattle.product_laws.specs.Laws.{FundamentalLaw}
use Rattle.product_laws.specs.Products.{AreOfDegree, IsProduct}
use Rattle.product_laws.proofs.ElementProducts.{over_pairs, terms_of_codes_at}
use Rattle.product_laws.proofs.EveryShuffle.{CountsAsBoth, counts_of_shuffles, few_shuffles}
use Rattle.product_laws.proofs.FundamentalFits.{fits_exponents, occurs-fits}
use Rattle.product_laws.proofs.Parts.{sum-cons}
use Rattle.product_laws.proofs.RisingShuffles.{AreApart, is_nondecreasing, nondecreasing_shuffles}
use Rattle.product_laws.proofs.ShuffleCuts.{have, cut_term, shuffle_term, cut_shuffles}

-- fronts of words with no letter in common, and their backs, have none in common

apart-both : (u v : List ℕ) (i j : ℕ) → AreApart u v → AreApart (take i u) (take j v)
apart-both u v i j h = Letters-weaker (λ x. Letters (λ y. x ≡ y → ⊥) v) (λ x. Letters (λ y. x ≡ y → ⊥) (take j v)) (λ x k. (letters_parts (λ y. x ≡ y → ⊥) j v k).0) (take i u) ((letters_parts (λ x. Letters (λ y. x ≡ y → ⊥) v) i u h).0)

apart-backs : (u v : List ℕ) (i j : ℕ) → AreApart u v → AreApart (drop i u) (drop j v)
apart-backs u v i j h = Letters-weaker (λ x. Letters (λ y. x ≡ y → ⊥) v) (λ x. Letters (λ y. x ≡ y → ⊥) (drop j v)) (λ x k. (letters_parts (λ y. x ≡ y → ⊥) j v k).1) (drop i u) ((letters_parts (λ x. Letters (λ y. x ≡ y → ⊥) v) i u h).1)

-- a sum over the cuts of exponents, by the cuts of the first one
cuts-cons : (f : List ℕ → List ℕ → ℕ) (n : ℕ) (p : List ℕ)
    → sums (λ (c : List ℕ × List ℕ). f c.0 c.1) (exponent_cuts (n ∷ p)) ≡ over_cuts n (λ i j. sums (λ (c : List ℕ × List ℕ). f (i ∷ c.0) (j ∷ c.1)) (exponent_cuts p))
cuts-cons f n p =
    sums-flat_map (λ (c : List ℕ × List ℕ). f c.0 c.1) (λ (e : ℕ × ℕ). map (λ (c : List ℕ × List ℕ). (e.0 ∷ c.0, e.1 ∷ c.1)) (exponent_cuts p)) (number_cuts n)
    ∙ sums_same (λ (e : ℕ × ℕ). sums (λ (c : List ℕ × List ℕ). f c.0 c.1) (map (λ (c : List ℕ × List ℕ). (e.0 ∷ c.0, e.1 ∷ c.1)) (exponent_cuts p))) (λ (e : ℕ × ℕ). sums (λ (c : List ℕ × List ℕ). f (e.0 ∷ c.0) (e.1 ∷ c.1)) (exponent_cuts p))
    (λ (e : ℕ × ℕ). sums-map (λ (c : List ℕ × List ℕ). f c.0 c.1) (λ (c : List ℕ × List ℕ). (e.0 ∷ c.0, e.1 ∷ c.1)) (exponent_cuts p)) (number_cuts n)

-- what two words fit together
abbrev fit_both : List ℕ → List ℕ → List ℕ → List ℕ → ℕ
fit_both u v p q = one_if (fits_exponents p u) * one_if (fits_exponents q v)

first_exponents : (u v : List ℕ) (i j : ℕ) (p : List ℕ)
    → sums (λ (c : List ℕ × List ℕ). fit_both u v (i ∷ c.0) (j ∷ c.1)) (exponent_cuts p)
    ≡ have u i v j * ((one_if (is_nondecreasing (take i u)) * one_if (is_nondecreasing (take j v))) * sums (λ (c : List ℕ × List ℕ). fit_both (drop i u) (drop j v) c.0 c.1) (exponent_cuts p))
first_exponents u v i j p =
    sums_same (λ (c : List ℕ × List ℕ). fit_both u v (i ∷ c.0) (j ∷ c.1))
    (λ (c : List ℕ × List ℕ). (have u i v j * (one_if (is_nondecreasing (take i u)) * one_if (is_nondecreasing (take j v)))) * fit_both (drop i u) (drop j v) c.0 c.1)
    (λ (c : List ℕ × List ℕ). six (nat_le i (length u)) (is_nondecreasing (take i u)) (fits_exponents c.0 (drop i u)) (nat_le j (length v)) (is_nondecreasing (take j v)) (fits_exponents c.1 (drop j v)))
    (exponent_cuts p)
    ∙ sums-scale (have u i v j * (one_if (is_nondecreasing (take i u)) * one_if (is_nondecreasing (take j v)))) (λ (c : List ℕ × List ℕ). fit_both (drop i u) (drop j v) c.0 c.1) (exponent_cuts p)
    ∙ group (have u i v j) (one_if (is_nondecreasing (take i u)) * one_if (is_nondecreasing (take j v))) (sums (λ (c : List ℕ × List ℕ). fit_both (drop i u) (drop j v) c.0 c.1) (exponent_cuts p))
  where
    group : (a b c : ℕ) → (a * b) * c ≡ a * (b * c)
    group a b c = omega arith

    both : (p q : Bool) → one_if (p && q) ≡ one_if p * one_if q
    both p q = one_if-and p q

    times : (a b c x y z : ℕ) → (a * (b * c)) * (x * (y * z)) ≡ ((a * x) * (b * y)) * (c * z)
    times a b c x y z = omega arith

    six : (a b c x y z : Bool) → one_if (a && (b && c)) * one_if (x && (y && z)) ≡ ((one_if a * one_if x) * (one_if b * one_if y)) * (one_if c * one_if z)
    six a b c x y z =
        (λ k. (both a (b && c) ∙ ap (λ n. one_if a * n) (both b c)) k * (both x (y && z) ∙ ap (λ n. one_if x * n) (both y z)) k)
        ∙ times (one_if a) (one_if b) (one_if c) (one_if x) (one_if y) (one_if z)

no_exponents : (u v : List ℕ) → fit_both u v [] [] + 0 ≡ sums (λ w. one_if (nat_eq (length w) 0)) (shuffles u v)
no_exponents [] v = omega arith
no_exponents (x ∷ u) [] = omega arith
no_exponents (x ∷ u) (y ∷ v) =
    let no : one_if (nat_eq (suc (length u)) 0) ≡ 0 = ap one_if (ne_eqb (suc (length u)) 0 (λ e. absurd (omega (arith, e)))) in
    omega (
      arith,
      ap (λ n. n * one_if (nat_eq (suc (length v)) 0)) no,
      sums-append (λ w. one_if (nat_eq (length w) 0)) (map (λ w. x ∷ w) (shuffles u (y ∷ v))) (map (λ w. y ∷ w) (shuffles (x ∷ u) v)),
      sums-map (λ w. one_if (nat_eq (length w) 0)) (λ w. x ∷ w) (shuffles u (y ∷ v)),
      sums-map (λ w. one_if (nat_eq (length w) 0)) (λ w. y ∷ w) (shuffles (x ∷ u) v),
      sums_none (λ w. one_if (nat_eq (length (x ∷ w)) 0)) (λ w. some (length w)) (shuffles u (y ∷ v)),
      sums_none (λ w. one_if (nat_eq (length (y ∷ w)) 0)) (λ w. some (length w)) (shuffles (x ∷ u) v),
    )
  where
    some : (n : ℕ) → one_if (nat_eq (suc n) 0) ≡ 0
    some n = ap one_if (ne_eqb (suc n) 0 (λ e. absurd (omega (arith, e))))

-- the pairs of exponents that two words with no letter in common fit, as often as their shuffles fit the sum
pub shuffles_fit : (p u v : List ℕ) → AreApart u v
    → sums (λ (c : List ℕ × List ℕ). fit_both u v c.0 c.1) (exponent_cuts p) ≡ sums (λ w. one_if (fits_exponents p w)) (shuffles u v)
shuffles_fit [] u v h = no_exponents u v
shuffles_fit (n ∷ p) u v h =
    cuts-cons (fit_both u v) n p
    ∙ sums_same (λ (e : ℕ × ℕ). sums (λ (c : List ℕ × List ℕ). fit_both u v (e.0 ∷ c.0) (e.1 ∷ c.1)) (exponent_cuts p))
    (λ (e : ℕ × ℕ). cut_term (λ w. one_if (is_nondecreasing w)) (λ w. one_if (fits_exponents p w)) u v e.0 e.1)
    (λ (e : ℕ × ℕ).
    first_exponents u v e.0 e.1 p
    ∙ (λ k. have u e.0 v e.1 * (sym (nondecreasing_shuffles (take e.0 u) (take e.1 v) (apart-both u v e.0 e.1 h)) k * shuffles_fit p (drop e.0 u) (drop e.1 v) (apart-backs u v e.0 e.1 h) k)))
    (number_cuts n)
    ∙ sym (cut_shuffles n (λ w. one_if (is_nondecreasing w)) (λ w. one_if (fits_exponents p w)) u v)
    ∙ sums_same (shuffle_term n (λ w. one_if (is_nondecreasing w)) (λ w. one_if (fits_exponents p w))) (λ w. one_if (fits_exponents (n ∷ p) w))
    (λ w. sym (one_if-and (nat_le n (length w)) (is_nondecreasing (take n w) && fits_exponents p (drop n w)) ∙ ap (λ m. one_if (nat_le n (length w)) * m) (one_if-and (is_nondecreasing (take n w)) (fits_exponents p (drop n w)))))
    (shuffles u v)

-- F of C(u) times F of C(v) is the sum of F of C(w) over the shuffles w of u and v, where these have no letter in common (Gessel 1984)
pub descents_of_shuffles_read : (u v : List ℕ) → AreApart u v → IsProduct QsymF (descent_composition u) (descent_composition v) (map descent_composition (shuffles u v))
descents_of_shuffles_read u v h p point =
    ap (λ z. z *ℤ pos 1)
    (terms_of_codes_at QsymF (map descent_composition (shuffles u v)) p
    ∙ ap pos (
    sums-map (λ code. one_if (occurs QsymF code p)) descent_composition (shuffles u v)
    ∙ sums_same (λ w. one_if (occurs QsymF (descent_composition w) p)) (λ w. one_if (fits_exponents p w)) (λ w. ap one_if (occurs-fits w p)) (shuffles u v)
    ∙ sym (shuffles_fit p u v h)
    ∙ sums_same (λ (c : List ℕ × List ℕ). fit_both u v c.0 c.1) (λ (c : List ℕ × List ℕ). one_if (occurs QsymF (descent_composition u) c.0) * one_if (occurs QsymF (descent_composition v) c.1))
    (λ (c : List ℕ × List ℕ). (λ k. one_if (sym (occurs-fits u c.0) k) * one_if (sym (occurs-fits v c.1) k))) (exponent_cuts p))
    ∙ sym (over_pairs QsymF (descent_composition u) (descent_composition v) (exponent_cuts p)))

-- letters up to n and positive letters raised by n are different
apart_raised : (n : ℕ) (u v : List ℕ) → Letters (λ x. x ≤ n) u → Letters (λ x. 1 ≤ x) v → AreApart u (raise n v)
apart_raised n u v hu hv = Letters-weaker (λ x. x ≤ n) (λ x. Letters (λ y. x ≡ y → ⊥) (raise n v)) (λ x low. higher x low v hv) u hu
  where
    higher : (x : ℕ) → x ≤ n → (w : List ℕ) → Letters (λ x. 1 ≤ x) w → Letters (λ y. x ≡ y → ⊥) (raise n w)
    higher x low [] h = tt
    higher x low (y ∷ w) h = (λ e. omega (arith, e, low, h.0), higher x low w h.1)

-- raising all letters keeps the descents
descents-raise : (n : ℕ) (w : List ℕ) → descent_composition (raise n w) ≡ descent_composition w
descents-raise n w = descent_composition-map (λ x. Unit {0}) (λ x. n + x) (λ x y hx hy less. omega (arith, less)) w (every-any (λ x. Unit {0}) (λ x. tt) w)

length-word_of_composition : (parts : List ℕ) → length (word_of_composition parts) ≡ sum parts
length-word_of_composition [] = refl
length-word_of_composition (i ∷ parts) =
    omega (arith, length-append (replicate i (suc (length parts))) (word_of_composition parts), length-block i (suc (length parts)), length-word_of_composition parts, sum-cons i parts)

module _ (i j : List ℕ) where
  -- F of I times F of J is the sum of F of C(w) over the shuffles w of a word with descent composition I and one with descent composition J on higher letters
  read : IsComposition i → IsComposition j → IsProduct QsymF i j (fundamental_products i j)
  read hi hj =
      let whole = descents_of_shuffles_read (word_of_composition i) (raise (greatest (word_of_composition i)) (word_of_composition j))
      (apart_raised (greatest (word_of_composition i)) (word_of_composition i) (word_of_composition j) (letters_to_greatest (word_of_composition i) (greatest (word_of_composition i)) (omega arith)) (word_composed j)) in
      let first : descent_composition (word_of_composition i) ≡ i = descent_composition-word_of_composition i hi in
      let second : descent_composition (raise (greatest (word_of_composition i)) (word_of_composition j)) ≡ j =
      descents-raise (greatest (word_of_composition i)) (word_of_composition j) ∙ descent_composition-word_of_composition j hj in
      subst (λ (c : List ℕ × List ℕ). IsProduct QsymF c.0 c.1 (fundamental_products i j)) (λ k. (first k, second k)) whole

  size_of_factors : length (word_of_composition i) + length (raise (greatest (word_of_composition i)) (word_of_composition j)) ≡ sum i + sum j
  size_of_factors = omega (arith, length-word_of_composition i, length-map (word_of_composition j) (λ x. greatest (word_of_composition i) + x), length-word_of_composition j)

  -- each of them is a composition of the sum of the sizes
  indices : AreOfDegree QsymF (sum i + sum j) (fundamental_products i j)
  indices =
      every-map (CountsAsBoth (word_of_composition i) (raise (greatest (word_of_composition i)) (word_of_composition j))) (λ code. IsComposition code × (sum code ≡ sum i + sum j)) descent_composition
      (λ w h. (IsComposition-descent_composition w, omega (arith, (descends w).0, h.1, size_of_factors)))
      (shifted_shuffles (word_of_composition i) (word_of_composition j))
      (counts_of_shuffles (word_of_composition i) (raise (greatest (word_of_composition i)) (word_of_composition j)))

  -- there are at most 2^n
  few : length (fundamental_products i j) ≤ 2 ^ (5 * (sum i + sum j))
  few =
      let bound : 2 ^ (sum i + sum j) ≤ 2 ^ (5 * (sum i + sum j)) = pow-le-pow_right {n = 2} (omega arith) {i = sum i + sum j} {j = 5 * (sum i + sum j)} (omega arith) in
      omega (
        arith,
        length-map (shifted_shuffles (word_of_composition i) (word_of_composition j)) descent_composition,
        few_shuffles (sum i + sum j) (word_of_composition i) (raise (greatest (word_of_composition i)) (word_of_composition j)) size_of_factors,
        bound,
      )

pub fundamental_rule : FundamentalLaw
fundamental_rule i j hi hj = record { reads = read i j hi hj; indices = indices i j; few = few i j }
