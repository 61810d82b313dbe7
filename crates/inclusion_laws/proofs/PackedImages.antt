-- The commuting image of M of a packed word is M of its evaluation (Hivert 1999).
use Rattle.std.proofs.Common.{◌≡◌, ℕ, zero, suc, ◌+◌, ◌-◌, ◌*◌, ◌<◌, ◌≤◌, Bool, true, false, List, [], ◌∷◌, map, length, take, drop, replicate, refl, sym, ◌∙◌, ap, subst, arith}
use Rattle.std.specs.Prelude.{IsTrue, nat_le, nat_lt}
use Rattle.std.specs.List.{range_with_len, sum}
use Rattle.std.proofs.lemmas.Bool.Decides.{nat_tests}
use Rattle.std.proofs.lemmas.List.{length-map}
use Rattle.std.proofs.lemmas.List.FromFn.{length-range_with_len, take-map-range_with_len}
use Rattle.std.proofs.lemmas.List.Sums.{sum_by-cons}
use Rattle.basis_names.specs.declared.bases.BasisId.TheVariants.{QsymM, WqsymM}
use Rattle.realisations.specs.Codes.{Code}
use Rattle.realisations.specs.Exponents.{without_zeros}
use Rattle.realisations.specs.IndexKinds.{IsComposition, is_packed}
use Rattle.realisations.specs.Lists.{is_among, same_list, one_if}
use Rattle.realisations.specs.Occurrence.{occurs}
use Rattle.realisations.specs.Points.{Point}
use Rattle.realisations.specs.Standardisation.{count_below, count_same, pack}
use Rattle.realisations.specs.Words.{greatest}
use Rattle.realisations.proofs.Every.{every-any}
use Rattle.realisations.proofs.PointsOfReadings.{word_replicated}
use Rattle.realisations.proofs.RisingMaps.{Letters, pack-map}
use Rattle.realisations.proofs.Sums.{sums, sums-map}
use Rattle.basis_representatives.proofs.Letters.{Letters-values, Letters-weaker}
use Rattle.basis_representatives.proofs.PackedWords.{HasAllLetters, all_letters, letters_to_greatest, pack-packed}
use Rattle.basis_representatives.proofs.SameLists.{same_list-both}
use Rattle.coproduct_laws.specs.ValueCuts.{letters_past, letters_up_to, lower, value_cuts}
use Rattle.coproduct_laws.proofs.CutLetters.{count_past, count_up_to, counted, greatest_up_to}
use Rattle.coproduct_laws.proofs.LowAndHigh.{past_high, past_low}
use Rattle.coproduct_laws.proofs.ValueRules.{packed_rule}
use Rattle.coproduct_laws.proofs.WordCuts.{word_cuts_count}
use Rattle.coproduct_rules.proofs.InversePlaces.{count_below_range, none_below_one}
use Rattle.coproduct_rules.proofs.Ranges.{sums_range_alike}
use Rattle.inclusion_laws.specs.CommutingImages.{evaluation}
use Rattle.inclusion_laws.proofs.CommutingImages.{CountsAsImage, KeepsDegrees}
use Rattle.inclusion_laws.proofs.CountsOfWords.{HasImages, words_at-image}
use Rattle.inclusion_laws.proofs.LetterOne.{count_ones, greatest_ones, ones}
use Rattle.inclusion_laws.proofs.CutsAtPlaces.{word_cuts_at}

-- functions that agree on two ranges
map_alike : (f g : ℕ → ℕ) (a b n : ℕ) → ((i : ℕ) → i < n → f (a + i) ≡ g (b + i)) → map f (range_with_len a n) ≡ map g (range_with_len b n)
map_alike f g a b zero same = refl
map_alike f g a b (suc n) same =
    let at_a : a + 0 ≡ a = omega arith in
    let at_b : b + 0 ≡ b = omega arith in
    let head : f a ≡ g b = ap f (sym at_a) ∙ same 0 (omega arith) ∙ ap g at_b in
    let tail = map_alike f g (a + 1) (b + 1) n
    (λ i lt.
    let next_a : a + 1 + i ≡ a + suc i = omega arith in
    let next_b : b + suc i ≡ b + 1 + i = omega arith in
    ap f next_a ∙ same (suc i) (omega (arith, lt)) ∙ ap g next_b) in
    λ t. head t ∷ tail t

drop_range : (f : ℕ → ℕ) (k a n : ℕ) → k ≤ n → drop k (map f (range_with_len a n)) ≡ map f (range_with_len (a + k) (n - k))
drop_range f zero a n le =
    let e : a + 0 ≡ a = omega arith in
    let d : n - 0 ≡ n = omega arith in
    λ i. map f (range_with_len (sym e i) (sym d i))
drop_range f (suc k) a zero le = absurd (omega (arith, le))
drop_range f (suc k) a (suc n) le =
    let e : a + 1 + k ≡ a + suc k = omega arith in
    let d : n - k ≡ suc n - suc k = omega arith in
    drop_range f k (a + 1) n (omega (arith, le)) ∙ (λ i. map f (range_with_len (e i) (d i)))

greatest_past : (k : ℕ) (w : List ℕ) → greatest (lower k (letters_past k w)) ≡ greatest w - k
greatest_past k [] = omega arith
greatest_past k (x ∷ w) = by_test (nat_le x k) refl (greatest_past k w)
  where
    by_test : (b : Bool) → nat_le x k ≡ b → greatest (lower k (letters_past k w)) ≡ greatest w - k → greatest (lower k (letters_past k (x ∷ w))) ≡ greatest (x ∷ w) - k
    by_test true e ih = let le : x ≤ k = grind (arith, nat_tests) in rw (past_low k x w e) (omega (arith, ih, le))
    by_test false e ih = let lt : k < x = grind (arith, nat_tests) in rw (past_high k x w e) (omega (arith, ih, lt))

module _ (u : List ℕ) (packed : HasAllLetters u) (k : ℕ) (le : k ≤ greatest u) where
  -- the evaluation of the letters up to k
  take-evaluation : take k (evaluation u) ≡ evaluation (letters_up_to k u)
  take-evaluation =
      take-map-range_with_len (λ x. count_same x u) 1 (greatest u) k le
      ∙ map_alike (λ x. count_same x u) (λ x. count_same x (letters_up_to k u)) 1 1 k (λ i lt. sym (count_up_to k (1 + i) u (omega (arith, lt))))
      ∙ ap (λ n. map (λ x. count_same x (letters_up_to k u)) (range_with_len 1 n)) (sym (greatest_up_to u packed k le))

  -- and of those past k, lowered
  drop-evaluation : drop k (evaluation u) ≡ evaluation (lower k (letters_past k u))
  drop-evaluation =
      drop_range (λ x. count_same x u) k 1 (greatest u) le
      ∙ map_alike (λ x. count_same x u) (λ x. count_same x (lower k (letters_past k u))) (1 + k) 1 (greatest u - k)
      (λ i lt. let e : 1 + k + i ≡ k + (1 + i) = omega arith in ap (λ x. count_same x u) e ∙ sym (count_past k (1 + i) u (omega arith)))
      ∙ ap (λ n. map (λ x. count_same x (lower k (letters_past k u))) (range_with_len 1 n)) (sym (greatest_past k u))

length-evaluation : (u : List ℕ) → length (evaluation u) ≡ greatest u
length-evaluation u = length-map (range_with_len 1 (greatest u)) (λ x. count_same x u) ∙ length-range_with_len 1 (greatest u)

-- the cuts of the evaluation are the evaluations of the cuts
packed_images : (n : ℕ) (p : Point) (u : Code) → IsTrue (is_packed u)
    → one_if (occurs QsymM (evaluation u) (suc n ∷ p)) ≡ sums (λ (e : Code × Code). one_if (occurs QsymM (evaluation e.0) (suc n ∷ [])) * one_if (occurs QsymM (evaluation e.1) p)) (value_cuts u)
packed_images n p u is =
    let a : List ℕ = suc n ∷ [] in
    let b : List ℕ = without_zeros p in
    let f : Code × Code → ℕ = λ e. one_if (same_list a e.0) * one_if (same_list b e.1) in
    let E = evaluation u in
    word_cuts_count a b E
    ∙ word_cuts_at f E
    ∙ ap (λ m. sums (λ k. f (take k E, drop k E)) (range_with_len 0 (suc m))) (length-evaluation u)
    ∙ sums_range_alike (λ k. f (take k E, drop k E)) (λ k. f (evaluation (letters_up_to k u), evaluation (lower k (letters_past k u)))) 0 (suc (greatest u))
    (λ k from to.
    let le : k ≤ greatest u = omega (arith, to) in
    λ i. f (take-evaluation u (all_letters u is) k le i, drop-evaluation u (all_letters u is) k le i))
    ∙ sym (sums-map (λ (e : Code × Code). f (evaluation e.0, evaluation e.1)) (λ k. (letters_up_to k u, lower k (letters_past k u))) (range_with_len 0 (suc (greatest u))))

-- no letters
no_letters : (u : List ℕ) → HasAllLetters u → greatest u ≡ 0 → u ≡ []
no_letters [] h e = refl
no_letters (x ∷ u) h e = absurd (omega (arith, e, h.positive.0))

packed_nothing : (u : Code) → IsTrue (is_packed u) → occurs WqsymM u [] ≡ occurs QsymM (evaluation u) []
packed_nothing u is =
    same_list-both [] u [] (evaluation u) (λ e. ap evaluation e)
    (λ e. sym (no_letters u (all_letters u is) (sym (length-evaluation u) ∙ sym (ap length e))))

ones_packed : (n : ℕ) → HasAllLetters (replicate (suc n) 1)
ones_packed n = record {
  positive = word_replicated (suc n) 1 (omega arith);
  each = λ x from to. let same : x ≡ 1 = omega (arith, from, to, greatest_ones n) in subst (λ y. is_among y (replicate (suc n) 1) ≡ true) (sym same) refl;
}

packed_block : (n : ℕ) (u : Code) → IsTrue (is_packed u) → occurs WqsymM u (replicate (suc n) 1) ≡ occurs QsymM (evaluation u) (suc n ∷ [])
packed_block n u is =
    same_list-both (pack (replicate (suc n) 1)) u (suc n ∷ []) (evaluation u) (λ e. sym evaluated ∙ ap evaluation (sym own ∙ e)) (λ e. own ∙ from e)
  where
    own : pack (replicate (suc n) 1) ≡ replicate (suc n) 1
    own = pack-packed (replicate (suc n) 1) (ones_packed n)

    evaluated : evaluation (replicate (suc n) 1) ≡ suc n ∷ []
    evaluated = ap (λ g. map (λ x. count_same x (replicate (suc n) 1)) (range_with_len 1 g)) (greatest_ones n) ∙ ap (λ c. c ∷ []) (count_ones (suc n))

    from : suc n ∷ [] ≡ evaluation u → replicate (suc n) 1 ≡ u
    from e =
        let h = all_letters u is in
        let one : greatest u ≡ 1 = sym (length-evaluation u) ∙ sym (ap length e) in
        let all : u ≡ replicate (length u) 1 = ones u h.positive (letters_to_greatest u 1 (omega (arith, one))) in
        let counts : suc n ∷ [] ≡ count_same 1 u ∷ [] = e ∙ ap (λ g. map (λ x. count_same x u) (range_with_len 1 g)) one in
        let size : suc n ≡ length u = first counts ∙ ap (count_same 1) all ∙ count_ones (length u) in
        ap (λ m. replicate m 1) size ∙ sym all
      where
        head_or : List ℕ → ℕ
        head_or [] = 0
        head_or (x ∷ w) = x

        first : {a b : ℕ} → a ∷ [] ≡ b ∷ [] → a ≡ b
        first e = ap head_or e

-- M of packed words has evaluations for images
packed_words_have : HasImages WqsymM QsymM (λ u. evaluation u)
packed_words_have = record {
  words = refl;
  pairs = λ u. value_cuts u;
  rule = packed_rule;
  raised = λ u w. ap (λ v. same_list v u) (pack-map (λ x. Unit {0}) (λ x. 1 + x) (λ x y hx hy h. omega (arith, h)) w (every-any (λ x. Unit {0}) (λ x. tt) w));
  zeros = λ u p. refl;
  nothing = packed_nothing;
  block = packed_block;
  images = packed_images;
}

-- M of a packed word occurs at as many words as M of its evaluation
pub evaluation_counts : CountsAsImage WqsymM QsymM (λ u. evaluation u)
evaluation_counts = words_at-image WqsymM QsymM (λ u. evaluation u) packed_words_have

composition_of_letters : (parts : List ℕ) → Letters (λ a. 0 < a) parts → IsComposition parts
composition_of_letters [] h = tt
composition_of_letters (a ∷ parts) h = (h.0, composition_of_letters parts h.1)

sum-sums : (f : ℕ → ℕ) (xs : List ℕ) → sum (map f xs) ≡ sums f xs
sum-sums f [] = refl
sum-sums f (x ∷ xs) = omega (arith, sum_by-cons (λ (k : ℕ). k) (f x) (map f xs), sum-sums f xs)

all_below : (g : ℕ) (w : List ℕ) → Letters (λ x. x ≤ g) w → count_below (suc g) w ≡ length w
all_below g [] h = refl
all_below g (x ∷ w) h = let le = h.0 in let e : one_if (nat_lt x (suc g)) ≡ 1 = grind (arith, nat_tests, le) in omega (arith, e, all_below g w h.1)

-- the evaluation of a packed word is a composition of its length
pub evaluation_keeps : KeepsDegrees WqsymM QsymM (λ u. evaluation u)
evaluation_keeps u is =
    let h = all_letters u is in
    let g = greatest u in
    let counts = count_below_range (λ x. count_same x u) 1 g u (λ n from to. refl) in
    let next : count_below (1 + g) u ≡ count_below (suc g) u = (let e : 1 + g ≡ suc g = omega arith in ap (λ n. count_below n u) e) in
    let size : sum (evaluation u) ≡ length u =
    omega (
      arith,
      sum-sums (λ x. count_same x u) (range_with_len 1 g),
      counts,
      next,
      none_below_one u (Letters-weaker (λ x. 1 ≤ x) (λ x. 0 < x) (λ x k. k) u h.positive),
      all_below g u (letters_to_greatest u g (omega arith)),
    ) in (
      composition_of_letters (evaluation u) (Letters-values (λ a. 0 < a) (λ x. count_same x u) 1 g (λ x from to. counted x u (h.each x from (omega (arith, to))))),
      size,
    )
