-- The commuting image of F of a permutation is F of its descent composition (Malvenuto, Reutenauer 1995).
use Rattle.std.proofs.Common.{◌≡◌, ℕ, zero, suc, ◌+◌, ◌-◌, ◌*◌, ◌<◌, ◌≤◌, Bool, true, false, List, [], ◌∷◌, ◌++◌, map, length, take, drop, replicate, refl, sym, ◌∙◌, ap, subst, arith}
use Rattle.std.specs.Prelude.{IsTrue, nat_eq, nat_le, nat_lt, ◌&&◌, if◌then◌else◌}
use Rattle.std.specs.List.{range_with_len, sum}
use Rattle.std.proofs.lemmas.Bool.{and_from, and_parts, eq-eqb, eqb-true}
use Rattle.std.proofs.lemmas.Bool.Decides.{nat_tests}
use Rattle.std.proofs.lemmas.List.FromFn.{length-range_with_len}
use Rattle.basis_names.specs.declared.bases.BasisId.TheVariants.{FqsymF, QsymF}
use Rattle.realisations.specs.Codes.{Code}
use Rattle.realisations.specs.Descents.{descent_composition, descent_set, descents, longer_first, places_where}
use Rattle.realisations.specs.IndexKinds.{IsComposition, is_permutation}
use Rattle.realisations.specs.Lists.{is_subset, one_if, same_list}
use Rattle.realisations.specs.Occurrence.{occurs}
use Rattle.realisations.specs.Points.{Point}
use Rattle.realisations.specs.Standardisation.{count_below, count_same, inverse, place_of, standardise, standardise_after}
use Rattle.realisations.specs.Words.{raise, word_cuts}
use Rattle.realisations.proofs.DescentCompositions.{descends}
use Rattle.realisations.proofs.Every.{every-any}
use Rattle.realisations.proofs.Pattern.{occurs-pattern}
use Rattle.realisations.proofs.RisingMaps.{Letters, pack-map}
use Rattle.realisations.proofs.Sums.{sums, sums-map, sums_same}
use Rattle.basis_representatives.proofs.Counts.{one_if-self}
use Rattle.basis_representatives.proofs.Entries.{above_later}
use Rattle.basis_representatives.proofs.Letters.{Letters-weaker}
use Rattle.basis_representatives.proofs.Permutations.{count_same-permutation, each_once, letters-permutation, letters_that_occur}
use Rattle.basis_representatives.proofs.RowByRow.{Above, RisingRow}
use Rattle.basis_representatives.proofs.SameLists.{same_list-true}
use Rattle.basis_representatives.proofs.SameOrder.{descent_composition-standardise}
use Rattle.basis_representatives.proofs.Steps.{IsComposition-descent_composition}
use Rattle.coproduct_rules.specs.DegreeCuts.{degree_cuts, front_of_degree, rest_past_degree}
use Rattle.coproduct_rules.specs.PlaceCuts.{place_cuts}
use Rattle.coproduct_rules.proofs.DegreeCuts.{front_cut, front_none, front_whole, rest_cut, rest_whole}
use Rattle.coproduct_rules.proofs.DegreePairs.{fundamental_rule}
use Rattle.coproduct_rules.proofs.PlaceRule.{place_rule}
use Rattle.product_laws.proofs.CutRules.{two_letters}
use Rattle.product_laws.proofs.Tests.{same_list-is, same_tests}
use Rattle.inclusion_laws.proofs.CommutingImages.{CountsAsImage, KeepsDegrees}
use Rattle.inclusion_laws.proofs.CountsOfWords.{HasImages, rule_counts, words_at-image}
use Rattle.inclusion_laws.proofs.LetterOne.{below_ones, count_ones}
use Rattle.inclusion_laws.proofs.CutsAtPlaces.{word_cuts_at}

-- the cuts of a descent composition by degree are the descent compositions of the cut word

front_zero : (parts : List ℕ) → IsComposition parts → front_of_degree 0 parts ≡ []
front_zero [] h = refl
front_zero (i ∷ parts) h = let more = h.0 in let e : nat_le i 0 ≡ false = grind (arith, nat_tests, more) in front_none 0 i parts e refl

rest_zero : (parts : List ℕ) → IsComposition parts → rest_past_degree 0 parts ≡ parts
rest_zero [] h = refl
rest_zero (i ∷ parts) h =
    let more = h.0 in
    let e : nat_le i 0 ≡ false = grind (arith, nat_tests, more) in
    let d : i - 0 ≡ i = omega arith in
    rest_cut 0 i parts e ∙ ap (λ j. j ∷ parts) d

front_one : (parts : List ℕ) → IsComposition parts → 1 ≤ sum parts → front_of_degree 1 (longer_first parts) ≡ 1 ∷ []
front_one [] h some = absurd (omega (arith, some))
front_one (i ∷ parts) h some = let more = h.0 in let e : nat_le (suc i) 1 ≡ false = grind (arith, nat_tests, more) in front_cut 1 (suc i) parts e refl

front-longer : (k : ℕ) (parts : List ℕ) → 1 ≤ sum parts → front_of_degree (suc (suc k)) (longer_first parts) ≡ longer_first (front_of_degree (suc k) parts)
front-longer k [] some = absurd (omega (arith, some))
front-longer k (i ∷ parts) some = by_test (nat_le i (suc k)) refl
  where
    by_test : (b : Bool) → nat_le i (suc k) ≡ b → front_of_degree (suc (suc k)) (suc i ∷ parts) ≡ longer_first (front_of_degree (suc k) (i ∷ parts))
    by_test true e =
        let f : nat_le (suc i) (suc (suc k)) ≡ true = grind (arith, nat_tests, e) in
        let d : suc (suc k) - suc i ≡ suc k - i = omega arith in
        front_whole (suc (suc k)) (suc i) parts f ∙ ap (λ m. suc i ∷ front_of_degree m parts) d ∙ ap longer_first (sym (front_whole (suc k) i parts e))
    by_test false e =
        let f : nat_le (suc i) (suc (suc k)) ≡ false = grind (arith, nat_tests, e) in
        let z : nat_eq (suc k) 0 ≡ false = grind (arith, nat_tests) in
        let z' : nat_eq (suc (suc k)) 0 ≡ false = grind (arith, nat_tests) in
        front_cut (suc (suc k)) (suc i) parts f z' ∙ ap longer_first (sym (front_cut (suc k) i parts e z))

rest-longer : (k : ℕ) (parts : List ℕ) → 1 ≤ sum parts → rest_past_degree (suc k) (longer_first parts) ≡ rest_past_degree k parts
rest-longer k [] some = absurd (omega (arith, some))
rest-longer k (i ∷ parts) some = by_test (nat_le i k) refl
  where
    by_test : (b : Bool) → nat_le i k ≡ b → rest_past_degree (suc k) (suc i ∷ parts) ≡ rest_past_degree k (i ∷ parts)
    by_test true e =
        let f : nat_le (suc i) (suc k) ≡ true = grind (arith, nat_tests, e) in
        let d : suc k - suc i ≡ k - i = omega arith in
        rest_whole (suc k) (suc i) parts f ∙ ap (λ m. rest_past_degree m parts) d ∙ sym (rest_whole k i parts e)
    by_test false e =
        let f : nat_le (suc i) (suc k) ≡ false = grind (arith, nat_tests, e) in
        let d : suc i - suc k ≡ i - k = omega arith in
        rest_cut (suc k) (suc i) parts f ∙ ap (λ m. m ∷ parts) d ∙ sym (rest_cut k i parts e)

some_parts : (x : ℕ) (w : List ℕ) → 1 ≤ sum (descent_composition (x ∷ w))
some_parts x w = omega (arith, (descends (x ∷ w)).0)

front-descents : (k : ℕ) (w : List ℕ) → front_of_degree k (descent_composition w) ≡ descent_composition (take k w)
front-descents zero w = front_zero (descent_composition w) (IsComposition-descent_composition w)
front-descents (suc k) [] = refl
front-descents (suc zero) (x ∷ []) = refl
front-descents (suc (suc k)) (x ∷ []) =
    let e : nat_le 1 (suc (suc k)) ≡ true = grind (arith, nat_tests) in front_whole (suc (suc k)) 1 [] e
front-descents (suc zero) (x ∷ y ∷ w) = by_test (nat_lt y x)
  where
    by_test : (b : Bool) → front_of_degree 1 (if b then 1 ∷ descent_composition (y ∷ w) else longer_first (descent_composition (y ∷ w))) ≡ 1 ∷ []
    by_test true =
        front_whole 1 1 (descent_composition (y ∷ w)) refl
        ∙ ap (λ v. 1 ∷ v) (front_zero (descent_composition (y ∷ w)) (IsComposition-descent_composition (y ∷ w)))
    by_test false = front_one (descent_composition (y ∷ w)) (IsComposition-descent_composition (y ∷ w)) (some_parts y w)
front-descents (suc (suc k)) (x ∷ y ∷ w) = by_test (nat_lt y x) (front-descents (suc k) (y ∷ w))
  where
    by_test : (b : Bool) → front_of_degree (suc k) (descent_composition (y ∷ w)) ≡ descent_composition (y ∷ take k w)
        → front_of_degree (suc (suc k)) (if b then 1 ∷ descent_composition (y ∷ w) else longer_first (descent_composition (y ∷ w)))
        ≡ (if b then 1 ∷ descent_composition (y ∷ take k w) else longer_first (descent_composition (y ∷ take k w)))
    by_test true ih =
        let e : nat_le 1 (suc (suc k)) ≡ true = grind (arith, nat_tests) in
        let d : suc (suc k) - 1 ≡ suc k = omega arith in
        front_whole (suc (suc k)) 1 (descent_composition (y ∷ w)) e ∙ ap (λ m. 1 ∷ front_of_degree m (descent_composition (y ∷ w))) d ∙ ap (λ v. 1 ∷ v) ih
    by_test false ih = front-longer k (descent_composition (y ∷ w)) (some_parts y w) ∙ ap longer_first ih

rest-descents : (k : ℕ) (w : List ℕ) → rest_past_degree k (descent_composition w) ≡ descent_composition (drop k w)
rest-descents zero w = rest_zero (descent_composition w) (IsComposition-descent_composition w)
rest-descents (suc k) [] = refl
rest-descents (suc zero) (x ∷ []) = refl
rest-descents (suc (suc k)) (x ∷ []) = let e : nat_le 1 (suc (suc k)) ≡ true = grind (arith, nat_tests) in rest_whole (suc (suc k)) 1 [] e
rest-descents (suc k) (x ∷ y ∷ w) = by_test (nat_lt y x) (rest-descents k (y ∷ w))
  where
    by_test : (b : Bool) → rest_past_degree k (descent_composition (y ∷ w)) ≡ descent_composition (drop k (y ∷ w))
        → rest_past_degree (suc k) (if b then 1 ∷ descent_composition (y ∷ w) else longer_first (descent_composition (y ∷ w))) ≡ descent_composition (drop k (y ∷ w))
    by_test true ih =
        let e : nat_le 1 (suc k) ≡ true = grind (arith, nat_tests) in
        let d : suc k - 1 ≡ k = omega arith in
        rest_whole (suc k) 1 (descent_composition (y ∷ w)) e ∙ ap (λ m. rest_past_degree m (descent_composition (y ∷ w))) d ∙ ih
    by_test false ih = rest-longer k (descent_composition (y ∷ w)) (some_parts y w) ∙ ih

fundamental_images : (n : ℕ) (p : Point) (s : Code)
    → one_if (occurs QsymF (descent_composition s) (suc n ∷ p))
    ≡ sums (λ (e : Code × Code). one_if (occurs QsymF (descent_composition e.0) (suc n ∷ [])) * one_if (occurs QsymF (descent_composition e.1) p)) (place_cuts s)
fundamental_images n p s =
    let f : Code × Code → ℕ = λ e. one_if (occurs QsymF e.0 (suc n ∷ [])) * one_if (occurs QsymF e.1 p) in
    let C = descent_composition s in
    let h = IsComposition-descent_composition s in
    let counts = rule_counts QsymF C (degree_cuts C) (fundamental_rule C h) (suc n ∷ []) p tt tt in
    let joined : one_if (occurs QsymF C (suc n ∷ p)) ≡ sums f (degree_cuts C) = omega (arith, counts) in
    joined
    ∙ sums-map f (λ k. (front_of_degree k C, rest_past_degree k C)) (range_with_len 0 (suc (sum C)))
    ∙ ap (λ m. sums (λ k. f (front_of_degree k C, rest_past_degree k C)) (range_with_len 0 (suc m))) (descends s).0
    ∙ sums_same (λ k. f (front_of_degree k C, rest_past_degree k C)) (λ k. f (descent_composition (standardise (take k s)), descent_composition (standardise (drop k s))))
    (λ k i. f ((front-descents k s ∙ sym (descent_composition-standardise (take k s))) i, (rest-descents k s ∙ sym (descent_composition-standardise (drop k s))) i)) (range_with_len 0 (suc (length s)))
    ∙ sym (word_cuts_at (λ c. f (descent_composition (standardise c.0), descent_composition (standardise c.1))) s)
    ∙ sym (sums-map (λ (e : Code × Code). f (descent_composition e.0, descent_composition e.1)) (λ (c : List ℕ × List ℕ). (standardise c.0, standardise c.1)) (word_cuts s))

-- a word of one letter

standardise-ones : (j n : ℕ) → standardise_after (replicate j 1) (replicate n 1) ≡ range_with_len (1 + j) n
standardise-ones j zero = refl
standardise-ones j (suc n) =
    let head : suc (count_below 1 (replicate j 1) + count_same 1 (replicate j 1) + count_below 1 (replicate n 1)) ≡ 1 + j =
    omega (arith, below_ones j, count_ones j, below_ones n) in
    let next : 1 + suc j ≡ 1 + j + 1 = omega arith in
    let tail : standardise_after (replicate (suc j) 1) (replicate n 1) ≡ range_with_len (1 + j + 1) n = standardise-ones (suc j) n ∙ ap (λ a. range_with_len a n) next in
    λ i. head i ∷ tail i

place_range : (a n d : ℕ) → d < n → place_of (a + d) (range_with_len a n) ≡ suc d
place_range a zero d lt = absurd (omega (arith, lt))
place_range a (suc n) zero lt = let e : nat_eq a (a + 0) ≡ true = grind (arith, nat_tests) in rw e refl
place_range a (suc n) (suc d) lt =
    let e : nat_eq a (a + suc d) ≡ false = grind (arith, nat_tests) in
    let next : a + suc d ≡ a + 1 + d = omega arith in
    rw e (ap suc (ap (λ j. place_of j (range_with_len (a + 1) n)) next ∙ place_range (a + 1) n d (omega (arith, lt))))

map_own : (f : ℕ → ℕ) (a n : ℕ) → ((d : ℕ) → d < n → f (a + d) ≡ a + d) → map f (range_with_len a n) ≡ range_with_len a n
map_own f a zero own = refl
map_own f a (suc n) own =
    let at : a + 0 ≡ a = omega arith in
    let head : f a ≡ a = ap f (sym at) ∙ own 0 (omega arith) ∙ at in
    let tail = map_own f (a + 1) n (λ d lt. let next : a + 1 + d ≡ a + suc d = omega arith in ap f next ∙ own (suc d) (omega (arith, lt)) ∙ sym next) in
    λ i. head i ∷ tail i

inverse-ones : (n : ℕ) → inverse (standardise (replicate n 1)) ≡ range_with_len 1 n
inverse-ones n =
    ap inverse (standardise-ones 0 n)
    ∙ ap (λ m. map (λ i. place_of i (range_with_len 1 n)) (range_with_len 1 m)) (length-range_with_len 1 n)
    ∙ map_own (λ i. place_of i (range_with_len 1 n)) 1 n (λ d lt. place_range 1 n d lt ∙ omega arith)

-- a permutation without descents

no_descents-range : (k a n : ℕ) → places_where (λ x y. nat_lt y x) k (range_with_len a n) ≡ []
no_descents-range k a zero = refl
no_descents-range k a (suc zero) = refl
no_descents-range k a (suc (suc n)) = let e : nat_lt (a + 1) a ≡ false = grind (arith, nat_tests) in rw e (no_descents-range (suc k) (a + 1) (suc n))

no_ascents-ones : (k n : ℕ) → places_where (λ x y. nat_lt x y) k (replicate n 1 ++ []) ≡ []
no_ascents-ones k zero = refl
no_ascents-ones k (suc zero) = refl
no_ascents-ones k (suc (suc n)) = no_ascents-ones (suc k) (suc n)

length-ones : (n : ℕ) → length {A = ℕ} (replicate n 1 ++ []) ≡ n
length-ones zero = refl
length-ones (suc n) = omega (arith, length-ones n)

rising-without_descents : (k : ℕ) (w : List ℕ) → places_where (λ x y. nat_lt y x) k w ≡ [] → ((x : ℕ) → count_same x w ≤ 1) → RisingRow w
rising-without_descents k [] e once = tt
rising-without_descents k (x ∷ []) e once = (tt, tt)
rising-without_descents k (x ∷ y ∷ w) e once =
    by_test (nat_lt y x) refl e (λ d. rising-without_descents (suc k) (y ∷ w) d (λ z. omega (arith, once z)))
  where
    by_test : (b : Bool) → nat_lt y x ≡ b → (if b then k ∷ places_where (λ x y. nat_lt y x) (suc k) (y ∷ w) else places_where (λ x y. nat_lt y x) (suc k) (y ∷ w)) ≡ []
        → (places_where (λ x y. nat_lt y x) (suc k) (y ∷ w) ≡ [] → RisingRow (y ∷ w)) → RisingRow (x ∷ y ∷ w)
    by_test true f d ih = absurd (cc)
    by_test false f d ih =
        let rest = ih d in
        let apart : x ≡ y → ⊥ = λ s. omega (arith, once x, one_if-self x, ap (λ z. one_if (nat_eq z x)) s) in
        let less : x < y = (let le : x ≤ y = grind (arith, nat_tests, f) in grind (arith, nat_tests, le, apart)) in
        ((less, above_later x y w less rest.0), rest)

rising_range : (a : ℕ) (w : List ℕ) → Letters (λ x. (a ≤ x) × (x < a + length w)) w → RisingRow w → w ≡ range_with_len a (length w)
rising_range a [] h up = refl
rising_range a (x ∷ w) h up =
    let least = h.0 in
    let rest : w ≡ range_with_len (a + 1) (length w) =
    rising_range (a + 1) w
    (Letters-weaker (λ y. ((a ≤ y) × (y < a + suc (length w))) × (x < y)) (λ y. (a + 1 ≤ y) × (y < a + 1 + length w)) (λ y k. (omega (arith, k.1, least.0), omega (arith, k.0.1))) w
    (two_letters (λ y. (a ≤ y) × (y < a + suc (length w))) (λ y. x < y) w h.1 up.0))
    up.1 in
    let first : x ≡ a = at_first w rest up.0 least.0 least.1 in
    λ i. first i ∷ rest i
  where
    head_or : List ℕ → ℕ
    head_or [] = 0
    head_or (y ∷ w) = y

    at_first : (w : List ℕ) → w ≡ range_with_len (a + 1) (length w) → Above x w → a ≤ x → x < a + suc (length w) → x ≡ a
    at_first [] e k least most = omega (arith, least, most)
    at_first (y ∷ w) e k least most = let same : y ≡ a + 1 = ap head_or e in omega (arith, least, k.0, same)

only_empty : (places : List ℕ) → is_subset places [] ≡ true → places ≡ []
only_empty [] e = refl
only_empty (x ∷ places) e = absurd (cc)

fundamental_block : (n : ℕ) (s : Code) → IsTrue (is_permutation s) → occurs FqsymF s (replicate (suc n) 1) ≡ occurs QsymF (descent_composition s) (suc n ∷ [])
fundamental_block n s is =
    same_tests (same_list (inverse (standardise (replicate (suc n) 1))) s) (occurs QsymF (descent_composition s) (suc n ∷ []))
    (λ e. subst (λ t. occurs QsymF (descent_composition t) (suc n ∷ []) ≡ true) (sym (inverse-ones (suc n)) ∙ same_list-true (inverse (standardise (replicate (suc n) 1))) s e) of_range)
    (λ e. same_list-is (inverse (standardise (replicate (suc n) 1))) s (inverse-ones (suc n) ∙ sym (is_range (simple s ∙ e))))
  where
    ones : List ℕ
    ones = replicate (suc n) 1 ++ []

    simple : (t : List ℕ) → (nat_eq (suc n) (length t) && is_subset (descents t) []) ≡ occurs QsymF (descent_composition t) (suc n ∷ [])
    simple t = λ i. nat_eq (sym (length-ones (suc n)) i) (sym (descends t).0 i) && is_subset (sym (descends t).1 i) (sym (no_ascents-ones 1 (suc n)) i)

    of_range : occurs QsymF (descent_composition (range_with_len 1 (suc n))) (suc n ∷ []) ≡ true
    of_range =
        sym (simple (range_with_len 1 (suc n)))
        ∙ and_from (nat_eq (suc n) (length (range_with_len 1 (suc n)))) (is_subset (descents (range_with_len 1 (suc n))) [])
        (eq-eqb (suc n) (length (range_with_len 1 (suc n))) (sym (length-range_with_len 1 (suc n))))
        (ap (λ places. is_subset places []) (no_descents-range 1 1 (suc n)))

    is_range : (nat_eq (suc n) (length s) && is_subset (descents s) []) ≡ true → s ≡ range_with_len 1 (suc n)
    is_range e =
        let h = each_once s is in
        let parts = and_parts (nat_eq (suc n) (length s)) (is_subset (descents s) []) e in
        let size : suc n ≡ length s = eqb-true (suc n) (length s) parts.0 in
        rising_range 1 s
        (letters_that_occur (λ x. (1 ≤ x) × (x < 1 + length s)) s (λ x some. let k = letters-permutation s h x some in (k.0, omega (arith, k.1))))
        (rising-without_descents 1 s (only_empty (descents s) parts.1) (count_same-permutation s h))
        ∙ ap (λ m. range_with_len 1 m) (sym size)

fundamental_nothing : (s : Code) → occurs FqsymF s [] ≡ occurs QsymF (descent_composition s) []
fundamental_nothing [] = refl
fundamental_nothing (x ∷ w) =
    let some = some_parts x w in
    let e : nat_eq 0 (sum (descent_composition (x ∷ w))) ≡ false = grind (arith, nat_tests, some) in
    sym (ap (λ b. b && is_subset (descent_set (descent_composition (x ∷ w))) []) e)

-- F of permutations has descent compositions for images
permutations_have : HasImages FqsymF QsymF (λ s. descent_composition s)
permutations_have = record {
  words = refl;
  pairs = λ s. place_cuts s;
  rule = place_rule;
  raised = λ s w.
      occurs-pattern FqsymF s (raise 1 w)
      ∙ ap (λ v. occurs FqsymF s v) (pack-map (λ x. Unit {0}) (λ x. 1 + x) (λ x y hx hy h. omega (arith, h)) w (every-any (λ x. Unit {0}) (λ x. tt) w))
      ∙ sym (occurs-pattern FqsymF s w);
  zeros = λ code p. occurs-pattern QsymF code (0 ∷ p) ∙ sym (occurs-pattern QsymF code p);
  nothing = λ s is. fundamental_nothing s;
  block = fundamental_block;
  images = λ n p s is. fundamental_images n p s;
}

-- F occurs at as many words as F of the descent composition
pub fundamental_counts : CountsAsImage FqsymF QsymF (λ s. descent_composition s)
fundamental_counts = words_at-image FqsymF QsymF (λ s. descent_composition s) permutations_have

-- a descent composition is one of the length of the permutation
pub descents_keep : KeepsDegrees FqsymF QsymF (λ s. descent_composition s)
descents_keep s is = (IsComposition-descent_composition s, (descends s).0)
