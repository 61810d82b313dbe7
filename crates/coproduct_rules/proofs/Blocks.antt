-- Where a product of complete functions, or of elementary ones, occurs: words that split into blocks.
use Rattle.std.proofs.Common.{◌≡◌, ℕ, zero, suc, ◌+◌, ◌-◌, ◌*◌, ◌<◌, ◌≤◌, Bool, true, false, List, [], ◌∷◌, length, refl, sym, ◌∙◌, ap, arith, inl, inr, ◌⊎◌}
use Rattle.std.specs.Prelude.{nat_eq, nat_lt, not, ◌&&◌, ◌||◌, if◌then◌else◌}
use Rattle.std.specs.List.{list_all, filter, range_with_len, sum}
use Rattle.std.proofs.lemmas.Bool.{cases_lt, eq-eqb}
use Rattle.std.proofs.lemmas.Bool.Decides.{nat_tests}
use Rattle.realisations.specs.Lists.{is_among, is_subset, one_if}
use Rattle.realisations.specs.Words.{word_cuts}
use Rattle.realisations.specs.Descents.{places_where, partial_sums}
use Rattle.realisations.specs.IndexKinds.{IsComposition}
use Rattle.basis_names.specs.declared.bases.BasisId.TheVariants.{NcsfS, NcsfL}
use Rattle.realisations.specs.Occurrence.{occurs}
use Rattle.realisations.proofs.Sums.{sums_none, sums_same, sums-scale, one_if_same}
use Rattle.basis_representatives.proofs.SameLists.{one_if-and}
use Rattle.coproduct_rules.proofs.DegreeCuts.{sum-first}
use Rattle.coproduct_rules.proofs.Rises.{past_places}
use Rattle.coproduct_rules.proofs.Chains.{is_chain}
use Rattle.coproduct_rules.proofs.ShuffleCuts.{over_word_cuts, over_word_cuts-step}
use Rattle.coproduct_rules.proofs.Splits.{splits}

-- whether what follows a letter splits: i letters that end its block, and then blocks of these lengths
abbrev pub ends_in : (ℕ → ℕ → Bool) → ℕ → List ℕ → ℕ → List ℕ → Bool
ends_in ok zero [] x [] = true
ends_in ok zero [] x (y ∷ w) = false
ends_in ok zero (j ∷ parts) x [] = false
ends_in ok zero (zero ∷ parts) x (y ∷ w) = false
ends_in ok zero (suc j ∷ parts) x (y ∷ w) = ends_in ok j parts y w
ends_in ok (suc i) parts x [] = false
ends_in ok (suc i) parts x (y ∷ w) = ok x y && ends_in ok i parts y w

-- the splits after a letter
tails : (ℕ → ℕ → Bool) → ℕ → List ℕ → ℕ → List ℕ → ℕ
tails ok i parts x w = over_word_cuts (λ a b. one_if_same (length a) i * (one_if (is_chain ok (x ∷ a)) * splits (is_chain ok) parts b)) w

-- a block ends: what follows splits into the other blocks
tails-zero : (ok : ℕ → ℕ → Bool) (parts : List ℕ) (x : ℕ) (w : List ℕ) → tails ok 0 parts x w ≡ splits (is_chain ok) parts w
unfolding tails
tails-zero ok parts x [] = omega arith
tails-zero ok parts x (y ∷ w) =
    over_word_cuts-step (λ a b. one_if_same (length a) 0 * (one_if (is_chain ok (x ∷ a)) * splits (is_chain ok) parts b)) y w
    ∙ omega (arith, sums_none (λ (c : List ℕ × List ℕ). 0 * (one_if (is_chain ok (x ∷ y ∷ c.0)) * splits (is_chain ok) parts c.1)) (λ c. omega arith) (word_cuts w))

-- a letter of the block: it and the one before pass the test
tails-suc : (ok : ℕ → ℕ → Bool) (i : ℕ) (parts : List ℕ) (x y : ℕ) (w : List ℕ) → tails ok (suc i) parts x (y ∷ w) ≡ one_if (ok x y) * tails ok i parts y w
unfolding tails
tails-suc ok i parts x y w =
    over_word_cuts-step (λ a b. one_if_same (length a) (suc i) * (one_if (is_chain ok (x ∷ a)) * splits (is_chain ok) parts b)) y w
    ∙ omega arith
    ∙ sums_same (λ (c : List ℕ × List ℕ). one_if_same (length c.0) i * (one_if (ok x y && is_chain ok (y ∷ c.0)) * splits (is_chain ok) parts c.1))
    (λ c. one_if (ok x y) * (one_if_same (length c.0) i * (one_if (is_chain ok (y ∷ c.0)) * splits (is_chain ok) parts c.1)))
    (λ c. ap (λ n. one_if_same (length c.0) i * (n * splits (is_chain ok) parts c.1)) (one_if-and (ok x y) (is_chain ok (y ∷ c.0))) ∙ omega arith) (word_cuts w)
    ∙ sums-scale (one_if (ok x y)) (λ (c : List ℕ × List ℕ). one_if_same (length c.0) i * (one_if (is_chain ok (y ∷ c.0)) * splits (is_chain ok) parts c.1)) (word_cuts w)

-- a block that is not ended has no split at the end of a word
tails-none : (ok : ℕ → ℕ → Bool) (i : ℕ) (parts : List ℕ) (x : ℕ) → tails ok (suc i) parts x [] ≡ 0
unfolding tails
tails-none ok i parts x = omega arith

-- the splits of a nonempty word are those after its first letter
splits-suc : (ok : ℕ → ℕ → Bool) (i : ℕ) (parts : List ℕ) (x : ℕ) (w : List ℕ) → splits (is_chain ok) (suc i ∷ parts) (x ∷ w) ≡ tails ok i parts x w
unfolding tails
splits-suc ok i parts x w =
    over_word_cuts-step (λ a b. one_if_same (length a) (suc i) * (one_if (is_chain ok a) * splits (is_chain ok) parts b)) x w ∙ omega arith

-- so the splits after a letter are one or none, by recursion
tails_are : (ok : ℕ → ℕ → Bool) (i : ℕ) (parts : List ℕ) (x : ℕ) (w : List ℕ) → IsComposition parts → tails ok i parts x w ≡ one_if (ends_in ok i parts x w)
tails_are ok zero [] x [] h = tails-zero ok [] x []
tails_are ok zero [] x (y ∷ w) h = tails-zero ok [] x (y ∷ w)
tails_are ok zero (j ∷ parts) x [] h = tails-zero ok (j ∷ parts) x [] ∙ none j h.0
  where
    none : (j : ℕ) → 0 < j → splits (is_chain ok) (j ∷ parts) [] ≡ 0
    none zero h = absurd (omega arith)
    none (suc j) h = omega arith
tails_are ok zero (zero ∷ parts) x (y ∷ w) h = absurd (omega (arith, h.0))
tails_are ok zero (suc j ∷ parts) x (y ∷ w) h = tails-zero ok (suc j ∷ parts) x (y ∷ w) ∙ splits-suc ok j parts y w ∙ tails_are ok j parts y w h.1
tails_are ok (suc i) parts x [] h = tails-none ok i parts x
tails_are ok (suc i) parts x (y ∷ w) h =
    tails-suc ok i parts x y w ∙ ap (λ n. one_if (ok x y) * n) (tails_are ok i parts y w h) ∙ sym (one_if-and (ok x y) (ends_in ok i parts y w))

-- the splits of a word into chains of positive lengths
pub splits_are : (ok : ℕ → ℕ → Bool) (i : ℕ) (parts : List ℕ) (x : ℕ) (w : List ℕ) → IsComposition parts
    → splits (is_chain ok) (suc i ∷ parts) (x ∷ w) ≡ one_if (ends_in ok i parts x w)
splits_are ok i parts x w h = splits-suc ok i parts x w ∙ tails_are ok i parts x w h

-- the lengths fit
ends_apart : (ok : ℕ → ℕ → Bool) (i : ℕ) (parts : List ℕ) (x : ℕ) (w : List ℕ) → (length w ≡ i + sum parts → ⊥) → ends_in ok i parts x w ≡ false
ends_apart ok zero [] x [] h = absurd (h (omega arith))
ends_apart ok zero [] x (y ∷ w) h = refl
ends_apart ok zero (j ∷ parts) x [] h = refl
ends_apart ok zero (zero ∷ parts) x (y ∷ w) h = refl
ends_apart ok zero (suc j ∷ parts) x (y ∷ w) h = ends_apart ok j parts y w (λ e. h (omega (arith, e, sum-first (suc j) parts)))
ends_apart ok (suc i) parts x [] h = refl
ends_apart ok (suc i) parts x (y ∷ w) h = rw (ends_apart ok i parts y w (λ e. h (omega arith))) (and_false (ok x y))
  where
    and_false : (b : Bool) → (b && false) ≡ false
    and_false true = refl
    and_false false = refl

-- places and partial sums

-- tests of places depend on the places from the first on alone
pub places_same : (f g : ℕ → Bool) (test : ℕ → ℕ → Bool) (k : ℕ) (w : List ℕ) → ((d : ℕ) → k ≤ d → f d ≡ g d) → list_all f (places_where test k w) ≡ list_all g (places_where test k w)
places_same f g test k [] same = refl
places_same f g test k (x ∷ []) same = refl
places_same f g test k (x ∷ y ∷ w) same = by_test (test x y) (places_same f g test (suc k) (y ∷ w) (λ d h. same d (omega arith)))
  where
    by_test : (b : Bool) → list_all f (places_where test (suc k) (y ∷ w)) ≡ list_all g (places_where test (suc k) (y ∷ w))
        → list_all f (if b then k ∷ places_where test (suc k) (y ∷ w) else places_where test (suc k) (y ∷ w)) ≡ list_all g (if b then k ∷ places_where test (suc k) (y ∷ w) else places_where test (suc k) (y ∷ w))
    by_test true ih = let here = same k (omega arith) in λ i. here i && ih i
    by_test false ih = ih

-- the partial sums are past the sum that they begin with
sums_past : (s d : ℕ) (parts : List ℕ) → IsComposition parts → d ≤ s → is_among d (partial_sums s parts) ≡ false
sums_past s d [] h le = refl
sums_past s d (i ∷ []) h le = refl
sums_past s d (i ∷ j ∷ parts) h le =
    let apart : nat_eq (s + i) d ≡ false = grind (arith, nat_tests, h.0) in
    rw (apart, sums_past (s + i) d (j ∷ parts) h.1 (omega arith)) refl

-- a letter of the first block is passed
sums_step : (s i : ℕ) (parts : List ℕ) → partial_sums s (suc (suc i) ∷ parts) ≡ partial_sums (suc s) (suc i ∷ parts)
sums_step s i [] = refl
sums_step s i (j ∷ parts) = let e : s + suc (suc i) ≡ suc s + suc i = omega arith in rw e refl

-- a block ends
sums_block : (s j : ℕ) (parts : List ℕ) → partial_sums s (1 ∷ suc j ∷ parts) ≡ suc s ∷ partial_sums (suc s) (suc j ∷ parts)
sums_block s j parts = let e : s + 1 ≡ suc s = omega arith in rw e refl

-- a word with all descents at ends of blocks is one whose blocks do not fall
descents_inside : (s i : ℕ) (parts : List ℕ) (x : ℕ) (w : List ℕ) → IsComposition parts → length w ≡ i + sum parts
    → is_subset (places_where (λ x y. nat_lt y x) (suc s) (x ∷ w)) (partial_sums s (suc i ∷ parts)) ≡ ends_in (λ x y. not (nat_lt y x)) i parts x w
descents_inside s zero [] x [] h e = refl
descents_inside s zero [] x (y ∷ w) h e = absurd (omega arith)
descents_inside s zero (j ∷ parts) x [] h e = absurd (omega (arith, e, sum-first j parts, h.0))
descents_inside s zero (zero ∷ parts) x (y ∷ w) h e = absurd (omega (arith, h.0))
descents_inside s zero (suc j ∷ parts) x (y ∷ w) h e =
    ap (λ ps. is_subset (places_where (λ x y. nat_lt y x) (suc s) (x ∷ y ∷ w)) ps) (sums_block s j parts)
    ∙ by_test (nat_lt y x)
    ∙ places_same (λ d. is_among d (suc s ∷ partial_sums (suc s) (suc j ∷ parts))) (λ d. is_among d (partial_sums (suc s) (suc j ∷ parts))) (λ x y. nat_lt y x) (suc (suc s)) (y ∷ w)
    (λ d le. let apart : nat_eq (suc s) d ≡ false = grind (arith, nat_tests) in rw apart refl)
    ∙ descents_inside (suc s) j parts y w h.1 (omega (arith, e, sum-first (suc j) parts))
  where
    by_test : (b : Bool)
        → is_subset (if b then suc s ∷ places_where (λ x y. nat_lt y x) (suc (suc s)) (y ∷ w) else places_where (λ x y. nat_lt y x) (suc (suc s)) (y ∷ w)) (suc s ∷ partial_sums (suc s) (suc j ∷ parts))
        ≡ is_subset (places_where (λ x y. nat_lt y x) (suc (suc s)) (y ∷ w)) (suc s ∷ partial_sums (suc s) (suc j ∷ parts))
    by_test true = let here : nat_eq (suc s) (suc s) ≡ true = eq-eqb (suc s) (suc s) refl in rw here refl
    by_test false = refl
descents_inside s (suc i) parts x [] h e = absurd (omega arith)
descents_inside s (suc i) parts x (y ∷ w) h e =
    ap (λ ps. is_subset (places_where (λ x y. nat_lt y x) (suc s) (x ∷ y ∷ w)) ps) (sums_step s i parts)
    ∙ by_test (nat_lt y x)
    ∙ ap (λ b. not (nat_lt y x) && b) (descents_inside (suc s) i parts y w h (omega arith))
  where
    none : is_among (suc s) (partial_sums (suc s) (suc i ∷ parts)) ≡ false
    none = sums_past (suc s) (suc s) (suc i ∷ parts) (omega arith, h) (omega arith)

    by_test : (b : Bool)
        → is_subset (if b then suc s ∷ places_where (λ x y. nat_lt y x) (suc (suc s)) (y ∷ w) else places_where (λ x y. nat_lt y x) (suc (suc s)) (y ∷ w)) (partial_sums (suc s) (suc i ∷ parts))
        ≡ (not b && is_subset (places_where (λ x y. nat_lt y x) (suc (suc s)) (y ∷ w)) (partial_sums (suc s) (suc i ∷ parts)))
    by_test true = rw none refl
    by_test false = refl

-- a product of complete functions occurs where the word splits into nondecreasing words
pub complete_occurs : (parts w : List ℕ) → IsComposition parts → one_if (occurs NcsfS parts w) ≡ splits (is_chain (λ x y. not (nat_lt y x))) parts w
complete_occurs [] [] h = refl
complete_occurs [] (x ∷ w) h = let apart : nat_eq (suc (length w)) 0 ≡ false = grind (arith, nat_tests) in rw apart refl
complete_occurs (zero ∷ parts) w h = absurd (omega (arith, h.0))
complete_occurs (suc i ∷ parts) [] h =
    let apart : nat_eq 0 (sum (suc i ∷ parts)) ≡ false = less (sum-first (suc i) parts) in
    rw apart (omega arith)
  where
    less : sum (suc i ∷ parts) ≡ suc i + sum parts → nat_eq 0 (sum (suc i ∷ parts)) ≡ false
    less e = grind (arith, nat_tests)
complete_occurs (suc i ∷ parts) (x ∷ w) h = by_length (cases_lt (length w) (i + sum parts)) (cases_lt (i + sum parts) (length w)) ∙ sym (splits_are (λ x y. not (nat_lt y x)) i parts x w h.1)
  where
    apart : (length w ≡ i + sum parts → ⊥) → one_if (occurs NcsfS (suc i ∷ parts) (x ∷ w)) ≡ one_if (ends_in (λ x y. not (nat_lt y x)) i parts x w)
    apart differs =
        let none : nat_eq (suc (length w)) (sum (suc i ∷ parts)) ≡ false = differ (λ e. differs (omega (arith, e, sum-first (suc i) parts))) in
        rw (none, ends_apart (λ x y. not (nat_lt y x)) i parts x w differs) refl
      where
        differ : (suc (length w) ≡ sum (suc i ∷ parts) → ⊥) → nat_eq (suc (length w)) (sum (suc i ∷ parts)) ≡ false
        differ other = grind (arith, nat_tests)

    by_length : ((length w < i + sum parts) ⊎ (i + sum parts ≤ length w)) → ((i + sum parts < length w) ⊎ (length w ≤ i + sum parts))
        → one_if (occurs NcsfS (suc i ∷ parts) (x ∷ w)) ≡ one_if (ends_in (λ x y. not (nat_lt y x)) i parts x w)
    by_length (inl less) q = apart (λ e. omega arith)
    by_length (inr p) (inl more) = apart (λ e. omega arith)
    by_length (inr p) (inr q) =
        let e : length w ≡ i + sum parts = omega arith in
        let same : nat_eq (suc (length w)) (sum (suc i ∷ parts)) ≡ true = eq-eqb (suc (length w)) (sum (suc i ∷ parts)) (omega (arith, e, sum-first (suc i) parts)) in
        rw same (ap one_if (descents_inside 0 i parts x w h.1 e))

-- tests of ranges

-- a test of the places outside is a test of all places, those inside passing
filter_outside : (f test : ℕ → Bool) (ds : List ℕ) → list_all test (filter (λ d. not (f d)) ds) ≡ list_all (λ d. f d || test d) ds
filter_outside f test [] = refl
filter_outside f test (d ∷ ds) = by_test (f d) (filter_outside f test ds)
  where
    by_test : (b : Bool) → list_all test (filter (λ d. not (f d)) ds) ≡ list_all (λ d. f d || test d) ds
        → list_all test (if not b then d ∷ filter (λ d. not (f d)) ds else filter (λ d. not (f d)) ds) ≡ ((b || test d) && list_all (λ d. f d || test d) ds)
    by_test true ih = ih
    by_test false ih = ap (λ b. test d && b) ih

-- tests of a range depend on the numbers from its beginning on alone
range_same : (f g : ℕ → Bool) (s n : ℕ) → ((d : ℕ) → s ≤ d → f d ≡ g d) → list_all f (range_with_len s n) ≡ list_all g (range_with_len s n)
range_same f g s zero same = refl
range_same f g s (suc n) same =
    let here = same s (omega arith) in
    let rest = range_same f g (s + 1) n (λ d h. same d (omega arith)) in
    λ i. here i && rest i

-- the first place is among the places where the first two letters pass the test
places_first : (test : ℕ → ℕ → Bool) (k x y : ℕ) (w : List ℕ) → is_among k (places_where test k (x ∷ y ∷ w)) ≡ test x y
places_first test k x y w = by_test (test x y) (past_places test (suc k) k (y ∷ w) (omega arith))
  where
    by_test : (b : Bool) → is_among k (places_where test (suc k) (y ∷ w)) ≡ false
        → is_among k (if b then k ∷ places_where test (suc k) (y ∷ w) else places_where test (suc k) (y ∷ w)) ≡ b
    by_test true none = let d : nat_eq k k ≡ true = eq-eqb k k refl in rw d refl
    by_test false none = none

-- a later place is among the places of the word without its first letter
places_later : (test : ℕ → ℕ → Bool) (k d x y : ℕ) (w : List ℕ) → k < d → is_among d (places_where test k (x ∷ y ∷ w)) ≡ is_among d (places_where test (suc k) (y ∷ w))
places_later test k d x y w h = by_test (test x y)
  where
    by_test : (b : Bool) → is_among d (if b then k ∷ places_where test (suc k) (y ∷ w) else places_where test (suc k) (y ∷ w)) ≡ is_among d (places_where test (suc k) (y ∷ w))
    by_test true = let apart : nat_eq k d ≡ false = grind (arith, nat_tests) in rw apart refl
    by_test false = refl

-- a place is an end of a block, or a descent
abbrev ends_or_falls : ℕ → List ℕ → List ℕ → ℕ → Bool
ends_or_falls s parts w d = is_among d (partial_sums s parts) || is_among d (places_where (λ x y. nat_lt y x) (suc s) w)

-- a word with a descent at each other place is one whose blocks fall
descents_outside : (s i : ℕ) (parts : List ℕ) (x : ℕ) (w : List ℕ) → IsComposition parts → length w ≡ i + sum parts
    → list_all (ends_or_falls s (suc i ∷ parts) (x ∷ w)) (range_with_len (suc s) (length w)) ≡ ends_in (λ x y. nat_lt y x) i parts x w
descents_outside s zero [] x [] h e = refl
descents_outside s zero [] x (y ∷ w) h e = absurd (omega arith)
descents_outside s zero (j ∷ parts) x [] h e = absurd (omega (arith, e, sum-first j parts, h.0))
descents_outside s zero (zero ∷ parts) x (y ∷ w) h e = absurd (omega (arith, h.0))
descents_outside s zero (suc j ∷ parts) x (y ∷ w) h e =
    (λ i. first i && later i)
    ∙ descents_outside (suc s) j parts y w h.1 (omega (arith, e, sum-first (suc j) parts))
  where
    first : ends_or_falls s (1 ∷ suc j ∷ parts) (x ∷ y ∷ w) (suc s) ≡ true
    first =
        let here : nat_eq (suc s) (suc s) ≡ true = eq-eqb (suc s) (suc s) refl in
        ap (λ ps. is_among (suc s) ps || is_among (suc s) (places_where (λ x y. nat_lt y x) (suc s) (x ∷ y ∷ w))) (sums_block s j parts) ∙ rw here refl

    at : (d : ℕ) → suc s + 1 ≤ d → ends_or_falls s (1 ∷ suc j ∷ parts) (x ∷ y ∷ w) d ≡ ends_or_falls (suc s) (suc j ∷ parts) (y ∷ w) d
    at d le =
        let apart : nat_eq (suc s) d ≡ false = grind (arith, nat_tests) in
        let sums_are : is_among d (partial_sums s (1 ∷ suc j ∷ parts)) ≡ is_among d (partial_sums (suc s) (suc j ∷ parts)) = ap (λ ps. is_among d ps) (sums_block s j parts) ∙ rw apart refl in
        let falls_are = places_later (λ x y. nat_lt y x) (suc s) d x y w (omega arith) in
        λ i. sums_are i || falls_are i

    later : list_all (ends_or_falls s (1 ∷ suc j ∷ parts) (x ∷ y ∷ w)) (range_with_len (suc s + 1) (length w))
        ≡ list_all (ends_or_falls (suc s) (suc j ∷ parts) (y ∷ w)) (range_with_len (suc (suc s)) (length w))
    later =
        let next : suc s + 1 ≡ suc (suc s) = omega arith in
        range_same (ends_or_falls s (1 ∷ suc j ∷ parts) (x ∷ y ∷ w)) (ends_or_falls (suc s) (suc j ∷ parts) (y ∷ w)) (suc s + 1) (length w) at
        ∙ ap (λ k. list_all (ends_or_falls (suc s) (suc j ∷ parts) (y ∷ w)) (range_with_len k (length w))) next
descents_outside s (suc i) parts x [] h e = absurd (omega arith)
descents_outside s (suc i) parts x (y ∷ w) h e =
    (λ n. first n && later n)
    ∙ ap (λ b. nat_lt y x && b) (descents_outside (suc s) i parts y w h (omega arith))
  where
    first : ends_or_falls s (suc (suc i) ∷ parts) (x ∷ y ∷ w) (suc s) ≡ nat_lt y x
    first =
        let none : is_among (suc s) (partial_sums s (suc (suc i) ∷ parts)) ≡ false = ap (λ ps. is_among (suc s) ps) (sums_step s i parts) ∙ sums_past (suc s) (suc s) (suc i ∷ parts) (omega arith, h) (omega arith) in
        let here = places_first (λ x y. nat_lt y x) (suc s) x y w in
        λ n. none n || here n

    at : (d : ℕ) → suc s + 1 ≤ d → ends_or_falls s (suc (suc i) ∷ parts) (x ∷ y ∷ w) d ≡ ends_or_falls (suc s) (suc i ∷ parts) (y ∷ w) d
    at d le =
        let sums_are = ap (λ ps. is_among d ps) (sums_step s i parts) in
        let falls_are = places_later (λ x y. nat_lt y x) (suc s) d x y w (omega arith) in
        λ n. sums_are n || falls_are n

    later : list_all (ends_or_falls s (suc (suc i) ∷ parts) (x ∷ y ∷ w)) (range_with_len (suc s + 1) (length w))
        ≡ list_all (ends_or_falls (suc s) (suc i ∷ parts) (y ∷ w)) (range_with_len (suc (suc s)) (length w))
    later =
        let next : suc s + 1 ≡ suc (suc s) = omega arith in
        range_same (ends_or_falls s (suc (suc i) ∷ parts) (x ∷ y ∷ w)) (ends_or_falls (suc s) (suc i ∷ parts) (y ∷ w)) (suc s + 1) (length w) at
        ∙ ap (λ k. list_all (ends_or_falls (suc s) (suc i ∷ parts) (y ∷ w)) (range_with_len k (length w))) next

-- a product of elementary functions occurs where the word splits into falling words
pub elementary_occurs : (parts w : List ℕ) → IsComposition parts → one_if (occurs NcsfL parts w) ≡ splits (is_chain (λ x y. nat_lt y x)) parts w
elementary_occurs [] [] h = refl
elementary_occurs [] (x ∷ w) h = let apart : nat_eq (suc (length w)) 0 ≡ false = grind (arith, nat_tests) in rw apart refl
elementary_occurs (zero ∷ parts) w h = absurd (omega (arith, h.0))
elementary_occurs (suc i ∷ parts) [] h =
    let apart : nat_eq 0 (sum (suc i ∷ parts)) ≡ false = less (sum-first (suc i) parts) in
    rw apart (omega arith)
  where
    less : sum (suc i ∷ parts) ≡ suc i + sum parts → nat_eq 0 (sum (suc i ∷ parts)) ≡ false
    less e = grind (arith, nat_tests)
elementary_occurs (suc i ∷ parts) (x ∷ w) h = by_length (cases_lt (length w) (i + sum parts)) (cases_lt (i + sum parts) (length w)) ∙ sym (splits_are (λ x y. nat_lt y x) i parts x w h.1)
  where
    apart : (length w ≡ i + sum parts → ⊥) → one_if (occurs NcsfL (suc i ∷ parts) (x ∷ w)) ≡ one_if (ends_in (λ x y. nat_lt y x) i parts x w)
    apart differs =
        let none : nat_eq (suc (length w)) (sum (suc i ∷ parts)) ≡ false = differ (λ e. differs (omega (arith, e, sum-first (suc i) parts))) in
        rw (none, ends_apart (λ x y. nat_lt y x) i parts x w differs) refl
      where
        differ : (suc (length w) ≡ sum (suc i ∷ parts) → ⊥) → nat_eq (suc (length w)) (sum (suc i ∷ parts)) ≡ false
        differ other = grind (arith, nat_tests)

    by_length : ((length w < i + sum parts) ⊎ (i + sum parts ≤ length w)) → ((i + sum parts < length w) ⊎ (length w ≤ i + sum parts))
        → one_if (occurs NcsfL (suc i ∷ parts) (x ∷ w)) ≡ one_if (ends_in (λ x y. nat_lt y x) i parts x w)
    by_length (inl less) q = apart (λ e. omega arith)
    by_length (inr p) (inl more) = apart (λ e. omega arith)
    by_length (inr p) (inr q) =
        let e : length w ≡ i + sum parts = omega arith in
        let total : suc (length w) ≡ sum (suc i ∷ parts) = omega (arith, e, sum-first (suc i) parts) in
        let same : nat_eq (suc (length w)) (sum (suc i ∷ parts)) ≡ true = eq-eqb (suc (length w)) (sum (suc i ∷ parts)) total in
        let size : sum (suc i ∷ parts) - 1 ≡ length w = omega arith in
        rw same (ap one_if
        (filter_outside (λ d. is_among d (partial_sums 0 (suc i ∷ parts))) (λ d. is_among d (places_where (λ x y. nat_lt y x) 1 (x ∷ w))) (range_with_len 1 (sum (suc i ∷ parts) - 1))
        ∙ ap (λ n. list_all (ends_or_falls 0 (suc i ∷ parts) (x ∷ w)) (range_with_len 1 n)) size
        ∙ descents_outside 0 i parts x w h.1 e))
