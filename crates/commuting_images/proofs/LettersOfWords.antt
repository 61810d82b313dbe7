-- The words that become a monomial: their lengths, and how many of them rise or fall throughout.
use Rattle.std.proofs.Common.{◌≡◌, ℕ, zero, suc, ◌+◌, ◌*◌, ◌≤◌, Bool, true, false, List, [], ◌∷◌, length, map, replicate, refl, ◌∙◌, ap, arith}
use Rattle.std.specs.Prelude.{nat_lt, not, ◌&&◌}
use Rattle.std.specs.List.{AllByRecursion, sum}
use Rattle.std.proofs.lemmas.Bool.Decides.{nat_tests}
use Rattle.realisations.specs.Lists.{one_if}
use Rattle.realisations.specs.Words.{shuffles, words_from}
use Rattle.realisations.proofs.Every.{every-append, every-flat_map, every-map}
use Rattle.realisations.proofs.Sums.{sums, sums-flat_map, sums-scale, sums_same}
use Rattle.basis_representatives.proofs.SameLists.{one_if-and}
use Rattle.coproduct_laws.proofs.Shuffling.{over_shuffles, over_shuffles-step}
use Rattle.inclusion_laws.proofs.CountsOfWords.{sums_every}
use Rattle.product_laws.proofs.Parts.{sum-cons}
use Rattle.commuting_images.proofs.NeighbourTests.{is_chain}

-- so many letters, each at least i
abbrev pub AreFrom : ℕ → ℕ → List ℕ → Type 0
AreFrom n i w = (length w ≡ n) × AllByRecursion (λ x. i ≤ x) w

-- shuffles have the letters of both words
letters_shuffled : (i : ℕ) (u v : List ℕ) → AllByRecursion (λ x. i ≤ x) u → AllByRecursion (λ x. i ≤ x) v → AllByRecursion (AreFrom (length u + length v) i) (shuffles u v)
letters_shuffled i [] v hu hv = ((omega arith, hv), tt)
letters_shuffled i (x ∷ u) [] hu hv = ((omega arith, hu), tt)
letters_shuffled i (x ∷ u) (y ∷ v) hu hv =
    every-append (AreFrom (length (x ∷ u) + length (y ∷ v)) i) (map (λ w. x ∷ w) (shuffles u (y ∷ v))) (map (λ w. y ∷ w) (shuffles (x ∷ u) v))
    (every-map (AreFrom (length u + length (y ∷ v)) i) (AreFrom (length (x ∷ u) + length (y ∷ v)) i) (λ w. x ∷ w) (λ w h. (omega (arith, h.0), (hu.0, h.1))) (shuffles u (y ∷ v)) (letters_shuffled i u (y ∷ v) hu.1 hv))
    (every-map (AreFrom (length (x ∷ u) + length v) i) (AreFrom (length (x ∷ u) + length (y ∷ v)) i) (λ w. y ∷ w) (λ w h. (omega (arith, h.0), (hv.0, h.1))) (shuffles (x ∷ u) v) (letters_shuffled i (x ∷ u) v hu hv.1))

from_weaker : (n i : ℕ) (w : List ℕ) → AllByRecursion (λ x. suc i ≤ x) w → AllByRecursion (λ x. i ≤ x) w
from_weaker n i [] h = tt
from_weaker n i (x ∷ w) h = (omega (arith, h.0), from_weaker n i w h.1)

block_from : (n i : ℕ) → AllByRecursion (λ x. i ≤ x) (replicate n i)
block_from zero i = tt
block_from (suc n) i = (omega arith, block_from n i)

length-block : (n i : ℕ) → length (replicate n i) ≡ n
length-block zero i = refl
length-block (suc n) i = omega (arith, length-block n i)

-- the words have as many letters as the monomial
pub words_are_from : (i : ℕ) (p : List ℕ) → AllByRecursion (AreFrom (sum p) i) (words_from i p)
words_are_from i [] = ((refl, tt), tt)
words_are_from i (n ∷ p) =
    every-flat_map (AreFrom (sum p) (suc i)) (AreFrom (sum (n ∷ p)) i) (λ w. shuffles (replicate n i) w)
    (λ w h. every_alike (length (replicate n i) + length w) (sum (n ∷ p)) (omega (arith, length-block n i, h.0, sum-cons n p)) (shuffles (replicate n i) w) (letters_shuffled i (replicate n i) w (block_from n i) (from_weaker n i w h.1)))
    (words_from (suc i) p) (words_are_from (suc i) p)
  where
    every_alike : (k m : ℕ) → k ≡ m → (ws : List (List ℕ)) → AllByRecursion (AreFrom k i) ws → AllByRecursion (AreFrom m i) ws
    every_alike k m e [] h = tt
    every_alike k m e (w ∷ ws) h = ((omega (arith, h.0.0, e), h.0.1), every_alike k m e ws h.1)

-- a test that the summand does not change
tested : (b : Bool) (g : List ℕ → Bool) (xs : List (List ℕ)) → sums (λ x. one_if (b && g x)) xs ≡ one_if b * sums (λ x. one_if (g x)) xs
tested b g xs = sums_same (λ x. one_if (b && g x)) (λ x. one_if b * one_if (g x)) (λ x. one_if-and b (g x)) xs ∙ sums-scale (one_if b) (λ x. one_if (g x)) xs

-- a shuffle after a letter, by its first letter
shuffled-step : (test : ℕ → ℕ → Bool) (b x : ℕ) (u : List ℕ) (y : ℕ) (v : List ℕ)
    → over_shuffles (λ w. one_if (is_chain test (b ∷ w))) (x ∷ u) (y ∷ v)
    ≡ one_if (test b x) * over_shuffles (λ w. one_if (is_chain test (x ∷ w))) u (y ∷ v) + one_if (test b y) * over_shuffles (λ w. one_if (is_chain test (y ∷ w))) (x ∷ u) v
shuffled-step test b x u y v =
    over_shuffles-step (λ w. one_if (is_chain test (b ∷ w))) x u y v
    ∙ (λ i. tested (test b x) (λ w. is_chain test (x ∷ w)) (shuffles u (y ∷ v)) i + tested (test b y) (λ w. is_chain test (y ∷ w)) (shuffles (x ∷ u) v) i)

-- no letter is smaller than the one before it
abbrev pub rises_on : ℕ → ℕ → Bool
rises_on x y = not (nat_lt y x)

-- each letter is smaller than the one before it
abbrev pub falls_on : ℕ → ℕ → Bool
falls_on x y = nat_lt y x

block_rises : (n j : ℕ) → is_chain rises_on (j ∷ replicate n j) ≡ true
block_rises zero j = refl
block_rises (suc n) j = let e : rises_on j j ≡ true = grind (arith, nat_tests) in rw (e, block_rises n j) refl

-- a block of smaller letters rises into a word in one way: before it
block_before : (b j n : ℕ) (w : List ℕ) → AllByRecursion (λ x. suc j ≤ x) w
    → over_shuffles (λ v. one_if (is_chain rises_on (b ∷ v))) (replicate (suc n) j) w ≡ one_if (rises_on b j) * one_if (is_chain rises_on (j ∷ w))
block_before b j n [] h = rw (block_rises n j) (by_test (rises_on b j))
  where
    by_test : (t : Bool) → one_if (t && true) + 0 ≡ one_if t * 1
    by_test true = refl
    by_test false = refl
block_before b j zero (y ∷ w) h =
    let down : rises_on y j ≡ false = grind (arith, nat_tests, h.0) in
    let second = block_before y j zero w h.1 ∙ ap (λ t. one_if t * one_if (is_chain rises_on (j ∷ w))) down in
    shuffled-step rises_on b j [] y w ∙ ap (λ m. one_if (rises_on b j) * (one_if (is_chain rises_on (j ∷ y ∷ w)) + 0) + one_if (rises_on b y) * m) second ∙ omega arith
block_before b j (suc n) (y ∷ w) h =
    let down : rises_on y j ≡ false = grind (arith, nat_tests, h.0) in
    let level : rises_on j j ≡ true = grind (arith, nat_tests) in
    let first = block_before j j n (y ∷ w) h ∙ ap (λ t. one_if t * one_if (is_chain rises_on (j ∷ y ∷ w))) level in
    let second = block_before y j (suc n) w h.1 ∙ ap (λ t. one_if t * one_if (is_chain rises_on (j ∷ w))) down in
    shuffled-step rises_on b j (replicate (suc n) j) y w ∙ (λ i. one_if (rises_on b j) * first i + one_if (rises_on b y) * second i) ∙ omega arith

-- one of the words rises throughout
pub one_rises : (b j : ℕ) (p : List ℕ) → b ≤ j → sums (λ w. one_if (is_chain rises_on (b ∷ w))) (words_from j p) ≡ 1
one_rises b j [] le = refl
one_rises b j (zero ∷ p) le =
    sums-flat_map (λ w. one_if (is_chain rises_on (b ∷ w))) (λ w. w ∷ []) (words_from (suc j) p)
    ∙ sums_same (λ w. one_if (is_chain rises_on (b ∷ w)) + 0) (λ w. one_if (is_chain rises_on (b ∷ w))) (λ w. omega arith) (words_from (suc j) p)
    ∙ one_rises b (suc j) p (omega (arith, le))
one_rises b j (suc n ∷ p) le =
    let up : rises_on b j ≡ true = grind (arith, nat_tests, le) in
    sums-flat_map (λ w. one_if (is_chain rises_on (b ∷ w))) (λ w. shuffles (replicate (suc n) j) w) (words_from (suc j) p)
    ∙ sums_every (AreFrom (sum p) (suc j)) (λ w. over_shuffles (λ v. one_if (is_chain rises_on (b ∷ v))) (replicate (suc n) j) w) (λ w. one_if (is_chain rises_on (j ∷ w)))
    (λ w h. block_before b j n w h.1 ∙ ap (λ t. one_if t * one_if (is_chain rises_on (j ∷ w))) up ∙ omega arith) (words_from (suc j) p) (words_are_from (suc j) p)
    ∙ one_rises j (suc j) p (omega arith)

-- 1 for at most one letter, else 0
abbrev pub one_if_single : ℕ → ℕ
one_if_single zero = 1
one_if_single (suc zero) = 1
one_if_single (suc (suc n)) = 0

-- after the letter of a block nothing falls
none_after : (j n y : ℕ) (w : List ℕ) → suc j ≤ y → over_shuffles (λ v. one_if (is_chain falls_on (j ∷ v))) (replicate n j) (y ∷ w) ≡ 0
none_after j zero y w h = let up : falls_on j y ≡ false = grind (arith, nat_tests, h) in rw up refl
none_after j (suc n) y w h =
    let up : falls_on j y ≡ false = grind (arith, nat_tests, h) in
    let level : falls_on j j ≡ false = grind (arith, nat_tests) in
    shuffled-step falls_on j j (replicate n j) y w
    ∙ (λ i. one_if (level i) * over_shuffles (λ v. one_if (is_chain falls_on (j ∷ v))) (replicate n j) (y ∷ w) + one_if (up i) * over_shuffles (λ v. one_if (is_chain falls_on (y ∷ v))) (replicate (suc n) j) w)
    ∙ omega arith

block_falls : (n j : ℕ) → one_if (is_chain falls_on (replicate n j)) ≡ one_if_single n
block_falls zero j = refl
block_falls (suc zero) j = refl
block_falls (suc (suc n)) j = let level : falls_on j j ≡ false = grind (arith, nat_tests) in rw level refl

-- a block of smaller letters falls out of a word in one way: one letter after it
block_after : (y j n : ℕ) (w : List ℕ) → suc j ≤ y → AllByRecursion (λ x. suc j ≤ x) w
    → over_shuffles (λ v. one_if (is_chain falls_on (y ∷ v))) (replicate n j) w ≡ one_if_single n * one_if (is_chain falls_on (y ∷ w))
block_after y j zero w le h = omega arith
block_after y j (suc n) [] le h =
    let down : falls_on y j ≡ true = grind (arith, nat_tests, le) in
    rw down (omega (arith, block_falls (suc n) j))
block_after y j (suc n) (z ∷ w) le h =
    let first = none_after j n z w h.0 in
    let second = block_after z j (suc n) w h.0 h.1 in
    shuffled-step falls_on y j (replicate n j) z w ∙ (λ i. one_if (falls_on y j) * first i + one_if (falls_on y z) * second i)
    ∙ turned (one_if (falls_on y j)) (one_if (falls_on y z)) (one_if_single (suc n)) (one_if (is_chain falls_on (z ∷ w))) (one_if (falls_on y z && is_chain falls_on (z ∷ w))) (one_if-and (falls_on y z) (is_chain falls_on (z ∷ w)))
  where
    turned : (a b c d e : ℕ) → e ≡ b * d → a * 0 + b * (c * d) ≡ c * e
    turned a b c d e is = rw is (omega arith)

block_falls_in : (j n : ℕ) (w : List ℕ) → AllByRecursion (λ x. suc j ≤ x) w → over_shuffles (λ v. one_if (is_chain falls_on v)) (replicate n j) w ≡ one_if_single n * one_if (is_chain falls_on w)
block_falls_in j zero w h = omega arith
block_falls_in j (suc n) [] h = omega (arith, block_falls (suc n) j)
block_falls_in j (suc n) (z ∷ w) h =
    over_shuffles-step (λ v. one_if (is_chain falls_on v)) j (replicate n j) z w
    ∙ (λ i. none_after j n z w h.0 i + block_after z j (suc n) w h.0 h.1 i)
    ∙ omega arith

-- 1 where no exponent is more than 1, else 0
abbrev pub one_if_squarefree : List ℕ → ℕ
one_if_squarefree [] = 1
one_if_squarefree (n ∷ p) = one_if_single n * one_if_squarefree p

-- where no letter is repeated one of the words falls throughout, and else none does
pub one_falls : (j : ℕ) (p : List ℕ) → sums (λ w. one_if (is_chain falls_on w)) (words_from j p) ≡ one_if_squarefree p
one_falls j [] = refl
one_falls j (n ∷ p) =
    sums-flat_map (λ w. one_if (is_chain falls_on w)) (λ w. shuffles (replicate n j) w) (words_from (suc j) p)
    ∙ sums_every (AreFrom (sum p) (suc j)) (λ w. over_shuffles (λ v. one_if (is_chain falls_on v)) (replicate n j) w) (λ w. one_if_single n * one_if (is_chain falls_on w))
    (λ w h. block_falls_in j n w h.1) (words_from (suc j) p) (words_are_from (suc j) p)
    ∙ sums-scale (one_if_single n) (λ w. one_if (is_chain falls_on w)) (words_from (suc j) p)
    ∙ ap (λ m. one_if_single n * m) (one_falls (suc j) p)
