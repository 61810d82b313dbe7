-- How many shuffles all ways to cut a word into pieces have together: those of an even number of pieces, and those of an odd one.
use Rattle.std.proofs.Common.{◌≡◌, ℕ, zero, suc, ◌+◌, ◌*◌, ◌<◌, ◌≤◌, Bool, true, false, List, [], ◌∷◌, map, length, get_or, refl, ◌∙◌, ap, arith}
use Rattle.std.specs.Prelude.{not, if◌then◌else◌}
use Rattle.std.specs.List.{AllByRecursion, flat_map}
use Rattle.std.proofs.Math.Nat.{mul-le-mul_left}
use Rattle.std.proofs.lemmas.List.{length-map}
use Rattle.antipodes.proofs.BoundedSums.{sums_le_every, sums_constant, up_to_ten}
use Rattle.change_laws.proofs.CompositionsByBits.{alike}
use Rattle.coproduct_rules.proofs.ShuffleNumbers.{ways, length-shuffles, length-flat_map}
use Rattle.inclusion_laws.proofs.CountsOfWords.{sums_every}
use Rattle.realisations.specs.Words.{greatest, raise, shuffles, shifted_shuffles, all_shuffles, before_pieces, word_pieces, word_cuts}
use Rattle.realisations.proofs.Every.{every-append, every-map, every-weaker, every-flat_map}
use Rattle.realisations.proofs.Sums.{sums, sums-map, sums-flat_map, sums-scale, over_cuts, over_cuts-suc, sums_same}

-- how many letters some pieces have together
abbrev pub letters_of : List (List ℕ) → ℕ
letters_of [] = 0
letters_of (u ∷ parts) = length u + letters_of parts

-- a shuffle has the letters of both words
shuffled_lengths : (u v : List ℕ) → AllByRecursion (λ w. length w ≡ length u + length v) (shuffles u v)
shuffled_lengths [] v = (omega arith, tt)
shuffled_lengths (x ∷ u) [] = (omega arith, tt)
shuffled_lengths (x ∷ u) (y ∷ v) =
    every-append (λ w. length w ≡ length (x ∷ u) + length (y ∷ v)) (map (λ w. x ∷ w) (shuffles u (y ∷ v))) (map (λ w. y ∷ w) (shuffles (x ∷ u) v))
    (every-map (λ w. length w ≡ length u + length (y ∷ v)) (λ w. length w ≡ length (x ∷ u) + length (y ∷ v)) (λ w. x ∷ w) (λ w e. omega (arith, e)) (shuffles u (y ∷ v)) (shuffled_lengths u (y ∷ v)))
    (every-map (λ w. length w ≡ length (x ∷ u) + length v) (λ w. length w ≡ length (x ∷ u) + length (y ∷ v)) (λ w. y ∷ w) (λ w e. omega (arith, e)) (shuffles (x ∷ u) v) (shuffled_lengths (x ∷ u) v))

all_shuffled_lengths : (parts : List (List ℕ)) → AllByRecursion (λ w. length w ≡ letters_of parts) (all_shuffles parts)
all_shuffled_lengths [] = (refl, tt)
all_shuffled_lengths (u ∷ parts) =
    every-flat_map (λ v. length v ≡ letters_of parts) (λ w. length w ≡ letters_of (u ∷ parts)) (λ v. shifted_shuffles u v)
    (λ v e. every-weaker (λ w. length w ≡ length u + length (raise (greatest u) v)) (λ w. length w ≡ letters_of (u ∷ parts)) (λ w k. omega (arith, k, e, length-map v (λ x. greatest u + x))) (shifted_shuffles u v) (shuffled_lengths u (raise (greatest u) v)))
    (all_shuffles parts) (all_shuffled_lengths parts)

-- one piece more
pub length-all_shuffles : (u : List ℕ) (parts : List (List ℕ)) → length (all_shuffles (u ∷ parts)) ≡ ways (length u) (letters_of parts) * length (all_shuffles parts)
length-all_shuffles u parts =
    length-flat_map (λ v. shifted_shuffles u v) (all_shuffles parts)
    ∙ sums_every (λ v. length v ≡ letters_of parts) (λ v. length (shifted_shuffles u v)) (λ v. ways (length u) (letters_of parts))
    (λ v e. length-shuffles u (raise (greatest u) v) ∙ ap (ways (length u)) (length-map v (λ x. greatest u + x) ∙ e)) (all_shuffles parts) (all_shuffled_lengths parts)
    ∙ sums_constant (ways (length u) (letters_of parts)) (all_shuffles parts)

-- the number of pieces is even
abbrev pub is_even : List (List ℕ) → Bool
is_even [] = true
is_even (u ∷ parts) = not (is_even parts)

-- the number of shuffles, where the number of pieces is even or odd
abbrev pub count_where : Bool → List (List ℕ) → ℕ
count_where b parts = if alike b (is_even parts) then length (all_shuffles parts) else 0

-- one piece more turns even and odd
count_where-more : (b : Bool) (u : List ℕ) (parts : List (List ℕ)) → count_where b (u ∷ parts) ≡ ways (length u) (letters_of parts) * count_where (not b) parts
count_where-more b u parts = by_tests b (is_even parts)
  where
    by_tests : (b c : Bool) → (if alike b (not c) then length (all_shuffles (u ∷ parts)) else 0) ≡ ways (length u) (letters_of parts) * (if alike (not b) c then length (all_shuffles parts) else 0)
    by_tests true true = omega arith
    by_tests true false = length-all_shuffles u parts
    by_tests false true = length-all_shuffles u parts
    by_tests false false = omega arith

-- a letter at the front of the first piece
abbrev join : ℕ → List (List ℕ) → List (List ℕ)
join x [] = (x ∷ []) ∷ []
join x (q ∷ c) = (x ∷ q) ∷ c

-- there is a piece
abbrev IsSome : List (List ℕ) → Type 0
IsSome [] = ⊥
IsSome (q ∷ c) = Unit {0}

some_pieces : (y : ℕ) (cs : List (List (List ℕ))) → AllByRecursion IsSome (flat_map (before_pieces y) cs)
some_pieces y [] = tt
some_pieces y ([] ∷ cs) = (tt, some_pieces y cs)
some_pieces y ((q ∷ c) ∷ cs) = (tt, (tt, some_pieces y cs))

two_ways : (f : List (List ℕ) → ℕ) (x : ℕ) (cs : List (List (List ℕ))) → AllByRecursion IsSome cs → sums (λ c. sums f (before_pieces x c)) cs ≡ sums (λ c. f ((x ∷ []) ∷ c)) cs + sums (λ c. f (join x c)) cs
two_ways f x [] h = refl
two_ways f x ([] ∷ cs) h = absurd h.0
two_ways f x ((q ∷ c) ∷ cs) h = omega (arith, two_ways f x cs h.1)

-- a letter is a piece in front of the others, or the first letter of the first one
pieces_with : (f : List (List ℕ) → ℕ) (x y : ℕ) (w : List ℕ) →
    sums f (word_pieces (x ∷ y ∷ w)) ≡ sums (λ c. f ((x ∷ []) ∷ c)) (word_pieces (y ∷ w)) + sums (λ c. f (join x c)) (word_pieces (y ∷ w))
pieces_with f x y w = sums-flat_map f (before_pieces x) (word_pieces (y ∷ w)) ∙ two_ways f x (word_pieces (y ∷ w)) (some_pieces y (word_pieces w))

-- the pieces of a word, by the first one
pub pieces_by_first : (f : List (List ℕ) → ℕ) (x : ℕ) (w : List ℕ) → sums f (word_pieces (x ∷ w)) ≡ sums (λ (e : List ℕ × List ℕ). sums (λ c. f ((x ∷ e.0) ∷ c)) (word_pieces e.1)) (word_cuts w)
pieces_by_first f x [] = omega arith
pieces_by_first f x (y ∷ w) =
    omega (
      arith,
      pieces_with f x y w,
      pieces_by_first (λ c. f (join x c)) y w,
      sums-map (λ (e : List ℕ × List ℕ). sums (λ c. f ((x ∷ e.0) ∷ c)) (word_pieces e.1)) (λ (e : List ℕ × List ℕ). (y ∷ e.0, e.1)) (word_cuts w),
    )

-- the pieces of a word have its letters
letters_of_pieces : (w : List ℕ) → AllByRecursion (λ c. letters_of c ≡ length w) (word_pieces w)
letters_of_pieces [] = (refl, tt)
letters_of_pieces (x ∷ w) =
    every-flat_map (λ c. letters_of c ≡ length w) (λ c. letters_of c ≡ length (x ∷ w)) (before_pieces x) longer (word_pieces w) (letters_of_pieces w)
  where
    longer : (c : List (List ℕ)) → letters_of c ≡ length w → AllByRecursion (λ c. letters_of c ≡ length (x ∷ w)) (before_pieces x c)
    longer [] e = (omega (arith, e), tt)
    longer (u ∷ c) e = (omega (arith, e), (omega (arith, e), tt))

-- how many shuffles the ways to cut a word into an even or an odd number of pieces have
abbrev pub shuffles_where : Bool → List ℕ → ℕ
shuffles_where b w = sums (λ c. count_where b c) (word_pieces w)

-- a sum over the cuts of a word, by the lengths of both parts
over_word_cuts : (f : ℕ → ℕ → ℕ) (w : List ℕ) → sums (λ (e : List ℕ × List ℕ). f (length e.0) (length e.1)) (word_cuts w) ≡ over_cuts (length w) f
over_word_cuts f [] = refl
over_word_cuts f (x ∷ w) =
    omega (
      arith,
      sums-map (λ (e : List ℕ × List ℕ). f (length e.0) (length e.1)) (λ (e : List ℕ × List ℕ). (x ∷ e.0, e.1)) (word_cuts w),
      over_word_cuts (λ i j. f (suc i) j) w,
      over_cuts-suc (length w) f,
    )

-- the parts of a cut are no longer than the word
shorter_cuts : (w : List ℕ) → AllByRecursion (λ (e : List ℕ × List ℕ). length e.1 ≤ length w) (word_cuts w)
shorter_cuts [] = (omega arith, tt)
shorter_cuts (x ∷ w) =
    (omega arith, every-map (λ (e : List ℕ × List ℕ). length e.1 ≤ length w) (λ (e : List ℕ × List ℕ). length e.1 ≤ length (x ∷ w)) (λ (e : List ℕ × List ℕ). (x ∷ e.0, e.1)) (λ e h. omega (arith, h)) (word_cuts w) (shorter_cuts w))

shuffles_where-step : (b : Bool) (x : ℕ) (w : List ℕ) → shuffles_where b (x ∷ w) ≡ sums (λ (e : List ℕ × List ℕ). ways (suc (length e.0)) (length e.1) * shuffles_where (not b) e.1) (word_cuts w)
shuffles_where-step b x w =
    pieces_by_first (count_where b) x w
    ∙ sums_same _ _
    (λ (e : List ℕ × List ℕ). sums_every (λ c. letters_of c ≡ length e.1) (λ c. count_where b ((x ∷ e.0) ∷ c)) (λ c. ways (suc (length e.0)) (length e.1) * count_where (not b) c)
    (λ c is. count_where-more b (x ∷ e.0) c ∙ ap (λ n. ways (suc (length e.0)) n * count_where (not b) c) is) (word_pieces e.1) (letters_of_pieces e.1)
    ∙ sums-scale (ways (suc (length e.0)) (length e.1)) (count_where (not b)) (word_pieces e.1)) (word_cuts w)

-- the numbers of ordered set partitions into an even and into an odd number of blocks
abbrev pub partitions_where : Bool → ℕ → ℕ
partitions_where true n = get_or (1 ∷ 0 ∷ 2 ∷ 6 ∷ 38 ∷ 270 ∷ 2342 ∷ 23646 ∷ 272918 ∷ 3543630 ∷ 51123782 ∷ []) n 0
partitions_where false n = get_or (0 ∷ 1 ∷ 1 ∷ 7 ∷ 37 ∷ 271 ∷ 2341 ∷ 23647 ∷ 272917 ∷ 3543631 ∷ 51123781 ∷ []) n 0

-- by the size of the first block
abbrev next_partitions : Bool → ℕ → ℕ
next_partitions b n = over_cuts n (λ i j. ways (suc i) j * partitions_where (not b) j)

partitions_step : (b : Bool) (n : ℕ) → n < 10 → next_partitions b n ≡ partitions_where b (suc n)
partitions_step true n lt = up_to_ten (λ n. n < 10 → next_partitions true n ≡ partitions_where true (suc n)) (λ l. refl) (λ l. refl) (λ l. refl) (λ l. refl) (λ l. refl) (λ l. refl) (λ l. refl) (λ l. refl) (λ l. refl) (λ l. refl) (λ l. absurd (omega (arith, l))) n (omega (arith, lt)) lt
partitions_step false n lt = up_to_ten (λ n. n < 10 → next_partitions false n ≡ partitions_where false (suc n)) (λ l. refl) (λ l. refl) (λ l. refl) (λ l. refl) (λ l. refl) (λ l. refl) (λ l. refl) (λ l. refl) (λ l. refl) (λ l. refl) (λ l. absurd (omega (arith, l))) n (omega (arith, lt)) lt

-- that many shuffles they have, up to ten letters
few_within : (k : ℕ) (b : Bool) (w : List ℕ) → length w ≤ k → k ≤ 10 → shuffles_where b w ≤ partitions_where b (length w)
few_within k true [] le ten = omega arith
few_within k false [] le ten = omega arith
few_within zero b (x ∷ w) le ten = absurd (omega (arith, le))
few_within (suc k) b (x ∷ w) le ten =
    let each : sums (λ (e : List ℕ × List ℕ). ways (suc (length e.0)) (length e.1) * shuffles_where (not b) e.1) (word_cuts w) ≤ sums (λ (e : List ℕ × List ℕ). ways (suc (length e.0)) (length e.1) * partitions_where (not b) (length e.1)) (word_cuts w) =
    sums_le_every (λ (e : List ℕ × List ℕ). length e.1 ≤ length w) _ _
    (λ e h. mul-le-mul_left (ways (suc (length e.0)) (length e.1)) (few_within k (not b) e.1 (omega (arith, h, le)) (omega (arith, ten)))) (word_cuts w) (shorter_cuts w) in
    omega (
      arith,
      shuffles_where-step b x w,
      each,
      over_word_cuts (λ i j. ways (suc i) j * partitions_where (not b) j) w,
      partitions_step b (length w) (omega (arith, le, ten)),
    )

pub few_shuffles : (b : Bool) (w : List ℕ) → length w ≤ 10 → shuffles_where b w ≤ partitions_where b (length w)
few_shuffles b w le = few_within 10 b w le (omega arith)
