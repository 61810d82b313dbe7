-- At points, products, operations and pairings read their operands at points.
use Rattle.std.proofs.Common.{◌≡◌, ℕ, zero, suc, ◌≤◌, ◌∷◌, [], List, map, length, replicate, refl, sym, subst, arith}
use Rattle.std.specs.Prelude.{if◌then◌else◌, Bool, true, false, nat_eq}
use Rattle.std.specs.List.{AllByRecursion, range_with_len}
use Rattle.realisations.specs.Words.{greatest, raise, shuffles, shifted_shuffles, all_shuffles, before_pieces, word_pieces, word_cuts, words_from}
use Rattle.realisations.specs.Standardisation.{inverse, place_of}
use Rattle.realisations.specs.Descents.{word_of_composition}
use Rattle.realisations.specs.Points.{Kind, exponents, word, IsPoint, ArePoints}
use Rattle.realisations.specs.Pairings.{Paired, permutations, compositions, refinements, up_to, paired_points, paired_tuples}
use Rattle.realisations.specs.Readings.{Operation, coproduct, antipode, counit, mult, commute, cuts, all_cuts, on_ordinal_sum, pieces, on_ordinal_sums, commuting, kinds_after, kinds_after_at, reads, reads_at}
use Rattle.realisations.specs.Laws.{IsDoubled, PointsLaw}
use Rattle.realisations.proofs.Every.{every-append, every-map, every-flat_map, every-any}

-- a word whose letters are at least 1
abbrev IsWord : List ℕ → Type 0
IsWord w = IsPoint word w

-- words that are cut, raised, shuffled, and put together from letters

words_cut : (w : List ℕ) → IsWord w → AllByRecursion (λ (c : List ℕ × List ℕ). IsWord c.0 × IsWord c.1) (word_cuts w)
words_cut [] h = ((tt, tt), tt)
words_cut (x ∷ w) h = (
  (tt, h),
  every-map (λ (c : List ℕ × List ℕ). IsWord c.0 × IsWord c.1) (λ (c : List ℕ × List ℕ). IsWord c.0 × IsWord c.1) (λ (c : List ℕ × List ℕ). (x ∷ c.0, c.1))
      (λ c l. ((h.0, l.0), l.1)) (word_cuts w) (words_cut w h.1),
)

word_raised : (k : ℕ) (w : List ℕ) → IsWord w → IsWord (raise k w)
word_raised k [] h = tt
word_raised k (x ∷ w) h = (omega (arith, h.0), word_raised k w h.1)

words_shuffled : (u v : List ℕ) → IsWord u → IsWord v → AllByRecursion IsWord (shuffles u v)
words_shuffled [] v hu hv = (hv, tt)
words_shuffled (x ∷ u) [] hu hv = (hu, tt)
words_shuffled (x ∷ u) (y ∷ v) hu hv =
    every-append IsWord (map (λ w. x ∷ w) (shuffles u (y ∷ v))) (map (λ w. y ∷ w) (shuffles (x ∷ u) v))
    (every-map IsWord IsWord (λ w. x ∷ w) (λ w h. (hu.0, h)) (shuffles u (y ∷ v)) (words_shuffled u (y ∷ v) hu.1 hv))
    (every-map IsWord IsWord (λ w. y ∷ w) (λ w h. (hv.0, h)) (shuffles (x ∷ u) v) (words_shuffled (x ∷ u) v hu hv.1))

words_shifted : (u v : List ℕ) → IsWord u → IsWord v → AllByRecursion IsWord (shifted_shuffles u v)
words_shifted u v hu hv = words_shuffled u (raise (greatest u) v) hu (word_raised (greatest u) v hv)

words_in_pieces : (w : List ℕ) → IsWord w → AllByRecursion (λ parts. AllByRecursion IsWord parts) (word_pieces w)
words_in_pieces [] h = (tt, tt)
words_in_pieces (x ∷ w) h =
    every-flat_map (λ parts. AllByRecursion IsWord parts) (λ parts. AllByRecursion IsWord parts) (λ parts. before_pieces x parts) before (word_pieces w) (words_in_pieces w h.1)
  where
    before : (parts : List (List ℕ)) → AllByRecursion IsWord parts → AllByRecursion (λ parts. AllByRecursion IsWord parts) (before_pieces x parts)
    before [] l = (((h.0, tt), tt), tt)
    before (u ∷ parts) l = (((h.0, tt), l), (((h.0, l.0), l.1), tt))

words_all_shifted : (parts : List (List ℕ)) → AllByRecursion IsWord parts → AllByRecursion IsWord (all_shuffles parts)
words_all_shifted [] h = (tt, tt)
words_all_shifted (u ∷ parts) h =
    every-flat_map IsWord IsWord (λ v. shifted_shuffles u v) (λ v hv. words_shifted u v h.0 hv) (all_shuffles parts) (words_all_shifted parts h.1)

pub word_replicated : (n x : ℕ) → 1 ≤ x → IsWord (replicate n x)
word_replicated zero x h = tt
word_replicated (suc n) x h = (h, word_replicated n x h)

words_evaluated : (i : ℕ) (p : List ℕ) → 1 ≤ i → AllByRecursion IsWord (words_from i p)
words_evaluated i [] h = (tt, tt)
words_evaluated i (n ∷ p) h =
    every-flat_map IsWord IsWord (λ w. shuffles (replicate n i) w) (λ w hw. words_shuffled (replicate n i) w (word_replicated n i h) hw)
    (words_from (suc i) p) (words_evaluated (suc i) p (omega arith))

pub word_composed : (parts : List ℕ) → IsWord (word_of_composition parts)
word_composed [] = tt
word_composed (i ∷ parts) =
    every-append (λ x. 1 ≤ x) (replicate i (suc (length parts))) (word_of_composition parts) (word_replicated i (suc (length parts)) (omega arith)) (word_composed parts)

-- places count from 1
place_from_1 : (x y : ℕ) (w : List ℕ) → 1 ≤ place_of x (y ∷ w)
place_from_1 x y w = by_test (nat_eq y x)
  where
    by_test : (b : Bool) → 1 ≤ (if b then 1 else suc (place_of x w))
    by_test true = omega arith
    by_test false = omega arith

pub word_inverted : (s : List ℕ) → IsWord (inverse s)
word_inverted [] = tt
word_inverted (y ∷ s) =
    every-map (λ (x : ℕ). Unit {0}) (λ x. 1 ≤ x) (λ x. place_of x (y ∷ s)) (λ x t. place_from_1 x y s) (range_with_len 1 (length (y ∷ s))) (every-any (λ (x : ℕ). Unit {0}) (λ x. tt) (range_with_len 1 (length (y ∷ s))))

-- points of both kinds

-- both parts of a cut of a point
cuts_are_points : (kind : Kind) (p : List ℕ) → IsPoint kind p → AllByRecursion (λ (c : List ℕ × List ℕ). IsPoint kind c.0 × IsPoint kind c.1) (cuts kind p)
cuts_are_points exponents p h = every-any _ (λ c. (tt, tt)) (cuts exponents p)
cuts_are_points word p h = words_cut p h

ordinal_sum_of_points : (kind : Kind) (u v : List ℕ) → IsPoint kind u → IsPoint kind v → AllByRecursion (IsPoint kind) (on_ordinal_sum kind u v)
ordinal_sum_of_points exponents u v hu hv = (tt, tt)
ordinal_sum_of_points word u v hu hv = words_shifted u v hu hv

-- the pieces of a point, on their ordinal sum
pieces_are_points : (kind : Kind) (p : List ℕ) → IsPoint kind p → AllByRecursion (λ parts. AllByRecursion (IsPoint kind) (on_ordinal_sums kind parts)) (pieces kind p)
pieces_are_points exponents p h = every-any _ (λ parts. (tt, tt)) (pieces exponents p)
pieces_are_points word p h = every-weaker-words (word_pieces p) (words_in_pieces p h)
  where
    every-weaker-words : (ps : List (List (List ℕ))) → AllByRecursion (λ parts. AllByRecursion IsWord parts) ps → AllByRecursion (λ parts. AllByRecursion IsWord (all_shuffles parts)) ps
    every-weaker-words [] l = tt
    every-weaker-words (parts ∷ ps) l = (words_all_shifted parts l.0, every-weaker-words ps l.1)

commuting_are_points : (kind : Kind) (p : List ℕ) → AllByRecursion (IsPoint kind) (commuting kind p)
commuting_are_points exponents p = (tt, tt)
commuting_are_points word p = words_evaluated 1 p (omega arith)

empty_is_point : (kind : Kind) → IsPoint kind []
empty_is_point exponents = tt
empty_is_point word = tt

-- two tuples of points
abbrev BothOf : List Kind → List (List ℕ) × List (List ℕ) → Type 0
BothOf kinds c = ArePoints kinds c.0 × ArePoints kinds c.1

-- the products read their factors at points
pub cuts_of_points : (kinds : List Kind) (ps : List (List ℕ)) → ArePoints kinds ps
    → AllByRecursion (λ (c : List (List ℕ) × List (List ℕ)). ArePoints kinds c.0 × ArePoints kinds c.1) (all_cuts kinds ps)
cuts_of_points [] [] h = ((tt, tt), tt)
cuts_of_points [] (p ∷ ps) h = absurd h
cuts_of_points (kind ∷ kinds) [] h = absurd h
cuts_of_points (kind ∷ kinds) (p ∷ ps) h =
    every-flat_map (λ (c : List ℕ × List ℕ). IsPoint kind c.0 × IsPoint kind c.1) (BothOf (kind ∷ kinds)) (λ c. map (λ d. (c.0 ∷ d.0, c.1 ∷ d.1)) (all_cuts kinds ps))
    (λ c l. every-map (BothOf kinds) (BothOf (kind ∷ kinds)) (λ d. (c.0 ∷ d.0, c.1 ∷ d.1))
    (λ d m. ((l.0, m.0), (l.1, m.1))) (all_cuts kinds ps) (cuts_of_points kinds ps h.1))
    (cuts kind p) (cuts_are_points kind p h.0)

-- a tuple that an operation reads, with its signs
abbrev Read : List Kind → ℕ × List (List ℕ) → Type 0
Read kinds r = ArePoints kinds r.1

-- an operation on the first component reads its operand at points
first_of_points : (operation : Operation) (kind : Kind) (kinds : List Kind) (ps : List (List ℕ)) → (operation ≡ mult → IsDoubled 0 (kind ∷ kinds))
    → ArePoints (kinds_after operation (kind ∷ kinds)) ps → AllByRecursion (Read (kind ∷ kinds)) (reads operation kind ps)
first_of_points coproduct kind kinds [] same h = absurd h
first_of_points coproduct kind kinds (u ∷ []) same h = absurd h.1
first_of_points coproduct kind kinds (u ∷ v ∷ ps) same h =
    every-map (IsPoint kind) (Read (kind ∷ kinds)) (λ p. (0, p ∷ ps)) (λ p l. (l, h.1.1)) (on_ordinal_sum kind u v) (ordinal_sum_of_points kind u v h.0 h.1.0)
first_of_points antipode kind kinds [] same h = absurd h
first_of_points antipode kind kinds (p ∷ ps) same h =
    every-flat_map (λ parts. AllByRecursion (IsPoint kind) (on_ordinal_sums kind parts)) (Read (kind ∷ kinds)) (λ parts. map (λ q. (length parts, q ∷ ps)) (on_ordinal_sums kind parts))
    (λ parts l. every-map (IsPoint kind) (Read (kind ∷ kinds)) (λ q. (length parts, q ∷ ps)) (λ q m. (m, h.1)) (on_ordinal_sums kind parts) l)
    (pieces kind p) (pieces_are_points kind p h.0)
first_of_points counit kind kinds ps same h = ((empty_is_point kind, h), tt)
first_of_points mult kind [] ps same h = absurd (same refl)
first_of_points mult kind (next ∷ kinds) [] same h = absurd h
first_of_points mult kind (next ∷ kinds) (p ∷ ps) same h =
    every-map (λ (c : List ℕ × List ℕ). IsPoint kind c.0 × IsPoint kind c.1) (Read (kind ∷ next ∷ kinds)) (λ (c : List ℕ × List ℕ). (0, c.0 ∷ c.1 ∷ ps))
    (λ c l. (l.0, (subst (λ k. IsPoint k c.1) (same refl) l.1, h.1)))
    (cuts kind p) (cuts_are_points kind p (subst (λ k. IsPoint k p) (sym (same refl)) h.0))
first_of_points commute kind kinds [] same h = absurd h
first_of_points commute kind kinds (p ∷ ps) same h =
    every-map (IsPoint kind) (Read (kind ∷ kinds)) (λ q. (0, q ∷ ps)) (λ q l. (l, h.1)) (commuting kind p) (commuting_are_points kind p)

-- and so does one on any component
operations_of_points : (operation : Operation) (n : ℕ) (kinds : List Kind) (ps : List (List ℕ)) → (operation ≡ mult → IsDoubled n kinds)
    → ArePoints (kinds_after_at n operation kinds) ps → AllByRecursion (Read kinds) (reads_at n operation kinds ps)
operations_of_points operation zero [] ps same h = tt
operations_of_points operation zero (kind ∷ kinds) ps same h = first_of_points operation kind kinds ps same h
operations_of_points operation (suc n) [] ps same h = tt
operations_of_points operation (suc n) (kind ∷ kinds) [] same h = absurd h
operations_of_points operation (suc n) (kind ∷ kinds) (p ∷ ps) same h =
    every-map (Read kinds) (Read (kind ∷ kinds)) (λ (r : ℕ × List (List ℕ)). (r.0, p ∷ r.1)) (λ r l. (h.0, l))
    (reads_at n operation kinds ps) (operations_of_points operation n kinds ps same h.1)

-- pairings

-- the permutations of a size are words
words_of_permutations : (n : ℕ) → AllByRecursion IsWord (permutations n)
words_of_permutations zero = (tt, tt)
words_of_permutations (suc n) =
    every-flat_map IsWord IsWord (λ s. shuffles s (suc n ∷ [])) (λ s h. words_shuffled s (suc n ∷ []) h (omega arith, tt)) (permutations n) (words_of_permutations n)

-- what a family has at each size, it has up to each size
every-up_to : (P : List ℕ → Type 0) (family : ℕ → List (List ℕ)) → ((n : ℕ) → AllByRecursion P (family n)) → (n : ℕ) → AllByRecursion P (up_to family n)
every-up_to P family h zero = h 0
every-up_to P family h (suc n) = every-append P (up_to family n) (family (suc n)) (every-up_to P family h n) (h (suc n))

-- the places of two components
paired_are_points : (n : ℕ) (kind kind' : Kind) → AllByRecursion (λ (t : Paired (List ℕ)). IsPoint kind t.1 × IsPoint kind' t.2) (paired_points n kind kind')
paired_are_points n exponents exponents = tt
paired_are_points n word word =
    every-map IsWord (λ (t : Paired (List ℕ)). IsWord t.1 × IsWord t.2) (λ s. (0, inverse s, s)) (λ s h. (word_inverted s, h)) (up_to permutations n) (every-up_to IsWord permutations words_of_permutations n)
paired_are_points n word exponents =
    every-flat_map (λ (j : List ℕ). Unit {0}) (λ (t : Paired (List ℕ)). IsWord t.1 × Unit {0}) _
    (λ j l. every-map (λ (i : List ℕ). Unit {0}) (λ (t : Paired (List ℕ)). IsWord t.1 × Unit {0}) _ (λ i m. (word_composed i, tt)) (refinements j) (every-any _ (λ i. tt) (refinements j)))
    (up_to compositions n) (every-any _ (λ j. tt) (up_to compositions n))
paired_are_points n exponents word =
    every-flat_map (λ (j : List ℕ). Unit {0}) (λ (t : Paired (List ℕ)). Unit {0} × IsWord t.2) _
    (λ j l. every-map (λ (i : List ℕ). Unit {0}) (λ (t : Paired (List ℕ)). Unit {0} × IsWord t.2) _ (λ i m. (tt, word_composed i)) (refinements j) (every-any _ (λ i. tt) (refinements j)))
    (up_to compositions n) (every-any _ (λ j. tt) (up_to compositions n))

-- a place of a pairing of tuples is one of points
abbrev PairedOf : List Kind → List Kind → Paired (List (List ℕ)) → Type 0
PairedOf kinds kinds' t = ArePoints kinds t.1 × ArePoints kinds' t.2

pairings_of_points : (n : ℕ) (kinds kinds' : List Kind) → AllByRecursion (PairedOf kinds kinds') (paired_tuples n kinds kinds')
pairings_of_points n [] [] = ((tt, tt), tt)
pairings_of_points n [] (l ∷ ls) = tt
pairings_of_points n (k ∷ ks) [] = tt
pairings_of_points n (k ∷ ks) (l ∷ ls) =
    every-flat_map (λ (t : Paired (List ℕ)). IsPoint k t.1 × IsPoint l t.2) (PairedOf (k ∷ ks) (l ∷ ls)) _
    (λ t h. every-map (PairedOf ks ls) (PairedOf (k ∷ ks) (l ∷ ls)) _ (λ u m. ((h.0, m.0), (h.1, m.1))) (paired_tuples n ks ls) (pairings_of_points n ks ls))
    (paired_points n k l) (paired_are_points n k l)

pub at_points : PointsLaw
at_points = record { products = cuts_of_points; operations = operations_of_points; pairings = pairings_of_points }
