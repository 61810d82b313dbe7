-- A Knuth move of a word of distinct letters is one of its standardisation. So P of the standardised letters of a permutation in an interval of values depends on its P alone (Knuth 1970).
use Rattle.std.proofs.Common.{◌≡◌, ℕ, zero, suc, ◌+◌, ◌-◌, ◌<◌, ◌≤◌, Bool, true, false, List, [], ◌∷◌, map, length, refl, sym, ◌∙◌, ap, arith}
use Rattle.std.specs.Prelude.{◌&&◌, if◌then◌else◌, nat_le, nat_lt}
use Rattle.std.proofs.lemmas.Bool.Decides.{nat_tests}
use Rattle.std.proofs.lemmas.List.{map-append}
use Rattle.realisations.specs.Lists.{one_if}
use Rattle.realisations.specs.Standardisation.{count_below, count_same, standardise, standardise_after}
use Rattle.realisations.specs.Tableaux.{insertion_tableau, reading_word}
use Rattle.realisations.proofs.RisingMaps.{Letters}
use Rattle.basis_representatives.proofs.Counts.{count_below-append, count_below-zero, count_same-append, counts_across, one_if-self}
use Rattle.basis_representatives.proofs.Letters.{map_same}
use Rattle.basis_representatives.proofs.Permutations.{HasEachOnce, count_below-permutation, count_same-permutation, each_once, letters-permutation, letters_that_occur, permutation-standardise}
use Rattle.basis_representatives.proofs.SameLists.{cons_same}
use Rattle.tableau_laws.specs.Intervals.{letters_between, tableau_between}
use Rattle.tableau_laws.specs.Knuth.{Move, still, xzy, zxy, yxz, yzx, Chain, done, step}
use Rattle.tableau_laws.specs.Laws.{RestrictionLaw}
use Rattle.tableau_laws.proofs.KnuthClasses.{chain_keeps, count_same-move}
use Rattle.tableau_laws.proofs.KnuthChains.{word_chain}
use Rattle.tableau_laws.proofs.KnuthIntervals.{IsInterval, chain-filter, distinct-filter, move-filter}
use Rattle.tableau_laws.proofs.KnuthMoves.{Distinct}

-- the rank of a letter of a word of distinct letters
abbrev rank_of : List ℕ → ℕ → ℕ
rank_of w x = suc (count_below x w)

-- behind some letters: each is 1 more than the number of smaller letters of both words, and none of it stands before
own_ranks : (f : ℕ → ℕ) (before w : List ℕ) → ((x : ℕ) → 1 ≤ count_same x w → suc (count_below x before + count_below x w) ≡ f x)
    → ((x : ℕ) → count_same x before + count_same x w ≤ 1) → standardise_after before w ≡ map f w
own_ranks f before [] h once = refl
own_ranks f before (x ∷ w) h once =
    let self = one_if-self x in
    let not_below : one_if (nat_lt x x) ≡ 0 = grind (arith, nat_tests) in
    let first : suc (count_below x before + count_same x before + count_below x w) ≡ f x = omega (arith, h x (omega (arith, self)), once x, self, not_below) in
    let rest : standardise_after (x ∷ before) w ≡ map f w =
    own_ranks f (x ∷ before) w (λ y occurs. omega (arith, h y (omega (arith, occurs)))) (λ y. omega (arith, once y)) in
    cons_same first rest

-- the standardisation of a word of distinct letters: each becomes its rank
standardise-distinct : (w : List ℕ) → Distinct w → standardise w ≡ map (λ x. rank_of w x) w
standardise-distinct w d = own_ranks (λ x. rank_of w x) [] w (λ x occurs. omega arith) (λ x. omega (arith, d x))

-- a move keeps how many letters are below a number
count_below-move : (k : ℕ) (v w : List ℕ) → Move v w → count_below k v ≡ count_below k w
count_below-move k v w (still u) = refl
count_below-move k v w (xzy p s x y z h l) = omega (arith, count_below-append k p (x ∷ z ∷ y ∷ s), count_below-append k p (z ∷ x ∷ y ∷ s))
count_below-move k v w (zxy p s x y z h l) = omega (arith, count_below-append k p (x ∷ z ∷ y ∷ s), count_below-append k p (z ∷ x ∷ y ∷ s))
count_below-move k v w (yxz p s x y z h l) = omega (arith, count_below-append k p (y ∷ x ∷ z ∷ s), count_below-append k p (y ∷ z ∷ x ∷ s))
count_below-move k v w (yzx p s x y z h l) = omega (arith, count_below-append k p (y ∷ x ∷ z ∷ s), count_below-append k p (y ∷ z ∷ x ∷ s))

-- a map that rises on the letters of a word brings a move of it to a move
module _ (f : ℕ → ℕ) (t : List ℕ) (up : (i j : ℕ) → 1 ≤ count_same i t → i < j → f i < f j) where
  -- goes to a move of its values
  move-map : (v w : List ℕ) → ((k : ℕ) → count_same k v ≤ count_same k t) → Move v w → Move (map f v) (map f w)
  move-map v w h (still u) = still (map f u)
  move-map v w h (xzy p s x y z a b) =
      rw (map-append f p (x ∷ z ∷ y ∷ s), map-append f p (z ∷ x ∷ y ∷ s))
      (xzy (map f p) (map f s) (f x) (f y) (f z) (up x y (omega (arith, h x, one_if-self x, count_same-append x p (x ∷ z ∷ y ∷ s))) a) (up y z (omega (arith, h y, one_if-self y, count_same-append y p (x ∷ z ∷ y ∷ s))) b))
  move-map v w h (zxy p s x y z a b) =
      rw (map-append f p (z ∷ x ∷ y ∷ s), map-append f p (x ∷ z ∷ y ∷ s))
      (zxy (map f p) (map f s) (f x) (f y) (f z) (up x y (omega (arith, h x, one_if-self x, count_same-append x p (z ∷ x ∷ y ∷ s))) a) (up y z (omega (arith, h y, one_if-self y, count_same-append y p (z ∷ x ∷ y ∷ s))) b))
  move-map v w h (yxz p s x y z a b) =
      rw (map-append f p (y ∷ x ∷ z ∷ s), map-append f p (y ∷ z ∷ x ∷ s))
      (yxz (map f p) (map f s) (f x) (f y) (f z) (up x y (omega (arith, h x, one_if-self x, count_same-append x p (y ∷ x ∷ z ∷ s))) a) (up y z (omega (arith, h y, one_if-self y, count_same-append y p (y ∷ x ∷ z ∷ s))) b))
  move-map v w h (yzx p s x y z a b) =
      rw (map-append f p (y ∷ z ∷ x ∷ s), map-append f p (y ∷ x ∷ z ∷ s))
      (yzx (map f p) (map f s) (f x) (f y) (f z) (up x y (omega (arith, h x, one_if-self x, count_same-append x p (y ∷ z ∷ x ∷ s))) a) (up y z (omega (arith, h y, one_if-self y, count_same-append y p (y ∷ z ∷ x ∷ s))) b))

-- ranks rise
ranks-rise : (w : List ℕ) (i j : ℕ) → 1 ≤ count_same i w → i < j → rank_of w i < rank_of w j
ranks-rise w i j occurs less = omega (arith, occurs, counts_across i j w less)

-- a letter has the same rank in words that a move joins
map_ranks : (v w u : List ℕ) → Move v w → map (λ x. rank_of v x) u ≡ map (λ x. rank_of w x) u
map_ranks v w [] m = refl
map_ranks v w (x ∷ u) m = cons_same (ap suc (count_below-move x v w m)) (map_ranks v w u m)

-- a move of distinct letters is one of the standardisations
move-standardise : (v w : List ℕ) → Distinct v → Move v w → Move (standardise v) (standardise w)
move-standardise v w d m =
    let d' : Distinct w = λ k. omega (arith, count_same-move k v w m, d k) in
    rw (standardise-distinct v d, standardise-distinct w d' ∙ sym (map_ranks v w w m))
    (move-map (λ x. rank_of v x) v (ranks-rise v) v w (λ k. omega arith) m)

-- so are chains
chain-standardise : (v w : List ℕ) → Distinct v → Chain v w → Chain (standardise v) (standardise w)
chain-standardise v w d (done u) = done (standardise u)
chain-standardise v w d (step a b c m h) =
    step (standardise a) (standardise b) (standardise c) (move-standardise a b d m) (chain-standardise b c (λ k. omega (arith, count_same-move k a b m, d k)) h)

-- letters between two numbers are an interval
between-interval : (from to : ℕ) → IsInterval (λ x. nat_le from x && nat_le x to)
between-interval from to x y z h k a c = grind (arith, nat_tests, h, k, a, c)

-- the letters of an interval of values, standardised: a move is one or nothing
move-between : (from to : ℕ) (v w : List ℕ) → Distinct v → Move v w → Move (standardise (letters_between from to v)) (standardise (letters_between from to w))
move-between from to v w d m =
    move-standardise (letters_between from to v) (letters_between from to w) (distinct-filter (λ x. nat_le from x && nat_le x to) v d)
    (move-filter (λ x. nat_le from x && nat_le x to) (between-interval from to) v w m)

-- and their tableau is that of those letters of the reading word of the whole tableau
tableau-between : (from to : ℕ) (w : List ℕ) → Distinct w → tableau_between from to w ≡ tableau_between from to (reading_word (insertion_tableau w))
tableau-between from to w d =
    let apart = distinct-filter (λ x. nat_le from x && nat_le x to) w d in
    chain_keeps (standardise (letters_between from to w)) (standardise (letters_between from to (reading_word (insertion_tableau w))))
    (count_same-permutation (standardise (letters_between from to w)) (permutation-standardise (letters_between from to w)))
    (chain-standardise (letters_between from to w) (letters_between from to (reading_word (insertion_tableau w))) apart
    (chain-filter (λ x. nat_le from x && nat_le x to) (between-interval from to) w (reading_word (insertion_tableau w)) (word_chain w d)))

-- how many letters of an interval are below one of them
below-between : (from to x : ℕ) (w : List ℕ) → from ≤ x → x ≤ to → count_below x (letters_between from to w) + count_below from w ≡ count_below x w
below-between from to x [] h k = omega arith
below-between from to x (y ∷ w) h k = by_test (nat_le from y && nat_le y to) refl (below-between from to x w h k)
  where
    within : (from y to x : ℕ) → from ≤ x → x ≤ to → nat_le from y && nat_le y to ≡ true → one_if (nat_lt y from) ≡ 0
    within from y to x h k e = grind (arith, nat_tests, h, k, e)

    outside : (from y to x : ℕ) → from ≤ x → x ≤ to → nat_le from y && nat_le y to ≡ false → one_if (nat_lt y from) ≡ one_if (nat_lt y x)
    outside from y to x h k e = grind (arith, nat_tests, h, k, e)

    by_test : (b : Bool) → nat_le from y && nat_le y to ≡ b → count_below x (letters_between from to w) + count_below from w ≡ count_below x w
        → count_below x (if b then y ∷ letters_between from to w else letters_between from to w) + count_below from (y ∷ w) ≡ count_below x (y ∷ w)
    by_test true e ih = omega (arith, ih, within from y to x h k e)
    by_test false e ih = omega (arith, ih, outside from y to x h k e)

-- what the letters of a word have, those of an interval have, and they are in it
letters-between : (from to : ℕ) (w : List ℕ) (P : ℕ → Type 0) → Letters P w → Letters (λ x. P x × (from ≤ x) × (x ≤ to)) (letters_between from to w)
letters-between from to [] P h = tt
letters-between from to (y ∷ w) P h = by_test (nat_le from y && nat_le y to) refl (letters-between from to w P h.1)
  where
    low : (from y to : ℕ) → nat_le from y && nat_le y to ≡ true → from ≤ y
    low from y to e = grind (arith, nat_tests, e)

    high : (from y to : ℕ) → nat_le from y && nat_le y to ≡ true → y ≤ to
    high from y to e = grind (arith, nat_tests, e)

    by_test : (b : Bool) → nat_le from y && nat_le y to ≡ b → Letters (λ x. P x × (from ≤ x) × (x ≤ to)) (letters_between from to w)
        → Letters (λ x. P x × (from ≤ x) × (x ≤ to)) (if b then y ∷ letters_between from to w else letters_between from to w)
    by_test true e ih = ((h.0, low from y to e, high from y to e), ih)
    by_test false e ih = ih

-- the letters of a permutation from a to b are standardised where each is lowered by a - 1
pub standardise-between : (from to : ℕ) (s : List ℕ) → HasEachOnce s → standardise (letters_between from to s) ≡ map (λ x. x - (from - 1)) (letters_between from to s)
standardise-between from to s h =
    standardise-distinct (letters_between from to s) (distinct-filter (λ x. nat_le from x && nat_le x to) s (count_same-permutation s h))
    ∙ map_same (λ x. rank_of (letters_between from to s) x) (λ x. x - (from - 1)) (λ x. ((1 ≤ x) × (x ≤ length s)) × (from ≤ x) × (x ≤ to)) rank (letters_between from to s)
    (letters-between from to s (λ x. (1 ≤ x) × (x ≤ length s)) (letters_that_occur (λ x. (1 ≤ x) × (x ≤ length s)) s (letters-permutation s h)))
  where
    below : (x : ℕ) → x ≤ suc (length s) → count_below x s ≡ x - 1
    below zero le = omega (arith, count_below-zero s)
    below (suc x) le = omega (arith, count_below-permutation s h x (omega (arith, le)))

    rank : (x : ℕ) → ((1 ≤ x) × (x ≤ length s)) × (from ≤ x) × (x ≤ to) → suc (count_below x (letters_between from to s)) ≡ x - (from - 1)
    rank x k = omega (arith, below-between from to x s k.1 k.2, below x (omega (arith, k.0.1)), below from (omega (arith, k.0.1, k.1)), k.0.0, k.1)

-- the law, from its parts
pub restriction : RestrictionLaw
restriction = record {
  move_restricts = λ from to s s' h m. move-between from to s s' (count_same-permutation s (each_once s h)) m;
  tableau_restricts = λ from to rows s h e.
      tableau-between from to s (count_same-permutation s (each_once s h))
      ∙ ap (λ t. tableau_between from to (reading_word t)) e;
}
