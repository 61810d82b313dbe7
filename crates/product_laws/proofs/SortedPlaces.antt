-- The inverse of the standardisation of a word has the places of the word, sorted by their letters; so it holds those of its fronts and backs.
use Rattle.std.proofs.Common.{◌≡◌, ℕ, zero, suc, ◌+◌, ◌-◌, ◌<◌, ◌≤◌, Bool, true, false, List, [], ◌∷◌, length, get_or, take, drop, refl, sym, ◌∙◌, ap, subst, arith, inl, inr}
use Rattle.std.specs.Prelude.{min, nat_eq, nat_lt, nat_le, not, ◌&&◌, ◌||◌, if◌then◌else◌}
use Rattle.std.proofs.lemmas.Bool.{cases_lt, and_parts}
use Rattle.std.proofs.lemmas.Bool.Decides.{nat_tests}
use Rattle.std.proofs.lemmas.List.{length-take, length-drop, get_or-take, get_or-drop}
use Rattle.realisations.specs.Lists.{is_among}
use Rattle.realisations.specs.Words.{raise}
use Rattle.realisations.specs.Standardisation.{count_same, standardise, inverse, place_of}
use Rattle.realisations.proofs.RisingMaps.{Letters}
use Rattle.basis_representatives.proofs.Counts.{among_some}
use Rattle.basis_representatives.proofs.Inverses.{StandsAt, stands_at, length-inverse, permutation-inverse}
use Rattle.basis_representatives.proofs.Permutations.{HasEachOnce, letters-permutation, letters_that_occur, permutation-standardise}
use Rattle.basis_representatives.proofs.SameOrder.{SameBelow, SameOrder, length-standardise, standardise_order}
use Rattle.coproduct_laws.specs.ValueCuts.{letters_up_to, letters_past}
use Rattle.coproduct_laws.proofs.CutLetters.{counted}
use Rattle.product_laws.proofs.SortedLists.{IsSorted, before, before_is_asymmetric, letter, sorted_unique, sorted-filter, among-filter, sorted_alike, sorted-map, sorted-map-range}
use Rattle.product_laws.proofs.Tests.{same_tests}

-- a number from 1 to n
abbrev pub IsUpTo : ℕ → ℕ → Type 0
IsUpTo n x = (1 ≤ x) × (x ≤ n)

-- the letters of a permutation are the numbers from 1 to its length
pub among_permutation : (s : List ℕ) → HasEachOnce s → (x : ℕ) → is_among x s ≡ (nat_le 1 x && nat_le x (length s))
among_permutation s h x =
    same_tests (is_among x s) (nat_le 1 x && nat_le x (length s))
    (λ m. let b = letters-permutation s h x (counted x s m) in within x (length s) b.0 b.1)
    (λ e. let parts = and_parts (nat_le 1 x) (nat_le x (length s)) e in
    among_some x s (omega (arith, h.once x (grind (arith, nat_tests, parts.0)) (grind (arith, nat_tests, parts.1)))))
  where
    within : (x n : ℕ) → 1 ≤ x → x ≤ n → (nat_le 1 x && nat_le x n) ≡ true
    within x n low high = grind (arith, nat_tests)

letter-place_of : (x : ℕ) (s : List ℕ) → 1 ≤ count_same x s → letter s (place_of x s) ≡ x
letter-place_of x s some =
    let found : StandsAt x s = stands_at x s some in
    let at : place_of x s - 1 ≡ found.at = omega (arith, found.place) in
    ap (λ k. get_or s k 0) at ∙ found.letter

-- the inverse of a permutation has its places, sorted by their letters
sorted-inverse : (s : List ℕ) → HasEachOnce s → IsSorted (before s) (inverse s)
sorted-inverse s h =
    sorted-map-range (before s) (λ i. place_of i s) 1 (length s)
    (λ i j low less high.
    risen (place_of i s) (place_of j s) (letter s (place_of i s)) (letter s (place_of j s))
    (omega (arith, less, letter-place_of i s (omega (arith, h.once i low (omega (arith, less, high)))), letter-place_of j s (omega (arith, h.once j (omega (arith, low, less)) (omega (arith, high)))))))
  where
    risen : (p q x y : ℕ) → x < y → (if nat_lt p q then not (nat_lt y x) else nat_lt x y) ≡ true
    risen p q x y less = by_test (nat_lt p q)
      where
        by_test : (b : Bool) → (if b then not (nat_lt y x) else nat_lt x y) ≡ true
        by_test true = grind (arith, nat_tests, less)
        by_test false = grind (arith, nat_tests, less)

-- words that compare alike sort their places alike

below_at : (x : ℕ) (u : List ℕ) (y : ℕ) (v : List ℕ) (j : ℕ) → SameBelow x u y v → j < length u → nat_lt (get_or u j 0) x ≡ nat_lt (get_or v j 0) y
below_at x [] y v j h lt = absurd (omega (arith, lt))
below_at x (a ∷ u) y [] j h lt = absurd h
below_at x (a ∷ u) y (b ∷ v) zero h lt = h.0
below_at x (a ∷ u) y (b ∷ v) (suc j) h lt = below_at x u y v j h.1 (omega (arith, lt))

order_at : (u v : List ℕ) (i j : ℕ) → SameOrder u v → i < j → j < length u → nat_lt (get_or u j 0) (get_or u i 0) ≡ nat_lt (get_or v j 0) (get_or v i 0)
order_at [] v i j h less lt = absurd (omega (arith, lt))
order_at (x ∷ u) [] i j h less lt = absurd h
order_at (x ∷ u) (y ∷ v) i zero h less lt = absurd (omega (arith, less))
order_at (x ∷ u) (y ∷ v) zero (suc j) h less lt = below_at x u y v j h.0 (omega (arith, lt))
order_at (x ∷ u) (y ∷ v) (suc i) (suc j) h less lt = order_at u v i j h.1 (omega (arith, less)) (omega (arith, lt))

before_same : (u v : List ℕ) → SameOrder u v → (p q : ℕ) → IsUpTo (length u) p → IsUpTo (length u) q → before u p q ≡ before v p q
before_same u v h p q hp hq = by_places (nat_lt p q) refl
  where
    never : (x : ℕ) → nat_lt x x ≡ false
    never x = grind (arith, nat_tests)

    by_places : (b : Bool) → nat_lt p q ≡ b
        → (if b then not (nat_lt (letter u q) (letter u p)) else nat_lt (letter u p) (letter u q)) ≡ (if b then not (nat_lt (letter v q) (letter v p)) else nat_lt (letter v p) (letter v q))
    by_places true e =
        let earlier : p < q = grind (arith, nat_tests, e) in
        ap not (order_at u v (p - 1) (q - 1) h (omega (arith, hp.0, earlier)) (omega (arith, hq.0, hq.1)))
    by_places false e = elim (cases_lt q p) [
      | inl later ↦ order_at u v (q - 1) (p - 1) h (omega (arith, hq.0, later)) (omega (arith, hp.0, hp.1))
      | inr not_later ↦
          let apart : q ≤ p = grind (arith, nat_tests, e) in
          let same : q ≡ p = omega (arith, apart, not_later) in
          (λ i. nat_lt (letter u p) (letter u (same i))) ∙ never (letter u p) ∙ sym (never (letter v p)) ∙ (λ i. nat_lt (letter v p) (letter v (sym same i)))
    ]

-- the places of a word, sorted by their letters
abbrev pub sorted_places : List ℕ → List ℕ
sorted_places w = inverse (standardise w)

-- they are a permutation
pub permutation-sorted_places : (w : List ℕ) → HasEachOnce (sorted_places w)
permutation-sorted_places w = permutation-inverse (standardise w) (permutation-standardise w)

-- there is one for each letter
pub length-sorted_places : (w : List ℕ) → length (sorted_places w) ≡ length w
length-sorted_places w = length-inverse (standardise w) ∙ length-standardise w

among-sorted_places : (w : List ℕ) (x : ℕ) → is_among x (sorted_places w) ≡ (nat_le 1 x && nat_le x (length w))
among-sorted_places w x = among_permutation (sorted_places w) (permutation-sorted_places w) x ∙ ap (λ n. nat_le 1 x && nat_le x n) (length-sorted_places w)

range-sorted_places : (w : List ℕ) → Letters (IsUpTo (length w)) (sorted_places w)
range-sorted_places w =
    subst (λ n. Letters (IsUpTo n) (sorted_places w)) (length-sorted_places w)
    (letters_that_occur (IsUpTo (length (sorted_places w))) (sorted_places w) (letters-permutation (sorted_places w) (permutation-sorted_places w)))

-- they are sorted by their letters
sorted-sorted_places : (w : List ℕ) → IsSorted (before w) (sorted_places w)
sorted-sorted_places w =
    sorted_alike (IsUpTo (length w)) (before (standardise w)) (before w)
    (λ p q hp hq. sym (before_same w (standardise w) (standardise_order w) p q hp hq))
    (sorted_places w) (range-sorted_places w) (sorted-inverse (standardise w) (permutation-standardise w))

-- the places up to m, in the order in which they stand, are those of the first m letters

letter-take : (m : ℕ) (w : List ℕ) (p : ℕ) → IsUpTo (length (take m w)) p → letter (take m w) p ≡ letter w p
letter-take m w p h = get_or-take m w (p - 1) 0 (omega (arith, h.0, h.1, length-take m w))

before-take : (m : ℕ) (w : List ℕ) (p q : ℕ) → IsUpTo (length (take m w)) p → IsUpTo (length (take m w)) q → before (take m w) p q ≡ before w p q
before-take m w p q hp hq =
    λ i. if nat_lt p q then not (nat_lt (letter-take m w q hq i) (letter-take m w p hp i)) else nat_lt (letter-take m w p hp i) (letter-take m w q hq i)

front_members : (m n x : ℕ) → ((nat_le 1 x && nat_le x n) && nat_le x m) ≡ (nat_le 1 x && nat_le x (min m n))
front_members m n x = grind (arith, nat_tests)

-- the sorted places up to m are the sorted places of the first m letters
pub front_places : (m : ℕ) (w : List ℕ) → letters_up_to m (sorted_places w) ≡ sorted_places (take m w)
front_places m w =
    sorted_unique (before w) (before_is_asymmetric w) (letters_up_to m (sorted_places w)) (sorted_places (take m w))
    (sorted-filter (before w) (λ x. nat_le x m) (sorted_places w) (sorted-sorted_places w))
    (sorted_alike (IsUpTo (length (take m w))) (before (take m w)) (before w) (before-take m w) (sorted_places (take m w)) (range-sorted_places (take m w)) (sorted-sorted_places (take m w)))
    (λ x.
    among-filter (λ x. nat_le x m) x (sorted_places w)
    ∙ ap (λ b. b && nat_le x m) (among-sorted_places w x)
    ∙ front_members m (length w) x
    ∙ ap (λ n. nat_le 1 x && nat_le x n) (sym (length-take m w))
    ∙ sym (among-sorted_places (take m w) x))

-- the places past m, less m, are those of the letters after the first m

letter-drop : (m : ℕ) (w : List ℕ) (p : ℕ) → 1 ≤ p → letter (drop m w) p ≡ letter w (m + p)
letter-drop m w p h =
    let at : m + (p - 1) ≡ (m + p) - 1 = omega (arith, h) in
    get_or-drop m w (p - 1) 0 ∙ ap (λ n. get_or w n 0) at

lt-raised : (m p q : ℕ) → nat_lt p q ≡ nat_lt (m + p) (m + q)
lt-raised m p q = grind (arith, nat_tests)

before-drop : (m : ℕ) (w : List ℕ) (p q : ℕ) → IsUpTo (length (drop m w)) p → IsUpTo (length (drop m w)) q → before (drop m w) p q ≡ before w (m + p) (m + q)
before-drop m w p q hp hq =
    λ i. if lt-raised m p q i then not (nat_lt (letter-drop m w q hq.0 i) (letter-drop m w p hp.0 i)) else nat_lt (letter-drop m w p hp.0 i) (letter-drop m w q hq.0 i)

-- the letters of a raised word
among-raise : (m x : ℕ) (w : List ℕ) → is_among x (raise m w) ≡ (nat_le m x && is_among (x - m) w)
among-raise m x [] = none (nat_le m x)
  where
    none : (b : Bool) → false ≡ (b && false)
    none true = refl
    none false = refl
among-raise m x (y ∷ w) = ap (λ b. nat_eq (m + y) x || b) (among-raise m x w) ∙ first (nat_le m x) refl (is_among (x - m) w)
  where
    moved : nat_le m x ≡ true → nat_eq (m + y) x ≡ nat_eq y (x - m)
    moved e = grind (arith, nat_tests, e)

    apart : nat_le m x ≡ false → nat_eq (m + y) x ≡ false
    apart e = grind (arith, nat_tests, e)

    first : (b : Bool) → nat_le m x ≡ b → (c : Bool) → (nat_eq (m + y) x || (b && c)) ≡ (b && (nat_eq y (x - m) || c))
    first true e c = ap (λ b. b || c) (moved e)
    first false e c = ap (λ b. b || false) (apart e)

back_members : (m n x : ℕ) → ((nat_le 1 x && nat_le x n) && nat_lt m x) ≡ (nat_le m x && (nat_le 1 (x - m) && nat_le (x - m) (n - m)))
back_members m n x = grind (arith, nat_tests)

-- the sorted places past m are those of the other letters, raised by m
pub back_places : (m : ℕ) (w : List ℕ) → letters_past m (sorted_places w) ≡ raise m (sorted_places (drop m w))
back_places m w =
    sorted_unique (before w) (before_is_asymmetric w) (letters_past m (sorted_places w)) (raise m (sorted_places (drop m w)))
    (sorted-filter (before w) (λ x. nat_lt m x) (sorted_places w) (sorted-sorted_places w))
    (sorted-map (before w) (λ x. m + x) (sorted_places (drop m w))
    (sorted_alike (IsUpTo (length (drop m w))) (before (drop m w)) (λ p q. before w (m + p) (m + q)) (before-drop m w) (sorted_places (drop m w)) (range-sorted_places (drop m w)) (sorted-sorted_places (drop m w))))
    (λ x.
    among-filter (λ x. nat_lt m x) x (sorted_places w)
    ∙ ap (λ b. b && nat_lt m x) (among-sorted_places w x)
    ∙ back_members m (length w) x
    ∙ ap (λ n. nat_le m x && (nat_le 1 (x - m) && nat_le (x - m) n)) (sym (length-drop m w))
    ∙ ap (λ b. nat_le m x && b) (sym (among-sorted_places (drop m w) (x - m)))
    ∙ sym (among-raise m x (sorted_places (drop m w))))
