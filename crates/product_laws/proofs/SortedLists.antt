-- The places of a word sorted by their letters, equal letters from left to right.
use Rattle.std.proofs.Common.{◌≡◌, ℕ, zero, suc, ◌+◌, ◌-◌, ◌<◌, ◌≤◌, Bool, true, false, List, [], ◌∷◌, map, get_or, refl, sym, ◌∙◌, ap, subst, arith}
use Rattle.std.specs.Prelude.{nat_eq, nat_lt, not, ◌&&◌, ◌||◌, if◌then◌else◌}
use Rattle.std.specs.List.{filter, range_with_len}
use Rattle.std.proofs.lemmas.Bool.{eqb-true, eq-eqb, both_ways, or_left}
use Rattle.std.proofs.lemmas.Bool.Decides.{nat_tests}
use Rattle.realisations.specs.Lists.{is_among}
use Rattle.realisations.proofs.RisingMaps.{Letters}
use Rattle.coproduct_laws.proofs.LowAndHigh.{letters_of_filter}
use Rattle.product_laws.proofs.Tests.{or_rest}

-- the letter at a place
abbrev pub letter : List ℕ → ℕ → ℕ
letter w p = get_or w (p - 1) 0

-- what each letter of a word has
pub letter_of : (P : ℕ → Type 0) (w : List ℕ) → Letters P w → (x : ℕ) → is_among x w ≡ true → P x
letter_of P [] h x m = absurd (cc)
letter_of P (y ∷ w) h x m = by_first (nat_eq y x) refl (λ k. letter_of P w h.1 x k)
  where
    by_first : (b : Bool) → nat_eq y x ≡ b → (is_among x w ≡ true → P x) → P x
    by_first true f ih = subst P (eqb-true y x f) h.0
    by_first false f ih = ih (or_rest (nat_eq y x) (is_among x w) f m)

-- each number stands before each later one in the order of the test
abbrev pub IsSorted : (ℕ → ℕ → Bool) → List ℕ → Type 0
IsSorted test [] = Unit {0}
IsSorted test (a ∷ w) = Letters (λ b. test a b ≡ true) w × IsSorted test w

-- an order in which no two numbers stand before each other
abbrev pub IsAsymmetric : (ℕ → ℕ → Bool) → Type 0
IsAsymmetric test = (a b : ℕ) → test a b ≡ true → test b a ≡ true → ⊥

absent_from_later : (test : ℕ → ℕ → Bool) → IsAsymmetric test → (a : ℕ) (w : List ℕ) → Letters (λ b. test a b ≡ true) w → is_among a w ≡ false
absent_from_later test asymmetric a w h = by_test (is_among a w) refl
  where
    by_test : (b : Bool) → is_among a w ≡ b → b ≡ false
    by_test false e = refl
    by_test true e = let self = letter_of (λ b. test a b ≡ true) w h a e in absurd (asymmetric a a self self)

first_among : (a : ℕ) (w : List ℕ) → is_among a (a ∷ w) ≡ true
first_among a w = or_left (nat_eq a a) (is_among a w) (eq-eqb a a refl)

-- sorted lists of the same numbers are equal
pub sorted_unique : (test : ℕ → ℕ → Bool) → IsAsymmetric test → (v w : List ℕ) → IsSorted test v → IsSorted test w
    → ((x : ℕ) → is_among x v ≡ is_among x w) → v ≡ w
sorted_unique test asymmetric [] [] hv hw same = refl
sorted_unique test asymmetric [] (b ∷ w) hv hw same = absurd (both_ways (is_among b (b ∷ w)) (sym (same b)) (first_among b w))
sorted_unique test asymmetric (a ∷ v) [] hv hw same = absurd (both_ways (is_among a (a ∷ v)) (same a) (first_among a v))
sorted_unique test asymmetric (a ∷ v) (b ∷ w) hv hw same =
    let head : a ≡ b = first (nat_eq b a) refl in
    let tails : v ≡ w = sorted_unique test asymmetric v w hv.1 hw.1 (λ x. tail head x (nat_eq a x) refl) in
    λ i. head i ∷ tails i
  where
    rest : (c d : Bool) → c ≡ false → c || d ≡ true → d ≡ true
    rest true d f h = absurd (cc)
    rest false d f h = h

    flipped : (c : Bool) → nat_eq b a ≡ c → nat_eq a b ≡ c
    flipped true e = eq-eqb a b (sym (eqb-true b a e))
    flipped false e = grind (arith, nat_tests, e)

    first : (c : Bool) → nat_eq b a ≡ c → a ≡ b
    first true e = sym (eqb-true b a e)
    first false e =
        let a_later : is_among a w ≡ true = rest (nat_eq b a) (is_among a w) e (sym (same a) ∙ first_among a v) in
        let b_later : is_among b v ≡ true = rest (nat_eq a b) (is_among b v) (flipped false e) (same b ∙ first_among b w) in
        absurd (asymmetric a b (letter_of (λ c. test a c ≡ true) v hv.0 b b_later) (letter_of (λ c. test b c ≡ true) w hw.0 a a_later))

    tail : a ≡ b → (x : ℕ) (c : Bool) → nat_eq a x ≡ c → is_among x v ≡ is_among x w
    tail head x true e =
        let at : a ≡ x = eqb-true a x e in
        ap (λ y. is_among y v) (sym at) ∙ absent_from_later test asymmetric a v hv.0
        ∙ sym (ap (λ y. is_among y w) (sym at ∙ head) ∙ absent_from_later test asymmetric b w hw.0)
    tail head x false e =
        sym (ap (λ c. c || is_among x v) e) ∙ same x ∙ ap (λ c. c || is_among x w) (ap (λ y. nat_eq y x) (sym head) ∙ e)

-- a part of a sorted list is sorted

-- what is left of a sorted list is sorted
pub sorted-filter : (order : ℕ → ℕ → Bool) (test : ℕ → Bool) (w : List ℕ) → IsSorted order w → IsSorted order (filter test w)
sorted-filter order test [] h = tt
sorted-filter order test (x ∷ w) h = by_test (test x) (sorted-filter order test w h.1)
  where
    by_test : (b : Bool) → IsSorted order (filter test w) → IsSorted order (if b then x ∷ filter test w else filter test w)
    by_test true ih = (letters_of_filter (λ b. order x b ≡ true) test w h.0, ih)
    by_test false ih = ih

-- the numbers that pass a test
pub among-filter : (test : ℕ → Bool) (x : ℕ) (w : List ℕ) → is_among x (filter test w) ≡ (is_among x w && test x)
among-filter test x [] = refl
among-filter test x (y ∷ w) = by_test (test y) refl (nat_eq y x) refl (among-filter test x w)
  where
    kept : (c d t : Bool) → (c ≡ true → t ≡ true) → (c || (d && t)) ≡ ((c || d) && t)
    kept true d true h = refl
    kept true d false h = absurd (both_ways false refl (h refl))
    kept false d t h = refl

    left_out : (c d t : Bool) → (c ≡ true → t ≡ false) → (d && t) ≡ ((c || d) && t)
    left_out true true true h = absurd (both_ways true (h refl) refl)
    left_out true true false h = refl
    left_out true false true h = absurd (both_ways true (h refl) refl)
    left_out true false false h = refl
    left_out false d t h = refl

    same_test : (b : Bool) → test y ≡ b → nat_eq y x ≡ true → test x ≡ b
    same_test b e same = ap test (sym (eqb-true y x same)) ∙ e

    by_test : (b : Bool) → test y ≡ b → (c : Bool) → nat_eq y x ≡ c → is_among x (filter test w) ≡ (is_among x w && test x)
        → is_among x (if b then y ∷ filter test w else filter test w) ≡ (is_among x (y ∷ w) && test x)
    by_test true e c f ih = ap (λ d. nat_eq y x || d) ih ∙ kept (nat_eq y x) (is_among x w) (test x) (λ same. same_test true e same)
    by_test false e c f ih = ih ∙ left_out (nat_eq y x) (is_among x w) (test x) (λ same. same_test false e same)

-- a list sorted in one order is sorted in another that agrees with it on its numbers
pub sorted_alike : (P : ℕ → Type 0) (order other : ℕ → ℕ → Bool) → ((a b : ℕ) → P a → P b → order a b ≡ other a b)
    → (w : List ℕ) → Letters P w → IsSorted order w → IsSorted other w
sorted_alike P order other same [] l h = tt
sorted_alike P order other same (a ∷ w) l h = (alike w l.1 h.0, sorted_alike P order other same w l.1 h.1)
  where
    alike : (v : List ℕ) → Letters P v → Letters (λ b. order a b ≡ true) v → Letters (λ b. other a b ≡ true) v
    alike [] l h = tt
    alike (b ∷ v) l' h = (sym (same a b l.0 l'.0) ∙ h.0, alike v l'.1 h.1)

-- an image is sorted where the order of the images is
pub sorted-map : (order : ℕ → ℕ → Bool) (f : ℕ → ℕ) (w : List ℕ) → IsSorted (λ a b. order (f a) (f b)) w → IsSorted order (map f w)
sorted-map order f [] h = tt
sorted-map order f (a ∷ w) h = (images w h.0, sorted-map order f w h.1)
  where
    images : (v : List ℕ) → Letters (λ b. order (f a) (f b) ≡ true) v → Letters (λ b. order (f a) b ≡ true) (map f v)
    images [] h = tt
    images (b ∷ v) h = (h.0, images v h.1)

-- the images of a range are sorted where they rise
pub sorted-map-range : (order : ℕ → ℕ → Bool) (f : ℕ → ℕ) (a n : ℕ) → ((i j : ℕ) → a ≤ i → i < j → j < a + n → order (f i) (f j) ≡ true)
    → IsSorted order (map f (range_with_len a n))
sorted-map-range order f a zero h = tt
sorted-map-range order f a (suc n) h = (
  later (a + 1) n (λ j low high. h a j (omega arith) (omega (arith, low)) (omega (arith, high))),
  sorted-map-range order f (a + 1) n (λ i j low less high. h i j (omega (arith, low)) less (omega (arith, high))),
)
  where
    later : (c k : ℕ) → ((j : ℕ) → c ≤ j → j < c + k → order (f a) (f j) ≡ true) → Letters (λ b. order (f a) b ≡ true) (map f (range_with_len c k))
    later c zero h = tt
    later c (suc k) h = (h c (omega arith) (omega arith), later (c + 1) k (λ j low high. h j (omega (arith, low)) (omega (arith, high))))

-- the order of the places of a word by their letters, equal ones from left to right
abbrev pub before : List ℕ → ℕ → ℕ → Bool
before w p q = if nat_lt p q then not (nat_lt (letter w q) (letter w p)) else nat_lt (letter w p) (letter w q)

-- no two places stand before each other
pub before_is_asymmetric : (w : List ℕ) → IsAsymmetric (before w)
before_is_asymmetric w p q there back = at (letter w p) (letter w q) there back
  where
    at : (x y : ℕ) → (if nat_lt p q then not (nat_lt y x) else nat_lt x y) ≡ true → (if nat_lt q p then not (nat_lt x y) else nat_lt y x) ≡ true → ⊥
    at x y e f = by_tests (nat_lt p q) refl (nat_lt q p) refl (nat_lt x y) refl (nat_lt y x) refl e f
      where
        by_tests : (a : Bool) → nat_lt p q ≡ a → (b : Bool) → nat_lt q p ≡ b → (c : Bool) → nat_lt x y ≡ c → (d : Bool) → nat_lt y x ≡ d
            → (if a then not d else c) ≡ true → (if b then not c else d) ≡ true → ⊥
        by_tests true g true h c i d j e f = grind (arith, nat_tests, g, h)
        by_tests true g false h c i true j e f = both_ways false refl e
        by_tests true g false h c i false j e f = both_ways false refl f
        by_tests false g true h true i d j e f = both_ways false refl f
        by_tests false g true h false i d j e f = both_ways false refl e
        by_tests false g false h true i true j e f = grind (arith, nat_tests, i, j)
        by_tests false g false h true i false j e f = both_ways false refl f
        by_tests false g false h false i d j e f = both_ways false refl e
