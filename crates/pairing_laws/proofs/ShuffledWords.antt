-- What the shuffles of two words have: their length, letters, and the order of each word's letters.
use Rattle.std.proofs.Common.{◌≡◌, ℕ, suc, ◌+◌, ◌≤◌, Bool, true, false, List, [], ◌∷◌, length, map, refl, sym, ◌∙◌, ap, arith}
use Rattle.std.specs.Prelude.{nat_lt, nat_eq, ◌||◌, if◌then◌else◌}
use Rattle.std.specs.List.{AllByRecursion}
use Rattle.std.proofs.lemmas.Bool.Decides.{nat_tests}
use borrow.Author.Tests.{eqb-true, eq-eqb}
use Rattle.realisations.specs.Lists.{is_among}
use Rattle.realisations.specs.Words.{shuffles}
use Rattle.realisations.specs.Standardisation.{count_same, place_of}
use Rattle.realisations.proofs.Every.{every-append, every-map}

-- what holds of a shuffle of a word with the empty word, and stays when the first letter of either word is put in front, holds of each shuffle
pub every_shuffle : (Q : List ℕ → List ℕ → List ℕ → Type 0)
    → ((v : List ℕ) → Q [] v v)
    → ((x : ℕ) (u : List ℕ) → Q (x ∷ u) [] (x ∷ u))
    → ((x : ℕ) (u : List ℕ) (y : ℕ) (v w : List ℕ) → Q u (y ∷ v) w → Q (x ∷ u) (y ∷ v) (x ∷ w))
    → ((x : ℕ) (u : List ℕ) (y : ℕ) (v w : List ℕ) → Q (x ∷ u) v w → Q (x ∷ u) (y ∷ v) (y ∷ w))
    → (u v : List ℕ) → AllByRecursion (Q u v) (shuffles u v)
every_shuffle Q left right first second [] v = (left v, tt)
every_shuffle Q left right first second (x ∷ u) [] = (right x u, tt)
every_shuffle Q left right first second (x ∷ u) (y ∷ v) =
    every-append (Q (x ∷ u) (y ∷ v)) (map (λ w. x ∷ w) (shuffles u (y ∷ v))) (map (λ w. y ∷ w) (shuffles (x ∷ u) v))
    (every-map (Q u (y ∷ v)) (Q (x ∷ u) (y ∷ v)) (λ w. x ∷ w) (λ w q. first x u y v w q) (shuffles u (y ∷ v)) (every_shuffle Q left right first second u (y ∷ v)))
    (every-map (Q (x ∷ u) v) (Q (x ∷ u) (y ∷ v)) (λ w. y ∷ w) (λ w q. second x u y v w q) (shuffles (x ∷ u) v) (every_shuffle Q left right first second (x ∷ u) v))

-- the letters of both words, each as often as in both
pub record IsOfLetters (u v w : List ℕ) : Type 0 where
  pub size : length w ≡ length u + length v
  pub counts : (k : ℕ) → count_same k w ≡ count_same k u + count_same k v

pub shuffles_of_letters : (u v : List ℕ) → AllByRecursion (IsOfLetters u v) (shuffles u v)
shuffles_of_letters u v =
    every_shuffle IsOfLetters
    (λ v. record { size = omega arith; counts = λ k. omega arith })
    (λ x u. record { size = omega arith; counts = λ k. omega arith })
    (λ x u y v w q. record { size = omega (arith, q.size); counts = λ k. omega (arith, q.counts k) })
    (λ x u y v w q. record { size = omega (arith, q.size); counts = λ k. omega (arith, q.counts k) })
    u v

-- a word's letters stand in another word in the same order
pub record KeepsOrder (u w : List ℕ) : Type 0 where
  pub found : (k : ℕ) → is_among k u ≡ true → 1 ≤ place_of k w
  pub order : (k l : ℕ) → is_among k u ≡ true → is_among l u ≡ true → nat_lt (place_of k w) (place_of l w) ≡ nat_lt (place_of k u) (place_of l u)

-- the words have no letter in common
abbrev pub Disjoint : List ℕ → List ℕ → Type 0
Disjoint u v = (k : ℕ) → is_among k u ≡ true → is_among k v ≡ false

pub place_first : (k x : ℕ) (w : List ℕ) → 1 ≤ place_of k (x ∷ w)
place_first k x w = by_test (nat_eq x k)
  where
    by_test : (b : Bool) → 1 ≤ (if b then 1 else suc (place_of k w))
    by_test true = omega arith
    by_test false = omega arith

place_positive : (k : ℕ) (w : List ℕ) → is_among k w ≡ true → 1 ≤ place_of k w
place_positive k [] h = absurd (cc)
place_positive k (x ∷ w) h = place_first k x w

or_second : (a b : Bool) → a ≡ false → (a || b) ≡ true → b ≡ true
or_second true b e h = absurd (cc)
or_second false b e h = h

one_lt : (a b : ℕ) → 1 ≤ a → 1 ≤ b → nat_lt 1 (suc a) ≡ nat_lt 1 (suc b)
one_lt a b h k = grind (arith, nat_tests)

lt_one : (a b : ℕ) → nat_lt (suc a) 1 ≡ nat_lt (suc b) 1
lt_one a b = grind (arith, nat_tests)

lt_suc : (a b : ℕ) → nat_lt (suc a) (suc b) ≡ nat_lt a b
lt_suc a b = grind (arith, nat_tests)

-- a letter put in front of both
keeps_both : (x : ℕ) (u w : List ℕ) → KeepsOrder u w → KeepsOrder (x ∷ u) (x ∷ w)
keeps_both x u w is = record {
  found = λ k h. place_first k x w;
  order = λ k l hk hl. by_tests k l (nat_eq x k) (nat_eq x l) refl refl hk hl;
}
  where
    by_tests : (k l : ℕ) (p q : Bool) → nat_eq x k ≡ p → nat_eq x l ≡ q → is_among k (x ∷ u) ≡ true → is_among l (x ∷ u) ≡ true
        → nat_lt (place_of k (x ∷ w)) (place_of l (x ∷ w)) ≡ nat_lt (place_of k (x ∷ u)) (place_of l (x ∷ u))
    by_tests k l true true e f hk hl = rw (e, f) refl
    by_tests k l true false e f hk hl =
        let here : is_among l u ≡ true = or_second (nat_eq x l) (is_among l u) f hl in
        rw (e, f) (one_lt (place_of l w) (place_of l u) (is.found l here) (place_positive l u here))
    by_tests k l false true e f hk hl = rw (e, f) (lt_one (place_of k w) (place_of k u))
    by_tests k l false false e f hk hl =
        rw (e, f) (lt_suc (place_of k w) (place_of l w)
        ∙ is.order k l (or_second (nat_eq x k) (is_among k u) e hk) (or_second (nat_eq x l) (is_among l u) f hl)
        ∙ sym (lt_suc (place_of k u) (place_of l u)))

-- another letter put in front of the longer one
keeps_one : (x : ℕ) (u w : List ℕ) → is_among x u ≡ false → KeepsOrder u w → KeepsOrder u (x ∷ w)
keeps_one x u w other is = record {
  found = λ k h. place_first k x w;
  order = λ k l hk hl.
      rw (differs k hk (nat_eq x k) refl, differs l hl (nat_eq x l) refl) (lt_suc (place_of k w) (place_of l w) ∙ is.order k l hk hl);
}
  where
    differs : (k : ℕ) → is_among k u ≡ true → (b : Bool) → nat_eq x k ≡ b → nat_eq x k ≡ false
    differs k h false e = e
    differs k h true e =
        let same : x ≡ k = eqb-true x k e in
        let no : is_among k u ≡ false = ap (λ y. is_among y u) (sym same) ∙ other in
        absurd (cc)

keeps_itself : (u : List ℕ) → KeepsOrder u u
keeps_itself u = record { found = λ k h. place_positive k u h; order = λ k l hk hl. refl }

keeps_none : (w : List ℕ) → KeepsOrder [] w
keeps_none w = record { found = λ k h. absurd (cc); order = λ k l hk hl. absurd (cc) }

-- the first letter of the second word is none of the first word
not_among : (u : List ℕ) (y : ℕ) (v : List ℕ) → Disjoint u (y ∷ v) → is_among y u ≡ false
not_among u y v apart = by_test (is_among y u) refl
  where
    by_test : (b : Bool) → is_among y u ≡ b → is_among y u ≡ false
    by_test false e = e
    by_test true e =
        let here : nat_eq y y ≡ true = eq-eqb y y refl in
        let yes : is_among y (y ∷ v) ≡ true = ap (λ b. b || is_among y v) here in
        let no : is_among y (y ∷ v) ≡ false = apart y e in
        absurd (cc)

among_longer : (x k : ℕ) (u : List ℕ) → is_among k u ≡ true → is_among k (x ∷ u) ≡ true
among_longer x k u h = by_test (nat_eq x k)
  where
    by_test : (b : Bool) → (b || is_among k u) ≡ true
    by_test true = refl
    by_test false = h

or_none : (a b : Bool) → (a || b) ≡ false → b ≡ false
or_none true b e = absurd (cc)
or_none false b e = e

or_none_first : (a b : Bool) → (a || b) ≡ false → a ≡ false
or_none_first true b e = absurd (cc)
or_none_first false b e = refl

-- each shuffle of words with no letter in common keeps the order of both
pub shuffles_keep_order : (u v : List ℕ) → AllByRecursion (λ w. Disjoint u v → KeepsOrder u w × KeepsOrder v w) (shuffles u v)
shuffles_keep_order u v =
    every_shuffle (λ u v w. Disjoint u v → KeepsOrder u w × KeepsOrder v w)
    (λ v apart. (keeps_none v, keeps_itself v))
    (λ x u apart. (keeps_itself (x ∷ u), keeps_none (x ∷ u)))
    (λ x u y v w q apart.
    let ih = q (λ k h. apart k (among_longer x k u h)) in
    let here : nat_eq x x ≡ true = eq-eqb x x refl in
    let other : is_among x (y ∷ v) ≡ false = apart x (ap (λ b. b || is_among x u) here) in
    (keeps_both x u w ih.0, keeps_one x (y ∷ v) w other ih.1))
    (λ x u y v w q apart.
    let ih = q (λ k h. or_none (nat_eq y k) (is_among k v) (apart k h)) in
    (keeps_one y (x ∷ u) w (not_among (x ∷ u) y v apart) ih.0, keeps_both y v w ih.1))
    u v
