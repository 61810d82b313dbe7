-- Where a word of low letters before high letters rises.
use Rattle.std.proofs.Common.{◌≡◌, ℕ, zero, suc, ◌+◌, ◌-◌, ◌<◌, Bool, true, false, List, [], ◌∷◌, ◌++◌, length, refl, sym, ◌∙◌, ap, arith}
use Rattle.std.specs.Prelude.{nat_eq, nat_lt, if◌then◌else◌}
use Rattle.std.proofs.lemmas.Bool.Decides.{nat_tests}
use Rattle.realisations.specs.Lists.{is_among}
use Rattle.realisations.specs.Descents.{places_where, ascents}
use Rattle.coproduct_laws.proofs.LowAndHigh.{AreLow, AreHigh}

-- whether the letter after d letters is smaller than the next one
pub rises_after : ℕ → List ℕ → Bool
rises_after d [] = false
rises_after d (x ∷ []) = false
rises_after zero (x ∷ y ∷ w) = nat_lt x y
rises_after (suc d) (x ∷ y ∷ w) = rises_after d (y ∷ w)

-- no place is before the first
pub past_places : (test : ℕ → ℕ → Bool) (k e : ℕ) (w : List ℕ) → e < k → is_among e (places_where test k w) ≡ false
past_places test k e [] h = refl
past_places test k e (x ∷ []) h = refl
past_places test k e (x ∷ y ∷ w) h = by_test (test x y) (past_places test (suc k) e (y ∷ w) (omega arith))
  where
    by_test : (b : Bool) → is_among e (places_where test (suc k) (y ∷ w)) ≡ false
        → is_among e (if b then k ∷ places_where test (suc k) (y ∷ w) else places_where test (suc k) (y ∷ w)) ≡ false
    by_test true ih = let d : nat_eq k e ≡ false = grind (arith, nat_tests) in rw (d, ih) refl
    by_test false ih = ih

-- the places of ascents are those after which the word rises
among_places : (k d : ℕ) (w : List ℕ) → is_among (k + d) (places_where (λ x y. nat_lt x y) k w) ≡ rises_after d w
unfolding rises_after
among_places k d [] = refl
among_places k d (x ∷ []) = refl
among_places k zero (x ∷ y ∷ w) = by_test (nat_lt x y) (past_places (λ x y. nat_lt x y) (suc k) (k + 0) (y ∷ w) (omega arith))
  where
    by_test : (b : Bool) → is_among (k + 0) (places_where (λ x y. nat_lt x y) (suc k) (y ∷ w)) ≡ false
        → is_among (k + 0) (if b then k ∷ places_where (λ x y. nat_lt x y) (suc k) (y ∷ w) else places_where (λ x y. nat_lt x y) (suc k) (y ∷ w)) ≡ b
    by_test true none = let d : nat_eq k (k + 0) ≡ true = grind (arith, nat_tests) in rw d refl
    by_test false none = none
among_places k (suc d) (x ∷ y ∷ w) = by_test (nat_lt x y) (among_places (suc k) d (y ∷ w))
  where
    by_test : (b : Bool) → is_among (suc k + d) (places_where (λ x y. nat_lt x y) (suc k) (y ∷ w)) ≡ rises_after d (y ∷ w)
        → is_among (k + suc d) (if b then k ∷ places_where (λ x y. nat_lt x y) (suc k) (y ∷ w) else places_where (λ x y. nat_lt x y) (suc k) (y ∷ w)) ≡ rises_after d (y ∷ w)
    by_test true ih =
        let apart : nat_eq k (k + suc d) ≡ false = grind (arith, nat_tests) in
        let same : k + suc d ≡ suc k + d = omega arith in
        rw apart (ap (λ n. is_among n (places_where (λ x y. nat_lt x y) (suc k) (y ∷ w))) same ∙ ih)
    by_test false ih =
        let same : k + suc d ≡ suc k + d = omega arith in
        ap (λ n. is_among n (places_where (λ x y. nat_lt x y) (suc k) (y ∷ w))) same ∙ ih

-- an ascent, by the letters before it
pub among_ascents : (e d : ℕ) (w : List ℕ) → e ≡ suc d → is_among e (ascents w) ≡ rises_after d w
among_ascents e d w same =
    let one : e ≡ 1 + d = omega (arith, same) in
    ap (λ n. is_among n (ascents w)) one ∙ among_places 1 d w

-- within the first word, between the words, and within the second
rises_within : (d : ℕ) (a b : List ℕ) → suc d < length a → rises_after d (a ++ b) ≡ rises_after d a
unfolding rises_after
rises_within d [] b h = absurd (omega arith)
rises_within d (x ∷ []) b h = absurd (omega arith)
rises_within zero (x ∷ y ∷ a) b h = refl
rises_within (suc d) (x ∷ y ∷ a) b h = rises_within d (y ∷ a) b (omega arith)

-- between the words
rises_between : (g d : ℕ) (a b : List ℕ) → AreLow g a → AreHigh g b → suc d ≡ length a → 0 < length b → rises_after d (a ++ b) ≡ true
unfolding rises_after
rises_between g d [] b ha hb e h = absurd (omega arith)
rises_between g d (x ∷ a) [] ha hb e h = absurd (omega arith)
rises_between g zero (x ∷ []) (y ∷ b) ha hb e h = grind (arith, nat_tests, ha.0, hb.0)
rises_between g (suc d) (x ∷ []) (y ∷ b) ha hb e h = absurd (omega arith)
rises_between g zero (x ∷ x' ∷ a) (y ∷ b) ha hb e h = absurd (omega arith)
rises_between g (suc d) (x ∷ x' ∷ a) (y ∷ b) ha hb e h = rises_between g d (x' ∷ a) (y ∷ b) ha.1 hb (omega arith) h

-- within the second word
rises_later : (d n : ℕ) (a b : List ℕ) → n ≡ length a + d → rises_after n (a ++ b) ≡ rises_after d b
unfolding rises_after
rises_later d n [] b e = ap (λ m. rises_after m b) (omega arith)
rises_later d zero (x ∷ a) b e = absurd (omega arith)
rises_later d (suc n) (x ∷ []) [] e = by_tests d
  where
    by_tests : (d : ℕ) → false ≡ rises_after d []
    by_tests d = refl
rises_later d (suc n) (x ∷ []) (y ∷ b) e = ap (λ m. rises_after m (y ∷ b)) (omega arith)
rises_later d (suc n) (x ∷ x' ∷ a) b e = rises_later d n (x' ∷ a) b (omega arith)

-- an ascent before the end of the first word
pub ascents_within : (e : ℕ) (a b : List ℕ) → 0 < e → e < length a → is_among e (ascents (a ++ b)) ≡ is_among e (ascents a)
ascents_within zero a b low high = absurd (omega arith)
ascents_within (suc d) a b low high = among_ascents (suc d) d (a ++ b) refl ∙ rises_within d a b high ∙ sym (among_ascents (suc d) d a refl)

-- the end of the first word is an ascent
pub ascents_between : (g : ℕ) (a b : List ℕ) → AreLow g a → AreHigh g b → 0 < length a → 0 < length b → is_among (length a) (ascents (a ++ b)) ≡ true
ascents_between g a b ha hb some more =
    let e : length a ≡ suc (length a - 1) = omega arith in
    among_ascents (length a) (length a - 1) (a ++ b) e ∙ rises_between g (length a - 1) a b ha hb (sym e) more

-- an ascent past the end of the first word
pub ascents_later : (e : ℕ) (a b : List ℕ) → 0 < e → is_among (length a + e) (ascents (a ++ b)) ≡ is_among e (ascents b)
ascents_later zero a b h = absurd (omega arith)
ascents_later (suc d) a b h =
    let e : length a + suc d ≡ suc (length a + d) = omega arith in
    among_ascents (length a + suc d) (length a + d) (a ++ b) e ∙ rises_later d (length a + d) a b refl ∙ sym (among_ascents (suc d) d b refl)
