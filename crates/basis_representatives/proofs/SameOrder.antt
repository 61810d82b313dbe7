-- Words of one length whose letters compare alike have the same standardisation, the same descents and the same decreasing tree. A word compares like its standardisation.
use Rattle.std.proofs.Common.{◌≡◌, ℕ, suc, ◌+◌, ◌<◌, ◌≤◌, List, [], ◌∷◌, ◌++◌, length, refl, sym, ap, arith}
use Rattle.std.specs.Prelude.{nat_lt}
use Rattle.std.proofs.lemmas.Bool.Decides.{nat_tests}
use Rattle.realisations.specs.Lists.{one_if}
use Rattle.realisations.specs.Standardisation.{count_below, count_same, standardise_after, standardise}
use Rattle.realisations.specs.Descents.{descent_composition}
use Rattle.basis_representatives.proofs.Counts.{count_to, count_to-append, count_to-cons, counts_across, counts_up}
use Rattle.basis_representatives.proofs.RowByRow.{before}

-- each letter of u is below x where the letter of v at its place is below y
abbrev pub SameBelow : ℕ → List ℕ → ℕ → List ℕ → Type 0
SameBelow x [] y [] = Unit {0}
SameBelow x (a ∷ u) y (b ∷ v) = (nat_lt a x ≡ nat_lt b y) × SameBelow x u y v
SameBelow x _ y _ = ⊥

-- two words of one length whose letters compare alike: of each two places, the later letter is smaller in both words or in none
abbrev pub SameOrder : List ℕ → List ℕ → Type 0
SameOrder [] [] = Unit {0}
SameOrder (x ∷ u) (y ∷ v) = SameBelow x u y v × SameOrder u v
SameOrder _ _ = ⊥

-- each letter of the first word compares with all of the second one as in the other two words
abbrev pub SameFrom : List ℕ → List ℕ → List ℕ → List ℕ → Type 0
SameFrom [] [] u v = Unit {0}
SameFrom (x ∷ b) (y ∷ c) u v = SameBelow x u y v × SameFrom b c u v
SameFrom _ _ u v = ⊥

-- without the first letters of the two words
pub SameFrom-tail : (b c : List ℕ) (x : ℕ) (u : List ℕ) (y : ℕ) (v : List ℕ) → SameFrom b c (x ∷ u) (y ∷ v) → SameFrom b c u v
SameFrom-tail [] [] x u y v h = tt
SameFrom-tail [] (d ∷ c) x u y v h = h
SameFrom-tail (a ∷ b) [] x u y v h = h
SameFrom-tail (a ∷ b) (d ∷ c) x u y v h = (h.0.1, SameFrom-tail b c x u y v h.1)

count_to_same : (b c : List ℕ) (x : ℕ) (u : List ℕ) (y : ℕ) (v : List ℕ) → SameFrom b c (x ∷ u) (y ∷ v) → count_to x b ≡ count_to y c
count_to_same [] [] x u y v h = refl
count_to_same [] (d ∷ c) x u y v h = absurd h
count_to_same (a ∷ b) [] x u y v h = absurd h
count_to_same (a ∷ b) (d ∷ c) x u y v h = omega (arith, count_to-cons x a b, count_to-cons y d c, ap one_if h.0.0, count_to_same b c x u y v h.1)

count_below_same : (x : ℕ) (u : List ℕ) (y : ℕ) (v : List ℕ) → SameBelow x u y v → count_below x u ≡ count_below y v
count_below_same x [] y [] h = refl
count_below_same x [] y (b ∷ v) h = absurd h
count_below_same x (a ∷ u) y [] h = absurd h
count_below_same x (a ∷ u) y (b ∷ v) h = omega (arith, ap one_if h.0, count_below_same x u y v h.1)

standardise_after_same : (b c u v : List ℕ) → SameFrom b c u v → SameOrder u v → standardise_after b u ≡ standardise_after c v
standardise_after_same b c [] [] f h = refl
standardise_after_same b c [] (y ∷ v) f h = absurd h
standardise_after_same b c (x ∷ u) [] f h = absurd h
standardise_after_same b c (x ∷ u) (y ∷ v) f h =
    let e : suc (count_below x b + count_same x b + count_below x u) ≡ suc (count_below y c + count_same y c + count_below y v) =
    omega (arith, count_to_same b c x u y v f, count_below_same x u y v h.0) in
    rw (e, standardise_after_same (x ∷ b) (y ∷ c) u v (h.0, SameFrom-tail b c x u y v f) h.1)

-- words that compare alike have the same standardisation
pub standardise_same : (u v : List ℕ) → SameOrder u v → standardise u ≡ standardise v
standardise_same u v h = standardise_after_same [] [] u v tt h

-- and the same descent composition
pub descent_composition_same : (u v : List ℕ) → SameOrder u v → descent_composition u ≡ descent_composition v
descent_composition_same [] [] h = refl
descent_composition_same [] (y ∷ v) h = absurd h
descent_composition_same (x ∷ u) [] h = absurd h
descent_composition_same (x ∷ []) (y ∷ []) h = refl
descent_composition_same (x ∷ []) (y ∷ y' ∷ v) h = absurd h.0
descent_composition_same (x ∷ x' ∷ u) (y ∷ []) h = absurd h.0
descent_composition_same (x ∷ x' ∷ u) (y ∷ y' ∷ v) h = rw (h.0.0, descent_composition_same (x' ∷ u) (y' ∷ v) h.1)

-- a later letter y against an earlier x
later_below : (before : List ℕ) (x : ℕ) (mid : List ℕ) (y : ℕ) (w : List ℕ) (n : ℕ) → n ≡ suc (count_to x before + count_below x mid + count_below x (y ∷ w)) →
    y < x → suc (count_to y (mid ++ (x ∷ before)) + count_below y w) < n
later_below before x mid y w n e h =
    let one : one_if (nat_lt y x) ≡ 1 = grind (arith, nat_tests) in
    omega (arith, e, count_to-append y mid (x ∷ before), count_to-cons y x before, counts_up y x before (omega arith), counts_up y x w (omega arith), counts_across y x mid h)

later_above : (before : List ℕ) (x : ℕ) (mid : List ℕ) (y : ℕ) (w : List ℕ) (n : ℕ) → n ≡ suc (count_to x before + count_below x mid + count_below x (y ∷ w)) →
    x ≤ y → n ≤ suc (count_to y (mid ++ (x ∷ before)) + count_below y w)
later_above before x mid y w n e h =
    let none : one_if (nat_lt y x) ≡ 0 = grind (arith, nat_tests) in
    omega (arith, e, count_to-append y mid (x ∷ before), count_to-cons y x before, counts_up x y before h, counts_up x y w h, counts_up x y mid h, counts_up y y mid (omega arith))

later : (y x k n : ℕ) → (y < x → k < n) → (x ≤ y → n ≤ k) → nat_lt y x ≡ nat_lt k n
later y x k n f g = grind (arith, nat_tests, f, g)

-- the letters after x keep their order with it
standard_below : (before : List ℕ) (x : ℕ) (mid w : List ℕ) (n : ℕ) → n ≡ suc (count_to x before + count_below x mid + count_below x w) →
    SameBelow x w n (standardise_after (mid ++ (x ∷ before)) w)
standard_below before x mid [] n e = tt
standard_below before x mid (y ∷ w) n e =
    (later y x _ n (later_below before x mid y w n e) (later_above before x mid y w n e), standard_below before x (y ∷ mid) w n (omega (arith, e)))

order_standard : (before w : List ℕ) → SameOrder w (standardise_after before w)
order_standard before [] = tt
order_standard before (x ∷ w) = (standard_below before x [] w _ (omega arith), order_standard (x ∷ before) w)

-- a word compares like its standardisation
pub standardise_order : (w : List ℕ) → SameOrder w (standardise w)
standardise_order w = order_standard [] w

length-standardise_after : (before w : List ℕ) → length (standardise_after before w) ≡ length w
length-standardise_after before [] = refl
length-standardise_after before (x ∷ w) = ap suc (length-standardise_after (x ∷ before) w)

-- the standardisation is as long
pub length-standardise : (w : List ℕ) → length (standardise w) ≡ length w
length-standardise w = length-standardise_after [] w

-- standardising twice is standardising once
pub standardise-standardise : (w : List ℕ) → standardise (standardise w) ≡ standardise w
standardise-standardise w = sym (standardise_same w (standardise w) (standardise_order w))

-- a word has the descents of its standardisation
pub descent_composition-standardise : (w : List ℕ) → descent_composition (standardise w) ≡ descent_composition w
descent_composition-standardise w = sym (descent_composition_same w (standardise w) (standardise_order w))
