-- The standardisations of the shuffles of two words are the shuffles of their standardisations.
use Rattle.std.proofs.Common.{◌≡◌, ℕ, suc, ◌+◌, ◌<◌, ◌≤◌, true, false, List, [], ◌∷◌, ◌++◌, length, refl, sym, ◌∙◌, ap, arith}
use Rattle.std.specs.Prelude.{nat_eq, nat_lt}
use Rattle.std.proofs.lemmas.Bool.Decides.{nat_tests}
use Rattle.realisations.specs.Points.{word, IsPoint}
use Rattle.realisations.specs.Words.{greatest, raise}
use Rattle.realisations.specs.Standardisation.{count_below, standardise_after, standardise}
use Rattle.realisations.proofs.Every.{every-any}
use Rattle.realisations.proofs.RisingMaps.{standardise-map}
use Rattle.basis_representatives.proofs.Counts.{count_to, count_below-append}
use Rattle.basis_representatives.proofs.PackedWords.{letters_to_greatest}
use Rattle.coproduct_laws.proofs.LowAndHigh.{AreLow, AreHigh, high_raised}
use Rattle.coproduct_laws.proofs.Shuffling.{over_shuffles, over_shuffles-step}
use Rattle.coproduct_laws.proofs.Rearrangements.{Rearranges, over_rearrangements}

-- what stands before has the low letters of one word and the high letters of another
record IsBehind (g : ℕ) (low high before : List ℕ) : Type 0 where
  at_low : (x : ℕ) → x ≤ g → count_to x before ≡ count_to x low
  at_high : (y : ℕ) → g < y → count_to y before ≡ length low + count_to y high

-- a low letter more stands before
behind-low : (g x : ℕ) (low high before : List ℕ) → x ≤ g → IsBehind g low high before → IsBehind g (x ∷ low) high (x ∷ before)
behind-low g x low high before h b = record {
  at_low = λ y hy. omega (arith, b.at_low y hy);
  at_high = λ y hy. below y hy (b.at_high y hy);
}
  where
    below : (y : ℕ) → g < y → count_to y before ≡ length low + count_to y high
        → count_to y (x ∷ before) ≡ length (x ∷ low) + count_to y high
    below y hy e =
        let under : nat_lt x y ≡ true = grind (arith, nat_tests) in
        let apart : nat_eq x y ≡ false = grind (arith, nat_tests) in
        rw (under, apart) (omega (arith, e))

-- a high letter more stands before
behind-high : (g y : ℕ) (low high before : List ℕ) → g < y → IsBehind g low high before → IsBehind g low (y ∷ high) (y ∷ before)
behind-high g y low high before h b = record {
  at_low = λ x hx. above x hx (b.at_low x hx);
  at_high = λ z hz. omega (arith, b.at_high z hz);
}
  where
    above : (x : ℕ) → x ≤ g → count_to x before ≡ count_to x low
        → count_to x (y ∷ before) ≡ count_to x low
    above x hx e =
        let under : nat_lt y x ≡ false = grind (arith, nat_tests) in
        let apart : nat_eq y x ≡ false = grind (arith, nat_tests) in
        rw (under, apart) (omega (arith, e))

-- no high letter is below a low one
count_high : (g x : ℕ) (v : List ℕ) → x ≤ g → AreHigh g v → count_below x v ≡ 0
count_high g x [] h k = refl
count_high g x (y ∷ v) h k = let e : nat_lt y x ≡ false = grind (arith, nat_tests, k.0) in rw e (omega (arith, count_high g x v h k.1))

-- all low letters are below a high one
count_low : (g y : ℕ) (u : List ℕ) → g < y → AreLow g u → count_below y u ≡ length u
count_low g y [] h k = refl
count_low g y (x ∷ u) h k = let e : nat_lt x y ≡ true = grind (arith, nat_tests, k.0) in rw e (omega (arith, count_low g y u h k.1))

-- low letters alone
standardise_low : (g : ℕ) (low high before u : List ℕ) → IsBehind g low high before → AreLow g u → standardise_after before u ≡ standardise_after low u
standardise_low g low high before [] b h = refl
standardise_low g low high before (x ∷ u) b h =
    let e : suc (count_to x before + count_below x u) ≡ suc (count_to x low + count_below x u) = omega (arith, b.at_low x h.0) in
    let rest = standardise_low g (x ∷ low) high (x ∷ before) u (behind-low g x low high before h.0 b) h.1 in
    λ i. e i ∷ rest i

-- high letters alone
standardise_high : (g n : ℕ) (low high before v : List ℕ) → length low ≡ n → IsBehind g low high before → AreHigh g v → standardise_after before v ≡ raise n (standardise_after high v)
standardise_high g n low high before [] is b h = refl
standardise_high g n low high before (y ∷ v) is b h =
    let e : suc (count_to y before + count_below y v) ≡ n + suc (count_to y high + count_below y v) = omega (arith, b.at_high y h.0) in
    let rest = standardise_high g n low (y ∷ high) (y ∷ before) v is (behind-high g y low high before h.0 b) h.1 in
    λ i. e i ∷ rest i

-- behind any letters
shuffles_behind : (f : List ℕ → ℕ) (g n : ℕ) (low high before u v : List ℕ) → length low + length u ≡ n → IsBehind g low high before → AreLow g u → AreHigh g v
    → over_shuffles (λ x. f (standardise_after before x)) u v ≡ over_shuffles f (standardise_after low u) (raise n (standardise_after high v))
shuffles_behind f g n low high before [] v is b hu hv =
    omega (arith, ap f (standardise_high g n low high before v (omega (arith, is)) b hv))
shuffles_behind f g n low high before (x ∷ u) [] is b hu hv =
    omega (arith, ap f (standardise_low g low high before (x ∷ u) b hu))
shuffles_behind f g n low high before (x ∷ u) (y ∷ v) is b hu hv =
    over_shuffles-step (λ w. f (standardise_after before w)) x u y v
    ∙ (λ i. (first
    ∙ shuffles_behind (λ w. f (x' ∷ w)) g n (x ∷ low) high (x ∷ before) u (y ∷ v) (omega (arith, is)) (behind-low g x low high before hu.0 b) hu.1 hv) i
    + (second
    ∙ shuffles_behind (λ w. f ((n + y') ∷ w)) g n low (y ∷ high) (y ∷ before) (x ∷ u) v is (behind-high g y low high before hv.0 b) hu hv.1) i)
    ∙ sym (over_shuffles-step f x' (standardise_after (x ∷ low) u) (n + y') (raise n (standardise_after (y ∷ high) v)))
  where
    x' : ℕ
    x' = suc (count_to x low + count_below x u)

    y' : ℕ
    y' = suc (count_to y high + count_below y v)

    number_low : (w : List ℕ) → Rearranges (u ++ (y ∷ v)) w
        → suc (count_to x before + count_below x w) ≡ suc (count_to x low + count_below x u)
    number_low w r =
        omega (arith, b.at_low x hu.0, r.counts (λ z. nat_lt z x), count_below-append x u (y ∷ v), count_high g x (y ∷ v) hu.0 hv)

    number_high : (w : List ℕ) → Rearranges ((x ∷ u) ++ v) w
        → suc (count_to y before + count_below y w) ≡ n + suc (count_to y high + count_below y v)
    number_high w r =
        omega (arith, is, b.at_high y hv.0, r.counts (λ z. nat_lt z y), count_below-append y (x ∷ u) v, count_low g y (x ∷ u) hv.0 hu)

    first : over_shuffles (λ w. f (standardise_after before (x ∷ w))) u (y ∷ v)
        ≡ over_shuffles (λ w. f (suc (count_to x low + count_below x u) ∷ standardise_after (x ∷ before) w)) u (y ∷ v)
    first = over_rearrangements _ _ u (y ∷ v) (λ w r. ap (λ k. f (k ∷ standardise_after (x ∷ before) w)) (number_low w r))

    second : over_shuffles (λ w. f (standardise_after before (y ∷ w))) (x ∷ u) v
        ≡ over_shuffles (λ w. f ((n + suc (count_to y high + count_below y v)) ∷ standardise_after (y ∷ before) w)) (x ∷ u) v
    second = over_rearrangements _ _ (x ∷ u) v (λ w r. ap (λ k. f (k ∷ standardise_after (y ∷ before) w)) (number_high w r))

-- a raised word has the standardisation of the word
standardise-raise : (k : ℕ) (w : List ℕ) → standardise (raise k w) ≡ standardise w
standardise-raise k w = standardise-map (λ x. Unit {0}) (λ x. k + x) (λ x y hx hy h. omega arith) w (every-any (λ x. Unit {0}) (λ x. tt) w)

-- the standardisations of the shuffles of u and the raised v are the shuffles of their standardisations, the second one raised by the length of u
pub standardise_shuffles : (f : List ℕ → ℕ) (u v : List ℕ) → IsPoint word v
    → over_shuffles (λ x. f (standardise x)) u (raise (greatest u) v) ≡ over_shuffles f (standardise u) (raise (length u) (standardise v))
standardise_shuffles f u v points =
    shuffles_behind f (greatest u) (length u) [] [] [] u (raise (greatest u) v) (omega arith)
    (record { at_low = λ x h. refl; at_high = λ y h. omega arith })
    (letters_to_greatest u (greatest u) (omega arith)) (high_raised (greatest u) v points)
    ∙ ap (λ w. over_shuffles f (standardise u) (raise (length u) w)) (standardise-raise (greatest u) v)
