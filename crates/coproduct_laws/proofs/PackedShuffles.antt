-- The packings of the shuffles of two words are the shuffles of their packings.
use Rattle.std.proofs.Common.{◌≡◌, ℕ, ◌+◌, ◌<◌, ◌≤◌, Bool, true, false, List, [], ◌∷◌, ◌++◌, map, refl, sym, ◌∙◌, ap, arith}
use Rattle.std.specs.Prelude.{nat_eq, nat_le, ◌||◌}
use Rattle.std.proofs.lemmas.Bool.Decides.{nat_tests}
use Rattle.realisations.specs.Lists.{is_among}
use Rattle.realisations.specs.Points.{word, IsPoint}
use Rattle.realisations.specs.Words.{greatest, raise}
use Rattle.realisations.specs.Standardisation.{rank_in, pack}
use Rattle.realisations.proofs.Every.{every-any}
use Rattle.realisations.proofs.Packing.{IsLetterOf, letters_of, rises}
use Rattle.realisations.proofs.RisingMaps.{greatest-map, pack-map}
use Rattle.basis_representatives.proofs.Letters.{map_same}
use Rattle.basis_representatives.proofs.PackedWords.{letters_to_greatest}
use Rattle.basis_representatives.proofs.SameLists.{cons_same}
use Rattle.coproduct_laws.proofs.LowAndHigh.{AreLow, AreHigh, high_raised}
use Rattle.coproduct_laws.proofs.Shuffling.{over_shuffles, over_shuffles-map}
use Rattle.coproduct_laws.proofs.Rearrangements.{Rearranges, over_rearrangements}

-- the greatest letter of the packing is the rank of the greatest letter
greatest-pack : (w : List ℕ) → greatest (pack w) ≡ rank_in w (greatest w)
greatest-pack [] = refl
greatest-pack (x ∷ w) =
    let letters = letters_of (x ∷ w) in
    greatest-map (IsLetterOf (x ∷ w)) (λ y. rank_in (x ∷ w) y) (rises (x ∷ w)) x w letters.0 letters.1

-- a raised word has the packing of the word
pack-raise : (k : ℕ) (w : List ℕ) → pack (raise k w) ≡ pack w
pack-raise k w = pack-map (λ x. Unit {0}) (λ x. k + x) (λ x y hx hy h. omega arith) w (every-any (λ x. Unit {0}) (λ x. tt) w)

-- a low letter is none of the high letters
among_high : (g z : ℕ) (v : List ℕ) → z ≤ g → AreHigh g v → is_among z v ≡ false
among_high g z [] h k = refl
among_high g z (y ∷ v) h k = let e : nat_eq y z ≡ false = grind (arith, nat_tests, k.0) in rw e (among_high g z v h k.1)

-- a letter of one of two words
is_among-append : (x : ℕ) (u v : List ℕ) → is_among x (u ++ v) ≡ (is_among x u || is_among x v)
is_among-append x [] v = refl
is_among-append x (y ∷ u) v = ap (λ b. nat_eq y x || b) (is_among-append x u v) ∙ regroup (nat_eq y x)
  where
    regroup : (b : Bool) → (b || (is_among x u || is_among x v)) ≡ ((b || is_among x u) || is_among x v)
    regroup true = refl
    regroup false = refl

-- a low letter is a letter of the low word
among_low : (g z : ℕ) (u v : List ℕ) → z ≤ g → AreHigh g v → is_among z (u ++ v) ≡ is_among z u
among_low g z u v h hv = is_among-append z u v ∙ ap (λ b. is_among z u || b) (among_high g z v h hv) ∙ or_nothing (is_among z u)
  where
    or_nothing : (b : Bool) → (b || false) ≡ b
    or_nothing true = refl
    or_nothing false = refl

-- a low letter has no rank among high letters
rank_none : (g y : ℕ) (v : List ℕ) → y ≤ g → AreHigh g v → rank_in v y ≡ 0
rank_none g y [] h k = refl
rank_none g y (z ∷ v) h k = let e : nat_le z y ≡ false = grind (arith, nat_tests, k.0) in rw e (omega (arith, rank_none g y v h k.1))

-- the rank of a low letter is that among the low letters
rank_low : (g : ℕ) (u v : List ℕ) → AreLow g u → AreHigh g v → (y : ℕ) → y ≤ g → rank_in (u ++ v) y ≡ rank_in u y
rank_low g [] v hu hv y h = rank_none g y v h hv
rank_low g (z ∷ u) v hu hv y h = rw (among_low g z u v hu.0 hv) (omega (arith, rank_low g u v hu.1 hv y h))

-- the rank of a high letter is that among the high letters past all low ones
rank_high : (g : ℕ) (u v : List ℕ) → AreLow g u → AreHigh g v → (y : ℕ) → g < y → rank_in (u ++ v) y ≡ rank_in u g + rank_in v y
rank_high g [] v hu hv y h = omega arith
rank_high g (z ∷ u) v hu hv y h =
    let l : nat_le z y ≡ true = grind (arith, nat_tests, hu.0) in
    let m : nat_le z g ≡ true = grind (arith, nat_tests, hu.0) in
    rw (among_low g z u v hu.0 hv, l, m) (omega (arith, rank_high g u v hu.1 hv y h))

-- ranks past a number
raised_ranks : (k : ℕ) (t w : List ℕ) → map (λ y. k + rank_in t y) w ≡ raise k (map (λ y. rank_in t y) w)
raised_ranks k t [] = refl
raised_ranks k t (x ∷ w) = ap (λ v. (k + rank_in t x) ∷ v) (raised_ranks k t w)

-- ranks among a rearrangement
same_ranks : (t x : List ℕ) → Rearranges t x → (w : List ℕ) → map (λ y. rank_in x y) w ≡ map (λ y. rank_in t y) w
same_ranks t x r [] = refl
same_ranks t x r (y ∷ w) = cons_same (r.ranks y) (same_ranks t x r w)

-- the packings of the shuffles of u and of v raised above u are the shuffles of their packings, the second one raised above the first
pub pack_shuffles : (f : List ℕ → ℕ) (u v : List ℕ) → IsPoint word v
    → over_shuffles (λ x. f (pack x)) u (raise (greatest u) v) ≡ over_shuffles f (pack u) (raise (greatest (pack u)) (pack v))
pack_shuffles f u v points =
    let g = greatest u in
    let high = raise g v in
    let all = u ++ high in
    let lows : AreLow g u = letters_to_greatest u g (omega arith) in
    let highs : AreHigh g high = high_raised g v points in
    over_rearrangements (λ x. f (pack x)) (λ x. f (map (λ y. rank_in all y) x)) u high (λ x r. ap f (same_ranks all x r x))
    ∙ sym (over_shuffles-map f (λ y. rank_in all y) u high)
    ∙ ap (λ w. over_shuffles f w (map (λ y. rank_in all y) high)) (map_same (λ y. rank_in all y) (λ y. rank_in u y) (λ y. y ≤ g) (rank_low g u high lows highs) u lows)
    ∙ ap (λ w. over_shuffles f (pack u) w)
    (map_same (λ y. rank_in all y) (λ y. rank_in u g + rank_in high y) (λ y. g < y) (rank_high g u high lows highs) high highs
    ∙ raised_ranks (rank_in u g) high high
    ∙ ap (λ w. raise (rank_in u g) w) (pack-raise g v)
    ∙ ap (λ k. raise k (pack v)) (sym (greatest-pack u)))
