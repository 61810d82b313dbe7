-- Packing a word keeps the order of its letters, and so all that depends on this order alone.
use Rattle.std.proofs.Common.{◌≡◌, ℕ, ◌+◌, ◌<◌, ◌≤◌, Bool, true, false, List, [], ◌∷◌, length, refl, ◌∙◌, ap, arith}
use Rattle.std.specs.Prelude.{nat_eq, nat_le, not, ◌&&◌, ◌||◌}
use Rattle.std.proofs.lemmas.Bool.{eqb-true, eq-eqb}
use Rattle.std.proofs.lemmas.Bool.Decides.{nat_tests}
use Rattle.std.proofs.lemmas.List.{length-map}
use Rattle.realisations.specs.Lists.{one_if, is_among}
use Rattle.realisations.specs.Standardisation.{standardise, rank_in, pack}
use Rattle.realisations.specs.Descents.{descents, descent_composition}
use Rattle.realisations.specs.Trees.{decreasing_tree}
use Rattle.realisations.proofs.RisingMaps.{Rises, Letters, descents-map, descent_composition-map, standardise-map, pack-map, decreasing_tree-map}

or_false : (a b : Bool) → b ≡ false → a || b ≡ true → a ≡ true
or_false true b e h = refl
or_false false b e h = absurd (cc)

or_right : (a b : Bool) → b ≡ true → a || b ≡ true
or_right true b e = refl
or_right false b e = e

-- the rank of a letter does not fall
counted_le : (b : Bool) (z x y : ℕ) → x ≤ y → one_if (nat_le z x && not b) ≤ one_if (nat_le z y && not b)
counted_le true z x y h = grind (arith, nat_tests)
counted_le false z x y h = grind (arith, nat_tests)

rank_in_le : (w : List ℕ) (x y : ℕ) → x ≤ y → rank_in w x ≤ rank_in w y
rank_in_le [] x y h = omega arith
rank_in_le (z ∷ w) x y h = omega (arith, rank_in_le w x y h, counted_le (is_among z w) z x y h)

-- and it rises at each letter
rank_in_rises : (w : List ℕ) (x y : ℕ) → is_among y w ≡ true → x < y → rank_in w x < rank_in w y
rank_in_rises [] x y m h = absurd (cc)
rank_in_rises (z ∷ w) x y m h =
    by_rest (is_among y w) refl (λ k. rank_in_rises w x y k h) (rank_in_le w x y (omega arith))
  where
    at_last : (b : Bool) → b ≡ false → z ≡ y → one_if (nat_le z x && not b) + 1 ≤ one_if (nat_le z y && not b)
    at_last true e same = absurd (cc)
    at_last false e same = grind (arith, nat_tests)

    by_rest : (b : Bool) → is_among y w ≡ b → (is_among y w ≡ true → rank_in w x < rank_in w y) → rank_in w x ≤ rank_in w y
        → rank_in (z ∷ w) x < rank_in (z ∷ w) y
    by_rest true e ih rest = omega (arith, ih e, counted_le (is_among z w) z x y (omega arith))
    by_rest false e ih rest =
        let same : z ≡ y = eqb-true z y (or_false (nat_eq z y) (is_among y w) e m) in
        omega (arith, at_last (is_among z w) (ap (λ n. is_among n w) same ∙ e) same)

-- the letters of a word
abbrev pub IsLetterOf : List ℕ → ℕ → Type 0
IsLetterOf w x = is_among x w ≡ true

letters_of_longer : (w : List ℕ) (z : ℕ) (u : List ℕ) → Letters (IsLetterOf w) u → Letters (IsLetterOf (z ∷ w)) u
letters_of_longer w z [] h = tt
letters_of_longer w z (x ∷ u) h = (or_right (nat_eq z x) (is_among x w) h.0, letters_of_longer w z u h.1)

pub letters_of : (w : List ℕ) → Letters (IsLetterOf w) w
letters_of [] = tt
letters_of (x ∷ w) =
    let e : nat_eq x x ≡ true = eq-eqb x x refl in
    rw e (refl, letters_of_longer w x w (letters_of w))

module _ (w : List ℕ) where
  pub rises : Rises (IsLetterOf w) (λ x. rank_in w x)
  rises x y hx hy h = rank_in_rises w x y hy h

  pub pack-pack : pack (pack w) ≡ pack w
  pack-pack = pack-map (IsLetterOf w) (λ x. rank_in w x) rises w (letters_of w)

  pub standardise-pack : standardise (pack w) ≡ standardise w
  standardise-pack = standardise-map (IsLetterOf w) (λ x. rank_in w x) rises w (letters_of w)

  pub descents-pack : descents (pack w) ≡ descents w
  descents-pack = descents-map (IsLetterOf w) (λ x. rank_in w x) rises w (letters_of w)

  pub descent_composition-pack : descent_composition (pack w) ≡ descent_composition w
  descent_composition-pack = descent_composition-map (IsLetterOf w) (λ x. rank_in w x) rises w (letters_of w)

  pub decreasing_tree-pack : decreasing_tree (pack w) ≡ decreasing_tree w
  decreasing_tree-pack = decreasing_tree-map (IsLetterOf w) (λ x. rank_in w x) rises w (letters_of w)

  pub length-pack : length (pack w) ≡ length w
  length-pack = length-map w (λ x. rank_in w x)
