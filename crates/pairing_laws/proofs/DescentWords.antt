-- The cuts of the word of a composition, by the descent compositions of their parts.
use Rattle.std.proofs.Common.{◌≡◌, ℕ, zero, suc, true, false, List, [], ◌∷◌, length, refl, ◌∙◌, ap, arith}
use Rattle.std.specs.Prelude.{nat_lt, if◌then◌else◌}
use Rattle.std.proofs.Math.IntN.{ℤ, ◌+ℤ◌, ◌*ℤ◌}
use Rattle.std.proofs.lemmas.Int.{ints}
use Rattle.std.proofs.lemmas.Bool.Decides.{nat_tests}
use Rattle.realisations.specs.Descents.{longer_first, descent_composition, word_of_composition}
use Rattle.realisations.specs.IndexKinds.{IsComposition}
use Rattle.realisations.specs.Points.{word}
use Rattle.realisations.specs.Words.{word_cuts}
use Rattle.basis_representatives.proofs.BlockWords.{descent_composition-word_of_composition}
use Rattle.antipode_laws.proofs.IntegerSums.{sum_over_same, sum_over-map}
use Rattle.antipode_laws.proofs.OperationReads.{over_point_cuts}

below_next : (n : ℕ) → nat_lt n (suc n) ≡ true
below_next n = grind (arith, nat_tests)

not_below : (n : ℕ) → nat_lt n n ≡ false
not_below n = grind (arith, nat_tests)

-- a greater letter in front
descent_in_front : (x y : ℕ) (w : List ℕ) → nat_lt y x ≡ true → descent_composition (x ∷ y ∷ w) ≡ 1 ∷ descent_composition (y ∷ w)
descent_in_front x y w e = ap (λ b. if b then 1 ∷ descent_composition (y ∷ w) else longer_first (descent_composition (y ∷ w))) e

-- a letter in front that is not greater
rise_in_front : (x y : ℕ) (w : List ℕ) → nat_lt y x ≡ false → descent_composition (x ∷ y ∷ w) ≡ longer_first (descent_composition (y ∷ w))
rise_in_front x y w e = ap (λ b. if b then 1 ∷ descent_composition (y ∷ w) else longer_first (descent_composition (y ∷ w))) e

-- the sum over the cuts of the word of a composition, of functions of descent compositions
abbrev pub over_descents : (List ℕ → ℤ) → (List ℕ → ℤ) → List ℕ → ℤ
over_descents f g i = over_point_cuts word (λ u v. f (descent_composition u) *ℤ g (descent_composition v)) (word_of_composition i)

-- one more letter in front of a nonempty word
letter_more : (f g : List ℕ → ℤ) (step : List ℕ → List ℕ) (x y : ℕ) → step [] ≡ 1 ∷ [] → ((u : List ℕ) → descent_composition (x ∷ y ∷ u) ≡ step (descent_composition (y ∷ u))) → (w : List ℕ) →
    over_point_cuts word (λ u v. f (descent_composition u) *ℤ g (descent_composition v)) (x ∷ y ∷ w)
    ≡ f [] *ℤ g (descent_composition (x ∷ y ∷ w)) +ℤ over_point_cuts word (λ u v. f (step (descent_composition u)) *ℤ g (descent_composition v)) (y ∷ w)
letter_more f g step x y none more w =
    let h : (List ℕ × List ℕ) → ℤ = λ (c : List ℕ × List ℕ). f (descent_composition c.0) *ℤ g (descent_composition c.1) in
    let k : (List ℕ × List ℕ) → ℤ = λ (c : List ℕ × List ℕ). f (step (descent_composition c.0)) *ℤ g (descent_composition c.1) in
    let outer = sum_over-map h (λ (c : List ℕ × List ℕ). (x ∷ c.0, c.1)) (word_cuts (y ∷ w)) in
    let inner = sum_over-map (λ (c : List ℕ × List ℕ). h (x ∷ c.0, c.1)) (λ (c : List ℕ × List ℕ). (y ∷ c.0, c.1)) (word_cuts w) in
    let other = sum_over-map k (λ (c : List ℕ × List ℕ). (y ∷ c.0, c.1)) (word_cuts w) in
    let same = sum_over_same (λ (c : List ℕ × List ℕ). h (x ∷ y ∷ c.0, c.1)) (λ (c : List ℕ × List ℕ). k (y ∷ c.0, c.1))
    (λ (c : List ℕ × List ℕ). ap (λ i. f i *ℤ g (descent_composition c.1)) (more c.0)) (word_cuts w) in
    omega (arith, ints, outer, inner, other, same, ap (λ i. f i *ℤ g (descent_composition (y ∷ w))) none)

-- a part 1 in front
pub over_descents-one : (f g : List ℕ → ℤ) (i : List ℕ) → IsComposition i → over_descents f g (1 ∷ i) ≡ f [] *ℤ g (1 ∷ i) +ℤ over_descents (λ j. f (1 ∷ j)) g i
over_descents-one f g [] h = omega (arith, ints)
over_descents-one f g (zero ∷ i) h = absurd (omega (arith, h.0))
over_descents-one f g (suc n ∷ i) h =
    letter_more f g (λ j. 1 ∷ j) (suc (length (suc n ∷ i))) (suc (length i)) refl (λ u. descent_in_front (suc (length (suc n ∷ i))) (suc (length i)) u (below_next (suc (length i)))) _
    ∙ ap (λ j. f [] *ℤ g j +ℤ over_descents (λ j. f (1 ∷ j)) g (suc n ∷ i)) (descent_composition-word_of_composition (1 ∷ suc n ∷ i) (omega arith, h))

-- a first part one larger
pub over_descents-longer : (f g : List ℕ → ℤ) (i : List ℕ) → IsComposition i → over_descents f g (longer_first i) ≡ f [] *ℤ g (longer_first i) +ℤ over_descents (λ j. f (longer_first j)) g i
over_descents-longer f g [] h = omega (arith, ints)
over_descents-longer f g (zero ∷ i) h = absurd (omega (arith, h.0))
over_descents-longer f g (suc n ∷ i) h =
    letter_more f g longer_first (suc (length i)) (suc (length i)) refl (λ u. rise_in_front (suc (length i)) (suc (length i)) u (not_below (suc (length i)))) _
    ∙ ap (λ j. f [] *ℤ g j +ℤ over_descents (λ j. f (longer_first j)) g (suc n ∷ i)) (descent_composition-word_of_composition (suc (suc n) ∷ i) (omega arith, h.1))
