-- The word of a composition and the nondecreasing word of exponents: blocks of equal letters, which fall or rise at the descents of the composition.
use Rattle.std.proofs.Common.{◌≡◌, ℕ, zero, suc, Bool, true, false, List, [], ◌∷◌, ◌++◌, length, replicate, refl, sym, ◌∙◌, ap, arith}
use Rattle.std.specs.Prelude.{nat_lt}
use Rattle.std.specs.List.{sum}
use Rattle.std.proofs.lemmas.Bool.Decides.{nat_tests}
use Rattle.std.proofs.lemmas.List.{length-append, length-replicate}
use Rattle.std.proofs.lemmas.List.Sums.{sum_by-cons}
use Rattle.realisations.specs.Descents.{ascents, descent_composition, descent_set, word_of_composition}
use Rattle.realisations.specs.Exponents.{without_zeros, nondecreasing_from, nondecreasing_word}
use Rattle.realisations.specs.IndexKinds.{IsComposition}
use Rattle.realisations.proofs.NondecreasingWords.{ascents-without_zeros}
use Rattle.basis_representatives.proofs.Bits.{composition_of, bits_of}
use Rattle.basis_representatives.proofs.Places.{places}
use Rattle.basis_representatives.proofs.DescentBits.{descent_set-composition_of, composition_of-bits_of}
use Rattle.basis_representatives.proofs.Steps.{steps, falls, rises, places_where-steps, descent_composition-steps}

-- the test fails at equal letters: a block of them in front
steps-block : (test : ℕ → ℕ → Bool) (x y : ℕ) → test x x ≡ false → (n : ℕ) (w : List ℕ)
    → steps test (replicate (suc n) x ++ y ∷ w) ≡ replicate n false ++ test x y ∷ steps test (y ∷ w)
steps-block test x y flat zero w = refl
steps-block test x y flat (suc n) w =
    ap (λ b. b ∷ steps test (replicate (suc n) x ++ y ∷ w)) flat ∙ ap (λ bs. false ∷ bs) (steps-block test x y flat n w)

steps-last : (test : ℕ → ℕ → Bool) (x : ℕ) → test x x ≡ false → (n : ℕ) → steps test (replicate (suc n) x ++ []) ≡ replicate n false
steps-last test x flat zero = refl
steps-last test x flat (suc n) =
    ap (λ b. b ∷ steps test (replicate (suc n) x ++ [])) flat ∙ ap (λ bs. false ∷ bs) (steps-last test x flat n)

no_fall : (x : ℕ) → nat_lt x x ≡ false
no_fall x = grind (arith, nat_tests)

one_more : (x : ℕ) → nat_lt x (suc x) ≡ true
one_more x = grind (arith, nat_tests)

-- the word of a composition falls at its descents
pub steps-word_of_composition : (i : ℕ) (parts : List ℕ) → IsComposition (i ∷ parts) → steps falls (word_of_composition (i ∷ parts)) ≡ bits_of (i ∷ parts)
steps-word_of_composition zero parts h = absurd (omega (arith, h.0))
steps-word_of_composition (suc n) [] h = steps-last falls 1 refl n
steps-word_of_composition (suc n) (zero ∷ parts) h = absurd (omega (arith, h.1.0))
steps-word_of_composition (suc n) (suc m ∷ parts) h =
    let x = suc (length parts) in
    steps-block falls (suc x) x (no_fall (suc x)) n (replicate m x ++ word_of_composition parts)
    ∙ ap (λ b. replicate n false ++ b ∷ steps falls (word_of_composition (suc m ∷ parts))) (one_more x)
    ∙ ap (λ bs. replicate n false ++ true ∷ bs) (steps-word_of_composition (suc m) parts h.1)

-- the nondecreasing word of a composition as exponents rises at its descents
pub steps-nondecreasing_from : (x i : ℕ) (parts : List ℕ) → IsComposition (i ∷ parts) → steps rises (nondecreasing_from x (i ∷ parts)) ≡ bits_of (i ∷ parts)
steps-nondecreasing_from x zero parts h = absurd (omega (arith, h.0))
steps-nondecreasing_from x (suc n) [] h = steps-last rises x (no_fall x) n
steps-nondecreasing_from x (suc n) (zero ∷ parts) h = absurd (omega (arith, h.1.0))
steps-nondecreasing_from x (suc n) (suc m ∷ parts) h =
    steps-block rises x (suc x) (no_fall x) n (replicate m (suc x) ++ nondecreasing_from (suc (suc x)) parts)
    ∙ ap (λ b. replicate n false ++ b ∷ steps rises (nondecreasing_from (suc x) (suc m ∷ parts))) (one_more x)
    ∙ ap (λ bs. replicate n false ++ true ∷ bs) (steps-nondecreasing_from (suc x) (suc m) parts h.1)

-- the descents of a composition are the places of its bits
pub descent_set-bits_of : (i : ℕ) (parts : List ℕ) → IsComposition (i ∷ parts) → descent_set (i ∷ parts) ≡ places 1 (bits_of (i ∷ parts))
descent_set-bits_of i parts h = ap descent_set (sym (composition_of-bits_of i parts h)) ∙ descent_set-composition_of (bits_of (i ∷ parts))

-- what is left of exponents once zeros are left out is a composition
pub IsComposition-without_zeros : (p : List ℕ) → IsComposition (without_zeros p)
IsComposition-without_zeros [] = tt
IsComposition-without_zeros (zero ∷ p) = IsComposition-without_zeros p
IsComposition-without_zeros (suc n ∷ p) = (omega arith, IsComposition-without_zeros p)

ascents-composition : (parts : List ℕ) → IsComposition parts → ascents (nondecreasing_word parts) ≡ descent_set parts
ascents-composition [] h = refl
ascents-composition (i ∷ parts) h =
    places_where-steps rises 1 (nondecreasing_word (i ∷ parts))
    ∙ ap (λ bs. places 1 bs) (steps-nondecreasing_from 1 i parts h)
    ∙ sym (descent_set-bits_of i parts h)

-- the nondecreasing word of exponents rises at the descents of what is left once zeros are left out
pub ascents-nondecreasing_word : (p : List ℕ) → ascents (nondecreasing_word p) ≡ descent_set (without_zeros p)
ascents-nondecreasing_word p = ascents-without_zeros p ∙ ascents-composition (without_zeros p) (IsComposition-without_zeros p)

length-nondecreasing_from : (x : ℕ) (p : List ℕ) → length (nondecreasing_from x p) ≡ sum (without_zeros p)
length-nondecreasing_from x [] = refl
length-nondecreasing_from x (zero ∷ p) = length-nondecreasing_from (suc x) p
length-nondecreasing_from x (suc n ∷ p) =
    omega (
      arith,
      length-append (replicate (suc n) x) (nondecreasing_from (suc x) p),
      length-replicate (suc n) x,
      length-nondecreasing_from (suc x) p,
      sum_by-cons (λ (k : ℕ). k) (suc n) (without_zeros p),
    )

-- and has their sum as its length
pub length-nondecreasing_word : (p : List ℕ) → length (nondecreasing_word p) ≡ sum (without_zeros p)
length-nondecreasing_word p = length-nondecreasing_from 1 p

-- the descent composition of the word of a composition is the composition
pub descent_composition-word_of_composition : (parts : List ℕ) → IsComposition parts → descent_composition (word_of_composition parts) ≡ parts
descent_composition-word_of_composition [] h = refl
descent_composition-word_of_composition (zero ∷ parts) h = absurd (omega (arith, h.0))
descent_composition-word_of_composition (suc n ∷ parts) h =
    descent_composition-steps (suc (length parts)) (replicate n (suc (length parts)) ++ word_of_composition parts)
    ∙ ap composition_of (steps-word_of_composition (suc n) parts h)
    ∙ composition_of-bits_of (suc n) parts h
