-- The commuting images of S and of L of one part: F of that part, and M of as many parts 1 (Gelfand, Krob, Lascoux, Leclerc, Retakh, Thibon 1995).
use Rattle.std.proofs.Common.{◌≡◌, ℕ, zero, suc, ◌-◌, ◌*◌, Bool, true, false, List, [], ◌∷◌, length, replicate, refl, sym, ◌∙◌, ap, arith}
use Rattle.std.specs.Prelude.{nat_eq, nat_lt, ◌&&◌}
use Rattle.std.specs.List.{sum}
use Rattle.std.proofs.lemmas.Bool.{eqb-true}
use Rattle.std.proofs.lemmas.Bool.Decides.{nat_tests}
use Rattle.std.proofs.lemmas.List.{length-append}
use Rattle.basis_names.specs.declared.bases.BasisId.TheVariants.{NcsfS, NcsfL, QsymM, QsymF}
use Rattle.realisations.specs.Descents.{descents, places_outside}
use Rattle.realisations.specs.Exponents.{nondecreasing_from}
use Rattle.realisations.specs.Lists.{is_subset, one_if}
use Rattle.realisations.specs.Occurrence.{occurs}
use Rattle.realisations.specs.Words.{words_of}
use Rattle.realisations.proofs.Sums.{sums-scale}
use Rattle.basis_representatives.proofs.SameLists.{one_if-and}
use Rattle.inclusion_laws.proofs.CountsOfWords.{sums_every, words_at}
use Rattle.product_laws.proofs.Parts.{sum-cons}
use Rattle.commuting_images.proofs.LettersOfWords.{AreFrom, falls_on, one_falls, one_if_squarefree, one_rises, rises_on, words_are_from}
use Rattle.commuting_images.proofs.NeighbourTests.{all_places, is_chain, no_places}

sum-one : (i : ℕ) → sum (i ∷ []) ≡ i
sum-one i = omega (arith, sum-cons i [])

length-repeated : (n j : ℕ) → length (replicate n j) ≡ n
length-repeated zero j = refl
length-repeated (suc n) j = omega (arith, length-repeated n j)

-- the nondecreasing word has as many letters as the monomial
length-nondecreasing : (j : ℕ) (p : List ℕ) → length (nondecreasing_from j p) ≡ sum p
length-nondecreasing j [] = refl
length-nondecreasing j (n ∷ p) =
    omega (arith, length-append (replicate n j) (nondecreasing_from (suc j) p), length-repeated n j, length-nondecreasing (suc j) p, sum-cons n p)

-- no letter is below 0
rises_from_zero : (w : List ℕ) → is_chain rises_on w ≡ is_chain rises_on (0 ∷ w)
rises_from_zero [] = refl
rises_from_zero (x ∷ w) = let up : rises_on 0 x ≡ true = grind (arith, nat_tests) in rw up refl

-- S of one part occurs at the words of its length that rise throughout
pub complete_at_one_part : (i : ℕ) (p : List ℕ) → words_at NcsfS (i ∷ []) p ≡ one_if (occurs QsymF (i ∷ []) p)
complete_at_one_part i p =
    sums_every (AreFrom (sum p) 1) (λ w. one_if (occurs NcsfS (i ∷ []) w)) (λ w. one_if (nat_eq (sum p) (sum (i ∷ []))) * one_if (is_chain rises_on (0 ∷ w)))
    (λ w h. (λ k. one_if (nat_eq (h.0 k) (sum (i ∷ [])) && (no_places (λ x y. nat_lt y x) 1 w ∙ rises_from_zero w) k)) ∙ one_if-and (nat_eq (sum p) (sum (i ∷ []))) (is_chain rises_on (0 ∷ w)))
    (words_of p) (words_are_from 1 p)
    ∙ sums-scale (one_if (nat_eq (sum p) (sum (i ∷ [])))) (λ w. one_if (is_chain rises_on (0 ∷ w))) (words_of p)
    ∙ ap (λ m. one_if (nat_eq (sum p) (sum (i ∷ []))) * m) (one_rises 0 1 p (omega arith))
    ∙ by_test (nat_eq (sum p) (sum (i ∷ [])))
    ∙ ap (λ m. one_if (nat_eq m (sum (i ∷ [])) && true)) (sym (length-nondecreasing 1 p))
  where
    by_test : (t : Bool) → one_if t * 1 ≡ one_if (t && true)
    by_test true = refl
    by_test false = refl

same_if : (a b c : Bool) → (a ≡ true → b ≡ c) → (a && b) ≡ (a && c)
same_if true b c h = h refl
same_if false b c h = refl

-- the places outside the descents of one part are all
falls_throughout : (i : ℕ) (w : List ℕ) → occurs NcsfL (i ∷ []) w ≡ (nat_eq (length w) i && is_chain falls_on w)
falls_throughout i w =
    ap (λ m. nat_eq (length w) m && is_subset (places_outside (i ∷ [])) (descents w)) (sum-one i)
    ∙ same_if (nat_eq (length w) i) (is_subset (places_outside (i ∷ [])) (descents w)) (is_chain falls_on w)
    (λ e. all_places falls_on 1 (sum (i ∷ []) - 1) w (descents w) (omega (arith, sum-one i, eqb-true (length w) i e)) (λ a low. refl))

-- the exponents are as many ones, and zeros
ones : (i : ℕ) (p : List ℕ) → one_if (nat_eq (sum p) i) * one_if_squarefree p ≡ one_if (occurs QsymM (replicate i 1) p)
ones zero [] = refl
ones (suc i) [] = let e : nat_eq (sum []) (suc i) ≡ false = grind (arith, nat_tests) in rw e refl
ones i (zero ∷ p) = let e : sum (0 ∷ p) ≡ sum p = omega (arith, sum-cons 0 p) in rw e (omega (arith, ones i p))
ones zero (suc n ∷ p) =
    let e : nat_eq (sum (suc n ∷ p)) 0 ≡ false = grind (arith, nat_tests, sum-cons (suc n) p) in
    rw e (omega arith)
ones (suc i) (suc zero ∷ p) =
    let e : nat_eq (sum (1 ∷ p)) (suc i) ≡ nat_eq (sum p) i = grind (arith, nat_tests, sum-cons 1 p) in
    rw e (omega (arith, ones i p))
ones (suc i) (suc (suc n) ∷ p) = let e : nat_eq (suc (suc n)) 1 ≡ false = grind (arith, nat_tests) in rw e (omega arith)

-- L of one part occurs at the words of its length that fall throughout
pub elementary_at_one_part : (i : ℕ) (p : List ℕ) → words_at NcsfL (i ∷ []) p ≡ one_if (occurs QsymM (replicate i 1) p)
elementary_at_one_part i p =
    sums_every (AreFrom (sum p) 1) (λ w. one_if (occurs NcsfL (i ∷ []) w)) (λ w. one_if (nat_eq (sum p) i) * one_if (is_chain falls_on w))
    (λ w h. ap one_if (falls_throughout i w) ∙ ap (λ m. one_if (nat_eq m i && is_chain falls_on w)) h.0 ∙ one_if-and (nat_eq (sum p) i) (is_chain falls_on w))
    (words_of p) (words_are_from 1 p)
    ∙ sums-scale (one_if (nat_eq (sum p) i)) (λ w. one_if (is_chain falls_on w)) (words_of p)
    ∙ ap (λ m. one_if (nat_eq (sum p) i) * m) (one_falls 1 p)
    ∙ ones i p

-- S and L of no part are 1
pub complete_at_none : (p : List ℕ) → words_at NcsfS [] p ≡ words_at NcsfL (0 ∷ []) p
complete_at_none p = sums_every (AreFrom (sum p) 1) (λ w. one_if (occurs NcsfS [] w)) (λ w. one_if (occurs NcsfL (0 ∷ []) w)) (λ w h. at_none w) (words_of p) (words_are_from 1 p)
  where
    at_none : (w : List ℕ) → one_if (occurs NcsfS [] w) ≡ one_if (occurs NcsfL (0 ∷ []) w)
    at_none [] = refl
    at_none (x ∷ w) = let e : nat_eq (length (x ∷ w)) 0 ≡ false = grind (arith, nat_tests) in rw e refl

pub elementary_at_none : (p : List ℕ) → words_at NcsfL [] p ≡ words_at NcsfL (0 ∷ []) p
elementary_at_none p = sums_every (AreFrom (sum p) 1) (λ w. one_if (occurs NcsfL [] w)) (λ w. one_if (occurs NcsfL (0 ∷ []) w)) (λ w h. at_none w) (words_of p) (words_are_from 1 p)
  where
    at_none : (w : List ℕ) → one_if (occurs NcsfL [] w) ≡ one_if (occurs NcsfL (0 ∷ []) w)
    at_none [] = refl
    at_none (x ∷ w) = refl
