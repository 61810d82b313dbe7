-- Lists that are cut after places, from the last place on.
use Rattle.std.proofs.Common.{◌≡◌, ℕ, zero, suc, ◌+◌, ◌-◌, ◌<◌, ◌≤◌, Bool, true, false, List, [], ◌∷◌, drop, length, get_or, refl, sym, ◌∙◌, ap, subst, arith, length-drop}
use Rattle.std.specs.Prelude.{if◌then◌else◌}
use Rattle.realisations.specs.Descents.{longer_first}
use Rattle.basis_representatives.proofs.Letters.{Letters-weaker, UpTo}
use Rattle.inclusion_laws.specs.DescentsOfIndices.{composition_where}
use Rattle.linear_combos.specs.Codes.{IsCode}
use Rattle.permutation_words.proofs.Codes.{IsCode-up_to}

-- one place is one part
one_place : (cut : Bool) → 1 ∷ [] ≡ (if cut then 1 ∷ [] else longer_first [])
one_place true = refl
one_place false = refl

-- from a place on: whether it is cut off from the others is the test of its number and the next one
from_place : (test : ℕ → ℕ → Bool) (w : List ℕ) (at : ℕ) (cut : Bool) → at < length w → (suc at < length w → cut ≡ test (get_or w at 0) (get_or w (suc at) 0))
    → composition_where test (drop at w) ≡ (if cut then 1 ∷ composition_where test (drop (suc at) w) else longer_first (composition_where test (drop (suc at) w)))
from_place test [] at cut lt tested = absurd (omega (arith, lt))
from_place test (x ∷ []) zero cut lt tested = one_place cut
from_place test (x ∷ y ∷ w) zero cut lt tested =
    ap (λ (b : Bool). if b then 1 ∷ composition_where test (y ∷ w) else longer_first (composition_where test (y ∷ w))) (sym (tested (omega arith)))
from_place test (x ∷ w) (suc at) cut lt tested = from_place test w at cut (omega (arith, lt)) (λ k. tested (omega (arith, k)))

-- the parts are at most as many, and as large, as there are places
parts-more : (n : ℕ) (parts : List ℕ) → UpTo n parts → UpTo (suc n) parts
parts-more n parts h = Letters-weaker (λ x. (1 ≤ x) × (x ≤ n)) (λ x. (1 ≤ x) × (x ≤ suc n)) (λ x k. (k.0, omega (arith, k.1))) parts h

parts_step : (n : ℕ) (b : Bool) (parts : List ℕ) → UpTo n parts × (length parts ≤ n)
    → UpTo (suc n) (if b then 1 ∷ parts else longer_first parts) × (length (if b then 1 ∷ parts else longer_first parts) ≤ suc n)
parts_step n true parts h = (((omega arith, omega arith), parts-more n parts h.0), omega (arith, h.1))
parts_step n false [] h = (((omega arith, omega arith), tt), omega arith)
parts_step n false (i ∷ parts) h = (((omega arith, omega (arith, h.0.0.1)), parts-more n parts h.0.1), omega (arith, h.1))

small_parts : (test : ℕ → ℕ → Bool) (w : List ℕ) → UpTo (length w) (composition_where test w) × (length (composition_where test w) ≤ length w)
small_parts test [] = (tt, omega arith)
small_parts test (x ∷ []) = (((omega arith, omega arith), tt), omega arith)
small_parts test (x ∷ y ∷ w) = parts_step (suc (length w)) (test x y) (composition_where test (y ∷ w)) (small_parts test (y ∷ w))

IsCode-composition_where : (test : ℕ → ℕ → Bool) (w : List ℕ) → length w ≤ 15 → IsCode (composition_where test w)
IsCode-composition_where test w short = let small = small_parts test w in IsCode-up_to (length w) (composition_where test w) short (omega (arith, small.1)) small.0

-- the parts of the last places, and one place before them
pub place_before : (test : ℕ → ℕ → Bool) (w parts : List ℕ) (done : ℕ) (cut : Bool) → done < length w → parts ≡ composition_where test (drop (length w - done) w)
    → (1 ≤ done → cut ≡ test (get_or w (length w - done - 1) 0) (get_or w (length w - done) 0))
    → (if cut then 1 ∷ parts else longer_first parts) ≡ composition_where test (drop (length w - (done + 1)) w)
place_before test w parts done cut lt is tested =
    let here : suc (length w - (done + 1)) ≡ length w - done = omega (arith, lt) in
    let same : length w - done - 1 ≡ length w - (done + 1) = omega arith in
    ap (λ (v : List ℕ). if cut then 1 ∷ v else longer_first v) (is ∙ ap (λ k. composition_where test (drop k w)) (sym here))
    ∙ sym
    (from_place test w (length w - (done + 1)) cut (omega (arith, lt))
    (λ k. tested (omega (arith, k, lt)) ∙ ap (λ i. test (get_or w i 0) (get_or w (length w - done) 0)) same ∙ ap (λ i. test (get_or w (length w - (done + 1)) 0) (get_or w i 0)) (sym here)))

-- they are a code
pub code_before : (test : ℕ → ℕ → Bool) (w parts : List ℕ) (done : ℕ) (cut : Bool) → done < length w → length w ≤ 15 → parts ≡ composition_where test (drop (length w - done) w)
    → (1 ≤ done → cut ≡ test (get_or w (length w - done - 1) 0) (get_or w (length w - done) 0))
    → IsCode (if cut then 1 ∷ parts else longer_first parts)
code_before test w parts done cut lt short is tested =
    subst IsCode (sym (place_before test w parts done cut lt is tested))
    (IsCode-composition_where test (drop (length w - (done + 1)) w) (omega (arith, short, length-drop (length w - (done + 1)) w)))
