-- Words whose letters and next ones all pass a test, and the places where they do.
use Rattle.std.proofs.Common.{◌≡◌, ℕ, zero, suc, ◌+◌, ◌-◌, ◌≤◌, Bool, true, false, List, [], ◌∷◌, length, refl, ◌∙◌, ap, arith}
use Rattle.std.specs.Prelude.{not, ◌&&◌, ◌||◌, if◌then◌else◌}
use Rattle.std.specs.List.{filter, range_with_len}
use Rattle.std.proofs.lemmas.Bool.{eq-eqb, ne_eqb}
use Rattle.realisations.specs.Descents.{places_where}
use Rattle.realisations.specs.Lists.{is_among, is_subset}
use Rattle.product_laws.proofs.MultiplicativeBases.{none_before}

-- each letter and the next one pass
abbrev pub is_chain : (ℕ → ℕ → Bool) → List ℕ → Bool
is_chain test [] = true
is_chain test (x ∷ []) = true
is_chain test (x ∷ y ∷ w) = test x y && is_chain test (y ∷ w)

-- no place passes where each fails
pub no_places : (test : ℕ → ℕ → Bool) (k : ℕ) (w : List ℕ) → is_subset (places_where test k w) [] ≡ is_chain (λ x y. not (test x y)) w
no_places test k [] = refl
no_places test k (x ∷ []) = refl
no_places test k (x ∷ y ∷ w) = by_test (test x y) (no_places test (suc k) (y ∷ w))
  where
    by_test : (b : Bool) → is_subset (places_where test (suc k) (y ∷ w)) [] ≡ is_chain (λ x y. not (test x y)) (y ∷ w)
        → is_subset (if b then k ∷ places_where test (suc k) (y ∷ w) else places_where test (suc k) (y ∷ w)) [] ≡ (not b && is_chain (λ x y. not (test x y)) (y ∷ w))
    by_test true ih = refl
    by_test false ih = ih

-- all places pass
pub all_places : (test : ℕ → ℕ → Bool) (k n : ℕ) (w all : List ℕ) → n ≡ length w - 1 → ((a : ℕ) → k ≤ a → is_among a all ≡ is_among a (places_where test k w))
    → is_subset (filter (λ a. not (is_among a [])) (range_with_len k n)) all ≡ is_chain test w
all_places test k zero [] all e same = refl
all_places test k (suc n) [] all e same = absurd (omega (arith, e))
all_places test k zero (x ∷ []) all e same = refl
all_places test k (suc n) (x ∷ []) all e same = absurd (omega (arith, e))
all_places test k zero (x ∷ y ∷ w) all e same = absurd (omega (arith, e))
all_places test k (suc n) (x ∷ y ∷ w) all e same =
    let next : k + 1 ≡ suc k = omega arith in
    let first : is_among k all ≡ test x y = same k (omega arith) ∙ here (test x y) in
    let rest = (λ i. is_subset (filter (λ a. not (is_among a [])) (range_with_len (next i) n)) all)
    ∙ all_places test (suc k) n (y ∷ w) all (omega (arith, e)) (λ a low. same a (omega (arith, low)) ∙ later a low (test x y)) in
    λ i. first i && rest i
  where
    later : (a : ℕ) → suc k ≤ a → (b : Bool) → is_among a (if b then k ∷ places_where test (suc k) (y ∷ w) else places_where test (suc k) (y ∷ w)) ≡ is_among a (places_where test (suc k) (y ∷ w))
    later a low true = ap (λ b. b || is_among a (places_where test (suc k) (y ∷ w))) (ne_eqb k a (λ e. omega (arith, e, low)))
    later a low false = refl

    here : (b : Bool) → is_among k (if b then k ∷ places_where test (suc k) (y ∷ w) else places_where test (suc k) (y ∷ w)) ≡ b
    here true = ap (λ b. b || is_among k (places_where test (suc k) (y ∷ w))) (eq-eqb k k refl)
    here false = none_before test (suc k) k (y ∷ w) (omega arith)
