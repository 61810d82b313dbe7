-- The decreasing tree and the recording tableau of a word each determine its descent composition.
use Rattle.std.proofs.Common.{◌≡◌, ℕ, zero, suc, ◌+◌, ◌<◌, ◌≤◌, Bool, true, false, List, [], ◌∷◌, map, length, refl, sym, ◌∙◌, ap, arith}
use Rattle.std.specs.Prelude.{IsTrue, nat_lt, if◌then◌else◌}
use Rattle.std.specs.List.{concat, range_with_len}
use Rattle.std.proofs.lemmas.Bool.{and_parts}
use Rattle.std.proofs.lemmas.Bool.Decides.{nat_tests}
use Rattle.realisations.specs.Descents.{descent_composition, longer_first}
use Rattle.realisations.specs.IndexKinds.{is_permutation}
use Rattle.realisations.specs.Standardisation.{inverse, place_of, standardise}
use Rattle.realisations.specs.Tableaux.{insertion_tableau, is_increasing, reading_word, recording_tableau, row_of, tableau_code}
use Rattle.realisations.specs.Trees.{decreasing_tree, tree_code}
use Rattle.basis_representatives.proofs.CodesByLetters.{decreasing_code, smaller_next}
use Rattle.basis_representatives.proofs.Entries.{count_same-enter_all, length-enter_all}
use Rattle.basis_representatives.proofs.Inverses.{inverse-inverse, permutation-inverse}
use Rattle.basis_representatives.proofs.Permutations.{HasEachOnce, permutation-standardise, permutation_from}
use Rattle.basis_representatives.proofs.SameOrder.{descent_composition-standardise}
use Rattle.basis_representatives.proofs.TreeCodes.{code-decreasing_tree}
use Rattle.tableau_laws.proofs.KnuthClasses.{knuth}
use Rattle.tableau_laws.proofs.NumberedTableaux.{standard-insertion}
use Rattle.inclusion_laws.specs.DescentsOfIndices.{composition_where, descents_of_tableau, descents_of_tree}
use Rattle.inclusion_laws.proofs.ComesBefore.{comes-chain, comes-place, comes-reading_word, rows_rise}

-- C(w) cuts a word behind its descents
descent_composition-where : (w : List ℕ) → descent_composition w ≡ composition_where (λ x y. nat_lt y x) w
descent_composition-where [] = refl
descent_composition-where (x ∷ []) = refl
descent_composition-where (x ∷ y ∷ w) = ap (λ c. if nat_lt y x then 1 ∷ c else longer_first c) (descent_composition-where (y ∷ w))

-- a node has a right child where its letter is greater than the next one
descents_of_tree-code : (w : List ℕ) → descents_of_tree (decreasing_code w) ≡ descent_composition w
descents_of_tree-code [] = refl
descents_of_tree-code (x ∷ []) = refl
descents_of_tree-code (x ∷ y ∷ w) = by_test (nat_lt y x) (descents_of_tree-code (y ∷ w))
  where
    by_test : (b : Bool) → descents_of_tree (decreasing_code (y ∷ w)) ≡ descent_composition (y ∷ w)
        → (if nat_lt 1 (suc (if b then suc (smaller_next x w) else 0)) then 1 ∷ descents_of_tree (decreasing_code (y ∷ w)) else longer_first (descents_of_tree (decreasing_code (y ∷ w))))
        ≡ (if b then 1 ∷ descent_composition (y ∷ w) else longer_first (descent_composition (y ∷ w)))
    by_test true ih = let e : nat_lt 1 (suc (suc (smaller_next x w))) ≡ true = grind (arith, nat_tests) in rw (e, ih) refl
    by_test false ih = ap longer_first ih

-- the decreasing tree determines the descents
pub descents_of_tree-decreasing : (w : List ℕ) → descents_of_tree (tree_code (decreasing_tree w)) ≡ descent_composition w
descents_of_tree-decreasing w = ap descents_of_tree (code-decreasing_tree w) ∙ descents_of_tree-code w

-- tests that agree on neighbours of a range
where_range : (test test' : ℕ → ℕ → Bool) (f g : ℕ → ℕ) (a n : ℕ) → ((i : ℕ) → a ≤ i → suc i < a + n → test (f i) (f (suc i)) ≡ test' (g i) (g (suc i)))
    → composition_where test (map f (range_with_len a n)) ≡ composition_where test' (map g (range_with_len a n))
where_range test test' f g a zero h = refl
where_range test test' f g a (suc zero) h = refl
where_range test test' f g a (suc (suc n)) h =
    let next : a + 1 ≡ suc a = omega arith in
    let here : test (f a) (f (a + 1)) ≡ test' (g a) (g (a + 1)) = ap (λ k. test (f a) (f k)) next ∙ h a (omega arith) (omega arith) ∙ ap (λ k. test' (g a) (g k)) (sym next) in
    rw (here, where_range test test' f g (a + 1) (suc n) (λ i from to. h i (omega arith) (omega arith))) refl

-- i + 1 has an earlier place than i where it stands in a lower row of the insertion tableau (Schensted 1961)
place-row : (s : List ℕ) → HasEachOnce s → (i : ℕ) → 1 ≤ i → suc i ≤ length s
    → nat_lt (place_of (suc i) s) (place_of i s) ≡ nat_lt (row_of i (insertion_tableau s)) (row_of (suc i) (insertion_tableau s))
place-row s h i from to =
    let is : IsTrue (is_permutation s) = permutation_from s h in
    let a = h.once i from (omega (arith, to)) in
    let b = h.once (suc i) (omega arith) to in
    let parts = and_parts (is_permutation (concat (insertion_tableau s))) (is_increasing (insertion_tableau s)) (standard-insertion s is) in
    sym (comes-place (suc i) i s (λ e. absurd (omega (arith, e))) (omega (arith, b)) (omega (arith, a)))
    ∙ comes-chain i s (reading_word (insertion_tableau s)) (knuth.to_reading_word s is)
    ∙ comes-reading_word i (insertion_tableau s) (rows_rise (insertion_tableau s) parts.1) (omega (arith, count_same-enter_all i s [], a)) (omega (arith, count_same-enter_all (suc i) s [], b))

-- the descents of the insertion tableau of a permutation are those of the inverse
descents_of_tableau-insertion : (s : List ℕ) → HasEachOnce s → descents_of_tableau (tableau_code (insertion_tableau s)) ≡ descent_composition (inverse s)
descents_of_tableau-insertion s h =
    let rows = insertion_tableau s in
    let size : length (concat rows) ≡ length s = omega (arith, length-enter_all s []) in
    ap (λ n. descents_of_tableau (map (λ i. row_of i rows) (range_with_len 1 n))) size
    ∙ where_range (λ x y. nat_lt x y) (λ x y. nat_lt y x) (λ i. row_of i rows) (λ i. place_of i s) 1 (length s) (λ i from to. sym (place-row s h i from (omega (arith, to))))
    ∙ sym (descent_composition-where (inverse s))

-- the recording tableau determines the descents
pub descents_of_tableau-recording : (w : List ℕ) → descents_of_tableau (tableau_code (recording_tableau w)) ≡ descent_composition w
descents_of_tableau-recording w =
    let s = standardise w in
    descents_of_tableau-insertion (inverse s) (permutation-inverse s (permutation-standardise w))
    ∙ ap descent_composition (inverse-inverse s (permutation-standardise w))
    ∙ descent_composition-standardise w
