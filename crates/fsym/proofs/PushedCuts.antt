-- Steps of cutting the permutations of a class.
use Rattle.std.proofs.Common.{◌≡◌, ℕ, zero, suc, ◌+◌, ◌<◌, ◌≤◌, List, [], ◌∷◌, ◌++◌, length, map, take, drop, get_or, refl, sym, ◌∙◌, ap, arith, append_assoc, append-nil, drop_of_length-le}
use Rattle.std.specs.List.{flat_map}
use Rattle.std.proofs.Math.IntN.{ℤ, pos}
use Rattle.std.proofs.lemmas.List.{drop-map, get_or-map, length-map}
use Rattle.coproduct_laws.specs.Coproducts.{terms_of_pairs}
use Rattle.coproduct_laws.proofs.WordCuts.{length-word_cuts}
use Rattle.coproduct_rules.specs.PlaceCuts.{place_cuts}
use Rattle.realisations.specs.Codes.{Code, Key}
use Rattle.realisations.specs.Combinations.{term_at}
use Rattle.realisations.specs.Standardisation.{standardise}
use Rattle.realisations.specs.Words.{word_cuts}
use Rattle.tableau_coproducts.specs.ClassCuts.{reading_pair}

-- the cuts from one on
cuts_from : (w : List ℕ) (k : ℕ) → k < suc (length w) → drop k (word_cuts w) ≡ (take k w, drop k w) ∷ drop (suc k) (word_cuts w)
cuts_from [] zero lt = refl
cuts_from [] (suc k) lt = absurd (omega (arith, lt))
cuts_from (x ∷ w) zero lt = refl
cuts_from (x ∷ w) (suc k) lt =
    let longer : List ℕ × List ℕ → List ℕ × List ℕ = λ c. (x ∷ c.0, c.1) in
    drop-map longer k (word_cuts w) ∙ ap (map longer) (cuts_from w k (omega (arith, lt))) ∙ ap (λ cs. (x ∷ take k w, drop k w) ∷ cs) (sym (drop-map longer (suc k) (word_cuts w)))

pub place_cuts_from : (w : List ℕ) (k : ℕ) → k < length w + 1 → drop k (place_cuts w) ≡ (standardise (take k w), standardise (drop k w)) ∷ drop (k + 1) (place_cuts w)
place_cuts_from w k lt =
    let standard : List ℕ × List ℕ → List ℕ × List ℕ = λ c. (standardise c.0, standardise c.1) in
    let next : suc k ≡ k + 1 = omega arith in
    drop-map standard k (word_cuts w)
    ∙ ap (map standard) (cuts_from w k (omega (arith, lt)))
    ∙ ap (λ cs. (standardise (take k w), standardise (drop k w)) ∷ cs) (sym (drop-map standard (suc k) (word_cuts w)) ∙ ap (λ m. drop m (place_cuts w)) next)

-- the pair of one more cut
pub next_pair : (out new : List (Code × Code)) (e : Code × Code) (cuts rest : List (Code × Code)) → cuts ≡ e ∷ rest → new ≡ out ++ reading_pair e
    → new ++ flat_map reading_pair rest ≡ out ++ flat_map reading_pair cuts
next_pair out new e cuts rest is pushed =
    ap (λ v. v ++ flat_map reading_pair rest) pushed ∙ append_assoc out (reading_pair e) (flat_map reading_pair rest) ∙ ap (λ cs. out ++ flat_map reading_pair cs) (sym is)

-- after the last cut none is left
pub no_cuts : (out : List (Code × Code)) (w : List ℕ) (k : ℕ) → length w + 1 ≤ k → out ≡ out ++ flat_map reading_pair (drop k (place_cuts w))
no_cuts out w k le =
    let size : length (place_cuts w) ≡ suc (length w) = length-map {B = Code × Code} (word_cuts w) (λ (c : Code × Code). (standardise c.0, standardise c.1)) ∙ length-word_cuts w in
    sym (append-nil out) ∙ ap (λ cs. out ++ flat_map reading_pair cs) (sym (drop_of_length-le (place_cuts w) (omega (arith, size, le))))

-- the tensor of a pair
pub term_of_pair : (pairs : List (Code × Code)) (k : ℕ) (e : Code × Code) → k < length pairs → e ≡ get_or pairs k e → term_at (terms_of_pairs pairs) k ≡ (pos 1, e.0 ∷ e.1 ∷ [])
term_of_pair pairs k e lt is =
    let tensor : Code × Code → ℤ × Key = λ d. (pos 1, d.0 ∷ d.1 ∷ []) in
    get_or-map tensor pairs k e (pos 0, []) lt ∙ ap tensor (sym is)

pub length-terms : (pairs : List (Code × Code)) → length (terms_of_pairs pairs) ≡ length pairs
length-terms pairs = length-map {B = ℤ × Key} pairs (λ (e : Code × Code). (pos 1, e.0 ∷ e.1 ∷ []))
