-- Steps of pushing the cuts of a permutation.
use Rattle.std.proofs.Common.{◌≡◌, ℕ, zero, suc, ◌+◌, ◌^◌, ◌<◌, ◌≤◌, List, [], ◌∷◌, length, take, drop, get_or, refl, ◌∙◌, ap, arith}
use Rattle.std.proofs.Math.IntN.{ℤ, pos}
use Rattle.std.proofs.lemmas.List.{get_or-map, length-map}
use Rattle.std.proofs.lemmas.List.FromFn.{get_or-map-range_with_len}
use Rattle.coproduct_laws.specs.Coproducts.{terms_of_pairs}
use Rattle.coproduct_laws.specs.ValueCuts.{letters_past, letters_up_to, lower, value_cuts}
use Rattle.coproduct_laws.proofs.WordCuts.{length-word_cuts}
use Rattle.coproduct_rules.specs.PlaceCuts.{place_cuts}
use Rattle.index_rules.specs.PushedTerms.{HoldsFirst}
use Rattle.index_rules.proofs.PairAnswers.{norm_of-pairs}
use Rattle.linear_combos.proofs.Weights.{norm-part}
use Rattle.realisations.specs.Codes.{Code, Key}
use Rattle.realisations.specs.Combinations.{Combination, norm_of, term_at}
use Rattle.realisations.specs.Standardisation.{standardise}
use Rattle.realisations.specs.Words.{greatest, word_cuts}
use Rattle.fqsym.proofs.Coproducts.{length-place_cuts, length-value_cuts}

-- there is a term for each pair
length-terms : (pairs : List (Code × Code)) → length (terms_of_pairs pairs) ≡ length pairs
length-terms pairs = length-map {B = ℤ × Key} pairs (λ (e : Code × Code). (pos 1, e.0 ∷ e.1 ∷ []))

-- the tensor of the pair at a place
tensor_at : (pairs : List (Code × Code)) (k : ℕ) (a b : Code) → k < length pairs → get_or pairs k ([], []) ≡ (a, b) → term_at (terms_of_pairs pairs) k ≡ (pos 1, a ∷ b ∷ [])
tensor_at pairs k a b here is =
    get_or-map (λ (e : Code × Code). (pos 1, e.0 ∷ e.1 ∷ [])) pairs k ([], []) (pos 0, []) here
    ∙ ap (λ (e : Code × Code). (pos 1, e.0 ∷ e.1 ∷ [])) is

-- one more has room
pub cuts_room : (pairs : List (Code × Code)) (k n : ℕ) (c : Combination) → length pairs ≡ suc n → n ≤ 15 → HoldsFirst (terms_of_pairs pairs) k c → norm_of c.terms + 1 < 2 ^ 127
cuts_room pairs k n c size few holds = omega (arith, holds.norm, norm-part (terms_of_pairs pairs) k, norm_of-pairs pairs, size, few)

-- the cut after a number of letters
cut_at : (w : Code) (k : ℕ) → k < suc (length w) → get_or (word_cuts w) k ([], []) ≡ (take k w, drop k w)
cut_at [] zero lt = refl
cut_at [] (suc k) lt = absurd (omega (arith, lt))
cut_at (x ∷ w) zero lt = refl
cut_at (x ∷ w) (suc k) lt =
    get_or-map (λ (c : Code × Code). (x ∷ c.0, c.1)) (word_cuts w) k ([], []) ([], []) (omega (arith, lt, length-word_cuts w))
    ∙ ap (λ (c : Code × Code). (x ∷ c.0, c.1)) (cut_at w k (omega (arith, lt)))

pub length-place_terms : (w : Code) → length (terms_of_pairs (place_cuts w)) ≡ suc (length w)
length-place_terms w = length-terms (place_cuts w) ∙ length-place_cuts w

pub place_term_at : (w : Code) (k : ℕ) → k < suc (length w) → term_at (terms_of_pairs (place_cuts w)) k ≡ (pos 1, standardise (take k w) ∷ standardise (drop k w) ∷ [])
place_term_at w k lt =
    tensor_at (place_cuts w) k (standardise (take k w)) (standardise (drop k w)) (omega (arith, lt, length-place_cuts w))
    (get_or-map (λ (c : Code × Code). (standardise c.0, standardise c.1)) (word_cuts w) k ([], []) ([], []) (omega (arith, lt, length-word_cuts w))
    ∙ ap (λ (c : Code × Code). (standardise c.0, standardise c.1)) (cut_at w k lt))

pub length-value_terms : (w : Code) → length (terms_of_pairs (value_cuts w)) ≡ suc (greatest w)
length-value_terms w = length-terms (value_cuts w) ∙ length-value_cuts w

-- the cut at a value
pub value_term_at : (w : Code) (k : ℕ) → k < suc (greatest w) → term_at (terms_of_pairs (value_cuts w)) k ≡ (pos 1, letters_up_to k w ∷ lower k (letters_past k w) ∷ [])
value_term_at w k lt =
    tensor_at (value_cuts w) k (letters_up_to k w) (lower k (letters_past k w)) (omega (arith, lt, length-value_cuts w))
    (get_or-map-range_with_len {X = Code × Code} (λ k. (letters_up_to k w, lower k (letters_past k w))) 0 (suc (greatest w)) k k ([], []) lt (omega arith))
