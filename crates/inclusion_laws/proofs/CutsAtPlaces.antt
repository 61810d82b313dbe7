-- Sums over the cuts of a word.
use Rattle.std.proofs.Common.{◌≡◌, ℕ, suc, ◌+◌, List, [], ◌∷◌, length, take, drop, refl, sym, ◌∙◌, ap}
use Rattle.std.specs.List.{range_with_len}
use Rattle.realisations.specs.Words.{word_cuts}
use Rattle.realisations.proofs.Sums.{sums, sums-map}
use Rattle.coproduct_rules.proofs.Ranges.{sums_range_shift}

-- the cuts of a word are those after each number of letters
pub word_cuts_at : (f : List ℕ × List ℕ → ℕ) (w : List ℕ) → sums f (word_cuts w) ≡ sums (λ k. f (take k w, drop k w)) (range_with_len 0 (suc (length w)))
word_cuts_at f [] = refl
word_cuts_at f (x ∷ w) =
    ap (λ n. f ([], x ∷ w) + n)
    (sums-map f (λ (c : List ℕ × List ℕ). (x ∷ c.0, c.1)) (word_cuts w)
    ∙ word_cuts_at (λ c. f (x ∷ c.0, c.1)) w ∙ sym (sums_range_shift (λ k. f (take k (x ∷ w), drop k (x ∷ w))) 0 (suc (length w))))
