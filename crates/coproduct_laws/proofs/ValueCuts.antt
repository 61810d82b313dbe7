-- A packed word is as often a shuffle of a and of b raised above a as its letters up to some k are a and those past k, lowered, are b.
use Rattle.std.proofs.Common.{◌≡◌, ℕ, suc, ◌*◌, ◌<◌, ◌≤◌, List, sym, ◌∙◌, ap, arith}
use Rattle.std.specs.List.{range_with_len}
use Rattle.realisations.specs.Lists.{same_list, one_if}
use Rattle.realisations.specs.Points.{word, IsPoint}
use Rattle.realisations.specs.Words.{greatest, raise}
use Rattle.realisations.proofs.Sums.{sums, sums-map}
use Rattle.basis_representatives.proofs.PackedWords.{HasAllLetters, letters_to_greatest}
use Rattle.basis_representatives.proofs.SameLists.{same_list-false}
use Rattle.coproduct_laws.specs.ValueCuts.{letters_up_to, letters_past, lower, value_cuts}
use Rattle.coproduct_laws.proofs.CutLetters.{greatest_up_to, greatest_up_to_le}
use Rattle.coproduct_laws.proofs.LowAndHigh.{high_raised, high_past, same_list-raise}
use Rattle.coproduct_laws.proofs.RangeSums.{sums_up_to_single}
use Rattle.coproduct_laws.proofs.ShuffleCounts.{shuffle_count}
use Rattle.coproduct_laws.proofs.Shuffling.{over_shuffles}

-- the cuts of a word at k that are (a, b): one or none
abbrev cut_at : List ℕ → List ℕ → List ℕ → ℕ → ℕ
cut_at w a b k = one_if (same_list a (letters_up_to k w)) * one_if (same_list b (lower k (letters_past k w)))

-- only the cut at the greatest letter of a can be (a, b)
pub value_cuts_count : (w : List ℕ) → HasAllLetters w → (a b : List ℕ) → IsPoint word b
    → over_shuffles (λ x. one_if (same_list x w)) a (raise (greatest a) b) ≡ sums (λ e. one_if (same_list a e.0) * one_if (same_list b e.1)) (value_cuts w)
value_cuts_count w packed a b points =
    shuffle_count (greatest a) a (raise (greatest a) b) (letters_to_greatest a (greatest a) (omega arith)) (high_raised (greatest a) b points) w
    ∙ ap (λ t. one_if (same_list a (letters_up_to (greatest a) w)) * one_if t) (same_list-raise (greatest a) b (letters_past (greatest a) w) (high_past (greatest a) w))
    ∙ sym (sums_up_to_single (cut_at w a b) (greatest a) (greatest w) other past)
    ∙ sym (sums-map (λ (e : List ℕ × List ℕ). one_if (same_list a e.0) * one_if (same_list b e.1)) (λ k. (letters_up_to k w, lower k (letters_past k w))) (range_with_len 0 (suc (greatest w))))
  where
    none : (k : ℕ) → (greatest a ≡ greatest (letters_up_to k w) → ⊥) → cut_at w a b k ≡ 0
    none k apart = ap (λ t. one_if t * one_if (same_list b (lower k (letters_past k w)))) (same_list-false greatest a (letters_up_to k w) apart) ∙ omega arith

    other : (k : ℕ) → k ≤ greatest w → (k ≡ greatest a → ⊥) → cut_at w a b k ≡ 0
    other k le apart = none k (λ e. apart (sym (e ∙ greatest_up_to w packed k le)))

    past : greatest w < greatest a → cut_at w a b (greatest a) ≡ 0
    past more = none (greatest a) (λ e. omega (arith, e, greatest_up_to_le (greatest a) w))
