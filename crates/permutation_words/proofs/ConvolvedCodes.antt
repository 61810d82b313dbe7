-- The fronts and backs of convolutions are codes.
use Rattle.std.proofs.Common.{◌≡◌, ◌⊎◌, ℕ, ◌+◌, ◌<◌, ◌≤◌, List, ◌++◌, sym, ◌∙◌, ap, subst, arith}
use Rattle.std.proofs.lemmas.List.{length-append, length-map}
use Rattle.realisations.specs.Words.{greatest}
use Rattle.linear_combos.specs.Codes.{IsCode}
use Rattle.realisations.specs.Codes.{Code}
use Rattle.word_laws.specs.AddedCodes.{AddsEach}
use Rattle.word_laws.specs.Merges.{IsConvolutionFront, IsConvolutionPast}
use Rattle.word_laws.specs.Spreads.{raised_past, raise_past}
use Rattle.word_laws.proofs.Convolutions.{convolution_in_back, convolution_in_front, convolution_parts, joined_once}
use Rattle.word_laws.proofs.Spreads.{greatest_raised, positive_raised}
use Rattle.permutation_words.proofs.Codes.{IsCode-greatest, IsCode-permutation}

module _ (n : ℕ) (u v : List ℕ) (front : IsConvolutionFront n u v) where
  pub joined_code : (greatest u ≤ n) ⊎ (greatest v ≤ n) → IsCode (u ++ v)
  joined_code low = IsCode-permutation (u ++ v) (joined_once n u v front low) (omega (arith, front.short, length-append u v))

  module _ (past_u : n < greatest u) (past_v : n < greatest v) where
    pub raised_front_code : IsCode (raise_past n u)
    raised_front_code =
        IsCode-greatest (raise_past n u) (positive_raised n u front.positive_front) (omega (arith, greatest_raised n u past_u, front.whole, front.short))
        (omega (arith, front.short, length-map u (raised_past n)))

    pub raised_back_code : IsCode (raise_past n v)
    raised_back_code =
        IsCode-greatest (raise_past n v) (positive_raised n v front.positive_back) (omega (arith, greatest_raised n v past_v, front.whole, front.short))
        (omega (arith, front.short, length-map v (raised_past n)))

    -- the words of both choices
    pub convolved : (old mid new : List Code) (later more : Code) → later ≡ raise_past n v → more ≡ raise_past n u
        → AddsEach (IsConvolutionPast (n + 1) u later) old mid → AddsEach (IsConvolutionPast (n + 1) more v) mid new → AddsEach (IsConvolutionPast n u v) old new
    convolved old mid new later more is_later is_more first second =
        convolution_parts n u v front past_u past_v old mid new
        (subst (λ w. AddsEach (IsConvolutionPast (n + 1) u w) old mid) is_later first) (subst (λ w. AddsEach (IsConvolutionPast (n + 1) w v) mid new) is_more second)

    -- the fronts of both choices
    pub later_front : (later : Code) → later ≡ raise_past n v → IsConvolutionFront (n + 1) u later
    later_front later is = subst (λ w. IsConvolutionFront (n + 1) u w) (sym is) (convolution_in_front n u v front past_u past_v)

    pub more_front : (more : Code) → more ≡ raise_past n u → IsConvolutionFront (n + 1) more v
    more_front more is = subst (λ w. IsConvolutionFront (n + 1) w v) (sym is) (convolution_in_back n u v front past_u past_v)

    -- their greatest letters
    pub greatest_later : (later : Code) → later ≡ raise_past n v → greatest later ≡ greatest v + 1
    greatest_later later is = ap greatest is ∙ greatest_raised n v past_v

    pub greatest_more : (more : Code) → more ≡ raise_past n u → greatest more ≡ greatest u + 1
    greatest_more more is = ap greatest is ∙ greatest_raised n u past_u
