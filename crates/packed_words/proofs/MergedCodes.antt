-- The fronts and backs of merges are codes.
use Rattle.std.proofs.Common.{◌≡◌, ◌⊎◌, ℕ, ◌+◌, ◌<◌, ◌≤◌, List, ◌++◌, length, sym, ◌∙◌, ap, subst, arith}
use Rattle.std.proofs.lemmas.List.{length-append, length-map}
use Rattle.realisations.specs.Codes.{Code}
use Rattle.realisations.specs.Words.{greatest}
use Rattle.linear_combos.specs.Codes.{IsCode}
use Rattle.permutation_words.proofs.Codes.{IsCode-greatest}
use Rattle.word_laws.specs.AddedCodes.{AddsEach}
use Rattle.word_laws.specs.Merges.{IsMergeFront, IsMergePast}
use Rattle.word_laws.specs.Spreads.{raised_past, raise_past}
use Rattle.word_laws.proofs.Merges.{merge_both, merge_in_back, merge_in_front, merge_parts, packed_joined}
use Rattle.word_laws.proofs.Spreads.{greatest_raised, positive_raised}
use Rattle.packed_words.proofs.PackedCodes.{IsCode-packed}

module _ (n : ℕ) (u v : List ℕ) (front : IsMergeFront n u v) where
  pub joined_code : IsCode (u ++ v)
  joined_code = IsCode-packed (u ++ v) (packed_joined n u v front) (omega (arith, front.short, length-append u v))

  module _ (past_u : n < greatest u) (past_v : n < greatest v) where
    pub raised_front_code : IsCode (raise_past n u)
    raised_front_code =
        IsCode-greatest (raise_past n u) (positive_raised n u front.positive_front) (omega (arith, greatest_raised n u past_u, front.small))
        (omega (arith, front.short, length-map u (raised_past n)))

    pub raised_back_code : IsCode (raise_past n v)
    raised_back_code =
        IsCode-greatest (raise_past n v) (positive_raised n v front.positive_back) (omega (arith, greatest_raised n v past_v, front.small))
        (omega (arith, front.short, length-map v (raised_past n)))

    -- the words of the three choices
    pub merged : (old mid last new : List Code) (later more : Code) → later ≡ raise_past n v → more ≡ raise_past n u
        → AddsEach (IsMergePast (n + 1) u later) old mid → AddsEach (IsMergePast (n + 1) more v) mid last → AddsEach (IsMergePast (n + 1) u v) last new → AddsEach (IsMergePast n u v) old new
    merged old mid last new later more is_later is_more first second third =
        merge_parts n u v front past_u past_v old mid last new
        (subst (λ w. AddsEach (IsMergePast (n + 1) u w) old mid) is_later first) (subst (λ w. AddsEach (IsMergePast (n + 1) w v) mid last) is_more second) third

    -- the fronts of the choices
    pub later_front : (later : Code) → later ≡ raise_past n v → IsMergeFront (n + 1) u later
    later_front later is = subst (λ w. IsMergeFront (n + 1) u w) (sym is) (merge_in_front n u v front past_u past_v)

    pub more_front : (more : Code) → more ≡ raise_past n u → IsMergeFront (n + 1) more v
    more_front more is = subst (λ w. IsMergeFront (n + 1) w v) (sym is) (merge_in_back n u v front past_u past_v)

    -- their greatest letters
    pub greatest_later : (later : Code) → later ≡ raise_past n v → greatest later ≡ greatest v + 1
    greatest_later later is = ap greatest is ∙ greatest_raised n v past_v

    pub greatest_more : (more : Code) → more ≡ raise_past n u → greatest more ≡ greatest u + 1
    greatest_more more is = ap greatest is ∙ greatest_raised n u past_u
