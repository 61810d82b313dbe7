use Rattle.std.proofs.Common.{◌≡◌, ◌<◌, ◌+◌, ℕ, List, length, get_or, arith, ◌∙◌, ap, sym, refl}
use Rattle.std.proofs.lemmas.List.{get_or-map, length-map}
use Rattle.realisations.specs.Words.{raise}
use Rattle.permutation_words.proofs.Building.{next_code, next_front}
use Rattle.permutation_words.proofs.interleaving.raised.Goals as goal

letter_at : (k : ℕ) (w : List ℕ) (i x y : ℕ) → i < length w → x ≡ get_or w i 0 → y ≡ k + x → y ≡ get_or (raise k w) i 0
letter_at k w i x y lt letter is = is ∙ ap (λ z. k + z) letter ∙ sym (get_or-map (λ z. k + z) w i 0 0 lt)

pub with-out-requires : goal.with-out-requires
with-out-requires c =
    next_code (raise c.args.by c.args.code.now) c.loop-at.out c.loop-at.at (c.args.by + c.letter.result)
    (record { short = omega (arith, length-map c.args.code.now (λ z. c.args.by + z), c.len-at-end.ensures.is_code.short); letters = c.requires })
    (omega (arith, length-map c.args.code.now (λ z. c.args.by + z), c.len-at-end.ensures.value)) c.loop-at.invariant
    (letter_at c.args.by c.args.code.now c.loop-at.at c.letter.result (c.args.by + c.letter.result) (omega (arith, c.len-at-end.ensures.value)) c.letter.ensures refl)

pub loop-at-preserved : goal.loop-at-preserved
loop-at-preserved c =
    c.with-out.ensures
    ∙ next_front (raise c.args.by c.args.code.now) c.loop-at.out c.loop-at.at (c.loop-at.at + 1) (c.args.by + c.letter.result)
    (omega (arith, length-map c.args.code.now (λ z. c.args.by + z), c.len-at-end.ensures.value)) refl c.loop-at.invariant
    (letter_at c.args.by c.args.code.now c.loop-at.at c.letter.result (c.args.by + c.letter.result) (omega (arith, c.len-at-end.ensures.value)) c.letter.ensures refl)
