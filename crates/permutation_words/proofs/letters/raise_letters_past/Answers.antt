use Rattle.std.proofs.Common.{◌≡◌, ◌<◌, ◌+◌, ℕ, List, length, get_or, arith, ◌∙◌, ap, sym, refl}
use Rattle.std.proofs.lemmas.List.{get_or-map, length-map}
use Rattle.word_laws.specs.Spreads.{raised_past, raise_past}
use Rattle.permutation_words.proofs.Building.{next_code, next_front}
use Rattle.permutation_words.proofs.letters.raise_letters_past.Goals as goal

letter_at : (n : ℕ) (w : List ℕ) (i x y : ℕ) → i < length w → x ≡ get_or w i 0 → y ≡ raised_past n x → y ≡ get_or (raise_past n w) i 0
letter_at n w i x y lt letter is = is ∙ ap (raised_past n) letter ∙ sym (get_or-map (raised_past n) w i 0 0 lt)

pub with-raised-requires : goal.with-raised-requires
with-raised-requires c =
    next_code (raise_past c.args.n c.args.word.now) c.loop-at.raised c.loop-at.at c.letter_past.result c.requires
    (omega (arith, length-map c.args.word.now (raised_past c.args.n), c.len-at-end.ensures.value)) c.loop-at.invariant
    (letter_at c.args.n c.args.word.now c.loop-at.at c.letter.result c.letter_past.result (omega (arith, c.len-at-end.ensures.value)) c.letter.ensures c.letter_past.ensures)

pub loop-at-preserved : goal.loop-at-preserved
loop-at-preserved c =
    c.with-raised.ensures
    ∙ next_front (raise_past c.args.n c.args.word.now) c.loop-at.raised c.loop-at.at (c.loop-at.at + 1) c.letter_past.result
    (omega (arith, length-map c.args.word.now (raised_past c.args.n), c.len-at-end.ensures.value)) refl c.loop-at.invariant
    (letter_at c.args.n c.args.word.now c.loop-at.at c.letter.result c.letter_past.result (omega (arith, c.len-at-end.ensures.value)) c.letter.ensures c.letter_past.ensures)
