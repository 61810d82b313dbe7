use Rattle.std.proofs.Common.{◌≡◌, ◌<◌, ◌≤◌, ◌-◌, ◌+◌, ℕ, List, length, get_or, arith, ◌∙◌, sym}
use Rattle.std.proofs.lemmas.List.FromFn.{get_or-map-range_with_len}
use Rattle.realisations.specs.Standardisation.{inverse, place_of}
use Rattle.basis_representatives.proofs.Inverses.{length-inverse}
use Rattle.permutation_words.proofs.Building.{next_code, next_front, whole_front}
use Rattle.permutation_words.proofs.Codes.{IsCode-inverse}
use Rattle.permutation_words.proofs.permutation.places.Goals as goal

-- the place of a letter is a letter of the inverse
place_at : (s : List ℕ) (x i y : ℕ) → y ≡ place_of x s → 1 ≤ x → x < length s + 1 → i ≡ x - 1 → y ≡ get_or (inverse s) i 0
place_at s x i y is low high at =
    is ∙ sym (get_or-map-range_with_len (λ k. place_of k s) 1 (length s) i x 0 (omega (arith, low, high, at)) (omega (arith, low, high, at)))

pub with-places-requires : goal.with-places-requires
with-places-requires c =
    let s : List ℕ = c.args.word.now in
    let x : ℕ = c.loop-letter.letter in
    next_code (inverse s) c.loop-letter.places (x - 1) c.place.result (IsCode-inverse s c.requires)
    (omega (arith, length-inverse s)) c.loop-letter.invariant (place_at s x (x - 1) c.place.result c.place.ensures (omega arith) (omega arith) (omega arith))

pub loop-letter-preserved : goal.loop-letter-preserved
loop-letter-preserved c =
    let s : List ℕ = c.args.word.now in
    let x : ℕ = c.loop-letter.letter in
    c.with-places.ensures
    ∙ next_front (inverse s) c.loop-letter.places (x - 1) (x + 1 - 1) c.place.result (omega (arith, length-inverse s)) (omega arith) c.loop-letter.invariant
    (place_at s x (x - 1) c.place.result c.place.ensures (omega arith) (omega arith) (omega arith))

pub returns : goal.returns
returns c =
    whole_front (inverse c.args.word.now) c.loop-letter.places (c.loop-letter.letter - 1) (omega (arith, length-inverse c.args.word.now)) c.loop-letter.invariant
