use Rattle.std.proofs.Common.{◌≡◌, ◌<◌, ◌≤◌, ◌-◌, ◌+◌, ℕ, List, get_or, arith, ◌∙◌, sym}
use Rattle.std.proofs.lemmas.List.FromFn.{get_or-map-range_with_len}
use Rattle.realisations.specs.Standardisation.{count_same}
use Rattle.realisations.specs.Words.{greatest}
use Rattle.basis_representatives.proofs.PackedWords.{all_letters}
use Rattle.permutation_words.specs.Evaluations.{evaluation}
use Rattle.permutation_words.proofs.Building.{next_code, next_front, whole_front}
use Rattle.permutation_words.proofs.Codes.{IsCode-evaluation, length-evaluation}
use Rattle.permutation_words.proofs.words.evaluation.Goals as goal

-- the count of a letter is a letter of the evaluation
count_at : (u : List ℕ) (x i y : ℕ) → y ≡ count_same x u → 1 ≤ x → x < greatest u + 1 → i ≡ x - 1 → y ≡ get_or (evaluation u) i 0
count_at u x i y is low high at =
    is ∙ sym (get_or-map-range_with_len (λ k. count_same k u) 1 (greatest u) i x 0 (omega (arith, low, high, at)) (omega (arith, low, high, at)))

pub with-counts-requires : goal.with-counts-requires
with-counts-requires c =
    let u : List ℕ = c.args.word.now in
    let x : ℕ = c.loop-letter.letter in
    next_code (evaluation u) c.loop-letter.counts (x - 1) c.number_of.result (IsCode-evaluation u (all_letters u c.requires) c.number_of.ensures.is_code.short)
    (omega (arith, length-evaluation u)) c.loop-letter.invariant (count_at u x (x - 1) c.number_of.result c.number_of.ensures.value (omega arith) (omega arith) (omega arith))

pub loop-letter-preserved : goal.loop-letter-preserved
loop-letter-preserved c =
    let u : List ℕ = c.args.word.now in
    let x : ℕ = c.loop-letter.letter in
    c.with-counts.ensures
    ∙ next_front (evaluation u) c.loop-letter.counts (x - 1) (x + 1 - 1) c.number_of.result (omega (arith, length-evaluation u)) (omega arith) c.loop-letter.invariant
    (count_at u x (x - 1) c.number_of.result c.number_of.ensures.value (omega arith) (omega arith) (omega arith))

pub returns : goal.returns
returns c =
    whole_front (evaluation c.args.word.now) c.loop-letter.counts (c.loop-letter.letter - 1) (omega (arith, length-evaluation c.args.word.now)) c.loop-letter.invariant
