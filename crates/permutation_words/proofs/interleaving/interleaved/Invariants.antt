use Rattle.std.proofs.Common.{◌≡◌, ◌+◌, length, drop}
use Rattle.std.specs.Prelude.{IsTrue}
use Rattle.linear_combos.specs.Codes.{all_letters}
use Rattle.permutation_words.specs.Interleaving.{put_in}
use Rattle.permutation_words.proofs.interleaving.interleaved.Given as goal

abbrev pub invariant-loop-at : goal.invariant-loop-at
invariant-loop-at l =
    (put_in (drop l.at l.places) (drop l.at l.a) l.word ≡ put_in l.places l.a l.b) × (length l.word ≡ length l.b + l.at) × IsTrue (all_letters l.word)
