use Rattle.packed_words.proofs.CutWords.{small_up_to}
use Rattle.packed_words.proofs.packed.PackedWord.restrict_low.Goals as goal

pub invariant_of-result : goal.invariant_of-result
invariant_of-result c = rw c.low_letters.ensures (small_up_to c.args.k _ c.self.invariant)
