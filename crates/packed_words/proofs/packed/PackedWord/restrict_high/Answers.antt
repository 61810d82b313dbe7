use Rattle.packed_words.proofs.CutWords.{small_past}
use Rattle.packed_words.proofs.packed.PackedWord.restrict_high.Goals as goal

pub invariant_of-result : goal.invariant_of-result
invariant_of-result c = rw c.lowered_letters.ensures.lowered (small_past c.args.k _ c.self.invariant)
