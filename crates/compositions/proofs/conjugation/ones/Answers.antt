use Rattle.std.proofs.Common.{suc, ◌∷◌, sym, subst, arith}
use Rattle.linear_combos.specs.Codes.{IsCode}
use Rattle.compositions.proofs.SmallCodes.{IsCode-ones}
use Rattle.compositions.proofs.conjugation.ones.Goals as goal

pub part_before-code-requires : goal.part_before-code-requires
part_before-code-requires c = subst (λ ps. IsCode (1 ∷ ps)) (sym c.loop.invariant) (IsCode-ones (suc c.loop.counter) (omega arith))
