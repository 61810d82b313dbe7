use Rattle.std.proofs.Common.{[], ◌∷◌, ◌++◌, sym, subst, arith}
use Rattle.compositions.proofs.SmallCodes.{IsCode-ones}
use Rattle.linear_combos.specs.Codes.{IsCode}
use Rattle.ncsf.proofs.WordCodes.{code_with_one}
use Rattle.commuting_images.proofs.noncommutative.ones.Goals as goal

pub with-ones-requires : goal.with-ones-requires
with-ones-requires c =
    subst (λ w. IsCode (w ++ 1 ∷ [])) (sym c.loop.invariant) (code_with_one [] c.loop.counter c.args.count 1 (omega arith) (IsCode-ones c.args.count c.requires))
