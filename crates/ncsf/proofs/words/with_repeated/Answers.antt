use Rattle.std.proofs.Common.{◌∷◌, [], ◌++◌, sym, subst, arith}
use Rattle.linear_combos.specs.Codes.{IsCode}
use Rattle.ncsf.proofs.WordCodes.{code_with_one}
use Rattle.ncsf.proofs.words.with_repeated.Goals as goal

pub with-longer-requires : goal.with-longer-requires
with-longer-requires c =
    subst (λ w. IsCode (w ++ c.args.letter ∷ [])) (sym c.loop.invariant) (code_with_one c.args.word.now c.loop.counter c.args.count c.args.letter (omega arith) c.requires)
