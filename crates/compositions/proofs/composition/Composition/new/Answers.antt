use Rattle.std.proofs.Common.{arith}
use Rattle.compositions.specs.Sizes.{IsSmallComposition}
use Rattle.compositions.proofs.Parts.{code_from_composition}
use Rattle.compositions.proofs.composition.Composition.new.Goals as goal

pub returns-in_err-code : goal.returns-in_err-code
returns-in_err-code c =
    rw c.from_residual.ensures (λ (h : IsSmallComposition c.args.parts.now). c.in_err-code.ensures (code_from_composition c.args.parts.now h.positive (omega (arith, h.small))))
