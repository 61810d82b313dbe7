use Rattle.std.proofs.Common.{◌≤◌, ◌∙◌, arith}
use Rattle.std.specs.List.{sum}
use Rattle.compositions.proofs.Parts.{composition_from_letters, code_from_composition}
use Rattle.index_spellings.specs.Indices.{all_positive}
use Rattle.index_spellings.specs.Items.{numbers_in}
use Rattle.index_spellings.proofs.Spellings.{code-spelled, nothing-spelled, composition-positive, positive-composition}
use Rattle.index_spellings.proofs.lists.composition_in.Goals as goal

pub returns-in_err-code : goal.returns-in_err-code
returns-in_err-code c =
    c.from_residual.ensures
    ∙ nothing-spelled c.args.limit all_positive (λ parts. sum parts) (λ parts. parts) (numbers_in c.args.items.now)
    (λ code is h. c.in_err-code.ensures code is (code_from_composition code (composition-positive code h.0) (omega (arith, h.1, c.requires))))

pub returns-then-sum-limit : goal.returns-then-sum-limit
returns-then-sum-limit c =
    let within : sum c.in_ok-code.code ≤ c.args.limit = omega (arith, c.sum.ensures.value, c.if-sum-limit.true) in
    code-spelled c.args.limit all_positive (λ parts. sum parts) (λ parts. parts) (numbers_in c.args.items.now) c.in_ok-code.code (c.in_ok-code.ensures).0
    (positive-composition c.in_ok-code.code (composition_from_letters c.in_ok-code.code c.sum.ensures.is_code.letters), within)
