use Rattle.std.proofs.Common.{◌+◌, [], ◌∷◌, arith, rules}
use Rattle.std.specs.Prelude.{IfOk}
use Rattle.std.specs.List.{sum}
use Rattle.std.proofs.lemmas.Result.{IfOk-weaker}
use Rattle.basis_names.specs.declared.bases.BasisId.TheVariants.{QsymM}
use Rattle.index_rules.specs.Rules.{IsAnswerWithin}
use Rattle.realisations.specs.Answers.{IsAnswer}
use Rattle.realisations.specs.Codes.{Code}
use Rattle.realisations.specs.Readings.{element, product}
use Rattle.qsym.proofs.Growth.{product_within}
use Rattle.qsym.proofs.monomial.QsymMAlgebra.product.Goals as goal

pub returns : goal.returns
returns c =
    let j : Code = c.args.left.now in
    let k : Code = c.args.right.now in
    let is : IfOk c.quasi_shuffle.result (IsAnswer (QsymM ∷ []) (sum j + sum k) (product (element QsymM j) (element QsymM k))) = search rules in
    IfOk-weaker c.quasi_shuffle.result
    (IsAnswer (QsymM ∷ []) (sum j + sum k) (product (element QsymM j) (element QsymM k)))
    (IsAnswerWithin 2 (QsymM ∷ []) (sum j + sum k) (product (element QsymM j) (element QsymM k)))
    (λ out answer. product_within j k out c.requires.left c.requires.right (omega (arith, c.requires.degree)) answer)
    is
