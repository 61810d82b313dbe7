use Rattle.std.proofs.Common.{[], ◌∷◌, arith, rules}
use Rattle.std.specs.Prelude.{IfOk}
use Rattle.std.specs.List.{sum}
use Rattle.std.proofs.lemmas.Result.{IfOk-weaker}
use Rattle.basis_names.specs.declared.bases.BasisId.TheVariants.{QsymM}
use Rattle.index_rules.specs.Rules.{IsAnswerWithin}
use Rattle.realisations.specs.Answers.{IsAnswer}
use Rattle.realisations.specs.Codes.{Code}
use Rattle.realisations.specs.Readings.{applied, coproduct, element}
use Rattle.qsym.proofs.Growth.{cuts_within}
use Rattle.qsym.proofs.monomial.QsymMCoalgebra.coproduct.Goals as goal

pub returns : goal.returns
returns c =
    let parts : Code = c.args.code.now in
    let is : IfOk c.cuts.result (IsAnswer (QsymM ∷ QsymM ∷ []) (sum parts) (applied coproduct 0 (element QsymM parts))) = search rules in
    IfOk-weaker c.cuts.result
    (IsAnswer (QsymM ∷ QsymM ∷ []) (sum parts) (applied coproduct 0 (element QsymM parts)))
    (IsAnswerWithin 1 (QsymM ∷ QsymM ∷ []) (sum parts) (applied coproduct 0 (element QsymM parts)))
    (λ out answer. cuts_within parts out c.requires.index (omega (arith, c.requires.degree)) answer)
    is
