use Rattle.std.proofs.Common.{[], ◌∷◌, ◌∙◌, arith, subst}
use Rattle.std.specs.Prelude.{IfOk}
use Rattle.std.proofs.lemmas.Result.{IfOk-weaker}
use Rattle.basis_names.specs.declared.bases.BasisId.{BasisId}
use Rattle.index_rules.specs.Rules.{IsAnswerWithin}
use Rattle.linear_combos.specs.Combos.{IsSumOfTerms}
use Rattle.product_laws.specs.Products.{terms_of_codes}
use Rattle.realisations.specs.Codes.{Code}
use Rattle.realisations.specs.Indices.{degree_of}
use Rattle.realisations.specs.Readings.{element}
use Rattle.inclusion_rules.specs.Table.{IsTable}
use Rattle.inclusion_rules.proofs.SumsOver.{sum_within}
use Rattle.inclusion_rules.proofs.inclusions.ByInclusionRule.apply.Goals as goal

pub returns-clause-answers : goal.returns-clause-answers
returns-clause-answers g c =
    let coarse : BasisId = g.A.Space.basis in
    let fine : BasisId = g.B.Space.basis in
    let s : Code = c.args.code.now in
    let is : IfOk c.signed_sum.result (IsSumOfTerms 1 (terms_of_codes c.in_ok-over.over)) = c.signed_sum.ensures in
    let table : IsTable fine g.A.InclusionIn.image (degree_of coarse s) c.turn_to.new.self.pairs =
    subst (λ n. IsTable fine g.A.InclusionIn.image n c.turn_to.new.self.pairs) c.degree.ensures c.in_ok-turn_to.ensures.ok in
    IfOk-weaker c.signed_sum.result (IsSumOfTerms 1 (terms_of_codes c.in_ok-over.over)) (IsAnswerWithin 3 (fine ∷ []) (degree_of coarse s) (element coarse s))
    (λ out sum. sum_within fine coarse g.A.InclusionIn.image g.met.A.InclusionIn.inclusion s table.all c.in_ok-over.over out
    (omega (arith, c.requires.degree, g.met.A.InclusionIn.small)) table.lists (c.in_ok-over.ensures ∙ table.groups s) sum)
    is
