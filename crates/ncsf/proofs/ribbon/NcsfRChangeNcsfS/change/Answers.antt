use Rattle.std.proofs.Common.{[], ◌∷◌, length, rules}
use Rattle.std.specs.Prelude.{IfOk}
use Rattle.std.specs.List.{sum}
use Rattle.std.proofs.lemmas.Result.{IfOk-weaker}
use Rattle.basis_names.specs.declared.bases.BasisId.TheVariants.{NcsfS, NcsfR}
use Rattle.change_laws.specs.Changes.{ListsCoarsenings, signed_terms}
use Rattle.index_rules.specs.Rules.{IsAnswerWithin}
use Rattle.index_rules.specs.SignedSums.{signs_of}
use Rattle.index_rules.specs.declared.sums.Signs.TheVariants.{ByLength}
use Rattle.linear_combos.specs.Combos.{IsSumOfTerms}
use Rattle.realisations.specs.Codes.{Code}
use Rattle.realisations.specs.Readings.{element}
use Rattle.ncsf.proofs.Changes.{ribbon_in_complete}
use Rattle.ncsf.proofs.ribbon.NcsfRChangeNcsfS.change.Goals as goal

pub returns : goal.returns
returns c =
    let parts : Code = c.args.code.now in
    let lists : ListsCoarsenings parts c.in_ok-coarser.coarser = search rules in
    let is : IfOk c.signed_sum.result (IsSumOfTerms 1 (signed_terms (signs_of (ByLength (length parts))) c.in_ok-coarser.coarser)) = search rules in
    IfOk-weaker c.signed_sum.result
    (IsSumOfTerms 1 (signed_terms (signs_of (ByLength (length parts))) c.in_ok-coarser.coarser))
    (IsAnswerWithin 1 (NcsfS ∷ []) (sum parts) (element NcsfR parts))
    (λ out sums. ribbon_in_complete parts c.in_ok-coarser.coarser out c.requires.index.index lists sums)
    is
