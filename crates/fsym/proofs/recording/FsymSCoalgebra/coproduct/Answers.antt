use Rattle.std.proofs.Common.{arith}
use Rattle.std.proofs.lemmas.Result.{IfOk-weaker}
use Rattle.coproduct_laws.specs.Coproducts.{terms_of_pairs}
use Rattle.linear_combos.specs.Combos.{IsSumOfTerms}
use Rattle.tableau_coproducts.specs.ClassCuts.{class_cuts}
use Rattle.fsym.proofs.ClassLists.{small_words}
use Rattle.fsym.proofs.Coproducts.{IsTableauCoproductWithin, cuts_within}
use Rattle.fsym.proofs.recording.FsymSCoalgebra.coproduct.Goals as goal

pub cuts_of_class-requires : goal.cuts_of_class-requires
cuts_of_class-requires c = small_words c.args.code.now c.in_ok-words.words (omega (arith, c.requires.degree)) c.in_ok-words.ensures

pub returns : goal.returns
returns c =
    IfOk-weaker c.cuts_of_class.result (IsSumOfTerms 2 (terms_of_pairs (class_cuts c.in_ok-words.words))) (IsTableauCoproductWithin c.args.code.now)
    (λ out sum. cuts_within c.args.code.now (omega (arith, c.requires.degree)) c.in_ok-words.words c.in_ok-words.ensures out sum)
    c.cuts_of_class.ensures
