use Rattle.std.proofs.Common.{subst}
use Rattle.coproduct_laws.specs.Coproducts.{terms_of_pairs}
use Rattle.coproduct_laws.specs.ValueCuts.{value_cuts}
use Rattle.index_rules.proofs.PushedTerms.{holds_all}
use Rattle.linear_combos.specs.Combos.{IsSumOfTerms}
use Rattle.realisations.specs.Codes.{Code}
use Rattle.fqsym.proofs.cutting.cuts_by_values.Goals as goal

pub returns : goal.returns
returns c =
    subst (λ (w : Code). IsSumOfTerms 2 (terms_of_pairs (value_cuts w)) c.finish.result) c.packed_word-packed.ensures
    (holds_all (terms_of_pairs (value_cuts c.packed_word-packed.result)) c.push_value_cuts.new.out c.finish.result 2 c.in_ok-push_value_cuts.ensures.same_rank c.in_ok-push_value_cuts.ensures.pushes c.finish.ensures)
