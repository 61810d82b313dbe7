-- Coproducts over M: the cuts by values, and their norms.
use Rattle.std.proofs.Common.{suc, ◌≤◌, [], ◌∷◌, length, arith}
use Rattle.basis_names.specs.declared.bases.BasisId.TheVariants.{WqsymM}
use Rattle.basis_representatives.proofs.PackedWords.{all_letters}
use Rattle.coproduct_laws.specs.Coproducts.{terms_of_pairs}
use Rattle.coproduct_laws.specs.ValueCuts.{value_cuts}
use Rattle.coproduct_laws.proofs.CutLetters.{greatest-packed}
use Rattle.coproduct_laws.proofs.ValueRules.{packed_rule}
use Rattle.fqsym.proofs.Coproducts.{length-value_cuts, one_more}
use Rattle.fqsym.proofs.RulesExist.{coproduct_exists}
use Rattle.index_rules.specs.Rules.{IsAnswerWithin}
use Rattle.index_rules.specs.Spaces.{IsIndexWithin}
use Rattle.index_rules.proofs.PairAnswers.{pairs_within}
use Rattle.linear_combos.specs.Combos.{IsSumOfTerms}
use Rattle.realisations.specs.Codes.{Code}
use Rattle.realisations.specs.Combinations.{Combination}
use Rattle.realisations.specs.Indices.{IsIndex}
use Rattle.realisations.specs.Readings.{applied, coproduct, element}
use Rattle.wqsym.specs.Laws.{WqsymCoproductsExistLaw}

-- there are at most n + 1 cuts of n letters
few_cuts : (w : Code) → IsIndex WqsymM w → length (value_cuts w) ≤ suc (length w)
few_cuts w h = omega (arith, length-value_cuts w, greatest-packed w (all_letters w h))

-- so a coproduct of degree n has norm at most n + 1
pub cuts_within : (w : Code) (c : Combination) → IsIndexWithin WqsymM w → IsSumOfTerms 2 (terms_of_pairs (value_cuts w)) c
    → IsAnswerWithin 1 (WqsymM ∷ WqsymM ∷ []) (length w) (applied coproduct 0 (element WqsymM w)) c
cuts_within w c h is = pairs_within WqsymM w (value_cuts w) (packed_rule w h.index) 1 (one_more (length (value_cuts w)) (length w) (few_cuts w h.index)) c is

-- and each element has one
pub monomial_coproducts : WqsymCoproductsExistLaw
monomial_coproducts w h = coproduct_exists WqsymM w (value_cuts w) (packed_rule w h.index) (few_cuts w h.index) (omega (arith, h.degree))
