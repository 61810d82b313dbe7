-- The norms of the coproducts of both bases.
use Rattle.std.proofs.Common.{◌≡◌, ℕ, suc, ◌*◌, ◌^◌, ◌≤◌, [], ◌∷◌, length, ap, arith}
use Rattle.std.proofs.lemmas.List.{length-map}
use Rattle.std.proofs.lemmas.List.FromFn.{length-map-range_with_len}
use Rattle.basis_names.specs.declared.bases.BasisId.TheVariants.{FqsymF, FqsymG}
use Rattle.basis_representatives.proofs.Permutations.{each_once}
use Rattle.coproduct_laws.specs.Coproducts.{terms_of_pairs}
use Rattle.coproduct_laws.specs.ValueCuts.{letters_past, letters_up_to, lower, value_cuts}
use Rattle.coproduct_laws.proofs.CutLetters.{greatest-permutation}
use Rattle.coproduct_laws.proofs.ValuePairs.{suc-le-pow_two}
use Rattle.coproduct_laws.proofs.ValueRules.{value_rule}
use Rattle.coproduct_laws.proofs.WordCuts.{length-word_cuts}
use Rattle.coproduct_rules.specs.PlaceCuts.{place_cuts}
use Rattle.coproduct_rules.proofs.PlaceRule.{place_rule}
use Rattle.index_rules.specs.Rules.{IsAnswerWithin}
use Rattle.index_rules.specs.Spaces.{IsIndexWithin}
use Rattle.index_rules.proofs.PairAnswers.{pairs_within}
use Rattle.linear_combos.specs.Combos.{IsSumOfTerms}
use Rattle.realisations.specs.Codes.{Code}
use Rattle.realisations.specs.Combinations.{Combination}
use Rattle.realisations.specs.Readings.{applied, coproduct, element}
use Rattle.realisations.specs.Standardisation.{standardise}
use Rattle.realisations.specs.Words.{greatest, word_cuts}

-- there is a cut for each number of letters
pub length-place_cuts : (w : Code) → length (place_cuts w) ≡ suc (length w)
length-place_cuts w = omega (arith, length-map {B = Code × Code} (word_cuts w) (λ (c : Code × Code). (standardise c.0, standardise c.1)), length-word_cuts w)

-- and for each number up to the greatest letter
pub length-value_cuts : (w : Code) → length (value_cuts w) ≡ suc (greatest w)
length-value_cuts w = length-map-range_with_len {X = Code × Code} (λ k. (letters_up_to k w, lower k (letters_past k w))) 0 (suc (greatest w))

-- up to one more than a number is within 2 to its power
pub one_more : (m n : ℕ) → m ≤ suc n → m ≤ 2 ^ (1 * n)
one_more m n few =
    let e : 1 * n ≡ n = omega arith in
    omega (arith, suc-le-pow_two n, few, ap (λ k. 2 ^ k) e)

pub few_value_cuts : (s : Code) → IsIndexWithin FqsymG s → length (value_cuts s) ≡ suc (length s)
few_value_cuts s h = omega (arith, length-value_cuts s, greatest-permutation s (each_once s h.index))

-- a coproduct of an element of degree n has norm at most n + 1
pub place_cuts_within : (s : Code) (c : Combination) → IsIndexWithin FqsymF s → IsSumOfTerms 2 (terms_of_pairs (place_cuts s)) c
    → IsAnswerWithin 1 (FqsymF ∷ FqsymF ∷ []) (length s) (applied coproduct 0 (element FqsymF s)) c
place_cuts_within s c h is = pairs_within FqsymF s (place_cuts s) (place_rule s h.index) 1 (one_more (length (place_cuts s)) (length s) (omega (arith, length-place_cuts s))) c is

pub value_cuts_within : (s : Code) (c : Combination) → IsIndexWithin FqsymG s → IsSumOfTerms 2 (terms_of_pairs (value_cuts s)) c
    → IsAnswerWithin 1 (FqsymG ∷ FqsymG ∷ []) (length s) (applied coproduct 0 (element FqsymG s)) c
value_cuts_within s c h is = pairs_within FqsymG s (value_cuts s) (value_rule s h.index) 1 (one_more (length (value_cuts s)) (length s) (omega (arith, few_value_cuts s h))) c is
