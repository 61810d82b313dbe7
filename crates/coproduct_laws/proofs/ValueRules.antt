-- The coproduct rules of WQSym.M (Hivert 1999) and of FQSym.G (Duchamp, Hivert, Thibon 2002): cuts by values.
use Rattle.std.proofs.Common.{ℕ, List, sym, ◌∙◌, ap}
use Rattle.basis_names.specs.declared.bases.BasisId.TheVariants.{FqsymG, WqsymM}
use Rattle.realisations.specs.Indices.{IsIndex}
use Rattle.realisations.specs.Lists.{same_list, one_if}
use Rattle.realisations.specs.Standardisation.{pack, standardise}
use Rattle.realisations.specs.Words.{raise}
use Rattle.basis_representatives.proofs.PackedWords.{all_letters, packed-pack}
use Rattle.basis_representatives.proofs.Permutations.{each_once, permutation-standardise}
use Rattle.basis_representatives.proofs.SameOrder.{length-standardise}
use Rattle.coproduct_laws.specs.Coproducts.{IsCoproduct}
use Rattle.coproduct_laws.specs.Laws.{PackedCoproductLaw, ValueCoproductLaw}
use Rattle.coproduct_laws.specs.ValueCuts.{value_cuts}
use Rattle.coproduct_laws.proofs.CoproductCounts.{coproduct_by_counts}
use Rattle.coproduct_laws.proofs.CutLetters.{greatest-permutation, packed-permutation}
use Rattle.coproduct_laws.proofs.PackedShuffles.{pack_shuffles}
use Rattle.coproduct_laws.proofs.Shuffling.{over_shuffles}
use Rattle.coproduct_laws.proofs.StandardShuffles.{standardise_shuffles}
use Rattle.coproduct_laws.proofs.ValueCuts.{value_cuts_count}
use Rattle.coproduct_laws.proofs.ValuePairs.{few_cuts, packed_pairs, value_pairs}

-- a packed word is the packing of as many shuffles as its cuts are both packings
packed_coproduct : (w : List ℕ) → IsIndex WqsymM w → IsCoproduct WqsymM w (value_cuts w)
packed_coproduct w h =
    coproduct_by_counts WqsymM w (value_cuts w)
    (λ u v hu hv. pack_shuffles (λ x. one_if (same_list x w)) u v hv ∙ value_cuts_count w (all_letters w h) (pack u) (pack v) (packed-pack v).positive)

-- a permutation is the standardisation of as many shuffles as its cuts are both standardisations, whose greatest letters are their lengths
standardised_coproduct : (s : List ℕ) → IsIndex FqsymG s → IsCoproduct FqsymG s (value_cuts s)
standardised_coproduct s h =
    coproduct_by_counts FqsymG s (value_cuts s)
    (λ u v hu hv.
    standardise_shuffles (λ x. one_if (same_list x s)) u v hv
    ∙ ap (λ n. over_shuffles (λ x. one_if (same_list x s)) (standardise u) (raise n (standardise v)))
    (sym (greatest-permutation (standardise u) (permutation-standardise u) ∙ length-standardise u))
    ∙ value_cuts_count s (packed-permutation s (each_once s h)) (standardise u) (standardise v) (packed-permutation (standardise v) (permutation-standardise v)).positive)

-- WQSym.M
pub packed_rule : PackedCoproductLaw
packed_rule w h = record { reads = packed_coproduct w h; indices = packed_pairs w h; few = few_cuts w (all_letters w h) }

-- FQSym.G
pub value_rule : ValueCoproductLaw
value_rule s h = record { reads = standardised_coproduct s h; indices = value_pairs s h; few = few_cuts s (packed-permutation s (each_once s h)) }
