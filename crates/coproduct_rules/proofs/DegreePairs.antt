-- The cuts of a composition by degree are pairs of compositions, one for each degree.
use Rattle.std.proofs.Common.{◌≡◌, suc, ◌*◌, ◌^◌, ◌≤◌, length, arith}
use Rattle.std.specs.List.{range_with_len, sum}
use Rattle.std.proofs.Math.Pow.{pow_mono}
use Rattle.std.proofs.lemmas.List.FromFn.{length-map-range_with_len}
use Rattle.basis_names.specs.declared.bases.BasisId.TheVariants.{QsymF}
use Rattle.realisations.specs.Codes.{Code}
use Rattle.realisations.specs.Indices.{IsIndex}
use Rattle.realisations.proofs.Every.{every-map}
use Rattle.basis_representatives.proofs.Letters.{Letters-range}
use Rattle.coproduct_laws.specs.Coproducts.{ArePairs}
use Rattle.coproduct_laws.proofs.ValuePairs.{suc-le-pow_two}
use Rattle.coproduct_rules.specs.DegreeCuts.{front_of_degree, rest_past_degree, degree_cuts}
use Rattle.coproduct_rules.specs.Laws.{FundamentalCoproductLaw}
use Rattle.coproduct_rules.proofs.DegreeCuts.{sum-front, sum-rest, front-composition, rest-composition}
use Rattle.coproduct_rules.proofs.FundamentalRule.{fundamental_coproduct}

fundamental_pairs : (parts : Code) → IsIndex QsymF parts → ArePairs QsymF parts (degree_cuts parts)
fundamental_pairs parts composition =
    every-map (λ k. k ≤ sum parts) _ (λ k. (front_of_degree k parts, rest_past_degree k parts))
    (λ k le. (front-composition k parts composition, rest-composition k parts composition, omega (arith, sum-front k parts, sum-rest k parts)))
    (range_with_len 0 (suc (sum parts)))
    (Letters-range (λ k. k ≤ sum parts) 0 (suc (sum parts)) (λ k from to. omega arith))

-- there is one more than the degree
pub length-degree_cuts : (parts : Code) → length (degree_cuts parts) ≡ suc (sum parts)
length-degree_cuts parts = length-map-range_with_len {X = Code × Code} (λ k. (front_of_degree k parts, rest_past_degree k parts)) 0 (suc (sum parts))

-- and so at most 2^(5n)
few_degrees : (parts : Code) → length (degree_cuts parts) ≤ 2 ^ (5 * sum parts)
few_degrees parts =
    let room : 2 ^ sum parts ≤ 2 ^ (5 * sum parts) = pow_mono (omega arith) in
    omega (arith, length-degree_cuts parts, suc-le-pow_two (sum parts))

-- the rule of QSym.F
pub fundamental_rule : FundamentalCoproductLaw
fundamental_rule parts h = record { reads = fundamental_coproduct parts h; indices = fundamental_pairs parts h; few = few_degrees parts }
