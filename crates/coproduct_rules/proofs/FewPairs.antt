-- The coproduct rules of QSym and NCSF list few pairs.
use Rattle.std.proofs.Common.{arith}
use Rattle.basis_representatives.proofs.Refinement.{length-composition}
use Rattle.coproduct_laws.proofs.WordCuts.{length-word_cuts}
use Rattle.coproduct_rules.specs.Laws.{FewPairsLaw}
use Rattle.coproduct_rules.proofs.DegreePairs.{length-degree_cuts}
use Rattle.coproduct_rules.proofs.PartPairs.{few_parts}
use Rattle.coproduct_rules.proofs.RibbonPairs.{few_ribbons}

pub few_pairs : FewPairsLaw
few_pairs = record {
  monomial = λ parts h. omega (arith, length-word_cuts parts, length-composition parts h);
  fundamental = length-degree_cuts;
  multiplicative = few_parts;
  ribbon = few_ribbons;
}
