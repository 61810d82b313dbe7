-- The five class bases of words, with the fronts and backs of their indices.
use Rattle.product_laws.specs.Laws.{ClassesLaw}
use Rattle.product_laws.proofs.CutRules.{by_packings, by_standardisations}
use Rattle.product_laws.proofs.ShuffleRule.{by_inverses}
use Rattle.product_laws.proofs.TableauRule.{by_tableaux}
use Rattle.product_laws.proofs.TreeRule.{by_trees}

pub all_classes : ClassesLaw
all_classes = record {
  standardisations = by_standardisations;
  inverses = by_inverses;
  packings = by_packings;
  tableaux = by_tableaux;
  trees = by_trees;
}
