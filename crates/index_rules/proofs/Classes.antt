-- The class of the representative of an index is the index.
use Rattle.std.proofs.Common.{sym, ◌∙◌}
use Rattle.basis_representatives.proofs.AllRepresentatives.{all_have}
use Rattle.basis_representatives.proofs.SameLists.{same_list-true}
use Rattle.index_rules.specs.Spaces.{ClassLaw}

pub classes_of_representatives : ClassLaw
classes_of_representatives basis index class h is = same_list-true class index (sym (is.occurs_alone index h) ∙ (all_have basis).own index h)
