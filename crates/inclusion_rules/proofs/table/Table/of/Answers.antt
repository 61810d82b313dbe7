use Rattle.std.proofs.Common.{◌∙◌, ap}
use Rattle.inclusion_rules.specs.Table.{Pairs, group}
use Rattle.inclusion_rules.proofs.Groups.{group_images}
use Rattle.inclusion_rules.proofs.table.Table.of.Goals as goal

pub returns : goal.returns
returns g c = record {
  all = c.in_ok-all.all;
  lists = c.in_ok-all.ensures;
  groups = λ index.
      c.in_ok-sort_by_images.ensures.groups index ∙ ap (λ (pairs : Pairs). group index pairs) c.in_ok-pairs.ensures ∙ group_images g.A.InclusionIn.image index c.in_ok-all.all;
  by_images = c.in_ok-sort_by_images.ensures.sorted;
}

pub invariant_of-result : goal.invariant_of-result
invariant_of-result g c some = record {
  all = c.in_ok-all.all;
  lists = c.in_ok-all.ensures;
  groups = λ index.
      c.in_ok-sort_by_images.ensures.groups index ∙ ap (λ (pairs : Pairs). group index pairs) c.in_ok-pairs.ensures ∙ group_images g.A.InclusionIn.image index c.in_ok-all.all;
  by_images = c.in_ok-sort_by_images.ensures.sorted;
}
