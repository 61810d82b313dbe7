use Rattle.std.proofs.Common.{rules, ◌≡◌}
use Rattle.std.proofs.lemmas.List.Sorted.{answers_always}
use Rattle.inclusion_rules.proofs.Groups.{groups_kept}
use Rattle.inclusion_rules.proofs.table.sort_by_images.Goals as goal

pub returns-clause-sorted : goal.returns-clause-sorted
returns-clause-sorted c = c.in_ok-sort_by_key.ensures.sorted (λ p. p.0) (answers_always _ (λ a r. r ≡ a.0.now.0) _ (λ f a r q k. search rules))

pub returns-clause-groups : goal.returns-clause-groups
returns-clause-groups c index =
    groups_kept c.args.pairs.now.items c.sort_by_key.new.self.items (c.sort_by_key.ensures.stable (λ p. p.0) (answers_always _ (λ a r. r ≡ a.0.now.0) _ (λ f a r q k. search rules))) index
