use Rattle.std.proofs.Common.{◌≡◌, ◌<◌, [], get_or, sym, ◌∙◌, ap, length}
use Rattle.std.proofs.lemmas.List.{get_or_default}
use Rattle.realisations.specs.Codes.{Code}
use Rattle.inclusion_rules.proofs.Groups.{group-after, group-before, none_after, none_before, tested_apart}
use Rattle.inclusion_rules.proofs.table.group_of.Goals as goal

pub loop-at-init : goal.loop-at-init
loop-at-init c =
    c.new-over.ensures
    ∙ sym (group-before c.args.index.now c.args.pairs.now c.place_of-at.result c.place_of-at.ensures.in_range (λ i lt. none_before c.args.pairs.now c.args.index.now i (c.place_of-at.ensures.before i lt)))

pub returns-then-ne : goal.returns-then-ne
returns-then-ne c =
    let here : c.loop-at.at < length c.args.pairs.now = c.loop-at-test.true in
    let read : get_or c.args.pairs.now c.loop-at.at ([], []) ≡ get_or c.args.pairs.now c.loop-at.at c.index-pairs-at.result = get_or_default c.args.pairs.now c.loop-at.at ([], []) c.index-pairs-at.result here in
    c.loop-at.invariant
    ∙ group-after c.args.index.now c.args.pairs.now c.loop-at.at
    (none_after c.args.pairs.now c.requires c.args.index.now c.loop-at.at here (c.place_of-at.ensures.after c.loop-at.at c.loop-at.auto.at here)
    (λ same. tested_apart (get_or c.args.pairs.now c.loop-at.at c.index-pairs-at.result).0 c.args.index.now (sym c.ne.ensures ∙ c.if-ne.true) (sym (ap (λ (p : Code × Code). p.0) read) ∙ same)))
