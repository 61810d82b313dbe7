use Rattle.std.proofs.Common.{rules}
use Rattle.session_evaluation.specs.Elements.{Spells}
use Rattle.session_evaluation.proofs.SpelledElements.{spelled_within}
use Rattle.session_evaluation.proofs.elements.value_of_element.Goals as goal

pub element-requires : goal.element-requires
element-requires c =
    let spells : Spells c.args.basis c.args.items.now c.in-Some.code = search rules in
    spelled_within c.args.basis c.args.items.now c.in-Some.code spells
