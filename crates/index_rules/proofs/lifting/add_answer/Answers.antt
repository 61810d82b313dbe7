use Rattle.std.proofs.Common.{◌≡◌, ◌-◌, ◌≤◌, length, subst, sym, ◌∙◌, ap, arith, refl}
use mir.Syntax.{w128}
use Rattle.std.proofs.lemmas.Int.{to_z-of_z}
use Rattle.std.proofs.lemmas.Result.{on_ok_weaker}
use Rattle.change_laws.specs.Lifts.{code_at}
use Rattle.index_rules.specs.Lifts.{one_code}
use Rattle.index_rules.specs.Rules.{RuleFacts, IsIndexOf, Answers}
use Rattle.index_rules.proofs.ReplacedKeys.{code_at-read}
use Rattle.index_rules.proofs.LiftedAnswers.{answer_room, answer_lifted}
use Rattle.realisations.specs.Codes.{Code, Key}
use Rattle.realisations.specs.Combinations.{term_at}
use Rattle.index_rules.proofs.lifting.add_answer.Goals as goal

pub code-requires-clause-last : goal.code-requires-clause-last
code-requires-clause-last g c =
    let ranks = ap (λ (k : Key). length k) c.key_at-key.ensures ∙ c.requires.canonical.ordered.ranks c.args.at c.requires.in_range in
    omega (arith, ranks, c.requires.can.here, c.requires.first)

pub apply-requires : goal.apply-requires
apply-requires g c =
    let ranks = ap (λ (k : Key). length k) c.key_at-key.ensures ∙ c.requires.canonical.ordered.ranks c.args.at c.requires.in_range in
    let last : c.args.component ≤ length c.key_at-key.result.now = omega (arith, ranks, c.requires.can.here, c.requires.first) in
    let code : c.code.result.now ≡ code_at (c.args.component - 1) (term_at c.args.value.now.terms c.args.at).1 =
    code_at-read c.args.component c.key_at-key.result.now c.code.result.now c.requires.first last c.code.ensures ∙ ap (code_at (c.args.component - 1)) c.key_at-key.ensures in
    subst (IsIndexOf (g.R.Rule.facts c.args.rule.now)) (sym code) (c.requires.can.indices ((term_at c.args.value.now.terms c.args.at).1) (c.args.at, c.requires.in_range, refl))

pub add_replaced-requires-clause-last : goal.add_replaced-requires-clause-last
add_replaced-requires-clause-last g c =
    let ranks = ap (λ (k : Key). length k) c.key_at-key.ensures ∙ c.requires.canonical.ordered.ranks c.args.at c.requires.in_range in
    omega (arith, ranks, c.requires.can.here, c.requires.first)

pub add_replaced-requires-clause-most : goal.add_replaced-requires-clause-most
add_replaced-requires-clause-most g c =
    let ranks = ap (λ (k : Key). length k) c.key_at-key.ensures ∙ c.requires.canonical.ordered.ranks c.args.at c.requires.in_range in
    omega (arith, ranks, c.in_ok-answer.ensures.answers.answer.rank, c.requires.can.most)

pub add_replaced-requires-clause-rank : goal.add_replaced-requires-clause-rank
add_replaced-requires-clause-rank g c =
    let ranks = ap (λ (k : Key). length k) c.key_at-key.ensures ∙ c.requires.canonical.ordered.ranks c.args.at c.requires.in_range in
    omega (arith, ranks, c.in_ok-answer.ensures.answers.answer.rank, c.requires.lifted.rank)

pub add_replaced-requires-clause-room : goal.add_replaced-requires-clause-room
add_replaced-requires-clause-room g c =
    let facts : RuleFacts = g.R.Rule.facts c.args.rule.now in
    let ranks = ap (λ (k : Key). length k) c.key_at-key.ensures ∙ c.requires.canonical.ordered.ranks c.args.at c.requires.in_range in
    let last : c.args.component ≤ length c.key_at-key.result.now = omega (arith, ranks, c.requires.can.here, c.requires.first) in
    let code : c.code.result.now ≡ code_at (c.args.component - 1) (term_at c.args.value.now.terms c.args.at).1 =
    code_at-read c.args.component c.key_at-key.result.now c.code.result.now c.requires.first last c.code.ensures ∙ ap (code_at (c.args.component - 1)) c.key_at-key.ensures in
    let is = subst (λ (v : Code). Answers facts v c.in_ok-answer.answer) code c.in_ok-answer.ensures.answers in
    let num = to_z-of_z w128 c.num_at.result (record { sfits = c.num_at.type_inv }) ∙ c.num_at.ensures.value in
    rw num (answer_room (one_code facts (c.args.component - 1)) (c.args.component - 1) c.args.value.now.rank c.args.value.now.terms c.args.at c.requires.in_range c.args.out.now c.requires.lifted c.in_ok-answer.answer is c.requires.can.room)

pub returns-clause-lifted : goal.returns-clause-lifted
returns-clause-lifted g c =
    let facts : RuleFacts = g.R.Rule.facts c.args.rule.now in
    let ranks = ap (λ (k : Key). length k) c.key_at-key.ensures ∙ c.requires.canonical.ordered.ranks c.args.at c.requires.in_range in
    let last : c.args.component ≤ length c.key_at-key.result.now = omega (arith, ranks, c.requires.can.here, c.requires.first) in
    let code : c.code.result.now ≡ code_at (c.args.component - 1) (term_at c.args.value.now.terms c.args.at).1 =
    code_at-read c.args.component c.key_at-key.result.now c.code.result.now c.requires.first last c.code.ensures ∙ ap (code_at (c.args.component - 1)) c.key_at-key.ensures in
    let is = subst (λ (v : Code). Answers facts v c.in_ok-answer.answer) code c.in_ok-answer.ensures.answers in
    let num = to_z-of_z w128 c.num_at.result (record { sfits = c.num_at.type_inv }) ∙ c.num_at.ensures.value in
    on_ok_weaker _
    (λ adds. answer_lifted (one_code facts (c.args.component - 1)) (c.args.component - 1) c.args.value.now.rank c.args.value.now.terms c.args.at c.requires.in_range c.args.out.now c.requires.lifted c.in_ok-answer.answer is c.add_replaced.new.out
    (rw (num, c.key_at-key.ensures) at adds))
    c.add_replaced.ensures
