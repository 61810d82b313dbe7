use Rattle.std.proofs.Common.{ℕ, ◌+◌, [], ◌∷◌, IfOk, subst, sym, arith, min}
use Rattle.std.proofs.lemmas.Result.{IfOk-weaker}
use Rattle.basis_names.specs.declared.bases.BasisId.{BasisId}
use Rattle.index_rules.specs.Changes.{change_facts}
use Rattle.index_rules.specs.Lifts.{CanLift, IsLift}
use Rattle.index_rules.specs.Rules.{RuleFacts, IsAnswerWithin}
use Rattle.index_rules.specs.Spaces.{limit_for}
use Rattle.index_rules.proofs.ProductsByChange.{limit-small, can_change, changed_answer}
use Rattle.realisations.specs.Indices.{degree_of}
use Rattle.realisations.specs.Readings.{element}
use Rattle.basis_changes.proofs.by_way.ByWayOfRule.apply.Goals as goal

pub lift-requires-clause-can : goal.lift-requires-clause-can
lift-requires-clause-can g c =
    let a : BasisId = g.A.Space.basis in
    let b : BasisId = g.B.Space.basis in
    let to : BasisId = g.C.Space.basis in
    let n : ℕ = degree_of a c.args.code.now in
    let limit = limit-small a in
    subst (λ facts. CanLift facts 0 c.in_ok-between.between) (sym (g.met.R.ChangeRule.states c.args.self.now.rest))
    (can_change b to (min (limit_for b) (limit_for to)) g.R.ChangeRule.growth g.A.Change.change_growth n (element a c.args.code.now) c.in_ok-between.between c.in_ok-between.ensures
    (omega (arith, c.requires.degree, c.args.self.now.limits)) (omega (arith, c.requires.degree, limit)))

pub returns-clause-answers : goal.returns-clause-answers
returns-clause-answers g c =
    let a : BasisId = g.A.Space.basis in
    let b : BasisId = g.B.Space.basis in
    let to : BasisId = g.C.Space.basis in
    let n : ℕ = degree_of a c.args.code.now in
    let facts : RuleFacts = change_facts b to (min (limit_for b) (limit_for to)) g.R.ChangeRule.growth in
    IfOk-weaker c.lift.result (IsLift facts 0 c.in_ok-between.between) (IsAnswerWithin (g.A.Change.change_growth + g.R.ChangeRule.growth) (to ∷ []) n (element a c.args.code.now))
    (λ out lifted. changed_answer b to facts.most g.R.ChangeRule.growth g.A.Change.change_growth n (element a c.args.code.now) c.in_ok-between.between c.in_ok-between.ensures
    c.args.self.now.growths (sym g.met.R.ChangeRule.same_kind) out lifted)
    (subst (λ f. IfOk c.lift.result (IsLift f 0 c.in_ok-between.between)) (g.met.R.ChangeRule.states c.args.self.now.rest) c.lift.ensures.lifts)
