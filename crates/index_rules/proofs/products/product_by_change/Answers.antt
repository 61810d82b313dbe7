use Rattle.std.proofs.Common.{ℕ, ◌+◌, ◌≤◌, [], ◌∷◌, ap, sym, arith, rules, min}
use Rattle.std.proofs.lemmas.Result.{IfOk-weaker}
use Rattle.basis_names.specs.declared.bases.BasisId.{BasisId}
use Rattle.index_rules.specs.Changes.{change_facts}
use Rattle.index_rules.specs.Lifts.{IsLift}
use Rattle.index_rules.specs.Rules.{IsAnswerWithin}
use Rattle.index_rules.specs.Spaces.{limit_for}
use Rattle.index_rules.proofs.ProductsByChange.{limit-small, growths, can_multiply, multiplied_answer, can_change, changed_answer}
use Rattle.realisations.specs.Combinations.{IsCanonical}
use Rattle.realisations.specs.Indices.{degree_of}
use Rattle.realisations.specs.Readings.{Reading, element, product}
use Rattle.index_rules.proofs.products.product_by_change.Goals as goal

pub tensor-requires-clause-norm : goal.tensor-requires-clause-norm
tensor-requires-clause-norm g c =
    let a : BasisId = g.A.Space.basis in
    let n : ℕ = degree_of a c.args.left.now in
    let m : ℕ = degree_of a c.args.right.now in
    let limit = limit-small a in
    growths _ _ n m c.in_ok-left.ensures.answer.small c.in_ok-right.ensures.answer.small (omega (arith, c.requires.degree, limit)) (omega (arith, c.requires.degree, limit))

pub multiply_components-requires-clause-can : goal.multiply_components-requires-clause-can
multiply_components-requires-clause-can g c =
    let a : BasisId = g.A.Space.basis in
    let n : ℕ = degree_of a c.args.left.now in
    let m : ℕ = degree_of a c.args.right.now in
    let limit = limit-small a in
    let canonical : IsCanonical c.in_ok-pairs.pairs.rank c.in_ok-pairs.pairs.den c.in_ok-pairs.pairs.terms = search rules in
    can_multiply g.B.Space.basis g.A.Change.change_growth n m (omega (arith, c.requires.degree, limit)) (element a c.args.left.now) (element a c.args.right.now)
    c.in_ok-left.left c.in_ok-right.right c.in_ok-pairs.pairs c.in_ok-left.ensures c.in_ok-right.ensures canonical c.in_ok-pairs.ensures (omega (arith, c.requires.degree, c.requires.limits))

pub change_component-requires-clause-can : goal.change_component-requires-clause-can
change_component-requires-clause-can g c =
    let a : BasisId = g.A.Space.basis in
    let b : BasisId = g.B.Space.basis in
    let n : ℕ = degree_of a c.args.left.now in
    let m : ℕ = degree_of a c.args.right.now in
    let limit = limit-small a in
    let small : n + m ≤ 12 = omega (arith, c.requires.degree, limit) in
    let canonical : IsCanonical c.in_ok-pairs.pairs.rank c.in_ok-pairs.pairs.den c.in_ok-pairs.pairs.terms = search rules in
    let is = multiplied_answer b g.A.Change.change_growth n m small (element a c.args.left.now) (element a c.args.right.now)
    c.in_ok-left.left c.in_ok-right.right c.in_ok-pairs.pairs c.in_ok-left.ensures c.in_ok-right.ensures canonical c.in_ok-pairs.ensures
    g.B.Algebra.product_growth (omega (arith, c.requires.growth)) (ap (λ k. k ∷ []) (sym g.met.A.Change.same_kind)) c.in_ok-whole.whole c.in_ok-whole.ensures in
    can_change b a (min (limit_for b) (limit_for a)) g.B.Change.change_growth (g.A.Change.change_growth + g.B.Algebra.product_growth) (n + m) (product (element a c.args.left.now) (element a c.args.right.now))
    c.in_ok-whole.whole is (omega (arith, c.requires.degree, c.requires.limits)) small

pub returns : goal.returns
returns g c =
    let a : BasisId = g.A.Space.basis in
    let b : BasisId = g.B.Space.basis in
    let n : ℕ = degree_of a c.args.left.now in
    let m : ℕ = degree_of a c.args.right.now in
    let limit = limit-small a in
    let small : n + m ≤ 12 = omega (arith, c.requires.degree, limit) in
    let canonical : IsCanonical c.in_ok-pairs.pairs.rank c.in_ok-pairs.pairs.den c.in_ok-pairs.pairs.terms = search rules in
    let reading : Reading = product (element a c.args.left.now) (element a c.args.right.now) in
    let is = multiplied_answer b g.A.Change.change_growth n m small (element a c.args.left.now) (element a c.args.right.now)
    c.in_ok-left.left c.in_ok-right.right c.in_ok-pairs.pairs c.in_ok-left.ensures c.in_ok-right.ensures canonical c.in_ok-pairs.ensures
    g.B.Algebra.product_growth (omega (arith, c.requires.growth)) (ap (λ k. k ∷ []) (sym g.met.A.Change.same_kind)) c.in_ok-whole.whole c.in_ok-whole.ensures in
    IfOk-weaker c.change_component.result
    (IsLift (change_facts b a (min (limit_for b) (limit_for a)) g.B.Change.change_growth) 0 c.in_ok-whole.whole)
    (IsAnswerWithin (g.A.Change.change_growth + g.B.Algebra.product_growth + g.B.Change.change_growth) (a ∷ []) (n + m) reading)
    (λ out lifted. changed_answer b a (min (limit_for b) (limit_for a)) g.B.Change.change_growth (g.A.Change.change_growth + g.B.Algebra.product_growth) (n + m) reading c.in_ok-whole.whole is
    c.requires.growth g.met.A.Change.same_kind out lifted)
    c.change_component.ensures
