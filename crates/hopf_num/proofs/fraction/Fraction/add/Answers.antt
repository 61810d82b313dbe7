use Rattle.std.proofs.Common.{◌≤◌, subst, rules, unsigned_abs}
use Rattle.std.proofs.lemmas.Result.{err_from_is_err_and}
use Rattle.hopf_num.specs.Divisors.{IsLcm}
use Rattle.hopf_num.specs.Room.{TestsRoom, sum_rule}
use Rattle.hopf_num.proofs.CommonDivisors.{common_room}
use Rattle.hopf_num.proofs.RoomOfSums.{first_fault, same_lcm, tests_sum}
use Rattle.hopf_num.proofs.fraction.Fraction.add.Goals as goal

pub returns-in_err-den-clause-room : goal.returns-in_err-den-clause-room
returns-in_err-den-clause-room c = λ m is.
    let p = err_from_is_err_and c.from_residual.result c.from_residual.ensures.1 in
    rw (p.1, p.2) (first_fault m c.args.self.now.den c.args.other.now.den (unsigned_abs c.args.self.now.num) (unsigned_abs c.args.other.now.num) _ (search rules))

pub add_over-requires-clause-least : goal.add_over-requires-clause-least
add_over-requires-clause-least c =
    subst (λ r. IsLcm r.den c.args.other.now.den c.in_ok-den.den) c.self.view_is (subst (λ r. IsLcm c.self.inside.den r.den c.in_ok-den.den) c.other.view_is c.in_ok-den.ensures.least)

pub returns-clause-room : goal.returns-clause-room
returns-clause-room c = λ m is.
    let least = subst (λ r. IsLcm r.den c.args.other.now.den c.in_ok-den.den) c.self.view_is (subst (λ r. IsLcm c.self.inside.den r.den c.in_ok-den.den) c.other.view_is c.in_ok-den.ensures.least) in
    let same = same_lcm _ _ c.in_ok-den.den m least is in
    let left = subst (λ r. 1 ≤ r.den) c.self.view_is c.self.invariant.positive in
    let right = subst (λ r. 1 ≤ r.den) c.other.view_is c.other.invariant.positive in
    let room = (common_room c.args.self.now.den c.args.other.now.den c.in_ok-den.den left right least).0 c.in_ok-den.ensures.small in
    subst (λ n. TestsRoom (sum_rule n c.args.self.now.den c.args.other.now.den (unsigned_abs c.args.self.now.num) (unsigned_abs c.args.other.now.num)) c.add_over.result) same
    (tests_sum c.in_ok-den.den c.args.self.now.den c.args.other.now.den (unsigned_abs c.args.self.now.num) (unsigned_abs c.args.other.now.num) c.add_over.result room c.add_over.ensures.room)
