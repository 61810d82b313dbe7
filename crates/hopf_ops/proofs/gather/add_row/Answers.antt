use Rattle.std.proofs.Common.{◌≡◌, length, subst, arith}
use Rattle.hopf_ops.specs.Gathering.{AreGathered}
use Rattle.hopf_ops.proofs.Gathering.{row_gathered}
use Rattle.hopf_ops.proofs.gather.add_row.Goals as goal

pub returns : goal.returns
returns c =
    let last : c.loop-right.right ≡ length c.args.b.now.terms = omega (arith, c.len-right-end.ensures.value) in
    row_gathered c.args.bases.now c.args.a.now.terms c.args.b.now.terms c.args.left c.loop-right.out c.requires.in_left
    (subst (λ j. AreGathered c.args.bases.now c.args.a.now.terms c.args.b.now.terms c.args.left j c.loop-right.out) last c.loop-right.invariant)
