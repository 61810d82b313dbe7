use Rattle.std.specs.Prelude.{ℕ, unsigned_abs}
use Rattle.std.specs.Int.{IsGcd}
use Rattle.hopf_num.proofs.divisors.euclid.Given as goal

abbrev pub invariant-steps : goal.invariant-steps
invariant-steps g l =
    g.T.Number.fits (g.T.Number.value l.x) × g.T.Number.fits (g.T.Number.value l.y)
    × ((d : ℕ) → IsGcd (unsigned_abs (g.T.Number.value l.x)) (unsigned_abs (g.T.Number.value l.y)) d
    → IsGcd (unsigned_abs (g.T.Number.value l.fn.a)) (unsigned_abs (g.T.Number.value l.fn.b)) d)

abbrev pub decreases-steps : goal.decreases-steps
decreases-steps g l = unsigned_abs (g.T.Number.value l.y)
