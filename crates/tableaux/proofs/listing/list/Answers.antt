use Rattle.std.proofs.Common.{◌≡◌, ◌+◌, sym, subst, arith}
use Rattle.tableaux.proofs.LatticeLists.{ListsWords, indices_listed, words_longer}
use Rattle.tableaux.proofs.listing.list.Goals as goal

pub loop-preserved : goal.loop-preserved
loop-preserved c = subst (ListsWords (c.loop.counter + 1)) (sym c.in_ok-codes.ensures) (words_longer c.loop.counter c.loop.codes c.loop.invariant)

pub returns : goal.returns
returns c =
    let last : c.loop.counter ≡ c.args.n = omega (arith, c.loop-test.false, c.loop.auto.counter-end) in
    indices_listed c.args.n c.loop.codes (subst (λ m. ListsWords m c.loop.codes) last c.loop.invariant)
