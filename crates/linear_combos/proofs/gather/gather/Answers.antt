use Rattle.std.proofs.Common.{arith}
use Rattle.linear_combos.proofs.Permuted.{norm-permutation, ranks-permutation, Gathers-permutation}
use Rattle.linear_combos.proofs.gather.gather.Goals as goal

pub gather_sorted-requires-clause-room : goal.gather_sorted-requires-clause-room
gather_sorted-requires-clause-room c = omega (arith, norm-permutation _ _ c.sort_by_keys.ensures.permutation, c.requires)

pub returns : goal.returns
returns c = λ rank ranks.
    let moved = c.sort_by_keys.ensures.permutation in
    Gathers-permutation _ _ moved rank _ (c.gather_sorted.ensures rank (ranks-permutation _ _ moved rank ranks))
