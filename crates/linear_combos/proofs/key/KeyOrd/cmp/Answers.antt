use Rattle.linear_combos.proofs.KeysInTurn.{key_cmp_of}
use Rattle.linear_combos.proofs.key.KeyOrd.cmp.Goals as goal

pub returns : goal.returns
returns c =
    let k = c.self.inside in
    let l = c.other.inside in
    let e = key_cmp_of k.rank k.first k.second k.third l.rank l.first l.second l.third c.args.self.now c.args.other.now c.self.invariant c.self.view_is c.other.invariant c.other.view_is in
    cc (e, c.then.ensures, c.then-2.ensures, c.then-3.ensures)
