use Rattle.std.proofs.Common.{◌≡◌, ◌*◌, rules}
use Rattle.hopf_num.proofs.Powers.{lt-shifted}
use Rattle.hopf_num.proofs.room.fits.Goals as goal

pub returns-in-Some : goal.returns-in-Some
returns-in-Some c =
    let product : c.in-Some.product ≡ c.args.left * c.args.right = search rules in
    rw (← product) (lt-shifted c.in-Some.product c.args.shift c.requires)
