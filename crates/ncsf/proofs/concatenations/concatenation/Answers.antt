use Rattle.compositions.proofs.Parts.{code_from_two}
use Rattle.ncsf.proofs.concatenations.concatenation.Goals as goal

pub followed_by-requires : goal.followed_by-requires
followed_by-requires c = code_from_two c.args.left.now c.args.right.now c.requires.left c.requires.right c.requires.small
