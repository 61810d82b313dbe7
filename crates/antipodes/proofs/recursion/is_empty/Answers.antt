use Rattle.std.proofs.Common.{◌≡◌, ℕ, true, false, [], ◌∷◌, length, arith}
use Rattle.std.specs.Prelude.{nat_eq}
use Rattle.std.proofs.lemmas.Bool.Decides.{nat_tests}
use Rattle.realisations.specs.Codes.{Code}
use Rattle.realisations.specs.Lists.{same_list}
use Rattle.antipodes.proofs.recursion.is_empty.Goals as goal

-- no letters
no_letters : (n : ℕ) (code : Code) → n ≡ length code → nat_eq n 0 ≡ same_list code []
no_letters n [] e = let t : nat_eq n 0 ≡ true = grind (arith, nat_tests) in t
no_letters n (x ∷ code) e = let t : nat_eq n 0 ≡ false = grind (arith, nat_tests) in t

pub returns : goal.returns
returns c = no_letters c.len.result c.args.code.now c.len.ensures.value
