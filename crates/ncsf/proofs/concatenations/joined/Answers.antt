use Rattle.std.proofs.Common.{◌≡◌, ◌+◌, ◌-◌, ℕ, suc, List, [], ◌∷◌, ◌++◌, length, take, drop, get_or, sym, ◌∙◌, subst, arith}
use Rattle.linear_combos.specs.Codes.{IsCode}
use Rattle.ncsf.proofs.JoinedParts.{near_concatenation-parts, near_code}
use Rattle.ncsf.proofs.concatenations.joined.Goals as goal

pub followed_by-requires : goal.followed_by-requires
followed_by-requires c =
    let j : List ℕ = c.args.left.now in
    let k : List ℕ = c.args.right.now in
    let last : length j ≡ suc (length j - 1) = omega (arith, c.requires.some_left) in
    let same : c.with-middle.result ++ c.suffix-back.result ≡ (take (length j - 1) j ++ (get_or j (length j - 1) 0 + get_or k 0 0) ∷ []) ++ drop 1 k = cc in
    subst IsCode (sym (same ∙ near_concatenation-parts (length j - 1) j k last c.requires.some_right)) (near_code j k c.requires.left c.requires.right c.requires.some_right c.requires.small)

pub returns : goal.returns
returns c =
    let j : List ℕ = c.args.left.now in
    let k : List ℕ = c.args.right.now in
    let last : length j ≡ suc (length j - 1) = omega (arith, c.requires.some_left) in
    let same : c.followed_by.result ≡ (take (length j - 1) j ++ (get_or j (length j - 1) 0 + get_or k 0 0) ∷ []) ++ drop 1 k = cc in
    same ∙ near_concatenation-parts (length j - 1) j k last c.requires.some_right
