use Rattle.std.proofs.Common.{◌+◌, ◌-◌, ◌++◌, ◌∷◌, [], length, map, sym, ◌∙◌, ap, arith, append_assoc}
use Rattle.std.specs.List.{filter, range_with_len}
use Rattle.tableaux.specs.NumberedTableaux.{follows_in}
use Rattle.tableaux.proofs.LatticeLists.{letter_fails, letter_follows}
use Rattle.tableaux.proofs.listing.push_longer.Goals as goal
use Rattle.tableaux.proofs.listing.push_longer.Goals.{then-follows+in_ok-push, else-follows}

pub loop-at-preserved : goal.loop-at-preserved
loop-at-preserved c =
    let code = c.args.code.now in
    let at = c.loop-at.at in
    let rest = map (λ x. code ++ (x ∷ [])) (filter (λ x. follows_in code x) (range_with_len (at + 1 + 1) (length code + 1 - (at + 1)))) in
    elim c.if-follows.branch [
      | then-follows+in_ok-push w ↦
          ap (λ v. v ++ rest) (w.out-is ∙ w.in_ok-push.ensures.ok ∙ ap (λ v. c.loop-at.out ++ (v ∷ [])) w.with.ensures)
          ∙ append_assoc c.loop-at.out ((code ++ ((at + 1) ∷ [])) ∷ []) rest
          ∙ ap (λ v. c.loop-at.out ++ v) (sym (letter_follows code at (omega (arith, c.loop-at-test.true, c.len-at-end.ensures.value)) (sym c.follows.ensures ∙ w.if-follows.true)))
          ∙ c.loop-at.invariant
      | else-follows w ↦
          ap (λ v. v ++ rest) w.out-is
          ∙ ap (λ v. c.loop-at.out ++ v) (sym (letter_fails code at (omega (arith, c.loop-at-test.true, c.len-at-end.ensures.value)) (sym c.follows.ensures ∙ w.if-follows.false)))
          ∙ c.loop-at.invariant
    ]
