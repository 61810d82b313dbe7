use Rattle.std.proofs.Common.{◌+◌, ◌≤◌, ◌∷◌, [], ◌++◌, ◌≡◌, ◌∙◌, length, ap, sym, subst, arith}
use Rattle.realisations.specs.IndexKinds.{IsTreeCode}
use Rattle.word_laws.specs.AddedCodes.{AddsEach}
use Rattle.binary_trees.proofs.GrownTrees.{IsLongerTo, longer_end, longer_more, longer_same, longer_start}
use Rattle.binary_trees.proofs.listing.push_longer.Goals as goal
use Rattle.binary_trees.proofs.listing.push_longer.Goals.{then-is_code_of_tree+in_ok-push, else-is_code_of_tree}

pub loop-cut-init : goal.loop-cut-init
loop-cut-init c = longer_start c.args.code.now c.args.out.now

pub loop-cut-preserved : goal.loop-cut-preserved
loop-cut-preserved c =
    let code = c.args.code.now in
    let old = c.args.out.now in
    elim c.if-is_code_of_tree.branch [
      | then-is_code_of_tree+in_ok-push w ↦
          (let le : c.loop-cut.cut ≤ length code = omega (arith, c.len-cut-end.ensures.value, c.loop-cut-test.true) in
          let new : w.followed_by.result ≡ (c.loop-cut.cut + 1) ∷ code = w.followed_by.ensures ∙ ap (λ v. v ++ code) (w.with-first.ensures ∙ ap (λ v. v ++ (c.loop-cut.cut + 1) ∷ []) w.empty.ensures) in
          subst (AddsEach (IsLongerTo (c.loop-cut.cut + 1) code) old) (sym (w.out-is ∙ w.in_ok-push.ensures.ok))
          (longer_more code [] w.followed_by.result c.loop-cut.cut old c.loop-cut.out c.requires le (subst IsTreeCode c.prefix.ensures w.if-is_code_of_tree.ensures) new c.loop-cut.invariant))
      | else-is_code_of_tree w ↦
          subst (AddsEach (IsLongerTo (c.loop-cut.cut + 1) code) old) (sym w.out-is)
          (longer_same code c.loop-cut.cut old c.loop-cut.out (λ h. w.if-is_code_of_tree.ensures (subst IsTreeCode (sym c.prefix.ensures) h)) c.loop-cut.invariant)
    ]

pub returns : goal.returns
returns c = longer_end c.args.code.now c.loop-cut.cut c.args.out.now c.loop-cut.out (omega (arith, c.len-cut-end.ensures.value)) c.loop-cut.invariant
