use Rattle.std.proofs.lemmas.Result.{on_ok_weaker}
use Rattle.compositions.proofs.Rows.{both_added, both_turned}
use Rattle.compositions.proofs.products.add_both.Goals as goal

pub returns-then-first-second : goal.returns-then-first-second
returns-then-first-second c =
    on_ok_weaker _ (λ h. both_added c.args.first c.args.second c.args.behind_first.now.terms c.args.behind_second.now.terms c.args.out.now _ _ c.in_ok-add_behind.ensures h) c.add_behind-then-first-second.ensures

pub returns : goal.returns
returns c =
    on_ok_weaker _
    (λ h. both_turned c.args.first c.args.second c.args.behind_first.now.terms c.args.behind_second.now.terms c.args.out.now _
    (both_added c.args.second c.args.first c.args.behind_second.now.terms c.args.behind_first.now.terms c.args.out.now _ _ c.in_ok-add_behind-2.ensures h))
    c.add_behind-3.ensures
