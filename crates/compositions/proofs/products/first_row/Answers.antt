use Rattle.std.proofs.Common.{◌≡◌, ◌-◌, ◌≤◌, [], drop, length, subst, sym, ◌∙◌, ap, arith}
use Rattle.realisations.specs.IndexKinds.{IsComposition}
use Rattle.compositions.specs.QuasiShuffles.{IsProduct}
use Rattle.compositions.proofs.Rows.{row_more, only_left, last_parts}
use Rattle.compositions.proofs.products.first_row.Goals as goal

pub loop-len-preserved : goal.loop-len-preserved
loop-len-preserved c =
    let last : c.suffix.result ≡ drop (length c.args.b.now - c.loop-len.len) c.args.b.now = c.suffix.ensures ∙ ap (λ m. drop (m - c.loop-len.len) c.args.b.now) c.len.ensures.value in
    let le : c.loop-len.len ≤ length c.args.b.now = omega (arith, c.len-len-end.ensures.value, c.loop-len-test.true) in
    let parts : IsComposition c.suffix.result = subst IsComposition (sym last) (last_parts c.args.b.now c.loop-len.len le c.requires.second) in
    row_more [] c.args.b.now c.loop-len.len c.loop-len.row.items _ c.in_ok-only.field-0 c.loop-len.invariant
    (subst (λ k. IsProduct [] k c.in_ok-only.field-0) last (only_left c.suffix.result c.in_ok-only.field-0 parts c.in_ok-only.ensures)) c.in_ok-push.ensures.items
