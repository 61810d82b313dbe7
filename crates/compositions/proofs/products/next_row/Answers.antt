use Rattle.compositions.proofs.Rows.{row_more}
use Rattle.compositions.proofs.products.next_row.Goals as goal

pub loop-len-preserved : goal.loop-len-preserved
loop-len-preserved c =
    row_more c.args.a.now c.args.b.now c.loop-len.len c.loop-len.row.items _ c.in_ok-next_in_row.field-0 c.loop-len.invariant c.in_ok-next_in_row.ensures c.in_ok-push-2.ensures.items
