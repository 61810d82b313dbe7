use Rattle.hopf_ops.proofs.Gathering.{none_gathered, sum_gathered}
use Rattle.hopf_ops.proofs.gather.gathered_products.Goals as goal

pub add_products-requires-clause-gathered : goal.add_products-requires-clause-gathered
add_products-requires-clause-gathered c = none_gathered c.args.bases.now c.args.a.now.terms c.args.b.now.terms c.new-out.result c.len.result c.len.ensures.value c.new-out.ensures

pub returns : goal.returns
returns c = sum_gathered c.args.bases.now c.args.a.now c.args.b.now c.add_products.new.out c.finish.result c.in_ok-add_products.ensures c.finish.ensures
