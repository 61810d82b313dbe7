use Rattle.std.proofs.Common.{◌-◌}
use Rattle.basis_routes.proofs.KeptTerms.{all_kept}
use Rattle.basis_routes.proofs.components.kept_whole.Goals as goal

pub returns : goal.returns
returns c = all_kept (c.args.component - 1) c.args.value.now c.keep_terms.new.out c.finish.result c.in_ok-keep_terms.ensures c.finish.ensures
