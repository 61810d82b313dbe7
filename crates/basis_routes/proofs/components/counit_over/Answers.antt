use Rattle.std.proofs.Common.{◌-◌, rules}
use Rattle.realisations.specs.Combinations.{IsCanonical}
use Rattle.basis_routes.proofs.KeptTerms.{kept_over}
use Rattle.basis_routes.proofs.components.counit_over.Goals as goal

pub returns : goal.returns
returns c =
    let canonical : IsCanonical c.over.result.rank c.over.result.den c.over.result.terms = search rules in
    kept_over (c.args.component - 1) c.args.value.now c.in_ok-whole.whole c.over.result c.den_of.result c.den_of.ensures.value c.in_ok-whole.ensures canonical c.over.ensures
