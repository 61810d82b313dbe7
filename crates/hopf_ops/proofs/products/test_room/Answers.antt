use Rattle.std.proofs.Common.{[], ◌∷◌, rules}
use Rattle.std.specs.Prelude.{All}
use Rattle.hopf_num.specs.declared.room.Need.TheVariants.{Denominator, Product}
use Rattle.realisations.specs.Combinations.{norm_of}
use Rattle.basis_routes.specs.declared.checks.Check.TheVariants.{Room}
use Rattle.basis_routes.specs.Checks.{Passes, Tests}
use Rattle.basis_routes.proofs.Rows.{tests_back}
use Rattle.hopf_ops.proofs.products.test_room.Goals as goal

pub returns-clause-checks : goal.returns-clause-checks
returns-clause-checks c =
    let a = c.args.a.now.combination in
    let b = c.args.b.now.combination in
    let first = Room (Denominator a.den b.den) ∷ [] in
    let second = Room (Product (norm_of a.terms) (norm_of b.terms) c.args.shift) ∷ [] in
    let pass : All Passes first = search rules in
    let tests : Tests second c.test-2.result = search rules in
    tests_back first second c.test-2.result pass tests
