use Rattle.std.proofs.Common.{◌≡◌, List, sym, subst, ◌∙◌, [], ◌∷◌, ◌++◌, length, rules}
use Rattle.std.specs.Prelude.{All}
use Rattle.std.proofs.lemmas.List.Elements.{All-append}
use Rattle.std.proofs.lemmas.Result.{err_from_is_err_and}
use Rattle.basis_names.specs.declared.bases.BasisId.{BasisId}
use Rattle.hopf_laws.specs.Bases.{least_limit}
use Rattle.basis_routes.specs.declared.checks.Check.TheVariants.{SameRank, DegreeWithin}
use Rattle.basis_routes.specs.Checks.{Passes, IsRefusalOf}
use Rattle.basis_routes.specs.Joins.{joined, join_checks}
use Rattle.basis_routes.proofs.Rows.{refused_front, refused_back}
use Rattle.hopf_ops.specs.Answers.{AreTargets}
use Rattle.hopf_ops.proofs.BuiltJoins.{targets_of}
use Rattle.hopf_ops.proofs.common.common_bases.Goals as goal

pub returns-in_err-bases-clause-checks : goal.returns-in_err-bases-clause-checks
returns-in_err-bases-clause-checks c =
    let p = err_from_is_err_and c.from_residual-in_err-bases.result c.from_residual-in_err-bases.ensures.1 in
    let a = c.args.a.now.bases in
    let b = c.args.b.now.bases in
    let rank = SameRank (length a) (length b) ∷ [] in
    let degree = DegreeWithin c.args.degree (least_limit (joined a b)) ∷ [] in
    let ranks : All Passes rank = search rules in
    let joins : IsRefusalOf (join_checks a b) c.in_err-bases.field-0.0 = search rules in
    rw (p.1, p.2) (refused_back rank (join_checks a b ++ degree) c.in_err-bases.field-0.0 ranks (refused_front (join_checks a b) degree c.in_err-bases.field-0.0 joins))

pub returns-in_err-test-2-clause-checks : goal.returns-in_err-test-2-clause-checks
returns-in_err-test-2-clause-checks c =
    let p = err_from_is_err_and c.from_residual-in_err-test-2.result c.from_residual-in_err-test-2.ensures.1 in
    let a = c.args.a.now.bases in
    let b = c.args.b.now.bases in
    let rank = SameRank (length a) (length b) ∷ [] in
    let degree = DegreeWithin c.args.degree (least_limit (joined a b)) ∷ [] in
    let ranks : All Passes rank = search rules in
    let joins : All Passes (join_checks a b) = search rules in
    let past : IsRefusalOf degree c.in_err-test-2.field-0.0 = search rules in
    rw (p.1, p.2) (refused_back rank (join_checks a b ++ degree) c.in_err-test-2.field-0.0 ranks (refused_back (join_checks a b) degree c.in_err-test-2.field-0.0 joins past))

pub returns-clause-checks : goal.returns-clause-checks
returns-clause-checks c =
    let a = c.args.a.now.bases in
    let b = c.args.b.now.bases in
    let rank = SameRank (length a) (length b) ∷ [] in
    let degree = DegreeWithin (c.args.degree) (least_limit (joined a b)) ∷ [] in
    let ranks : All Passes rank = search rules in
    let joins : All Passes (join_checks a b) = search rules in
    let within : All Passes degree = search rules in
    All-append Passes rank (join_checks a b ++ degree) ranks (All-append Passes (join_checks a b) degree joins within)

pub returns-clause-targets : goal.returns-clause-targets
returns-clause-targets c =
    let a = c.args.a.now in
    let b = c.args.b.now in
    let rank = SameRank (length a.bases) (length b.bases) ∷ [] in
    let joins = join_checks a.bases b.bases in
    let degree = DegreeWithin (c.args.degree) (least_limit (joined a.bases b.bases)) ∷ [] in
    let ranks : All Passes rank = search rules in
    let have_joins : All Passes joins = search rules in
    let within : All Passes degree = search rules in
    let is : c.in_ok-bases.bases ≡ joined a.bases b.bases = c.in_ok-bases.ensures.value ∙ (λ i. joined (c.bases.ensures.bases i) (c.bases-2.ensures.bases i)) in
    subst (λ (bases : List BasisId). AreTargets bases (c.args.degree) a b) (sym is)
    (targets_of (c.args.degree) a b c.rank.ensures.value c.rank-2.ensures.value
    (All-append Passes rank (joins ++ degree) ranks (All-append Passes joins degree have_joins within)))
