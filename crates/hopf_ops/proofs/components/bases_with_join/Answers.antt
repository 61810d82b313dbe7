use Rattle.std.proofs.Common.{◌≡◌, ◌+◌, ◌-◌, ◌≤◌, [], ◌∷◌, ◌++◌, slice_index_or, sym, ◌∙◌, ap, subst, arith}
use Rattle.std.specs.Prelude.{unwrap_or}
use Rattle.std.proofs.lemmas.List.Elements.{All-head}
use Rattle.std.proofs.lemmas.Result.{err_from_is_err_and}
use Rattle.hopf_laws.specs.Bases.{least_limit}
use Rattle.hopf_laws.specs.Values.{degree_of_value}
use Rattle.basis_routes.specs.declared.checks.Check.TheVariants.{Joined, DegreeWithin}
use Rattle.basis_routes.specs.Checks.{Passes, IsRefusalOf}
use Rattle.basis_routes.specs.JoinTable.{join_of}
use Rattle.basis_routes.specs.Lists.{replaced, without}
use Rattle.basis_routes.proofs.Rows.{refused_front, refused_back}
use Rattle.hopf_ops.proofs.NeighboursInSteps.{join_made, neighbours_read, neighbours_refused}
use Rattle.hopf_ops.proofs.components.bases_with_join.Goals as goal

pub overflow_add-component : goal.overflow_add-component
overflow_add-component c = omega (arith, c.requires.last, c.bases-given.ensures.value.short)

-- there is no join
pub returns-in_err-test-clause-refusal : goal.returns-in_err-test-clause-refusal
returns-in_err-test-clause-refusal c =
    let p = err_from_is_err_and c.from_residual.result c.from_residual.ensures.1 in
    let a = c.args.a.now in
    let n = c.args.component - 1 in
    let left = c.at-left.result in
    let right = c.at-right.result in
    let is_left : left ≡ slice_index_or a.bases n left = subst (λ bs. left ≡ slice_index_or bs n left) c.bases-given.ensures.bases c.at-left.ensures in
    let is_right : right ≡ slice_index_or a.bases (c.args.component + 1 - 1) right = subst (λ bs. right ≡ slice_index_or bs (c.args.component + 1 - 1) right) c.bases-given.ensures.bases c.at-right.ensures in
    let h = neighbours_read a.bases c.args.component left right c.requires.first c.requires.last is_left is_right in
    let degree = DegreeWithin (degree_of_value a) (least_limit (h.before ++ unwrap_or (join_of left right) left ∷ h.after)) in
    rw (p.1, p.2) (neighbours_refused a n left right h c.in_err-test.field-0.0
    (refused_front (Joined left right ∷ []) (degree ∷ []) c.in_err-test.field-0.0 c.in_err-test.ensures.checks))

-- or the degree is past the limit
pub returns-in_err-test-2-clause-refusal : goal.returns-in_err-test-2-clause-refusal
returns-in_err-test-2-clause-refusal c =
    let p = err_from_is_err_and c.from_residual-in_err-test-2.result c.from_residual-in_err-test-2.ensures.1 in
    let a = c.args.a.now in
    let n = c.args.component - 1 in
    let left = c.at-left.result in
    let right = c.at-right.result in
    let is_left : left ≡ slice_index_or a.bases n left = subst (λ bs. left ≡ slice_index_or bs n left) c.bases-given.ensures.bases c.at-left.ensures in
    let is_right : right ≡ slice_index_or a.bases (c.args.component + 1 - 1) right = subst (λ bs. right ≡ slice_index_or bs (c.args.component + 1 - 1) right) c.bases-given.ensures.bases c.at-right.ensures in
    let h = neighbours_read a.bases c.args.component left right c.requires.first c.requires.last is_left is_right in
    let join = unwrap_or (join_of left right) left in
    let of_join : c.unwrap_or.result ≡ join = c.unwrap_or.ensures ∙ ap (λ o. unwrap_or o left) c.join.ensures in
    let made : c.replaced-made.result ≡ h.before ++ join ∷ h.after =
    join_made c.args.component a.bases c.without-kept.result c.replaced-made.result left right join h c.requires.first
    (c.without-kept.ensures ∙ ap (λ bs. without (c.args.component + 1 - 1) bs) c.bases-given.ensures.bases)
    (c.replaced-made.ensures ∙ ap (λ b. replaced n (b ∷ []) c.without-kept.result) of_join) in
    let limit : c.least_limit.result ≡ least_limit (h.before ++ join ∷ h.after) = c.least_limit.ensures ∙ ap (λ bs. least_limit bs) made in
    let degree = DegreeWithin (degree_of_value a) (least_limit (h.before ++ join ∷ h.after)) in
    let past : IsRefusalOf (degree ∷ []) c.in_err-test-2.field-0.0 = rw (c.degree.ensures.degree, limit) at c.in_err-test-2.ensures.checks in
    rw (p.1, p.2) (neighbours_refused a n left right h c.in_err-test-2.field-0.0
    (refused_back (Joined left right ∷ []) (degree ∷ []) c.in_err-test-2.field-0.0 c.in_ok-test.ensures.checks past))

-- both pass
pub returns-clause-value : goal.returns-clause-value
returns-clause-value c =
    let a = c.args.a.now in
    let n = c.args.component - 1 in
    let left = c.at-left.result in
    let right = c.at-right.result in
    let is_left : left ≡ slice_index_or a.bases n left = subst (λ bs. left ≡ slice_index_or bs n left) c.bases-given.ensures.bases c.at-left.ensures in
    let is_right : right ≡ slice_index_or a.bases (c.args.component + 1 - 1) right = subst (λ bs. right ≡ slice_index_or bs (c.args.component + 1 - 1) right) c.bases-given.ensures.bases c.at-right.ensures in
    let h = neighbours_read a.bases c.args.component left right c.requires.first c.requires.last is_left is_right in
    let join = unwrap_or (join_of left right) left in
    let of_join : c.unwrap_or.result ≡ join = c.unwrap_or.ensures ∙ ap (λ o. unwrap_or o left) c.join.ensures in
    let made : c.replaced-made.result ≡ h.before ++ join ∷ h.after =
    join_made c.args.component a.bases c.without-kept.result c.replaced-made.result left right join h c.requires.first
    (c.without-kept.ensures ∙ ap (λ bs. without (c.args.component + 1 - 1) bs) c.bases-given.ensures.bases)
    (c.replaced-made.ensures ∙ ap (λ b. replaced n (b ∷ []) c.without-kept.result) of_join) in
    let limit : c.least_limit.result ≡ least_limit (h.before ++ join ∷ h.after) = c.least_limit.ensures ∙ ap (λ bs. least_limit bs) made in
    let within : degree_of_value a ≤ least_limit c.replaced-made.result =
    subst (λ bs. degree_of_value a ≤ least_limit bs) (sym made)
    (rw (c.degree.ensures.degree, limit) at (All-head Passes (DegreeWithin c.degree.result c.least_limit.result) [] c.in_ok-test-2.ensures.checks)) in
    record {
      before = h.before;
      left = left;
      right = right;
      after = h.after;
      value = c.bases-given.ensures.value;
      is = h.is;
      long = h.long;
      join = All-head Passes (Joined left right) [] c.in_ok-test.ensures.checks;
      over = made;
      within = within;
    }
