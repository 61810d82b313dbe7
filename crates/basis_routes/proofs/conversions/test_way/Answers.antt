use Rattle.std.proofs.Common.{◌≡◌, ◌<◌, ◌-◌, [], ◌∷◌, min, length, get_or, ◌∙◌, ap, arith}
use Rattle.std.specs.Prelude.{unwrap_or}
use Rattle.std.proofs.lemmas.List.{get_or_default}
use Rattle.basis_names.specs.Bases.{algebra_of, limit_of}
use Rattle.hopf_laws.specs.Bases.{least_limit}
use Rattle.basis_routes.specs.Conversions.{limit_between}
use Rattle.basis_routes.specs.Lists.{replaced}
use Rattle.basis_routes.proofs.ConversionSteps.{way_tests}
use Rattle.basis_routes.proofs.conversions.test_way.Goals as goal

pub returns : goal.returns
returns c =
    let n = c.args.component - 1 in
    let v = c.args.value.now in
    let from = c.basis-from.result in
    let to = c.args.to in
    let lt : n < length v.bases = omega (arith, c.requires.first, c.requires.last) in
    let is : from ≡ get_or v.bases n to = c.basis-from.ensures ∙ get_or_default v.bases n from to lt in
    let least : c.least_limit.result ≡ least_limit (replaced n (to ∷ []) v.bases) =
    c.least_limit.ensures ∙ ap least_limit (c.replaced-bases.ensures ∙ ap (replaced n (to ∷ [])) c.bases.ensures.bases) in
    let common = c.limit-common.ensures ∙ ap limit_of (c.algebra.ensures ∙ ap algebra_of (c.unwrap_or.ensures ∙ ap (λ j. unwrap_or j from) c.join.ensures)) in
    let limit : c.min.result ≡ limit_between from to (replaced n (to ∷ []) v.bases) = c.min.ensures ∙ (λ i. min (least i) (common i)) in
    way_tests n to v from c.degree.result c.min.result c.test-2.result is c.degree.ensures.degree limit c.in_ok-test.ensures.checks c.test-2.ensures.checks
