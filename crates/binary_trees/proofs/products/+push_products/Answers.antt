use Rattle.std.proofs.Common.{rules, ◌<◌, suc, length, ap, arith}
use Rattle.std.proofs.lemmas.List.{length-drop, length-take-le}
use Rattle.std.proofs.lemmas.Result.{on_ok_weaker}
use Rattle.binary_trees.proofs.RootPlaces.{after_letter}
use Rattle.binary_trees.proofs.ProductCodes.{adds_both, adds_first, adds_second, left_parts, right_parts, with_first, with_second}
use Rattle.binary_trees.proofs.products.+push_products.Goals as goal

pub followed_by-requires : goal.followed_by-requires
followed_by-requires t c = with_second c.args.front.now c.args.t.now c.args.u.now c.args.rest.now c.requires

pub followed_by-requires-in-None-root_place : goal.followed_by-requires-in-None-root_place
followed_by-requires-in-None-root_place t c = with_first c.args.front.now c.args.t.now c.args.u.now c.args.rest.now c.requires

pub push_products-requires : goal.push_products-requires
push_products-requires t c =
    let i = c.in-Some.ensures in
    let j = c.in-Some-root_place.ensures in
    let shorter : length c.prefix.result < length c.args.u.now = omega (arith, ap length c.prefix.ensures, length-take-le c.in-Some-root_place.j c.args.u.now, j.0) in (
      search rules,
      left_parts c.args.front.now c.args.t.now c.args.u.now c.args.rest.now c.in-Some.i c.in-Some-root_place.j c.requires i.0 i.1 i.2 j.0 j.1 j.2
          c.prefix.result c.suffix.result c.followed_by-back.result c.prefix.ensures c.suffix.ensures c.followed_by-back.ensures,
    )

pub push_products-requires-in-Some-root_place : goal.push_products-requires-in-Some-root_place
push_products-requires-in-Some-root_place t c =
    let i = c.in-Some.ensures in
    let j = c.in-Some-root_place.ensures in
    let right = after_letter c.args.t.now c.suffix-in-Some-root_place.result c.in-Some.i c.suffix-in-Some-root_place.ensures in
    let shorter : length c.suffix-in-Some-root_place.result < length c.args.t.now = omega (arith, ap length right, length-drop (suc c.in-Some.i) c.args.t.now, i.0) in (
      search rules,
      right_parts c.args.front.now c.args.t.now c.args.u.now c.args.rest.now c.in-Some.i c.in-Some-root_place.j c.requires i.0 i.1 i.2 j.0 j.1 j.2
          c.prefix-in-Some-root_place.result c.followed_by-in-Some-root_place.result c.with-start.result c.suffix-in-Some-root_place.result _ c.prefix-in-Some-root_place.ensures c.followed_by-in-Some-root_place.ensures
          (omega (arith, c.len.ensures.value, c.len-in-Some-root_place.ensures.value)) c.with-start.ensures right,
    )

pub returns-in-None : goal.returns-in-None
returns-in-None t c =
    on_ok_weaker _
    (λ h. adds_second c.args.front.now c.args.t.now c.args.u.now c.args.rest.now c.followed_by.result c.followed_by-in-None.result c.args.out.now c.push.new.self c.requires c.in-None.ensures c.followed_by.ensures c.followed_by-in-None.ensures h)
    c.push.ensures.ok

pub returns-in-None-root_place : goal.returns-in-None-root_place
returns-in-None-root_place t c =
    on_ok_weaker _
    (λ h. adds_first c.args.front.now c.args.t.now c.args.u.now c.args.rest.now c.followed_by-in-None-root_place.result c.followed_by-in-None-root_place-2.result c.args.out.now c.push-in-None-root_place.new.self c.requires (omega (arith, c.in-Some.ensures.0)) c.in-None-root_place.ensures
    c.followed_by-in-None-root_place.ensures c.followed_by-in-None-root_place-2.ensures h)
    c.push-in-None-root_place.ensures.ok

pub returns-in_ok-push_products-in-Some-root_place : goal.returns-in_ok-push_products-in-Some-root_place
returns-in_ok-push_products-in-Some-root_place t c =
    let i = c.in-Some.ensures in
    let j = c.in-Some-root_place.ensures in
    on_ok_weaker _
    (λ h. adds_both c.args.front.now c.args.t.now c.args.u.now c.args.rest.now c.in-Some.i c.in-Some-root_place.j c.requires i.0 i.1 i.2 j.0 j.1 j.2
    c.prefix.result c.suffix.result c.followed_by-back.result c.prefix-in-Some-root_place.result c.followed_by-in-Some-root_place.result c.with-start.result c.suffix-in-Some-root_place.result _
    c.args.out.now c.push_products.new.out c.push_products-in-Some-root_place.new.out
    c.prefix.ensures c.suffix.ensures c.followed_by-back.ensures c.prefix-in-Some-root_place.ensures c.followed_by-in-Some-root_place.ensures
    (omega (arith, c.len.ensures.value, c.len-in-Some-root_place.ensures.value)) c.with-start.ensures
    (after_letter c.args.t.now c.suffix-in-Some-root_place.result c.in-Some.i c.suffix-in-Some-root_place.ensures)
    c.in_ok-push_products-in-Some-root_place.ensures h)
    c.push_products-in-Some-root_place.ensures
