use Rattle.std.proofs.Common.{◌≡◌, suc, ◌-◌, ℕ, List, length, drop, get_or, sym, ◌∙◌, ap, subst, arith, length-drop}
use Rattle.std.specs.List.{All}
use Rattle.compositions.specs.Growth.{CanGrowBy, grown_codes, codes_over}
use Rattle.compositions.proofs.GrowingCodes.{All-grown, rest_grows}
use Rattle.compositions.proofs.SmallCodes.{small-first}
use Rattle.compositions.proofs.growth.+compositions_over.Goals as goal

pub grown-requires : goal.grown-requires
grown-requires t c =
    let parts : List ℕ = c.args.parts.now in
    let behind : c.suffix-behind.result ≡ drop 1 parts = c.suffix-behind.ensures in
    subst (All (CanGrowBy 1)) (sym (c.in_ok-rest.ensures ∙ ap (codes_over c.args.between c.args.inside) behind))
    (rest_grows c.args.between c.args.inside parts 1 c.requires (omega (arith, ap length behind, length-drop 1 parts)) (omega (arith, (small-first parts c.requires (omega arith)).0)))

pub grown_by-requires-2 : goal.grown_by-requires-2
grown_by-requires-2 t c =
    let parts : List ℕ = c.args.parts.now in
    let behind : c.suffix-behind.result ≡ drop 1 parts = c.suffix-behind.ensures in
    let first : c.from-more.result ≡ get_or parts 0 0 = c.from-more.ensures ∙ c.letter.ensures in
    subst (All (CanGrowBy (c.from-more.result - 1))) (sym (c.in_ok-front.ensures ∙ ap (grown_codes c.args.between) (c.in_ok-rest.ensures ∙ ap (codes_over c.args.between c.args.inside) behind)))
    (All-grown (c.from-more.result - 1) c.args.between (codes_over c.args.between c.args.inside (drop 1 parts))
    (rest_grows c.args.between c.args.inside parts (suc (c.from-more.result - 1)) c.requires (omega (arith, ap length behind, length-drop 1 parts)) (omega (arith, (small-first parts c.requires (omega arith)).0))))
