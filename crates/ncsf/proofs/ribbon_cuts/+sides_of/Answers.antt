use Rattle.std.proofs.Common.{◌≡◌, suc, ◌-◌, ◌≤◌, ℕ, List, length, get_or, drop, sym, ◌∙◌, ap, subst, arith}
use Rattle.std.specs.Prelude.{nat_lt}
use Rattle.std.proofs.lemmas.Result.{IfOk-weaker}
use Rattle.ncsf.specs.PairLists.{SidesGrowBy, with_first_letter, with_letters, sides_of}
use Rattle.ncsf.proofs.Sides.{still_grow, fewer_grow, sides_grow, sides_of-next, has_parts-length}
use Rattle.compositions.proofs.SmallCodes.{small-first}
use Rattle.ncsf.proofs.ribbon_cuts.+sides_of.Goals as goal

pub with_first_letter-requires : goal.with_first_letter-requires
with_first_letter-requires t c =
    let parts : List ℕ = c.args.parts.now in
    let some : 1 ≤ length parts = omega arith in
    let rest = c.in_ok-rest.ensures ∙ ap sides_of c.suffix-behind.ensures in
    subst (SidesGrowBy 1) (sym rest) (fewer_grow 1 (get_or parts 0 0) (sides_of (drop 1 parts)) (small-first parts c.requires some).0 (sides_grow parts some c.requires))

pub with_letters-requires : goal.with_letters-requires
with_letters-requires t c =
    let parts : List ℕ = c.args.parts.now in
    let some : 1 ≤ length parts = omega arith in
    let rest = c.in_ok-rest.ensures ∙ ap sides_of c.suffix-behind.ensures in
    let first : suc (c.from.result - 1) ≡ get_or parts 0 0 = omega (arith, c.from.ensures, c.letter.ensures, (small-first parts c.requires some).0) in
    subst (SidesGrowBy (c.from.result - 1)) (sym c.in_ok-last.ensures)
    (still_grow (c.from.result - 1) _ c.in_ok-rest.rest
    (subst (λ n. SidesGrowBy n c.in_ok-rest.rest) (sym first) (subst (SidesGrowBy (get_or parts 0 0)) (sym rest) (sides_grow parts some c.requires))))

pub returns : goal.returns
returns t c =
    let parts : List ℕ = c.args.parts.now in
    let some : 1 ≤ length parts = omega arith in
    let rest = c.in_ok-rest.ensures ∙ ap sides_of c.suffix-behind.ensures in
    let first : c.from.result - 1 ≡ get_or parts 0 0 - 1 = omega (arith, c.from.ensures, c.letter.ensures) in
    let falls = ap (λ n. nat_lt 0 n) (c.len-2.ensures.value ∙ ap length c.suffix-behind.ensures) ∙ has_parts-length (drop 1 parts) in
    IfOk-weaker c.with_letters.result (λ sides. sides ≡ with_letters (c.from.result - 1) c.in_ok-last.last) (λ sides. sides ≡ sides_of parts)
    (λ sides e. e ∙ (λ i. with_letters (first i) ((c.in_ok-last.ensures ∙ (λ k. with_first_letter (falls k) (rest k))) i)) ∙ sides_of-next parts some)
    c.with_letters.ensures
