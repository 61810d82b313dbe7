use Rattle.std.proofs.Common.{◌≡◌, suc, ◌+◌, ◌-◌, ℕ, false, sym, ◌∙◌, ap, subst, arith, add-one}
use Rattle.ncsf.specs.PairLists.{SidesGrowBy, with_first_letter, with_letters}
use Rattle.ncsf.proofs.Sides.{still_grow}
use Rattle.ncsf.proofs.ribbon_cuts.with_letters.Goals as goal

pub loop-preserved : goal.loop-preserved
loop-preserved c =
    let left : ℕ = c.args.count - (c.loop.counter + 1) in
    let more : c.args.count - c.loop.counter ≡ suc left = omega arith in (
      c.in_ok-longer.ensures ∙ ap (with_first_letter false) c.loop.invariant.0 ∙ sym (ap (λ n. with_letters n c.args.sides) (add-one c.loop.counter)),
      subst (SidesGrowBy left) (sym c.in_ok-longer.ensures) (still_grow left false c.loop.longer (subst (λ n. SidesGrowBy n c.loop.longer) more c.loop.invariant.1)),
    )
