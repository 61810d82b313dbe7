use Rattle.std.proofs.Common.{◌≡◌, suc, ◌+◌, ◌-◌, ℕ, sym, ◌∙◌, ap, subst, arith, add-one}
use Rattle.std.specs.List.{All}
use Rattle.compositions.specs.Growth.{CanGrowBy, grown_codes, grown_times}
use Rattle.compositions.proofs.GrowingCodes.{All-grown}
use Rattle.compositions.proofs.growth.grown_by.Goals as goal

pub loop-preserved : goal.loop-preserved
loop-preserved c =
    let left : ℕ = c.args.count - (c.loop.counter + 1) in
    let more : c.args.count - c.loop.counter ≡ suc left = omega arith in (
      c.in_ok-codes.ensures ∙ ap (grown_codes c.args.place) c.loop.invariant.0 ∙ sym (ap (λ n. grown_times n c.args.place c.args.list) (add-one c.loop.counter)),
      subst (All (CanGrowBy left)) (sym c.in_ok-codes.ensures) (All-grown left c.args.place c.loop.codes (subst (λ n. All (CanGrowBy n) c.loop.codes) more c.loop.invariant.1)),
    )
