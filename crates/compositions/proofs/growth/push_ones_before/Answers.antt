use Rattle.std.proofs.Common.{arith, sym, subst}
use Rattle.compositions.specs.Growth.{CanGrowBy}
use Rattle.compositions.proofs.GrowingCodes.{IsCode-one}
use Rattle.compositions.proofs.growth.push_ones_before.Goals as goal

pub part_before-requires : goal.part_before-requires
part_before-requires c = IsCode-one c.at.result.now (subst (CanGrowBy 1) (sym c.at.ensures) (c.requires c.loop-at.at c.at.result.now (omega arith)))
