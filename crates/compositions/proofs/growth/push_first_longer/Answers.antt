use Rattle.std.proofs.Common.{arith, sym, subst}
use Rattle.compositions.specs.Growth.{CanGrowBy}
use Rattle.compositions.proofs.GrowingCodes.{IsCode-longer}
use Rattle.compositions.proofs.growth.push_first_longer.Goals as goal

pub first_longer-requires-clause-longer : goal.first_longer-requires-clause-longer
first_longer-requires-clause-longer c =
    IsCode-longer c.at.result.now (subst (CanGrowBy 1) (sym c.at.ensures) (c.requires c.loop-at.at c.at.result.now (omega arith)))
