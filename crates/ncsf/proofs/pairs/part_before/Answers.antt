use Rattle.std.proofs.Common.{◌∷◌, arith}
use Rattle.std.proofs.lemmas.List.Sums.{sum_by-cons}
use Rattle.std.specs.Prelude.{ℕ}
use Rattle.compositions.proofs.Parts.{code_from_composition}
use Rattle.ncsf.proofs.pairs.part_before.Goals as goal

pub followed_by-requires : goal.followed_by-requires
followed_by-requires c =
    rw (c.with-front.ensures, c.empty-none.ensures)
    (code_from_composition (c.args.part ∷ c.args.parts.now) (omega (arith, c.if-part-eq0.false), c.requires.composition)
    (omega (arith, sum_by-cons (λ (k : ℕ). k) c.args.part c.args.parts.now, c.requires.small)))
