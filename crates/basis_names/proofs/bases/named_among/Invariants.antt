use Rattle.std.proofs.Common.{◌≡◌, drop}
use Rattle.basis_names.specs.Bases.{named}
use Rattle.basis_names.proofs.bases.named_among.Given as goal

abbrev pub invariant-loop-basis : goal.invariant-loop-basis
invariant-loop-basis l = named l.bases l.name ≡ named (drop l.basis-index l.bases) l.name
