use Rattle.std.proofs.Common.{◌≡◌, ◌-◌, take}
use Rattle.realisations.specs.Tableaux.{tableau_code}
use Rattle.index_spellings.proofs.rows.code_of.Given as goal

abbrev pub invariant-loop-number : goal.invariant-loop-number
invariant-loop-number l = l.code ≡ take (l.number - 1) (tableau_code l.rows)
