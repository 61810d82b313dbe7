use Rattle.std.proofs.Common.{◌≡◌, ◌+◌, ◌-◌, ◌++◌, ◌∷◌, [], length, map}
use Rattle.std.specs.List.{filter, range_with_len}
use Rattle.tableaux.specs.NumberedTableaux.{follows_in, longer_codes}
use Rattle.tableaux.proofs.listing.push_longer.Given as goal

abbrev pub invariant-loop-at : goal.invariant-loop-at
invariant-loop-at l =
    l.out ++ map (λ c. l.code ++ (c ∷ [])) (filter (λ c. follows_in l.code c) (range_with_len (l.at + 1) (length l.code + 1 - l.at))) ≡ l.initial.out ++ longer_codes l.code
