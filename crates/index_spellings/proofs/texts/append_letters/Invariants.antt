use Rattle.std.proofs.Common.{◌≡◌, ◌++◌, drop, map}
use Rattle.std.specs.Fmt.{decimal}
use Rattle.index_spellings.specs.Texts.{comma_separated}
use Rattle.index_spellings.proofs.TextsInTurn.{later_texts}
use Rattle.index_spellings.proofs.texts.append_letters.Given as goal

abbrev pub invariant-loop-at : goal.invariant-loop-at
invariant-loop-at l = l.out ++ later_texts (drop l.at (map decimal l.code)) ≡ l.fn.out ++ comma_separated (map decimal l.code)
