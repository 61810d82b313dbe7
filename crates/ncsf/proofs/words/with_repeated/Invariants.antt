use Rattle.std.proofs.Common.{◌≡◌, ◌++◌, replicate}
use Rattle.ncsf.proofs.words.with_repeated.Given as goal

abbrev pub invariant-loop : goal.invariant-loop
invariant-loop l = l.longer ≡ l.word ++ replicate l.counter l.letter
