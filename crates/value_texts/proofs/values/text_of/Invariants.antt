use Rattle.std.proofs.Common.{ℕ, ◌++◌, List, drop}
use Rattle.value_texts.specs.Text.{AreLaterTerms, IsTextOf}
use Rattle.value_texts.proofs.values.text_of.Given as goal

abbrev pub invariant-loop-place : goal.invariant-loop-place
invariant-loop-place l =
    (later : List ℕ) → AreLaterTerms l.value.bases l.value.combination.den (drop l.place l.value.combination.terms) later
    → IsTextOf l.value (l.text ++ later)
