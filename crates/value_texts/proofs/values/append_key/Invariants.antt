use Rattle.std.proofs.Common.{◌≡◌, ◌++◌, ◌-◌, drop}
use Rattle.value_texts.specs.Text.{key_text, later_elements_text}
use Rattle.value_texts.proofs.values.append_key.Given as goal

abbrev pub invariant-loop-component : goal.invariant-loop-component
invariant-loop-component l =
    l.out ++ later_elements_text (drop (l.component - 1) l.bases) (drop (l.component - 1) l.key) ≡ l.fn.out ++ key_text l.bases l.key
