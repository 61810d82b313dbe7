-- What the parser's step is in the states that no case of it names.
use Rattle.std.proofs.Common.{◌≡◌, [], Option, Some, refl, ap, ◌∙◌}
use Rattle.session_tokens.specs.declared.lexeme.Lexeme.{Lexeme}
use Rattle.session_grammar.specs.declared.state.Mode.{Mode}
use Rattle.session_grammar.specs.ParserSteps.{State, step_in, inner_step, word_step, and_then, start_step, inner_end, finish_in}
use Rattle.session_tokens.specs.declared.lexeme.Lexeme.TheVariants as lex
use Rattle.session_grammar.specs.declared.state.Base.TheVariants as base
use Rattle.session_grammar.specs.declared.state.Mode.TheVariants as m

pub step_in-in_sum : (mode : Mode) (q : State) (t : Lexeme) → (mode ≡ m.First → ⊥) → ((w : Lexeme) → mode ≡ m.Word w → ⊥)
    → step_in mode q t ≡ inner_step q.base mode q.below q.level t
step_in-in_sum m.First q t first word = absurd (first refl)
step_in-in_sum (m.Word w) q t first word = absurd (word w refl)
step_in-in_sum mode q t first word = refl

pub finish_in-in_sum : (mode : Mode) (q : State) → (mode ≡ m.First → ⊥) → ((w : Lexeme) → mode ≡ m.Word w → ⊥)
    → finish_in mode q ≡ inner_end q.base mode q.below q.level
finish_in-in_sum m.First q first word = absurd (first refl)
finish_in-in_sum (m.Word w) q first word = absurd (word w refl)
finish_in-in_sum mode q first word = refl

pub word_step-other : (w t : Lexeme) → (t ≡ lex.Assign → ⊥) → word_step w t ≡ and_then (start_step base.Plain [] w) t
word_step-other w lex.Assign other = absurd (other refl)
word_step-other w t other = refl

pub word_step-in_sum : (w t : Lexeme) (q : State) → (t ≡ lex.Assign → ⊥) → start_step base.Plain [] w ≡ Some q
    → word_step w t ≡ inner_step q.base q.mode q.below q.level t
word_step-in_sum w t q other is = word_step-other w t other ∙ ap (λ (o : Option State). and_then o t) is
