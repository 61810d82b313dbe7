use Rattle.std.proofs.Common.{◌≡◌, ◌≤◌, ◌++◌, take, drop}
use Rattle.session_grammar.specs.Grammar.{inside}
use Rattle.index_spellings.specs.Items.{after_list}
use Rattle.index_spellings.proofs.brackets.inside_length.Given as goal

abbrev pub invariant-loop-place : goal.invariant-loop-place
invariant-loop-place l = record {
  low : l.depth ≤ l.place;
  in_front : take l.place l.lexemes ++ inside l.depth (drop l.place l.lexemes) ≡ inside 0 l.lexemes;
  after : after_list l.depth (drop l.place l.lexemes) ≡ after_list 0 l.lexemes;
}
