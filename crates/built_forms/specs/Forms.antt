-- The built forms of the language.
use Rattle.std.specs.Prelude.{Bool, true, false, not, ◌||◌, List, ◌∷◌}
use Rattle.built_bases.specs.Table.{is_built as is_built_basis}
use Rattle.session_tokens.specs.declared.lexeme.Linear.{Linear}
use Rattle.session_tokens.specs.declared.lexeme.Linear.TheVariants.{Coproduct, Antipode, Counit, Mult, Commute}
use Rattle.session_tokens.specs.declared.lexeme.Lexeme.{Lexeme}
use Rattle.built_forms.specs.declared.form.Form.{Form}
use Rattle.built_forms.specs.declared.form.Form.TheVariants.{Basis, Conversion, Linear as Map, Pairing, Along, Equality}
use Rattle.session_tokens.specs.declared.lexeme.Lexeme.TheVariants as lex

-- whether a linear function is built
abbrev pub is_built_map : Linear → Bool
is_built_map Coproduct = true
is_built_map Antipode = true
is_built_map Counit = true
is_built_map Mult = true
is_built_map Commute = true

-- whether a form is built: a statement that has it can be evaluated
abbrev pub is_built : Form → Bool
is_built (Basis b) = is_built_basis b
is_built Conversion = true
is_built (Map f) = is_built_map f
is_built Pairing = false
is_built Along = false
is_built Equality = true

-- lexemes begin with a form that is not built: the name of a basis, with or without a conversion, a function word, or `==`
abbrev pub begins_unbuilt : List Lexeme → Bool
begins_unbuilt (lex.Basis b ∷ lex.Open ∷ ts) = not (is_built (Basis b)) || not (is_built Conversion)
begins_unbuilt (lex.Basis b ∷ ts) = not (is_built (Basis b))
begins_unbuilt (lex.Linear f ∷ ts) = not (is_built (Map f))
begins_unbuilt (lex.Pair ∷ ts) = not (is_built Pairing)
begins_unbuilt (lex.Along ∷ ts) = not (is_built Along)
begins_unbuilt (lex.Equals ∷ ts) = not (is_built Equality)
begins_unbuilt _ = false
