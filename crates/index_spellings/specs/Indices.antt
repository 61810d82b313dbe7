-- The indices of bases as they are spelled.
use Rattle.std.specs.Prelude.{ℕ, zero, suc, Bool, true, false, ◌&&◌, nat_le, if◌then◌else◌, List, [], ◌∷◌, length, Option, Some, None}
use Rattle.std.specs.List.{concat, sum}
use Rattle.basis_names.specs.declared.bases.BasisId.{BasisId}
use Rattle.basis_names.specs.Bases.{algebra_of, limit_of}
use Rattle.realisations.specs.Bases.{index_kind_of}
use Rattle.realisations.specs.Codes.{Code}
use Rattle.realisations.specs.IndexKinds.{IndexKind, by_composition, by_permutation, by_packed_word, by_tableau, by_tree, is_permutation, is_packed, is_standard_tableau}
use Rattle.realisations.specs.Tableaux.{tableau_code}
use Rattle.realisations.specs.Trees.{tree_size, tree_code}
use Rattle.session_tokens.specs.declared.lexeme.Lexeme.{Lexeme}
use Rattle.session_tokens.specs.declared.lexeme.Lexeme.TheVariants as lex
use Rattle.session_grammar.specs.Grammar.{inside}
use Rattle.index_spellings.specs.Items.{numbers_in, rows_in, tree_in}

-- all are at least 1
abbrev pub all_positive : List ℕ → Bool
all_positive [] = true
all_positive (zero ∷ ns) = false
all_positive (suc n ∷ ns) = all_positive ns

-- the code of what is spelled, where there is something, it passes the test, and its degree is within the limit
abbrev pub code_within : {A : Type 0} → ℕ → (A → Bool) → (A → ℕ) → (A → Code) → Option A → Option Code
code_within limit test degree code_of None = None
code_within limit test degree code_of (Some x) = if test x && nat_le (degree x) limit then Some (code_of x) else None

-- the index of a kind, of a degree within the limit, that a list with these items spells: a list of numbers is its own code
abbrev pub index_by : IndexKind → ℕ → List Lexeme → Option Code
index_by by_composition limit items = code_within limit all_positive (λ parts. sum parts) (λ parts. parts) (numbers_in items)
index_by by_permutation limit items = code_within limit is_permutation (λ letters. length letters) (λ letters. letters) (numbers_in items)
index_by by_packed_word limit items = code_within limit is_packed (λ letters. length letters) (λ letters. letters) (numbers_in items)
index_by by_tableau limit items = code_within limit is_standard_tableau (λ rows. length (concat rows)) tableau_code (rows_in items)
index_by by_tree limit items = code_within limit (λ tree. true) tree_size tree_code (tree_in limit items)

-- the index of a basis, within the limit of its algebra, that a list with these items spells
abbrev pub index_in : BasisId → List Lexeme → Option Code
index_in basis items = index_by (index_kind_of basis) (limit_of (algebra_of basis)) items

-- there is no code
abbrev pub is_nothing : Option (List ℕ) → Bool
is_nothing None = true
is_nothing (Some code) = false

-- lexemes begin with the name of a basis and a list that spells no index of it
abbrev pub begins_bad_list : List Lexeme → Bool
begins_bad_list (lex.Basis b ∷ lex.LeftBracket ∷ ts) = is_nothing (index_in b (inside 0 ts))
begins_bad_list _ = false
