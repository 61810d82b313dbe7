-- What each token of a text stands for.
use Rattle.std.specs.Prelude.{ℕ, ◌+◌, ◌-◌, ◌*◌, ◌^◌, min, Bool, false, List, [], ◌∷◌, ◌==◌, ◌||◌, nat_eq, if◌then◌else◌, codes, take, drop, Option, Some, None}
use Rattle.std.specs.Str.{bytes_eq}
use Rattle.basis_names.specs.declared.bases.BasisId.{BasisId}
use Rattle.session_tokens.specs.declared.lexeme.Lexeme.{Lexeme}
use Rattle.session_tokens.specs.declared.token.Kind.{Kind}
use Rattle.session_tokens.specs.declared.token.Token.{Token}
use Rattle.basis_names.specs.Bases.{bases, named}
use Rattle.session_tokens.specs.declared.lexeme.Linear.TheVariants as map
use Rattle.session_tokens.specs.declared.lexeme.Lexeme.TheVariants as lex
use Rattle.session_tokens.specs.declared.token.Kind.TheVariants as kind

-- the decimal value of digits that follow a number; 48 is the code of 0
abbrev pub number_from : ℕ → List ℕ → ℕ
number_from n [] = n
number_from n (digit ∷ digits) = number_from (n * 10 + (digit - 48)) digits

-- whether the word is one of these
abbrev pub is_among : List ℕ → List (List ℕ) → Bool
is_among word [] = false
is_among word (other ∷ others) = bytes_eq word other || is_among word others

-- the reserved words that begin nothing
abbrev pub silent_words : List (List ℕ)
silent_words =
    codes "QSym" ∷ codes "NCSF" ∷ codes "FQSym" ∷ codes "WQSym" ∷ codes "FSym" ∷ codes "PBT" ∷ codes "expand" ∷ codes "show" ∷ codes "in" ∷ []

-- whether there is a point, whose code is 46, in the word
abbrev pub has_point : List ℕ → Bool
has_point [] = false
has_point (b ∷ bs) = nat_eq b 46 || has_point bs

-- a basis, where there is one
abbrev pub lexeme_of_basis : Option BasisId → Lexeme
lexeme_of_basis None = lex.Other
lexeme_of_basis (Some b) = lex.Basis b

-- a word with a point: the name of a basis, or nothing
abbrev pub pointed_lexeme : List ℕ → Lexeme
pointed_lexeme word = lexeme_of_basis (named bases word)

-- a word without a point: a function word, a reserved word that begins nothing, or a name
abbrev pub plain_lexeme : List ℕ → Lexeme
plain_lexeme word =
    if bytes_eq word (codes "coproduct") then lex.Linear map.Coproduct
    else (if bytes_eq word (codes "antipode") then lex.Linear map.Antipode
    else (if bytes_eq word (codes "counit") then lex.Linear map.Counit
    else (if bytes_eq word (codes "mult") then lex.Linear map.Mult
    else (if bytes_eq word (codes "commute") then lex.Linear map.Commute
    else (if bytes_eq word (codes "pair") then lex.Pair
    else (if bytes_eq word (codes "along") then lex.Along
    else (if is_among word silent_words then lex.Reserved word else lex.Name word)))))))

-- what a word stands for
abbrev pub word_lexeme : List ℕ → Lexeme
word_lexeme word = if has_point word then pointed_lexeme word else plain_lexeme word

-- what a sign of one byte stands for: ( ) [ ] , + - * / by their codes, and else #
abbrev pub sign_of_byte : ℕ → Lexeme
sign_of_byte b =
    if b == 40 then lex.Open else (if b == 41 then lex.Close
    else (if b == 91 then lex.LeftBracket else (if b == 93 then lex.RightBracket
    else (if b == 44 then lex.Comma else (if b == 43 then lex.Plus
    else (if b == 45 then lex.Minus else (if b == 42 then lex.Times
    else (if b == 47 then lex.Over else lex.Hash))))))))

-- what a sign stands for; of the signs of two bytes `:=` begins with 58
abbrev pub sign_lexeme : List ℕ → Lexeme
sign_lexeme [] = lex.Other
sign_lexeme (b ∷ []) = sign_of_byte b
sign_lexeme (b ∷ c ∷ bytes) = if b == 58 then lex.Assign else lex.Equals

-- what a token with these bytes stands for; each number past 2^127 counts as 2^127, since all of them are refused
abbrev pub lexeme_of : Kind → List ℕ → Lexeme
lexeme_of kind.Number bytes = lex.Number (min (number_from 0 bytes) (2 ^ 127))
lexeme_of kind.Word bytes = word_lexeme bytes
lexeme_of kind.Sign bytes = sign_lexeme bytes
lexeme_of _ bytes = lex.Other

-- the bytes of a token
abbrev pub bytes_of : List ℕ → Token → List ℕ
bytes_of text token = take token.length (drop (token.place - 1) text)

-- what the tokens of a text stand for, without the end
abbrev pub lexemes_of : List ℕ → List Token → List Lexeme
lexemes_of text [] = []
lexemes_of text (end ∷ []) = []
lexemes_of text (token ∷ next ∷ tokens) = lexeme_of token.kind (bytes_of text token) ∷ lexemes_of text (next ∷ tokens)
