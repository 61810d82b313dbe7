-- The tokens of the text of an index stand for the lexemes of its spelling.
use Rattle.std.proofs.Common.{◌≡◌, ℕ, suc, ◌+◌, ◌-◌, ◌^◌, ◌<◌, ◌≤◌, true, false, List, [], ◌∷◌, ◌++◌, map, length, take, drop, refl, sym, ◌∙◌, ap, subst, arith, append_assoc}
use Rattle.std.specs.Prelude.{codes, min}
use Rattle.std.specs.Fmt.{decimal}
use Rattle.std.specs.List.{AllByRecursion, list_all}
use Rattle.std.proofs.lemmas.List.{drop-drop}
use Rattle.std.proofs.Math.Seq.{drop-append_seam, take-append_seam}
use Rattle.std.proofs.lemmas.Bool.{and_parts}
use Rattle.std.proofs.lemmas.Bool.Decides.{nat_tests}
use Rattle.realisations.specs.Trees.{Tree, empty, node}
use Rattle.session_tokens.specs.declared.lexeme.Lexeme.{Lexeme}
use Rattle.session_tokens.specs.declared.lexeme.Lexeme.TheVariants as lex
use Rattle.session_tokens.specs.declared.token.Kind.{Kind}
use Rattle.session_tokens.specs.declared.token.Kind.TheVariants as kind
use Rattle.session_tokens.specs.declared.token.Token.{Token}
use Rattle.session_tokens.specs.Lexemes.{bytes_of, lexeme_of, lexemes_of, number_from}
use Rattle.session_tokens.specs.Tokens.{AreTokens, at_end, next, digit_run, first_token, is_blank, is_digit, is_letter, is_word_byte, sized, token, word_run}
use Rattle.index_spellings.specs.Spellings.{list_with, number_items, row_items, tree_items}
use Rattle.index_spellings.specs.Texts.{comma_separated, list_text, rows_text, tree_text}
use Rattle.index_spellings.proofs.DecimalDigits.{AreDigits, StartsWithNoDigit, decimal_is, digit_run-digits}

-- wherever these bytes are the rest of a text, they have tokens that stand for the lexemes
abbrev pub StandFor : List ℕ → List ℕ → List Lexeme → Type 0
StandFor text bs ls = (p : ℕ) → bs ≡ drop p text → (t : Token) × (ts : List Token) × AreTokens (p + 1) bs (t ∷ ts) × (lexemes_of text (t ∷ ts) ≡ ls)

pub nothing_left : (text : List ℕ) → StandFor text [] []
nothing_left text p e = (token kind.End (p + 1) 0, [], at_end, refl)

-- one token in front
pub one_more : (text bs : List ℕ) (ls : List Lexeme) (b : ℕ) (front : List ℕ) (k : Kind) → StandFor text bs ls → is_blank b ≡ false
    → first_token b (front ++ bs) ≡ (k, suc (length front)) → StandFor text (b ∷ (front ++ bs)) (lexeme_of k (b ∷ front) ∷ ls)
one_more text bs ls b front k h solid seen p e =
    let size : ℕ = suc (length front) in
    let behind : drop size (b ∷ (front ++ bs)) ≡ bs = drop-append_seam front bs in
    let left : bs ≡ drop (p + size) text = sym behind ∙ ap (drop size) e ∙ drop-drop size p text in
    let rest = h (p + size) left in
    let place : p + size + 1 ≡ p + 1 + size = omega arith in
    let tokens : AreTokens (p + 1 + size) (drop size (b ∷ (front ++ bs))) (rest.0 ∷ rest.1) =
    subst (λ us. AreTokens (p + 1 + size) us (rest.0 ∷ rest.1)) (sym behind) (subst (λ m. AreTokens m bs (rest.0 ∷ rest.1)) place rest.2) in
    let before : p + 1 - 1 ≡ p = omega arith in
    let bytes : bytes_of text (token k (p + 1) size) ≡ b ∷ front =
    ap (λ m. take size (drop m text)) before ∙ ap (take size) (sym e) ∙ ap (λ us. b ∷ us) (take-append_seam front bs) in
    (token k (p + 1) size, rest.0 ∷ rest.1, next solid seen tokens, λ i. lexeme_of k (bytes i) ∷ rest.3 i)

-- signs

opening : (text bs : List ℕ) (ls : List Lexeme) → StandFor text bs ls → StandFor text (91 ∷ bs) (lex.LeftBracket ∷ ls)
opening text bs ls h = one_more text bs ls 91 [] kind.Sign h refl refl

closing : (text bs : List ℕ) (ls : List Lexeme) → StandFor text bs ls → StandFor text (93 ∷ bs) (lex.RightBracket ∷ ls)
closing text bs ls h = one_more text bs ls 93 [] kind.Sign h refl refl

comma : (text bs : List ℕ) (ls : List Lexeme) → StandFor text bs ls → StandFor text (44 ∷ bs) (lex.Comma ∷ ls)
comma text bs ls h = one_more text bs ls 44 [] kind.Sign h refl refl

-- numbers

digit-solid : (d : ℕ) → is_digit d ≡ true → is_blank d ≡ false
digit-solid d h = grind (arith, nat_tests)

number_token : (d : ℕ) (front bs : List ℕ) → is_digit d ≡ true → AreDigits front → StartsWithNoDigit bs → first_token d (front ++ bs) ≡ (kind.Number, suc (length front))
number_token d front bs h more k =
    let size : 1 + digit_run (front ++ bs) ≡ suc (length front) = omega (arith, digit_run-digits front bs more k) in
    rw h (ap (sized kind.Number) size)

digits : (text bs ds : List ℕ) (ls : List Lexeme) (n : ℕ) → AreDigits ds → 1 ≤ length ds → number_from 0 ds ≡ n → n < 2 ^ 127 → StartsWithNoDigit bs → StandFor text bs ls → StandFor text (ds ++ bs) (lex.Number n ∷ ls)
digits text bs [] ls n are some is small k h = absurd (omega arith)
digits text bs (d ∷ front) ls n are some is small k h =
    let value : min (number_from 0 (d ∷ front)) (2 ^ 127) ≡ n = omega (arith, is, small) in
    subst (λ m. StandFor text (d ∷ (front ++ bs)) (lex.Number m ∷ ls)) value
    (one_more text bs ls d front kind.Number h (digit-solid d are.0) (number_token d front bs are.0 are.1 k))

-- before any bytes that begin with no digit, these bytes have tokens that stand for the lexemes
abbrev pub StandAlone : List ℕ → List ℕ → List Lexeme → Type 0
StandAlone text cs items = (bs : List ℕ) (ls : List Lexeme) → StartsWithNoDigit bs → StandFor text bs ls → StandFor text (cs ++ bs) (items ++ ls)

pub number : (text : List ℕ) (n : ℕ) → n < 2 ^ 127 → StandAlone text (decimal n) (lex.Number n ∷ [])
number text n small bs ls k h =
    let is = decimal_is n (omega (arith, small)) in
    digits text bs (decimal n) ls n is.digits is.some is.number small k h

joined : (text cs cs' : List ℕ) (items items' : List Lexeme) → StandAlone text cs items → StandAlone text cs' items' → StandAlone text (cs ++ codes "," ++ cs') (items ++ lex.Comma ∷ items')
joined text cs cs' items items' first second bs ls k h =
    let bytes : (cs ++ codes "," ++ cs') ++ bs ≡ cs ++ (44 ∷ (cs' ++ bs)) = append_assoc (cs ++ codes ",") cs' bs ∙ append_assoc cs (codes ",") (cs' ++ bs) in
    let lexemes : (items ++ lex.Comma ∷ items') ++ ls ≡ items ++ (lex.Comma ∷ (items' ++ ls)) = append_assoc items (lex.Comma ∷ items') ls in
    subst (λ us. StandFor text us ((items ++ lex.Comma ∷ items') ++ ls)) (sym bytes)
    (subst (λ us. StandFor text (cs ++ (44 ∷ (cs' ++ bs))) us) (sym lexemes)
    (first (44 ∷ (cs' ++ bs)) (lex.Comma ∷ (items' ++ ls)) refl (comma text (cs' ++ bs) (items' ++ ls) (second bs ls k h))))

in_brackets : (text cs : List ℕ) (items : List Lexeme) → StandAlone text cs items → StandAlone text (codes "[" ++ cs ++ codes "]") (list_with items)
in_brackets text cs items inner bs ls k h =
    let bytes : (cs ++ codes "]") ++ bs ≡ cs ++ (93 ∷ bs) = append_assoc cs (codes "]") bs in
    let lexemes : (items ++ lex.RightBracket ∷ []) ++ ls ≡ items ++ (lex.RightBracket ∷ ls) = append_assoc items (lex.RightBracket ∷ []) ls in
    opening text ((cs ++ codes "]") ++ bs) ((items ++ lex.RightBracket ∷ []) ++ ls)
    (subst (λ us. StandFor text us ((items ++ lex.RightBracket ∷ []) ++ ls)) (sym bytes)
    (subst (λ us. StandFor text (cs ++ (93 ∷ bs)) us) (sym lexemes) (inner (93 ∷ bs) (lex.RightBracket ∷ ls) refl (closing text bs ls h))))

-- words

abbrev pub AreWordBytes : List ℕ → Type 0
AreWordBytes bs = AllByRecursion (λ b. is_word_byte b ≡ true) bs

word_run-bytes : (ws : List ℕ) (b : ℕ) (bs : List ℕ) → AreWordBytes ws → is_word_byte b ≡ false → word_run (ws ++ b ∷ bs) ≡ length ws
unfolding word_run
word_run-bytes [] b bs h k = rw k refl
word_run-bytes (w ∷ ws) b bs h k = rw h.0 (omega (arith, word_run-bytes ws b bs h.1 k))

word_bytes : (ws : List ℕ) → list_all (λ b. is_word_byte b) ws ≡ true → AreWordBytes ws
word_bytes [] h = tt
word_bytes (w ∷ ws) h = let parts = and_parts (is_word_byte w) (list_all (λ b. is_word_byte b) ws) h in (parts.0, word_bytes ws parts.1)

-- a word of a first letter and others, before a bracket
pub word : (text bs front : List ℕ) (ls : List Lexeme) (a : ℕ) → is_blank a ≡ false → is_digit a ≡ false → is_letter a ≡ true → list_all (λ b. is_word_byte b) front ≡ true
    → StandFor text (91 ∷ bs) ls → StandFor text (a ∷ (front ++ 91 ∷ bs)) (lexeme_of kind.Word (a ∷ front) ∷ ls)
word text bs front ls a solid digit letter are h =
    let size : 1 + word_run (front ++ 91 ∷ bs) ≡ suc (length front) = omega (arith, word_run-bytes front 91 bs (word_bytes front are) refl) in
    let seen : first_token a (front ++ 91 ∷ bs) ≡ (kind.Word, suc (length front)) = rw (digit, letter) (ap (sized kind.Word) size) in
    one_more text (91 ∷ bs) ls a front kind.Word h solid seen

-- lists of numbers, of rows, and trees

abbrev pub AreSmall : List ℕ → Type 0
AreSmall ns = AllByRecursion (λ n. n < 2 ^ 127) ns

numbers : (text ns : List ℕ) → AreSmall ns → StandAlone text (comma_separated (map decimal ns)) (number_items ns)
numbers text [] small = λ bs ls k h. h
numbers text (n ∷ []) small = number text n small.0
numbers text (n ∷ m ∷ ns) small =
    joined text (decimal n) (comma_separated (map decimal (m ∷ ns))) (lex.Number n ∷ []) (number_items (m ∷ ns)) (number text n small.0) (numbers text (m ∷ ns) small.1)

pub list : (text ns : List ℕ) → AreSmall ns → StandAlone text (list_text ns) (list_with (number_items ns))
list text ns small = in_brackets text (comma_separated (map decimal ns)) (number_items ns) (numbers text ns small)

row_lists : (text : List ℕ) (rows : List (List ℕ)) → AllByRecursion AreSmall rows → StandAlone text (comma_separated (map list_text rows)) (row_items rows)
row_lists text [] small = λ bs ls k h. h
row_lists text (row ∷ []) small = list text row small.0
row_lists text (row ∷ below ∷ rows) small =
    joined text (list_text row) (comma_separated (map list_text (below ∷ rows))) (list_with (number_items row)) (row_items (below ∷ rows)) (list text row small.0) (row_lists text (below ∷ rows) small.1)

pub list_of_rows : (text : List ℕ) (rows : List (List ℕ)) → AllByRecursion AreSmall rows → StandAlone text (rows_text rows) (list_with (row_items rows))
list_of_rows text rows small = in_brackets text (comma_separated (map list_text rows)) (row_items rows) (row_lists text rows small)

pub pair : (text : List ℕ) (t : Tree) → StandAlone text (tree_text t) (list_with (tree_items t))
pair text empty = in_brackets text [] [] (λ bs ls k h. h)
pair text (node l r) =
    in_brackets text (tree_text l ++ codes "," ++ tree_text r) (list_with (tree_items l) ++ lex.Comma ∷ list_with (tree_items r))
    (joined text (tree_text l) (tree_text r) (list_with (tree_items l)) (list_with (tree_items r)) (pair text l) (pair text r))
