-- The tokens of the text of a basis element stand for the basis and the list that spells its index.
use Rattle.std.proofs.Common.{◌≡◌, ℕ, zero, suc, ◌+◌, ◌≤◌, List, [], ◌∷◌, ◌++◌, map, length, refl, sym, ◌∙◌, ap, subst, arith, append-nil, append_assoc}
use Rattle.std.specs.Prelude.{codes}
use Rattle.std.specs.List.{AllByRecursion, range_with_len}
use Rattle.basis_names.specs.declared.bases.BasisId.{BasisId}
use Rattle.basis_names.specs.declared.bases.BasisId.TheVariants.{QsymM, QsymF, NcsfS, NcsfL, NcsfR, FqsymF, FqsymG, WqsymM, FsymS, PbtP}
use Rattle.basis_names.specs.Bases.{algebra_of, limit_of, name_of}
use Rattle.linear_combos.specs.Codes.{IsCode}
use Rattle.linear_combos.proofs.Letters.{AreLetters, letters_from}
use Rattle.compositions.proofs.Parts.{code_from_composition}
use Rattle.realisations.specs.Bases.{index_kind_of}
use Rattle.realisations.specs.Codes.{Code}
use Rattle.realisations.specs.IndexKinds.{IndexKind, IsOfKind, degree_by, by_composition, by_permutation, by_packed_word, by_tableau, by_tree}
use Rattle.realisations.specs.Tableaux.{places_of, rows_of}
use Rattle.realisations.specs.Trees.{Tree, empty, node, tree_of}
use Rattle.realisations.specs.Words.{greatest}
use Rattle.basis_representatives.proofs.PackedWords.{all_letters}
use Rattle.basis_representatives.proofs.Permutations.{each_once}
use Rattle.packed_words.proofs.PackedCodes.{IsCode-packed}
use Rattle.permutation_words.proofs.Codes.{IsCode-permutation}
use Rattle.session_tokens.specs.declared.lexeme.Lexeme.{Lexeme}
use Rattle.session_tokens.specs.declared.lexeme.Lexeme.TheVariants as lex
use Rattle.session_tokens.specs.declared.token.Token.{Token}
use Rattle.session_tokens.specs.Lexemes.{lexemes_of}
use Rattle.session_tokens.specs.Tokens.{AreTokens}
use Rattle.session_tokens.proofs.TokenSteps.{tokens_once}
use Rattle.index_spellings.specs.Laws.{IsWithinLimit}
use Rattle.index_spellings.specs.Spellings.{items_by, list_with}
use Rattle.index_spellings.specs.Texts.{index_spelling, tree_text}
use Rattle.index_spellings.proofs.RowsOfCodes.{IsCode-places}
use Rattle.index_spellings.proofs.SpelledTokens.{AreSmall, StandAlone, StandFor, list, list_of_rows, nothing_left, pair, word}
use Rattle.index_spellings.proofs.StandardRows.{IsCode-tableau, length-tableau_code}

-- the letters of a code are small numbers
small_code : (code : List ℕ) → IsCode code → AreSmall code
small_code code h = small code (letters_from code h.letters)
  where
    small : (ns : List ℕ) → AreLetters ns → AreSmall ns
    small [] are = tt
    small (n ∷ ns) are = (omega (arith, are.1.0), small ns are.1.1)

small_rows : (code : List ℕ) (k n : ℕ) → IsCode code → AllByRecursion AreSmall (map (λ r. places_of r 1 code) (range_with_len k n))
small_rows code k zero h = tt
small_rows code k (suc n) h = (small_code (places_of k 1 code) (IsCode-places k code h), small_rows code (k + 1) n h)

-- the numbers by which an index is spelled are small
abbrev pub HasSmallNumbers : IndexKind → Code → Type 0
HasSmallNumbers by_composition code = AreSmall code
HasSmallNumbers by_permutation code = AreSmall code
HasSmallNumbers by_packed_word code = AreSmall code
HasSmallNumbers by_tableau code = AllByRecursion AreSmall (rows_of code)
HasSmallNumbers by_tree code = Unit {0}

small_numbers : (kind : IndexKind) (code : Code) → IsOfKind kind code → degree_by kind code ≤ 12 → HasSmallNumbers kind code
small_numbers by_composition code h le = small_code code (code_from_composition code h (omega (arith, le)))
small_numbers by_permutation code h le = small_code code (IsCode-permutation code (each_once code h) (omega (arith, le)))
small_numbers by_packed_word code h le = small_code code (IsCode-packed code (all_letters code h) (omega (arith, le)))
small_numbers by_tableau code (rows, standard, same) le =
    let is_code : IsCode code = subst IsCode same (IsCode-tableau rows standard (omega (arith, length-tableau_code rows, ap length same, le))) in
    small_rows code 1 (greatest code) is_code
small_numbers by_tree code h le = tt

-- the text of an index begins with a bracket, and stands for the list
spelling : (kind : IndexKind) (code : Code) → HasSmallNumbers kind code → (text : List ℕ) → StandAlone text (index_spelling kind code) (list_with (items_by kind code))
spelling by_composition code small text = list text code small
spelling by_permutation code small text = list text code small
spelling by_packed_word code small text = list text code small
spelling by_tableau code small text = list_of_rows text (rows_of code) small
spelling by_tree code small text = pair text (tree_of code)

opened : (kind : IndexKind) (code : Code) → (bs : List ℕ) × (index_spelling kind code ≡ 91 ∷ bs)
opened by_composition code = (_, refl)
opened by_permutation code = (_, refl)
opened by_packed_word code = (_, refl)
opened by_tableau code = (_, refl)
opened by_tree code = pair_opened (tree_of code)
  where
    pair_opened : (t : Tree) → (bs : List ℕ) × (tree_text t ≡ 91 ∷ bs)
    pair_opened empty = (_, refl)
    pair_opened (node l r) = (_, refl)

pub small_limit : (basis : BasisId) → limit_of (algebra_of basis) ≤ 12
small_limit QsymM = omega arith
small_limit QsymF = omega arith
small_limit NcsfS = omega arith
small_limit NcsfL = omega arith
small_limit NcsfR = omega arith
small_limit FqsymF = omega arith
small_limit FqsymG = omega arith
small_limit WqsymM = omega arith
small_limit FsymS = omega arith
small_limit PbtP = omega arith

-- the name of a basis before a bracket
named : (basis : BasisId) (text bs : List ℕ) (ls : List Lexeme) → StandFor text (91 ∷ bs) ls → StandFor text (name_of basis ++ 91 ∷ bs) (lex.Basis basis ∷ ls)
named QsymM text bs ls h = word text bs (codes "Sym.M") ls 81 refl refl refl refl h
named QsymF text bs ls h = word text bs (codes "Sym.F") ls 81 refl refl refl refl h
named NcsfS text bs ls h = word text bs (codes "CSF.S") ls 78 refl refl refl refl h
named NcsfL text bs ls h = word text bs (codes "CSF.L") ls 78 refl refl refl refl h
named NcsfR text bs ls h = word text bs (codes "CSF.R") ls 78 refl refl refl refl h
named FqsymF text bs ls h = word text bs (codes "QSym.F") ls 70 refl refl refl refl h
named FqsymG text bs ls h = word text bs (codes "QSym.G") ls 70 refl refl refl refl h
named WqsymM text bs ls h = word text bs (codes "QSym.M") ls 87 refl refl refl refl h
named FsymS text bs ls h = word text bs (codes "Sym.S") ls 70 refl refl refl refl h
named PbtP text bs ls h = word text bs (codes "BT.P") ls 80 refl refl refl refl h

-- so are those of an index within the limit
pub small_index : (basis : BasisId) (code : Code) → IsWithinLimit basis code → HasSmallNumbers (index_kind_of basis) code
small_index basis code h = small_numbers (index_kind_of basis) code h.0 (omega (arith, h.1, small_limit basis))

-- the text of a basis element stands for its lexemes
pub element_alone : (basis : BasisId) (code : Code) → IsWithinLimit basis code → (text : List ℕ)
    → StandAlone text (name_of basis ++ index_spelling (index_kind_of basis) code) (lex.Basis basis ∷ list_with (items_by (index_kind_of basis) code))
element_alone basis code h text bs ls k stands =
    let kind = index_kind_of basis in
    let index : List ℕ = index_spelling kind code in
    let items : List Lexeme = list_with (items_by kind code) ++ ls in
    let (cs, starts) = opened kind code in
    let bracket : index ++ bs ≡ 91 ∷ (cs ++ bs) = ap (λ us. us ++ bs) starts in
    let list_read : StandFor text (91 ∷ (cs ++ bs)) items = subst (λ us. StandFor text us items) bracket (spelling kind code (small_index basis code h) text bs ls k stands) in
    subst (λ us. StandFor text us (lex.Basis basis ∷ items)) (sym (append_assoc (name_of basis) index bs ∙ ap (λ us. name_of basis ++ us) bracket)) (named basis text (cs ++ bs) items list_read)

-- the tokens of the text of a basis element
pub element_tokens : (basis : BasisId) (code : Code) → IsWithinLimit basis code → (ts : List Token) → AreTokens 1 (name_of basis ++ index_spelling (index_kind_of basis) code) ts
    → lexemes_of (name_of basis ++ index_spelling (index_kind_of basis) code) ts ≡ lex.Basis basis ∷ list_with (items_by (index_kind_of basis) code)
element_tokens basis code h ts tokens =
    let text : List ℕ = name_of basis ++ index_spelling (index_kind_of basis) code in
    let ls : List Lexeme = lex.Basis basis ∷ list_with (items_by (index_kind_of basis) code) in
    let alone = element_alone basis code h text [] [] tt (nothing_left text) in
    let read : StandFor text text ls = subst (λ us. StandFor text us ls) (append-nil text) (subst (λ us. StandFor text (text ++ []) us) (append-nil ls) alone) in
    let found = read 0 refl in
    ap (λ us. lexemes_of text us) (tokens_once tokens found.2) ∙ found.3
