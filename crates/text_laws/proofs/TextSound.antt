-- Nothing is refused in the lexemes of the text of a value.
use Rattle.std.proofs.Common.{◌≡◌, ℕ, zero, suc, ◌+◌, ◌-◌, ◌^◌, ◌<◌, ◌≤◌, Bool, true, false, ◌||◌, ◌&&◌, if◌then◌else◌, not, List, [], ◌∷◌, ◌++◌, length, None, refl, sym, ◌∙◌, ap, subst, arith, append_assoc, unsigned_abs}
use Rattle.std.specs.Prelude.{nat_le, ◌==◌}
use Rattle.std.specs.List.{AllByRecursion}
use Rattle.std.proofs.lemmas.Bool.{lt-leb}
use Rattle.hopf_num.specs.Fractions.{Ratio, IsFraction}
use Rattle.basis_names.specs.declared.bases.BasisId.{BasisId}
use Rattle.basis_representatives.proofs.TreeCodes.{length-tree_code}
use Rattle.basis_representatives.proofs.TreesOfCodes.{tree_of-code}
use Rattle.realisations.specs.Bases.{index_kind_of}
use Rattle.realisations.specs.IndexKinds.{IndexKind, IsOfKind, degree_by, by_composition, by_permutation, by_packed_word, by_tableau, by_tree}
use Rattle.realisations.specs.Tableaux.{rows_of}
use Rattle.realisations.specs.Trees.{Tree, empty, node, tree_size, tree_of}
use Rattle.realisations.proofs.Every.{every-append}
use Rattle.session_tokens.specs.declared.lexeme.Lexeme.{Lexeme}
use Rattle.session_tokens.specs.declared.lexeme.Lexeme.TheVariants as lex
use Rattle.session_grammar.specs.Grammar.{inside}
use Rattle.built_forms.specs.Forms.{begins_unbuilt}
use Rattle.index_spellings.specs.Indices.{begins_bad_list, index_in, is_nothing}
use Rattle.index_spellings.specs.Spellings.{items_by, list_with, number_items, row_items, tree_items}
use Rattle.index_spellings.proofs.ElementTokens.{HasSmallNumbers, small_index, small_limit}
use Rattle.index_spellings.proofs.ReadBack.{spellings}
use Rattle.index_spellings.proofs.SpelledTokens.{AreSmall}
use Rattle.session_reading.specs.Faults.{opens_past_64, begins_large, IsUnseen}
use Rattle.session_reading.specs.Parses.{IsFlawless, reserved_name}
use Rattle.text_laws.proofs.SpelledTerms.{element_lexemes, IsSpelled, AreSpelled, spells, scaled_lexemes, scaled_lexemes_by, later_element_lexemes, SpelledTerm, is_negative, unsigned_lexemes, later_lexemes, sum_lexemes, number_lexemes_by, number_lexemes}
use Rattle.text_laws.proofs.TextTokens.{scaled-append, AreTermTexts}

-- Brackets: behind these lexemes as many are open as before them, and inside at most n more.
abbrev IsShallow : ℕ → List Lexeme → Type 0
IsShallow n ls = (d : ℕ) → d + n ≤ 64 → (r : List Lexeme) → opens_past_64 d (ls ++ r) ≡ opens_past_64 d r

shallow_more : (m n : ℕ) (ls : List Lexeme) → m ≤ n → IsShallow m ls → IsShallow n ls
shallow_more m n ls le h d within r = h d (omega (arith, le, within)) r

shallow_joined : (n : ℕ) (ls ms : List Lexeme) → IsShallow n ls → IsShallow n ms → IsShallow n (ls ++ lex.Comma ∷ ms)
shallow_joined n ls ms left right d within r = ap (opens_past_64 d) (append_assoc ls (lex.Comma ∷ ms) r) ∙ left d within (lex.Comma ∷ (ms ++ r)) ∙ right d within r

shallow_list : (n : ℕ) (items : List Lexeme) → IsShallow n items → IsShallow (suc n) (list_with items)
shallow_list n items h d within r =
    let few : nat_le 64 d ≡ false = lt-leb 64 d (omega (arith, within)) in
    let back : suc d - 1 ≡ d = omega arith in
    ap (λ b. b || opens_past_64 (suc d) (items ++ lex.RightBracket ∷ [] ++ r)) few
    ∙ ap (opens_past_64 (suc d)) (append_assoc items (lex.RightBracket ∷ []) r) ∙ h (suc d) (omega (arith, within)) (lex.RightBracket ∷ r) ∙ ap (λ k. opens_past_64 k r) back

shallow_numbers : (ns : List ℕ) → IsShallow 0 (number_items ns)
shallow_numbers [] d within r = refl
shallow_numbers (n ∷ []) d within r = refl
shallow_numbers (n ∷ m ∷ ns) d within r = shallow_numbers (m ∷ ns) d within r

shallow_rows : (rows : List (List ℕ)) → IsShallow 1 (row_items rows)
shallow_rows [] = λ d within r. refl
shallow_rows (row ∷ []) = shallow_list 0 (number_items row) (shallow_numbers row)
shallow_rows (row ∷ next ∷ rows) = shallow_joined 1 (list_with (number_items row)) (row_items (next ∷ rows)) (shallow_list 0 (number_items row) (shallow_numbers row)) (shallow_rows (next ∷ rows))

shallow_tree : (t : Tree) → IsShallow (tree_size t) (tree_items t)
shallow_tree empty = λ d within r. refl
shallow_tree (node l r) =
    let n : ℕ = suc (tree_size l + tree_size r) in
    shallow_joined n (list_with (tree_items l)) (list_with (tree_items r))
    (shallow_more (suc (tree_size l)) n (list_with (tree_items l)) (omega arith) (shallow_list (tree_size l) (tree_items l) (shallow_tree l)))
    (shallow_more (suc (tree_size r)) n (list_with (tree_items r)) (omega arith) (shallow_list (tree_size r) (tree_items r) (shallow_tree r)))

shallow_items : (kind : IndexKind) (code : List ℕ) → IsOfKind kind code → degree_by kind code ≤ 12 → IsShallow 12 (items_by kind code)
shallow_items by_composition code h le = shallow_more 0 12 (number_items code) (omega arith) (shallow_numbers code)
shallow_items by_permutation code h le = shallow_more 0 12 (number_items code) (omega arith) (shallow_numbers code)
shallow_items by_packed_word code h le = shallow_more 0 12 (number_items code) (omega arith) (shallow_numbers code)
shallow_items by_tableau code h le = shallow_more 1 12 (row_items (rows_of code)) (omega arith) (shallow_rows (rows_of code))
shallow_items by_tree code (tree, same) le =
    let is : tree_of code ≡ tree = ap tree_of (sym same) ∙ tree_of-code tree in
    shallow_more (tree_size (tree_of code)) 12 (tree_items (tree_of code)) (omega (arith, ap tree_size is, length-tree_code tree, ap length same, le)) (shallow_tree (tree_of code))

-- Lexemes that begin nothing that is refused.

record IsClear (ls : List Lexeme) : Type 0 where
  small : IsUnseen begins_large ls
  built : IsUnseen begins_unbuilt ls
  indices : IsUnseen begins_bad_list ls

unseen_cons : (begins : List Lexeme → Bool) (t : Lexeme) (ls : List Lexeme) → begins (t ∷ ls) ≡ false → IsUnseen begins ls → IsUnseen begins (t ∷ ls)
unseen_cons begins t ls here rest zero lt = here
unseen_cons begins t ls here rest (suc j) lt = rest j (omega (arith, lt))

clear_none : IsClear []
clear_none = record { small = λ j lt. absurd (omega (arith, lt)); built = λ j lt. absurd (omega (arith, lt)); indices = λ j lt. absurd (omega (arith, lt)) }

-- whatever stands behind it
record IsQuiet (t : Lexeme) : Type 0 where
  small : (ts : List Lexeme) → begins_large (t ∷ ts) ≡ false
  built : (ts : List Lexeme) → begins_unbuilt (t ∷ ts) ≡ false
  indices : (ts : List Lexeme) → begins_bad_list (t ∷ ts) ≡ false

clear_cons : (t : Lexeme) (ls : List Lexeme) → IsQuiet t → IsClear ls → IsClear (t ∷ ls)
clear_cons t ls quiet clear = record {
  small = unseen_cons begins_large t ls (quiet.small ls) clear.small;
  built = unseen_cons begins_unbuilt t ls (quiet.built ls) clear.built;
  indices = unseen_cons begins_bad_list t ls (quiet.indices ls) clear.indices;
}

abbrev AreQuiet : List Lexeme → Type 0
AreQuiet ls = AllByRecursion IsQuiet ls

clear_behind : (ls r : List Lexeme) → AreQuiet ls → IsClear r → IsClear (ls ++ r)
clear_behind [] r quiet clear = clear
clear_behind (t ∷ ls) r quiet clear = clear_cons t (ls ++ r) quiet.0 (clear_behind ls r quiet.1 clear)

quiet_number : (n : ℕ) → n < 2 ^ 127 → IsQuiet (lex.Number n)
quiet_number n small = record { small = λ ts. lt-leb (2 ^ 127) n small; built = λ ts. refl; indices = λ ts. refl }

quiet_left : IsQuiet lex.LeftBracket
quiet_left = record { small = λ ts. refl; built = λ ts. refl; indices = λ ts. refl }

quiet_right : IsQuiet lex.RightBracket
quiet_right = record { small = λ ts. refl; built = λ ts. refl; indices = λ ts. refl }

quiet_comma : IsQuiet lex.Comma
quiet_comma = record { small = λ ts. refl; built = λ ts. refl; indices = λ ts. refl }

quiet_plus : IsQuiet lex.Plus
quiet_plus = record { small = λ ts. refl; built = λ ts. refl; indices = λ ts. refl }

quiet_minus : IsQuiet lex.Minus
quiet_minus = record { small = λ ts. refl; built = λ ts. refl; indices = λ ts. refl }

quiet_times : IsQuiet lex.Times
quiet_times = record { small = λ ts. refl; built = λ ts. refl; indices = λ ts. refl }

quiet_over : IsQuiet lex.Over
quiet_over = record { small = λ ts. refl; built = λ ts. refl; indices = λ ts. refl }

quiet_hash : IsQuiet lex.Hash
quiet_hash = record { small = λ ts. refl; built = λ ts. refl; indices = λ ts. refl }

quiet_list : (items : List Lexeme) → AreQuiet items → AreQuiet (list_with items)
quiet_list items h = (quiet_left, every-append IsQuiet items (lex.RightBracket ∷ []) h (quiet_right, tt))

quiet_joined : (ls ms : List Lexeme) → AreQuiet ls → AreQuiet ms → AreQuiet (ls ++ lex.Comma ∷ ms)
quiet_joined ls ms left right = every-append IsQuiet ls (lex.Comma ∷ ms) left (quiet_comma, right)

quiet_numbers : (ns : List ℕ) → AreSmall ns → AreQuiet (number_items ns)
quiet_numbers [] small = tt
quiet_numbers (n ∷ []) small = (quiet_number n small.0, tt)
quiet_numbers (n ∷ m ∷ ns) small = (quiet_number n small.0, (quiet_comma, quiet_numbers (m ∷ ns) small.1))

quiet_rows : (rows : List (List ℕ)) → AllByRecursion AreSmall rows → AreQuiet (row_items rows)
quiet_rows [] small = tt
quiet_rows (row ∷ []) small = quiet_list (number_items row) (quiet_numbers row small.0)
quiet_rows (row ∷ next ∷ rows) small = quiet_joined (list_with (number_items row)) (row_items (next ∷ rows)) (quiet_list (number_items row) (quiet_numbers row small.0)) (quiet_rows (next ∷ rows) small.1)

quiet_tree : (t : Tree) → AreQuiet (tree_items t)
quiet_tree empty = tt
quiet_tree (node l r) = quiet_joined (list_with (tree_items l)) (list_with (tree_items r)) (quiet_list (tree_items l) (quiet_tree l)) (quiet_list (tree_items r) (quiet_tree r))

quiet_items : (kind : IndexKind) (code : List ℕ) → HasSmallNumbers kind code → AreQuiet (items_by kind code)
quiet_items by_composition code small = quiet_numbers code small
quiet_items by_permutation code small = quiet_numbers code small
quiet_items by_packed_word code small = quiet_numbers code small
quiet_items by_tableau code small = quiet_rows (rows_of code) small
quiet_items by_tree code small = quiet_tree (tree_of code)

-- Both: nothing is refused, and no bracket is too deep.

pub record IsFine (ls : List Lexeme) : Type 0 where
  clear : IsClear ls
  pub shallow : opens_past_64 0 ls ≡ false

fine_none : IsFine []
fine_none = record { clear = clear_none; shallow = refl }

-- one lexeme that is no bracket
fine_cons : (t : Lexeme) (ls : List Lexeme) → IsQuiet t → opens_past_64 0 (t ∷ ls) ≡ opens_past_64 0 ls → IsFine ls → IsFine (t ∷ ls)
fine_cons t ls quiet same h = record { clear = clear_cons t ls quiet h.clear; shallow = same ∙ h.shallow }

fine_element : (basis : BasisId) (code : List ℕ) (r : List Lexeme) → IsSpelled basis code → IsFine r → IsFine (element_lexemes basis code ++ r)
fine_element basis code r is h = record {
  clear = record {
    small = unseen_cons begins_large (lex.Basis basis) (list_with items ++ r) refl behind.small;
    built = unseen_cons begins_unbuilt (lex.Basis basis) (list_with items ++ r) (ap not is.built) behind.built;
    indices = unseen_cons begins_bad_list (lex.Basis basis) (list_with items ++ r) spelled behind.indices;
  };
  shallow = shallow_list 12 items (shallow_items (index_kind_of basis) code is.within.0 (omega (arith, is.within.1, small_limit basis))) 0 (omega arith) r ∙ h.shallow;
}
  where
    items : List Lexeme
    items = items_by (index_kind_of basis) code

    behind : IsClear (list_with items ++ r)
    behind = clear_behind (list_with items) r (quiet_list items (quiet_items (index_kind_of basis) code (small_index basis code is.within))) h.clear

    spelled : is_nothing (index_in basis (inside 0 (items ++ lex.RightBracket ∷ [] ++ r))) ≡ false
    spelled =
        ap (λ us. is_nothing (index_in basis (inside 0 us))) (append_assoc items (lex.RightBracket ∷ []) r)
        ∙ ap (λ us. is_nothing (index_in basis us)) (spellings.ends basis code r)
        ∙ ap is_nothing (spells basis code is).spelled

fine_scaled : (unit whole : Bool) (n d : ℕ) (ls : List Lexeme) → n < 2 ^ 127 → d < 2 ^ 127 → IsFine ls → IsFine (scaled_lexemes_by unit whole n d ls)
fine_scaled true whole n d ls small den_small h = h
fine_scaled false true n d ls small den_small h = fine_cons (lex.Number n) (lex.Times ∷ ls) (quiet_number n small) refl (fine_cons lex.Times ls quiet_times refl h)
fine_scaled false false n d ls small den_small h =
    fine_cons (lex.Number n) (lex.Over ∷ lex.Number d ∷ lex.Times ∷ ls) (quiet_number n small) refl
    (fine_cons lex.Over (lex.Number d ∷ lex.Times ∷ ls) quiet_over refl
    (fine_cons (lex.Number d) (lex.Times ∷ ls) (quiet_number d den_small) refl (fine_cons lex.Times ls quiet_times refl h)))

fine_elements : (bases : List BasisId) (key : List (List ℕ)) (r : List Lexeme) → AreSpelled bases key → IsFine r → IsFine (later_element_lexemes bases key ++ r)
fine_elements [] key r spelled h = h
fine_elements (basis ∷ bases) [] r spelled h = absurd spelled
fine_elements (basis ∷ bases) (code ∷ key) r spelled h =
    let first : List Lexeme = element_lexemes basis code in
    let more : List Lexeme = later_element_lexemes bases key in
    subst (λ ls. IsFine (lex.Hash ∷ ls)) (sym (append_assoc first more r))
    (fine_cons lex.Hash (first ++ (more ++ r)) quiet_hash refl (fine_element basis code (more ++ r) spelled.0 (fine_elements bases key r spelled.1 h)))

module _ (basis : BasisId) (bases : List BasisId) where
  fine_term : (t : SpelledTerm) (r : List Lexeme) → IsFraction t.ratio → AreSpelled (basis ∷ bases) (t.code ∷ t.codes) → IsFine r → IsFine (unsigned_lexemes basis bases t ++ r)
  fine_term t r is spelled h =
      let n : ℕ = unsigned_abs t.ratio.num in
      let d : ℕ = t.ratio.den in
      let first : List Lexeme = element_lexemes basis t.code in
      let later : List Lexeme = later_element_lexemes bases t.codes in
      let these : (scaled_lexemes n d first ++ later) ++ r ≡ scaled_lexemes n d (first ++ (later ++ r)) =
      append_assoc (scaled_lexemes n d first) later r ∙ scaled-append (n == 1 && d == 1) (d == 1) n d first (later ++ r) in
      subst (λ ls. IsFine ls) (sym these)
      (fine_scaled (n == 1 && d == 1) (d == 1) n d (first ++ (later ++ r)) is.num_small is.den_small
      (fine_element basis t.code (later ++ r) spelled.0 (fine_elements bases t.codes r spelled.1 h)))

  fine_sign : (m : Bool) (ls : List Lexeme) → IsFine ls → IsFine ((if m then lex.Minus else lex.Plus) ∷ ls)
  fine_sign true ls h = fine_cons lex.Minus ls quiet_minus refl h
  fine_sign false ls h = fine_cons lex.Plus ls quiet_plus refl h

  fine_later : (rs : List SpelledTerm) → AreTermTexts basis bases rs → IsFine (later_lexemes basis bases rs)
  fine_later [] are = fine_none
  fine_later (t ∷ rs) are =
      fine_sign (is_negative t.ratio.num) (unsigned_lexemes basis bases t ++ later_lexemes basis bases rs)
      (fine_term t (later_lexemes basis bases rs) are.0.0 are.0.1 (fine_later rs are.1))

fine_first : (m : Bool) (ls : List Lexeme) → IsFine ls → IsFine ((if m then lex.Minus ∷ [] else []) ++ ls)
fine_first true ls h = fine_cons lex.Minus ls quiet_minus refl h
fine_first false ls h = h

-- No name of a basis or reserved word is given a value.

unreserved_scaled : (m unit whole : Bool) (n d : ℕ) (basis : BasisId) (ls : List Lexeme)
    → reserved_name ((if m then lex.Minus ∷ [] else []) ++ scaled_lexemes_by unit whole n d (lex.Basis basis ∷ lex.LeftBracket ∷ ls)) ≡ None
unreserved_scaled true true whole n d basis ls = refl
unreserved_scaled true false true n d basis ls = refl
unreserved_scaled true false false n d basis ls = refl
unreserved_scaled false true whole n d basis ls = refl
unreserved_scaled false false true n d basis ls = refl
unreserved_scaled false false false n d basis ls = refl

unreserved_number : (m whole : Bool) (n d : ℕ) → reserved_name ((if m then lex.Minus ∷ [] else []) ++ number_lexemes_by whole n d) ≡ None
unreserved_number true true n d = refl
unreserved_number true false n d = refl
unreserved_number false true n d = refl
unreserved_number false false n d = refl

-- What was wanted.

pub flawless : (ls : List Lexeme) → IsFine ls → reserved_name ls ≡ None → IsFlawless ls
flawless ls h unreserved = record { small = h.clear.small; unreserved = unreserved; built = h.clear.built; indices = h.clear.indices }

pub fine_sum : (basis : BasisId) (bases : List BasisId) (t : SpelledTerm) (rs : List SpelledTerm) → AreTermTexts basis bases (t ∷ rs) → IsFine (sum_lexemes basis bases t rs)
fine_sum basis bases t rs are =
    let front : List Lexeme = if is_negative t.ratio.num then lex.Minus ∷ [] else [] in
    subst (λ ls. IsFine ls) (sym (append_assoc front (unsigned_lexemes basis bases t) (later_lexemes basis bases rs)))
    (fine_first (is_negative t.ratio.num) (unsigned_lexemes basis bases t ++ later_lexemes basis bases rs) (fine_term basis bases t (later_lexemes basis bases rs) are.0.0 are.0.1 (fine_later basis bases rs are.1)))

pub unreserved_sum : (basis : BasisId) (bases : List BasisId) (t : SpelledTerm) (rs : List SpelledTerm) → reserved_name (sum_lexemes basis bases t rs) ≡ None
unreserved_sum basis bases t rs =
    let n : ℕ = unsigned_abs t.ratio.num in
    let d : ℕ = t.ratio.den in
    let front : List Lexeme = if is_negative t.ratio.num then lex.Minus ∷ [] else [] in
    let first : List Lexeme = element_lexemes basis t.code in
    let more : List Lexeme = later_element_lexemes bases t.codes in
    let later : List Lexeme = later_lexemes basis bases rs in
    let these : (scaled_lexemes n d first ++ more) ++ later ≡ scaled_lexemes n d (first ++ (more ++ later)) =
    append_assoc (scaled_lexemes n d first) more later ∙ scaled-append (n == 1 && d == 1) (d == 1) n d first (more ++ later) in
    ap reserved_name (append_assoc front (scaled_lexemes n d first ++ more) later ∙ ap (λ ls. front ++ ls) these)
    ∙ unreserved_scaled (is_negative t.ratio.num) (n == 1 && d == 1) (d == 1) n d basis (items_by (index_kind_of basis) t.code ++ lex.RightBracket ∷ [] ++ (more ++ later))

fine_digits : (whole : Bool) (n d : ℕ) → n < 2 ^ 127 → d < 2 ^ 127 → IsFine (number_lexemes_by whole n d)
fine_digits true n d small den_small = fine_cons (lex.Number n) [] (quiet_number n small) refl fine_none
fine_digits false n d small den_small =
    fine_cons (lex.Number n) (lex.Over ∷ lex.Number d ∷ []) (quiet_number n small) refl
    (fine_cons lex.Over (lex.Number d ∷ []) quiet_over refl (fine_cons (lex.Number d) [] (quiet_number d den_small) refl fine_none))

pub fine_number : (r : Ratio) → IsFraction r → IsFine (number_lexemes r)
fine_number r is = fine_first (is_negative r.num) (number_lexemes_by (r.den == 1) (unsigned_abs r.num) r.den) (fine_digits (r.den == 1) (unsigned_abs r.num) r.den is.num_small is.den_small)

pub unreserved_fraction : (r : Ratio) → reserved_name (number_lexemes r) ≡ None
unreserved_fraction r = unreserved_number (is_negative r.num) (r.den == 1) (unsigned_abs r.num) r.den
