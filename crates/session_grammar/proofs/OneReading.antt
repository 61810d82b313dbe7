-- Lexemes are parsed in one way: they are one statement, or have one first lexeme that begins none.
use Rattle.std.proofs.Common.{◌≡◌, ℕ, ◌+◌, ◌<◌, ◌≤◌, ◌⊎◌, inl, inr, List, [], ◌∷◌, ◌++◌, Option, Some, None, length, take, drop, slice_get, get_or, refl, sym, ◌∙◌, ap, subst, arith, append_assoc, length-append}
use Rattle.std.proofs.lemmas.Bool.{cases_lt, cases_order}
use Rattle.std.proofs.lemmas.List.{append-nil, take_more, take-append-drop, take-take}
use Rattle.std.proofs.lemmas.Option.{slice_get-get_or, slice_get_past}
use Rattle.std.proofs.Math.Seq.{take-length, take-append_seam, get_or-append_seam}
use Rattle.session_tokens.specs.declared.lexeme.Lexeme.{Lexeme}
use Rattle.session_grammar.specs.declared.expression.Statement.{Statement}
use Rattle.session_grammar.specs.declared.parsed.Parsed.{Parsed}
use Rattle.session_grammar.specs.Grammar.{IsStatement}
use Rattle.session_grammar.specs.ParserSteps.{State, first_state, step, finish}
use Rattle.session_grammar.specs.Parses.{IsOnlyStatement, Begins, BeginsNone, IsFirstBad, IsParsed}
use Rattle.session_grammar.proofs.ReachedStates.{IsReached, reached-first, reached-step, reached-begins, reached-dead, done-with, short-with}
use Rattle.session_grammar.proofs.StatementSteps.{finish-exact}
use Rattle.session_tokens.specs.declared.lexeme.Lexeme.TheVariants as lex
use Rattle.session_grammar.specs.declared.parsed.Parsed.TheVariants as parsed

-- The first lexeme that begins no statement.

-- Where some statement begins with lexemes, one begins with each front of them.
begins_front : (front back : List Lexeme) → Begins (front ++ back) → Begins front
begins_front front back (more, s, h) = (back ++ more, s, rw append_assoc at h)

-- So one begins with each smaller number of them.
begins_fewer : (ls : List Lexeme) (k n : ℕ) → k ≤ n → n ≤ length ls → Begins (take n ls) → Begins (take k ls)
begins_fewer ls k n less within h =
    let same : take k ls ++ drop k (take n ls) ≡ take n ls = ap (λ (front : List Lexeme). front ++ drop k (take n ls)) (sym (take-take k n ls less)) ∙ take-append-drop k (take n ls) in
    begins_front (take k ls) (drop k (take n ls)) (subst (λ (front : List Lexeme). Begins front) (sym same) h)

-- No statement begins with the lexemes up to and with the first bad one.
bad_front : (ls : List Lexeme) (k : ℕ) → IsFirstBad ls k → k < length ls → Begins (take (k + 1) ls) → ⊥
bad_front ls k bad short h =
    let at : slice_get ls k ≡ Some (get_or ls k lex.Other) = slice_get-get_or ls k lex.Other short in
    let dead : BeginsNone ls (take k ls) (Some (get_or ls k lex.Other)) = subst (λ (o : Option Lexeme). BeginsNone ls (take k ls) o) at bad.with_it in
    dead (subst (λ (front : List Lexeme). Begins front) (take_more ls k lex.Other short) h)

bad_further : (ls : List Lexeme) (k n : ℕ) → IsFirstBad ls k → k < n → n ≤ length ls → Begins (take n ls) → ⊥
bad_further ls k n bad less within h = bad_front ls k bad (omega (arith, less, within)) (begins_fewer ls (k + 1) n (omega (arith, less)) within h)

-- There is one such place.
pub bad_once : (ls : List Lexeme) (k j : ℕ) → IsFirstBad ls k → IsFirstBad ls j → k ≡ j
bad_once ls k j bad other =
    elim (cases_order k j) [
      | inl same ↦ same
      | inr (inl less) ↦ absurd (bad_further ls k j bad less other.within other.before)
      | inr (inr more) ↦ absurd (bad_further ls j k other more bad.within bad.before)
    ]

-- There is none in a statement.
pub bad_no_statement : (ls : List Lexeme) (k : ℕ) (s : Statement) → IsFirstBad ls k → IsStatement ls s → ⊥
bad_no_statement ls k s bad h =
    let all : take (length ls) ls ++ [] ≡ ls = append-nil (take (length ls) ls) ∙ take-length ls in
    elim (cases_lt k (length ls)) [
      | inl short ↦ bad_further ls k (length ls) bad short (omega arith) ([], s, subst (λ (us : List Lexeme). IsStatement us s) (sym all) h)
      | inr past ↦
          let dead : BeginsNone ls (take k ls) None = subst (λ (o : Option Lexeme). BeginsNone ls (take k ls) o) (slice_get_past ls k past) bad.with_it in
          dead s h
    ]

-- Lexemes are one statement, or have a first bad one.

abbrev IsRead : List Lexeme → Type 0
IsRead ls = ((s : Statement) × IsOnlyStatement ls s) ⊎ ((k : ℕ) × IsFirstBad ls k)

-- The parser stops at the lexeme behind these.
stops_behind : (front rest : List Lexeme) (q : State) (t : Lexeme) → step q t ≡ None → IsReached front q → IsFirstBad (front ++ t ∷ rest) (length front)
stops_behind front rest q t is r =
    let ls : List Lexeme = front ++ t ∷ rest in
    let short : length front < length ls = omega (arith, length-append front (t ∷ rest)) in
    let at : slice_get ls (length front) ≡ Some t = slice_get-get_or ls (length front) t short ∙ ap (λ (k : Lexeme). Some k) (get_or-append_seam front t rest t) in
    let upto : take (length front) ls ≡ front = take-append_seam front (t ∷ rest) in
    let dead : BeginsNone ls front (Some t) = reached-dead front q t is r in
    record {
      within = omega (arith, short);
      before = subst (λ (us : List Lexeme). Begins us) (sym upto) (reached-begins front q r);
      with_it = subst (λ (us : List Lexeme). BeginsNone ls us (slice_get ls (length front))) (sym upto) (subst (λ (o : Option Lexeme). BeginsNone ls front o) (sym at) dead);
    }

-- The lexemes end too early.
ends_early : (ls : List Lexeme) (q : State) → finish q ≡ None → IsReached ls q → IsFirstBad ls (length ls)
ends_early ls q is r =
    let past : slice_get ls (length ls) ≡ None = slice_get_past ls (length ls) (omega arith) in
    let upto : take (length ls) ls ≡ ls = take-length ls in
    let dead : BeginsNone ls (take (length ls) ls) None = short-with ls q (finish q) is r (finish-exact q r.fine) in
    record {
      within = omega arith;
      before = subst (λ (us : List Lexeme). Begins us) (sym upto) (reached-begins ls q r);
      with_it = subst (λ (o : Option Lexeme). BeginsNone ls (take (length ls) ls) o) (sym past) dead;
    }

ends_read : (ls : List Lexeme) (q : State) (o : Option Statement) → finish q ≡ o → IsReached ls q → IsRead ls
ends_read ls q None is r = inr (length ls, ends_early ls q is r)
ends_read ls q (Some s) is r = inl (s, done-with ls q s (finish q) is r (finish-exact q r.fine))

step_read : (front rest : List Lexeme) (q : State) (t : Lexeme) (o : Option State) → step q t ≡ o → IsReached front q
    → ((new : State) → IsReached (front ++ t ∷ []) new → IsRead ((front ++ t ∷ []) ++ rest)) → IsRead (front ++ t ∷ rest)
step_read front rest q t None is r again = inr (length front, stops_behind front rest q t is r)
step_read front rest q t (Some new) is r again = subst (λ (ls : List Lexeme). IsRead ls) (append_assoc front (t ∷ []) rest) (again new (reached-step front q t new is r))

read_from : (front rest : List Lexeme) (q : State) → IsReached front q → IsRead (front ++ rest)
read_from front [] q r = subst (λ (ls : List Lexeme). IsRead ls) (sym (append-nil front)) (ends_read front q (finish q) refl r)
read_from front (t ∷ rest) q r = step_read front rest q t (step q t) refl r (λ new reached. read_from (front ++ t ∷ []) rest new reached)

pub statement_or_bad : (ls : List Lexeme) → ((s : Statement) × IsOnlyStatement ls s) ⊎ ((k : ℕ) × IsFirstBad ls k)
statement_or_bad ls = read_from [] ls first_state reached-first

-- Lexemes are parsed in one way.

-- Lexemes are parsed.
pub parsed_exists : (ls : List Lexeme) → (answer : Parsed) × IsParsed ls answer
parsed_exists ls =
    elim (statement_or_bad ls) [
      | inl (s, only) ↦ (parsed.Read s, only)
      | inr (k, bad) ↦ (parsed.Stops k, bad)
    ]

-- They are parsed in one way at most.
pub parsed_once : (ls : List Lexeme) (a b : Parsed) → IsParsed ls a → IsParsed ls b → a ≡ b
parsed_once ls (parsed.Read s) (parsed.Read z) h i = ap (λ (x : Statement). parsed.Read x) (h.only z i.is)
parsed_once ls (parsed.Read s) (parsed.Stops k) h i = absurd (bad_no_statement ls k s i h.is)
parsed_once ls (parsed.Stops k) (parsed.Read s) h i = absurd (bad_no_statement ls k s h i.is)
parsed_once ls (parsed.Stops k) (parsed.Stops j) h i = ap (λ (n : ℕ). parsed.Stops n) (bad_once ls k j h i)
