-- Rows as they are read, one lexeme after another.
use Rattle.std.proofs.Common.{◌≡◌, ℕ, suc, ◌+◌, ◌<◌, ◌≤◌, Bool, true, false, List, [], ◌∷◌, ◌++◌, Option, Some, None, length, get_or, drop, refl, sym, ◌∙◌, ap, subst, arith, append_assoc, append-nil, drop-cons, length-append}
use Rattle.std.specs.List.{AllByRecursion}
use Rattle.linear_combos.specs.Codes.{IsCode}
use Rattle.linear_combos.proofs.Letters.{letters_at_left, letters_from, letters_to}
use Rattle.session_tokens.specs.declared.lexeme.Lexeme.{Lexeme}
use Rattle.session_tokens.specs.declared.lexeme.Lexeme.TheVariants as lex
use Rattle.index_spellings.specs.Items.{before_first, new_row, rows_in, row_in}
use Rattle.index_spellings.specs.KeptRows.{AreKept}

-- rows before others, where there are these
abbrev pub behind_rows : List (List ℕ) → Option (List (List ℕ)) → Option (List (List ℕ))
behind_rows closed None = None
behind_rows closed (Some rows) = Some (closed ++ rows)

-- numbers before those of the first row, where there is one
abbrev pub behind_row : List ℕ → Option (List (List ℕ)) → Option (List (List ℕ))
behind_row row None = None
behind_row row (Some []) = None
behind_row row (Some (r ∷ rows)) = Some ((row ++ r) ∷ rows)

-- what is left, where a row is open or none is
abbrev pub rest_of : Bool → List ℕ → List Lexeme → Option (List (List ℕ))
rest_of true row ts = behind_row row (row_in ts)
rest_of false row ts = rows_in ts

pub behind_row-number : (row : List ℕ) (n : ℕ) (more : Option (List (List ℕ))) → behind_row row (before_first n more) ≡ behind_row (row ++ n ∷ []) more
behind_row-number row n None = refl
behind_row-number row n (Some []) = refl
behind_row-number row n (Some (r ∷ rows)) = rw append_assoc

before_first-row : (n : ℕ) (o : Option (List (List ℕ))) → before_first n o ≡ Some [] → ⊥
before_first-row n None e = cc
before_first-row n (Some []) e = cc
before_first-row n (Some (r ∷ rows)) e = cc

new_row-row : (o : Option (List (List ℕ))) → new_row o ≡ Some [] → ⊥
new_row-row None e = cc
new_row-row (Some rows) e = cc

-- where a row is open there is one
first_row : (ts : List Lexeme) → row_in ts ≡ Some [] → ⊥
first_row [] e = cc
first_row (lex.Number n ∷ ts) e = before_first-row n (row_in ts) e
first_row (lex.RightBracket ∷ ts) e = new_row-row (rows_in ts) e
first_row (lex.Comma ∷ ts) e = first_row ts e
first_row (t ∷ ts) e = cc

nothing_before : (o : Option (List (List ℕ))) → (o ≡ Some [] → ⊥) → o ≡ behind_row [] o
nothing_before None h = refl
nothing_before (Some []) h = absurd (h refl)
nothing_before (Some (r ∷ rows)) h = refl

-- a row is opened
pub behind_row-nil : (ts : List Lexeme) → row_in ts ≡ behind_row [] (row_in ts)
behind_row-nil ts = nothing_before (row_in ts) (first_row ts)

-- a row is closed
pub behind_rows-closed : (closed : List (List ℕ)) (row : List ℕ) (more : Option (List (List ℕ))) → behind_rows closed (behind_row row (new_row more)) ≡ behind_rows (closed ++ row ∷ []) more
behind_rows-closed closed row None = refl
behind_rows-closed closed row (Some rows) = rw (append-nil row) (ap Some (sym (append_assoc closed (row ∷ []) rows)))

-- a row among others is a code, and so is its front
row_code : (closed : List (List ℕ)) (row : List ℕ) (more : List (List ℕ)) → AllByRecursion IsCode (closed ++ row ∷ more) → IsCode row
row_code [] row more h = h.0
row_code (r ∷ closed) row more h = row_code closed row more h.1

pub front_code : (u v : List ℕ) → IsCode (u ++ v) → IsCode u
front_code u v h = record { short = omega (arith, h.short, length-append u v); letters = letters_to u (letters_at_left u v (letters_from (u ++ v) h.letters)) }

-- what is read so far, and what is left
abbrev pub IsSoFar : List Lexeme → List (List ℕ) → Bool → List ℕ → ℕ → Type 0
IsSoFar items closed is_open row i = rows_in items ≡ behind_rows closed (rest_of is_open row (drop i items))

module _ (items : List Lexeme) (closed : List (List ℕ)) (is_open : Bool) (row : List ℕ) (i : ℕ) (t u : Lexeme) (lt : i < length items) (at : t ≡ get_or items i t) (is : t ≡ u) (so_far : IsSoFar items closed is_open row i) where
  front : drop i items ≡ u ∷ drop (i + 1) items
  front = let step : suc i ≡ i + 1 = omega arith in
      drop-cons items i t lt ∙ ap (λ v. v ∷ drop (suc i) items) (sym at ∙ is) ∙ ap (λ n. u ∷ drop n items) step

  pub so_far-front : rows_in items ≡ behind_rows closed (rest_of is_open row (u ∷ drop (i + 1) items))
  so_far-front = so_far ∙ ap (λ ts. behind_rows closed (rest_of is_open row ts)) front

module _ (items : List Lexeme) (closed : List (List ℕ)) (row : List ℕ) (i : ℕ) (t : Lexeme) (lt : i < length items) (at : t ≡ get_or items i t) where
  pub after_comma : (is_open : Bool) → t ≡ lex.Comma → IsSoFar items closed is_open row i → IsSoFar items closed is_open row (i + 1)
  after_comma true is h = so_far-front items closed true row i t lex.Comma lt at is h
  after_comma false is h = so_far-front items closed false row i t lex.Comma lt at is h

  pub after_opening : (is_open : Bool) → is_open ≡ false → t ≡ lex.LeftBracket → IsSoFar items closed is_open row i → IsSoFar items closed true [] (i + 1)
  after_opening true e is h = absurd (cc)
  after_opening false e is h =
      so_far-front items closed false row i t lex.LeftBracket lt at is h ∙ ap (λ o. behind_rows closed o) (behind_row-nil (drop (i + 1) items))

  pub after_number : (is_open : Bool) (n : ℕ) → is_open ≡ true → t ≡ lex.Number n → IsSoFar items closed is_open row i → IsSoFar items closed is_open (row ++ n ∷ []) (i + 1)
  after_number false n e is h = absurd (cc)
  after_number true n e is h =
      so_far-front items closed true row i t (lex.Number n) lt at is h ∙ ap (λ o. behind_rows closed o) (behind_row-number row n (row_in (drop (i + 1) items)))

  pub after_closing : (is_open : Bool) → is_open ≡ true → t ≡ lex.RightBracket → IsSoFar items closed is_open row i → IsSoFar items (closed ++ row ∷ []) false row (i + 1)
  after_closing false e is h = absurd (cc)
  after_closing true e is h =
      so_far-front items closed true row i t lex.RightBracket lt at is h ∙ behind_rows-closed closed row (rows_in (drop (i + 1) items))

  -- a number that has no room
  pub no_room : (is_open : Bool) (n : ℕ) → is_open ≡ true → t ≡ lex.Number n → IsSoFar items closed is_open row i → (IsCode (row ++ n ∷ []) → ⊥)
      → (rows : List (List ℕ)) → rows_in items ≡ Some rows → AreKept rows → ⊥
  no_room is_open n e is h none rows spelled kept =
      in_some (row_in (drop (i + 1) items)) (sym spelled ∙ after_number true n refl is (subst (λ b. IsSoFar items closed b row i) e h))
    where
      in_some : (o : Option (List (List ℕ))) → Some rows ≡ behind_rows closed (behind_row (row ++ n ∷ []) o) → ⊥
      in_some None e = cc
      in_some (Some []) e = cc
      in_some (Some (r ∷ more)) e =
          let same : rows ≡ closed ++ ((row ++ n ∷ []) ++ r) ∷ more = cc in
          none (front_code (row ++ n ∷ []) r (row_code closed ((row ++ n ∷ []) ++ r) more (subst (λ s. AllByRecursion IsCode s) same kept.are_codes)))
