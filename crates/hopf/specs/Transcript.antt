-- The statements of a list of bytes, and the lines that they print.
use Rattle.std.specs.Prelude.{◌≡◌, ℕ, ◌+◌, ◌==◌, List, [], ◌∷◌, ◌++◌, Bool, true, false, if◌then◌else◌, All, MatchBool, nat_lt, length}
use Rattle.std.specs.List.{slice_split, list_any, count_by}
use Rattle.hopf.specs.declared.statement.Outcome.{Outcome}
use Rattle.hopf.specs.declared.statement.Outcome.TheVariants.{Refused}
use Rattle.hopf.specs.declared.refusal.StatementRefusal.{StatementRefusal}
use Rattle.hopf.specs.declared.refusal.StatementRefusal.TheVariants.{TooLong, Unfinished}
use Rattle.session_evaluation.specs.Names.{Names}
use Rattle.hopf.specs.Outcomes.{IsOutcome, line_of, is_printed, is_refusal}
use Rattle.session_tokens.specs.Tokens.{is_blank}

-- `;` ends a statement
abbrev pub is_end : ℕ → Bool
is_end c = c == 59

-- without the blanks at its beginning
abbrev pub trimmed : List ℕ → List ℕ
trimmed [] = []
trimmed (c ∷ text) = if is_blank c then trimmed text else c ∷ text

-- the refusal of a text whose `;` did not come
abbrev pub unfinished_refusal : List ℕ → StatementRefusal
unfinished_refusal text = if nat_lt 65536 (length text) then TooLong else Unfinished

-- what follows the last `;` is a statement where it holds a byte that is no blank
abbrev pub unfinished : List ℕ → List Outcome
unfinished [] = []
unfinished (c ∷ text) = Refused (unfinished_refusal (c ∷ text)) ∷ []

-- no part is left
abbrev pub is_none : List (List ℕ) → Bool
is_none [] = true
is_none (part ∷ parts) = false

-- the outcomes, in order, of the statements whose texts these parts are, and the names that they leave; the last part has no `;`
abbrev pub AreOutcomes : Names → List (List ℕ) → List Outcome → Names → Type 0
AreOutcomes names [] os left = (os ≡ []) × (left ≡ names)
AreOutcomes names (part ∷ parts) os left = MatchBool (is_none parts) ((os ≡ unfinished (trimmed part)) × (left ≡ names))
    ((outcome : Outcome) × (next : Names) × (rest : List Outcome) × (os ≡ outcome ∷ rest) × IsOutcome names (trimmed part) outcome next × AreOutcomes next parts rest left)

-- the outcomes of the statements of the bytes, which are the stretches between the bytes `;` and the rest, and the names that they leave
abbrev pub IsScript : Names → List ℕ → List Outcome → Names → Type 0
IsScript names bytes os left = AreOutcomes names (slice_split is_end bytes) os left

-- the lines of these outcomes after k statements: the transcript
abbrev pub lines : ℕ → List Outcome → List ℕ
lines k [] = []
lines k (outcome ∷ rest) = line_of (k + 1) outcome ++ lines (k + 1) rest

-- how many of the outcomes are printed values or tell an equality, and how many are refusals
abbrev pub count_printed : List Outcome → ℕ
count_printed outcomes = count_by is_printed outcomes

abbrev pub count_refused : List Outcome → ℕ
count_refused outcomes = count_by is_refusal outcomes

-- one of the outcomes is a refusal
abbrev pub some_refused : List Outcome → Bool
some_refused = list_any is_refusal

-- a blank stands in front
abbrev pub starts_blank : List ℕ → Bool
starts_blank [] = false
starts_blank (c ∷ text) = is_blank c

-- the text of a statement so far: no `;` is in it, and no blank stands at its beginning
pub record IsText (text : List ℕ) : Type 0 where
  pub no_end : All (λ c. is_end c ≡ false) text
  pub no_blank : starts_blank text ≡ false
