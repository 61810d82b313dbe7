-- Every text has one answer of the parser, memory aside.
use Rattle.std.proofs.Common.{◌≡◌, ℕ, ◌+◌, ◌≤◌, ◌⊎◌, inl, inr, zero, suc, Bool, true, false, List, Option, Some, None, Result, Ok, Err, length, drop, refl, sym, ◌∙◌, ap, subst, arith}
use Rattle.std.proofs.lemmas.Bool.{cases_order, cases_Bool}
use Rattle.session_tokens.specs.declared.lexeme.Lexeme.{Lexeme}
use Rattle.session_tokens.specs.declared.token.Token.{Token}
use Rattle.session_tokens.specs.Lexemes.{lexemes_of}
use Rattle.session_tokens.specs.Tokens.{AreTokens}
use Rattle.session_tokens.proofs.TokenSteps.{tokens_once}
use Rattle.session_tokens.proofs.TokensExist.{tokens_exist}
use Rattle.session_grammar.specs.declared.expression.Statement.{Statement}
use Rattle.session_grammar.proofs.OneReading.{bad_once, bad_no_statement, statement_or_bad}
use Rattle.built_forms.specs.Forms.{begins_unbuilt}
use Rattle.index_spellings.specs.Indices.{begins_bad_list}
use Rattle.session_reading.specs.declared.fault.GrammarFault.{GrammarFault}
use Rattle.session_reading.specs.declared.parsing.Flaw.{Flaw}
use Rattle.session_reading.specs.Faults.{opens_past_64, begins_large, IsUnseenBefore, IsUnseen, IsFirstSeen}
use Rattle.session_reading.specs.Parses.{reserved_name, IsFlawOfStatement, large_number, reserved, not_built, bad_list, IsFlawless, IsFlaw, too_deep, no_statement, in_statement, IsSound, fault_at, Answers, IsAnswer, Judges}
use Rattle.session_reading.proofs.Seen.{unseen_more}
use Rattle.session_reading.specs.declared.fault.GrammarFault.TheVariants as fault
use Rattle.session_reading.specs.declared.parsing.Flaw.TheVariants as flaw

-- The first place at which something is seen.

-- A test has one outcome.
true_not_false : (b : Bool) → b ≡ true → b ≡ false → ⊥
true_not_false b is other = absurd (cc)

-- There is one such place.
first_once : (begins : List Lexeme → Bool) (ls : List Lexeme) (k j : ℕ) → IsFirstSeen begins ls k → IsFirstSeen begins ls j → k ≡ j
first_once begins ls k j h i =
    elim (cases_order k j) [
      | inl same ↦ same
      | inr (inl less) ↦ absurd (true_not_false (begins (drop k ls)) h.here (i.first k less))
      | inr (inr more) ↦ absurd (true_not_false (begins (drop j ls)) i.here (h.first j more))
    ]

-- What is seen first somewhere is not unseen.
seen_somewhere : (begins : List Lexeme → Bool) (ls : List Lexeme) (k : ℕ) → IsFirstSeen begins ls k → IsUnseen begins ls → ⊥
seen_somewhere begins ls k h none = true_not_false (begins (drop k ls)) h.here (none k h.within)

seen_within : (begins : List Lexeme → Bool) (ls : List Lexeme) (n : ℕ) → n ≤ length ls → ((k : ℕ) × IsFirstSeen begins ls k) ⊎ IsUnseenBefore begins ls n
seen_within begins ls zero short = inr (λ j less. absurd (omega (arith, less)))
seen_within begins ls (suc n) short =
    elim (seen_within begins ls n (omega (arith, short))) [
      | inl found ↦ inl found
      | inr none ↦ elim (cases_Bool (begins (drop n ls))) [
        | inl here ↦ inl (n, record { within = omega (arith, short); here = here; first = none })
        | inr other ↦ inr (subst (λ (m : ℕ). IsUnseenBefore begins ls m) (omega arith) (unseen_more begins ls n none other))
      ]
    ]

-- It is first seen at some place, or nowhere.
seen_or_not : (begins : List Lexeme → Bool) (ls : List Lexeme) → ((k : ℕ) × IsFirstSeen begins ls k) ⊎ IsUnseen begins ls
seen_or_not begins ls = seen_within begins ls (length ls) (omega arith)

-- One flaw is the first.

-- What is refused first in a statement is one thing.
statement_flaw_once : (ls : List Lexeme) (v w : Flaw) → IsFlawOfStatement ls v → IsFlawOfStatement ls w → v ≡ w
statement_flaw_once ls v w (large_number {k = k} h) (large_number {k = j} i) = ap (λ (n : ℕ). flaw.LargeNumber n) (first_once begins_large ls k j h i)
statement_flaw_once ls v w (large_number {k = k} h) (reserved small is) = absurd (seen_somewhere begins_large ls k h small)
statement_flaw_once ls v w (large_number {k = k} h) (not_built small is i) = absurd (seen_somewhere begins_large ls k h small)
statement_flaw_once ls v w (large_number {k = k} h) (bad_list small is built i) = absurd (seen_somewhere begins_large ls k h small)
statement_flaw_once ls v w (reserved small is) (large_number {k = k} h) = absurd (seen_somewhere begins_large ls k h small)
statement_flaw_once ls v w (reserved small is) (reserved small' is') = cc
statement_flaw_once ls v w (reserved small is) (not_built small' is' i) = absurd (cc)
statement_flaw_once ls v w (reserved small is) (bad_list small' is' built i) = absurd (cc)
statement_flaw_once ls v w (not_built small is i) (large_number {k = k} h) = absurd (seen_somewhere begins_large ls k h small)
statement_flaw_once ls v w (not_built small is i) (reserved small' is') = absurd (cc)
statement_flaw_once ls v w (not_built small is i) (not_built small' is' j) = refl
statement_flaw_once ls v w (not_built {k = k} small is i) (bad_list small' is' built j) = absurd (seen_somewhere begins_unbuilt ls k i built)
statement_flaw_once ls v w (bad_list small is built i) (large_number {k = k} h) = absurd (seen_somewhere begins_large ls k h small)
statement_flaw_once ls v w (bad_list small is built i) (reserved small' is') = absurd (cc)
statement_flaw_once ls v w (bad_list small is built i) (not_built {k = k} small' is' j) = absurd (seen_somewhere begins_unbuilt ls k j built)
statement_flaw_once ls v w (bad_list {k = k} small is built i) (bad_list {k = j} small' is' built' i') = ap (λ (n : ℕ). flaw.BadList (n + 1)) (first_once begins_bad_list ls k j i i')

-- Lexemes have one flaw at most.
pub flaw_once : (ls : List Lexeme) (v w : Flaw) → IsFlaw ls v → IsFlaw ls w → v ≡ w
flaw_once ls v w (too_deep deep) (too_deep deep') = refl
flaw_once ls v w (too_deep deep) (no_statement shallow bad) = absurd (cc)
flaw_once ls v w (too_deep deep) (in_statement shallow h f) = absurd (cc)
flaw_once ls v w (no_statement shallow bad) (too_deep deep) = absurd (cc)
flaw_once ls v w (no_statement {k = k} shallow bad) (no_statement {k = j} shallow' bad') = ap (λ (n : ℕ). flaw.Syntax n) (bad_once ls k j bad bad')
flaw_once ls v w (no_statement {k = k} shallow bad) (in_statement {s = s} shallow' h f) = absurd (bad_no_statement ls k s bad h)
flaw_once ls v w (in_statement shallow h f) (too_deep deep) = absurd (cc)
flaw_once ls v w (in_statement {s = s} shallow h f) (no_statement {k = k} shallow' bad) = absurd (bad_no_statement ls k s bad h)
flaw_once ls v w (in_statement shallow h f) (in_statement shallow' h' g) = statement_flaw_once ls v w f g

-- Where nothing is refused in a statement, nothing is refused first.
flawless_no_flaw : (ls : List Lexeme) (w : Flaw) → IsFlawless ls → IsFlawOfStatement ls w → ⊥
flawless_no_flaw ls w clean (large_number {k = k} h) = seen_somewhere begins_large ls k h clean.small
flawless_no_flaw ls w clean (reserved small is) = let none = clean.unreserved in absurd (cc)
flawless_no_flaw ls w clean (not_built {k = k} small is h) = seen_somewhere begins_unbuilt ls k h clean.built
flawless_no_flaw ls w clean (bad_list {k = k} small is built h) = seen_somewhere begins_bad_list ls k h clean.indices

-- A statement in which nothing is refused has no flaw.
pub sound_no_flaw : (ls : List Lexeme) (s : Statement) (w : Flaw) → IsSound ls s → IsFlaw ls w → ⊥
sound_no_flaw ls s w sound (too_deep deep) = true_not_false (opens_past_64 0 ls) deep sound.shallow
sound_no_flaw ls s w sound (no_statement {k = k} shallow bad) = bad_no_statement ls k s bad sound.statement.is
sound_no_flaw ls s w sound (in_statement shallow h f) = flawless_no_flaw ls w sound.flawless f

-- Something is refused first, or nothing.

abbrev IsChecked : List Lexeme → Type 0
IsChecked ls = IsFlawless ls ⊎ ((f : Flaw) × IsFlawOfStatement ls f)

checked_name : (ls : List Lexeme) (o : Option (List ℕ)) → reserved_name ls ≡ o → IsUnseen begins_large ls → IsChecked ls
checked_name ls (Some w) is small = inr (flaw.ReservedName w, reserved small is)
checked_name ls None is small =
    elim (seen_or_not begins_unbuilt ls) [
      | inl found ↦ inr (flaw.NotBuilt, not_built small is found.1)
      | inr built ↦ elim (seen_or_not begins_bad_list ls) [
        | inl found ↦ inr (flaw.BadList (found.0 + 1), bad_list small is built found.1)
        | inr indices ↦ inl record { small = small; unreserved = is; built = built; indices = indices }
      ]
    ]

checked : (ls : List Lexeme) → IsChecked ls
checked ls =
    elim (seen_or_not begins_large ls) [
      | inl found ↦ inr (flaw.LargeNumber found.0, large_number found.1)
      | inr small ↦ checked_name ls (reserved_name ls) refl small
    ]

judged : (ls : List Lexeme) → (answer : Result Statement Flaw) × Judges ls answer
judged ls =
    elim (cases_Bool (opens_past_64 0 ls)) [
      | inl deep ↦ (Err flaw.TooDeep, too_deep deep)
      | inr shallow ↦ elim (statement_or_bad ls) [
        | inl (s, only) ↦ elim (checked ls) [
          | inl clean ↦ (Ok s, record { shallow = shallow; statement = only; flawless = clean })
          | inr (f, h) ↦ (Err f, in_statement shallow only.is h)
        ]
        | inr (k, bad) ↦ (Err (flaw.Syntax k), no_statement shallow bad)
      ]
    ]

answer_of : (text : List ℕ) (tokens : List Token) (judgement : Result Statement Flaw) → AreTokens 1 text tokens → Judges (lexemes_of text tokens) judgement → (answer : Result Statement GrammarFault) × IsAnswer text answer
answer_of text tokens (Ok s) are h = (Ok s, record { tokens = tokens; are = are; answers = h })
answer_of text tokens (Err f) are h = (Err (fault_at tokens f), record { tokens = tokens; are = are; answers = (f, h, refl) })

-- Every text has an answer.
pub answer_exists : (text : List ℕ) → (answer : Result Statement GrammarFault) × IsAnswer text answer
answer_exists text =
    let (tokens, are) = tokens_exist 1 text in
    let (judgement, h) = judged (lexemes_of text tokens) in
    answer_of text tokens judgement are h

answers_once : (text : List ℕ) (tokens : List Token) (a b : Result Statement GrammarFault) → Answers text tokens a → Answers text tokens b → a ≡ b
answers_once text tokens (Ok s) (Ok z) h i = ap (λ (x : Statement). Ok x) (h.statement.only z i.statement.is)
answers_once text tokens (Ok s) (Err f) h (w, i, e) = absurd (sound_no_flaw (lexemes_of text tokens) s w h i)
answers_once text tokens (Err f) (Ok s) (w, h, e) i = absurd (sound_no_flaw (lexemes_of text tokens) s w i h)
answers_once text tokens (Err f) (Err g) (v, h, d) (w, i, e) =
    let same : v ≡ w = flaw_once (lexemes_of text tokens) v w h i in
    ap (λ (x : GrammarFault). Err x) (d ∙ ap (λ (x : Flaw). fault_at tokens x) same ∙ sym e)

-- A text has one answer at most.
pub answer_once : (text : List ℕ) (a b : Result Statement GrammarFault) → IsAnswer text a → IsAnswer text b → a ≡ b
answer_once text a b h i =
    let same : i.tokens ≡ h.tokens = tokens_once i.are h.are in
    answers_once text h.tokens a b h.answers (subst (λ (ts : List Token). Answers text ts b) same i.answers)

-- No flaw is told as a lack of memory.
never_memory : (tokens : List Token) (w : Flaw) → fault.Memory ≡ fault_at tokens w → ⊥
never_memory tokens flaw.TooDeep e = absurd (cc)
never_memory tokens (flaw.Syntax k) e = absurd (cc)
never_memory tokens (flaw.LargeNumber k) e = absurd (cc)
never_memory tokens (flaw.ReservedName w) e = absurd (cc)
never_memory tokens flaw.NotBuilt e = absurd (cc)
never_memory tokens (flaw.BadList k) e = absurd (cc)

-- Running out of memory is no answer.
pub no_memory_answer : (text : List ℕ) → IsAnswer text (Err fault.Memory) → ⊥
no_memory_answer text h = let (w, i, e) = h.answers in never_memory h.tokens w e
