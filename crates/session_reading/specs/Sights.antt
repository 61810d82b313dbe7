-- The first places so far at which something is seen. Nothing here need be believed: it serves the one pass over the lexemes.
use Rattle.std.specs.Prelude.{ℕ, Bool, true, false, List, Option, Some, None, MatchOption}
use Rattle.session_tokens.specs.declared.lexeme.Lexeme.{Lexeme}
use Rattle.session_reading.specs.declared.sights.Sights.{Sights}
use Rattle.built_forms.specs.Forms.{begins_unbuilt}
use Rattle.index_spellings.specs.Indices.{begins_bad_list}
use Rattle.session_reading.specs.Faults.{begins_large, IsUnseenBefore, IsFirstSeen}

-- the place that was found, or else this one where it is seen here
abbrev pub found_or : Option ℕ → Bool → ℕ → Option ℕ
found_or (Some k) here place = Some k
found_or None true place = Some place
found_or None false place = None

-- the first place of all, or none before this one
abbrev pub IsFound : (List Lexeme → Bool) → List Lexeme → ℕ → Option ℕ → Type 0
IsFound begins ls n found = MatchOption found (IsUnseenBefore begins ls n) (λ k. IsFirstSeen begins ls k)

pub record AreFound (ls : List Lexeme) (n : ℕ) (sights : Sights) : Type 0 where
  pub large_number : IsFound begins_large ls n sights.large_number
  pub unbuilt : IsFound begins_unbuilt ls n sights.unbuilt
  pub bad_list : IsFound begins_bad_list ls n sights.bad_list
