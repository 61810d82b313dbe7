-- What the calls of a steady sink do to its room.
use Rattle.std.specs.Prelude.{◌≡◌, ℕ, ◌-◌, ◌≤◌, Option, Some, Result, IsOk, MatchResult}

-- a write fails exactly where there is no room, and loses the room that was used
abbrev pub WritesSteadily : {E : Type 0} → Option ℕ → Option ℕ → Result ℕ E → Type 0
WritesSteadily old new result = (n : ℕ) → old ≡ Some n →
    MatchResult result (λ k. (k ≤ n) × (new ≡ Some (n - k))) (λ _. (n ≡ 0) × (new ≡ Some n))

-- this many bytes are taken where there is room for them
abbrev pub SendsSteadily : {E : Type 0} → Option ℕ → Option ℕ → ℕ → Result Unit E → Type 0
SendsSteadily old new count result = (n : ℕ) → old ≡ Some n → count ≤ n → IsOk result × (new ≡ Some (n - count))
