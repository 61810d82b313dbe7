-- Counts of faults, of bytes given and of calls. Each stops at the last value of its type.
use Rattle.std.specs.Prelude.{◌≡◌, ℕ, ◌+◌, ◌-◌, ◌^◌, ◌≤◌, min, Result, OnErr, MatchResult}

-- the count rose from before to now, or stands at its end
abbrev pub Rose : ℕ → ℕ → Type 0
Rose before now = min (before + 1) (2 ^ 64 - 1) ≤ now

-- the count of faults never falls, and an error comes only where it rose
pub record HasCause {T E : Type 0} (before now : ℕ) (result : Result T E) : Type 0 where
  pub later : before ≤ now
  pub failed : OnErr result (Rose before now)

-- the count rose by the number that was answered; an error leaves it
abbrev pub Counts : {E : Type 0} → ℕ → ℕ → Result ℕ E → Type 0
Counts before now result = MatchResult result (λ n. now ≡ min (before + n) (2 ^ 64 - 1)) (λ _. now ≡ before)

-- the number of the next call
abbrev pub next_call : ℕ → ℕ
next_call calls = min (calls + 1) (2 ^ 64 - 1)
