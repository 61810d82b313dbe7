-- Words whose letters past a number are spread: in the same order, and with more room between them.
use Rattle.std.specs.Prelude.{◌≡◌, ℕ, ◌+◌, ◌<◌, ◌≤◌, if◌then◌else◌, nat_lt, List, map}

-- f is strictly increasing
abbrev pub IsRising : (ℕ → ℕ) → Type 0
IsRising f = (x y : ℕ) → x < y → f x < f y

-- the word w is u with its letters past n spread: a strictly increasing map that keeps the numbers up to n takes u to w
pub record IsSpread (n : ℕ) (u w : List ℕ) : Type 0 where
  pub image : ℕ → ℕ
  pub rises : IsRising image
  pub stays : (x : ℕ) → x ≤ n → image x ≡ x
  pub word : w ≡ map image u

-- 1 more for a letter past n
abbrev pub raised_past : ℕ → ℕ → ℕ
raised_past n x = if nat_lt n x then x + 1 else x

-- each letter past n raised by 1: the number n + 1 is left out
abbrev pub raise_past : ℕ → List ℕ → List ℕ
raise_past n w = map (raised_past n) w
