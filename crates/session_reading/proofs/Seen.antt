-- What is seen in lexemes, place by place.
use Rattle.std.proofs.Common.{◌≡◌, ℕ, ◌+◌, ◌<◌, Bool, true, false, List, Option, Some, None, length, drop, inl, inr, subst, arith}
use Rattle.std.proofs.lemmas.Bool.{cases_lt}
use Rattle.session_tokens.specs.declared.lexeme.Lexeme.{Lexeme}
use Rattle.session_reading.specs.Faults.{IsUnseenBefore, IsFirstSeen}
use Rattle.session_reading.specs.Sights.{found_or, IsFound}

-- Unseen before a place and there, it is unseen before the next.
pub unseen_more : (begins : List Lexeme → Bool) (ls : List Lexeme) (n : ℕ) → IsUnseenBefore begins ls n → begins (drop n ls) ≡ false → IsUnseenBefore begins ls (n + 1)
unseen_more begins ls n none here j short =
    elim (cases_lt j n) [
      | inl less ↦ none j less
      | inr past ↦
          let same : n ≡ j = omega (arith, short, past) in
          subst (λ (i : ℕ). begins (drop i ls) ≡ false) same here
    ]

-- One more place is looked at.
pub found_more : (begins : List Lexeme → Bool) (ls : List Lexeme) (n : ℕ) (found : Option ℕ) (here : Bool) → n < length ls → begins (drop n ls) ≡ here → IsFound begins ls n found
    → IsFound begins ls (n + 1) (found_or found here n)
found_more begins ls n (Some k) here short is h = h
found_more begins ls n None true short is h = record { within = short; here = is; first = h }
found_more begins ls n None false short is h = unseen_more begins ls n h is

-- What was found is the first place.
pub found_at : (begins : List Lexeme → Bool) (ls : List Lexeme) (n : ℕ) (found : Option ℕ) (k : ℕ) → IsFound begins ls n found → found ≡ Some k → IsFirstSeen begins ls k
found_at begins ls n found k h is = let P : Option ℕ → Type 0 = λ o. IsFound begins ls n o in subst P is h

-- Where nothing was found, nothing is there.
pub found_nowhere : (begins : List Lexeme → Bool) (ls : List Lexeme) (n : ℕ) (found : Option ℕ) → IsFound begins ls n found → found ≡ None → IsUnseenBefore begins ls n
found_nowhere begins ls n found h is = let P : Option ℕ → Type 0 = λ o. IsFound begins ls n o in subst P is h
