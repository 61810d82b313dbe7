-- Every text has tokens.
use Rattle.std.proofs.Common.{◌≡◌, ℕ, ◌+◌, ◌≤◌, inl, inr, zero, suc, Bool, true, false, cond, List, [], ◌∷◌, length, drop, refl, arith, length-drop}
use Rattle.std.proofs.lemmas.Bool.{cases_Bool}
use Rattle.session_tokens.specs.declared.token.Kind.{Kind}
use Rattle.session_tokens.specs.declared.token.Token.{Token}
use Rattle.session_tokens.specs.Tokens.{is_blank, first_token, token, AreTokens, at_end, blank, next}
use Rattle.session_tokens.specs.declared.token.Kind.TheVariants as kind

-- Of two tokens that are not empty, the chosen one is not.
cond-positive : (c : Bool) (x y : Kind × ℕ) → 1 ≤ x.1 → 1 ≤ y.1 → 1 ≤ (cond c x y).1
cond-positive true x y h k = h
cond-positive false x y h k = k

-- A token takes at least one byte.
first_token-positive : (b : ℕ) (bs : List ℕ) → 1 ≤ (first_token b bs).1
first_token-positive b bs = search (arith, cond-positive)

-- A text of a bounded length has tokens, at whatever place it begins.
tokens_within : (bound p : ℕ) (text : List ℕ) → length text ≤ bound → (ts : List Token) × AreTokens p text ts
tokens_within bound p [] short = (token kind.End p 0 ∷ [], at_end)
tokens_within zero p (b ∷ bs) short = absurd (omega arith)
tokens_within (suc bound) p (b ∷ bs) short =
    let n : ℕ = (first_token b bs).1 in
    let positive : 1 ≤ n = first_token-positive b bs in
    let behind : length bs ≤ bound = omega arith in
    let fewer : length (drop n (b ∷ bs)) ≤ bound = omega (arith, length-drop n (b ∷ bs)) in
    elim (cases_Bool (is_blank b)) [
      | inl is ↦ let rest = tokens_within bound (p + 1) bs behind in (rest.0, blank is rest.1)
      | inr is ↦ let rest = tokens_within bound (p + n) (drop n (b ∷ bs)) fewer in (token (first_token b bs).0 p n ∷ rest.0, next is refl rest.1)
    ]

-- A text has tokens.
pub tokens_exist : (p : ℕ) (text : List ℕ) → (ts : List Token) × AreTokens p text ts
tokens_exist p text = tokens_within (length text) p text (omega arith)
