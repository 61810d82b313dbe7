-- Numbers in decimal: their digits, and the number that these are.
use Rattle.std.proofs.Common.{◌≡◌, ℕ, zero, suc, ◌+◌, ◌-◌, ◌*◌, ◌/◌, ◌%◌, ◌^◌, ◌<◌, ◌≤◌, true, false, List, [], ◌∷◌, ◌++◌, length, length-append, refl, sym, ◌∙◌, subst, arith, inl, inr}
use Rattle.std.specs.Fmt.{decimal}
use Rattle.std.specs.List.{AllByRecursion}
use Rattle.std.proofs.lemmas.Bool.{cases_lt}
use Rattle.std.proofs.lemmas.Bool.Decides.{nat_tests}
use Rattle.std.proofs.lemmas.Fmt.{decimal_digit, decimal_step_wide}
use Rattle.std.proofs.Math.Nat.{div-add-mod'}
use Rattle.session_tokens.specs.Lexemes.{number_from}
use Rattle.session_tokens.specs.Tokens.{is_digit, digit_run}

abbrev pub AreDigits : List ℕ → Type 0
AreDigits bs = AllByRecursion (λ b. is_digit b ≡ true) bs

AreDigits-append : (ds : List ℕ) (d : ℕ) → AreDigits ds → is_digit d ≡ true → AreDigits (ds ++ d ∷ [])
AreDigits-append [] d h k = (k, tt)
AreDigits-append (b ∷ ds) d h k = (h.0, AreDigits-append ds d h.1 k)

number_from-append : (n : ℕ) (ds : List ℕ) (d : ℕ) → number_from n (ds ++ d ∷ []) ≡ number_from n ds * 10 + (d - 48)
number_from-append n [] d = refl
number_from-append n (b ∷ ds) d = number_from-append (n * 10 + (b - 48)) ds d

digit-small : (n : ℕ) → n < 10 → is_digit (48 + n) ≡ true
digit-small n small = grind (arith, nat_tests)

-- the digits of a number, and that they are it
pub record IsDecimal (n : ℕ) (ds : List ℕ) : Type 0 where
  pub digits : AreDigits ds
  pub number : number_from 0 ds ≡ n
  pub some : 1 ≤ length ds

one_digit : (n : ℕ) → n < 10 → IsDecimal n (decimal n)
one_digit n small = subst (λ ds. IsDecimal n ds) (sym (decimal_digit n small)) record { digits = (digit-small n small, tt); number = omega arith; some = omega arith }

decimal_within : (fuel n : ℕ) → n ≤ fuel → n < 2 ^ 128 → IsDecimal n (decimal n)
decimal_within zero n le fits = one_digit n (omega arith)
decimal_within (suc fuel) n le fits = elim (cases_lt n 10) [
  | inl small ↦ one_digit n small
  | inr big ↦
      (let split : n / 10 * 10 + n % 10 ≡ n = div-add-mod' n 10 in
      let before : IsDecimal (n / 10) (decimal (n / 10)) = decimal_within fuel (n / 10) (omega (arith, split)) (omega (arith, split)) in
      let last : n % 10 < 10 = omega arith in
      subst (λ ds. IsDecimal n ds) (sym (decimal_step_wide n big (omega (arith, fits)))) record {
        digits = AreDigits-append (decimal (n / 10)) (48 + n % 10) before.digits (digit-small (n % 10) last);
        number = number_from-append 0 (decimal (n / 10)) (48 + n % 10) ∙ omega (arith, before.number, split);
        some = omega (arith, length-append (decimal (n / 10)) ((48 + n % 10) ∷ []));
      })
]

pub decimal_is : (n : ℕ) → n < 2 ^ 128 → IsDecimal n (decimal n)
decimal_is n fits = decimal_within n n (omega arith) fits

-- no digit stands in front
abbrev pub StartsWithNoDigit : List ℕ → Type 0
StartsWithNoDigit [] = Unit {0}
StartsWithNoDigit (b ∷ bs) = is_digit b ≡ false

-- a run of digits ends before another byte
pub digit_run-digits : (ds bs : List ℕ) → AreDigits ds → StartsWithNoDigit bs → digit_run (ds ++ bs) ≡ length ds
unfolding digit_run
digit_run-digits [] [] h k = refl
digit_run-digits [] (b ∷ bs) h k = rw k refl
digit_run-digits (d ∷ ds) bs h k = rw h.0 (omega (arith, digit_run-digits ds bs h.1 k))
