-- Checks that are tested: the answer is the refusal exactly where the check fails.
use Rattle.std.proofs.Common.{◌≡◌, ◌↔◌, Bool, true, false, IsTrue, [], ◌∷◌, if◌then◌else◌, Result, Ok, Err, is_ok, inl, inr, refl, sym, ◌∙◌, ap, subst}
use Rattle.std.proofs.lemmas.List.Elements.{All-nil, All-cons, All-head}
use Rattle.hopf_num.specs.declared.room.Need.{Need}
use Rattle.hopf_num.specs.declared.room.NumFault.{NumFault}
use Rattle.hopf_num.specs.declared.room.NumFault.TheVariants.{TooLarge as TooLargeFault, ZeroDivisor}
use Rattle.hopf_num.specs.Room.{HasRoom, TestsRoom}
use Rattle.basis_routes.specs.declared.checks.Check.{Check}
use Rattle.basis_routes.specs.declared.checks.Check.TheVariants.{Room}
use Rattle.basis_routes.specs.declared.refusal.Refusal.{Refusal}
use Rattle.basis_routes.specs.declared.refusal.Refusal.TheVariants.{TooLarge}
use Rattle.basis_routes.specs.Checks.{Passes, Tests, refusal_of}

-- a check that passes exactly where a test holds
pub tests_one : (check : Check) (test : Bool) (result : Result (Unit {0}) Refusal) → IsTrue test ↔ Passes check
    → result ≡ if test then (Ok tt) else (Err (refusal_of check)) → Tests (check ∷ []) result
tests_one check true result is made = subst (λ r. Tests (check ∷ []) r) (sym made) (All-cons Passes check [] (is.0 refl) (All-nil Passes))
tests_one check false result is made = subst (λ r. Tests (check ∷ []) r) (sym made) (inr (inl (refl, λ pass. false_is_not_true (is.1 pass))))
  where
    false_is_not_true : IsTrue false → ⊥
    false_is_not_true e = absurd (cc)

-- a check of room
pub tests_room : (need : Need) (tested : Result (Unit {0}) NumFault) (ok : Bool) (result : Result (Unit {0}) Refusal) → TestsRoom (need ∷ []) tested
    → ok ≡ is_ok tested → result ≡ if ok then (Ok tt) else (Err (TooLarge need)) → Tests (Room need ∷ []) result
tests_room need (Ok done) ok result tests is made =
    let passed : result ≡ Ok tt = made ∙ ap (λ (b : Bool). if b then (Ok tt) else (Err (TooLarge need))) is in
    subst (λ r. Tests (Room need ∷ []) r) (sym passed) (All-cons Passes (Room need) [] (All-head HasRoom need [] tests) (All-nil Passes))
tests_room need (Err (TooLargeFault told)) ok result (inl (same, fails)) is made =
    let refused : result ≡ Err (TooLarge need) = made ∙ ap (λ (b : Bool). if b then (Ok tt) else (Err (TooLarge need))) is in
    subst (λ r. Tests (Room need ∷ []) r) (sym refused) (inr (inl (refl, fails)))
tests_room need (Err (TooLargeFault told)) ok result (inr (passes, none)) is made = absurd none
tests_room need (Err ZeroDivisor) ok result tests is made = absurd tests
