-- Rows of checks, tested part by part.
use Rattle.std.proofs.Common.{suc, List, [], ◌∷◌, ◌++◌, Result, Ok, Err, inl, inr, ap, arith}
use Rattle.std.specs.Prelude.{All}
use Rattle.std.proofs.lemmas.List.Elements.{All-append, All-nil, All-cons, All-head, All-tail}
use Rattle.hopf_num.specs.declared.room.Need.{Need}
use Rattle.hopf_num.specs.Room.{HasRoom, IsFirstWithoutRoom}
use Rattle.basis_routes.specs.declared.refusal.Refusal.{Refusal}
use Rattle.basis_routes.specs.declared.refusal.Refusal.TheVariants.{TooLarge}
use Rattle.basis_routes.specs.declared.checks.Check.{Check}
use Rattle.basis_routes.specs.declared.checks.Check.TheVariants.{Room}
use Rattle.basis_routes.specs.Checks.{Passes, IsFirstFailing, IsRefusalOf, Tests, room_checks}

failing_front : (checks later : List Check) (refusal : Refusal) → IsFirstFailing checks refusal → IsFirstFailing (checks ++ later) refusal
failing_front [] later refusal h = absurd h
failing_front (check ∷ checks) later refusal (inl h) = inl h
failing_front (check ∷ checks) later refusal (inr h) = inr (h.0, failing_front checks later refusal h.1)

-- a refusal by the first checks
pub refused_front : (checks later : List Check) (refusal : Refusal) → IsRefusalOf checks refusal → IsRefusalOf (checks ++ later) refusal
refused_front checks later refusal (inl memory) = inl memory
refused_front checks later refusal (inr h) = inr (failing_front checks later refusal h)

-- each check passes, by recursion
AllPass : List Check → Type 0
AllPass [] = Unit {0}
AllPass (check ∷ checks) = Passes check × AllPass checks

all_pass : (checks : List Check) → All Passes checks → AllPass checks
unfolding AllPass
all_pass [] h = tt
all_pass (check ∷ checks) h = (h 0 check (omega arith), all_pass checks (λ k d lt. h (suc k) d (omega arith)))

failing_back : (checks later : List Check) (refusal : Refusal) → AllPass checks → IsFirstFailing later refusal → IsFirstFailing (checks ++ later) refusal
unfolding AllPass
failing_back [] later refusal pass h = h
failing_back (check ∷ checks) later refusal pass h = inr (pass.0, failing_back checks later refusal pass.1 h)

-- a refusal by the later checks, once the first ones pass
pub refused_back : (checks later : List Check) (refusal : Refusal) → All Passes checks → IsRefusalOf later refusal → IsRefusalOf (checks ++ later) refusal
refused_back checks later refusal pass (inl memory) = inl memory
refused_back checks later refusal pass (inr h) = inr (failing_back checks later refusal (all_pass checks pass) h)

-- a call that makes the later checks, once the first ones pass
pub tests_back : {T : Type 0} (checks later : List Check) (result : Result T Refusal) → All Passes checks → Tests later result → Tests (checks ++ later) result
tests_back checks later (Ok value) pass all = All-append Passes checks later pass all
tests_back checks later (Err refusal) pass h = refused_back checks later refusal pass h

-- a rule of room is a row of checks
failing_room : (needs : List Need) (told : Need) → IsFirstWithoutRoom needs told → IsFirstFailing (room_checks needs) (TooLarge told)
failing_room [] told h = absurd h
failing_room (need ∷ needs) told (inl h) = inl (ap (λ n. TooLarge n) h.0, h.1)
failing_room (need ∷ needs) told (inr h) = inr (h.0, failing_room needs told h.1)

pub pass_room : (needs : List Need) → All HasRoom needs → All Passes (room_checks needs)
pass_room [] h = λ k d lt. absurd (omega arith)
pass_room (need ∷ needs) h = All-cons Passes (Room need) (room_checks needs) (h 0 need (omega arith)) (pass_room needs (λ k d lt. h (suc k) d (omega arith)))

pub refused_room : (needs : List Need) (told : Need) → IsFirstWithoutRoom needs told → IsRefusalOf (room_checks needs) (TooLarge told)
refused_room needs told h = inr (failing_room needs told h)

last_passes : (checks : List Check) (check : Check) → AllPass (checks ++ check ∷ []) → Passes check
unfolding AllPass
last_passes [] check h = h.0
last_passes (first ∷ checks) check h = last_passes checks check h.1

-- the last check of a row that passes
pub passes_last : (checks : List Check) (check : Check) → All Passes (checks ++ check ∷ []) → Passes check
passes_last checks check h = last_passes checks check (all_pass (checks ++ check ∷ []) h)

-- the earlier checks of a row that passes
pub passes_earlier : (checks later : List Check) → All Passes (checks ++ later) → All Passes checks
passes_earlier [] later h = All-nil Passes
passes_earlier (check ∷ checks) later h =
    All-cons Passes check checks (All-head Passes check (checks ++ later) h) (passes_earlier checks later (All-tail Passes check (checks ++ later) h))
