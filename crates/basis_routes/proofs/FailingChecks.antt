-- The first failing check of a row of checks is one, and there is none where all pass.
use Rattle.std.proofs.Common.{◌≡◌, List, [], ◌∷◌, ◌++◌, inl, inr, sym, ◌∙◌}
use Rattle.std.specs.Prelude.{All}
use Rattle.std.proofs.lemmas.List.Elements.{All-head, All-tail}
use Rattle.basis_routes.specs.declared.checks.Check.{Check}
use Rattle.basis_routes.specs.declared.refusal.Refusal.{Refusal}
use Rattle.basis_routes.specs.Checks.{Passes, IsFirstFailing}

-- the first check that fails is one
pub failing_once : (checks : List Check) (r q : Refusal) → IsFirstFailing checks r → IsFirstFailing checks q → r ≡ q
failing_once [] r q h k = absurd h
failing_once (check ∷ checks) r q (inl (is, failed)) (inl (is', failed')) = is ∙ sym is'
failing_once (check ∷ checks) r q (inl (is, failed)) (inr (passes, later)) = absurd (failed passes)
failing_once (check ∷ checks) r q (inr (passes, later)) (inl (is, failed)) = absurd (failed passes)
failing_once (check ∷ checks) r q (inr (passes, later)) (inr (passes', later')) = failing_once checks r q later later'

-- where all checks pass, none is the first that fails
pub none_fails : (checks : List Check) (r : Refusal) → All Passes checks → IsFirstFailing checks r → ⊥
none_fails [] r all h = h
none_fails (check ∷ checks) r all (inl (is, failed)) = failed (All-head Passes check checks all)
none_fails (check ∷ checks) r all (inr (passes, later)) = none_fails checks r (All-tail Passes check checks all) later

-- the later checks of a row that passes
pub passes_later : (checks later : List Check) → All Passes (checks ++ later) → All Passes later
passes_later [] later pass = pass
passes_later (check ∷ checks) later pass = passes_later checks later (All-tail Passes check (checks ++ later) pass)
