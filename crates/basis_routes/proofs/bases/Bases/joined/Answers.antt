use Rattle.std.proofs.Common.{rules, ◌≡◌, [], ◌∷◌, Err, arith}
use Rattle.std.proofs.lemmas.List.Elements.{All-append}
use Rattle.basis_routes.specs.declared.checks.Check.TheVariants.{Joined}
use Rattle.basis_routes.specs.Checks.{Passes}
use Rattle.basis_routes.proofs.Rows.{refused_front, refused_back}
use Rattle.basis_routes.proofs.bases.Bases.joined.Goals.{in-None-None, in-One-One+in_ok-join_or_refuse-in-One-One, in-Two-Two+in_ok-join_or_refuse-in-Two-Two+in_ok-join_or_refuse-in-Two-Two-2, in-Three-Three+in_ok-join_or_refuse-in-Three-Three+in_ok-join_or_refuse-in-Three-Three-2+in_ok-join_or_refuse-in-Three-Three-3}
use Rattle.basis_routes.proofs.bases.Bases.joined.Goals as goal

pub returns-in_err-join_or_refuse-in-Three-Three-2-clause-checks : goal.returns-in_err-join_or_refuse-in-Three-Three-2-clause-checks
returns-in_err-join_or_refuse-in-Three-Three-2-clause-checks c =
    let w = c.in-Three-Three in
    let later = Joined w.b w.y ∷ Joined w.c w.z ∷ [] in
    let refused = refused_back (Joined w.a w.x ∷ []) later _ c.in_ok-join_or_refuse-in-Three-Three.ensures.checks
    (refused_front (Joined w.b w.y ∷ []) (Joined w.c w.z ∷ []) _ c.in_err-join_or_refuse-in-Three-Three-2.ensures.checks) in
    search rules

pub returns-in_err-join_or_refuse-in-Three-Three-3-clause-checks : goal.returns-in_err-join_or_refuse-in-Three-Three-3-clause-checks
returns-in_err-join_or_refuse-in-Three-Three-3-clause-checks c =
    let w = c.in-Three-Three in
    let later = Joined w.b w.y ∷ Joined w.c w.z ∷ [] in
    let refused = refused_back (Joined w.a w.x ∷ []) later _ c.in_ok-join_or_refuse-in-Three-Three.ensures.checks
    (refused_back (Joined w.b w.y ∷ []) (Joined w.c w.z ∷ []) _ c.in_ok-join_or_refuse-in-Three-Three-2.ensures.checks c.in_err-join_or_refuse-in-Three-Three-3.ensures.checks) in
    let result : c.from_residual-in_err-join_or_refuse-in-Three-Three-3.result ≡ Err c.in_err-join_or_refuse-in-Three-Three-3.field-0.0 = search rules in
    rw (← c.self.view_is, ← c.other.view_is, w.is-0, w.is-1, result) refused

pub returns-clause-checks : goal.returns-clause-checks
returns-clause-checks c = elim c.match-self.branch [
  | in-None-None w ↦ rw (← c.self.view_is, w.in-None-None.is-0) (λ k d lt. absurd (omega arith))
  | in-One-One+in_ok-join_or_refuse-in-One-One w ↦
      rw (← c.self.view_is, ← c.other.view_is, w.in-One-One.is-0, w.in-One-One.is-1) w.in_ok-join_or_refuse-in-One-One.ensures.checks
  | in-Two-Two+in_ok-join_or_refuse-in-Two-Two+in_ok-join_or_refuse-in-Two-Two-2 w ↦
      let v = w.in-Two-Two in
      rw (← c.self.view_is, ← c.other.view_is, v.is-0, v.is-1)
      (All-append Passes (Joined v.a v.x ∷ []) (Joined v.b v.y ∷ []) w.in_ok-join_or_refuse-in-Two-Two.ensures.checks w.in_ok-join_or_refuse-in-Two-Two-2.ensures.checks)
  | in-Three-Three+in_ok-join_or_refuse-in-Three-Three+in_ok-join_or_refuse-in-Three-Three-2+in_ok-join_or_refuse-in-Three-Three-3 w ↦
      let v = w.in-Three-Three in
      rw (← c.self.view_is, ← c.other.view_is, v.is-0, v.is-1)
      (All-append Passes (Joined v.a v.x ∷ []) (Joined v.b v.y ∷ Joined v.c v.z ∷ []) w.in_ok-join_or_refuse-in-Three-Three.ensures.checks
      (All-append Passes (Joined v.b v.y ∷ []) (Joined v.c v.z ∷ []) w.in_ok-join_or_refuse-in-Three-Three-2.ensures.checks w.in_ok-join_or_refuse-in-Three-Three-3.ensures.checks))
]
