-- The row of a commuting image step by step, as code goes through it.
use Rattle.std.proofs.Common.{◌≡◌, ◌≢◌, ℕ, [], ◌∷◌, length, get_or, Ok, inl, inr, sym, subst}
use Rattle.std.specs.Prelude.{All, IfOk}
use Rattle.basis_names.specs.declared.bases.BasisId.TheVariants.{QsymM}
use Rattle.realisations.specs.Readings.{applied, commute}
use Rattle.hopf_laws.specs.Values.{Expansion, Expands, reading_of}
use Rattle.basis_routes.specs.declared.place.Place.{Place}
use Rattle.basis_routes.specs.Checks.{Passes, Tests}
use Rattle.basis_routes.specs.Conversions.{linear_checks}
use Rattle.basis_routes.specs.Lists.{replaced}
use Rattle.basis_routes.specs.Places.{position_of, component_checks}
use Rattle.basis_routes.specs.Rows.{Answer, Answers, Checked, OrMemory}
use Rattle.hopf_ops.specs.Operations.{CommuteAt, CommuteRow}
use Rattle.hopf_ops.proofs.RowsInSteps.{checks_pass, tests_row}

-- the component is there, and what comes of it
commute_there : (at : Place) (v : Expansion) (n rank : ℕ) (answer : Answer) → position_of at ≡ n → rank ≡ length v.bases → All Passes (component_checks at rank)
    → OrMemory (CommuteAt n v) answer → OrMemory (CommuteRow at v) answer
commute_there at v n rank answer place long pass row =
    checks_pass (component_checks at (length v.bases)) (CommuteAt (position_of at) v) answer (subst (λ m. All Passes (component_checks at m)) long pass)
    (subst (λ m. OrMemory (CommuteAt m v) answer) (sym place) row)

-- it is over QSym.M already
pub commute_of_same : (at : Place) (v : Expansion) (n rank : ℕ) (answer : Answer) → position_of at ≡ n → rank ≡ length v.bases → All Passes (component_checks at rank) → get_or v.bases n QsymM ≡ QsymM
    → OrMemory (λ a. a ≡ Ok v) answer → OrMemory (CommuteRow at v) answer
commute_of_same at v n rank answer place long pass same (inl memory) = inl memory
commute_of_same at v n rank answer place long pass same (inr is) = commute_there at v n rank answer place long pass (inr (inl (same, is)))

-- or over another basis
pub commute_of_other : (at : Place) (v : Expansion) (n rank : ℕ) (answer : Answer) → position_of at ≡ n → rank ≡ length v.bases → All Passes (component_checks at rank) → get_or v.bases n QsymM ≢ QsymM
    → Tests (linear_checks v) answer → IfOk answer (Expands (replaced n (QsymM ∷ []) v.bases) (applied commute n (reading_of v))) → OrMemory (CommuteRow at v) answer
commute_of_other at v n rank answer place long pass other tests value =
    commute_there at v n rank answer place long pass (made (tests_row (linear_checks v) (replaced n (QsymM ∷ []) v.bases) (applied commute n (reading_of v)) answer tests value))
  where
    made : OrMemory (Checked (linear_checks v) (Answers (replaced n (QsymM ∷ []) v.bases) (applied commute n (reading_of v)))) answer → OrMemory (CommuteAt n v) answer
    made (inl memory) = inl memory
    made (inr row) = inr (inr (other, row))
