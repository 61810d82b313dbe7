-- Refusals of room, from combinations to values.
use Rattle.std.proofs.Common.{◌≡◌, ℕ, suc, List, [], ◌∷◌, map, Result, Ok, Err, inl, inr, refl, sym, subst, arith}
use Rattle.std.specs.Prelude.{All, IfOk}
use Rattle.std.proofs.lemmas.Result.{IfOk-weaker}
use Rattle.hopf_num.specs.declared.room.Need.{Need}
use Rattle.hopf_num.specs.Room.{HasRoom, IsFirstWithoutRoom}
use Rattle.realisations.specs.Combinations.{Combination}
use Rattle.linear_combos.specs.declared.combo.ComboFault.{ComboFault}
use Rattle.linear_combos.specs.declared.combo.ComboFault.TheVariants.{TooLarge as fault_too_large, Memory as fault_memory}
use Rattle.linear_combos.specs.Faults.{TestsRoom}
use Rattle.basis_names.specs.declared.bases.BasisId.{BasisId}
use Rattle.realisations.specs.Bases.{kind_of}
use Rattle.realisations.specs.Points.{ArePoints}
use Rattle.realisations.specs.Readings.{Reading, leaf, AgreeAt}
use Rattle.hopf_laws.specs.Values.{Expansion, IsValue, Expands}
use Rattle.basis_routes.specs.declared.refusal.Refusal.{Refusal}
use Rattle.basis_routes.specs.Checks.{Tests, room_checks}
use Rattle.basis_routes.proofs.Rows.{pass_room, refused_room}
use Rattle.hopf_ops.specs.Answers.{IsAnswerOver}

-- a combination that tests the room of its needs, as a value
pub answer_tests_room : (bases : List BasisId) (needs : List Need) (combo : Result Combination ComboFault) (result : Result Expansion Refusal)
    → TestsRoom needs combo → IsAnswerOver bases combo result → Tests (room_checks needs) result
answer_tests_room bases needs (Ok c) result room e = subst (Tests (room_checks needs)) (sym e) (pass_room needs room)
answer_tests_room bases needs (Err (fault_too_large told)) result room e = subst (Tests (room_checks needs)) (sym e) (refused_room needs told room)
answer_tests_room bases needs (Err fault_memory) result room e = subst (Tests (room_checks needs)) (sym e) (inl refl)

-- what holds of the combination holds of the value
pub answer_has : (P : Combination → Type 0) (Q : Expansion → Type 0) (bases : List BasisId) (combo : Result Combination ComboFault) (result : Result Expansion Refusal)
    → IsAnswerOver bases combo result → IfOk combo P → IfOk result Q → IfOk result (λ v. (v.bases ≡ bases) × P v.combination × Q v)
answer_has P Q bases (Ok c) result e p q =
    subst (λ r. IfOk r Q → IfOk r (λ (v : Expansion). (v.bases ≡ bases) × P v.combination × Q v)) (sym e) (λ h. (refl, p, h)) q
answer_has P Q bases (Err (fault_too_large told)) result e p q =
    subst (λ r. IfOk r (λ (v : Expansion). (v.bases ≡ bases) × P v.combination × Q v)) (sym e) tt
answer_has P Q bases (Err fault_memory) result e p q =
    subst (λ r. IfOk r (λ (v : Expansion). (v.bases ≡ bases) × P v.combination × Q v)) (sym e) tt

-- a value over the bases reads as its combination does
pub answer_expands : (P : Combination → Type 0) (bases : List BasisId) (reading : Reading) (combo : Result Combination ComboFault) (result : Result Expansion Refusal)
    → IsAnswerOver bases combo result → IfOk combo P → IfOk result IsValue
    → ((c : Combination) → P c → (ps : List (List ℕ)) → ArePoints (map kind_of bases) ps → AgreeAt (leaf bases c.den c.terms) reading ps)
    → IfOk result (Expands bases reading)
answer_expands P bases reading combo result e p value reads =
    IfOk-weaker result (λ (v : Expansion). (v.bases ≡ bases) × P v.combination × IsValue v) (Expands bases reading)
    (λ v h. record {
      value = h.2;
      over = h.0;
      reads = λ ps points. subst (λ bs. AgreeAt (leaf bs v.combination.den v.combination.terms) reading ps) (sym h.0) (reads v.combination h.1 ps points);
    })
    (answer_has P IsValue bases combo result e p value)

no_first : (needs : List Need) (told : Need) → All HasRoom needs → IsFirstWithoutRoom needs told → ⊥
no_first [] told room h = h
no_first (need ∷ needs) told room (inl h) = h.1 (room 0 need (omega arith))
no_first (need ∷ needs) told room (inr h) = no_first needs told (λ k d lt. room (suc k) d (omega arith)) h.1

-- where all needs have room, want of memory is the only refusal
pub answer_always : (bases : List BasisId) (needs : List Need) (combo : Result Combination ComboFault) (result : Result Expansion Refusal)
    → All HasRoom needs → TestsRoom needs combo → IsAnswerOver bases combo result → Tests [] result
answer_always bases needs (Ok c) result room tests e = subst (Tests []) (sym e) (λ k d lt. absurd (omega arith))
answer_always bases needs (Err (fault_too_large told)) result room tests e = absurd (no_first needs told room tests)
answer_always bases needs (Err fault_memory) result room tests e = subst (Tests []) (sym e) (inl refl)
