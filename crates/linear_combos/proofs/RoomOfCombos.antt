-- The room of sums and products of combinations, tested need by need.
use Rattle.std.proofs.Common.{◌≡◌, List, ◌∷◌, Result, Ok, Err, inl, inr, refl, sym, subst}
use Rattle.std.proofs.lemmas.List.Elements.{All-cons}
use Rattle.hopf_num.specs.Room.{HasRoom}
use Rattle.hopf_num.specs.declared.room.Need.{Need}
use Rattle.linear_combos.specs.declared.combo.ComboFault.{ComboFault}
use Rattle.linear_combos.specs.declared.combo.ComboFault.TheVariants.{TooLarge, Memory}
use Rattle.linear_combos.specs.Faults.{IsFaultOf, TestsRoom}

-- a need without room, the first of several
pub fault_first : (need : Need) (needs : List Need) (fault : ComboFault) → (fault ≡ TooLarge need) × (HasRoom need → ⊥) → IsFaultOf (need ∷ needs) fault
fault_first need needs fault tested = subst (IsFaultOf (need ∷ needs)) (sym tested.0) (inl (refl, tested.1))

-- after a need with room the others decide
pub fault_later : (need : Need) (needs : List Need) (fault : ComboFault) → HasRoom need → IsFaultOf needs fault → IsFaultOf (need ∷ needs) fault
fault_later need needs (TooLarge told) room first = inr (room, first)
fault_later need needs Memory room all = All-cons HasRoom need needs room all

-- the same for a call that may succeed
pub tests_later : {T : Type 0} (need : Need) (needs : List Need) (result : Result T ComboFault) → HasRoom need → TestsRoom needs result → TestsRoom (need ∷ needs) result
tests_later need needs (Ok value) room all = All-cons HasRoom need needs room all
tests_later need needs (Err fault) room is = fault_later need needs fault room is
