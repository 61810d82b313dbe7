-- Why a combination is not made or changed.
use Rattle.std.specs.Prelude.{◌≡◌, List, All, Result, MatchResult}
use Rattle.hopf_num.specs.declared.room.Need.{Need}
use Rattle.hopf_num.specs.Room.{HasRoom, IsFirstWithoutRoom}
use Rattle.linear_combos.specs.declared.combo.ComboFault.{ComboFault}
use Rattle.linear_combos.specs.declared.combo.ComboFault.TheVariants.{TooLarge, Memory}

-- a fault of a call with these needs: the first one without room, or want of memory, which comes only where all have room
abbrev pub IsFaultOf : List Need → ComboFault → Type 0
IsFaultOf needs (TooLarge told) = IsFirstWithoutRoom needs told
IsFaultOf needs Memory = All HasRoom needs

-- the call answers TooLarge exactly where one of its needs has no room, and tells the first such need
abbrev pub TestsRoom : {T : Type 0} → List Need → Result T ComboFault → Type 0
TestsRoom needs result = MatchResult result (λ _. All HasRoom needs) (IsFaultOf needs)

-- the test of one need answers TooLarge with it exactly where it has no room
abbrev pub IsTested : {T : Type 0} → Need → Result T ComboFault → Type 0
IsTested need result = MatchResult result (λ _. HasRoom need) (λ fault. (fault ≡ TooLarge need) × (HasRoom need → ⊥))
