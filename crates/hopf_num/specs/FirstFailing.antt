-- The first of a list that fails.
use Rattle.std.specs.Prelude.{◌≡◌, ◌⊎◌, List, [], ◌∷◌}

-- it is what is told of the first of these that does not pass
abbrev pub IsFirstThatFails : {X Y : Type 0} → (X → Type 0) → (X → Y) → List X → Y → Type 0
IsFirstThatFails Passes told_of [] told = ⊥
IsFirstThatFails Passes told_of (x ∷ xs) told = ((told ≡ told_of x) × (Passes x → ⊥)) ⊎ (Passes x × IsFirstThatFails Passes told_of xs told)
