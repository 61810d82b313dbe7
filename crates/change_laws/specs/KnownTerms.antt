-- Known terms of changes, and keys with codes in the place of one, by evaluation.
use Rattle.std.specs.Prelude.{◌≡◌, ◌-◌, length, pos, negsuc, [], ◌∷◌, refl}
use Rattle.change_laws.specs.Changes.{signed_terms}
use Rattle.change_laws.specs.Lifts.{replaced}

-- M of 2 is F of 2 without F of 11
pub monomial-2 : signed_terms (λ code. length code - 1) ((1 ∷ 1 ∷ []) ∷ (2 ∷ []) ∷ []) ≡ (negsuc 0, (1 ∷ 1 ∷ []) ∷ []) ∷ (pos 1, (2 ∷ []) ∷ []) ∷ []
monomial-2 = refl

-- two codes in the place of the second of three
pub replaced-second : replaced 1 ((1 ∷ []) ∷ (2 ∷ []) ∷ []) ((3 ∷ []) ∷ (4 ∷ []) ∷ (5 ∷ []) ∷ []) ≡ (3 ∷ []) ∷ (1 ∷ []) ∷ (2 ∷ []) ∷ (5 ∷ []) ∷ []
replaced-second = refl
