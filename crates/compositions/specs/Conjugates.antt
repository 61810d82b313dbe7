-- Conjugation of compositions.
use Rattle.std.specs.Prelude.{◌≡◌, ℕ, List, [], ◌∷◌, reverse, refl}
use Rattle.realisations.specs.Descents.{complement}

-- I~, the conjugate: the descent set complemented, and then the parts reversed; so the ribbon diagram is transposed (Gelfand, Krob, Lascoux, Leclerc, Retakh, Thibon 1995)
abbrev pub conjugate : List ℕ → List ℕ
conjugate parts = reverse (complement parts)

-- the descent set of 3,1 is 3; the composition of 4 with the descents 1 and 2 is 1,1,2
pub conjugate-31 : conjugate (3 ∷ 1 ∷ []) ≡ 2 ∷ 1 ∷ 1 ∷ []
conjugate-31 = refl
