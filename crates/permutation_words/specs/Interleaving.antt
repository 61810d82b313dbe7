-- Nothing here need be believed: how one word is put into another, letter by letter. The public contracts speak of the shuffles alone.
use Rattle.std.specs.Prelude.{◌≡◌, ℕ, ◌+◌, ◌≤◌, List, [], ◌∷◌, insert, length, slice_index, EachIndex}
use Rattle.linear_combos.specs.Codes.{IsCode}

-- the letters of a put into a word, each at its place, from the first on
abbrev pub put_in : List ℕ → List ℕ → List ℕ → List ℕ
put_in [] a word = word
put_in (d ∷ ds) [] word = word
put_in (d ∷ ds) (x ∷ a) word = put_in ds a (insert word d x)

-- places of a code's letters, each within the code that is there when its letter is put in
pub record TakesLettersAt (places a b : List ℕ) : Type 0 where
  pub all : length places ≡ length a
  pub within : EachIndex places (λ i. slice_index places i ≤ length b + i)
  pub room : length a + length b ≤ 15
  pub first : IsCode a
  pub second : IsCode b
