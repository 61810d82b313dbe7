-- Nothing here need be believed: the tableaux of a product as a part of all tableaux of its degree, for the contracts of private functions.
use Rattle.std.specs.Prelude.{◌≡◌, ◌+◌, ◌≤◌, Bool, List, length, take}
use Rattle.std.specs.List.{filter}
use Rattle.linear_combos.specs.CodeLists.{ListsIndices}
use Rattle.product_laws.specs.Classes.{splits_into}
use Rattle.product_laws.specs.TableauCuts.{back_tableau}
use Rattle.realisations.specs.Codes.{Code}
use Rattle.realisations.specs.IndexKinds.{IsTableauCode, by_tableau}

-- the code of a standard tableau whose size is that of two others together, at most 12
pub record IsOfBoth (left right code : Code) : Type 0 where
  pub tableau : IsTableauCode code
  pub size : length code ≡ length left + length right
  pub small : length code ≤ 12

-- whether the front and the back of a tableau are two others
abbrev pub has_factors : Code → Code → Code → Bool
has_factors left right code = splits_into (λ n c. take n c) (λ n c. back_tableau n c) (length left) left right code

-- those with the two factors of a list of all tableaux of their size
pub record AreProducts (left right : Code) (codes : List Code) : Type 0 where
  pub all : List Code
  pub lists : ListsIndices by_tableau (length left + length right) all
  pub is : codes ≡ filter (λ code. has_factors left right code) all
