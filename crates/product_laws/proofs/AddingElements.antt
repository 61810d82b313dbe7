-- How the elements of a product rule are added, one by one, or one list after another.
use Rattle.std.proofs.Common.{◌≡◌, List, [], ◌∷◌, ◌++◌, map, arith, ◌⊎◌, inl, inr}
use Rattle.std.proofs.Math.IntN.{ℤ, pos, ◌+ℤ◌}
use Rattle.std.proofs.lemmas.Int.{ints}
use Rattle.realisations.specs.Codes.{Code, Key}
use Rattle.realisations.specs.Combinations.{HasKey, AddsTerm}
use Rattle.realisations.specs.Lists.{int_sum}
use Rattle.realisations.specs.Readings.{Terms}
use Rattle.product_laws.specs.AddedElements.{IsCodeOf, AddsElements}
use Rattle.product_laws.specs.Laws.{AddingLaw}

-- no element was added
pub adds_none : (ts : Terms) → AddsElements ts ts []
adds_none ts = record { weighs = λ weight. omega (arith, ints); keys = λ key h. inl h }

-- one element was added, as a term with coefficient 1
pub adds_one : (old new : Terms) (code : Code) → AddsTerm old new (pos 1) (code ∷ []) → AddsElements old new (code ∷ [])
adds_one old new code h = record {
  weighs = λ weight. omega (arith, ints, h.weighs weight);
  keys = λ key has. here key (h.keys key has);
}
  where
    here : (key : Key) → HasKey old key ⊎ (key ≡ code ∷ []) → HasKey old key ⊎ IsCodeOf (code ∷ []) key
    here key (inl before) = inl before
    here key (inr is) = inr (inl is)

-- a sum over two lists of codes
int_sum-append : (weight : Key → ℤ) (xs ys : List Code)
    → int_sum (map (λ code. weight (code ∷ [])) (xs ++ ys)) ≡ int_sum (map (λ code. weight (code ∷ [])) xs) +ℤ int_sum (map (λ code. weight (code ∷ [])) ys)
int_sum-append weight [] ys = omega (arith, ints)
int_sum-append weight (x ∷ xs) ys = omega (arith, ints, int_sum-append weight xs ys)

code_left : (key : Key) (xs ys : List Code) → IsCodeOf xs key → IsCodeOf (xs ++ ys) key
code_left key [] ys h = absurd h
code_left key (x ∷ xs) ys (inl h) = inl h
code_left key (x ∷ xs) ys (inr h) = inr (code_left key xs ys h)

code_right : (key : Key) (xs ys : List Code) → IsCodeOf ys key → IsCodeOf (xs ++ ys) key
code_right key [] ys h = h
code_right key (x ∷ xs) ys h = inr (code_right key xs ys h)

-- the elements of one list were added, and then those of another
pub adds_append : (old mid new : Terms) (xs ys : List Code) → AddsElements old mid xs → AddsElements mid new ys → AddsElements old new (xs ++ ys)
adds_append old mid new xs ys a b = record {
  weighs = λ weight. omega (arith, ints, a.weighs weight, b.weighs weight, int_sum-append weight xs ys);
  keys = λ key h. later key (b.keys key h);
}
  where
    earlier : (key : Key) → HasKey old key ⊎ IsCodeOf xs key → HasKey old key ⊎ IsCodeOf (xs ++ ys) key
    earlier key (inl h) = inl h
    earlier key (inr h) = inr (code_left key xs ys h)

    later : (key : Key) → HasKey mid key ⊎ IsCodeOf ys key → HasKey old key ⊎ IsCodeOf (xs ++ ys) key
    later key (inl h) = earlier key (a.keys key h)
    later key (inr h) = inr (code_right key xs ys h)

pub adding : AddingLaw
adding = record { none = adds_none; one = adds_one; append = adds_append }
