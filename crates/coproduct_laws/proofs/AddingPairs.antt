-- How the pairs of a coproduct rule are added, one by one.
use Rattle.std.proofs.Common.{◌≡◌, List, [], ◌∷◌, ◌++◌, map, arith, ◌⊎◌, inl, inr}
use Rattle.std.proofs.Math.IntN.{ℤ, pos, ◌+ℤ◌}
use Rattle.std.proofs.lemmas.Int.{ints}
use Rattle.realisations.specs.Codes.{Code, Key}
use Rattle.realisations.specs.Combinations.{HasKey, AddsTerm}
use Rattle.realisations.specs.Lists.{int_sum}
use Rattle.realisations.specs.Readings.{Terms}
use Rattle.coproduct_laws.specs.AddedPairs.{IsPairOf, AddsPairs}

-- no pair was added
pub adds_none : (ts : Terms) → AddsPairs ts ts []
adds_none ts = record { weighs = λ weight. omega (arith, ints); keys = λ key h. inl h }

-- a sum over pairs and one more
int_sum-push : (weight : Key → ℤ) (pairs : List (Code × Code)) (e : Code × Code)
    → int_sum (map (λ e. weight (e.0 ∷ e.1 ∷ [])) (pairs ++ e ∷ [])) ≡ int_sum (map (λ e. weight (e.0 ∷ e.1 ∷ [])) pairs) +ℤ weight (e.0 ∷ e.1 ∷ [])
int_sum-push weight [] e = omega (arith, ints)
int_sum-push weight (d ∷ pairs) e = omega (arith, ints, int_sum-push weight pairs e)

-- a pair, and the one behind the others
pair_left : (key : Key) (pairs : List (Code × Code)) (e : Code × Code) → IsPairOf pairs key → IsPairOf (pairs ++ e ∷ []) key
pair_left key [] e h = absurd h
pair_left key (d ∷ pairs) e (inl h) = inl h
pair_left key (d ∷ pairs) e (inr h) = inr (pair_left key pairs e h)

pair_last : (key : Key) (pairs : List (Code × Code)) (e : Code × Code) → key ≡ e.0 ∷ e.1 ∷ [] → IsPairOf (pairs ++ e ∷ []) key
pair_last key [] e h = inl h
pair_last key (d ∷ pairs) e h = inr (pair_last key pairs e h)

-- pairs were added, and then one more, as a term with coefficient 1
pub adds_next : (old mid new : Terms) (pairs : List (Code × Code)) (e : Code × Code) → AddsPairs old mid pairs → AddsTerm mid new (pos 1) (e.0 ∷ e.1 ∷ []) → AddsPairs old new (pairs ++ e ∷ [])
adds_next old mid new pairs e a b = record {
  weighs = λ weight. omega (arith, ints, a.weighs weight, b.weighs weight, int_sum-push weight pairs e);
  keys = λ key h. last key (b.keys key h);
}
  where
    earlier : (key : Key) → HasKey old key ⊎ IsPairOf pairs key → HasKey old key ⊎ IsPairOf (pairs ++ e ∷ []) key
    earlier key (inl h) = inl h
    earlier key (inr h) = inr (pair_left key pairs e h)

    last : (key : Key) → HasKey mid key ⊎ (key ≡ e.0 ∷ e.1 ∷ []) → HasKey old key ⊎ IsPairOf (pairs ++ e ∷ []) key
    last key (inl h) = earlier key (a.keys key h)
    last key (inr h) = inr (pair_last key pairs e h)
