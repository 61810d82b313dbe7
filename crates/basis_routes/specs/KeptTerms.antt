-- Nothing here need be believed: the terms whose code at a component is empty, one by one, for the contracts of private functions.
use Rattle.std.specs.Prelude.{◌≡◌, ℕ, ◌+◌, ◌≤◌, ℤ, pos, ◌*ℤ◌, [], ◌∷◌, take, length, if◌then◌else◌}
use Rattle.change_laws.specs.Lifts.{code_at, replaced}
use Rattle.realisations.specs.Codes.{Key}
use Rattle.realisations.specs.Combinations.{Combination, IsCanonical, HasKey, norm_of, weighed}
use Rattle.realisations.specs.Lists.{same_list}
use Rattle.realisations.specs.Readings.{Terms}

-- the key without its code n, where that is empty
abbrev pub kept_terms : ℕ → Key → Terms
kept_terms n key = if same_list (code_at n key) [] then (pos 1, replaced n [] key) ∷ [] else []

-- the key is an old one with an empty code n, without it
pub record IsKeptKey (n : ℕ) (old : Terms) (new : Key) : Type 0 where
  pub key : Key
  pub has : HasKey old key
  pub empty : code_at n key ≡ []
  pub is : new ≡ replaced n [] key

-- what is left of the first i terms was gathered, over 1
pub record AreKept (n : ℕ) (old : Combination) (i : ℕ) (new : Combination) : Type 0 where
  pub rank : new.rank + 1 ≡ old.rank
  pub whole : new.den ≡ 1
  pub weighs : (weight : Key → ℤ) → weighed weight new.terms ≡ weighed (λ key. weighed weight (kept_terms n key)) (take i old.terms)
  pub norm : norm_of new.terms ≤ norm_of (take i old.terms)
  pub keys : (key : Key) → HasKey new.terms key → IsKeptKey n old.terms key

-- what is left of all terms
pub record IsKeptWhole (n : ℕ) (old new : Combination) : Type 0 where
  pub canonical : IsCanonical new.rank new.den new.terms
  pub all : AreKept n old (length old.terms) new

-- what is left of all terms, over their denominator, in lowest terms
pub record IsKept (n : ℕ) (old new : Combination) : Type 0 where
  pub canonical : IsCanonical new.rank new.den new.terms
  pub rank : new.rank + 1 ≡ old.rank
  pub weighs : (weight : Key → ℤ) → weighed weight new.terms *ℤ pos old.den ≡ weighed (λ key. weighed weight (kept_terms n key)) old.terms *ℤ pos new.den
  pub keys : (key : Key) → HasKey new.terms key → IsKeptKey n old.terms key
