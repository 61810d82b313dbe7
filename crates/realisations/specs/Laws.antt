-- Laws of combinations and their readings. Public functions with empty bodies ensure them (`src/laws.rt`).
use Rattle.std.specs.Prelude.{◌≡◌, ℕ, zero, suc, ℤ, ◌+ℤ◌, ◌*ℤ◌, List, [], ◌∷◌, length, map}
use Rattle.std.specs.List.{AllByRecursion, sum}
use Rattle.realisations.specs.Codes.{Key}
use Rattle.realisations.specs.Descents.{descents, descent_composition, descent_set}
use Rattle.basis_names.specs.declared.bases.BasisId.{BasisId}
use Rattle.realisations.specs.Bases.{kind_of}
use Rattle.realisations.specs.Points.{Kind, ArePoints, patterns, Points}
use Rattle.realisations.specs.Pairings.{paired_tuples}
use Rattle.realisations.specs.Readings.{Terms, Operation, mult, leaf, applied, product, numerator, of_key, all_cuts, kinds_after_at, reads_at}
use Rattle.realisations.specs.Combinations.{AddsTerm, weighed}

-- the descent composition of a word is the composition of its length whose proper partial sums are the places of its descents
abbrev pub DescentLaw : Type 0
DescentLaw = (w : List ℕ) → (sum (descent_composition w) ≡ length w) × (descent_set (descent_composition w) ≡ descents w)

-- the reading of a combination at points is that at their patterns
abbrev pub PatternLaw : Type 0
PatternLaw = (bases : List BasisId) (den : ℕ) (ts : Terms) (ps : Points) →
    numerator (leaf bases den ts) ps ≡ numerator (leaf bases den ts) (patterns (map kind_of bases) ps)

-- a combination reads as the sum of its numerators, each times the reading of its key
abbrev pub LinearityLaw : Type 0
LinearityLaw = (bases : List BasisId) (den : ℕ) (ts : Terms) (ps : Points) →
    numerator (leaf bases den ts) ps ≡ weighed (λ key. numerator (of_key bases key) ps) ts

-- an operation on a component is linear in the terms of a combination
abbrev pub OperationLaw : Type 0
OperationLaw = (operation : Operation) (n : ℕ) (bases : List BasisId) (den : ℕ) (ts : Terms) (ps : Points) →
    numerator (applied operation n (leaf bases den ts)) ps ≡ weighed (λ key. numerator (applied operation n (of_key bases key)) ps) ts

-- terms to which a numerator times a key was added, like terms gathered, read as before and that numerator times the reading of the key
abbrev pub GatheringLaw : Type 0
GatheringLaw = (bases : List BasisId) (den : ℕ) (old new : Terms) (num : ℤ) (key : Key) (ps : Points) →
    AddsTerm old new num key →
    numerator (leaf bases den new) ps ≡ numerator (leaf bases den old) ps +ℤ (num *ℤ numerator (of_key bases key) ps)

-- the product of two combinations reads as the sum over their pairs of terms of both numerators, times the reading of the product of their keys
abbrev pub BilinearityLaw : Type 0
BilinearityLaw = (bases : List BasisId) (d e : ℕ) (ts us : Terms) (ps : Points) →
    numerator (product (leaf bases d ts) (leaf bases e us)) ps
    ≡ weighed (λ key. weighed (λ key'. numerator (product (of_key bases key) (of_key bases key')) ps) us) ts

-- the component, counted from 0, has a next one, and both are of the same kind
abbrev pub IsDoubled : ℕ → List Kind → Type 0
IsDoubled n [] = ⊥
IsDoubled zero (kind ∷ []) = ⊥
IsDoubled zero (kind ∷ next ∷ kinds) = kind ≡ next
IsDoubled (suc n) (kind ∷ kinds) = IsDoubled n kinds

-- at points, products read their factors at points, and operations their operand; so do pairings. Of these the product of two components is one of the same kind
pub record PointsLaw : Type 0 where
  pub products : (kinds : List Kind) (ps : Points) → ArePoints kinds ps → AllByRecursion (λ c. ArePoints kinds c.0 × ArePoints kinds c.1) (all_cuts kinds ps)
  pub operations : (operation : Operation) (n : ℕ) (kinds : List Kind) (ps : Points) → (operation ≡ mult → IsDoubled n kinds) →
      ArePoints (kinds_after_at n operation kinds) ps → AllByRecursion (λ r. ArePoints kinds r.1) (reads_at n operation kinds ps)
  pub pairings : (n : ℕ) (kinds kinds' : List Kind) → AllByRecursion (λ t. ArePoints kinds t.1 × ArePoints kinds' t.2) (paired_tuples n kinds kinds')
