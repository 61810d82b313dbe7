-- Laws of pairings as forms on readings. Public functions with empty bodies ensure them (`src/laws.rt`), those of `Adjoints`, and those of `Duals`.
use Rattle.std.specs.Prelude.{◌≡◌, ℕ, ◌≤◌, List, [], ◌∷◌}
use Rattle.basis_names.specs.declared.bases.BasisId.{BasisId}
use Rattle.realisations.specs.Combinations.{weighed}
use Rattle.realisations.specs.Points.{Kind, Points, ArePoints}
use Rattle.realisations.specs.Readings.{Terms, Reading, leaf, pairing, kinds_of, numerator, of_key, AgreeAt}
use Rattle.pairing_laws.specs.Sight.{IsUpTo}

-- readings that agree at all points may take each other's place in a pairing: so conversions keep pairings
abbrev pub AgreementLaw : Type 0
AgreementLaw = (n : ℕ) (a a' b b' : Reading) → kinds_of a ≡ kinds_of a' → kinds_of b ≡ kinds_of b' →
    ((ps : Points) → ArePoints (kinds_of a) ps → AgreeAt a a' ps) → ((ps : Points) → ArePoints (kinds_of b) ps → AgreeAt b b' ps) →
    AgreeAt (pairing n a b) (pairing n a' b') []

-- pairings are symmetric, of readings of any components
abbrev pub SymmetryLaw : Type 0
SymmetryLaw = (n : ℕ) (a b : Reading) → numerator (pairing n a b) [] ≡ numerator (pairing n b a) []

-- pairings are bilinear in the terms of combinations: in those of the first, in those of the second, and in both
pub record BilinearityLaw : Type 0 where
  pub left : (n : ℕ) (bases : List BasisId) (den : ℕ) (ts : Terms) (b : Reading) →
      numerator (pairing n (leaf bases den ts) b) [] ≡ weighed (λ key. numerator (pairing n (of_key bases key) b) []) ts
  pub right : (n : ℕ) (a : Reading) (bases : List BasisId) (den : ℕ) (ts : Terms) →
      numerator (pairing n a (leaf bases den ts)) [] ≡ weighed (λ key. numerator (pairing n a (of_key bases key)) []) ts
  pub both : (n : ℕ) (bases bases' : List BasisId) (d e : ℕ) (ts us : Terms) →
      numerator (pairing n (leaf bases d ts) (leaf bases' e us)) [] ≡ weighed (λ key. weighed (λ key'. numerator (pairing n (of_key bases key) (of_key bases' key')) []) us) ts

-- sizes past the degrees of either reading add nothing
abbrev pub SizeLaw : Type 0
SizeLaw = (n m : ℕ) (kind kind' : Kind) (a b : Reading) → kinds_of a ≡ kind ∷ [] → IsUpTo n kind' b → n ≤ m →
    numerator (pairing m a b) [] ≡ numerator (pairing n a b) []
