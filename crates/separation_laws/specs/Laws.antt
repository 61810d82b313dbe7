-- Laws of separation, conversion and equality. Public functions with empty bodies ensure them (`src/laws.rt`).
use Rattle.std.specs.Prelude.{◌≡◌, ℕ, ◌*◌, ◌^◌, ◌<◌, ◌≤◌, ◌⊎◌, ◌↔◌, IsTrue, List, length, map, set}
use Rattle.basis_names.specs.Bases.{algebra_of}
use Rattle.basis_names.specs.declared.bases.AlgebraId.{AlgebraId}
use Rattle.basis_names.specs.declared.bases.BasisId.{BasisId}
use Rattle.realisations.specs.Bases.{has_words, kind_of, lies_in}
use Rattle.realisations.specs.Combinations.{Combination, norm_of}
use Rattle.realisations.specs.Points.{Point, Points, word, ArePoints}
use Rattle.realisations.specs.Readings.{Terms, Reading, leaf, kinds_of, denominator, AgreeAt}
use Rattle.separation_laws.specs.Classes.{class_basis, class_for, index_of_word, is_class_basis, IsClassBasis}
use Rattle.separation_laws.specs.Conversions.{basis_at, HasWordComponent, LiesOver, Expresses, IsConversion}
use Rattle.separation_laws.specs.Separation.{IsSeparatingPair, HasNoPair}

-- each algebra of words has its class basis; so has each class basis the indices of words; and the class for an algebra determines that for each algebra of words that lies in it
pub record ClassBasisLaw : Type 0 where
  pub algebras : (target : AlgebraId) → IsTrue (has_words target) → IsClassBasis (class_basis target) (class_for target)
  pub bases : (basis : BasisId) → IsTrue (is_class_basis basis) → IsClassBasis basis (index_of_word basis)
  pub indices : (basis : BasisId) → IsTrue (is_class_basis basis) → (u v : Point) → (index_of_word basis u ≡ index_of_word basis v) ↔ (class_for (algebra_of basis) u ≡ class_for (algebra_of basis) v)
  pub coarser : (target fine : AlgebraId) → IsTrue (has_words target) → IsTrue (lies_in target fine) → (u v : Point) → class_for fine u ≡ class_for fine v → class_for target u ≡ class_for target v

-- a separating pair is absent exactly where the component lies in the algebra: where, with its class basis in the place of the component's, some terms read as the leaf does; and up to degree 32, which is past all limits of algebras, equally with any other basis of the algebra
pub record SeparationLaw : Type 0 where
  pub over_classes : (target : AlgebraId) → IsTrue (has_words target) → (bases : List BasisId) (n d den : ℕ) (ts : Terms) → HasWordComponent bases n d ts → 1 ≤ den →
      HasNoPair (leaf bases den ts) n target ↔ LiesOver (class_basis target) bases n (leaf bases den ts)
  pub over_any : (to : BasisId) → kind_of to ≡ word → (bases : List BasisId) (n d den : ℕ) (ts : Terms) → HasWordComponent bases n d ts → 1 ≤ den → d ≤ 32 →
      HasNoPair (leaf bases den ts) n (algebra_of to) ↔ LiesOver to bases n (leaf bases den ts)

-- there is a separating pair, or there is none; and of any reading there is at most one
pub record PairLaw : Type 0 where
  pub decided : (target : AlgebraId) → IsTrue (has_words target) → (bases : List BasisId) (n d den : ℕ) (ts : Terms) → HasWordComponent bases n d ts →
      ((u v : Point) × IsSeparatingPair (leaf bases den ts) n target u v) ⊎ HasNoPair (leaf bases den ts) n target
  pub unique : (a : Reading) (n : ℕ) (target : AlgebraId) (u v u' v' : Point) → IsSeparatingPair a n target u v → IsSeparatingPair a n target u' v' → (u ≡ u') × (v ≡ v')

-- the linear rule of room, for a norm m, a denominator and keys of degree at most d, up to 32
pub record HasLinearRoom (d den m : ℕ) : Type 0 where
  pub positive : 1 ≤ den
  pub small : den < 2 ^ 127
  pub degree : d ≤ 32
  pub norm : m * 2 ^ (5 * d) < 2 ^ 127

-- where there is no separating pair and the linear rule holds, there is a canonical combination, over any basis of the algebra in the place of the component's, that reads as the leaf does; of no larger degree and denominator, and of a norm within that of the rule
abbrev pub ConversionLaw : Type 0
ConversionLaw = (to : BasisId) → kind_of to ≡ word → (bases : List BasisId) (n d den : ℕ) (ts : Terms) → HasWordComponent bases n d ts → HasLinearRoom d den (norm_of ts) →
    HasNoPair (leaf bases den ts) n (algebra_of to) → (c : Combination) × IsConversion (set bases n to) d (norm_of ts * 2 ^ (5 * d)) den (leaf bases den ts) c

-- upwards there is none: a component whose algebra lies in another one has no separating pair for it
abbrev pub UpwardLaw : Type 0
UpwardLaw = (target : AlgebraId) (bases : List BasisId) (n d den : ℕ) (ts : Terms) → HasWordComponent bases n d ts →
    IsTrue (lies_in (algebra_of (basis_at bases n)) target) → HasNoPair (leaf bases den ts) n target

-- two readings at points of the same kinds, over positive denominators, that agree at all of them
pub record AgreeEverywhere (a b : Reading) : Type 0 where
  pub kinds : kinds_of a ≡ kinds_of b
  pub positive : 1 ≤ denominator a
  pub positive_other : 1 ≤ denominator b
  pub agree : (ps : Points) → ArePoints (kinds_of a) ps → AgreeAt a b ps

-- such readings have the same separating pairs, so that a combination has those of the reading that it expresses
abbrev pub SamePairLaw : Type 0
SamePairLaw = (a b : Reading) → AgreeEverywhere a b → (n : ℕ) → n < length (kinds_of a) → (target : AlgebraId) (u v : Point) → IsSeparatingPair a n target u v → IsSeparatingPair b n target u v

-- readings agree at all points exactly where the combinations that express them over one list of bases are the same
abbrev pub EqualityLaw : Type 0
EqualityLaw = (bases : List BasisId) (a b : Reading) (c d : Combination) → 1 ≤ denominator a → 1 ≤ denominator b → Expresses bases a c → Expresses bases b d →
    (c ≡ d) ↔ ((ps : Points) → ArePoints (map kind_of bases) ps → AgreeAt a b ps)

-- conversions one after another: what expresses a combination expresses what that expresses; there is at most one over given bases; and so each is within the bounds of any other
pub record RouteLaw : Type 0 where
  pub after : (bases bases' : List BasisId) (a : Reading) (c d : Combination) → map kind_of bases ≡ map kind_of bases' → Expresses bases a c → Expresses bases' (leaf bases c.den c.terms) d → Expresses bases' a d
  pub same : (bases : List BasisId) (a : Reading) (c d : Combination) → 1 ≤ denominator a → Expresses bases a c → Expresses bases a d → c ≡ d
  pub within : (bases : List BasisId) (d m e : ℕ) (a : Reading) (c c' : Combination) → 1 ≤ denominator a → IsConversion bases d m e a c → Expresses bases a c' → IsConversion bases d m e a c'
