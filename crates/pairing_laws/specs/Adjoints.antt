-- Adjointness of product and coproduct under a pairing.
use Rattle.std.specs.Prelude.{◌≡◌, ℕ, IsTrue, [], ◌∷◌}
use Rattle.basis_names.specs.Bases.{algebra_of}
use Rattle.basis_names.specs.declared.bases.BasisId.{BasisId}
use Rattle.realisations.specs.Bases.{kind_of}
use Rattle.realisations.specs.Descents.{descent_composition}
use Rattle.realisations.specs.Exponents.{without_zeros}
use Rattle.realisations.specs.Points.{exponents, word, Points, ArePoints}
use Rattle.realisations.specs.Readings.{Terms, Reading, leaf, applied, coproduct, product, tensor, pairing, kinds_of, numerator, AgreeAt}
use Rattle.realisations.specs.Standardisation.{standardise}
use Rattle.pairing_laws.specs.PairedAlgebras.{is_paired}
use Rattle.pairing_laws.specs.Sight.{Sees, IsUpTo, AreUpTo}

-- at sizes up to n, the product of two readings is paired with a third one as both are, the first with the first and the second with the second component, with its coproduct
abbrev pub AreAdjoint : ℕ → Reading → Reading → Reading → Type 0
AreAdjoint n a b c = numerator (pairing n (product a b) c) [] ≡ numerator (pairing n (tensor a b) (applied coproduct 0 c)) []

-- readings of words that see standardisations (Malvenuto, Reutenauer 1995); those that see descents, with readings of exponents, and readings of exponents that do not see zeros, with those that see descents (Gelfand, Krob, Lascoux, Leclerc, Retakh, Thibon 1995)
pub record AdjointnessLaw : Type 0 where
  pub words : (n : ℕ) (a b c : Reading) → Sees word (λ w. standardise w) a → Sees word (λ w. standardise w) b → IsUpTo n word c → AreAdjoint n a b c
  pub words_with_exponents : (n : ℕ) (a b c : Reading) → Sees word (λ w. descent_composition w) a → Sees word (λ w. descent_composition w) b → IsUpTo n exponents c → AreAdjoint n a b c
  pub exponents_with_words : (n : ℕ) (a b c : Reading) → Sees exponents (λ p. without_zeros p) a → Sees exponents (λ p. without_zeros p) b →
      Sees word (λ w. descent_composition w) c → IsUpTo n word c → AreAdjoint n a b c

-- combinations of rank 1 over three bases, the first two read at points of one kind, and each of their algebras paired with that of the third, whose terms have degrees up to n
pub record ArePaired (n : ℕ) (left right basis : BasisId) (ts : Terms) : Type 0 where
  pub kinds : kind_of left ≡ kind_of right
  pub first : IsTrue (is_paired (algebra_of left) (algebra_of basis))
  pub second : IsTrue (is_paired (algebra_of right) (algebra_of basis))
  pub degrees : AreUpTo n basis ts

-- the product of such combinations and the coproduct of the third are adjoint: as readings; where a reading is the product at all points; and where one is the coproduct at all pairs of points
pub record CombinationsLaw : Type 0 where
  pub readings : (n : ℕ) (left right basis : BasisId) (d e f : ℕ) (ts us vs : Terms) → ArePaired n left right basis vs →
      AreAdjoint n (leaf (left ∷ []) d ts) (leaf (right ∷ []) e us) (leaf (basis ∷ []) f vs)
  pub products : (n : ℕ) (left right basis : BasisId) (d e f : ℕ) (ts us vs : Terms) → ArePaired n left right basis vs →
      (a : Reading) → kinds_of a ≡ kind_of left ∷ [] →
      ((ps : Points) → ArePoints (kinds_of a) ps → AgreeAt a (product (leaf (left ∷ []) d ts) (leaf (right ∷ []) e us)) ps) →
      AgreeAt (pairing n a (leaf (basis ∷ []) f vs)) (pairing n (tensor (leaf (left ∷ []) d ts) (leaf (right ∷ []) e us)) (applied coproduct 0 (leaf (basis ∷ []) f vs))) []
  pub coproducts : (n : ℕ) (left right basis : BasisId) (d e f : ℕ) (ts us vs : Terms) → ArePaired n left right basis vs →
      (c : Reading) → kinds_of c ≡ kind_of basis ∷ kind_of basis ∷ [] →
      ((ps : Points) → ArePoints (kinds_of c) ps → AgreeAt c (applied coproduct 0 (leaf (basis ∷ []) f vs)) ps) →
      AgreeAt (pairing n (tensor (leaf (left ∷ []) d ts) (leaf (right ∷ []) e us)) c) (pairing n (product (leaf (left ∷ []) d ts) (leaf (right ∷ []) e us)) (leaf (basis ∷ []) f vs)) []
