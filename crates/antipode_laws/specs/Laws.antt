-- Laws of the antipode. Public functions with empty bodies ensure them (`src/laws.rt`).
use Rattle.std.specs.Prelude.{◌≡◌, ℕ, suc, List}
use Rattle.basis_names.specs.declared.bases.BasisId.{BasisId}
use Rattle.realisations.specs.Points.{Points}
use Rattle.realisations.specs.Readings.{Terms, Reading, leaf, applied, coproduct, antipode, mult, numerator}
use Rattle.antipode_laws.specs.Units.{unit_of_counit, IgnoresZerosAt}

-- the antipode is the inverse of the identity under convolution (Takeuchi 1971): once a component is doubled by the coproduct, the antipode on the first or on the second of both and then their product are the counit and then the unit;
-- in any component, at all tuples of points, for all readings that do not see zeros among its exponents, as those of all combinations
pub record AntipodeLaw : Type 0 where
  pub first : (n : ℕ) (a : Reading) → IgnoresZerosAt n a → (ps : Points) → numerator (applied mult n (applied antipode n (applied coproduct n a))) ps ≡ unit_of_counit n a ps
  pub second : (n : ℕ) (a : Reading) → IgnoresZerosAt n a → (ps : Points) → numerator (applied mult n (applied antipode (suc n) (applied coproduct n a))) ps ≡ unit_of_counit n a ps
  pub combinations : (n : ℕ) (bases : List BasisId) (den : ℕ) (ts : Terms) → IgnoresZerosAt n (leaf bases den ts)
