-- Nothing here need be believed: how the code multiplies the images of parts. The public contracts speak of commuting images alone.
use Rattle.std.specs.Prelude.{◌≡◌, ℕ, [], ◌∷◌, ◌++◌}
use Rattle.basis_names.specs.declared.bases.BasisId.{BasisId}
use Rattle.basis_names.specs.declared.bases.BasisId.TheVariants.{QsymM}
use Rattle.index_rules.specs.Laws.{HasAnswers}
use Rattle.index_rules.specs.Spaces.{limit_for}
use Rattle.linear_combos.specs.Combos.{IsSumOfTerms}
use Rattle.product_laws.specs.Products.{IsProduct, terms_of_codes}
use Rattle.realisations.specs.Answers.{IsAnswer}
use Rattle.realisations.specs.Bases.{index_kind_of, kind_of}
use Rattle.realisations.specs.Codes.{Code, Key}
use Rattle.realisations.specs.Combinations.{Combination, HasKey, IsCanonical}
use Rattle.realisations.specs.IndexKinds.{by_composition}
use Rattle.realisations.specs.Indices.{AreIndices, total_degree}
use Rattle.realisations.specs.Points.{ArePoints, Points, exponents, word}
use Rattle.realisations.specs.Readings.{AgreeAt, Reading, applied, commute, element, leaf}
use Rattle.commuting_images.specs.Images.{image_facts}

-- an answer over M, but for its norm
pub record IsOfAnyNorm (n : ℕ) (reading : Reading) (c : Combination) : Type 0 where
  pub canonical : IsCanonical c.rank c.den c.terms
  pub rank : c.rank ≡ 1
  pub whole : c.den ≡ 1
  pub indices : (key : Key) → HasKey c.terms key → AreIndices (QsymM ∷ []) key
  pub degrees : (key : Key) → HasKey c.terms key → total_degree (QsymM ∷ []) key ≡ n
  pub reads : (ps : Points) → ArePoints (exponents ∷ []) ps → AgreeAt (leaf (QsymM ∷ []) 1 c.terms) reading ps

-- the commuting image of an index
abbrev pub image_of : BasisId → Code → Reading
image_of basis code = applied commute 0 (element basis code)

-- a basis of words that is indexed by compositions and multiplies by putting one after the other; its elements have images, that of the empty composition is M of it
pub record IsMultiplicative (basis : BasisId) : Type 0 where
  pub words : kind_of basis ≡ word
  pub composed : index_kind_of basis ≡ by_composition
  pub limit : limit_for basis ≡ 10
  pub products : (i j : Code) → IsProduct basis i j ((i ++ j) ∷ [])
  pub nothing : (c : Combination) → IsSumOfTerms 1 (terms_of_codes ([] ∷ [])) c → IsAnswer (QsymM ∷ []) 0 (image_of basis []) c
  pub images : HasAnswers (image_facts basis 5)
