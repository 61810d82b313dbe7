-- Laws of coproducts and counits. Public functions with empty bodies ensure them (`src/laws.rt`).
use Rattle.std.specs.Prelude.{◌≡◌, suc, ◌*◌, ◌^◌, ◌≤◌, List, [], ◌∷◌, map, length}
use Rattle.std.specs.List.{sum}
use Rattle.basis_names.specs.declared.bases.BasisId.{BasisId}
use Rattle.basis_names.specs.declared.bases.BasisId.TheVariants.{FqsymF, QsymF, NcsfS, NcsfL, NcsfR, PbtP}
use Rattle.realisations.specs.Bases.{kind_of}
use Rattle.realisations.specs.Codes.{Code}
use Rattle.realisations.specs.IndexKinds.{IsComposition}
use Rattle.realisations.specs.Indices.{IsIndex}
use Rattle.realisations.specs.Lists.{int_sum}
use Rattle.realisations.specs.Points.{Kind, word, Point, IsPoint}
use Rattle.realisations.specs.Readings.{Reading, applied, coproduct, mult, product, tensor, element, of_key, kinds_of, numerator, AgreeAt}
use Rattle.realisations.specs.Trees.{Tree, tree_code}
use Rattle.realisations.specs.Words.{word_cuts}
use Rattle.coproduct_laws.specs.Coproducts.{IsCoproductRule}
use Rattle.coproduct_rules.specs.Counits.{counit_terms, IsCounit}
use Rattle.coproduct_rules.specs.DegreeCuts.{degree_cuts}
use Rattle.coproduct_rules.specs.PartCuts.{part_cuts}
use Rattle.coproduct_rules.specs.PlaceCuts.{place_cuts}
use Rattle.coproduct_rules.specs.RibbonCuts.{ribbon_cuts}
use Rattle.coproduct_rules.specs.UpperParts.{upper_parts, product_of_trees, AreProducts, upper_cuts}

-- QSym.F of a composition: for each degree the one cut of the composition there, of a part in two or between parts (Gessel 1984)
abbrev pub FundamentalCoproductLaw : Type 0
FundamentalCoproductLaw = (parts : Code) → IsIndex QsymF parts → IsCoproductRule QsymF parts (degree_cuts parts)

-- NCSF.S of a composition: each part is cut into two numbers in all ways (Gelfand, Krob, Lascoux, Leclerc, Retakh, Thibon 1995)
abbrev pub CompleteCoproductLaw : Type 0
CompleteCoproductLaw = (parts : Code) → IsIndex NcsfS parts → IsCoproductRule NcsfS parts (part_cuts parts)

-- NCSF.L of a composition: the same
abbrev pub ElementaryCoproductLaw : Type 0
ElementaryCoproductLaw = (parts : Code) → IsIndex NcsfL parts → IsCoproductRule NcsfL parts (part_cuts parts)

-- NCSF.R of a composition: all pairs of compositions, each as often as a shuffle of words with these descent compositions has the composition (Malvenuto, Reutenauer 1995)
abbrev pub RibbonCoproductLaw : Type 0
RibbonCoproductLaw = (parts : Code) → IsIndex NcsfR parts → IsCoproductRule NcsfR parts (ribbon_cuts parts)

-- FQSym.F of a permutation: for each cut the standardisations of both words (Malvenuto, Reutenauer 1995)
abbrev pub PlaceCoproductLaw : Type 0
PlaceCoproductLaw = (s : Code) → IsIndex FqsymF s → IsCoproductRule FqsymF s (place_cuts s)

-- PBT.P of a tree, as readings: over the upper parts of the tree, the product of the elements of the subtrees that hang below, tensor the element of the part (Loday, Ronco 1998; Hivert, Novelli, Thibon 2005)
abbrev pub UpperPartsLaw : Type 0
UpperPartsLaw = (tree : Tree) (u v : Point) → IsPoint word v →
    numerator (applied coproduct 0 (element PbtP (tree_code tree))) (u ∷ v ∷ [])
    ≡ int_sum (map (λ e. numerator (tensor (product_of_trees e.0) (element PbtP (tree_code e.1))) (u ∷ v ∷ [])) (upper_parts tree))

-- and by indices: the same, with any codes that read as the products
abbrev pub TreeCoproductLaw : Type 0
TreeCoproductLaw = (products : List Tree → List Code) → AreProducts products → (tree : Tree) → IsCoproductRule PbtP (tree_code tree) (upper_cuts products tree)

-- of a composition of n the rule of QSym.M lists at most n + 1 pairs, that of QSym.F n + 1, that of NCSF.S and NCSF.L at most 2^n, and that of NCSF.R at most 2^(2n)
pub record FewPairsLaw : Type 0 where
  pub monomial : (parts : Code) → IsComposition parts → length (word_cuts parts) ≤ suc (sum parts)
  pub fundamental : (parts : Code) → length (degree_cuts parts) ≡ suc (sum parts)
  pub multiplicative : (parts : Code) → length (part_cuts parts) ≤ 2 ^ sum parts
  pub ribbon : (parts : Code) → length (ribbon_cuts parts) ≤ 2 ^ (2 * sum parts)

-- the counit of each basis is 1 at the empty index, and 0 at every other
abbrev pub CounitLaw : Type 0
CounitLaw = (basis : BasisId) (code : Code) → IsIndex basis code → IsCounit basis code (counit_terms code)

-- the product of both components of a tensor is the product: of any two readings of one component, and of two elements of a basis
pub record MultLaw : Type 0 where
  pub tensors : (a b : Reading) (kind : Kind) → kinds_of a ≡ kind ∷ [] → (p : Point) → AgreeAt (applied mult 0 (tensor a b)) (product a b) (p ∷ [])
  pub elements : (basis : BasisId) (a b : Code) (p : Point) → AgreeAt (applied mult 0 (of_key (basis ∷ basis ∷ []) (a ∷ b ∷ []))) (product (element basis a) (element basis b)) (p ∷ [])

-- the coproduct of the product of two elements is the product of their coproducts, in every basis, at all pairs of points
abbrev pub CompatibilityLaw : Type 0
CompatibilityLaw = (basis : BasisId) (a b : Code) (u v : Point) → IsPoint (kind_of basis) u → IsPoint (kind_of basis) v →
    AgreeAt (applied coproduct 0 (product (element basis a) (element basis b))) (product (applied coproduct 0 (element basis a)) (applied coproduct 0 (element basis b))) (u ∷ v ∷ [])
