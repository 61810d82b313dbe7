-- Laws of products, by rules on indices. Public functions with empty bodies ensure them (`src/laws.rt`).
use Rattle.std.specs.Prelude.{◌≡◌, ℕ, pos, ◌+◌, ◌≤◌, List, [], ◌∷◌, ◌++◌, length, take, drop}
use Rattle.std.specs.List.{filter}
use Rattle.basis_names.specs.declared.bases.BasisId.{BasisId}
use Rattle.basis_names.specs.declared.bases.BasisId.TheVariants.{FqsymF, FqsymG, FsymS, NcsfL, NcsfR, NcsfS, PbtP, QsymF, QsymM, WqsymM}
use Rattle.realisations.specs.Answers.{IsAnswer}
use Rattle.realisations.specs.Bases.{index_kind_of}
use Rattle.realisations.specs.Codes.{Code}
use Rattle.realisations.specs.Combinations.{AddsTerm, Combination, IsCanonical, norm_of}
use Rattle.realisations.specs.Indices.{IsIndex, degree_of}
use Rattle.realisations.specs.Lists.{one_if}
use Rattle.realisations.specs.Points.{Point}
use Rattle.realisations.specs.Readings.{Terms, element, product}
use Rattle.realisations.specs.Standardisation.{inverse, pack, standardise}
use Rattle.realisations.specs.Tableaux.{recording_tableau, tableau_code}
use Rattle.realisations.specs.Trees.{Tree, decreasing_tree, tree_code, tree_size}
use Rattle.realisations.specs.Words.{shifted_shuffles}
use Rattle.coproduct_laws.specs.ValueCuts.{letters_past, letters_up_to, lower}
use Rattle.linear_combos.specs.CodeLists.{ListsEach, ListsIndices}
use Rattle.linear_combos.specs.Combos.{IsSumOfTerms}
use Rattle.word_laws.specs.AddedCodes.{times_in}
use Rattle.word_laws.specs.Merges.{IsConvolution, IsMerge}
use Rattle.product_laws.specs.AddedElements.{AddsElements}
use Rattle.product_laws.specs.Classes.{IsByClasses, splits_into}
use Rattle.product_laws.specs.FundamentalProducts.{fundamental_products}
use Rattle.product_laws.specs.Products.{IsProduct, IsProductRule, terms_of_codes}
use Rattle.product_laws.specs.Ribbons.{ribbon_products}
use Rattle.product_laws.specs.TableauCuts.{back_tableau, IsTableauProduct}
use Rattle.product_laws.specs.TreeCuts.{front_code, IsTreeProduct}
use Rattle.tree_laws.specs.TreeProducts.{IsInProduct, IsProductCode}

-- over a class basis of words, codes that hold each index once where its front and its back are those of two factors, and else not, read as the product
abbrev pub ClassLaw : Type 0
ClassLaw = (basis : BasisId) (class_of : Point → Code) (front back : ℕ → Code → Code) → IsByClasses basis class_of front back →
    (left right : Code) (codes : List Code) →
    ((code : Code) → IsIndex basis code → times_in code codes ≡ one_if (splits_into front back (degree_of basis left) left right code)) →
    IsProduct basis left right codes

-- five bases are by classes of words: G of permutations by standardisation, F by its inverse, M of packed words by packing, S of tableaux by recording tableau, P of trees by decreasing tree; with the fronts and backs of their indices
pub record ClassesLaw : Type 0 where
  pub standardisations : IsByClasses FqsymG (λ p. standardise p) (λ n s. standardise (take n s)) (λ n s. standardise (drop n s))
  pub inverses : IsByClasses FqsymF (λ p. inverse (standardise p)) (λ n s. letters_up_to n s) (λ n s. lower n (letters_past n s))
  pub packings : IsByClasses WqsymM (λ p. pack p) (λ n u. pack (take n u)) (λ n u. pack (drop n u))
  pub tableaux : IsByClasses FsymS (λ p. tableau_code (recording_tableau p)) (λ n code. take n code) (λ n code. back_tableau n code)
  pub trees : IsByClasses PbtP (λ p. tree_code (decreasing_tree p)) (λ n code. front_code n code) (λ n code. drop n code)

-- from all indices of the degree n of a product, each once in canonical order, n at most 32, those whose front and back are the factors are a rule
abbrev pub IsFilterRule : BasisId → (ℕ → Code → Code) → (ℕ → Code → Code) → Type 0
IsFilterRule basis front back = (left right : Code) (codes : List Code) → degree_of basis left + degree_of basis right ≤ 32 →
    ListsIndices (index_kind_of basis) (degree_of basis left + degree_of basis right) codes →
    IsProductRule basis left right (filter (λ code. splits_into front back (degree_of basis left) left right code) codes)

-- so it is over the five class bases of words
pub record FilterLaw : Type 0 where
  pub standardisations : IsFilterRule FqsymG (λ n s. standardise (take n s)) (λ n s. standardise (drop n s))
  pub inverses : IsFilterRule FqsymF (λ n s. letters_up_to n s) (λ n s. lower n (letters_past n s))
  pub packings : IsFilterRule WqsymM (λ n u. pack (take n u)) (λ n u. pack (drop n u))
  pub tableaux : IsFilterRule FsymS (λ n code. take n code) (λ n code. back_tableau n code)
  pub trees : IsFilterRule PbtP (λ n code. front_code n code) (λ n code. drop n code)

-- F of I times F of J is the sum of F of C(w) over the shuffles w of a word with descent composition I and one with descent composition J on higher letters (Gessel 1984)
abbrev pub FundamentalLaw : Type 0
FundamentalLaw = (i j : Code) → IsIndex QsymF i → IsIndex QsymF j → IsProductRule QsymF i j (fundamental_products i j)

-- R of I times R of J is R of I . J and R of I > J (Gelfand, Krob, Lascoux, Leclerc, Retakh, Thibon 1995)
abbrev pub RibbonLaw : Type 0
RibbonLaw = (i j : Code) → IsIndex NcsfR i → IsIndex NcsfR j → IsProductRule NcsfR i j (ribbon_products i j)

-- S of I times S of J is S of I . J, and so with L (the same)
pub record ConcatenationLaw : Type 0 where
  pub complete : (i j : Code) → IsIndex NcsfS i → IsIndex NcsfS j → IsProductRule NcsfS i j ((i ++ j) ∷ [])
  pub elementary : (i j : Code) → IsIndex NcsfL i → IsIndex NcsfL j → IsProductRule NcsfL i j ((i ++ j) ∷ [])

-- F of s times F of t is the sum of F over the shuffles of s with t raised by the size of s (Malvenuto, Reutenauer 1995)
abbrev pub ShuffleLaw : Type 0
ShuffleLaw = (s t : Code) → IsIndex FqsymF s → IsIndex FqsymF t → IsProductRule FqsymF s t (shifted_shuffles s t)

-- G of s times G of t is the sum of G over the convolutions of s and t, at most 32 letters together (Malvenuto, Reutenauer 1995; Duchamp, Hivert, Thibon 2002)
abbrev pub ConvolutionLaw : Type 0
ConvolutionLaw = (s t : Code) (codes : List Code) → length s + length t ≤ 32 → ListsEach (IsConvolution s t) codes → IsProductRule FqsymG s t codes

-- M of u times M of v is the sum of M over the merges of u and v, at most 32 letters together (Hivert 1999; Novelli, Thibon 2006)
abbrev pub MergeLaw : Type 0
MergeLaw = (u v : Code) (codes : List Code) → length u + length v ≤ 32 → ListsEach (IsMerge u v) codes → IsProductRule WqsymM u v codes

-- S of a times S of b is the sum of S over the standard tableaux whose front is a and whose back is b, at most 32 numbers together (Poirier, Reutenauer 1995)
abbrev pub TableauLaw : Type 0
TableauLaw = (a b : Code) (codes : List Code) → length a + length b ≤ 32 → ListsEach (IsTableauProduct a b) codes → IsProductRule FsymS a b codes

-- P of T times P of U is the sum of P over the trees whose front is T and whose back is U, at most 32 nodes together (Loday, Ronco 1998; Hivert, Novelli, Thibon 2005)
abbrev pub TreeLaw : Type 0
TreeLaw = (s t : Code) (codes : List Code) → length s + length t ≤ 32 → ListsEach (IsTreeProduct s t) codes → IsProductRule PbtP s t codes

-- the trees whose front and back are two others are those of their product by roots, and their codes, at most 32 nodes together, a rule (Loday, Ronco 1998)
pub record TreeRootsLaw : Type 0 where
  pub cut : (t u v : Tree) → IsInProduct t u v → IsTreeProduct (tree_code t) (tree_code u) (tree_code v)
  pub rooted : (t u v : Tree) → IsTreeProduct (tree_code t) (tree_code u) (tree_code v) → IsInProduct t u v
  pub rule : (t u : Tree) (codes : List Code) → tree_size t + tree_size u ≤ 32 → ListsEach (IsProductCode t u) codes → IsProductRule PbtP (tree_code t) (tree_code u) codes

-- a combination is the answer of the product of two elements
abbrev pub IsProductAnswer : BasisId → Code → Code → Combination → Type 0
IsProductAnswer basis left right c =
    IsAnswer (basis ∷ []) (degree_of basis left + degree_of basis right) (product (element basis left) (element basis right)) c

-- the elements of a product rule are added one by one, or one list after another: no element by nothing, one as a term with numerator 1, and two lists one after the other
pub record AddingLaw : Type 0 where
  pub none : (ts : Terms) → AddsElements ts ts []
  pub one : (old new : Terms) (code : Code) → AddsTerm old new (pos 1) (code ∷ []) → AddsElements old new (code ∷ [])
  pub append : (old mid new : Terms) (first second : List Code) → AddsElements old mid first → AddsElements mid new second → AddsElements old new (first ++ second)

-- a canonical combination of rank 1 over 1, to which the codes of a product rule were added, each once, and whose norm is at most their number, is the answer
abbrev pub AnswerLaw : Type 0
AnswerLaw = (basis : BasisId) (left right : Code) (codes : List Code) (c : Combination) → IsProductRule basis left right codes →
    IsCanonical c.rank c.den c.terms → c.rank ≡ 1 → c.den ≡ 1 → norm_of c.terms ≤ length codes → AddsElements [] c.terms codes →
    IsProductAnswer basis left right c

-- the combination that gathers the elements of the codes of a product rule, in any order, is the answer
abbrev pub SumLaw : Type 0
SumLaw = (basis : BasisId) (left right : Code) (codes : List Code) (c : Combination) → IsProductRule basis left right codes →
    IsSumOfTerms 1 (terms_of_codes codes) c → IsProductAnswer basis left right c

-- a product rule of degree at most 25 has a combination that is its answer, whatever memory there is
abbrev pub GatheringLaw : Type 0
GatheringLaw = (basis : BasisId) (left right : Code) (codes : List Code) → IsProductRule basis left right codes →
    degree_of basis left + degree_of basis right ≤ 25 → (c : Combination) × IsProductAnswer basis left right c

-- each product of two elements of degrees at most 25 together, but of QSym.M, has an answer
abbrev pub ExistenceLaw : Type 0
ExistenceLaw = (basis : BasisId) → (basis ≡ QsymM → ⊥) → (left right : Code) → IsIndex basis left → IsIndex basis right →
    degree_of basis left + degree_of basis right ≤ 25 → (c : Combination) × IsProductAnswer basis left right c
