-- The coproducts of elements, and their norms.
use Rattle.std.proofs.Common.{◌≡◌, ◌*◌, ◌^◌, ◌≤◌, [], ◌∷◌, length, subst, ap, arith}
use Rattle.std.proofs.Math.Pow.{pow_mono}
use Rattle.basis_names.specs.declared.bases.BasisId.TheVariants.{PbtP}
use Rattle.basis_representatives.proofs.TreeCodes.{length-tree_code}
use Rattle.binary_trees.specs.PairSums.{IsSumOfPairs}
use Rattle.change_laws.proofs.CoproductsExist.{coproducts_exist}
use Rattle.coproduct_laws.proofs.AddedPairs.{answers}
use Rattle.index_rules.specs.Changes.{operation_facts}
use Rattle.index_rules.specs.Laws.{HasAnswers}
use Rattle.index_rules.specs.Rules.{IsAnswerWithin}
use Rattle.index_rules.specs.Spaces.{limit_for}
use Rattle.realisations.specs.Codes.{Code}
use Rattle.realisations.specs.Combinations.{Combination, IsCanonical}
use Rattle.realisations.specs.Readings.{applied, coproduct, element}
use Rattle.realisations.specs.Trees.{Tree, tree_code, tree_size}
use Rattle.tree_laws.specs.UpperParts.{upper_codes}
use Rattle.pbt.proofs.UpperRule.{few_codes, upper_rule}

-- a combination is the coproduct of an element, of norm at most 2^n
abbrev pub IsTreeCoproductWithin : Code → Combination → Type 0
IsTreeCoproductWithin s c = IsAnswerWithin 1 (PbtP ∷ PbtP ∷ []) (length s) (applied coproduct 0 (element PbtP s)) c

-- the pairs of a tree sum to it
tree_coproduct : (tree : Tree) → tree_size tree ≤ 7 → (c : Combination) × IsTreeCoproductWithin (tree_code tree) c
tree_coproduct tree small =
    let few = few_codes tree small in
    let size : 1 * tree_size tree ≡ 1 * length (tree_code tree) = omega (arith, length-tree_code tree) in
    let most : 2 ^ (1 * tree_size tree) ≤ 2 ^ 7 = pow_mono {j = 7} (omega (arith, small)) in
    let (c, is, norm) = coproducts_exist PbtP (tree_code tree) (upper_codes tree) (upper_rule tree small) (omega (arith, few, most)) in
    (c, record { answer = is; norm = omega (arith, norm, few, ap (λ k. 2 ^ k) size) })

-- so there are coproducts
pub tree_coproducts_exist : HasAnswers (operation_facts coproduct PbtP (PbtP ∷ PbtP ∷ []) (limit_for PbtP) 1)
tree_coproducts_exist s h =
    let (v, is) = h.index in
    subst (λ a. (c : Combination) × IsTreeCoproductWithin a c) is (tree_coproduct v (omega (arith, h.degree, length-tree_code v, ap length is)))

-- the canonical sum of the pairs is the coproduct
pub coproducts_within : (s : Code) (v : Tree) (c : Combination) → tree_code v ≡ s → length s ≤ 7 → IsCanonical c.rank c.den c.terms → IsSumOfPairs (upper_codes v) c → IsTreeCoproductWithin s c
coproducts_within s v c is_v small canonical is =
    let size : length (tree_code v) ≡ length s = ap length is_v in
    let low : tree_size v ≤ 7 = omega (arith, small, size, length-tree_code v) in
    let exponent : 1 * tree_size v ≡ 1 * length (tree_code v) = omega (arith, length-tree_code v) in
    subst (λ a. IsTreeCoproductWithin a c) is_v (record {
      answer = answers PbtP (tree_code v) (upper_codes v) c (upper_rule v low) canonical is.rank is.whole is.norm is.adds;
      norm = omega (arith, is.norm, few_codes v low, ap (λ k. 2 ^ k) exponent);
    })
