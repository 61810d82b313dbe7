-- The products of two elements, and their norms.
use Rattle.std.proofs.Common.{◌≡◌, ℕ, ◌+◌, ◌*◌, ◌^◌, ◌<◌, ◌≤◌, List, [], ◌∷◌, length, refl, ap, subst, arith}
use Rattle.std.proofs.Math.IntN.{ℤ, pos}
use Rattle.std.proofs.Math.Pow.{pow_mono}
use Rattle.std.proofs.lemmas.List.{length-map}
use Rattle.std.proofs.lemmas.List.Elements.{All-map}
use Rattle.basis_names.specs.declared.bases.BasisId.TheVariants.{PbtP}
use Rattle.basis_representatives.proofs.TreeCodes.{length-tree_code}
use Rattle.change_laws.proofs.ChangeAnswers.{norm_of-signed}
use Rattle.index_rules.specs.Laws.{HasProducts}
use Rattle.index_rules.specs.Rules.{IsAnswerWithin}
use Rattle.index_rules.proofs.UniqueAnswers.{same_answers}
use Rattle.linear_combos.specs.CodeLists.{ListsEach}
use Rattle.linear_combos.specs.Combos.{IsSumOfTerms}
use Rattle.linear_combos.proofs.Gathering.{gathered}
use Rattle.product_laws.specs.Products.{terms_of_codes}
use Rattle.product_laws.proofs.GatheredElements.{sums_answer}
use Rattle.product_laws.proofs.TreeRoots.{by_roots}
use Rattle.realisations.specs.Answers.{IsAnswer}
use Rattle.realisations.specs.Codes.{Code, Key}
use Rattle.realisations.specs.Combinations.{Combination, norm_of, term_at}
use Rattle.realisations.specs.Readings.{element, product}
use Rattle.realisations.specs.Trees.{Tree, tree_code, tree_size}
use Rattle.tree_laws.specs.TreeProducts.{IsProductCode, tree_products}
use Rattle.pbt.proofs.TreeProducts.{few_products, product_codes, product_rule}

-- a combination is the product of two elements, of norm at most 2^n
abbrev pub IsTreeProductWithin : Code → Code → Combination → Type 0
IsTreeProductWithin s t c = IsAnswerWithin 1 (PbtP ∷ []) (length s + length t) (product (element PbtP s) (element PbtP t)) c

-- each key has one code
length-codes : (codes : List Code) (i : ℕ) → i < length (terms_of_codes codes) → length ((term_at (terms_of_codes codes) i).1) ≡ 1
length-codes codes i lt = All-map (λ (t : ℤ × Key). length t.1 ≡ 1) (λ code. (pos 1, code ∷ [])) codes (λ k d le. refl) i (pos 0, []) lt

-- the trees of a product sum to it
trees_product : (t u : Tree) → length (tree_code t) + length (tree_code u) ≤ 7 → (c : Combination) × IsTreeProductWithin (tree_code t) (tree_code u) c
trees_product t u small =
    let codes = product_codes t u in
    let n : ℕ = length (tree_code t) + length (tree_code u) in
    let size : tree_size t + tree_size u ≡ 1 * n = omega (arith, length-tree_code t, length-tree_code u) in
    let few : length codes ≤ 2 ^ (1 * n) = omega (arith, few_products t u, length-map {B = Code} (tree_products t u) tree_code, ap (λ k. 2 ^ k) size) in
    let most : 2 ^ (1 * n) ≤ 2 ^ 7 = pow_mono {j = 7} (omega (arith, small)) in
    let g = gathered 1 (terms_of_codes codes) (length-codes codes) (omega (arith, norm_of-signed (λ code. 0) codes, few, most)) in
    let c : Combination = record { rank = 1; den = 1; terms = g.0 } in (
      c,
      record {
        answer = sums_answer PbtP (tree_code t) (tree_code u) codes c (product_rule t u) (record { rank_is = refl; whole = refl; gathers = g.1 });
        norm = omega (arith, g.1.norm, norm_of-signed (λ code. 0) codes, few);
      },
    )

-- so there are products
pub tree_products_exist : HasProducts PbtP 1
tree_products_exist s t (v, is_v) (w, is_w) within =
    subst (λ a. (c : Combination) × IsTreeProductWithin a t c) is_v
    (subst (λ b. (c : Combination) × IsTreeProductWithin (tree_code v) b c) is_w
    (trees_product v w (omega (arith, within, ap length is_v, ap length is_w))))

-- the sum of the listed codes is the product: no other combination has its reading, so its norm is bounded too
listed_within : (t u : Tree) (codes : List Code) (c : Combination) → length (tree_code t) + length (tree_code u) ≤ 7 → ListsEach (IsProductCode t u) codes
    → IsSumOfTerms 1 (terms_of_codes codes) c → IsTreeProductWithin (tree_code t) (tree_code u) c
listed_within t u codes c small lists is =
    let n : ℕ = length (tree_code t) + length (tree_code u) in
    let answer : IsAnswer (PbtP ∷ []) n (product (element PbtP (tree_code t)) (element PbtP (tree_code u))) c =
    sums_answer PbtP (tree_code t) (tree_code u) codes c (by_roots.rule t u codes (omega (arith, small, length-tree_code t, length-tree_code u)) lists) is in
    let (d, other) = trees_product t u small in
    let same : c ≡ d = same_answers (PbtP ∷ []) n (product (element PbtP (tree_code t)) (element PbtP (tree_code u))) c d (omega arith) answer other.answer in
    record { answer = answer; norm = omega (arith, ap (λ (v : Combination). norm_of v.terms) same, other.norm) }

-- for the trees of two codes
pub products_within : (s t : Code) (v w : Tree) (codes : List Code) (c : Combination) → tree_code v ≡ s → tree_code w ≡ t → length s + length t ≤ 7
    → ListsEach (IsProductCode v w) codes → IsSumOfTerms 1 (terms_of_codes codes) c → IsTreeProductWithin s t c
products_within s t v w codes c is_v is_w small lists is =
    subst (λ a. IsTreeProductWithin a t c) is_v
    (subst (λ b. IsTreeProductWithin (tree_code v) b c) is_w
    (listed_within v w codes c (omega (arith, small, ap length is_v, ap length is_w)) lists is))
