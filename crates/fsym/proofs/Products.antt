-- The products of two elements, and their norms.
use Rattle.std.proofs.Common.{◌≡◌, ℕ, zero, suc, ◌+◌, ◌*◌, ◌^◌, ◌<◌, ◌≤◌, Bool, false, List, [], ◌∷◌, length, take, refl, sym, ◌∙◌, ap, subst, arith}
use Rattle.std.specs.Prelude.{not, nat_eq, ◌&&◌}
use Rattle.std.specs.Cmp.Lexicographic.{pointwise}
use Rattle.std.specs.List.{All, AllByRecursion, filter, flat_map}
use Rattle.std.proofs.Math.Nat.{pow-le-pow_left, pow-suc}
use Rattle.std.proofs.Math.Pow.{pow_mono}
use Rattle.std.proofs.lemmas.List.Elements.{All-from_recursion, All-map}
use Rattle.std.proofs.lemmas.Nat.{pow-add}
use Rattle.std.proofs.Math.IntN.{ℤ, pos}
use Rattle.basis_names.specs.declared.bases.BasisId.TheVariants.{FsymS}
use Rattle.change_laws.proofs.ChangeAnswers.{norm_of-signed}
use Rattle.index_rules.specs.Laws.{HasProducts}
use Rattle.index_rules.specs.Rules.{IsAnswerWithin}
use Rattle.linear_combos.specs.CodeLists.{ListsIndices}
use Rattle.linear_combos.specs.Combos.{IsSumOfTerms}
use Rattle.linear_combos.proofs.Gathering.{gathered}
use Rattle.product_laws.specs.Products.{IsProductRule, terms_of_codes}
use Rattle.product_laws.specs.TableauCuts.{back_tableau}
use Rattle.product_laws.proofs.DistinctWords.{AreUpTo, few_distinct}
use Rattle.product_laws.proofs.FilteredIndices.{filters}
use Rattle.product_laws.proofs.Filters.{length-filter}
use Rattle.product_laws.proofs.GatheredElements.{sums_answer}
use Rattle.product_laws.proofs.ListedOnce.{each_listed, times_in-at_most}
use Rattle.product_laws.proofs.TableauRule.{letters_of_tableau}
use Rattle.realisations.specs.Codes.{Code, Key}
use Rattle.realisations.specs.Combinations.{Combination, term_at}
use Rattle.realisations.specs.IndexKinds.{IsTableauCode, by_tableau}
use Rattle.realisations.specs.Lists.{same_list}
use Rattle.realisations.specs.Readings.{element, product}
use Rattle.tableaux.specs.NumberedTableaux.{longer_codes}
use Rattle.tableaux.proofs.LatticeLists.{ListsWords, indices_listed, words_empty, words_longer}
use Rattle.fsym.specs.Products.{AreProducts, IsOfBoth, has_factors}
use Rattle.fsym.proofs.CodeTests.{is_same, same_test}

-- a tableau whose front is the first factor has both where its back is the second one
pub back_decides : (left right code front back : List ℕ) (ne eq : Bool) → front ≡ take (length left) code → ne ≡ not (pointwise nat_eq front left) → ne ≡ false
    → back ≡ back_tableau (length left) code → eq ≡ pointwise nat_eq back right → eq ≡ has_factors left right code
back_decides left right code front back ne eq is_front told e is_back told_back =
    told_back ∙ same_test back right ∙ ap (λ w. same_list w right) is_back
    ∙ ap (λ b. b && same_list (back_tableau (length left) code) right) (sym (is_same front (take (length left) code) left ne is_front told e))

-- the tableaux of the degree of a product
pub all_of_both : (left right : Code) (codes : List Code) → length left + length right ≤ 7 → ListsIndices by_tableau (length left + length right) codes → All (IsOfBoth left right) codes
all_of_both left right codes small lists =
    All-from_recursion (IsOfBoth left right) codes
    (each_listed (λ c. IsTableauCode c × (length c ≡ length left + length right)) (IsOfBoth left right) codes lists.each (λ c h. record { tableau = h.0; size = h.1; small = omega (arith, h.1, small) }))

eight : (n : ℕ) → 8 ^ n ≡ 2 ^ (3 * n)
eight zero = omega arith
eight (suc n) =
    let more : 3 * suc n ≡ 3 + 3 * n = omega arith in
    omega (arith, pow-suc 8 n, eight n, ap (λ k. 2 ^ k) more, pow-add 2 3 (3 * n))

-- there are at most 2^(3n) tableaux of degree n, up to 7
few_tableaux : (n : ℕ) (codes : List Code) → n ≤ 7 → ListsIndices by_tableau n codes → length codes ≤ 2 ^ (3 * n)
few_tableaux n codes small lists =
    let each : AllByRecursion (λ c. AreUpTo n c × (length c ≡ n)) codes =
    each_listed (λ c. IsTableauCode c × (length c ≡ n)) (λ c. AreUpTo n c × (length c ≡ n)) codes lists.each (λ c h. (subst (λ m. AreUpTo m c) h.1 (letters_of_tableau c h.0), h.1)) in
    let power : n ^ n ≤ 8 ^ n = pow-le-pow_left {n = n} {m = 8} (omega (arith, small)) n in
    omega (arith, few_distinct n n codes each (times_in-at_most codes lists.in_order), power, eight n)

-- each key has one code
length-codes : (codes : List Code) (i : ℕ) → i < length (terms_of_codes codes) → length ((term_at (terms_of_codes codes) i).1) ≡ 1
length-codes codes i lt = All-map (λ (t : ℤ × Key). length t.1 ≡ 1) (λ code. (pos 1, code ∷ [])) codes (λ k d le. refl) i (pos 0, []) lt

-- a combination is the product of two elements, of norm at most 2^(3n)
abbrev pub IsTableauProductWithin : Code → Code → Combination → Type 0
IsTableauProductWithin s t c = IsAnswerWithin 3 (FsymS ∷ []) (length s + length t) (product (element FsymS s) (element FsymS t)) c

module _ (s t : Code) (small : length s + length t ≤ 7) (codes : List Code) (products : AreProducts s t codes) where
  -- the tableaux of both factors are a rule
  factors_rule : IsProductRule FsymS s t codes
  factors_rule = subst (IsProductRule FsymS s t) (sym products.is) (filters.tableaux s t products.all (omega (arith, small)) products.lists)

  -- and few
  few_products : length codes ≤ 2 ^ (3 * (length s + length t))
  few_products =
      omega (
        arith,
        ap length products.is,
        length-filter (λ code. has_factors s t code) products.all,
        few_tableaux (length s + length t) products.all small products.lists,
      )

  -- so their sum is the product
  pub products_within : (c : Combination) → IsSumOfTerms 1 (terms_of_codes codes) c → IsTableauProductWithin s t c
  products_within c is = record {
    answer = sums_answer FsymS s t codes c factors_rule is;
    norm = omega (arith, is.gathers.norm, norm_of-signed (λ code. 0) codes, few_products);
  }

  -- and there is such a sum
  sum_exists : (c : Combination) × IsTableauProductWithin s t c
  sum_exists =
      let most : 2 ^ (3 * (length s + length t)) ≤ 2 ^ 21 = pow_mono {j = 21} (omega (arith, small)) in
      let g = gathered 1 (terms_of_codes codes) (length-codes codes) (omega (arith, norm_of-signed (λ code. 0) codes, few_products, most)) in
      let c : Combination = record { rank = 1; den = 1; terms = g.0 } in
      (c, products_within c (record { rank_is = refl; whole = refl; gathers = g.1 }))

-- the codes of all tableaux of a degree
abbrev all_codes : ℕ → List Code
all_codes zero = [] ∷ []
all_codes (suc n) = flat_map longer_codes (all_codes n)

words_of : (n : ℕ) → ListsWords n (all_codes n)
words_of zero = words_empty
words_of (suc n) = subst (λ m. ListsWords m (all_codes (suc n))) (omega arith) (words_longer n (all_codes n) (words_of n))

-- so there are products
pub tableau_products_exist : HasProducts FsymS 3
tableau_products_exist s t hs ht within =
    let n : ℕ = length s + length t in
    sum_exists s t (omega (arith, within)) (filter (λ code. has_factors s t code) (all_codes n))
    (record { all = all_codes n; lists = indices_listed n (all_codes n) (words_of n); is = refl })
