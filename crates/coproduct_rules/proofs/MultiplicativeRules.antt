-- The coproducts of products of complete functions, and of elementary ones (Gelfand, Krob, Lascoux, Leclerc, Retakh, Thibon 1995).
use Rattle.std.proofs.Common.{◌≡◌, ℕ, ◌+◌, ◌*◌, ◌<◌, ◌≤◌, Bool, true, false, List, [], ◌∷◌, refl, sym, ◌∙◌, arith}
use Rattle.std.specs.Prelude.{nat_lt, not}
use Rattle.std.proofs.lemmas.Bool.Decides.{nat_tests}
use Rattle.realisations.specs.Lists.{one_if}
use Rattle.realisations.specs.Words.{greatest, raise, shuffles, shifted_shuffles}
use Rattle.realisations.specs.Exponents.{exponent_cuts, without_zeros}
use Rattle.realisations.specs.Indices.{IsIndex}
use Rattle.realisations.specs.IndexKinds.{IsComposition}
use Rattle.basis_names.specs.declared.bases.BasisId.{BasisId}
use Rattle.basis_names.specs.declared.bases.BasisId.TheVariants.{NcsfS, NcsfL}
use Rattle.realisations.specs.Occurrence.{occurs}
use Rattle.realisations.proofs.Sums.{sums-map, sums_same}
use Rattle.coproduct_laws.specs.Coproducts.{IsCoproduct}
use Rattle.coproduct_rules.specs.PartCuts.{part_cuts}
use Rattle.coproduct_laws.proofs.CoproductCounts.{coproduct_by_counts, at_points, at_pair}
use Rattle.coproduct_laws.proofs.LowAndHigh.{AreLow, AreHigh, high_raised}
use Rattle.basis_representatives.proofs.PackedWords.{letters_to_greatest}
use Rattle.coproduct_laws.proofs.Shuffling.{over_shuffles}
use Rattle.coproduct_rules.proofs.Chains.{is_chain, over_shuffles_comm, chain_shuffles}
use Rattle.coproduct_rules.proofs.Splits.{splits, splits-map, splits_shuffles, splits-without_zeros}
use Rattle.basis_representatives.proofs.BlockWords.{IsComposition-without_zeros}
use Rattle.coproduct_rules.proofs.Blocks.{complete_occurs, elementary_occurs}

-- a basis whose elements occur at the words that split into blocks of the lengths of the parts
module _ (basis : BasisId) (test : List ℕ → Bool) (empty : test [] ≡ true) (occurs_splits : (parts w : List ℕ) → IsComposition parts → one_if (occurs basis parts w) ≡ splits test parts w)
    (multiplies : (g : ℕ) (a b : List ℕ) → AreLow g a → AreHigh g b → over_shuffles (λ x. one_if (test x)) a b ≡ one_if (test a) * one_if (test b)) where
  -- the count of the rule that cuts each part
  pub split_counts : (parts u v : List ℕ) → IsComposition parts → (g : ℕ) → AreLow g u → AreHigh g (raise (greatest u) v) → ((c w : List ℕ) → splits test c (raise (greatest u) w) ≡ splits test c w)
      → at_points basis parts (shifted_shuffles u v) ≡ at_pair basis u v (part_cuts parts)
  split_counts parts u v composition g low high raised =
      sums_same (λ x. one_if (occurs basis parts x)) (λ x. splits test parts x) (λ x. occurs_splits parts x composition) (shuffles u (raise (greatest u) v))
      ∙ splits_shuffles g test (multiplies g) parts u (raise (greatest u) v) low high
      ∙ sums_same (λ (c : List ℕ × List ℕ). splits test c.0 u * splits test c.1 (raise (greatest u) v)) (λ c. one_if (occurs basis (without_zeros c.0) u) * one_if (occurs basis (without_zeros c.1) v))
      (λ c. λ i. sym (occurs_splits (without_zeros c.0) u (IsComposition-without_zeros c.0) ∙ splits-without_zeros test c.0 u empty) i
      * (raised c.1 v ∙ sym (occurs_splits (without_zeros c.1) v (IsComposition-without_zeros c.1) ∙ splits-without_zeros test c.1 v empty)) i) (exponent_cuts parts)
      ∙ sym (sums-map (λ (e : List ℕ × List ℕ). one_if (occurs basis e.0 u) * one_if (occurs basis e.1 v)) (λ (c : List ℕ × List ℕ). (without_zeros c.0, without_zeros c.1)) (exponent_cuts parts))

-- raising keeps chains, whose test compares letters

-- of nondecreasing words
nondecreasing_raise : (k : ℕ) (w : List ℕ) → is_chain (λ x y. not (nat_lt y x)) (raise k w) ≡ is_chain (λ x y. not (nat_lt y x)) w
nondecreasing_raise k [] = refl
nondecreasing_raise k (x ∷ []) = refl
nondecreasing_raise k (x ∷ y ∷ w) = let e : nat_lt (k + y) (k + x) ≡ nat_lt y x = grind (arith, nat_tests) in rw (e, nondecreasing_raise k (y ∷ w)) refl

-- of falling words
falling_raise : (k : ℕ) (w : List ℕ) → is_chain (λ x y. nat_lt y x) (raise k w) ≡ is_chain (λ x y. nat_lt y x) w
falling_raise k [] = refl
falling_raise k (x ∷ []) = refl
falling_raise k (x ∷ y ∷ w) = let e : nat_lt (k + y) (k + x) ≡ nat_lt y x = grind (arith, nat_tests) in rw (e, falling_raise k (y ∷ w)) refl

-- of low and high letters only the low ones before the high ones do not fall
nondecreasing_multiplies : (g : ℕ) (a b : List ℕ) → AreLow g a → AreHigh g b
    → over_shuffles (λ x. one_if (is_chain (λ x y. not (nat_lt y x)) x)) a b ≡ one_if (is_chain (λ x y. not (nat_lt y x)) a) * one_if (is_chain (λ x y. not (nat_lt y x)) b)
nondecreasing_multiplies g a b ha hb =
    chain_shuffles (λ x. x ≤ g) (λ x. g < x) (λ x y. not (nat_lt y x)) forward back a b ha hb
  where
    forward : (x y : ℕ) → x ≤ g → g < y → not (nat_lt y x) ≡ true
    forward x y h k = let e : nat_lt y x ≡ false = grind (arith, nat_tests) in rw e refl

    back : (x y : ℕ) → x ≤ g → g < y → not (nat_lt x y) ≡ false
    back x y h k = let e : nat_lt x y ≡ true = grind (arith, nat_tests) in rw e refl

-- and only the high ones before the low ones fall throughout
falling_multiplies : (g : ℕ) (a b : List ℕ) → AreLow g a → AreHigh g b
    → over_shuffles (λ x. one_if (is_chain (λ x y. nat_lt y x) x)) a b ≡ one_if (is_chain (λ x y. nat_lt y x) a) * one_if (is_chain (λ x y. nat_lt y x) b)
falling_multiplies g a b ha hb =
    over_shuffles_comm (λ x. one_if (is_chain (λ x y. nat_lt y x) x)) a b
    ∙ chain_shuffles (λ x. g < x) (λ x. x ≤ g) (λ x y. nat_lt y x) forward back b a hb ha
    ∙ omega arith
  where
    forward : (x y : ℕ) → g < x → y ≤ g → nat_lt y x ≡ true
    forward x y h k = grind (arith, nat_tests)

    back : (x y : ℕ) → g < x → y ≤ g → nat_lt x y ≡ false
    back x y h k = grind (arith, nat_tests)

-- NCSF.S: each part is cut in all ways
pub complete_coproduct : (parts : List ℕ) → IsIndex NcsfS parts → IsCoproduct NcsfS parts (part_cuts parts)
complete_coproduct parts composition =
    coproduct_by_counts NcsfS parts (part_cuts parts) (λ u v hu hv.
    split_counts NcsfS (is_chain (λ x y. not (nat_lt y x))) refl complete_occurs nondecreasing_multiplies parts u v composition
    (greatest u) (letters_to_greatest u (greatest u) (omega arith)) (high_raised (greatest u) v hv)
    (λ c w. splits-map (λ x. greatest u + x) (is_chain (λ x y. not (nat_lt y x))) (nondecreasing_raise (greatest u)) c w))

-- NCSF.L: each part is cut in all ways
pub elementary_coproduct : (parts : List ℕ) → IsIndex NcsfL parts → IsCoproduct NcsfL parts (part_cuts parts)
elementary_coproduct parts composition =
    coproduct_by_counts NcsfL parts (part_cuts parts) (λ u v hu hv.
    split_counts NcsfL (is_chain (λ x y. nat_lt y x)) refl elementary_occurs falling_multiplies parts u v composition
    (greatest u) (letters_to_greatest u (greatest u) (omega arith)) (high_raised (greatest u) v hv)
    (λ c w. splits-map (λ x. greatest u + x) (is_chain (λ x y. nat_lt y x)) (falling_raise (greatest u)) c w))
