-- The coproduct of a ribbon, by counting shuffles (Malvenuto, Reutenauer 1995; Gelfand, Krob, Lascoux, Leclerc, Retakh, Thibon 1995).
use Rattle.std.proofs.Common.{◌≡◌, ℕ, suc, ◌+◌, ◌-◌, ◌*◌, ◌<◌, ◌≤◌, Bool, true, false, List, [], ◌∷◌, length, refl, sym, ◌∙◌, ap, arith, inl, inr, ◌⊎◌}
use Rattle.std.specs.Prelude.{nat_eq, if◌then◌else◌}
use Rattle.std.specs.List.{flat_map, range_with_len, sum}
use Rattle.std.proofs.lemmas.Bool.{cases_lt, eq-eqb}
use Rattle.std.proofs.lemmas.Bool.Decides.{nat_tests}
use Rattle.std.proofs.lemmas.List.{length-map}
use Rattle.realisations.specs.Lists.{same_list, one_if}
use Rattle.realisations.specs.Words.{greatest, raise, shifted_shuffles}
use Rattle.realisations.specs.Descents.{descent_composition, word_of_composition}
use Rattle.realisations.specs.Pairings.{compositions}
use Rattle.basis_names.specs.declared.bases.BasisId.TheVariants.{NcsfR}
use Rattle.realisations.proofs.DescentCompositions.{descends}
use Rattle.realisations.proofs.Sums.{sums, sums-flat_map, sums-scale, sums_same, sums_none}
use Rattle.realisations.specs.Points.{IsPoint, word}
use Rattle.basis_representatives.proofs.Steps.{IsComposition-descent_composition}
use Rattle.basis_representatives.proofs.BlockWords.{descent_composition-word_of_composition}
use Rattle.realisations.proofs.PointsOfReadings.{word_composed}
use Rattle.coproduct_laws.specs.Coproducts.{IsCoproduct}
use Rattle.coproduct_rules.specs.RibbonCuts.{ribbon_pair, ribbon_cuts}
use Rattle.coproduct_rules.proofs.Tests.{same_list-apart}
use Rattle.coproduct_rules.proofs.Ranges.{sums_range_none}
use Rattle.coproduct_laws.proofs.RangeSums.{sums_up_to_single}
use Rattle.coproduct_rules.proofs.DoubleSums.{sums-scale_right}
use Rattle.basis_representatives.proofs.PackedWords.{letters_to_greatest}
use Rattle.coproduct_laws.proofs.LowAndHigh.{high_raised}
use Rattle.coproduct_laws.proofs.CoproductCounts.{coproduct_by_counts, at_points, at_pair}
use Rattle.coproduct_laws.proofs.Rearrangements.{over_rearrangements}
use Rattle.coproduct_rules.proofs.RearrangedLengths.{rearranges-length}
use Rattle.coproduct_rules.proofs.Raising.{descent_composition-raise}
use Rattle.coproduct_rules.proofs.DescentShuffles.{descent_shuffles}
use Rattle.coproduct_rules.proofs.CompositionSums.{sums_selected}

-- how many shuffles of words with these descent compositions have a descent composition
abbrev ribbon_number : List ℕ → List ℕ → List ℕ → ℕ
ribbon_number parts j k = sums (λ x. one_if (same_list (descent_composition x) parts)) (shifted_shuffles (word_of_composition j) (word_of_composition k))

-- the shuffles of two words by descent compositions are those of the words of their descent compositions
pub ribbon_counts : (parts u v : List ℕ) → IsPoint word v
    → at_points NcsfR parts (shifted_shuffles u v) ≡ ribbon_number parts (descent_composition u) (descent_composition v)
ribbon_counts parts u v positive =
    descent_shuffles (greatest u) (greatest (word_of_composition (descent_composition u))) (λ c. one_if (same_list c parts))
    u (raise (greatest u) v) (word_of_composition (descent_composition u)) (raise (greatest (word_of_composition (descent_composition u))) (word_of_composition (descent_composition v)))
    (sym (descent_composition-word_of_composition (descent_composition u) (IsComposition-descent_composition u)))
    (descent_composition-raise (greatest u) v
    ∙ sym (descent_composition-raise (greatest (word_of_composition (descent_composition u))) (word_of_composition (descent_composition v)) ∙ descent_composition-word_of_composition (descent_composition v) (IsComposition-descent_composition v)))
    (letters_to_greatest u (greatest u) (omega arith)) (high_raised (greatest u) v positive)
    (letters_to_greatest (word_of_composition (descent_composition u)) (greatest (word_of_composition (descent_composition u))) (omega arith))
    (high_raised (greatest (word_of_composition (descent_composition u))) (word_of_composition (descent_composition v)) (word_composed (descent_composition v)))

-- none of them has another degree
ribbon_apart : (parts u v : List ℕ) → (length u + length v ≡ sum parts → ⊥) → at_points NcsfR parts (shifted_shuffles u v) ≡ 0
ribbon_apart parts u v apart =
    over_rearrangements (λ x. one_if (same_list (descent_composition x) parts)) (λ x. 0) u (raise (greatest u) v)
    (λ w r. same_list-apart sum (descent_composition w) parts (λ e. apart (size (rearranges-length u (raise (greatest u) v) w r) ∙ sym ((descends w).0) ∙ e)))
    ∙ sums_none (λ (x : List ℕ). 0) (λ x. refl) (shifted_shuffles u v)
  where
    size : {n : ℕ} → n ≡ length u + length (raise (greatest u) v) → length u + length v ≡ n
    size e = omega (arith, e, length-map v (λ x. greatest u + x))

-- the pairs that are listed for J and K, at two words
pair_counts : (parts j k u v : List ℕ)
    → at_pair NcsfR u v (ribbon_pair parts j k) ≡ ribbon_number parts j k * (one_if (same_list (descent_composition u) j) * one_if (same_list (descent_composition v) k))
pair_counts parts j k u v =
    sums-flat_map (λ (e : List ℕ × List ℕ). one_if (same_list (descent_composition u) e.0) * one_if (same_list (descent_composition v) e.1))
    (λ x. if same_list (descent_composition x) parts then (j, k) ∷ [] else []) (shifted_shuffles (word_of_composition j) (word_of_composition k))
    ∙ sums_same _ (λ x. one_if (same_list (descent_composition x) parts) * (one_if (same_list (descent_composition u) j) * one_if (same_list (descent_composition v) k)))
    (λ x. by_test (same_list (descent_composition x) parts)) (shifted_shuffles (word_of_composition j) (word_of_composition k))
    ∙ sums-scale_right (one_if (same_list (descent_composition u) j) * one_if (same_list (descent_composition v) k)) (λ x. one_if (same_list (descent_composition x) parts)) (shifted_shuffles (word_of_composition j) (word_of_composition k))
  where
    by_test : (b : Bool) → sums (λ (e : List ℕ × List ℕ). one_if (same_list (descent_composition u) e.0) * one_if (same_list (descent_composition v) e.1)) (if b then (j, k) ∷ [] else [])
        ≡ one_if b * (one_if (same_list (descent_composition u) j) * one_if (same_list (descent_composition v) k))
    by_test true = omega arith
    by_test false = omega arith

-- the pairs with a first composition of a number
abbrev of_degree : List ℕ → ℕ → List (List ℕ × List ℕ)
of_degree parts d = flat_map (λ j. flat_map (λ k. ribbon_pair parts j k) (compositions (sum parts - d))) (compositions d)

-- the pairs whose first composition has the degree d, at two words
degree_counts : (parts : List ℕ) (d : ℕ) (u v : List ℕ)
    → at_pair NcsfR u v (of_degree parts d)
    ≡ one_if (nat_eq (length u) d) * (one_if (nat_eq (length v) (sum parts - d)) * ribbon_number parts (descent_composition u) (descent_composition v))
degree_counts parts d u v =
    sums-flat_map counted (λ j. flat_map (λ k. ribbon_pair parts j k) (compositions (sum parts - d))) (compositions d)
    ∙ sums_same _ (λ j. one_if (same_list (descent_composition u) j) * (one_if (nat_eq (length v) (sum parts - d)) * ribbon_number parts j (descent_composition v))) (λ j. inner j) (compositions d)
    ∙ sums_selected d (descent_composition u) (λ j. one_if (nat_eq (length v) (sum parts - d)) * ribbon_number parts j (descent_composition v)) (IsComposition-descent_composition u)
    ∙ ap (λ n. one_if (nat_eq n d) * (one_if (nat_eq (length v) (sum parts - d)) * ribbon_number parts (descent_composition u) (descent_composition v))) ((descends u).0)
  where
    counted : List ℕ × List ℕ → ℕ
    counted e = one_if (same_list (descent_composition u) e.0) * one_if (same_list (descent_composition v) e.1)

    inner : (j : List ℕ) → sums (λ (e : List ℕ × List ℕ). one_if (same_list (descent_composition u) e.0) * one_if (same_list (descent_composition v) e.1)) (flat_map (λ k. ribbon_pair parts j k) (compositions (sum parts - d)))
        ≡ one_if (same_list (descent_composition u) j) * (one_if (nat_eq (length v) (sum parts - d)) * ribbon_number parts j (descent_composition v))
    inner j =
        sums-flat_map (λ (e : List ℕ × List ℕ). one_if (same_list (descent_composition u) e.0) * one_if (same_list (descent_composition v) e.1)) (λ k. ribbon_pair parts j k) (compositions (sum parts - d))
        ∙ sums_same _ (λ k. one_if (same_list (descent_composition u) j) * (one_if (same_list (descent_composition v) k) * ribbon_number parts j k))
        (λ k. pair_counts parts j k u v ∙ omega arith) (compositions (sum parts - d))
        ∙ sums-scale (one_if (same_list (descent_composition u) j)) (λ k. one_if (same_list (descent_composition v) k) * ribbon_number parts j k) (compositions (sum parts - d))
        ∙ ap (λ n. one_if (same_list (descent_composition u) j) * n)
        (sums_selected (sum parts - d) (descent_composition v) (λ k. ribbon_number parts j k) (IsComposition-descent_composition v)
        ∙ ap (λ n. one_if (nat_eq n (sum parts - d)) * ribbon_number parts j (descent_composition v)) ((descends v).0))

-- NCSF.R: all pairs of compositions, each as often as a shuffle of words with them has the composition
pub ribbon_coproduct : (parts : List ℕ) → IsCoproduct NcsfR parts (ribbon_cuts parts)
ribbon_coproduct parts = coproduct_by_counts NcsfR parts (ribbon_cuts parts) (λ u v hu hv. by_length u v hv (cases_lt (length u + length v) (sum parts)) (cases_lt (sum parts) (length u + length v)))
  where
    at_degree : List ℕ → List ℕ → ℕ → ℕ
    at_degree u v d = one_if (nat_eq (length u) d) * (one_if (nat_eq (length v) (sum parts - d)) * ribbon_number parts (descent_composition u) (descent_composition v))

    differ : (m n : ℕ) → (m ≡ n → ⊥) → one_if (nat_eq m n) ≡ 0
    differ m n h = grind (arith, nat_tests)

    none : (u v : List ℕ) (d : ℕ) → (length u ≡ d → ⊥)
        → one_if (nat_eq (length u) d) * (one_if (nat_eq (length v) (sum parts - d)) * ribbon_number parts (descent_composition u) (descent_composition v)) ≡ 0
    none u v d apart = ap (λ n. n * (one_if (nat_eq (length v) (sum parts - d)) * ribbon_number parts (descent_composition u) (descent_composition v))) (differ (length u) d apart) ∙ omega arith

    none_after : (u v : List ℕ) (d : ℕ) → (length v ≡ sum parts - d → ⊥)
        → one_if (nat_eq (length u) d) * (one_if (nat_eq (length v) (sum parts - d)) * ribbon_number parts (descent_composition u) (descent_composition v)) ≡ 0
    none_after u v d apart =
        ap (λ n. one_if (nat_eq (length u) d) * (n * ribbon_number parts (descent_composition u) (descent_composition v))) (differ (length v) (sum parts - d) apart) ∙ omega arith

    pairs : (u v : List ℕ) → at_pair NcsfR u v (ribbon_cuts parts) ≡ sums (λ d. at_degree u v d) (range_with_len 0 (suc (sum parts)))
    pairs u v =
        sums-flat_map (λ (e : List ℕ × List ℕ). one_if (same_list (descent_composition u) e.0) * one_if (same_list (descent_composition v) e.1)) (λ d. of_degree parts d) (range_with_len 0 (suc (sum parts)))
        ∙ sums_same _ (λ d. at_degree u v d) (λ d. degree_counts parts d u v) (range_with_len 0 (suc (sum parts)))

    other : (u v : List ℕ) → (length u + length v ≡ sum parts → ⊥) → at_points NcsfR parts (shifted_shuffles u v) ≡ at_pair NcsfR u v (ribbon_cuts parts)
    other u v apart =
        ribbon_apart parts u v apart
        ∙ sym (pairs u v
        ∙ sums_range_none (λ d. at_degree u v d) 0 (suc (sum parts)) (λ d low high. at u v d (omega arith) apart))
      where
        at : (u v : List ℕ) (d : ℕ) → d ≤ sum parts → (length u + length v ≡ sum parts → ⊥)
            → one_if (nat_eq (length u) d) * (one_if (nat_eq (length v) (sum parts - d)) * ribbon_number parts (descent_composition u) (descent_composition v)) ≡ 0
        at u v d le apart = elim (cases_lt (length u) d) [
          | inl less ↦ none u v d (λ e. omega arith)
          | inr p ↦ elim (cases_lt d (length u)) [
            | inl more ↦ none u v d (λ e. omega arith)
            | inr q ↦ none_after u v d (λ e. apart (omega arith))
          ]
        ]

    by_length : (u v : List ℕ) → IsPoint word v → ((length u + length v < sum parts) ⊎ (sum parts ≤ length u + length v)) → ((sum parts < length u + length v) ⊎ (length u + length v ≤ sum parts))
        → at_points NcsfR parts (shifted_shuffles u v) ≡ at_pair NcsfR u v (ribbon_cuts parts)
    by_length u v positive (inl less) q = other u v (λ e. omega arith)
    by_length u v positive (inr p) (inl more) = other u v (λ e. omega arith)
    by_length u v positive (inr p) (inr q) =
        let total : length u + length v ≡ sum parts = omega arith in
        let rest : length v ≡ sum parts - length u = omega arith in
        let first : nat_eq (length u) (length u) ≡ true = eq-eqb (length u) (length u) refl in
        let second : nat_eq (length v) (sum parts - length u) ≡ true = eq-eqb (length v) (sum parts - length u) rest in
        ribbon_counts parts u v positive
        ∙ sym (pairs u v
        ∙ sums_up_to_single (λ d. at_degree u v d) (length u) (sum parts) (λ d le far. none u v d (λ e. far (sym e))) (λ past. absurd (omega arith))
        ∙ (λ i. one_if (first i) * (one_if (second i) * ribbon_number parts (descent_composition u) (descent_composition v)))
        ∙ omega arith)
