-- The pairs of ribbons that shuffles give are pairs of compositions, at most 2^(2n) of them.
use Rattle.std.proofs.Common.{◌≡◌, ℕ, zero, suc, ◌+◌, ◌-◌, ◌*◌, ◌^◌, ◌≤◌, if◌then◌else◌, Bool, true, false, List, [], ◌∷◌, length, refl, sym, ◌∙◌, ap, subst, arith}
use Rattle.std.specs.List.{AllByRecursion, flat_map, range_with_len, sum}
use Rattle.std.proofs.Math.Nat.{mul-le-mul, mul_assoc}
use Rattle.std.proofs.Math.Pow.{pow_mono}
use Rattle.std.proofs.lemmas.Nat.{pow-add}
use Rattle.std.proofs.lemmas.List.{length-map}
use Rattle.basis_names.specs.declared.bases.BasisId.TheVariants.{NcsfR}
use Rattle.realisations.specs.Descents.{descent_composition, word_of_composition}
use Rattle.realisations.specs.IndexKinds.{IsComposition}
use Rattle.realisations.specs.Lists.{same_list}
use Rattle.realisations.specs.Pairings.{longer_compositions, compositions}
use Rattle.realisations.specs.Words.{greatest, raise, shifted_shuffles}
use Rattle.realisations.proofs.Every.{every-flat_map}
use Rattle.realisations.proofs.DescentCompositions.{descends}
use Rattle.realisations.proofs.Sums.{sums, sums-scale}
use Rattle.basis_representatives.proofs.Letters.{Letters-range}
use Rattle.basis_representatives.proofs.BlockWords.{descent_composition-word_of_composition}
use Rattle.coproduct_laws.specs.Coproducts.{ArePairs}
use Rattle.coproduct_rules.specs.Laws.{RibbonCoproductLaw}
use Rattle.coproduct_rules.specs.RibbonCuts.{ribbon_pair, ribbon_cuts}
use Rattle.coproduct_rules.proofs.DegreeCuts.{sum-first}
use Rattle.coproduct_rules.proofs.PartPairs.{pow_two-suc, any, length-flat_map-le}
use Rattle.coproduct_rules.proofs.RibbonRule.{ribbon_coproduct}
use Rattle.coproduct_rules.proofs.ShuffleNumbers.{ways, length-shuffles, over_ways, over_range, length-flat_map, sums_range_le}

-- the compositions of n are compositions with the sum n
all_sums : (n : ℕ) → AllByRecursion (λ parts. IsComposition parts × (sum parts ≡ n)) (compositions n)
all_sums zero = ((tt, refl), tt)
all_sums (suc n) = every-flat_map (λ parts. IsComposition parts × (sum parts ≡ n)) (λ parts. IsComposition parts × (sum parts ≡ suc n)) (λ parts. longer_compositions parts) longer (compositions n) (all_sums n)
  where
    longer : (parts : List ℕ) → IsComposition parts × (sum parts ≡ n) → AllByRecursion (λ parts. IsComposition parts × (sum parts ≡ suc n)) (longer_compositions parts)
    longer [] h = (((omega arith, tt), omega (arith, h.1, sum-first 1 [])), tt)
    longer (i ∷ parts) h =
        (((omega arith, h.0), omega (arith, h.1, sum-first 1 (i ∷ parts))), (((omega arith, h.0.1), omega (arith, h.1, sum-first (suc i) parts, sum-first i parts)), tt))

ribbon_pairs : (parts : List ℕ) → ArePairs NcsfR parts (ribbon_cuts parts)
ribbon_pairs parts =
    every-flat_map (λ d. d ≤ sum parts) _ (λ d. flat_map (λ j. flat_map (λ k. ribbon_pair parts j k) (compositions (sum parts - d))) (compositions d))
    (λ d le. every-flat_map (λ j. IsComposition j × (sum j ≡ d)) _ (λ j. flat_map (λ k. ribbon_pair parts j k) (compositions (sum parts - d)))
    (λ j hj. every-flat_map (λ k. IsComposition k × (sum k ≡ sum parts - d)) _ (λ k. ribbon_pair parts j k)
    (λ k hk. every-flat_map (λ x. Unit {0}) _ (λ x. if same_list (descent_composition x) parts then (j, k) ∷ [] else [])
    (λ x hx. by_test (same_list (descent_composition x) parts) j k hj.0 hk.0 (omega (arith, hj.1, hk.1)))
    (shifted_shuffles (word_of_composition j) (word_of_composition k)) (any (shifted_shuffles (word_of_composition j) (word_of_composition k))))
    (compositions (sum parts - d)) (all_sums (sum parts - d))) (compositions d) (all_sums d))
    (range_with_len 0 (suc (sum parts)))
    (Letters-range (λ d. d ≤ sum parts) 0 (suc (sum parts)) (λ k a b. omega arith))
  where
    by_test : (b : Bool) (j k : List ℕ) → IsComposition j → IsComposition k → sum j + sum k ≡ sum parts
        → AllByRecursion (λ (e : List ℕ × List ℕ). IsComposition e.0 × IsComposition e.1 × (sum e.0 + sum e.1 ≡ sum parts)) (if b then (j, k) ∷ [] else [])
    by_test true j k hj hk h = ((hj, hk, h), tt)
    by_test false j k hj hk h = tt

-- at most 2^n compositions of n
length-compositions : (n : ℕ) → length (compositions n) ≤ 2 ^ n
length-compositions zero = omega arith
length-compositions (suc n) =
    omega (arith, pow_two-suc n, length-compositions n, length-flat_map-le (λ (parts : List ℕ). Unit {0}) (λ parts. longer_compositions parts) 2 (λ parts h. two parts) (compositions n) (any (compositions n)))
  where
    two : (parts : List ℕ) → length (longer_compositions parts) ≤ 2
    two [] = omega arith
    two (i ∷ parts) = omega arith

-- the word of a composition has the length of its sum
length-word : (parts : List ℕ) → IsComposition parts → length (word_of_composition parts) ≡ sum parts
length-word parts h = sym ((descends (word_of_composition parts)).0) ∙ ap sum (descent_composition-word_of_composition parts h)

-- the pairs listed for two compositions
few_of_pair : (parts j k : List ℕ) → IsComposition j → IsComposition k → length (ribbon_pair parts j k) ≤ ways (sum j) (sum k)
few_of_pair parts j k hj hk =
    let all : length (ribbon_pair parts j k) ≤ length (shifted_shuffles (word_of_composition j) (word_of_composition k)) * 1 =
    length-flat_map-le (λ (x : List ℕ). Unit {0}) (λ x. if same_list (descent_composition x) parts then (j, k) ∷ [] else []) 1 (λ x h. one (same_list (descent_composition x) parts))
    (shifted_shuffles (word_of_composition j) (word_of_composition k)) (any (shifted_shuffles (word_of_composition j) (word_of_composition k))) in
    let raised : length (raise (greatest (word_of_composition j)) (word_of_composition k)) ≡ sum k =
    length-map (word_of_composition k) (λ x. greatest (word_of_composition j) + x) ∙ length-word k hk in
    let sizes : ways (length (word_of_composition j)) (length (raise (greatest (word_of_composition j)) (word_of_composition k))) ≡ ways (sum j) (sum k) =
    λ i. ways (length-word j hj i) (raised i) in
    omega (arith, all, length-shuffles (word_of_composition j) (raise (greatest (word_of_composition j)) (word_of_composition k)), sizes)
  where
    one : (b : Bool) → length {A = List ℕ × List ℕ} (if b then (j, k) ∷ [] else []) ≤ 1
    one true = omega arith
    one false = omega arith

-- those of one degree of the first composition
of_degree : (parts : List ℕ) (d : ℕ) → d ≤ sum parts
    → length (flat_map (λ j. flat_map (λ k. ribbon_pair parts j k) (compositions (sum parts - d))) (compositions d)) ≤ 2 ^ sum parts * ways d (sum parts - d)
of_degree parts d le =
    let rest = sum parts - d in
    let pairs = ways d (sum parts - d) in
    let inner : (j : List ℕ) → IsComposition j × (sum j ≡ d) → length (flat_map (λ k. ribbon_pair parts j k) (compositions rest)) ≤ 2 ^ rest * pairs =
    λ j hj.
    (let each : length (flat_map (λ k. ribbon_pair parts j k) (compositions rest)) ≤ length (compositions rest) * pairs =
    length-flat_map-le (λ k. IsComposition k × (sum k ≡ rest)) (λ k. ribbon_pair parts j k) pairs
    (λ k hk. subst (λ m. length (ribbon_pair parts j k) ≤ m) (λ i. ways (hj.1 i) (hk.1 i)) (few_of_pair parts j k hj.0 hk.0)) (compositions rest) (all_sums rest) in
    let most : length (compositions rest) * pairs ≤ 2 ^ rest * pairs = mul-le-mul (length-compositions rest) (omega arith) in
    omega (arith, each, most)) in
    let outer : length (flat_map (λ j. flat_map (λ k. ribbon_pair parts j k) (compositions rest)) (compositions d)) ≤ length (compositions d) * (2 ^ rest * pairs) =
    length-flat_map-le (λ j. IsComposition j × (sum j ≡ d)) (λ j. flat_map (λ k. ribbon_pair parts j k) (compositions rest)) (2 ^ rest * pairs) inner (compositions d) (all_sums d) in
    let most : length (compositions d) * (2 ^ rest * pairs) ≤ 2 ^ d * (2 ^ rest * pairs) = mul-le-mul (length-compositions d) (omega arith) in
    let whole : 2 ^ sum parts * pairs ≡ 2 ^ d * (2 ^ rest * pairs) =
    ap (λ m. m * pairs) (ap (λ m. 2 ^ m) (omega arith) ∙ pow-add 2 d rest) ∙ mul_assoc (2 ^ d) (2 ^ rest) pairs in
    omega (arith, outer, most, whole)

-- at most 2^n for each choice of the places of the first word, of which there are 2^n
pub few_ribbons : (parts : List ℕ) → length (ribbon_cuts parts) ≤ 2 ^ (2 * sum parts)
few_ribbons parts =
    let n = sum parts in
    let all : length (ribbon_cuts parts) ≤ sums (λ d. 2 ^ n * ways d (n - d)) (range_with_len 0 (suc n)) =
    subst (λ m. m ≤ sums (λ d. 2 ^ n * ways d (n - d)) (range_with_len 0 (suc n)))
    (sym (length-flat_map (λ d. flat_map (λ j. flat_map (λ k. ribbon_pair parts j k) (compositions (n - d))) (compositions d)) (range_with_len 0 (suc n))))
    (sums_range_le (λ d. length (flat_map (λ j. flat_map (λ k. ribbon_pair parts j k) (compositions (n - d))) (compositions d))) (λ d. 2 ^ n * ways d (n - d)) 0 (suc n)
    (λ d from to. of_degree parts d (omega arith))) in
    let both : sums (λ d. 2 ^ n * ways d (n - d)) (range_with_len 0 (suc n)) ≡ 2 ^ n * 2 ^ n =
    sums-scale (2 ^ n) (λ d. ways d (n - d)) (range_with_len 0 (suc n)) ∙ ap (λ m. 2 ^ n * m) (over_range n ways ∙ over_ways n) in
    let whole : 2 ^ (2 * n) ≡ 2 ^ n * 2 ^ n = ap (λ m. 2 ^ m) (omega arith) ∙ pow-add 2 n n in
    omega (arith, all, both, whole)

-- the rule of NCSF.R
pub ribbon_rule : RibbonCoproductLaw
ribbon_rule parts h = record { reads = ribbon_coproduct parts; indices = ribbon_pairs parts; few = let room : 2 ^ (2 * sum parts) ≤ 2 ^ (5 * sum parts) = pow_mono (omega arith) in omega (arith, few_ribbons parts) }
