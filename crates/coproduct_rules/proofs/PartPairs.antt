-- The cuts of a composition part by part are pairs of compositions, at most 2^n of them.
use Rattle.std.proofs.Common.{◌≡◌, ℕ, zero, suc, ◌+◌, ◌*◌, ◌^◌, ◌≤◌, List, [], ◌∷◌, map, length, refl, ◌∙◌, ap, arith}
use Rattle.std.specs.List.{AllByRecursion, flat_map, sum}
use Rattle.std.proofs.Math.Nat.{pow-suc, mul-le-mul}
use Rattle.std.proofs.Math.Pow.{pow_mono}
use Rattle.std.proofs.lemmas.Nat.{pow-add}
use Rattle.std.proofs.lemmas.List.{length-append, length-map}
use Rattle.realisations.specs.Exponents.{number_cuts, exponent_cuts, without_zeros}
use Rattle.realisations.specs.IndexKinds.{IsComposition}
use Rattle.realisations.proofs.Every.{every-any, every-flat_map, every-map}
use Rattle.basis_representatives.proofs.BlockWords.{IsComposition-without_zeros}
use Rattle.coproduct_laws.proofs.ValuePairs.{suc-le-pow_two}
use Rattle.coproduct_rules.specs.Laws.{CompleteCoproductLaw, ElementaryCoproductLaw}
use Rattle.coproduct_rules.specs.PartCuts.{part_cuts}
use Rattle.coproduct_rules.proofs.DegreeCuts.{sum-first}
use Rattle.coproduct_rules.proofs.MultiplicativeRules.{complete_coproduct, elementary_coproduct}

-- a power of 2 doubles
pub pow_two-suc : (n : ℕ) → 2 ^ suc n ≡ 2 ^ n + 2 ^ n
pow_two-suc n = omega (arith, pow-suc 2 n)

-- no property
pub any : {X : Type 0} (xs : List X) → AllByRecursion (λ x. Unit {0}) xs
any xs = every-any (λ x. Unit {0}) (λ x. tt) xs

-- lists of a bounded length, one for each element
pub length-flat_map-le : {X Y : Type 0} (P : X → Type 0) (f : X → List Y) (b : ℕ) → ((x : X) → P x → length (f x) ≤ b) → (xs : List X) → AllByRecursion P xs → length (flat_map f xs) ≤ length xs * b
length-flat_map-le P f b each [] h = omega arith
length-flat_map-le P f b each (x ∷ xs) h = omega (arith, length-append (f x) (flat_map f xs), each x h.0, length-flat_map-le P f b each xs h.1)

-- the cuts of n add to n
all_number_cuts : (n : ℕ) → AllByRecursion (λ (e : ℕ × ℕ). e.0 + e.1 ≡ n) (number_cuts n)
all_number_cuts zero = (omega arith, tt)
all_number_cuts (suc n) = (omega arith, every-map (λ (e : ℕ × ℕ). e.0 + e.1 ≡ n) (λ e. e.0 + e.1 ≡ suc n) (λ (e : ℕ × ℕ). (suc e.0, e.1)) (λ e h. omega (arith, h)) (number_cuts n) (all_number_cuts n))

-- zeros add nothing
sum-without_zeros : (parts : List ℕ) → sum (without_zeros parts) ≡ sum parts
sum-without_zeros [] = refl
sum-without_zeros (zero ∷ parts) = omega (arith, sum-without_zeros parts, sum-first 0 parts)
sum-without_zeros (suc i ∷ parts) = omega (arith, sum-without_zeros parts, sum-first (suc i) parts, sum-first (suc i) (without_zeros parts))

-- the cuts of all parts add to the sum
all_exponent_cuts : (parts : List ℕ) → AllByRecursion (λ (c : List ℕ × List ℕ). sum c.0 + sum c.1 ≡ sum parts) (exponent_cuts parts)
all_exponent_cuts [] = (omega arith, tt)
all_exponent_cuts (n ∷ parts) =
    every-flat_map (λ (e : ℕ × ℕ). e.0 + e.1 ≡ n) (λ (c : List ℕ × List ℕ). sum c.0 + sum c.1 ≡ sum (n ∷ parts)) (λ (e : ℕ × ℕ). map (λ (c : List ℕ × List ℕ). (e.0 ∷ c.0, e.1 ∷ c.1)) (exponent_cuts parts))
    (λ e h. every-map (λ (c : List ℕ × List ℕ). sum c.0 + sum c.1 ≡ sum parts) _ (λ (c : List ℕ × List ℕ). (e.0 ∷ c.0, e.1 ∷ c.1))
    (λ c k. omega (arith, h, k, sum-first e.0 c.0, sum-first e.1 c.1, sum-first n parts)) (exponent_cuts parts) (all_exponent_cuts parts))
    (number_cuts n) (all_number_cuts n)

-- the pairs of the rule that cuts each part
part_pairs : (parts : List ℕ) → AllByRecursion (λ (e : List ℕ × List ℕ). IsComposition e.0 × IsComposition e.1 × (sum e.0 + sum e.1 ≡ sum parts)) (part_cuts parts)
part_pairs parts =
    every-map (λ (c : List ℕ × List ℕ). sum c.0 + sum c.1 ≡ sum parts) _ (λ (c : List ℕ × List ℕ). (without_zeros c.0, without_zeros c.1))
    (λ c h. (IsComposition-without_zeros c.0, IsComposition-without_zeros c.1, omega (arith, h, sum-without_zeros c.0, sum-without_zeros c.1))) (exponent_cuts parts) (all_exponent_cuts parts)

-- n + 1 cuts of the number n
length-number_cuts : (n : ℕ) → length (number_cuts n) ≡ suc n
length-number_cuts zero = refl
length-number_cuts (suc n) = omega (arith, length-map {B = ℕ × ℕ} (number_cuts n) (λ (e : ℕ × ℕ). (suc e.0, e.1)), length-number_cuts n)

-- the cuts of all parts, at most 2^n
pub length-exponent_cuts : (parts : List ℕ) → length (exponent_cuts parts) ≤ 2 ^ sum parts
length-exponent_cuts [] = omega arith
length-exponent_cuts (n ∷ parts) =
    let product : length (exponent_cuts (n ∷ parts)) ≤ length (number_cuts n) * length (exponent_cuts parts) =
    length-flat_map-le (λ (e : ℕ × ℕ). Unit {0}) (λ (e : ℕ × ℕ). map (λ (c : List ℕ × List ℕ). (e.0 ∷ c.0, e.1 ∷ c.1)) (exponent_cuts parts)) (length (exponent_cuts parts))
    (λ e h. omega (arith, length-map {B = List ℕ × List ℕ} (exponent_cuts parts) (λ (c : List ℕ × List ℕ). (e.0 ∷ c.0, e.1 ∷ c.1)))) (number_cuts n) (any (number_cuts n)) in
    let first : length (number_cuts n) ≤ 2 ^ n = omega (arith, length-number_cuts n, suc-le-pow_two n) in
    let both : length (number_cuts n) * length (exponent_cuts parts) ≤ 2 ^ n * 2 ^ sum parts = mul-le-mul first (length-exponent_cuts parts) in
    let whole : 2 ^ sum (n ∷ parts) ≡ 2 ^ n * 2 ^ sum parts = ap (λ m. 2 ^ m) (sum-first n parts) ∙ pow-add 2 n (sum parts) in
    omega (arith, product, both, whole)

pub few_parts : (parts : List ℕ) → length (part_cuts parts) ≤ 2 ^ sum parts
few_parts parts =
    omega (arith, length-map {B = List ℕ × List ℕ} (exponent_cuts parts) (λ (c : List ℕ × List ℕ). (without_zeros c.0, without_zeros c.1)), length-exponent_cuts parts)

-- which is at most the bound of an answer
few_enough : (parts : List ℕ) → length (part_cuts parts) ≤ 2 ^ (5 * sum parts)
few_enough parts = let room : 2 ^ sum parts ≤ 2 ^ (5 * sum parts) = pow_mono (omega arith) in omega (arith, few_parts parts)

-- the rule of NCSF.S
pub complete_rule : CompleteCoproductLaw
complete_rule parts h = record { reads = complete_coproduct parts h; indices = part_pairs parts; few = few_enough parts }

-- the rule of NCSF.L
pub elementary_rule : ElementaryCoproductLaw
elementary_rule parts h = record { reads = elementary_coproduct parts h; indices = part_pairs parts; few = few_enough parts }
