-- The coproduct rule of the ribbons that lists pairs letter by letter.
use Rattle.std.proofs.Common.{◌≡◌, ℕ, zero, suc, ◌+◌, ◌-◌, ◌*◌, ◌^◌, ◌≤◌, Bool, true, false, List, [], ◌∷◌, map, length, refl, ap, arith}
use Rattle.std.specs.List.{sum}
use Rattle.std.proofs.Math.Nat.{pow-suc}
use Rattle.std.proofs.lemmas.List.{length-append, length-map}
use Rattle.std.proofs.lemmas.List.Sums.{sum_by-cons}
use Rattle.basis_names.specs.declared.bases.BasisId.TheVariants.{NcsfR}
use Rattle.coproduct_laws.specs.Coproducts.{IsCoproductRule, terms_of_pairs}
use Rattle.coproduct_rules.proofs.PartPairs.{any, length-flat_map-le}
use Rattle.index_rules.specs.Rules.{IsAnswerWithin}
use Rattle.index_rules.proofs.PairAnswers.{pairs_within}
use Rattle.linear_combos.specs.Combos.{IsSumOfTerms}
use Rattle.realisations.specs.Codes.{Code}
use Rattle.realisations.specs.Combinations.{Combination}
use Rattle.realisations.specs.IndexKinds.{IsComposition}
use Rattle.realisations.specs.Pairings.{longer_compositions}
use Rattle.realisations.specs.Readings.{applied, coproduct, element}
use Rattle.realisations.proofs.Every.{every-append, every-map}
use Rattle.ncsf.specs.PairLists.{with_letter, Sides, before_own, before_other, with_first_letter, with_letters, has_parts, sides_of, ribbon_pairs}
use Rattle.ncsf.proofs.Growth.{power_from}
use Rattle.ncsf.proofs.RibbonCounts.{ribbon_pairs_coproduct}
use Rattle.ncsf.proofs.Sides.{IsPair, pairs_of_sides}

-- how many pairs there are
abbrev size : Sides → ℕ
size sides = length sides.low + length sides.high

size-own : (falls : Bool) (xs : List (List ℕ × List ℕ)) → length (before_own falls xs) ≡ length xs
size-own falls xs = length-map {B = List ℕ × List ℕ} xs (λ (e : List ℕ × List ℕ). (with_letter falls e.0, e.1))

size-other : (ys : List (List ℕ × List ℕ)) → length (before_other ys) ≤ length ys * 2
size-other ys = length-flat_map-le (λ (e : List ℕ × List ℕ). Unit {0}) (λ (e : List ℕ × List ℕ). map (λ parts. (parts, e.0)) (longer_compositions e.1)) 2 (λ e h. two e.0 e.1) ys (any ys)
  where
    two : (j k : List ℕ) → length {A = List ℕ × List ℕ} (map (λ parts. (parts, j)) (longer_compositions k)) ≤ 2
    two j [] = omega arith
    two j (i ∷ parts) = omega arith

size-longer : (falls : Bool) (sides : Sides) → size (with_first_letter falls sides) ≤ 4 * size sides
size-longer true sides =
    omega (arith, size-own true sides.low, size-own true sides.high, length-append (before_own true sides.high) (before_other sides.low), size-other sides.low)
size-longer false sides =
    omega (arith, size-own false sides.low, size-own false sides.high, length-append (before_own false sides.low) (before_other sides.high), size-other sides.high)

size-letters : (n m : ℕ) (sides : Sides) → size sides ≤ 4 ^ m → size (with_letters n sides) ≤ 4 ^ (n + m)
size-letters zero m sides le = let e : 0 + m ≡ m = omega arith in omega (arith, le, ap (λ k. 4 ^ k) e)
size-letters (suc n) m sides le =
    let e : suc n + m ≡ suc (n + m) = omega arith in
    omega (arith, size-longer false (with_letters n sides), size-letters n m sides le, pow-suc 4 (n + m), ap (λ k. 4 ^ k) e)

size-sides : (parts : List ℕ) → IsComposition parts → size (sides_of parts) ≤ 4 ^ sum parts
size-sides [] h = omega arith
size-sides (i ∷ parts) h =
    let first : size (with_first_letter (has_parts parts) (sides_of parts)) ≤ 4 ^ suc (sum parts) = omega (arith, size-longer (has_parts parts) (sides_of parts), size-sides parts h.1, pow-suc 4 (sum parts)) in
    let e : (i - 1) + suc (sum parts) ≡ sum (i ∷ parts) = omega (arith, h.0, sum_by-cons (λ (k : ℕ). k) i parts) in
    omega (arith, size-letters (i - 1) (suc (sum parts)) (with_first_letter (has_parts parts) (sides_of parts)) first, ap (λ k. 4 ^ k) e)

four : (n : ℕ) → 4 ^ n ≡ 2 ^ (2 * n)
four zero = refl
four (suc n) = let e : 2 * suc n ≡ suc (suc (2 * n)) = omega arith in omega (arith, four n, pow-suc 4 n, pow-suc 2 (2 * n), pow-suc 2 (suc (2 * n)), ap (λ k. 2 ^ k) e)

pub few_pairs_of_ribbon : (parts : List ℕ) → IsComposition parts → length (ribbon_pairs parts) ≤ 2 ^ (2 * sum parts)
few_pairs_of_ribbon parts h =
    let sides = sides_of parts in
    omega (
      arith,
      length-append sides.low (map (λ (e : List ℕ × List ℕ). (e.1, e.0)) sides.high),
      length-map {B = List ℕ × List ℕ} sides.high (λ (e : List ℕ × List ℕ). (e.1, e.0)),
      size-sides parts h,
      four (sum parts),
    )

-- a coproduct rule
pub pairs_rule : (parts : Code) → IsComposition parts → IsCoproductRule NcsfR parts (ribbon_pairs parts)
pairs_rule parts h =
    let pairs = pairs_of_sides parts h in
    record {
      reads = ribbon_pairs_coproduct parts h;
      indices = every-append (IsPair (sum parts)) (sides_of parts).low (map (λ (e : List ℕ × List ℕ). (e.1, e.0)) (sides_of parts).high) pairs.low
          (every-map (IsPair (sum parts)) (IsPair (sum parts)) (λ (e : List ℕ × List ℕ). (e.1, e.0)) (λ e is. (is.1, is.0, omega (arith, is.2))) (sides_of parts).high pairs.high);
      few = omega (arith, few_pairs_of_ribbon parts h, power_from (2 * sum parts) (5 * sum parts) (omega arith));
    }

pub ribbon_cuts_within : (parts : Code) (c : Combination) → IsComposition parts → IsSumOfTerms 2 (terms_of_pairs (ribbon_pairs parts)) c
    → IsAnswerWithin 2 (NcsfR ∷ NcsfR ∷ []) (sum parts) (applied coproduct 0 (element NcsfR parts)) c
ribbon_cuts_within parts c h is = pairs_within NcsfR parts (ribbon_pairs parts) (pairs_rule parts h) 2 (few_pairs_of_ribbon parts h) c is
