-- Words whose letters are all 1.
use Rattle.std.proofs.Common.{◌≡◌, ℕ, zero, suc, ◌<◌, ◌≤◌, List, [], ◌∷◌, length, replicate, refl, arith}
use Rattle.realisations.specs.Standardisation.{count_below, count_same}
use Rattle.realisations.specs.Words.{greatest}
use Rattle.realisations.proofs.PointsOfReadings.{word_replicated}
use Rattle.realisations.proofs.RisingMaps.{Letters}
use Rattle.basis_representatives.proofs.Counts.{one_if-self}
use Rattle.basis_representatives.proofs.Letters.{Letters-weaker}
use Rattle.coproduct_rules.proofs.InversePlaces.{none_below_one}

-- a word is one where they are from 1 to 1
pub ones : (u : List ℕ) → Letters (λ x. 1 ≤ x) u → Letters (λ x. x ≤ 1) u → u ≡ replicate (length u) 1
ones [] h k = refl
ones (x ∷ u) h k = let same : x ≡ 1 = omega (arith, h.0, k.0) in let rest = ones u h.1 k.1 in λ i. same i ∷ rest i

-- how many there are
pub count_ones : (n : ℕ) → count_same 1 (replicate n 1) ≡ n
count_ones zero = refl
count_ones (suc n) = omega (arith, one_if-self 1, count_ones n)

-- none is smaller
pub below_ones : (n : ℕ) → count_below 1 (replicate n 1) ≡ 0
below_ones n = none_below_one (replicate n 1) (Letters-weaker (λ x. 1 ≤ x) (λ x. 0 < x) (λ x k. k) (replicate n 1) (word_replicated n 1 (omega arith)))

-- and none is greater
pub greatest_ones : (n : ℕ) → greatest (replicate (suc n) 1) ≡ 1
greatest_ones zero = omega arith
greatest_ones (suc n) = omega (arith, greatest_ones n)
