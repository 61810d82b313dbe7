-- Any terms over a denominator, where both have room, have a canonical combination.
use Rattle.std.proofs.Common.{◌≡◌, ℕ, zero, suc, ◌/◌, ◌^◌, ◌<◌, ◌≤◌, List, [], ◌∷◌, length, refl, ◌∙◌, ap, arith, unsigned_abs}
use Rattle.std.proofs.Math.IntN.{ℤ, pos, ◌*ℤ◌}
use Rattle.std.specs.Int.{◌∣◌, IsGcd}
use Rattle.std.proofs.lemmas.Nat.Gcd.{dvd_refl, dvd_trans}
use Rattle.hopf_num.proofs.CommonDivisors.{gcd-exists}
use Rattle.realisations.specs.Combinations.{AreTerms, Combination, IsCanonical, norm_of, term_at}
use Rattle.realisations.specs.Readings.{Terms}
use Rattle.linear_combos.specs.Combos.{Gathers}
use Rattle.linear_combos.specs.Merges.{IsCommon, IsOver, IsUnreduced, quotients}
use Rattle.linear_combos.proofs.Gathering.{gathered}
use Rattle.linear_combos.proofs.LowestCombos.{IsCanonical-quotients, IsOver-quotients}

-- one numerator more
common_more : (den : ℕ) (t : ℤ × List (List ℕ)) (ts : Terms) (g h : ℕ) → IsCommon den ts g → IsGcd (unsigned_abs t.0) g h → IsCommon den (t ∷ ts) h
common_more den t ts g h old is = record {
  divides_den = dvd_trans h is.1 old.divides_den;
  divides = each;
  greatest = λ d p all. is.2 d (all 0 (omega arith)) (old.greatest d p (λ i lt. all (suc i) (omega arith)));
}
  where
    each : (i : ℕ) → i < length (t ∷ ts) → h ∣ unsigned_abs (term_at (t ∷ ts) i).0
    each zero lt = is.0
    each (suc i) lt = dvd_trans h is.1 (old.divides i (omega arith))

-- a denominator and numerators have a greatest common divisor
common_exists : (den : ℕ) (ts : Terms) → (g : ℕ) × IsCommon den ts g
common_exists den [] = (den, record { divides_den = dvd_refl den; divides = λ i lt. absurd (omega arith); greatest = λ d p all. p })
common_exists den (t ∷ ts) =
    let rest = common_exists den ts in
    let more = gcd-exists (unsigned_abs t.0) rest.0 in
    (more.0, common_more den t ts rest.0 more.0 rest.1 more.1)

-- a canonical combination of terms over a denominator
pub record IsCanonicalOver (rank den : ℕ) (ts : Terms) (c : Combination) : Type 0 where
  pub canonical : IsCanonical c.rank c.den c.terms
  pub over : IsOver rank den ts c

-- canonical terms are brought to lowest terms
lowest_exists : (rank den : ℕ) (ts : Terms) → AreTerms rank ts → 1 ≤ den → den < 2 ^ 127 → (c : Combination) × IsCanonicalOver rank den ts c
lowest_exists rank den ts ordered positive small =
    let common = common_exists den ts in
    let is : IsUnreduced rank den ts (norm_of ts) common.0 = record { ordered = ordered; positive = positive; small = small; norm_is = refl; common_is = common.1 } in (
      record { rank = rank; den = den / common.0; terms = quotients common.0 ts },
      record { canonical = (IsCanonical-quotients rank den ts (norm_of ts) common.0 is).0; over = IsOver-quotients rank den ts (norm_of ts) common.0 is },
    )

-- what is over gathered terms is over the terms
over_gathered : (rank den : ℕ) (ts us : Terms) (c : Combination) → Gathers rank ts us → IsOver rank den us c → IsOver rank den ts c
over_gathered rank den ts us c g over = record {
  rank = over.rank;
  weighs = λ weight. over.weighs weight ∙ ap (λ z. z *ℤ pos c.den) (g.weighs weight);
  keys = λ key has. g.keys key (over.keys key has);
  den_within = over.den_within;
  norm_within = omega (arith, over.norm_within, g.norm);
}

-- any terms of one rank are gathered first
pub combination_exists : (rank den : ℕ) (ts : Terms) → ((i : ℕ) → i < length ts → length ((term_at ts i).1) ≡ rank) → norm_of ts < 2 ^ 127 → 1 ≤ den → den < 2 ^ 127
    → (c : Combination) × IsCanonicalOver rank den ts c
combination_exists rank den ts ranks room positive small =
    let g = gathered rank ts ranks room in
    let made = lowest_exists rank den g.0 g.1.terms positive small in
    (made.0, record { canonical = made.1.canonical; over = over_gathered rank den ts g.0 made.0 g.1 made.1.over })
