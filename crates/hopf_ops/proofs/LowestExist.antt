-- Any terms over a denominator, where both have room, have a canonical combination.
use Rattle.std.proofs.Common.{◌≡◌, ℕ, ◌^◌, ◌<◌, ◌≤◌, List, length, ◌∙◌, ap, arith}
use Rattle.std.proofs.Math.IntN.{pos, ◌*ℤ◌}
use Rattle.realisations.specs.Readings.{Terms}
use Rattle.realisations.specs.Combinations.{Combination, IsCanonical, norm_of, term_at}
use Rattle.index_rules.proofs.ReducedCombos.{lowest_exists}
use Rattle.linear_combos.specs.Merges.{IsOver as IsCombinationOver}
use Rattle.linear_combos.specs.Combos.{Gathers}
use Rattle.linear_combos.proofs.Gathering.{gathered}
use Rattle.basis_names.specs.declared.bases.BasisId.{BasisId}
use Rattle.hopf_laws.specs.Values.{IsValue}
use Rattle.hopf_ops.specs.Answers.{IsOver}

-- a canonical combination of terms over a denominator
pub record IsCanonicalOver (rank den : ℕ) (ts : Terms) (c : Combination) : Type 0 where
  pub canonical : IsCanonical c.rank c.den c.terms
  pub over : IsCombinationOver rank den ts c

-- what is over gathered terms is over the terms
over_gathered : (rank den : ℕ) (ts us : Terms) (c : Combination) → Gathers rank ts us → IsCombinationOver rank den us c → IsCombinationOver rank den ts c
over_gathered rank den ts us c g over = record {
  rank = over.rank;
  weighs = λ weight. over.weighs weight ∙ ap (λ z. z *ℤ pos c.den) (g.weighs weight);
  keys = λ key has. g.keys key (over.keys key has);
  den_within = over.den_within;
  norm_within = omega (arith, over.norm_within, g.norm);
}

-- any terms of one rank are gathered first
pub combination_exists : (rank den : ℕ) (ts : Terms) → ((i : ℕ) → i < length ts → length ((term_at ts i).1) ≡ rank) → norm_of ts < 2 ^ 127 → 1 ≤ den → den < 2 ^ 127
    → (c : Combination) × IsCanonicalOver rank den ts c
combination_exists rank den ts ranks room positive small =
    let g = gathered rank ts ranks room in
    let made = lowest_exists (record { rank = rank; den = 1; terms = g.0 }) den positive small g.1.terms in
    (made.0, record { canonical = made.1.canonical; over = over_gathered rank den ts g.0 made.0 g.1 made.1.over })

-- a canonical combination over bases is a value
pub value_over : (bases : List BasisId) (c : Combination) → IsOver bases c → IsCanonical c.rank c.den c.terms → IsValue (record { bases = bases; combination = c })
value_over bases c is canonical = record { short = is.short; built = is.built; rank = is.rank; canonical = canonical; indices = is.indices; degrees = is.degrees }
