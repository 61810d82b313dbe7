-- Where codes are replaced by indices of their degree, keys stay keys of indices, of the same total degree.
use Rattle.std.proofs.Common.{◌≡◌, ℕ, ◌<◌, ◌≤◌, List, length, set, ap, arith}
use Rattle.std.proofs.Math.IntN.{ℤ}
use Rattle.basis_names.specs.declared.bases.BasisId.{BasisId}
use Rattle.realisations.specs.Codes.{Code, Key}
use Rattle.realisations.specs.Indices.{AreIndices, IsIndex, degree_of, total_degree}
use Rattle.realisations.specs.Readings.{Terms}
use Rattle.basis_representatives.proofs.Places.{within}
use Rattle.linear_combos.specs.Keys.{code_at}
use Rattle.separation_laws.specs.Conversions.{basis_at}
use Rattle.separation_laws.proofs.EachTerm.{EachKey, each_both, each_weaker, indices-set, total_degree-set}
use Rattle.separation_laws.proofs.Expansions.{each-expanded, expanded}

-- terms of rank 1 over a basis, of indices of the degree of a code of another one
abbrev pub AreOfDegreeOf : BasisId → BasisId → Code → Terms → Type 0
AreOfDegreeOf from to code us = EachKey (λ k. IsIndex to (code_at k 0) × (degree_of to (code_at k 0) ≡ degree_of from code)) us

-- a key of indices whose code in component n is replaced by such terms
abbrev pub IsReplacedAt : ℕ → List BasisId → BasisId → BasisId → (Code → Terms) → Key → Type 0
IsReplacedAt n bases from to entries key = AreIndices bases key × AreOfDegreeOf from to (code_at key n) (entries (code_at key n))

module _ (n : ℕ) (bases : List BasisId) (lt : n < length bases) (from to : BasisId) (is : basis_at bases n ≡ from) (entries : Code → Terms) (ts : Terms) where
  pub indices-expanded : EachKey (IsReplacedAt n bases from to entries) ts → EachKey (AreIndices (set bases n to)) (expanded n entries ts)
  indices-expanded each =
      each-expanded (AreIndices (set bases n to)) (IsReplacedAt n bases from to entries) n entries ts
      (λ key h.
      each_weaker (λ (u : ℤ × Key). IsIndex to (code_at u.1 0) × (degree_of to (code_at u.1 0) ≡ degree_of from (code_at key n))) (λ (u : ℤ × Key). AreIndices (set bases n to) (set key n (code_at u.1 0)))
      (λ u k. indices-set n bases to key (code_at u.1 0) lt h.0 k.0) (entries (code_at key n)) h.1) each

  pub degrees-expanded : (d : ℕ) → EachKey (IsReplacedAt n bases from to entries) ts → EachKey (λ key. total_degree bases key ≤ d) ts
      → EachKey (λ key. total_degree (set bases n to) key ≤ d) (expanded n entries ts)
  degrees-expanded d each within =
      each-expanded (λ key. total_degree (set bases n to) key ≤ d) (λ key. IsReplacedAt n bases from to entries key × (total_degree bases key ≤ d)) n entries ts
      (λ key h.
      each_weaker (λ (u : ℤ × Key). IsIndex to (code_at u.1 0) × (degree_of to (code_at u.1 0) ≡ degree_of from (code_at key n))) (λ (u : ℤ × Key). total_degree (set bases n to) (set key n (code_at u.1 0)) ≤ d)
      (λ u k.
      let same : degree_of (basis_at bases n) (code_at key n) ≡ degree_of from (code_at key n) = ap (λ basis. degree_of basis (code_at key n)) is in
      omega (arith, same, k.1, h.1, total_degree-set n bases to key (code_at u.1 0) lt h.0.0)) (entries (code_at key n)) h.0.1)
      (each_both (λ (t : ℤ × Key). IsReplacedAt n bases from to entries t.1) (λ (t : ℤ × Key). total_degree bases t.1 ≤ d) ts each within)
