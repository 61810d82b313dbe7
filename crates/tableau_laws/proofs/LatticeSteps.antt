-- Lattice words grow letter by letter, and stay lattice words where a letter enters and bumps others.
use Rattle.std.proofs.Common.{◌≡◌, ◌⊎◌, ℕ, suc, ◌+◌, ◌≤◌, Bool, true, false, List, [], ◌∷◌, ◌++◌, arith, inl, inr}
use Rattle.std.specs.Prelude.{nat_eq, if◌then◌else◌}
use Rattle.std.proofs.lemmas.Bool.{cases_eq}
use Rattle.realisations.specs.Lists.{one_if}
use Rattle.realisations.specs.Standardisation.{count_same}
use Rattle.realisations.proofs.RisingMaps.{Letters}
use Rattle.basis_representatives.proofs.Letters.{Letters-append, Letters-front}
use Rattle.tableau_laws.specs.LatticeWords.{CanFollow, IsLatticeWord}
use Rattle.tableau_laws.specs.NumberedRows.{bumped}
use Rattle.tableau_laws.proofs.Leads.{lattice_by_leads, leads-append, leads-bumped, leads-end, leads-front, leads-last, leads-lattice, leads-rest}
use Rattle.tableau_laws.proofs.NumberedRows.{eq_is, ne_is}

-- the front of a lattice word is one
pub lattice-front : (u v : List ℕ) → IsLatticeWord (u ++ v) → IsLatticeWord u
lattice-front u v h = lattice_by_leads u (Letters-front (λ c. 1 ≤ c) u v h.positive) (λ r from. leads-front r 0 0 u v (leads-lattice (u ++ v) h r from))

-- its next letter can follow
pub follows-lattice : (u : List ℕ) (c : ℕ) → IsLatticeWord (u ++ (c ∷ [])) → CanFollow u c
follows-lattice u c h = record {
  positive = last_letter u h.positive;
  below = λ r from e. omega (arith, leads-last r 0 0 u c (leads-lattice (u ++ (c ∷ [])) h r from), eq_is c (suc r) e, ne_is c r (λ q. absurd (omega (arith, q, e))));
}
  where
    last_letter : (u : List ℕ) → Letters (λ y. 1 ≤ y) (u ++ (c ∷ [])) → 1 ≤ c
    last_letter [] k = k.0
    last_letter (x ∷ u) k = last_letter u k.1

-- and a lattice word with a letter that can follow is one
pub lattice-follows : (u : List ℕ) (c : ℕ) → IsLatticeWord u → CanFollow u c → IsLatticeWord (u ++ (c ∷ []))
lattice-follows u c h f =
    lattice_by_leads (u ++ (c ∷ [])) (Letters-append (λ y. 1 ≤ y) u (c ∷ []) h.positive (f.positive, tt))
    (λ r from. leads-append r 0 0 u (c ∷ []) (leads-lattice u h r from) (one_more r from (cases_eq c (suc r)) (leads-end r 0 0 u (leads-lattice u h r from) (omega arith)), tt))
  where
    one_more : (r : ℕ) → 1 ≤ r → (c ≡ suc r) ⊎ (c ≡ suc r → ⊥) → 0 + count_same (suc r) u ≤ 0 + count_same r u
        → (0 + count_same (suc r) u) + one_if (nat_eq c (suc r)) ≤ (0 + count_same r u) + one_if (nat_eq c r)
    one_more r from (inl e) le = omega (arith, f.below r from e, eq_is c (suc r) e)
    one_more r from (inr n) le = omega (arith, le, ne_is c (suc r) n)

-- a word of no letter is a lattice word
pub lattice-empty : IsLatticeWord []
lattice-empty = lattice_by_leads [] tt (λ r from. tt)

-- what goes on from row to row stays positive
positive-bumped : (s : ℕ) (code : List ℕ) → Letters (λ c. 1 ≤ c) code → Letters (λ c. 1 ≤ c) (bumped s code)
positive-bumped s [] h = tt
positive-bumped s (c ∷ code) h = by_test (nat_eq c s) (positive-bumped (suc s) code h.1) (positive-bumped s code h.1)
  where
    by_test : (b : Bool) → Letters (λ c. 1 ≤ c) (bumped (suc s) code) → Letters (λ c. 1 ≤ c) (bumped s code) → Letters (λ c. 1 ≤ c) (if b then suc s ∷ bumped (suc s) code else c ∷ bumped s code)
    by_test true next ih = (omega arith, next)
    by_test false next ih = (h.0, ih)

-- a lattice word stays one where a letter enters row 1 and bumps the letters past it
pub lattice-bumped : (u v : List ℕ) → IsLatticeWord (u ++ v) → IsLatticeWord (u ++ (1 ∷ bumped 1 v))
lattice-bumped u v h =
    lattice_by_leads (u ++ (1 ∷ bumped 1 v)) (Letters-append (λ c. 1 ≤ c) u (1 ∷ bumped 1 v) (Letters-front (λ c. 1 ≤ c) u v h.positive) (omega arith, positive-bumped 1 v (behind u h.positive)))
    (λ r from.
    let front = leads-front r 0 0 u v (leads-lattice (u ++ v) h r from) in
    let le : 0 + count_same (suc r) u ≤ 0 + count_same r u = leads-end r 0 0 u front (omega arith) in
    leads-append r 0 0 u (1 ∷ bumped 1 v) front (
      omega (arith, le, ne_is 1 (suc r) (λ q. absurd (omega (arith, q, from)))),
      leads-bumped r 1 (0 + count_same r u) (0 + count_same (suc r) u) v le (λ q. absurd (omega (arith, q, from))) (leads-rest r 0 0 u v (leads-lattice (u ++ v) h r from)),
    ))
  where
    behind : (u : List ℕ) → Letters (λ c. 1 ≤ c) (u ++ v) → Letters (λ c. 1 ≤ c) v
    behind [] k = k
    behind (x ∷ u) k = behind u k.1
