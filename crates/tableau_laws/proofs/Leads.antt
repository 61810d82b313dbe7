-- In each front of a word a letter r + 1 stands at most as often as r: letter by letter.
use Rattle.std.proofs.Common.{◌≡◌, ◌⊎◌, ℕ, zero, suc, ◌+◌, ◌<◌, ◌≤◌, List, [], ◌∷◌, ◌++◌, take, refl, sym, ◌∙◌, ap, subst, arith, inl, inr}
use Rattle.std.specs.Prelude.{nat_eq}
use Rattle.std.proofs.lemmas.Bool.{cases_eq, eq-eqb, ne_eqb}
use Rattle.realisations.specs.Lists.{one_if}
use Rattle.realisations.specs.Standardisation.{count_same}
use Rattle.realisations.proofs.RisingMaps.{Letters}
use Rattle.tableau_laws.specs.LatticeWords.{IsLatticeWord}
use Rattle.tableau_laws.specs.NumberedRows.{bumped}
use Rattle.tableau_laws.proofs.NumberedRows.{eq_is, ne_is}

-- behind a times r and b times r + 1, no front of the word has r + 1 more often in all than r
abbrev pub Leads : ℕ → ℕ → ℕ → List ℕ → Type 0
Leads r a b [] = Unit {0}
Leads r a b (c ∷ code) = (b + one_if (nat_eq c (suc r)) ≤ a + one_if (nat_eq c r)) × Leads r (a + one_if (nat_eq c r)) (b + one_if (nat_eq c (suc r))) code

-- it is so where it is so in each front
leads-fronts : (r a b : ℕ) (code : List ℕ) → ((k : ℕ) → b + count_same (suc r) (take k code) ≤ a + count_same r (take k code)) → Leads r a b code
leads-fronts r a b [] h = tt
leads-fronts r a b (c ∷ code) h = (
  omega (arith, h 1),
  leads-fronts r (a + one_if (nat_eq c r)) (b + one_if (nat_eq c (suc r))) code (λ k. omega (arith, h (suc k))),
)

-- and only there
fronts-leads : (r a b : ℕ) (code : List ℕ) → b ≤ a → Leads r a b code → (k : ℕ) → b + count_same (suc r) (take k code) ≤ a + count_same r (take k code)
fronts-leads r a b code le h zero = omega (arith, le)
fronts-leads r a b [] le h (suc k) = omega (arith, le)
fronts-leads r a b (c ∷ code) le h (suc k) = omega (arith, fronts-leads r (a + one_if (nat_eq c r)) (b + one_if (nat_eq c (suc r))) code h.0 h.1 k)

-- and so in a lattice word
pub lattice_by_leads : (code : List ℕ) → Letters (λ c. 1 ≤ c) code → ((r : ℕ) → 1 ≤ r → Leads r 0 0 code) → IsLatticeWord code
lattice_by_leads code positive leads = record {
  positive = positive;
  fronts = λ r k from. omega (arith, fronts-leads r 0 0 code (omega arith) (leads r from) k);
}

-- back from a lattice word
pub leads-lattice : (code : List ℕ) → IsLatticeWord code → (r : ℕ) → 1 ≤ r → Leads r 0 0 code
leads-lattice code h r from = leads-fronts r 0 0 code (λ k. omega (arith, h.fronts r k from))

-- in a front and the rest
pub leads-append : (r a b : ℕ) (u v : List ℕ) → Leads r a b u → Leads r (a + count_same r u) (b + count_same (suc r) u) v → Leads r a b (u ++ v)
leads-append r a b [] v h k = subst (λ n. Leads r n b v) (omega arith) (subst (λ n. Leads r (a + 0) n v) (omega arith) k)
leads-append r a b (c ∷ u) v h k = (
  h.0,
  leads-append r (a + one_if (nat_eq c r)) (b + one_if (nat_eq c (suc r))) u v h.1
      (subst (λ n. Leads r n ((b + one_if (nat_eq c (suc r))) + count_same (suc r) u) v) (omega arith) (subst (λ n. Leads r (a + (one_if (nat_eq c r) + count_same r u)) n v) (omega arith) k)),
)

-- so in the front
pub leads-front : (r a b : ℕ) (u v : List ℕ) → Leads r a b (u ++ v) → Leads r a b u
leads-front r a b [] v h = tt
leads-front r a b (c ∷ u) v h = (h.0, leads-front r (a + one_if (nat_eq c r)) (b + one_if (nat_eq c (suc r))) u v h.1)

-- with one letter more
pub leads-last : (r a b : ℕ) (u : List ℕ) (c : ℕ) → Leads r a b (u ++ (c ∷ [])) → b + count_same (suc r) u + one_if (nat_eq c (suc r)) ≤ a + count_same r u + one_if (nat_eq c r)
leads-last r a b [] c h = omega (arith, h.0)
leads-last r a b (d ∷ u) c h = omega (arith, leads-last r (a + one_if (nat_eq d r)) (b + one_if (nat_eq d (suc r))) u c h.1)

-- and in the whole
pub leads-end : (r a b : ℕ) (u : List ℕ) → Leads r a b u → b ≤ a → b + count_same (suc r) u ≤ a + count_same r u
leads-end r a b [] h le = omega (arith, le)
leads-end r a b (c ∷ u) h le = omega (arith, leads-end r (a + one_if (nat_eq c r)) (b + one_if (nat_eq c (suc r))) u h.1 h.0)

-- what goes on from row to row keeps the leads: row s has one letter more
pub leads-bumped : (r s a b : ℕ) (code : List ℕ) → b ≤ a → (s ≡ suc r → b < a) → Leads r a b code → Leads r (a + one_if (nat_eq s r)) (b + one_if (nat_eq s (suc r))) (bumped s code)
leads-bumped r s a b [] le more h = tt
leads-bumped r s a b (c ∷ code) le more h = elim (cases_eq c s) [
  | inl same ↦
      subst (Leads r (a + one_if (nat_eq s r)) (b + one_if (nat_eq s (suc r)))) (sym (goes_on same)) (
        first_on (cases_eq s r) (cases_eq s (suc r)),
        leads-bumped r (suc s) (a + one_if (nat_eq s r)) (b + one_if (nat_eq s (suc r))) code (subst (λ n. b + one_if (nat_eq n (suc r)) ≤ a + one_if (nat_eq n r)) same h.0)
            (λ e. let here : s ≡ r = omega (arith, e) in omega (arith, le, eq_is s r here, ne_is s (suc r) (λ q. absurd (omega (arith, q, here)))))
            (subst (λ n. Leads r (a + one_if (nat_eq n r)) (b + one_if (nat_eq n (suc r))) code) same h.1),
      )
  | inr other ↦
      subst (Leads r (a + one_if (nat_eq s r)) (b + one_if (nat_eq s (suc r)))) (sym (goes_by other)) (
        first_by other (cases_eq s (suc r)),
        subst (λ n. Leads r ((a + one_if (nat_eq s r)) + one_if (nat_eq c r)) n (bumped s code)) (swap b (one_if (nat_eq c (suc r))) (one_if (nat_eq s (suc r))))
            (subst (λ n. Leads r n ((b + one_if (nat_eq c (suc r))) + one_if (nat_eq s (suc r))) (bumped s code)) (swap a (one_if (nat_eq c r)) (one_if (nat_eq s r)))
            (leads-bumped r s (a + one_if (nat_eq c r)) (b + one_if (nat_eq c (suc r))) code h.0 (λ e. omega (arith, more e, ne_is c (suc r) (λ q. other (q ∙ sym e)))) h.1)),
      )
]
  where
    goes_on : c ≡ s → bumped s (c ∷ code) ≡ suc s ∷ bumped (suc s) code
    goes_on same = rw (eq-eqb c s same) refl

    goes_by : (c ≡ s → ⊥) → bumped s (c ∷ code) ≡ c ∷ bumped s code
    goes_by other = rw (ne_eqb c s other) refl

    swap : (a c s : ℕ) → (a + c) + s ≡ (a + s) + c
    swap a c s = omega arith

    first_on : (s ≡ r) ⊎ (s ≡ r → ⊥) → (s ≡ suc r) ⊎ (s ≡ suc r → ⊥)
        → (b + one_if (nat_eq s (suc r))) + one_if (nat_eq (suc s) (suc r)) ≤ (a + one_if (nat_eq s r)) + one_if (nat_eq (suc s) r)
    first_on (inl e) two = omega (arith, le, eq_is s r e, ne_is s (suc r) (λ q. absurd (omega (arith, q, e))), eq_is (suc s) (suc r) (ap suc e))
    first_on (inr n) (inl e) = omega (arith, more e, eq_is s (suc r) e, ne_is (suc s) (suc r) (λ q. n (omega (arith, q))))
    first_on (inr n) (inr m) = omega (arith, le, ne_is s (suc r) m, ne_is (suc s) (suc r) (λ q. n (omega (arith, q))))

    first_by : (c ≡ s → ⊥) → (s ≡ suc r) ⊎ (s ≡ suc r → ⊥)
        → (b + one_if (nat_eq s (suc r))) + one_if (nat_eq c (suc r)) ≤ (a + one_if (nat_eq s r)) + one_if (nat_eq c r)
    first_by other (inl e) = omega (arith, more e, eq_is s (suc r) e, ne_is c (suc r) (λ q. other (q ∙ sym e)))
    first_by other (inr n) = omega (arith, h.0, ne_is s (suc r) n)

-- and in the rest
pub leads-rest : (r a b : ℕ) (u v : List ℕ) → Leads r a b (u ++ v) → Leads r (a + count_same r u) (b + count_same (suc r) u) v
leads-rest r a b [] v h = subst (λ n. Leads r n (b + 0) v) (omega arith) (subst (λ n. Leads r a n v) (omega arith) h)
leads-rest r a b (c ∷ u) v h =
    subst (λ n. Leads r n (b + (one_if (nat_eq c (suc r)) + count_same (suc r) u)) v) (omega arith)
    (subst (λ n. Leads r ((a + one_if (nat_eq c r)) + count_same r u) n v) (omega arith) (leads-rest r (a + one_if (nat_eq c r)) (b + one_if (nat_eq c (suc r))) u v h.1))
