-- The antipode law for readings of any rank, in any component.
use Rattle.std.proofs.Common.{◌≡◌, ℕ, zero, suc, List, [], ◌∷◌, length, refl, sym, ◌∙◌, ap}
use Rattle.std.specs.Prelude.{ℤ, pos, if◌then◌else◌}
use Rattle.realisations.specs.Lists.{with_sign}
use Rattle.realisations.specs.Points.{Kind}
use Rattle.realisations.specs.Readings.{numerator, kinds_of, kinds_after_at, coproduct, antipode, counit, mult, reads_at, cuts, pieces, on_ordinal_sums}
use Rattle.coproduct_rules.specs.Components.{without_at}
use Rattle.antipode_laws.specs.Laws.{AntipodeLaw}
use Rattle.antipode_laws.specs.Units.{is_unit, is_unit_at, without_zeros_at}
use Rattle.antipode_laws.proofs.IntegerSums.{sum_over_same}
use Rattle.antipode_laws.proofs.OperationReads.{total, total_same, total_at, total_coproduct, total_mult, total_antipode, total_counit}
use Rattle.antipode_laws.proofs.IgnoredZeros.{leaf_ignores_zeros}
use Rattle.antipode_laws.proofs.AntipodeConvolutions.{convolved_left, convolved_right, convolved_left_is, convolved_right_is}

-- the coproduct of component n, the antipode of component m, and mult of component n
abbrev convolved : ℕ → ℕ → List Kind → (List (List ℕ) → ℤ) → List (List ℕ) → ℤ
convolved m n ks f ps =
    total (λ qs. total (λ rs. total f (reads_at n coproduct ks rs)) (reads_at m antipode (kinds_after_at n coproduct ks) qs))
    (reads_at n mult (kinds_after_at m antipode (kinds_after_at n coproduct ks)) ps)

convolved_first : (k : Kind) (ks : List Kind) (f : List (List ℕ) → ℤ) (p : List ℕ) (ps : List (List ℕ)) →
    convolved 0 0 (k ∷ ks) f (p ∷ ps) ≡ convolved_left k (λ x. f (x ∷ ps)) p
convolved_first k ks f p ps =
    let inner : List (List ℕ) → ℤ = λ rs. total f (reads_at 0 coproduct (k ∷ ks) rs) in
    let outer : List (List ℕ) → ℤ = λ qs. total inner (reads_at 0 antipode (k ∷ k ∷ ks) qs) in
    total_mult k outer p ps
    ∙ sum_over_same _ _
    (λ (e : List ℕ × List ℕ). total_antipode k inner e.0 (e.1 ∷ ps)
    ∙ sum_over_same _ _ (λ c. ap (with_sign (length c)) (sum_over_same _ _ (λ w. total_coproduct k f w e.1 ps) (on_ordinal_sums k c))) (pieces k e.0))
    (cuts k p)

convolved_second : (k : Kind) (ks : List Kind) (f : List (List ℕ) → ℤ) (p : List ℕ) (ps : List (List ℕ)) →
    convolved 1 0 (k ∷ ks) f (p ∷ ps) ≡ convolved_right k (λ x. f (x ∷ ps)) p
convolved_second k ks f p ps =
    let inner : List (List ℕ) → ℤ = λ rs. total f (reads_at 0 coproduct (k ∷ ks) rs) in
    let outer : List (List ℕ) → ℤ = λ qs. total inner (reads_at 1 antipode (k ∷ k ∷ ks) qs) in
    total_mult k outer p ps
    ∙ sum_over_same _ _
    (λ (e : List ℕ × List ℕ). total_at inner 0 antipode k (k ∷ ks) e.0 (e.1 ∷ ps) ∙ total_antipode k (λ qs. inner (e.0 ∷ qs)) e.1 ps
    ∙ sum_over_same _ _ (λ c. ap (with_sign (length c)) (sum_over_same _ _ (λ w. total_coproduct k f e.0 w ps) (on_ordinal_sums k c))) (pieces k e.1))
    (cuts k p)

convolved_next : (m n : ℕ) (k : Kind) (ks : List Kind) (f : List (List ℕ) → ℤ) (p : List ℕ) (ps : List (List ℕ)) →
    convolved (suc m) (suc n) (k ∷ ks) f (p ∷ ps) ≡ convolved m n ks (λ qs. f (p ∷ qs)) ps
convolved_next m n k ks f p ps =
    let inner : List (List ℕ) → ℤ = λ rs. total f (reads_at (suc n) coproduct (k ∷ ks) rs) in
    let outer : List (List ℕ) → ℤ = λ qs. total inner (reads_at (suc m) antipode (k ∷ kinds_after_at n coproduct ks) qs) in
    total_at outer n mult k (kinds_after_at m antipode (kinds_after_at n coproduct ks)) p ps
    ∙ total_same _ _
    (λ qs. total_at inner m antipode k (kinds_after_at n coproduct ks) p qs
    ∙ total_same _ _ (λ rs. total_at f n coproduct k ks p rs) (reads_at m antipode (kinds_after_at n coproduct ks) qs))
    (reads_at n mult (kinds_after_at m antipode (kinds_after_at n coproduct ks)) ps)

-- the counit of component n, where the unit is 1
abbrev at_unit : ℕ → List Kind → (List (List ℕ) → ℤ) → List (List ℕ) → ℤ
at_unit n ks f ps = if is_unit_at n ks ps then total f (reads_at n counit ks (without_at n ps)) else pos 0

convolved_is : (n : ℕ) (ks : List Kind) (f : List (List ℕ) → ℤ) (ps : List (List ℕ)) → ((qs : List (List ℕ)) → f qs ≡ f (without_zeros_at n ks qs)) →
    (convolved n n ks f ps ≡ at_unit n ks f ps) × (convolved (suc n) n ks f ps ≡ at_unit n ks f ps)
convolved_is zero [] f ps e = (refl, refl)
convolved_is zero (k ∷ ks) f [] e = (refl, refl)
convolved_is zero (k ∷ ks) f (p ∷ ps) e =
    let counit_is : (if is_unit k p then f ([] ∷ ps) else pos 0) ≡ at_unit 0 (k ∷ ks) f (p ∷ ps) =
    ap (λ z. if is_unit k p then z else pos 0) (sym (total_counit k f ps)) in (
      convolved_first k ks f p ps ∙ convolved_left_is k (λ x. f (x ∷ ps)) (λ q. e (q ∷ ps)) p ∙ counit_is,
      convolved_second k ks f p ps ∙ convolved_right_is k (λ x. f (x ∷ ps)) (λ q. e (q ∷ ps)) p ∙ counit_is,
    )
convolved_is (suc n) [] f ps e = (refl, refl)
convolved_is (suc n) (k ∷ ks) f [] e = (refl, refl)
convolved_is (suc n) (k ∷ ks) f (p ∷ ps) e =
    let ih : (convolved n n ks (λ qs. f (p ∷ qs)) ps ≡ at_unit n ks (λ qs. f (p ∷ qs)) ps) × (convolved (suc n) n ks (λ qs. f (p ∷ qs)) ps ≡ at_unit n ks (λ qs. f (p ∷ qs)) ps) =
    convolved_is n ks (λ qs. f (p ∷ qs)) ps (λ qs. e (p ∷ qs)) in
    let counit_is : at_unit n ks (λ qs. f (p ∷ qs)) ps ≡ at_unit (suc n) (k ∷ ks) f (p ∷ ps) =
    ap (λ z. if is_unit_at n ks ps then z else pos 0) (sym (total_at f n counit k ks p (without_at n ps))) in
    (convolved_next n n k ks f p ps ∙ ih.0 ∙ counit_is, convolved_next (suc n) n k ks f p ps ∙ ih.1 ∙ counit_is)

-- the law
pub antipode_law : AntipodeLaw
antipode_law = record {
  first = λ n a ignores ps. (convolved_is n (kinds_of a) (numerator a) ps ignores).0;
  second = λ n a ignores ps. (convolved_is n (kinds_of a) (numerator a) ps ignores).1;
  combinations = leaf_ignores_zeros;
}
