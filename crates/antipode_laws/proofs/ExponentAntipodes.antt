-- The antipode law for functions of exponents that do not see zeros.
use Rattle.std.proofs.Common.{◌≡◌, ℕ, zero, suc, ◌+◌, ◌<◌, ◌≤◌, List, [], ◌∷◌, ◌++◌, map, length, refl, sym, ◌∙◌, ap, arith, Bool, true, false}
use Rattle.std.specs.Prelude.{ℤ, pos, ◌+ℤ◌, neg_ℤ}
use Rattle.std.proofs.lemmas.Int.{ints}
use Rattle.std.specs.List.{sum}
use Rattle.std.specs.Prelude.{if◌then◌else◌}
use Rattle.std.proofs.Common.{inl, inr}
use Rattle.std.proofs.lemmas.Bool.{cases_lt}
use Rattle.realisations.specs.Lists.{with_sign}
use Rattle.realisations.specs.Exponents.{exponent_cuts, is_one, exponent_pieces, exponent_pieces_up_to}
use Rattle.antipode_laws.proofs.IntegerSums.{sum_over, sum_over-append, sum_over-map, sum_over-flat_map, sum_over_same, sum_over-neg, with_sign-add, with_sign-zero, with_sign-sum_over}
use Rattle.antipode_laws.proofs.ExponentsOfOne.{is_one-degree}
use Rattle.antipode_laws.proofs.ExponentCuts.{over_cuts, over_cuts-add, over_cuts_same, over_cuts-zero, over_cuts-three, unless, front_zero, back_zero}

-- over the ways to write p as a sum of k nonzero lists
abbrev pub over_pieces : ℕ → (List (List ℕ) → ℤ) → List ℕ → ℤ
over_pieces k h p = sum_over h (exponent_pieces k p)

pub over_pieces-suc : (k : ℕ) (h : List (List ℕ) → ℤ) (p : List ℕ) →
    over_pieces (suc k) h p ≡ over_cuts p (λ u v. unless (is_one u) (over_pieces k (λ c. h (u ∷ c)) v))
over_pieces-suc k h p =
    sum_over-flat_map h (λ (c : List ℕ × List ℕ). if is_one c.0 then [] else map (λ d. c.0 ∷ d) (exponent_pieces k c.1)) (exponent_cuts p)
    ∙ over_cuts_same p _ _ (λ u v e. each u v (is_one u))
  where
    each : (u v : List ℕ) (b : Bool) → sum_over h (if b then [] else map (λ d. u ∷ d) (exponent_pieces k v)) ≡ unless b (over_pieces k (λ c. h (u ∷ c)) v)
    each u v true = refl
    each u v false = sum_over-map h (λ d. u ∷ d) (exponent_pieces k v)

pub over_pieces_same : (k : ℕ) (f g : List (List ℕ) → ℤ) → ((c : List (List ℕ)) → f c ≡ g c) → (p : List ℕ) → over_pieces k f p ≡ over_pieces k g p
over_pieces_same k f g e p = sum_over_same f g e (exponent_pieces k p)

-- no more pieces than the sum
pub over_pieces-none : (k : ℕ) (h : List (List ℕ) → ℤ) (p : List ℕ) → sum p < k → over_pieces k h p ≡ pos 0
over_pieces-none zero h p e = absurd (omega arith)
over_pieces-none (suc k) h p e =
    over_pieces-suc k h p
    ∙ over_cuts_same p _ (λ u v. pos 0) (λ u v s. each u v s (is_one u) refl (λ q. over_pieces-none k (λ c. h (u ∷ c)) v q))
    ∙ over_cuts-zero p
  where
    each : (u v : List ℕ) → sum u + sum v ≡ sum p → (b : Bool) → is_one u ≡ b → (sum v < k → over_pieces k (λ c. h (u ∷ c)) v ≡ pos 0)
        → unless b (over_pieces k (λ c. h (u ∷ c)) v) ≡ pos 0
    each u v s true z ih = refl
    each u v s false z ih = ih (omega (arith, s, e, is_one-degree u z))

-- the sign is that of the number of pieces
pub over_pieces-sign : (k : ℕ) (h : List (List ℕ) → ℤ) (p : List ℕ) →
    over_pieces k (λ c. with_sign (length c) (h c)) p ≡ with_sign k (over_pieces k h p)
over_pieces-sign zero h p = each (is_one p)
  where
    each : (b : Bool) → sum_over (λ c. with_sign (length c) (h c)) (if b then [] ∷ [] else []) ≡ sum_over h (if b then [] ∷ [] else [])
    each true = refl
    each false = refl
over_pieces-sign (suc k) h p =
    over_pieces-suc k (λ c. with_sign (length c) (h c)) p
    ∙ over_cuts_same p _ (λ u v. with_sign (suc k) (unless (is_one u) (over_pieces k (λ c. h (u ∷ c)) v))) (λ u v e. each u v (is_one u) (over_pieces-sign k (λ c. h (u ∷ c)) v))
    ∙ sym (with_sign-sum_over (suc k) (λ (c : List ℕ × List ℕ). unless (is_one c.0) (over_pieces k (λ d. h (c.0 ∷ d)) c.1)) (exponent_cuts p))
    ∙ ap (with_sign (suc k)) (sym (over_pieces-suc k h p))
  where
    each : (u v : List ℕ) (b : Bool) → over_pieces k (λ c. with_sign (length c) (h (u ∷ c))) v ≡ with_sign k (over_pieces k (λ c. h (u ∷ c)) v)
        → unless b (over_pieces k (λ c. with_sign (length (u ∷ c)) (h (u ∷ c))) v) ≡ with_sign (suc k) (unless b (over_pieces k (λ c. h (u ∷ c)) v))
    each u v true ih = sym (with_sign-zero (suc k))
    each u v false ih = sum_over-neg (λ c. with_sign (length c) (h (u ∷ c))) (exponent_pieces k v) ∙ ap neg_ℤ ih

-- the signed sum over up to k pieces
abbrev pub signed_up_to : ℕ → (List (List ℕ) → ℤ) → List ℕ → ℤ
signed_up_to k h p = sum_over (λ c. with_sign (length c) (h c)) (exponent_pieces_up_to k p)

pub signed_up_to-zero : (h : List (List ℕ) → ℤ) (p : List ℕ) → signed_up_to 0 h p ≡ over_pieces 0 h p
signed_up_to-zero h p = over_pieces-sign 0 h p

pub signed_up_to-suc : (k : ℕ) (h : List (List ℕ) → ℤ) (p : List ℕ) → signed_up_to (suc k) h p ≡ signed_up_to k h p +ℤ with_sign (suc k) (over_pieces (suc k) h p)
signed_up_to-suc k h p =
    sum_over-append (λ c. with_sign (length c) (h c)) (exponent_pieces_up_to k p) (exponent_pieces (suc k) p)
    ∙ ap (λ z. signed_up_to k h p +ℤ z) (over_pieces-sign (suc k) h p)

-- more than the sum adds nothing
pub signed_up_to-more : (k : ℕ) (h : List (List ℕ) → ℤ) (p : List ℕ) → sum p ≤ k → signed_up_to (sum p) h p ≡ signed_up_to k h p
signed_up_to-more zero h p e = let z : sum p ≡ 0 = omega arith in ap (λ n. signed_up_to n h p) z
signed_up_to-more (suc k) h p e =
    elim (cases_lt k (sum p)) [
      | inl l ↦ (let z : sum p ≡ suc k = omega arith in ap (λ n. signed_up_to n h p) z)
      | inr l ↦ signed_up_to-more k h p l ∙ more l
    ]
  where
    more : sum p ≤ k → signed_up_to k h p ≡ signed_up_to (suc k) h p
    more l = omega (arith, ints, signed_up_to-suc k h p, ap (with_sign (suc k)) (over_pieces-none (suc k) h p (omega arith)), with_sign-zero (suc k))

-- the telescope: where the terms of k pieces give those of k + 1 and of k pieces of the whole, the signed sums give the last and the first
pub telescope : (p : List ℕ) (g : List ℕ → List ℕ → List (List ℕ) → ℤ) (r : List ℕ → List ℕ → List ℕ) (s : ℕ → ℤ)
    → ((k : ℕ) → over_cuts p (λ u v. over_pieces k (g u v) (r u v)) ≡ s (suc k) +ℤ s k)
    → (k : ℕ) → over_cuts p (λ u v. signed_up_to k (g u v) (r u v)) ≡ with_sign k (s (suc k)) +ℤ s 0
telescope p g r s h zero = over_cuts_same p _ _ (λ u v e. signed_up_to-zero (g u v) (r u v)) ∙ h 0
telescope p g r s h (suc k) =
    let split : over_cuts p (λ u v. signed_up_to (suc k) (g u v) (r u v))
    ≡ over_cuts p (λ u v. signed_up_to k (g u v) (r u v)) +ℤ over_cuts p (λ u v. with_sign (suc k) (over_pieces (suc k) (g u v) (r u v)))
    = over_cuts_same p _ _ (λ u v e. signed_up_to-suc k (g u v) (r u v))
    ∙ over_cuts-add p (λ u v. signed_up_to k (g u v) (r u v)) (λ u v. with_sign (suc k) (over_pieces (suc k) (g u v) (r u v))) in
    let signs : over_cuts p (λ u v. with_sign (suc k) (over_pieces (suc k) (g u v) (r u v))) ≡ with_sign (suc k) (s (suc (suc k)) +ℤ s (suc k))
    = sym (with_sign-sum_over (suc k) (λ (c : List ℕ × List ℕ). over_pieces (suc k) (g c.0 c.1) (r c.0 c.1)) (exponent_cuts p))
    ∙ ap (with_sign (suc k)) (h (suc k)) in
    omega (arith, ints, split, signs, telescope p g r s h k, with_sign-add k (s (suc (suc k))) (s (suc k)))

-- a front before the pieces of the back
pub front_step : (h : List (List ℕ) → ℤ) → ((z : List ℕ) (c : List (List ℕ)) → is_one z ≡ true → h (z ∷ c) ≡ h c) → (p : List ℕ) (k : ℕ) →
    over_cuts p (λ u v. over_pieces k (λ c. h (u ∷ c)) v) ≡ over_pieces (suc k) h p +ℤ over_pieces k h p
front_step h e p k =
    front_zero p (λ u v. over_pieces k (λ c. h (u ∷ c)) v) (over_pieces k h p) (λ u z. over_pieces_same k (λ c. h (u ∷ c)) h (λ c. e u c z) p)
    ∙ ap (λ y. y +ℤ over_pieces k h p) (sym (over_pieces-suc k h p))

-- the antipode on the second component
pub back_convolution : (h : List (List ℕ) → ℤ) → ((z : List ℕ) (c : List (List ℕ)) → is_one z ≡ true → h (z ∷ c) ≡ h c) → (p : List ℕ) →
    over_cuts p (λ u v. signed_up_to (sum v) (λ c. h (u ∷ c)) v) ≡ over_pieces 0 h p
back_convolution h e p =
    let all : over_cuts p (λ u v. signed_up_to (sum p) (λ c. h (u ∷ c)) v) ≡ with_sign (sum p) (over_pieces (suc (sum p)) h p) +ℤ over_pieces 0 h p
    = telescope p (λ u v c. h (u ∷ c)) (λ u v. v) (λ k. over_pieces k h p) (front_step h e p) (sum p) in
    let none : with_sign (sum p) (over_pieces (suc (sum p)) h p) ≡ pos 0 = ap (with_sign (sum p)) (over_pieces-none (suc (sum p)) h p (omega arith)) ∙ with_sign-zero (sum p) in
    over_cuts_same p _ _ (λ u v s. signed_up_to-more (sum p) (λ c. h (u ∷ c)) v (omega (arith, s)))
    ∙ omega (arith, ints, all, none)

-- only where the test holds
abbrev pub when : Bool → ℤ → ℤ
when b z = if b then z else pos 0

pub over_pieces-zero : (h : List (List ℕ) → ℤ) (p : List ℕ) → over_pieces 0 h p ≡ when (is_one p) (h [])
over_pieces-zero h p = each (is_one p)
  where
    each : (b : Bool) → sum_over h (if b then [] ∷ [] else []) ≡ when b (h [])
    each true = omega (arith, ints)
    each false = refl

pub unless_nothing : (b : Bool) → unless b (pos 0) ≡ pos 0
unless_nothing true = refl
unless_nothing false = refl

pub unless_when : (b : Bool) (z : ℤ) → unless b (when b z) ≡ pos 0
unless_when true z = refl
unless_when false z = refl

-- pieces of the front before the back as a last piece
pub last_step : (k : ℕ) (h : List (List ℕ) → ℤ) → ((c : List (List ℕ)) (z : List ℕ) → is_one z ≡ true → h (c ++ (z ∷ [])) ≡ h c) → (p : List ℕ) →
    over_cuts p (λ u v. over_pieces k (λ c. h (c ++ (v ∷ []))) u) ≡ over_pieces (suc k) h p +ℤ over_pieces k h p
last_step zero h e p =
    let left : over_cuts p (λ u v. over_pieces 0 (λ c. h (c ++ (v ∷ []))) u) ≡ h (p ∷ [])
    = over_cuts_same p _ (λ u v. when (is_one u) (h (v ∷ []))) (λ u v s. over_pieces-zero (λ c. h (c ++ (v ∷ []))) u)
    ∙ front_zero p (λ u v. when (is_one u) (h (v ∷ []))) (h (p ∷ [])) (λ u z. ap (λ b. when b (h (p ∷ []))) z)
    ∙ ap (λ y. y +ℤ h (p ∷ [])) (over_cuts_same p _ (λ u v. pos 0) (λ u v s. unless_when (is_one u) (h (v ∷ []))) ∙ over_cuts-zero p)
    ∙ omega (arith, ints) in
    let one : over_pieces 1 h p ≡ unless (is_one p) (h (p ∷ []))
    = over_pieces-suc 0 h p
    ∙ over_cuts_same p _ (λ u v. unless (is_one u) (when (is_one v) (h (u ∷ [])))) (λ u v s. ap (unless (is_one u)) (over_pieces-zero (λ c. h (u ∷ c)) v))
    ∙ back_zero p (λ u v. unless (is_one u) (when (is_one v) (h (u ∷ [])))) (unless (is_one p) (h (p ∷ []))) (λ v z. ap (λ b. unless (is_one p) (when b (h (p ∷ [])))) z)
    ∙ ap (λ y. y +ℤ unless (is_one p) (h (p ∷ [])))
    (over_cuts_same p _ (λ u v. pos 0) (λ u v s. none (is_one v) (is_one u) (h (u ∷ []))) ∙ over_cuts-zero p)
    ∙ omega (arith, ints) in
    omega (arith, ints, left, one, over_pieces-zero h p, both (is_one p) refl)
  where
    none : (b d : Bool) (z : ℤ) → unless b (unless d (when b z)) ≡ pos 0
    none true d z = refl
    none false d z = unless_nothing d

    both : (b : Bool) → is_one p ≡ b → h (p ∷ []) ≡ unless b (h (p ∷ [])) +ℤ when b (h [])
    both true z = omega (arith, ints, e [] p z)
    both false z = omega (arith, ints)
last_step (suc k) h e p =
    over_cuts_same p _ _ (λ u v s. over_pieces-suc k (λ c. h (c ++ (v ∷ []))) u)
    ∙ over_cuts-three p (λ q r v. unless (is_one q) (over_pieces k (λ c. h (q ∷ (c ++ (v ∷ [])))) r))
    ∙ over_cuts_same p _ (λ q s. unless (is_one q) (over_pieces (suc k) (λ c. h (q ∷ c)) s) +ℤ unless (is_one q) (over_pieces k (λ c. h (q ∷ c)) s))
    (λ q s t. each q s (is_one q) (last_step k (λ c. h (q ∷ c)) (λ c z w. e (q ∷ c) z w) s))
    ∙ over_cuts-add p (λ q s. unless (is_one q) (over_pieces (suc k) (λ c. h (q ∷ c)) s)) (λ q s. unless (is_one q) (over_pieces k (λ c. h (q ∷ c)) s))
    ∙ omega (arith, ints, over_pieces-suc (suc k) h p, over_pieces-suc k h p)
  where
    each : (q s : List ℕ) (b : Bool)
        → over_cuts s (λ r v. over_pieces k (λ c. h (q ∷ (c ++ (v ∷ [])))) r) ≡ over_pieces (suc k) (λ c. h (q ∷ c)) s +ℤ over_pieces k (λ c. h (q ∷ c)) s
        → over_cuts s (λ r v. unless b (over_pieces k (λ c. h (q ∷ (c ++ (v ∷ [])))) r)) ≡ unless b (over_pieces (suc k) (λ c. h (q ∷ c)) s) +ℤ unless b (over_pieces k (λ c. h (q ∷ c)) s)
    each q s true ih = over_cuts-zero s
    each q s false ih = ih

-- the antipode on the first component
pub front_convolution : (h : List (List ℕ) → ℤ) → ((c : List (List ℕ)) (z : List ℕ) → is_one z ≡ true → h (c ++ (z ∷ [])) ≡ h c) → (p : List ℕ) →
    over_cuts p (λ u v. signed_up_to (sum u) (λ c. h (c ++ (v ∷ []))) u) ≡ over_pieces 0 h p
front_convolution h e p =
    let all : over_cuts p (λ u v. signed_up_to (sum p) (λ c. h (c ++ (v ∷ []))) u) ≡ with_sign (sum p) (over_pieces (suc (sum p)) h p) +ℤ over_pieces 0 h p
    = telescope p (λ u v c. h (c ++ (v ∷ []))) (λ u v. u) (λ k. over_pieces k h p) (λ k. last_step k h e p) (sum p) in
    let none : with_sign (sum p) (over_pieces (suc (sum p)) h p) ≡ pos 0 = ap (with_sign (sum p)) (over_pieces-none (suc (sum p)) h p (omega arith)) ∙ with_sign-zero (sum p) in
    over_cuts_same p _ _ (λ u v s. signed_up_to-more (sum p) (λ c. h (c ++ (v ∷ []))) u (omega (arith, s)))
    ∙ omega (arith, ints, all, none)
