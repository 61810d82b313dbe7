-- Sums over the cuts of exponent lists.
use Rattle.std.proofs.Common.{◌≡◌, ℕ, zero, suc, ◌+◌, List, [], ◌∷◌, map, refl, sym, ◌∙◌, ap, arith, Bool, true, false}
use Rattle.std.specs.Prelude.{ℤ, pos, ◌+ℤ◌}
use Rattle.std.proofs.lemmas.Int.{ints}
use Rattle.std.specs.List.{sum}
use Rattle.realisations.specs.Exponents.{number_cuts, exponent_cuts, is_one}
use Rattle.coproduct_rules.proofs.DegreeCuts.{sum-first}
use Rattle.antipode_laws.proofs.ExponentsOfOne.{is_one-suc}
use Rattle.antipode_laws.proofs.IntegerSums.{sum_over, sum_over-map, sum_over-flat_map, sum_over_same, sum_over-add, sum_over-zero, sum_over-swap}

-- over the cuts of a number
abbrev pub over_numbers : ℕ → (ℕ → ℕ → ℤ) → ℤ
over_numbers n f = sum_over (λ (e : ℕ × ℕ). f e.0 e.1) (number_cuts n)

pub over_numbers-suc : (n : ℕ) (f : ℕ → ℕ → ℤ) → over_numbers (suc n) f ≡ f 0 (suc n) +ℤ over_numbers n (λ x y. f (suc x) y)
over_numbers-suc n f = ap (λ z. f 0 (suc n) +ℤ z) (sum_over-map (λ (e : ℕ × ℕ). f e.0 e.1) (λ (e : ℕ × ℕ). (suc e.0, e.1)) (number_cuts n))

pub over_numbers-add : (n : ℕ) (f g : ℕ → ℕ → ℤ) → over_numbers n (λ x y. f x y +ℤ g x y) ≡ over_numbers n f +ℤ over_numbers n g
over_numbers-add n f g = sum_over-add (λ (e : ℕ × ℕ). f e.0 e.1) (λ (e : ℕ × ℕ). g e.0 e.1) (number_cuts n)

pub over_numbers_same : (n : ℕ) (f g : ℕ → ℕ → ℤ) → ((x y : ℕ) → x + y ≡ n → f x y ≡ g x y) → over_numbers n f ≡ over_numbers n g
over_numbers_same zero f g h = omega (arith, ints, h 0 0 (omega arith))
over_numbers_same (suc n) f g h =
    omega (
      arith,
      ints,
      over_numbers-suc n f,
      over_numbers-suc n g,
      h 0 (suc n) (omega arith),
      over_numbers_same n (λ x y. f (suc x) y) (λ x y. g (suc x) y) (λ x y e. h (suc x) y (omega (arith, e))),
    )

pub over_numbers-zero : (n : ℕ) → over_numbers n (λ x y. pos 0) ≡ pos 0
over_numbers-zero n = sum_over-zero (number_cuts n)

-- cutting the front again or the back again
pub over_numbers-three : (n : ℕ) (f : ℕ → ℕ → ℕ → ℤ) →
    over_numbers n (λ x y. over_numbers x (λ s t. f s t y)) ≡ over_numbers n (λ s r. over_numbers r (λ t y. f s t y))
over_numbers-three zero f = refl
over_numbers-three (suc n) f =
    let left : over_numbers (suc n) (λ x y. over_numbers x (λ s t. f s t y)) ≡ over_numbers 0 (λ s t. f s t (suc n)) +ℤ over_numbers n (λ x y. over_numbers (suc x) (λ s t. f s t y))
    = over_numbers-suc n (λ x y. over_numbers x (λ s t. f s t y)) in
    let each : over_numbers n (λ x y. over_numbers (suc x) (λ s t. f s t y)) ≡ over_numbers n (λ x y. f 0 (suc x) y +ℤ over_numbers x (λ s t. f (suc s) t y))
    = over_numbers_same n _ _ (λ x y e. over_numbers-suc x (λ s t. f s t y)) in
    let split : over_numbers n (λ x y. f 0 (suc x) y +ℤ over_numbers x (λ s t. f (suc s) t y)) ≡ over_numbers n (λ x y. f 0 (suc x) y) +ℤ over_numbers n (λ x y. over_numbers x (λ s t. f (suc s) t y))
    = over_numbers-add n (λ x y. f 0 (suc x) y) (λ x y. over_numbers x (λ s t. f (suc s) t y)) in
    let right : over_numbers (suc n) (λ s r. over_numbers r (λ t y. f s t y)) ≡ over_numbers (suc n) (λ t y. f 0 t y) +ℤ over_numbers n (λ s r. over_numbers r (λ t y. f (suc s) t y))
    = over_numbers-suc n (λ s r. over_numbers r (λ t y. f s t y)) in
    omega (arith, ints, left, each, split, right, over_numbers-three n (λ s t y. f (suc s) t y), over_numbers-suc n (λ t y. f 0 t y))

-- over the cuts of an exponent list
abbrev pub over_cuts : List ℕ → (List ℕ → List ℕ → ℤ) → ℤ
over_cuts p F = sum_over (λ (c : List ℕ × List ℕ). F c.0 c.1) (exponent_cuts p)

pub over_cuts-cons : (n : ℕ) (p : List ℕ) (F : List ℕ → List ℕ → ℤ) →
    over_cuts (n ∷ p) F ≡ over_numbers n (λ x y. over_cuts p (λ u v. F (x ∷ u) (y ∷ v)))
over_cuts-cons n p F =
    sum_over-flat_map (λ (c : List ℕ × List ℕ). F c.0 c.1) (λ (e : ℕ × ℕ). map (λ (c : List ℕ × List ℕ). (e.0 ∷ c.0, e.1 ∷ c.1)) (exponent_cuts p)) (number_cuts n)
    ∙ sum_over_same _ _ (λ (e : ℕ × ℕ). sum_over-map (λ (c : List ℕ × List ℕ). F c.0 c.1) (λ (c : List ℕ × List ℕ). (e.0 ∷ c.0, e.1 ∷ c.1)) (exponent_cuts p)) (number_cuts n)

pub over_cuts-add : (p : List ℕ) (F G : List ℕ → List ℕ → ℤ) → over_cuts p (λ u v. F u v +ℤ G u v) ≡ over_cuts p F +ℤ over_cuts p G
over_cuts-add p F G = sum_over-add (λ (c : List ℕ × List ℕ). F c.0 c.1) (λ (c : List ℕ × List ℕ). G c.0 c.1) (exponent_cuts p)

pub over_cuts_same : (p : List ℕ) (F G : List ℕ → List ℕ → ℤ) → ((u v : List ℕ) → sum u + sum v ≡ sum p → F u v ≡ G u v) → over_cuts p F ≡ over_cuts p G
over_cuts_same [] F G h = omega (arith, ints, h [] [] refl)
over_cuts_same (n ∷ p) F G h =
    over_cuts-cons n p F
    ∙ over_numbers_same n _ _ (λ x y e. over_cuts_same p (λ u v. F (x ∷ u) (y ∷ v)) (λ u v. G (x ∷ u) (y ∷ v)) (λ u v k. h (x ∷ u) (y ∷ v) (omega (arith, e, k, sum-first x u, sum-first y v, sum-first n p))))
    ∙ sym (over_cuts-cons n p G)

pub over_cuts-zero : (p : List ℕ) → over_cuts p (λ u v. pos 0) ≡ pos 0
over_cuts-zero p = sum_over-zero (exponent_cuts p)

pub over_cuts-three : (p : List ℕ) (F : List ℕ → List ℕ → List ℕ → ℤ) →
    over_cuts p (λ w v. over_cuts w (λ q r. F q r v)) ≡ over_cuts p (λ q s. over_cuts s (λ r v. F q r v))
over_cuts-three [] F = refl
over_cuts-three (n ∷ p) F =
    over_cuts-cons n p (λ w v. over_cuts w (λ q r. F q r v))
    ∙ over_numbers_same n _ _ (λ x y e.
    over_cuts_same p _ _ (λ w v k. over_cuts-cons x w (λ q r. F q r (y ∷ v)))
    ∙ sum_over-swap (λ (c : List ℕ × List ℕ) (d : ℕ × ℕ). over_cuts c.0 (λ q r. F (d.0 ∷ q) (d.1 ∷ r) (y ∷ c.1))) (exponent_cuts p) (number_cuts x)
    ∙ over_numbers_same x _ _ (λ s t k. over_cuts-three p (λ q r v. F (s ∷ q) (t ∷ r) (y ∷ v))))
    ∙ over_numbers-three n (λ s t y. over_cuts p (λ q w. over_cuts w (λ r v. F (s ∷ q) (t ∷ r) (y ∷ v))))
    ∙ over_numbers_same n _ _ (λ s r e.
    sum_over-swap (λ (d : ℕ × ℕ) (c : List ℕ × List ℕ). over_cuts c.1 (λ q v. F (s ∷ c.0) (d.0 ∷ q) (d.1 ∷ v))) (number_cuts r) (exponent_cuts p)
    ∙ over_cuts_same p _ _ (λ q w k. sym (over_cuts-cons r w (λ t v. F (s ∷ q) t v))))
    ∙ sym (over_cuts-cons n p (λ q s. over_cuts s (λ r v. F q r v)))

pub over_numbers-last : (n : ℕ) (f : ℕ → ℕ → ℤ) → over_numbers (suc n) f ≡ over_numbers n (λ x y. f x (suc y)) +ℤ f (suc n) 0
over_numbers-last zero f = omega (arith, ints)
over_numbers-last (suc n) f =
    omega (arith, ints, over_numbers-suc (suc n) f, over_numbers-last n (λ x y. f (suc x) y), over_numbers-suc n (λ x y. f x (suc y)))

-- the front and the back change places
pub flip_numbers : (n : ℕ) (f : ℕ → ℕ → ℤ) → over_numbers n f ≡ over_numbers n (λ x y. f y x)
flip_numbers zero f = refl
flip_numbers (suc n) f =
    omega (arith, ints, over_numbers-suc n f, over_numbers-last n (λ x y. f y x), flip_numbers n (λ x y. f (suc x) y))

pub flip : (p : List ℕ) (F : List ℕ → List ℕ → ℤ) → over_cuts p F ≡ over_cuts p (λ u v. F v u)
flip [] F = refl
flip (n ∷ p) F =
    over_cuts-cons n p F ∙ flip_numbers n (λ x y. over_cuts p (λ u v. F (x ∷ u) (y ∷ v)))
    ∙ over_numbers_same n _ _ (λ x y e. flip p (λ u v. F (y ∷ u) (x ∷ v)))
    ∙ sym (over_cuts-cons n p (λ u v. F v u))

-- nothing where the test holds
abbrev pub unless : Bool → ℤ → ℤ
unless true z = pos 0
unless false z = z

-- the cut whose front is zero has the whole as its back
pub front_zero : (p : List ℕ) (F : List ℕ → List ℕ → ℤ) (z : ℤ) → ((u : List ℕ) → is_one u ≡ true → F u p ≡ z) →
    over_cuts p F ≡ over_cuts p (λ u v. unless (is_one u) (F u v)) +ℤ z
front_zero [] F z h = omega (arith, ints, h [] refl)
front_zero (zero ∷ p) F z h =
    omega (
      arith,
      ints,
      over_cuts-cons 0 p F,
      over_cuts-cons 0 p (λ u v. unless (is_one u) (F u v)),
      front_zero p (λ u v. F (0 ∷ u) (0 ∷ v)) z (λ u e. h (0 ∷ u) e),
    )
front_zero (suc n ∷ p) F z h =
    let rest : over_numbers n (λ x y. over_cuts p (λ u v. F (suc x ∷ u) (y ∷ v))) ≡ over_numbers n (λ x y. over_cuts p (λ u v. unless (is_one (suc x ∷ u)) (F (suc x ∷ u) (y ∷ v)))) =
    over_numbers_same n _ _ (λ x y e. over_cuts_same p _ _ (λ u v k. ap (λ b. unless b (F (suc x ∷ u) (y ∷ v))) (sym (is_one-suc x u)))) in
    omega (
      arith,
      ints,
      rest,
      over_cuts-cons (suc n) p F,
      over_cuts-cons (suc n) p (λ u v. unless (is_one u) (F u v)),
      over_numbers-suc n (λ x y. over_cuts p (λ u v. F (x ∷ u) (y ∷ v))),
      over_numbers-suc n (λ x y. over_cuts p (λ u v. unless (is_one (x ∷ u)) (F (x ∷ u) (y ∷ v)))),
      front_zero p (λ u v. F (0 ∷ u) (suc n ∷ v)) z (λ u e. h (0 ∷ u) e),
    )

-- the cut whose back is zero has the whole as its front
pub back_zero : (p : List ℕ) (F : List ℕ → List ℕ → ℤ) (z : ℤ) → ((v : List ℕ) → is_one v ≡ true → F p v ≡ z) →
    over_cuts p F ≡ over_cuts p (λ u v. unless (is_one v) (F u v)) +ℤ z
back_zero p F z h =
    flip p F ∙ front_zero p (λ u v. F v u) z h ∙ ap (λ y. y +ℤ z) (sym (flip p (λ u v. unless (is_one v) (F u v))))
