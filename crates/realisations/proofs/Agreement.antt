-- Agreement of readings at points is an equivalence, and each operation on readings respects it.
use Rattle.std.proofs.Common.{◌≡◌, ℕ, ◌*◌, ◌≤◌, List, [], ◌∷◌, length, map, take, drop, refl, sym, ◌∙◌, ap, arith}
use Rattle.std.specs.List.{AllByRecursion}
use Rattle.std.proofs.Math.IntN.{ℤ, pos, ◌+ℤ◌, ◌*ℤ◌, *ℤ_comm, zero-*ℤ, pos-*ℤ-pos}
use Rattle.std.proofs.lemmas.Int.{ints}
use Rattle.hopf_num.proofs.Ring.{+ℤ-*ℤ, *ℤ_assoc, *ℤ-pos_cancel}
use Rattle.realisations.specs.Lists.{int_sum}
use Rattle.realisations.specs.Points.{Kind, ArePoints}
use Rattle.realisations.specs.Readings.{Reading, product, tensor, sum_of, multiple, kinds_of, all_cuts, numerator, denominator, AgreeAt}
use Rattle.realisations.proofs.Coefficients.{Codes}
use Rattle.realisations.proofs.PointsOfReadings.{cuts_of_points}

-- the last two factors of three change places
pub times_turned : (a b c : ℤ) → (a *ℤ b) *ℤ c ≡ (a *ℤ c) *ℤ b
times_turned a b c = sym (*ℤ_assoc a b c) ∙ ap (λ z. a *ℤ z) (*ℤ_comm b c) ∙ *ℤ_assoc a c b

-- a product over a product of denominators, factor by factor
factor_by_factor : (x y : ℤ) (m n : ℕ) → (x *ℤ y) *ℤ pos (m * n) ≡ (x *ℤ pos m) *ℤ (y *ℤ pos n)
factor_by_factor x y m n =
    ap (λ z. (x *ℤ y) *ℤ z) (sym (pos-*ℤ-pos m n)) ∙ *ℤ_assoc (x *ℤ y) (pos m) (pos n)
    ∙ ap (λ z. z *ℤ pos n) (times_turned x y (pos m)) ∙ sym (*ℤ_assoc (x *ℤ pos m) y (pos n))

-- the products of fractions that are the same are the same
products_same : (x x' y y' : ℤ) (m m' n n' : ℕ) → x *ℤ pos m' ≡ x' *ℤ pos m → y *ℤ pos n' ≡ y' *ℤ pos n
    → (x *ℤ y) *ℤ pos (m' * n') ≡ (x' *ℤ y') *ℤ pos (m * n)
products_same x x' y y' m m' n n' left right =
    factor_by_factor x y m' n' ∙ ap (λ z. z *ℤ (y *ℤ pos n')) left ∙ ap (λ z. (x' *ℤ pos m) *ℤ z) right ∙ sym (factor_by_factor x' y' m n)

-- sums that are the same over two denominators, term by term
sums_agree : {X : Type 0} (P : X → Type 0) (f g : X → ℤ) (k l : ℤ) → ((x : X) → P x → f x *ℤ k ≡ g x *ℤ l) → (xs : List X) → AllByRecursion P xs
    → int_sum (map f xs) *ℤ k ≡ int_sum (map g xs) *ℤ l
sums_agree P f g k l same [] h = zero-*ℤ k ∙ sym (zero-*ℤ l)
sums_agree P f g k l same (x ∷ xs) h =
    omega (arith, ints, +ℤ-*ℤ (f x) (int_sum (map f xs)) k, +ℤ-*ℤ (g x) (int_sum (map g xs)) l, same x h.0, sums_agree P f g k l same xs h.1)

-- a reading agrees with itself
pub agree_refl : (a : Reading) (ps : List (List ℕ)) → AgreeAt a a ps
agree_refl a ps = refl

-- readings that agree with a third one, over a positive denominator, agree
pub agree_trans : (a b c : Reading) (ps : List (List ℕ)) → 1 ≤ denominator b → AgreeAt a b ps → AgreeAt b c ps → AgreeAt a c ps
agree_trans a b c ps positive left right =
    let x = numerator a ps in
    let y = numerator b ps in
    let z = numerator c ps in
    let k = denominator a in
    let m = denominator b in
    let n = denominator c in
    *ℤ-pos_cancel (x *ℤ pos n) (z *ℤ pos k) m positive
    (times_turned x (pos n) (pos m) ∙ ap (λ w. w *ℤ pos n) left ∙ times_turned y (pos k) (pos n) ∙ ap (λ w. w *ℤ pos k) right ∙ times_turned z (pos m) (pos k))

-- sums of readings that agree
pub sum_agrees : (a a' b b' : Reading) (ps : List (List ℕ)) → AgreeAt a a' ps → AgreeAt b b' ps → AgreeAt (sum_of a b) (sum_of a' b') ps
sum_agrees a a' b b' ps left right =
    let x = numerator a ps in
    let x' = numerator a' ps in
    let y = numerator b ps in
    let y' = numerator b' ps in
    let m = denominator a in
    let m' = denominator a' in
    let n = denominator b in
    let n' = denominator b' in
    let first : (x *ℤ pos n) *ℤ pos (m' * n') ≡ (x' *ℤ pos n') *ℤ pos (m * n) =
    products_same x x' (pos n) (pos n') m m' n n' left (*ℤ_comm (pos n) (pos n')) in
    let second : (pos m *ℤ y) *ℤ pos (m' * n') ≡ (pos m' *ℤ y') *ℤ pos (m * n) =
    products_same (pos m) (pos m') y y' m m' n n' (*ℤ_comm (pos m) (pos m')) right in
    +ℤ-*ℤ (x *ℤ pos n) (y *ℤ pos m) (pos (m' * n'))
    ∙ ap (λ z. z +ℤ (y *ℤ pos m) *ℤ pos (m' * n')) first
    ∙ ap (λ z. (x' *ℤ pos n') *ℤ pos (m * n) +ℤ z) (ap (λ z. z *ℤ pos (m' * n')) (*ℤ_comm y (pos m)) ∙ second ∙ ap (λ z. z *ℤ pos (m * n)) (*ℤ_comm (pos m') y'))
    ∙ sym (+ℤ-*ℤ (x' *ℤ pos n') (y' *ℤ pos m') (pos (m * n)))

-- multiples of readings that agree, by ratios that are the same
pub multiple_agrees : (num num' : ℤ) (den den' : ℕ) (a a' : Reading) (ps : List (List ℕ)) → num *ℤ pos den' ≡ num' *ℤ pos den → AgreeAt a a' ps
    → AgreeAt (multiple num den a) (multiple num' den' a') ps
multiple_agrees num num' den den' a a' ps same agree =
    products_same num num' (numerator a ps) (numerator a' ps) den den' (denominator a) (denominator a') same agree

-- tensors of readings that agree, each at its own points
pub tensor_agrees : (a a' b b' : Reading) (ps : List (List ℕ)) → kinds_of a ≡ kinds_of a'
    → AgreeAt a a' (take (length (kinds_of a)) ps) → AgreeAt b b' (drop (length (kinds_of a)) ps) → AgreeAt (tensor a b) (tensor a' b') ps
tensor_agrees a a' b b' ps kinds left right =
    let first = λ (n : ℕ). take n ps in
    let rest = λ (n : ℕ). drop n ps in
    let at = length (kinds_of a) in
    products_same (numerator a (first at)) (numerator a' (first at)) (numerator b (rest at)) (numerator b' (rest at)) (denominator a) (denominator a') (denominator b) (denominator b') left right
    ∙ ap (λ (ks : List Kind). (numerator a' (first (length ks)) *ℤ numerator b' (rest (length ks))) *ℤ pos (denominator a * denominator b)) kinds

-- products of readings that agree at all points
pub product_agrees : (a a' b b' : Reading) (ps : List (List ℕ)) → kinds_of a ≡ kinds_of a' → ArePoints (kinds_of a) ps
    → ((qs : List (List ℕ)) → ArePoints (kinds_of a) qs → AgreeAt a a' qs)
    → ((qs : List (List ℕ)) → ArePoints (kinds_of a) qs → AgreeAt b b' qs)
    → AgreeAt (product a b) (product a' b') ps
product_agrees a a' b b' ps kinds points left right =
    let f = λ (c : Codes × Codes). numerator a c.0 *ℤ numerator b c.1 in
    let g = λ (c : Codes × Codes). numerator a' c.0 *ℤ numerator b' c.1 in
    let over = pos (denominator a * denominator b) in
    let over' = pos (denominator a' * denominator b') in
    sums_agree (λ (c : Codes × Codes). ArePoints (kinds_of a) c.0 × ArePoints (kinds_of a) c.1) f g over' over
    (λ c both.
    products_same (numerator a c.0) (numerator a' c.0) (numerator b c.1) (numerator b' c.1) (denominator a) (denominator a') (denominator b) (denominator b')
    (left c.0 both.0) (right c.1 both.1))
    (all_cuts (kinds_of a) ps) (cuts_of_points (kinds_of a) ps points)
    ∙ ap (λ (ks : List Kind). int_sum (map g (all_cuts ks ps)) *ℤ over) kinds
