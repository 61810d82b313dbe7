-- Shuffles: associativity over sums, raising, the greatest letter.
use Rattle.std.proofs.Common.{◌≡◌, ℕ, ◌+◌, List, [], ◌∷◌, map, refl, sym, ◌∙◌, ap, arith}
use Rattle.std.specs.Prelude.{ℤ, ◌+ℤ◌, max}
use Rattle.std.proofs.lemmas.Int.{ints}
use Rattle.realisations.specs.Words.{greatest, raise}
use Rattle.realisations.specs.Words.{shuffles, shifted_shuffles}
use Rattle.antipode_laws.proofs.IntegerSums.{sum_over, sum_over-append, sum_over-map, sum_over_same, sum_over-add}

-- the sum of a function over the shuffles
abbrev pub over : (List ℕ → ℤ) → List ℕ → List ℕ → ℤ
over a u v = sum_over a (shuffles u v)

pub over_step : (a : List ℕ → ℤ) (x : ℕ) (u : List ℕ) (y : ℕ) (v : List ℕ) →
    over a (x ∷ u) (y ∷ v) ≡ over (λ w. a (x ∷ w)) u (y ∷ v) +ℤ over (λ w. a (y ∷ w)) (x ∷ u) v
over_step a x u y v =
    sum_over-append a (map (λ w. x ∷ w) (shuffles u (y ∷ v))) (map (λ w. y ∷ w) (shuffles (x ∷ u) v))
    ∙ omega (arith, ints, sum_over-map a (λ w. x ∷ w) (shuffles u (y ∷ v)), sum_over-map a (λ w. y ∷ w) (shuffles (x ∷ u) v))

pub over_nil_right : (a : List ℕ → ℤ) (u : List ℕ) → over a u [] ≡ a u
over_nil_right a [] = omega (arith, ints)
over_nil_right a (x ∷ u) = omega (arith, ints)

pub over_nil_left : (a : List ℕ → ℤ) (v : List ℕ) → over a [] v ≡ a v
over_nil_left a v = omega (arith, ints)

pub over_same : (a b : List ℕ → ℤ) → ((w : List ℕ) → a w ≡ b w) → (u v : List ℕ) → over a u v ≡ over b u v
over_same a b e u v = sum_over_same a b e (shuffles u v)

pub over-add : (a b : List ℕ → ℤ) (u v : List ℕ) → over (λ w. a w +ℤ b w) u v ≡ over a u v +ℤ over b u v
over-add a b u v = sum_over-add a b (shuffles u v)

-- shuffles of a shuffle, on the left and on the right
abbrev pub left_three : (List ℕ → ℤ) → List ℕ → List ℕ → List ℕ → ℤ
left_three a u v t = over (λ w. over a w t) u v

abbrev pub right_three : (List ℕ → ℤ) → List ℕ → List ℕ → List ℕ → ℤ
right_three a u v t = over (λ w. over a u w) v t

pub left_three_step : (a : List ℕ → ℤ) (x : ℕ) (u : List ℕ) (y : ℕ) (v : List ℕ) (z : ℕ) (t : List ℕ) →
    left_three a (x ∷ u) (y ∷ v) (z ∷ t)
    ≡ left_three (λ w. a (x ∷ w)) u (y ∷ v) (z ∷ t) +ℤ (left_three (λ w. a (y ∷ w)) (x ∷ u) v (z ∷ t) +ℤ left_three (λ w. a (z ∷ w)) (x ∷ u) (y ∷ v) t)
left_three_step a x u y v z t =
    let cut : left_three a (x ∷ u) (y ∷ v) (z ∷ t) ≡ over (λ w. over a (x ∷ w) (z ∷ t)) u (y ∷ v) +ℤ over (λ w. over a (y ∷ w) (z ∷ t)) (x ∷ u) v
    = over_step (λ w. over a w (z ∷ t)) x u y v in
    let one : over (λ w. over a (x ∷ w) (z ∷ t)) u (y ∷ v) ≡ left_three (λ w. a (x ∷ w)) u (y ∷ v) (z ∷ t) +ℤ over (λ w. over (λ s. a (z ∷ s)) (x ∷ w) t) u (y ∷ v)
    = over_same _ _ (λ w. over_step a x w z t) u (y ∷ v) ∙ over-add (λ w. over (λ s. a (x ∷ s)) w (z ∷ t)) (λ w. over (λ s. a (z ∷ s)) (x ∷ w) t) u (y ∷ v) in
    let two : over (λ w. over a (y ∷ w) (z ∷ t)) (x ∷ u) v ≡ left_three (λ w. a (y ∷ w)) (x ∷ u) v (z ∷ t) +ℤ over (λ w. over (λ s. a (z ∷ s)) (y ∷ w) t) (x ∷ u) v
    = over_same _ _ (λ w. over_step a y w z t) (x ∷ u) v ∙ over-add (λ w. over (λ s. a (y ∷ s)) w (z ∷ t)) (λ w. over (λ s. a (z ∷ s)) (y ∷ w) t) (x ∷ u) v in
    omega (arith, ints, cut, one, two, over_step (λ w. over (λ s. a (z ∷ s)) w t) x u y v)

pub right_three_step : (a : List ℕ → ℤ) (x : ℕ) (u : List ℕ) (y : ℕ) (v : List ℕ) (z : ℕ) (t : List ℕ) →
    right_three a (x ∷ u) (y ∷ v) (z ∷ t)
    ≡ right_three (λ w. a (x ∷ w)) u (y ∷ v) (z ∷ t) +ℤ (right_three (λ w. a (y ∷ w)) (x ∷ u) v (z ∷ t) +ℤ right_three (λ w. a (z ∷ w)) (x ∷ u) (y ∷ v) t)
right_three_step a x u y v z t =
    let cut : right_three a (x ∷ u) (y ∷ v) (z ∷ t) ≡ over (λ w. over a (x ∷ u) (y ∷ w)) v (z ∷ t) +ℤ over (λ w. over a (x ∷ u) (z ∷ w)) (y ∷ v) t
    = over_step (λ w. over a (x ∷ u) w) y v z t in
    let one : over (λ w. over a (x ∷ u) (y ∷ w)) v (z ∷ t) ≡ over (λ w. over (λ s. a (x ∷ s)) u (y ∷ w)) v (z ∷ t) +ℤ right_three (λ w. a (y ∷ w)) (x ∷ u) v (z ∷ t)
    = over_same _ _ (λ w. over_step a x u y w) v (z ∷ t) ∙ over-add (λ w. over (λ s. a (x ∷ s)) u (y ∷ w)) (λ w. over (λ s. a (y ∷ s)) (x ∷ u) w) v (z ∷ t) in
    let two : over (λ w. over a (x ∷ u) (z ∷ w)) (y ∷ v) t ≡ over (λ w. over (λ s. a (x ∷ s)) u (z ∷ w)) (y ∷ v) t +ℤ right_three (λ w. a (z ∷ w)) (x ∷ u) (y ∷ v) t
    = over_same _ _ (λ w. over_step a x u z w) (y ∷ v) t ∙ over-add (λ w. over (λ s. a (x ∷ s)) u (z ∷ w)) (λ w. over (λ s. a (z ∷ s)) (x ∷ u) w) (y ∷ v) t in
    omega (arith, ints, cut, one, two, over_step (λ w. over (λ s. a (x ∷ s)) u w) y v z t)

-- shuffling is associative
pub over_assoc : (a : List ℕ → ℤ) (u v t : List ℕ) → left_three a u v t ≡ right_three a u v t
over_assoc a [] v t =
    over_nil_left (λ w. over a w t) v ∙ sym (over_same (λ w. over a [] w) a (λ w. over_nil_left a w) v t)
over_assoc a (x ∷ u) [] t =
    over_nil_right (λ w. over a w t) (x ∷ u) ∙ sym (over_nil_left (λ w. over a (x ∷ u) w) t)
over_assoc a (x ∷ u) (y ∷ v) [] =
    over_same (λ w. over a w []) a (λ w. over_nil_right a w) (x ∷ u) (y ∷ v) ∙ sym (over_nil_right (λ w. over a (x ∷ u) w) (y ∷ v))
over_assoc a (x ∷ u) (y ∷ v) (z ∷ t) =
    omega (
      arith,
      ints,
      left_three_step a x u y v z t,
      right_three_step a x u y v z t,
      over_assoc (λ w. a (x ∷ w)) u (y ∷ v) (z ∷ t),
      over_assoc (λ w. a (y ∷ w)) (x ∷ u) v (z ∷ t),
      over_assoc (λ w. a (z ∷ w)) (x ∷ u) (y ∷ v) t,
    )

-- raising
pub raise-add : (k l : ℕ) (w : List ℕ) → raise (k + l) w ≡ raise k (raise l w)
raise-add k l [] = refl
raise-add k l (x ∷ w) = let e : k + l + x ≡ k + (l + x) = omega arith in rw (e, raise-add k l w)

pub raise-zero : (w : List ℕ) → raise 0 w ≡ w
raise-zero [] = refl
raise-zero (x ∷ w) = let e : 0 + x ≡ x = omega arith in rw (e, raise-zero w)

pub over-raise : (a : List ℕ → ℤ) (k : ℕ) (u v : List ℕ) → over a (raise k u) (raise k v) ≡ over (λ w. a (raise k w)) u v
over-raise a k [] v = refl
over-raise a k (x ∷ u) [] = refl
over-raise a k (x ∷ u) (y ∷ v) =
    omega (
      arith,
      ints,
      over_step a (k + x) (raise k u) (k + y) (raise k v),
      over_step (λ w. a (raise k w)) x u y v,
      over-raise (λ w. a ((k + x) ∷ w)) k u (y ∷ v),
      over-raise (λ w. a ((k + y) ∷ w)) k (x ∷ u) v,
    )

-- the greatest letter of each shuffle: functions that agree on the words of this greatest letter have one sum
pub over_same_greatest : (a b : List ℕ → ℤ) (u v : List ℕ) →
    ((w : List ℕ) → greatest w ≡ max (greatest u) (greatest v) → a w ≡ b w) → over a u v ≡ over b u v
over_same_greatest a b [] v e = let h : greatest v ≡ max 0 (greatest v) = omega arith in omega (arith, ints, e v h)
over_same_greatest a b (x ∷ u) [] e = let h : greatest (x ∷ u) ≡ max (greatest (x ∷ u)) 0 = omega arith in omega (arith, ints, e (x ∷ u) h)
over_same_greatest a b (x ∷ u) (y ∷ v) e =
    omega (
      arith,
      ints,
      over_step a x u y v,
      over_step b x u y v,
      over_same_greatest (λ w. a (x ∷ w)) (λ w. b (x ∷ w)) u (y ∷ v) (λ w h. e (x ∷ w) (omega arith)),
      over_same_greatest (λ w. a (y ∷ w)) (λ w. b (y ∷ w)) (x ∷ u) v (λ w h. e (y ∷ w) (omega arith)),
    )

pub greatest-raise : (k : ℕ) (u : List ℕ) (w : List ℕ) → max k (greatest (raise k w)) ≡ k + greatest w
greatest-raise k u [] = omega arith
greatest-raise k u (x ∷ w) = omega (arith, greatest-raise k u w)

-- raised shuffling is associative
pub raised_assoc : (a : List ℕ → ℤ) (u v t : List ℕ) →
    sum_over (λ w. sum_over a (shifted_shuffles w t)) (shifted_shuffles u v) ≡ sum_over (λ w. sum_over a (shifted_shuffles u w)) (shifted_shuffles v t)
raised_assoc a u v t =
    over_same_greatest (λ w. over a w (raise (greatest w) t)) (λ w. over a w (raise (greatest u + greatest v) t)) u (raise (greatest u) v)
    (λ w h. ap (λ n. over a w (raise n t)) (h ∙ greatest-raise (greatest u) u v))
    ∙ over_assoc a u (raise (greatest u) v) (raise (greatest u + greatest v) t)
    ∙ ap (λ s. over (λ w. over a u w) (raise (greatest u) v) s) (raise-add (greatest u) (greatest v) t)
    ∙ over-raise (λ w. over a u w) (greatest u) v (raise (greatest v) t)
