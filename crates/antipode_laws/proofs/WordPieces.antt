-- The signed sum over the pieces of a front and the rest as a last piece is nothing, and so is that over a front as a first piece.
use Rattle.std.proofs.Common.{◌≡◌, ℕ, suc, List, [], ◌∷◌, ◌++◌, map, length, refl, sym, ◌∙◌, ap, arith}
use Rattle.std.specs.Prelude.{ℤ, pos, ◌+ℤ◌, neg_ℤ}
use Rattle.std.proofs.lemmas.Int.{ints}
use Rattle.realisations.specs.Lists.{with_sign}
use Rattle.realisations.specs.Words.{word_cuts, word_pieces, before_pieces}
use Rattle.antipode_laws.proofs.IntegerSums.{sum_over, sum_over-map, sum_over-flat_map, sum_over_same, with_sign-add, with_sign-neg}

-- the pieces and a rest, which is a last piece where it is not empty
abbrev pub and_rest : List (List ℕ) → List ℕ → List (List ℕ)
and_rest c [] = c
and_rest c (x ∷ v) = c ++ ((x ∷ v) ∷ [])

-- the signed sum over the pieces of a word
abbrev pub signed : (List (List ℕ) → ℤ) → List ℕ → ℤ
signed h p = sum_over (λ c. with_sign (length c) (h c)) (word_pieces p)

-- over the pieces of the front and the rest
abbrev pub front_sum : (List (List ℕ) → ℤ) → List ℕ → ℤ
front_sum h p = sum_over (λ (e : List ℕ × List ℕ). signed (λ c. h (and_rest c e.1)) e.0) (word_cuts p)

-- a letter at the front of the first piece
abbrev pub join : ℕ → List (List ℕ) → List (List ℕ)
join x [] = (x ∷ []) ∷ []
join x (q ∷ c) = (x ∷ q) ∷ c

-- what one more letter in front does to a function of the pieces
abbrev pub step : ℕ → (List (List ℕ) → ℤ) → List (List ℕ) → ℤ
step x h c = neg_ℤ (h ((x ∷ []) ∷ c)) +ℤ h (join x c)

-- the pieces of a word with a letter are not none
pub pieces_same : (f g : List (List ℕ) → ℤ) → ((q : List ℕ) (c : List (List ℕ)) → f (q ∷ c) ≡ g (q ∷ c)) → (y : ℕ) (u : List ℕ) →
    sum_over f (word_pieces (y ∷ u)) ≡ sum_over g (word_pieces (y ∷ u))
pieces_same f g e y u =
    sum_over-flat_map f (before_pieces y) (word_pieces u)
    ∙ sum_over_same (λ c. sum_over f (before_pieces y c)) (λ c. sum_over g (before_pieces y c)) within (word_pieces u)
    ∙ sym (sum_over-flat_map g (before_pieces y) (word_pieces u))
  where
    within : (c : List (List ℕ)) → sum_over f (before_pieces y c) ≡ sum_over g (before_pieces y c)
    within [] = omega (arith, ints, e (y ∷ []) [])
    within (q ∷ c) = omega (arith, ints, e (y ∷ []) (q ∷ c), e (y ∷ q) c)

-- a signed sum over the pieces of a word of two letters or more
pub signed_step : (h : List (List ℕ) → ℤ) (x y : ℕ) (u : List ℕ) → signed h (x ∷ y ∷ u) ≡ signed (step x h) (y ∷ u)
signed_step h x y u =
    sum_over-flat_map (λ c. with_sign (length c) (h c)) (before_pieces x) (word_pieces (y ∷ u))
    ∙ pieces_same (λ c. sum_over (λ d. with_sign (length d) (h d)) (before_pieces x c)) (λ c. with_sign (length c) (step x h c))
    (λ q c. omega (arith, ints, with_sign-add (length c) (neg_ℤ (h ((x ∷ []) ∷ q ∷ c))) (h ((x ∷ q) ∷ c)), with_sign-neg (length c) (h ((x ∷ []) ∷ q ∷ c))))
    y u

pub signed_same : (f g : List (List ℕ) → ℤ) → ((q : List ℕ) (c : List (List ℕ)) → f (q ∷ c) ≡ g (q ∷ c)) → (y : ℕ) (u : List ℕ) →
    signed f (y ∷ u) ≡ signed g (y ∷ u)
signed_same f g e y u = pieces_same (λ c. with_sign (length c) (f c)) (λ c. with_sign (length c) (g c)) (λ q c. ap (with_sign (suc (length c))) (e q c)) y u

pub step-and_rest : (h : List (List ℕ) → ℤ) (x : ℕ) (q : List ℕ) (c : List (List ℕ)) (v : List ℕ) →
    step x (λ d. h (and_rest d v)) (q ∷ c) ≡ step x h (and_rest (q ∷ c) v)
step-and_rest h x q c [] = refl
step-and_rest h x q c (z ∷ v) = refl

pub front_sum_step : (h : List (List ℕ) → ℤ) (x : ℕ) (w : List ℕ) → front_sum h (x ∷ w) ≡ front_sum (step x h) w
front_sum_step h x [] = omega (arith, ints)
front_sum_step h x (y ∷ w) =
    let F : (List ℕ × List ℕ) → ℤ = λ (e : List ℕ × List ℕ). signed (λ c. h (and_rest c e.1)) e.0 in
    let G : (List ℕ × List ℕ) → ℤ = λ (e : List ℕ × List ℕ). signed (λ c. step x h (and_rest c e.1)) e.0 in
    let cuts : sum_over F (map (λ (e : List ℕ × List ℕ). (x ∷ e.0, e.1)) (map (λ (e : List ℕ × List ℕ). (y ∷ e.0, e.1)) (word_cuts w)))
    ≡ sum_over (λ (e : List ℕ × List ℕ). F (x ∷ y ∷ e.0, e.1)) (word_cuts w)
    = sum_over-map F (λ (e : List ℕ × List ℕ). (x ∷ e.0, e.1)) (map (λ (e : List ℕ × List ℕ). (y ∷ e.0, e.1)) (word_cuts w))
    ∙ sum_over-map (λ (e : List ℕ × List ℕ). F (x ∷ e.0, e.1)) (λ (e : List ℕ × List ℕ). (y ∷ e.0, e.1)) (word_cuts w) in
    let same : sum_over (λ (e : List ℕ × List ℕ). F (x ∷ y ∷ e.0, e.1)) (word_cuts w) ≡ sum_over (λ (e : List ℕ × List ℕ). G (y ∷ e.0, e.1)) (word_cuts w)
    = sum_over_same (λ (e : List ℕ × List ℕ). F (x ∷ y ∷ e.0, e.1)) (λ (e : List ℕ × List ℕ). G (y ∷ e.0, e.1))
    (λ (e : List ℕ × List ℕ). signed_step (λ c. h (and_rest c e.1)) x y e.0
    ∙ signed_same (step x (λ c. h (and_rest c e.1))) (λ c. step x h (and_rest c e.1)) (λ q c. step-and_rest h x q c e.1) y e.0)
    (word_cuts w) in
    let back : sum_over G (map (λ (e : List ℕ × List ℕ). (y ∷ e.0, e.1)) (word_cuts w)) ≡ sum_over (λ (e : List ℕ × List ℕ). G (y ∷ e.0, e.1)) (word_cuts w)
    = sum_over-map G (λ (e : List ℕ × List ℕ). (y ∷ e.0, e.1)) (word_cuts w) in
    omega (arith, ints, cuts, same, back)

pub front_sum_none : (h : List (List ℕ) → ℤ) (x : ℕ) (w : List ℕ) → front_sum h (x ∷ w) ≡ pos 0
front_sum_none h x [] = omega (arith, ints)
front_sum_none h x (y ∷ w) = front_sum_step h x (y ∷ w) ∙ front_sum_none (step x h) y w

-- the pieces of a word by their first piece
pub signed_by_first : (h : List (List ℕ) → ℤ) (x : ℕ) (w : List ℕ) →
    signed h (x ∷ w) ≡ neg_ℤ (sum_over (λ (e : List ℕ × List ℕ). signed (λ c. h ((x ∷ e.0) ∷ c)) e.1) (word_cuts w))
signed_by_first h x [] = omega (arith, ints)
signed_by_first h x (y ∷ w) =
    let one : signed h (x ∷ y ∷ w) ≡ signed (step x h) (y ∷ w) = signed_step h x y w in
    let two : signed (step x h) (y ∷ w) ≡ neg_ℤ (signed (λ c. h ((x ∷ []) ∷ c)) (y ∷ w)) +ℤ signed (λ c. h (join x c)) (y ∷ w)
    = signed_two (λ c. h ((x ∷ []) ∷ c)) (λ c. h (join x c)) (word_pieces (y ∷ w)) in
    let three : signed (λ c. h (join x c)) (y ∷ w) ≡ neg_ℤ (sum_over (λ (e : List ℕ × List ℕ). signed (λ c. h ((x ∷ y ∷ e.0) ∷ c)) e.1) (word_cuts w))
    = signed_by_first (λ c. h (join x c)) y w in
    let four : sum_over (λ (e : List ℕ × List ℕ). signed (λ c. h ((x ∷ e.0) ∷ c)) e.1) (map (λ (e : List ℕ × List ℕ). (y ∷ e.0, e.1)) (word_cuts w))
    ≡ sum_over (λ (e : List ℕ × List ℕ). signed (λ c. h ((x ∷ y ∷ e.0) ∷ c)) e.1) (word_cuts w)
    = sum_over-map (λ (e : List ℕ × List ℕ). signed (λ c. h ((x ∷ e.0) ∷ c)) e.1) (λ (e : List ℕ × List ℕ). (y ∷ e.0, e.1)) (word_cuts w) in
    omega (arith, ints, one, two, three, four)
  where
    signed_two : (f g : List (List ℕ) → ℤ) (cs : List (List (List ℕ))) →
        sum_over (λ c. with_sign (length c) (neg_ℤ (f c) +ℤ g c)) cs
        ≡ neg_ℤ (sum_over (λ c. with_sign (length c) (f c)) cs) +ℤ sum_over (λ c. with_sign (length c) (g c)) cs
    signed_two f g [] = refl
    signed_two f g (c ∷ cs) = omega (arith, ints, with_sign-add (length c) (neg_ℤ (f c)) (g c), with_sign-neg (length c) (f c), signed_two f g cs)

-- a first piece, where it is not empty
abbrev pub and_first : List ℕ → List (List ℕ) → List (List ℕ)
and_first [] c = c
and_first (x ∷ u) c = (x ∷ u) ∷ c

abbrev pub back_sum : (List (List ℕ) → ℤ) → List ℕ → ℤ
back_sum h p = sum_over (λ (e : List ℕ × List ℕ). signed (λ c. h (and_first e.0 c)) e.1) (word_cuts p)

pub back_sum_none : (h : List (List ℕ) → ℤ) (x : ℕ) (w : List ℕ) → back_sum h (x ∷ w) ≡ pos 0
back_sum_none h x w =
    let shift : sum_over (λ (e : List ℕ × List ℕ). signed (λ c. h (and_first e.0 c)) e.1) (map (λ (e : List ℕ × List ℕ). (x ∷ e.0, e.1)) (word_cuts w))
    ≡ sum_over (λ (e : List ℕ × List ℕ). signed (λ c. h ((x ∷ e.0) ∷ c)) e.1) (word_cuts w)
    = sum_over-map (λ (e : List ℕ × List ℕ). signed (λ c. h (and_first e.0 c)) e.1) (λ (e : List ℕ × List ℕ). (x ∷ e.0, e.1)) (word_cuts w) in
    omega (arith, ints, shift, signed_by_first h x w)
