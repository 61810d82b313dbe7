-- The antipode law for functions of words.
use Rattle.std.proofs.Common.{◌≡◌, ℕ, List, [], ◌∷◌, ◌++◌, length, sym, ◌∙◌, ap, arith}
use Rattle.std.specs.Prelude.{ℤ, pos}
use Rattle.std.proofs.lemmas.Int.{ints}
use Rattle.realisations.specs.Lists.{with_sign}
use Rattle.realisations.specs.Words.{raise}
use Rattle.realisations.specs.Words.{word_cuts, word_pieces, shifted_shuffles, all_shuffles}
use Rattle.antipode_laws.proofs.IntegerSums.{sum_over, sum_over-flat_map, sum_over_same}
use Rattle.antipode_laws.proofs.WordPieces.{and_rest, and_first, front_sum_none, back_sum_none}
use Rattle.antipode_laws.proofs.Shuffling.{raised_assoc, raise-zero, over_nil_right, over_nil_left}

-- the sum over the shuffles of pieces
abbrev pub over_all : (List ℕ → ℤ) → List (List ℕ) → ℤ
over_all a c = sum_over a (all_shuffles c)

-- over the raised shuffles of two words: the coproduct of readings at (u, v)
abbrev pub over_two : (List ℕ → ℤ) → List ℕ → List ℕ → ℤ
over_two a u v = sum_over a (shifted_shuffles u v)

-- Takeuchi's antipode at p
abbrev pub antipode_at : (List ℕ → ℤ) → List ℕ → ℤ
antipode_at a p = sum_over (λ c. with_sign (length c) (over_all a c)) (word_pieces p)

pub over_all-cons : (a : List ℕ → ℤ) (q : List ℕ) (c : List (List ℕ)) → over_all a (q ∷ c) ≡ over_all (λ w. over_two a q w) c
over_all-cons a q c = sum_over-flat_map a (λ v. shifted_shuffles q v) (all_shuffles c)

pub over_all-one : (a : List ℕ → ℤ) (v : List ℕ) → over_all a (v ∷ []) ≡ a v
over_all-one a v = over_all-cons a v [] ∙ omega (arith, ints, over_nil_right a v)

pub over_two-nil_left : (a : List ℕ → ℤ) (v : List ℕ) → over_two a [] v ≡ a v
over_two-nil_left a v = over_nil_left a (raise 0 v) ∙ ap a (raise-zero v)

pub over_two-nil_right : (a : List ℕ → ℤ) (u : List ℕ) → over_two a u [] ≡ a u
over_two-nil_right a u = over_nil_right a u

-- one more piece at the end
pub over_all-last : (a : List ℕ → ℤ) (c : List (List ℕ)) (v : List ℕ) → over_all (λ w. over_two a w v) c ≡ over_all a (c ++ (v ∷ []))
over_all-last a [] v = omega (arith, ints, over_two-nil_left a v, over_all-one a v)
over_all-last a (q ∷ c) v =
    over_all-cons (λ w. over_two a w v) q c
    ∙ sum_over_same (λ w. over_two (λ s. over_two a s v) q w) (λ w. over_two (λ s. over_two a q s) w v) (λ w. raised_assoc a q w v) (all_shuffles c)
    ∙ over_all-last (λ s. over_two a q s) c v
    ∙ sym (over_all-cons a q (c ++ (v ∷ [])))

pub over_all-rest : (a : List ℕ → ℤ) (c : List (List ℕ)) (v : List ℕ) → over_all (λ w. over_two a w v) c ≡ over_all a (and_rest c v)
over_all-rest a c [] = sum_over_same (λ w. over_two a w []) a (over_two-nil_right a) (all_shuffles c)
over_all-rest a c (x ∷ v) = over_all-last a c (x ∷ v)

pub over_all-first : (a : List ℕ → ℤ) (u : List ℕ) (c : List (List ℕ)) → over_all (λ w. over_two a u w) c ≡ over_all a (and_first u c)
over_all-first a [] c = sum_over_same (λ w. over_two a [] w) a (over_two-nil_left a) (all_shuffles c)
over_all-first a (x ∷ u) c = sym (over_all-cons a (x ∷ u) c)

-- the antipode on the first component: mult of Takeuchi's antipode in component 1 of the coproduct of readings
pub front_convolution : (a : List ℕ → ℤ) (x : ℕ) (p : List ℕ) →
    sum_over (λ (e : List ℕ × List ℕ). antipode_at (λ w. over_two a w e.1) e.0) (word_cuts (x ∷ p)) ≡ pos 0
front_convolution a x p =
    sum_over_same
    (λ (e : List ℕ × List ℕ). antipode_at (λ w. over_two a w e.1) e.0)
    (λ (e : List ℕ × List ℕ). sum_over (λ c. with_sign (length c) (over_all a (and_rest c e.1))) (word_pieces e.0))
    (λ (e : List ℕ × List ℕ). sum_over_same (λ c. with_sign (length c) (over_all (λ w. over_two a w e.1) c)) (λ c. with_sign (length c) (over_all a (and_rest c e.1))) (λ c. ap (with_sign (length c)) (over_all-rest a c e.1)) (word_pieces e.0))
    (word_cuts (x ∷ p))
    ∙ front_sum_none (over_all a) x p

-- the antipode on the second component
pub back_convolution : (a : List ℕ → ℤ) (x : ℕ) (p : List ℕ) →
    sum_over (λ (e : List ℕ × List ℕ). antipode_at (λ w. over_two a e.0 w) e.1) (word_cuts (x ∷ p)) ≡ pos 0
back_convolution a x p =
    sum_over_same
    (λ (e : List ℕ × List ℕ). antipode_at (λ w. over_two a e.0 w) e.1)
    (λ (e : List ℕ × List ℕ). sum_over (λ c. with_sign (length c) (over_all a (and_first e.0 c))) (word_pieces e.1))
    (λ (e : List ℕ × List ℕ). sum_over_same (λ c. with_sign (length c) (over_all (λ w. over_two a e.0 w) c)) (λ c. with_sign (length c) (over_all a (and_first e.0 c))) (λ c. ap (with_sign (length c)) (over_all-first a e.0 c)) (word_pieces e.1))
    (word_cuts (x ∷ p))
    ∙ back_sum_none (over_all a) x p

-- at the empty word
pub empty_convolution : (a : List ℕ → ℤ) →
    sum_over (λ (e : List ℕ × List ℕ). antipode_at (λ w. over_two a w e.1) e.0) (word_cuts []) ≡ a []
empty_convolution a = omega (arith, ints)
