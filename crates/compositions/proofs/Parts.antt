-- Compositions as codes, and their quasi-shuffles.
use Rattle.std.proofs.Common.{◌≡◌, ℕ, zero, suc, ◌+◌, ◌*◌, ◌^◌, ◌<◌, ◌≤◌, Bool, true, false, ◌&&◌, List, [], ◌∷◌, ◌++◌, map, length, refl, ◌∙◌, ap, arith, length-append, drop, get_or}
use Rattle.std.specs.Prelude.{nat_le}
use Rattle.std.proofs.lemmas.List.{length-map}
use Rattle.std.proofs.Math.Nat.{pow-suc}
use Rattle.std.proofs.lemmas.Nat.{pow-add}
use Rattle.std.proofs.Math.IntN.{ℤ, pos, ◌+ℤ◌, ◌*ℤ◌, *ℤ_comm, *ℤ-one, one}
use Rattle.std.proofs.lemmas.Int.{ints}
use Rattle.realisations.specs.Lists.{int_sum}
use Rattle.std.specs.List.{sum}
use Rattle.std.proofs.lemmas.List.Sums.{sum_by-cons, sum_by-append}
use Rattle.std.proofs.lemmas.Bool.Decides.{nat_tests}
use Rattle.linear_combos.specs.Codes.{IsCode, all_letters}
use Rattle.realisations.specs.IndexKinds.{IsComposition}
use Rattle.compositions.specs.QuasiShuffles.{quasi_shuffles}

pub IsComposition-append : (j k : List ℕ) → IsComposition j → IsComposition k → IsComposition (j ++ k)
IsComposition-append [] k hj hk = hk
IsComposition-append (a ∷ j) k hj hk = (hj.0, IsComposition-append j k hj.1 hk)

pub length-le-sum : (j : List ℕ) → IsComposition j → length j ≤ sum j
length-le-sum [] h = omega arith
length-le-sum (a ∷ j) h = omega (arith, sum_by-cons (λ x. x) a j, h.0, length-le-sum j h.1)

letter : (x : ℕ) → 1 ≤ x → x ≤ 15 → (nat_le 1 x && nat_le x 15) ≡ true
letter x a b = grind (arith, nat_tests)

both : (p q : Bool) → p ≡ true → q ≡ true → (p && q) ≡ true
both p q e f = rw (e, f)

letters : (j : List ℕ) → IsComposition j → sum j ≤ 15 → all_letters j ≡ true
letters [] h le = refl
letters (a ∷ j) h le =
    let all : sum (a ∷ j) ≡ a + sum j = sum_by-cons (λ x. x) a j in
    both _ _ (letter a (omega (arith, h.0)) (omega arith)) (letters j h.1 (omega arith))

pub code_from_composition : (j : List ℕ) → IsComposition j → sum j ≤ 15 → IsCode j
code_from_composition j h le = record { short = omega (arith, length-le-sum j h); letters = letters j h le }

pub code_from_two : (j k : List ℕ) → IsComposition j → IsComposition k → sum j + sum k ≤ 12 → IsCode (j ++ k)
code_from_two j k hj hk le = code_from_composition (j ++ k) (IsComposition-append j k hj hk) (omega (arith, sum_by-append (λ x. x) j k))

pub quasi_shuffles-nil : (j : List ℕ) → quasi_shuffles j [] ≡ j ∷ []
quasi_shuffles-nil [] = refl
quasi_shuffles-nil (a ∷ j) = refl

-- a list without its first element
abbrev pub rest : List ℕ → List ℕ
rest a = drop 1 a

pub parts : (a : List ℕ) → 1 ≤ length a → a ≡ get_or a 0 0 ∷ rest a
parts [] le = absurd (omega arith)
parts (x ∷ a) le = refl

pub first_part : (a : List ℕ) → 1 ≤ length a → IsComposition a → 0 < get_or a 0 0
first_part [] le h = absurd (omega arith)
first_part (x ∷ a) le h = h.0

pub rest_parts : (a : List ℕ) → 1 ≤ length a → IsComposition a → IsComposition (rest a)
rest_parts [] le h = absurd (omega arith)
rest_parts (x ∷ a) le h = h.1

pub one_more : (word : List ℕ) (x : ℕ) → IsComposition word → 0 < x → IsComposition (word ++ x ∷ [])
one_more word x h lt = IsComposition-append word (x ∷ []) h (lt, tt)

pub shuffles_parts : (a b : List ℕ) → 1 ≤ length a → 1 ≤ length b →
    quasi_shuffles a b ≡ (map (λ w. get_or a 0 0 ∷ w) (quasi_shuffles (rest a) b) ++ map (λ w. get_or b 0 0 ∷ w) (quasi_shuffles a (rest b)))
    ++ map (λ w. (get_or a 0 0 + get_or b 0 0) ∷ w) (quasi_shuffles (rest a) (rest b))
shuffles_parts [] b la lb = absurd (omega arith)
shuffles_parts (x ∷ a) [] la lb = absurd (omega arith)
shuffles_parts (x ∷ a) (y ∷ b) la lb = refl

pub length-shuffles : (a b : List ℕ) → 1 ≤ length a → 1 ≤ length b →
    length (quasi_shuffles a b) ≡ length (quasi_shuffles (rest a) b) + length (quasi_shuffles a (rest b)) + length (quasi_shuffles (rest a) (rest b))
length-shuffles a b la lb = ap length (shuffles_parts a b la lb) ∙ simp (length-append, length-map)

pub int_sum-append : (xs ys : List ℤ) → int_sum (xs ++ ys) ≡ int_sum xs +ℤ int_sum ys
int_sum-append [] ys = omega (arith, ints)
int_sum-append (x ∷ xs) ys = omega (arith, ints, int_sum-append xs ys)

pub one_times : (z : ℤ) → pos 1 *ℤ z ≡ z
unfolding one
one_times z = *ℤ_comm (pos 1) z ∙ *ℤ-one z

pub sum_parts : (a : List ℕ) → 1 ≤ length a → sum a ≡ get_or a 0 0 + sum (rest a)
sum_parts [] le = absurd (omega arith)
sum_parts (x ∷ a) le = sum_by-cons (λ x. x) x a

pub sum_more : (word : List ℕ) (x : ℕ) → sum (word ++ x ∷ []) ≡ sum word + x
sum_more word x = omega (arith, sum_by-append (λ x. x) word (x ∷ []))

-- one of the lists is empty
pub shuffles_left : (a b : List ℕ) → length a ≡ 0 → quasi_shuffles a b ≡ b ∷ []
shuffles_left [] b e = refl
shuffles_left (x ∷ a) b e = absurd (omega arith)

pub shuffles_right : (a b : List ℕ) → length b ≡ 0 → quasi_shuffles a b ≡ a ∷ []
shuffles_right a [] e = quasi_shuffles-nil a
shuffles_right a (x ∷ b) e = absurd (omega arith)

pow_positive : (n : ℕ) → 1 ≤ 3 ^ n
pow_positive zero = omega arith
pow_positive (suc n) = rw (pow-suc 3 n) (omega (arith, pow_positive n))

-- how many quasi-shuffles there are at most
pub shuffles_bound : (n : ℕ) (a b : List ℕ) → length a + length b ≤ n → length (quasi_shuffles a b) ≤ 3 ^ n
shuffles_bound n [] b le = pow_positive n
shuffles_bound n (x ∷ a) [] le = pow_positive n
shuffles_bound zero (x ∷ a) (y ∷ b) le = absurd (omega arith)
shuffles_bound (suc n) (x ∷ a) (y ∷ b) le =
    let size : length (quasi_shuffles (x ∷ a) (y ∷ b)) ≡ length (quasi_shuffles a (y ∷ b)) + length (quasi_shuffles (x ∷ a) b) + length (quasi_shuffles a b) = simp (length-append, length-map) in
    let one = shuffles_bound n a (y ∷ b) (omega arith) in
    let two = shuffles_bound n (x ∷ a) b (omega arith) in
    let three = shuffles_bound n a b (omega arith) in
    rw (pow-suc 3 n) (omega (arith, size, one, two, three))

-- 2 ^ (5n) grows by a factor of 32
pow_five-suc : (n : ℕ) → 2 ^ (5 * suc n) ≡ 32 * 2 ^ (5 * n)
pow_five-suc n = let e : 5 * suc n ≡ 5 + 5 * n = omega arith in ap (λ m. 2 ^ m) e ∙ pow-add 2 5 (5 * n)

pow_three-le-pow_five : (n : ℕ) → 3 ^ n ≤ 2 ^ (5 * n)
pow_three-le-pow_five zero = omega arith
pow_three-le-pow_five (suc n) = rw (pow-suc 3 n, pow_five-suc n) (omega (arith, pow_three-le-pow_five n))

pub shuffles_small : (n : ℕ) (a b : List ℕ) → length a + length b ≤ n → length (quasi_shuffles a b) ≤ 2 ^ (5 * n)
shuffles_small n a b le = omega (arith, shuffles_bound n a b le, pow_three-le-pow_five n)

-- the first part is one of them
pub first-le-sum : (a : List ℕ) → 1 ≤ length a → get_or a 0 0 ≤ sum a
first-le-sum a le = omega (arith, sum_parts a le)

pub code_from_one_more : (word : List ℕ) (x : ℕ) → IsComposition word → 0 < x → sum word + x ≤ 12 → IsCode (word ++ x ∷ [])
code_from_one_more word x h lt le = code_from_composition (word ++ x ∷ []) (one_more word x h lt) (omega (arith, sum_more word x))

-- no part adds to nothing
pub sum_of_none : (a : List ℕ) → length a ≡ 0 → sum a ≡ 0
sum_of_none [] e = refl
sum_of_none (x ∷ a) e = absurd (omega arith)

-- letters are positive
positive : (x : ℕ) → (nat_le 1 x && nat_le x 15) ≡ true → 0 < x
positive x h = grind (arith, nat_tests)

head_passes : (p q : Bool) → (p && q) ≡ true → p ≡ true
head_passes true q h = refl
head_passes false q h = h

tail_passes : (p q : Bool) → (p && q) ≡ true → q ≡ true
tail_passes true q h = h
tail_passes false q h = absurd (cc)

pub composition_from_letters : (xs : List ℕ) → all_letters xs ≡ true → IsComposition xs
composition_from_letters [] h = tt
composition_from_letters (x ∷ xs) h =
    (positive x (head_passes _ (all_letters xs) h), composition_from_letters xs (tail_passes (nat_le 1 x && nat_le x 15) _ h))
