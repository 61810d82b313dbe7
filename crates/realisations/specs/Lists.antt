-- Small words on lists of numbers.
use Rattle.std.specs.Prelude.{ℕ, zero, suc, ◌+◌, Bool, true, false, ◌&&◌, if◌then◌else◌, List, [], ◌∷◌, nat_eq, ℤ, pos, ◌+ℤ◌, neg_ℤ}
use Rattle.std.specs.List.{list_any, list_all}

-- the same numbers in the same order
abbrev pub same_list : List ℕ → List ℕ → Bool
same_list [] [] = true
same_list [] (y ∷ ys) = false
same_list (x ∷ xs) [] = false
same_list (x ∷ xs) (y ∷ ys) = nat_eq x y && same_list xs ys

-- x is in the list
abbrev pub is_among : ℕ → List ℕ → Bool
is_among x ys = list_any (λ y. nat_eq y x) ys

-- each number of the first list is in the second
abbrev pub is_subset : List ℕ → List ℕ → Bool
is_subset xs ys = list_all (λ x. is_among x ys) xs

-- 1 where the test holds, else 0
abbrev pub one_if : Bool → ℕ
one_if test = if test then 1 else 0

-- how many numbers pass a test
abbrev pub count : (ℕ → Bool) → List ℕ → ℕ
count test [] = 0
count test (x ∷ xs) = one_if (test x) + count test xs

-- the sum of a list of integers
abbrev pub int_sum : List ℤ → ℤ
int_sum [] = pos 0
int_sum (x ∷ xs) = x +ℤ int_sum xs

-- (-1)^k times z
abbrev pub with_sign : ℕ → ℤ → ℤ
with_sign zero z = z
with_sign (suc k) z = neg_ℤ (with_sign k z)
