-- Points of QSym: a list of exponents of the ordered commuting letters, zeros allowed, stands for a monomial (Gessel 1984).
use Rattle.std.specs.Prelude.{ℕ, zero, suc, Bool, if◌then◌else◌, List, [], ◌∷◌, ◌++◌, map, nat_eq, replicate}
use Rattle.std.specs.List.{flat_map, list_all, sum}

-- the exponents without the zeros
abbrev pub without_zeros : List ℕ → List ℕ
without_zeros [] = []
without_zeros (zero ∷ p) = without_zeros p
without_zeros (suc n ∷ p) = suc n ∷ without_zeros p

-- the nondecreasing word with these numbers of the letters i, i + 1, ..
abbrev pub nondecreasing_from : ℕ → List ℕ → List ℕ
nondecreasing_from i [] = []
nondecreasing_from i (n ∷ p) = replicate n i ++ nondecreasing_from (suc i) p

-- the nondecreasing word of a monomial: p_i letters i
abbrev pub nondecreasing_word : List ℕ → List ℕ
nondecreasing_word p = nondecreasing_from 1 p

-- the pairs of numbers that add to n
abbrev pub number_cuts : ℕ → List (ℕ × ℕ)
number_cuts zero = (0, 0) ∷ []
number_cuts (suc n) = (0, suc n) ∷ map (λ e. (suc e.0, e.1)) (number_cuts n)

-- the cuts of a point: the pairs of exponent lists of its length that add to it, so the ways to write a monomial as a product
abbrev pub exponent_cuts : List ℕ → List (List ℕ × List ℕ)
exponent_cuts [] = ([], []) ∷ []
exponent_cuts (n ∷ p) =
    flat_map (λ e. map (λ c. (e.0 ∷ c.0, e.1 ∷ c.1)) (exponent_cuts p)) (number_cuts n)

-- the monomial is 1: all exponents are 0
abbrev pub is_one : List ℕ → Bool
is_one p = list_all (λ n. nat_eq n 0) p

-- the ways to write a monomial as a product of k monomials other than 1, in order
abbrev pub exponent_pieces : ℕ → List ℕ → List (List (List ℕ))
exponent_pieces zero p = if is_one p then [] ∷ [] else []
exponent_pieces (suc k) p =
    flat_map (λ c. if is_one c.0 then [] else map (λ pieces. c.0 ∷ pieces) (exponent_pieces k c.1)) (exponent_cuts p)

-- the same for each k up to a number
abbrev pub exponent_pieces_up_to : ℕ → List ℕ → List (List (List ℕ))
exponent_pieces_up_to zero p = exponent_pieces 0 p
exponent_pieces_up_to (suc k) p = exponent_pieces_up_to k p ++ exponent_pieces (suc k) p

-- the ways to write a monomial as a product of monomials other than 1, in order: there are at most as many as its degree
abbrev pub all_exponent_pieces : List ℕ → List (List (List ℕ))
all_exponent_pieces p = exponent_pieces_up_to (sum p) p
