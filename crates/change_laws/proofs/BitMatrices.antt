-- Sums over all lists of n bits: a product of entries, one for each place, sums to the product of the sums, place by place. So tensor powers of matrices of 2 times 2 entries multiply as the matrices do.
use Rattle.std.proofs.Common.{◌≡◌, ℕ, zero, suc, Bool, true, false, ◌&&◌, List, [], ◌∷◌, ◌++◌, map, length, refl, sym, ◌∙◌, ap, arith}
use Rattle.std.specs.Prelude.{not}
use Rattle.std.specs.List.{All}
use Rattle.std.proofs.Math.IntN.{ℤ, pos, ◌+ℤ◌, ◌*ℤ◌, *ℤ_comm, *ℤ-zero}
use Rattle.std.proofs.lemmas.List.Elements.{All-nil, All-cons, All-append, All-map, All-weaker}
use Rattle.std.proofs.lemmas.Int.{ints}
use Rattle.realisations.specs.Lists.{one_if}
use Rattle.hopf_num.proofs.Ring.{+ℤ-*ℤ, *ℤ_assoc}
use Rattle.change_laws.proofs.IntSums.{sum_over, sum_over-append, sum_over-map, sum_over-scale, sum_over_none}
use Rattle.basis_representatives.proofs.Places.{turned, pairwise}

-- a matrix of 2 times 2 entries
abbrev pub Matrix : Type 0
Matrix = Bool → Bool → ℤ

-- the lists of n bits
abbrev pub all_bits : ℕ → List (List Bool)
all_bits zero = [] ∷ []
all_bits (suc n) = map (λ bits. true ∷ bits) (all_bits n) ++ map (λ bits. false ∷ bits) (all_bits n)

-- the product of the entries at each place, 0 where the lengths are different: an entry of the tensor power of the matrix
abbrev pub entries : Matrix → List Bool → List Bool → ℤ
entries f [] [] = pos 1
entries f [] (y ∷ b) = pos 0
entries f (x ∷ a) [] = pos 0
entries f (x ∷ a) (y ∷ b) = f x y *ℤ entries f a b

-- the matrix of a test
abbrev pub matrix_of : (Bool → Bool → Bool) → Matrix
matrix_of test x y = pos (one_if (test x y))

-- each list of n bits has n bits
pub length-all_bits : (n : ℕ) → All (λ bits. length bits ≡ n) (all_bits n)
length-all_bits zero = All-cons (λ (bits : List Bool). length bits ≡ 0) [] [] refl (All-nil (λ (bits : List Bool). length bits ≡ 0))
length-all_bits (suc n) =
    let P = λ (bits : List Bool). length bits ≡ suc n in
    let longer = λ (bit : Bool). All-map P (λ bits. bit ∷ bits) (all_bits n)
    (All-weaker (λ (bits : List Bool). length bits ≡ n) (λ bits. P (bit ∷ bits)) (λ bits e. omega (arith, e)) (all_bits n) (length-all_bits n)) in
    All-append P (map (λ bits. true ∷ bits) (all_bits n)) (map (λ bits. false ∷ bits) (all_bits n)) (longer true) (longer false)

-- a sum over n + 1 bits, by the first one
pub sum_over-all_bits : (f : List Bool → ℤ) (n : ℕ)
    → sum_over f (all_bits (suc n)) ≡ sum_over (λ bits. f (true ∷ bits)) (all_bits n) +ℤ sum_over (λ bits. f (false ∷ bits)) (all_bits n)
sum_over-all_bits f n =
    omega (
      arith,
      ints,
      sum_over-append f (map (λ bits. true ∷ bits) (all_bits n)) (map (λ bits. false ∷ bits) (all_bits n)),
      sum_over-map f (λ bits. true ∷ bits) (all_bits n),
      sum_over-map f (λ bits. false ∷ bits) (all_bits n),
    )

one_if-and : (p q : Bool) → pos (one_if p) *ℤ pos (one_if q) ≡ pos (one_if (p && q))
one_if-and true true = refl
one_if-and true false = refl
one_if-and false true = refl
one_if-and false false = refl

-- the entry of a test is 1 where it holds at each place, else 0
pub entries-matrix_of : (test : Bool → Bool → Bool) (a b : List Bool) → entries (matrix_of test) a b ≡ pos (one_if (pairwise test a b))
entries-matrix_of test [] [] = refl
entries-matrix_of test [] (y ∷ b) = refl
entries-matrix_of test (x ∷ a) [] = refl
entries-matrix_of test (x ∷ a) (y ∷ b) =
    ap (λ z. pos (one_if (test x y)) *ℤ z) (entries-matrix_of test a b) ∙ one_if-and (test x y) (pairwise test a b)

-- rows and columns change places
pub entries-transposed : (f : Matrix) (a b : List Bool) → entries f b a ≡ entries (λ x y. f y x) a b
entries-transposed f [] [] = refl
entries-transposed f [] (y ∷ b) = refl
entries-transposed f (x ∷ a) [] = refl
entries-transposed f (x ∷ a) (y ∷ b) = ap (λ z. f y x *ℤ z) (entries-transposed f a b)

-- the same for tests
pub pairwise-transposed : (test : Bool → Bool → Bool) (a b : List Bool) → pairwise test b a ≡ pairwise (λ x y. test y x) a b
pairwise-transposed test [] [] = refl
pairwise-transposed test [] (y ∷ b) = refl
pairwise-transposed test (x ∷ a) [] = refl
pairwise-transposed test (x ∷ a) (y ∷ b) = ap (λ p. test y x && p) (pairwise-transposed test a b)

-- turned bits go into the matrix
pub entries-turned : (f : Matrix) (a b : List Bool) → entries f a (turned b) ≡ entries (λ x y. f x (not y)) a b
entries-turned f [] [] = refl
entries-turned f [] (y ∷ b) = refl
entries-turned f (x ∷ a) [] = refl
entries-turned f (x ∷ a) (y ∷ b) = ap (λ z. f x (not y) *ℤ z) (entries-turned f a b)

-- turned bits go into the test
pub pairwise-turned : (test : Bool → Bool → Bool) (a b : List Bool) → pairwise test (turned a) b ≡ pairwise (λ x y. test (not x) y) a b
pairwise-turned test [] [] = refl
pairwise-turned test [] (y ∷ b) = refl
pairwise-turned test (x ∷ a) [] = refl
pairwise-turned test (x ∷ a) (y ∷ b) = ap (λ p. test (not x) y && p) (pairwise-turned test a b)

-- products of two pairs of factors
regrouped : (p q r s : ℤ) → (p *ℤ q) *ℤ (r *ℤ s) ≡ (p *ℤ r) *ℤ (q *ℤ s)
regrouped p q r s =
    sym (*ℤ_assoc p q (r *ℤ s)) ∙ ap (λ z. p *ℤ z) (*ℤ_assoc q r s ∙ ap (λ z. z *ℤ s) (*ℤ_comm q r) ∙ sym (*ℤ_assoc r q s)) ∙ *ℤ_assoc p r (q *ℤ s)

-- the matrix f times g is h
abbrev pub Multiplies : Matrix → Matrix → Matrix → Type 0
Multiplies f g h = (x z : Bool) → (f x true *ℤ g true z) +ℤ (f x false *ℤ g false z) ≡ h x z

-- and so for the tensor powers
pub entries-multiply : (f g h : Matrix) → Multiplies f g h → (a c : List Bool)
    → sum_over (λ b. entries f a b *ℤ entries g b c) (all_bits (length a)) ≡ entries h a c
entries-multiply f g h is [] [] = refl
entries-multiply f g h is [] (z ∷ c) = refl
entries-multiply f g h is (x ∷ a) [] =
    omega (
      arith,
      ints,
      sum_over-all_bits (λ b. entries f (x ∷ a) b *ℤ entries g b []) (length a),
      sum_over_none (λ b. (f x true *ℤ entries f a b) *ℤ pos 0) (λ b. *ℤ-zero (f x true *ℤ entries f a b)) (all_bits (length a)),
      sum_over_none (λ b. (f x false *ℤ entries f a b) *ℤ pos 0) (λ b. *ℤ-zero (f x false *ℤ entries f a b)) (all_bits (length a)),
    )
entries-multiply f g h is (x ∷ a) (z ∷ c) =
    sum_over-all_bits (λ b. entries f (x ∷ a) b *ℤ entries g b (z ∷ c)) (length a)
    ∙ (λ i. first true i +ℤ first false i)
    ∙ sym (+ℤ-*ℤ (f x true *ℤ g true z) (f x false *ℤ g false z) (sum_over (λ b. entries f a b *ℤ entries g b c) (all_bits (length a))))
    ∙ (λ i. is x z i *ℤ entries-multiply f g h is a c i)
  where
    first : (y : Bool) → sum_over (λ b. (f x y *ℤ entries f a b) *ℤ (g y z *ℤ entries g b c)) (all_bits (length a))
        ≡ (f x y *ℤ g y z) *ℤ sum_over (λ b. entries f a b *ℤ entries g b c) (all_bits (length a))
    first y =
        (λ i. sum_over (λ b. regrouped (f x y) (entries f a b) (g y z) (entries g b c) i) (all_bits (length a)))
        ∙ sum_over-scale (f x y *ℤ g y z) (λ b. entries f a b *ℤ entries g b c) (all_bits (length a))
