-- Readings: what combinations and operations on them are at points. A reading is data, a tree, with one numerator and one denominator by cases.
use Rattle.std.specs.Prelude.{◌≡◌, ℕ, zero, suc, ◌*◌, ℤ, pos, ◌+ℤ◌, ◌*ℤ◌, List, [], ◌∷◌, ◌++◌, map, length, take, drop}
use Rattle.std.specs.List.{concat, flat_map}
use Rattle.realisations.specs.Codes.{Code, Key}
use Rattle.realisations.specs.Lists.{one_if, int_sum, with_sign}
use Rattle.realisations.specs.Words.{word_cuts, shifted_shuffles, all_shuffles, word_pieces, words_of}
use Rattle.realisations.specs.Exponents.{exponent_cuts, all_exponent_pieces}
use Rattle.basis_names.specs.declared.bases.BasisId.{BasisId}
use Rattle.realisations.specs.Points.{Kind, exponents, word, Point, Points}
use Rattle.realisations.specs.Bases.{kind_of}
use Rattle.realisations.specs.Occurrence.{occurs}
use Rattle.realisations.specs.Pairings.{paired_tuples}

-- terms: a numerator and a key each, a key having a code for each component
abbrev pub Terms : Type 0
Terms = List (ℤ × Key)

-- the operations on a component: coproduct, antipode, counit, product of the component and the next one, and commuting image
pub data Operation : Type 0 where
  coproduct antipode counit mult commute : Operation

-- a leaf has the basis of each component, a denominator and terms; each other node is an operation:
-- one applied to a component, counted from 0; the product, component by component; the tensor; the sum; the multiple by a numerator over a denominator; the pairing, of sizes up to a bound
pub data Reading : Type 0 where
  leaf : List BasisId → ℕ → Terms → Reading
  applied : Operation → ℕ → Reading → Reading
  product : Reading → Reading → Reading
  tensor : Reading → Reading → Reading
  sum_of : Reading → Reading → Reading
  multiple : ℤ → ℕ → Reading → Reading
  pairing : ℕ → Reading → Reading → Reading

-- the kinds of the components once an operation was applied to the first
abbrev pub kinds_after : Operation → List Kind → List Kind
kinds_after coproduct (kind ∷ kinds) = kind ∷ kind ∷ kinds
kinds_after counit (kind ∷ kinds) = kinds
kinds_after mult (kind ∷ kinds) = kinds
kinds_after commute (kind ∷ kinds) = exponents ∷ kinds
kinds_after _ kinds = kinds

-- and once it was applied to component n
abbrev pub kinds_after_at : ℕ → Operation → List Kind → List Kind
kinds_after_at zero operation kinds = kinds_after operation kinds
kinds_after_at (suc n) operation [] = []
kinds_after_at (suc n) operation (kind ∷ kinds) = kind ∷ kinds_after_at n operation kinds

-- the kind of points of each component
abbrev pub kinds_of : Reading → List Kind
kinds_of (leaf bases den terms) = map kind_of bases
kinds_of (applied operation n a) = kinds_after_at n operation (kinds_of a)
kinds_of (product a b) = kinds_of a
kinds_of (tensor a b) = kinds_of a ++ kinds_of b
kinds_of (sum_of a b) = kinds_of a
kinds_of (multiple num den a) = kinds_of a
kinds_of (pairing n a b) = []

-- the product of the occurrences of the elements of a key, each at its point
abbrev pub occurrence : List BasisId → Key → Points → ℕ
occurrence [] [] [] = 1
occurrence (basis ∷ bases) (code ∷ key) (p ∷ ps) = one_if (occurs basis code p) * occurrence bases key ps
occurrence _ _ _ = 0

-- the cuts of a point: of a word, the pairs whose concatenation it is; of exponents, the pairs that add to them
abbrev pub cuts : Kind → Point → List (Point × Point)
cuts exponents p = exponent_cuts p
cuts word p = word_cuts p

-- the cuts of a tuple of points, each component by itself
abbrev pub all_cuts : List Kind → Points → List (Points × Points)
all_cuts [] ps = ([], []) ∷ []
all_cuts (kind ∷ kinds) [] = []
all_cuts (kind ∷ kinds) (p ∷ ps) =
    flat_map (λ c. map (λ d. (c.0 ∷ d.0, c.1 ∷ d.1)) (all_cuts kinds ps)) (cuts kind p)

-- the points of the ordinal sum of two alphabets, all letters of the first below those of the second, that are u on the first and v on the second (Duchamp, Hivert, Thibon 2002)
abbrev pub on_ordinal_sum : Kind → Point → Point → List Point
on_ordinal_sum exponents u v = (u ++ v) ∷ []
on_ordinal_sum word u v = shifted_shuffles u v

-- the ways to write a point as a product of points of positive degree, in order
abbrev pub pieces : Kind → Point → List (List Point)
pieces exponents p = all_exponent_pieces p
pieces word p = word_pieces p

-- the points of the ordinal sum of alphabets that are the pieces, each on its own
abbrev pub on_ordinal_sums : Kind → List Point → List Point
on_ordinal_sums exponents parts = concat parts ∷ []
on_ordinal_sums word parts = all_shuffles parts

-- the points whose commuting image is a monomial
abbrev pub commuting : Kind → Point → List Point
commuting exponents p = p ∷ []
commuting word p = words_of p

-- the tuples of points at which an operation on the first component, of this kind, reads its operand, each with a number of signs.
-- The antipode is Takeuchi's sum (1971): over all ways to cut a point into k pieces of positive degree, (-1)^k times the operand on the ordinal sum of their alphabets
abbrev pub reads : Operation → Kind → Points → List (ℕ × Points)
reads coproduct kind (u ∷ v ∷ ps) = map (λ p. (0, p ∷ ps)) (on_ordinal_sum kind u v)
reads antipode kind (p ∷ ps) = flat_map (λ parts. map (λ q. (length parts, q ∷ ps)) (on_ordinal_sums kind parts)) (pieces kind p)
reads counit kind ps = (0, [] ∷ ps) ∷ []
reads mult kind (p ∷ ps) = map (λ c. (0, c.0 ∷ c.1 ∷ ps)) (cuts kind p)
reads commute kind (p ∷ ps) = map (λ q. (0, q ∷ ps)) (commuting kind p)
reads _ kind ps = []

-- the same on component n, while the points before it stand still; the kinds are those of the operand
abbrev pub reads_at : ℕ → Operation → List Kind → Points → List (ℕ × Points)
reads_at zero operation (kind ∷ kinds) ps = reads operation kind ps
reads_at (suc n) operation (kind ∷ kinds) (p ∷ ps) = map (λ r. (r.0, p ∷ r.1)) (reads_at n operation kinds ps)
reads_at _ _ _ _ = []

-- the denominator of a reading
abbrev pub denominator : Reading → ℕ
denominator (leaf bases den terms) = den
denominator (applied operation n a) = denominator a
denominator (product a b) = denominator a * denominator b
denominator (tensor a b) = denominator a * denominator b
denominator (sum_of a b) = denominator a * denominator b
denominator (multiple num den a) = den * denominator a
denominator (pairing n a b) = denominator a * denominator b

-- the numerator at a tuple of points, one for each component
abbrev pub numerator : Reading → Points → ℤ
numerator (leaf bases den terms) ps = int_sum (map (λ t. t.0 *ℤ pos (occurrence bases t.1 ps)) terms)
numerator (applied operation n a) ps = int_sum (map (λ r. with_sign r.0 (numerator a r.1)) (reads_at n operation (kinds_of a) ps))
numerator (product a b) ps = int_sum (map (λ c. numerator a c.0 *ℤ numerator b c.1) (all_cuts (kinds_of a) ps))
numerator (tensor a b) ps =
    numerator a (take (length (kinds_of a)) ps) *ℤ numerator b (drop (length (kinds_of a)) ps)
numerator (sum_of a b) ps = (numerator a ps *ℤ pos (denominator b)) +ℤ (numerator b ps *ℤ pos (denominator a))
numerator (multiple num den a) ps = num *ℤ numerator a ps
numerator (pairing n a b) ps =
    int_sum (map (λ t. with_sign t.0 (numerator a t.1 *ℤ numerator b t.2)) (paired_tuples n (kinds_of a) (kinds_of b)))

-- two readings agree at a tuple of points, as fractions
abbrev pub AgreeAt : Reading → Reading → Points → Type 0
AgreeAt a b ps = numerator a ps *ℤ pos (denominator b) ≡ numerator b ps *ℤ pos (denominator a)

-- one element of a basis
abbrev pub element : BasisId → Code → Reading
element basis code = leaf (basis ∷ []) 1 ((pos 1, code ∷ []) ∷ [])

-- the tensor of the basis elements of a key
abbrev pub of_key : List BasisId → Key → Reading
of_key bases key = leaf bases 1 ((pos 1, key) ∷ [])
