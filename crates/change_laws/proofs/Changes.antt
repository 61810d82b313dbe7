-- A change of basis whose coefficients, bit by bit, are the entries of a matrix that takes the readings of one basis to those of the other.
use Rattle.std.proofs.Common.{◌≡◌, Bool, List, [], ◌∷◌, length, sym, ◌∙◌, ap, arith}
use Rattle.std.specs.List.{sum}
use Rattle.std.proofs.Math.IntN.{ℤ, pos, ◌*ℤ◌, *ℤ-zero}
use Rattle.std.proofs.lemmas.Int.{ints}
use Rattle.std.proofs.lemmas.List.Elements.{All-weaker}
use Rattle.basis_names.specs.declared.bases.BasisId.{BasisId}
use Rattle.realisations.specs.Codes.{Code}
use Rattle.realisations.specs.IndexKinds.{IsComposition}
use Rattle.realisations.specs.Lists.{one_if}
use Rattle.realisations.specs.Occurrence.{occurs}
use Rattle.realisations.specs.Points.{Point}
use Rattle.basis_representatives.proofs.Bits.{composition_of}
use Rattle.basis_representatives.proofs.DescentBits.{sum-composition_of}
use Rattle.basis_representatives.proofs.Refinement.{by_bits}
use Rattle.change_laws.proofs.BitMatrices.{Matrix, matrix_of, all_bits, length-all_bits, entries, entries-matrix_of, Multiplies, entries-multiply}
use Rattle.change_laws.proofs.BitTests.{IsBitTest, OccursByClass}
use Rattle.change_laws.proofs.CompositionsByBits.{every_composition}
use Rattle.change_laws.proofs.IntSums.{sum_over, sum_over-map, sum_over_same, sum_over_none}

-- the coefficients are, bit by bit, the entries of a matrix
pub record HasEntries (coefficient : Code → Code → ℤ) (f : Matrix) : Type 0 where
  pub empty : coefficient [] [] ≡ pos 1
  pub bits : (a b : List Bool) → length a ≡ length b → coefficient (composition_of a) (composition_of b) ≡ entries f a b

-- at each point the first basis is read as the sum of the second, each element times its coefficient
abbrev pub ReadsAsSum : BasisId → BasisId → (Code → Code → ℤ) → Type 0
ReadsAsSum from to coefficient = (code : Code) → IsComposition code → (p : Point) →
    sum_over (λ parts. coefficient code parts *ℤ pos (one_if (occurs to parts p))) (every_composition (sum code)) ≡ pos (one_if (occurs from code p))

module _ (from to : Bool → Bool → Bool) (f : Matrix) (multiplies : Multiplies f (matrix_of to) (matrix_of from))
    (from_related to_related : Code → Code → Bool) (from_bits : IsBitTest from_related from) (to_bits : IsBitTest to_related to)
    (coefficient : Code → Code → ℤ) (has : HasEntries coefficient f) where
  -- what the second basis is read as at a class, times the coefficient
  abbrev part : Code → Code → Code → ℤ
  part code class parts = coefficient code parts *ℤ pos (one_if (to_related parts class))

  -- at the class of a composition with a part
  part-bits : (a c : List Bool) → sum_over (λ b. part (composition_of a) (composition_of c) (composition_of b)) (all_bits (length a)) ≡ pos (one_if (from_related (composition_of a) (composition_of c)))
  part-bits a c =
      sum_over_same (λ b. part (composition_of a) (composition_of c) (composition_of b)) (λ b. entries f a b *ℤ entries (matrix_of to) b c) (all_bits (length a))
      (All-weaker (λ (b : List Bool). length b ≡ length a) (λ b. part (composition_of a) (composition_of c) (composition_of b) ≡ entries f a b *ℤ entries (matrix_of to) b c)
      (λ b e. λ i. has.bits a b (sym e) i *ℤ (ap (λ t. pos (one_if t)) (to_bits.bits b c) ∙ sym (entries-matrix_of to b c)) i)
      (all_bits (length a)) (length-all_bits (length a)))
      ∙ entries-multiply f (matrix_of to) (matrix_of from) multiplies a c
      ∙ entries-matrix_of from a c
      ∙ ap (λ t. pos (one_if t)) (sym (from_bits.bits a c))

  -- at the empty class
  part-empty_class : (a : List Bool) → sum_over (λ b. part (composition_of a) [] (composition_of b)) (all_bits (length a)) ≡ pos (one_if (from_related (composition_of a) []))
  part-empty_class a =
      sum_over_none (λ b. part (composition_of a) [] (composition_of b))
      (λ b. ap (λ t. coefficient (composition_of a) (composition_of b) *ℤ pos (one_if t)) (to_bits.class_empty b) ∙ *ℤ-zero (coefficient (composition_of a) (composition_of b)))
      (all_bits (length a))
      ∙ ap (λ t. pos (one_if t)) (sym (from_bits.class_empty a))

  -- for the empty code
  part-empty_code : (class : Code) → IsComposition class → sum_over (part [] class) ([] ∷ []) ≡ pos (one_if (from_related [] class))
  part-empty_code class h =
      only (part [] class)
      ∙ ap (λ z. z *ℤ pos (one_if (to_related [] class))) has.empty
      ∙ by_bits (λ k. pos 1 *ℤ pos (one_if (to_related [] k)) ≡ pos (one_if (from_related [] k)))
      (ap (λ t. pos 1 *ℤ pos (one_if t)) to_bits.both_empty ∙ ap (λ t. pos (one_if t)) (sym from_bits.both_empty))
      (λ c. ap (λ t. pos 1 *ℤ pos (one_if t)) (to_bits.code_empty c) ∙ ap (λ t. pos (one_if t)) (sym (from_bits.code_empty c)))
      class h
    where
      only : (g : Code → ℤ) → sum_over g ([] ∷ []) ≡ g []
      only g = omega (arith, ints)

  -- the first basis is read as the sum of the second, at each class
  sum-parts : (code : Code) → IsComposition code → (class : Code) → IsComposition class → sum_over (part code class) (every_composition (sum code)) ≡ pos (one_if (from_related code class))
  sum-parts code hc class h =
      by_bits (λ c. sum_over (part c class) (every_composition (sum c)) ≡ pos (one_if (from_related c class)))
      (part-empty_code class h)
      (λ a. ap (λ n. sum_over (part (composition_of a) class) (every_composition n)) (sum-composition_of a)
      ∙ sum_over-map (part (composition_of a) class) composition_of (all_bits (length a))
      ∙ by_bits (λ k. sum_over (λ b. part (composition_of a) k (composition_of b)) (all_bits (length a)) ≡ pos (one_if (from_related (composition_of a) k)))
      (part-empty_class a) (part-bits a) class h)
      code hc

-- two bases that occur by the classes of points, with coefficients whose matrix takes the one to the other
pub change : (from to : BasisId) (class : Point → Code) (from_related to_related : Code → Code → Bool)
    → OccursByClass from class from_related → OccursByClass to class to_related
    → (from_test to_test : Bool → Bool → Bool) → IsBitTest from_related from_test → IsBitTest to_related to_test
    → (coefficient : Code → Code → ℤ) (f : Matrix) → HasEntries coefficient f → Multiplies f (matrix_of to_test) (matrix_of from_test)
    → ReadsAsSum from to coefficient
change from to class from_related to_related from_occurs to_occurs from_test to_test from_bits to_bits coefficient f has multiplies code h p =
    (λ i. sum_over (λ parts. coefficient code parts *ℤ pos (one_if (to_occurs.occurs_by parts p i))) (every_composition (sum code)))
    ∙ sum-parts from_test to_test f multiplies from_related to_related from_bits to_bits coefficient has code h (class p) (from_occurs.classes p)
    ∙ ap (λ t. pos (one_if t)) (sym (from_occurs.occurs_by code p))
