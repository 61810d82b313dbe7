-- Refinement of compositions with 1 more: with a first part 1, or with a first part one larger.
use Rattle.std.proofs.Common.{◌≡◌, ℕ, suc, Bool, true, false, List, [], ◌∷◌, refl, sym, ◌∙◌, subst}
use Rattle.realisations.specs.Descents.{is_finer, longer_first}
use Rattle.realisations.specs.IndexKinds.{IsComposition}
use Rattle.basis_representatives.proofs.Bits.{composition_of, bits_of}
use Rattle.basis_representatives.proofs.DescentBits.{composition_of-bits_of, is_finer-composition_of}
use Rattle.basis_representatives.proofs.Refinement.{by_bits, is_finer-empty_fine, is_finer-empty_coarse}

-- what holds of the composition of any bits holds of each composition with a part
pub by_some_bits : (P : List ℕ → Type 0) → ((bits : List Bool) → P (composition_of bits)) → (i : ℕ) (p : List ℕ) → IsComposition (i ∷ p) → P (i ∷ p)
by_some_bits P some i p h = subst P (composition_of-bits_of i p h) (some (bits_of (i ∷ p)))

-- no composition with a part is finer than the empty one
pub not_finer_than_none : (i : ℕ) (p : List ℕ) → IsComposition (i ∷ p) → is_finer (i ∷ p) [] ≡ false
not_finer_than_none i p h = by_some_bits (λ k. is_finer k [] ≡ false) is_finer-empty_coarse i p h

-- and the empty one is not finer than it
pub none_not_finer : (i : ℕ) (p : List ℕ) → IsComposition (i ∷ p) → is_finer [] (i ∷ p) ≡ false
none_not_finer i p h = by_some_bits (λ k. is_finer [] k ≡ false) is_finer-empty_fine i p h

-- a part 1 before both
pub finer_one_one : (i j : List ℕ) → IsComposition i → IsComposition j → is_finer (1 ∷ i) (1 ∷ j) ≡ is_finer i j
finer_one_one i j hi hj =
    by_bits (λ i. (j : List ℕ) → IsComposition j → is_finer (1 ∷ i) (1 ∷ j) ≡ is_finer i j)
    (λ j h. by_bits (λ j. is_finer (1 ∷ []) (1 ∷ j) ≡ is_finer [] j) refl (λ b. is_finer-composition_of [] (true ∷ b) ∙ sym (is_finer-empty_fine b)) j h)
    (λ a j h. by_bits (λ j. is_finer (1 ∷ composition_of a) (1 ∷ j) ≡ is_finer (composition_of a) j)
    (is_finer-composition_of (true ∷ a) [] ∙ sym (is_finer-empty_coarse a))
    (λ b. is_finer-composition_of (true ∷ a) (true ∷ b) ∙ sym (is_finer-composition_of a b)) j h)
    i hi j hj

-- a part one larger against a part 1
pub finer_longer_one : (i : ℕ) (p j : List ℕ) → IsComposition (i ∷ p) → IsComposition j → is_finer (suc i ∷ p) (1 ∷ j) ≡ false
finer_longer_one i p j hi hj =
    by_some_bits (λ i. (j : List ℕ) → IsComposition j → is_finer (longer_first i) (1 ∷ j) ≡ false)
    (λ a j h. by_bits (λ j. is_finer (longer_first (composition_of a)) (1 ∷ j) ≡ false) (is_finer-composition_of (false ∷ a) []) (λ b. is_finer-composition_of (false ∷ a) (true ∷ b)) j h)
    i p hi j hj

-- a part 1 against a part one larger
pub finer_one_longer : (i : List ℕ) (j : ℕ) (q : List ℕ) → IsComposition i → IsComposition (j ∷ q) → is_finer (1 ∷ i) (suc j ∷ q) ≡ is_finer i (j ∷ q)
finer_one_longer i j q hi hj =
    by_some_bits (λ j. (i : List ℕ) → IsComposition i → is_finer (1 ∷ i) (longer_first j) ≡ is_finer i j)
    (λ b i h. by_bits (λ i. is_finer (1 ∷ i) (longer_first (composition_of b)) ≡ is_finer i (composition_of b))
    (is_finer-composition_of [] (false ∷ b) ∙ sym (is_finer-empty_fine b))
    (λ a. is_finer-composition_of (true ∷ a) (false ∷ b) ∙ sym (is_finer-composition_of a b)) i h)
    j q hj i hi

-- a part one larger in both
pub finer_longer_longer : (i : ℕ) (p : List ℕ) (j : ℕ) (q : List ℕ) → IsComposition (i ∷ p) → IsComposition (j ∷ q) → is_finer (suc i ∷ p) (suc j ∷ q) ≡ is_finer (i ∷ p) (j ∷ q)
finer_longer_longer i p j q hi hj =
    by_some_bits (λ i. is_finer (longer_first i) (suc j ∷ q) ≡ is_finer i (j ∷ q))
    (λ a. by_some_bits (λ j. is_finer (longer_first (composition_of a)) (longer_first j) ≡ is_finer (composition_of a) j)
    (λ b. is_finer-composition_of (false ∷ a) (false ∷ b) ∙ sym (is_finer-composition_of a b)) j q hj)
    i p hi
