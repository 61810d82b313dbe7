-- Lists of bits, and the sets of places where they are set.
use Rattle.std.proofs.Common.{◌≡◌, ◌≢◌, ℕ, suc, ◌<◌, ◌≤◌, Bool, true, false, ◌&&◌, List, [], ◌∷◌, map, length, refl, ◌∙◌, ap, arith, add-one}
use Rattle.std.specs.Prelude.{nat_eq, not}
use Rattle.std.specs.List.{filter, range_with_len}
use Rattle.std.proofs.lemmas.Bool.Decides.{nat_tests}
use Rattle.realisations.specs.Lists.{is_among, is_subset}

-- the places, counted from k, whose bit is set
abbrev pub places : ℕ → List Bool → List ℕ
places k [] = []
places k (true ∷ bits) = k ∷ places (suc k) bits
places k (false ∷ bits) = places (suc k) bits

-- each bit turned
abbrev pub turned : List Bool → List Bool
turned bits = map (λ bit. not bit) bits

-- how many bits are set
abbrev pub set_bits : List Bool → ℕ
set_bits [] = 0
set_bits (true ∷ bits) = suc (set_bits bits)
set_bits (false ∷ bits) = set_bits bits

-- two lists of bits of one length pass a test at each place
abbrev pub pairwise : (Bool → Bool → Bool) → List Bool → List Bool → Bool
pairwise test [] [] = true
pairwise test [] (y ∷ b) = false
pairwise test (x ∷ a) [] = false
pairwise test (x ∷ a) (y ∷ b) = test x y && pairwise test a b

-- the second bit is set where the first one is
abbrev pub within : Bool → Bool → Bool
within true y = y
within false y = true

-- lists of other lengths pass no test
pub pairwise-other_lengths : (test : Bool → Bool → Bool) (a b : List Bool) → length a ≢ length b → pairwise test a b ≡ false
pairwise-other_lengths test [] [] other = absurd (other refl)
pairwise-other_lengths test [] (y ∷ b) other = refl
pairwise-other_lengths test (x ∷ a) [] other = refl
pairwise-other_lengths test (x ∷ a) (y ∷ b) other = rw (pairwise-other_lengths test a b (λ e. other (ap suc e))) (and_false (test x y))
  where
    and_false : (p : Bool) → (p && false) ≡ false
    and_false true = refl
    and_false false = refl

nat_eq-self : (k : ℕ) → nat_eq k k ≡ true
nat_eq-self k = grind (arith, nat_tests)

nat_eq-above : (j k : ℕ) → j < k → nat_eq k j ≡ false
nat_eq-above j k less = grind (arith, nat_tests)

nat_eq-below : (j k : ℕ) → j < k → nat_eq j k ≡ false
nat_eq-below j k less = grind (arith, nat_tests)

-- no place comes before the first
is_among-before : (j k : ℕ) (bits : List Bool) → j < k → is_among j (places k bits) ≡ false
is_among-before j k [] less = refl
is_among-before j k (true ∷ bits) less = rw (nat_eq-above j k less, is_among-before j (suc k) bits (omega arith)) refl
is_among-before j k (false ∷ bits) less = is_among-before j (suc k) bits (omega arith)

-- a number before all places is none of them
is_subset-before : (j k : ℕ) (bits : List Bool) (ys : List ℕ) → j < k → is_subset (places k bits) (j ∷ ys) ≡ is_subset (places k bits) ys
is_subset-before j k [] ys less = refl
is_subset-before j k (true ∷ bits) ys less = rw (nat_eq-below j k less, is_subset-before j (suc k) bits ys (omega arith)) refl
is_subset-before j k (false ∷ bits) ys less = is_subset-before j (suc k) bits ys (omega arith)

-- sets of places are compared bit by bit
pub is_subset-places : (k : ℕ) (a b : List Bool) → length a ≡ length b → is_subset (places k a) (places k b) ≡ pairwise within a b
is_subset-places k [] [] same = refl
is_subset-places k [] (y ∷ b) same = absurd (omega arith)
is_subset-places k (x ∷ a) [] same = absurd (omega arith)
is_subset-places k (true ∷ a) (true ∷ b) same =
    rw (nat_eq-self k, is_subset-before k (suc k) a (places (suc k) b) (omega arith)) (is_subset-places (suc k) a b (omega arith))
is_subset-places k (true ∷ a) (false ∷ b) same = rw (is_among-before k (suc k) b (omega arith)) refl
is_subset-places k (false ∷ a) (true ∷ b) same =
    is_subset-before k (suc k) a (places (suc k) b) (omega arith) ∙ is_subset-places (suc k) a b (omega arith)
is_subset-places k (false ∷ a) (false ∷ b) same = is_subset-places (suc k) a b (omega arith)

-- the places that are not set are those of the turned bits
pub filter-places : (test : ℕ → Bool) (k : ℕ) (bits : List Bool) → ((j : ℕ) → k ≤ j → test j ≡ not (is_among j (places k bits)))
    → filter test (range_with_len k (length bits)) ≡ places k (turned bits)
filter-places test k [] outside = refl
filter-places test k (true ∷ bits) outside =
    rw (outside k (omega arith), nat_eq-self k, add-one)
    (filter-places test (suc k) bits (λ j from. outside j (omega arith) ∙ rw (nat_eq-below k j (omega arith)) refl))
filter-places test k (false ∷ bits) outside =
    rw (outside k (omega arith), is_among-before k (suc k) bits (omega arith), add-one)
    (ap (λ ks. k ∷ ks) (filter-places test (suc k) bits (λ j from. outside j (omega arith))))
