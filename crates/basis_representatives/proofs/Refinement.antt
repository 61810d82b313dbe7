-- Refinement of compositions: by bits, as an order, and by the numbers of parts.
use Rattle.std.proofs.Common.{◌≡◌, ◌⊎◌, ℕ, suc, ◌+◌, ◌<◌, ◌≤◌, Bool, true, false, List, [], ◌∷◌, length, refl, sym, ◌∙◌, ap, subst, arith, inl, inr}
use Rattle.std.specs.Prelude.{nat_eq}
use Rattle.std.specs.List.{sum}
use Rattle.std.proofs.lemmas.Bool.{and_parts, eqb-true, cases_eq}
use Rattle.std.proofs.lemmas.Bool.Decides.{nat_tests}
use Rattle.std.proofs.lemmas.List.{length-map}
use Rattle.std.proofs.lemmas.List.Sums.{sum_by-cons}
use Rattle.realisations.specs.Lists.{is_subset}
use Rattle.realisations.specs.Descents.{descent_set, places_outside, is_finer}
use Rattle.realisations.specs.IndexKinds.{IsComposition}
use Rattle.basis_representatives.proofs.Bits.{composition_of, bits_of, turned_composition}
use Rattle.basis_representatives.proofs.Places.{turned, set_bits, pairwise, within, pairwise-other_lengths, is_subset-places}
use Rattle.basis_representatives.proofs.DescentBits.{IsComposition-composition_of, sum-composition_of, length-composition_of, bits_of-composition_of, composition_of-bits_of, descent_set-composition_of, places_outside-composition_of, is_finer-composition_of}
use Rattle.basis_representatives.proofs.ClassTests.{is_complementary}

-- what holds of the empty composition and of that of any bits holds of each composition
pub by_bits : (P : List ℕ → Type 0) → P [] → ((bits : List Bool) → P (composition_of bits)) → (parts : List ℕ) → IsComposition parts → P parts
by_bits P none some [] h = none
by_bits P none some (i ∷ parts) h = subst P (composition_of-bits_of i parts h) (some (bits_of (i ∷ parts)))

-- the empty composition is finer than none with a part, and none with a part is finer than it
pub is_finer-empty_fine : (bits : List Bool) → is_finer [] (composition_of bits) ≡ false
is_finer-empty_fine bits =
    let apart : nat_eq 0 (suc (length bits)) ≡ false = grind (arith, nat_tests) in
    rw (sum-composition_of bits, apart) refl

pub is_finer-empty_coarse : (bits : List Bool) → is_finer (composition_of bits) [] ≡ false
is_finer-empty_coarse bits =
    let apart : nat_eq (suc (length bits)) 0 ≡ false = grind (arith, nat_tests) in
    rw (sum-composition_of bits, apart) refl

within-self : (a : List Bool) → pairwise within a a ≡ true
within-self [] = refl
within-self (true ∷ a) = within-self a
within-self (false ∷ a) = within-self a

-- bits within others are the same, or fewer
pub same_or_fewer : (a b : List Bool) → pairwise within a b ≡ true → (a ≡ b) ⊎ (set_bits a < set_bits b)
same_or_fewer [] [] h = inl refl
same_or_fewer [] (y ∷ b) h = absurd (cc)
same_or_fewer (x ∷ a) [] h = absurd (cc)
same_or_fewer (true ∷ a) (true ∷ b) h = elim (same_or_fewer a b h) [
  | inl same ↦ inl (ap (λ bs. true ∷ bs) same)
  | inr fewer ↦ inr (omega arith)
]
same_or_fewer (true ∷ a) (false ∷ b) h = absurd (cc)
same_or_fewer (false ∷ a) (true ∷ b) h = elim (same_or_fewer a b h) [
  | inl same ↦ inr (let equal = ap set_bits same in omega arith)
  | inr fewer ↦ inr (omega arith)
]
same_or_fewer (false ∷ a) (false ∷ b) h = elim (same_or_fewer a b h) [
  | inl same ↦ inl (ap (λ bs. false ∷ bs) same)
  | inr fewer ↦ inr (omega arith)
]

-- a composition is finer than itself or equal to it
pub is_finer-self : (parts : List ℕ) → IsComposition parts → is_finer parts parts ≡ true
is_finer-self parts h = by_bits (λ ps. is_finer ps ps ≡ true) refl (λ a. is_finer-composition_of a a ∙ within-self a) parts h

-- a finer composition is of the same size
pub sum-finer : (fine coarse : List ℕ) → is_finer fine coarse ≡ true → sum fine ≡ sum coarse
sum-finer fine coarse h = eqb-true (sum fine) (sum coarse) (and_parts (nat_eq (sum fine) (sum coarse)) (is_subset (descent_set coarse) (descent_set fine)) h).0

-- and is the other one, or has more parts
pub same_or_longer : (fine coarse : List ℕ) → IsComposition fine → IsComposition coarse → is_finer fine coarse ≡ true → (fine ≡ coarse) ⊎ (length coarse < length fine)
same_or_longer fine coarse hf hc =
    by_bits (λ f. is_finer f coarse ≡ true → (f ≡ coarse) ⊎ (length coarse < length f))
    (by_bits (λ c. is_finer [] c ≡ true → ([] ≡ c) ⊎ (length c < 0)) (λ h. inl refl) (λ b h. absurd (let no_finer = is_finer-empty_fine b in cc)) coarse hc)
    (λ a. by_bits (λ c. is_finer (composition_of a) c ≡ true → (composition_of a ≡ c) ⊎ (length c < length (composition_of a)))
    (λ h. absurd (let no_finer = is_finer-empty_coarse a in cc))
    (λ b h. elim (same_or_fewer b a (sym (is_finer-composition_of a b) ∙ h)) [
      | inl same ↦ inl (ap composition_of (sym same))
      | inr fewer ↦ inr (omega (arith, length-composition_of a, length-composition_of b))
    ]) coarse hc) fine hf

-- a composition has at most as many parts as its size
pub length-composition : (parts : List ℕ) → IsComposition parts → length parts ≤ sum parts
length-composition [] h = omega arith
length-composition (i ∷ parts) h = omega (arith, h.0, length-composition parts h.1, sum_by-cons (λ (k : ℕ). k) i parts)

-- turned bits are within others turned where those are within them
pub within-turned : (a b : List Bool) → pairwise within (turned a) (turned b) ≡ pairwise within b a
within-turned [] [] = refl
within-turned [] (y ∷ b) = refl
within-turned (x ∷ a) [] = refl
within-turned (true ∷ a) (true ∷ b) = within-turned a b
within-turned (true ∷ a) (false ∷ b) = within-turned a b
within-turned (false ∷ a) (true ∷ b) = refl
within-turned (false ∷ a) (false ∷ b) = within-turned a b

-- turning keeps the number of bits
pub length-turned : (a : List Bool) → length (turned a) ≡ length a
length-turned a = length-map a _

-- each bit is set, or is once it is turned
pub set_bits-turned : (a : List Bool) → set_bits (turned a) + set_bits a ≡ length a
set_bits-turned [] = refl
set_bits-turned (true ∷ a) = omega (arith, set_bits-turned a)
set_bits-turned (false ∷ a) = omega (arith, set_bits-turned a)

-- the test of complementary compositions, bit by bit
pub is_complementary-composition_of : (a b : List Bool) → is_complementary (composition_of a) (composition_of b) ≡ pairwise within (turned a) b
is_complementary-composition_of a b =
    rw (places_outside-composition_of a, sum-composition_of a, sum-composition_of b, descent_set-composition_of b)
    (elim (cases_eq (length a) (length b)) [
      | inl same ↦
          let equal : nat_eq (suc (length b)) (suc (length a)) ≡ true = grind (arith, nat_tests) in
          rw equal (is_subset-places 1 (turned a) b (length-turned a ∙ same))
      | inr other ↦
          let apart : nat_eq (suc (length b)) (suc (length a)) ≡ false = grind (arith, nat_tests) in
          rw apart (sym (pairwise-other_lengths within (turned a) b (λ e. other (sym (length-turned a) ∙ e))))
    ])

-- the empty composition is complementary to none with a part, and none with a part to it
pub is_complementary-empty_code : (bits : List Bool) → is_complementary [] (composition_of bits) ≡ false
is_complementary-empty_code bits =
    let apart : nat_eq (suc (length bits)) 0 ≡ false = grind (arith, nat_tests) in
    rw (sum-composition_of bits, apart) refl

pub is_complementary-empty_class : (bits : List Bool) → is_complementary (composition_of bits) [] ≡ false
is_complementary-empty_class bits =
    let apart : nat_eq 0 (suc (length bits)) ≡ false = grind (arith, nat_tests) in
    rw (sum-composition_of bits, apart) refl

-- the complement of a composition with bits
pub complement-composition_of : (bits : List Bool) → turned_composition (composition_of bits) ≡ composition_of (turned bits)
complement-composition_of bits = some (composition_of bits) (length-composition_of bits) ∙ ap (λ bs. composition_of (turned bs)) (bits_of-composition_of bits)
  where
    some : (parts : List ℕ) → length parts ≡ suc (set_bits bits) → turned_composition parts ≡ composition_of (turned (bits_of parts))
    some [] e = absurd (omega arith)
    some (i ∷ parts) e = refl

-- the complement is a composition of the same size
pub IsComposition-complement : (parts : List ℕ) → IsComposition (turned_composition parts)
IsComposition-complement [] = tt
IsComposition-complement (i ∷ parts) = IsComposition-composition_of (turned (bits_of (i ∷ parts)))

-- the complement has the same size
pub sum-complement : (parts : List ℕ) → IsComposition parts → sum (turned_composition parts) ≡ sum parts
sum-complement parts h =
    by_bits (λ ps. sum (turned_composition ps) ≡ sum ps) refl
    (λ bits. ap (λ (ps : List ℕ). sum ps) (complement-composition_of bits) ∙ sum-composition_of (turned bits) ∙ ap suc (length-turned bits) ∙ sym (sum-composition_of bits)) parts h

-- whose descents are the places outside
pub descent_set-complement : (parts : List ℕ) → IsComposition parts → descent_set (turned_composition parts) ≡ places_outside parts
descent_set-complement parts h =
    by_bits (λ ps. descent_set (turned_composition ps) ≡ places_outside ps) refl
    (λ bits. ap descent_set (complement-composition_of bits) ∙ descent_set-composition_of (turned bits) ∙ sym (places_outside-composition_of bits)) parts h

-- the complement of a composition is complementary to the finer ones
pub is_complementary-complement : (code parts : List ℕ) → IsComposition code → IsComposition parts → is_complementary code (turned_composition parts) ≡ is_finer code parts
is_complementary-complement code parts hc h =
    by_bits (λ c. is_complementary c (turned_composition parts) ≡ is_finer c parts)
    (by_bits (λ ps. is_complementary [] (turned_composition ps) ≡ is_finer [] ps) refl
    (λ b. ap (is_complementary []) (complement-composition_of b) ∙ is_complementary-empty_code (turned b) ∙ sym (is_finer-empty_fine b)) parts h)
    (λ a. by_bits (λ ps. is_complementary (composition_of a) (turned_composition ps) ≡ is_finer (composition_of a) ps)
    (is_complementary-empty_class a ∙ sym (is_finer-empty_coarse a))
    (λ b. ap (is_complementary (composition_of a)) (complement-composition_of b) ∙ is_complementary-composition_of a (turned b) ∙ within-turned a b ∙ sym (is_finer-composition_of a b)) parts h) code hc
