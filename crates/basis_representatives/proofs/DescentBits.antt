-- The compositions of n + 1 are the lists of n bits.
use Rattle.std.proofs.Common.{inl, inr, ◌≡◌, ℕ, zero, suc, ◌+◌, ◌-◌, Bool, true, false, if◌then◌else◌, List, [], ◌∷◌, ◌++◌, length, replicate, refl, sym, ◌∙◌, ap, arith}
use Rattle.std.specs.Prelude.{nat_eq, not}
use Rattle.std.specs.List.{sum}
use Rattle.std.proofs.lemmas.Bool.{cases_eq}
use Rattle.std.proofs.lemmas.List.Sums.{sum_by-cons}
use Rattle.std.proofs.lemmas.Bool.Decides.{nat_tests}
use Rattle.realisations.specs.Lists.{is_among}
use Rattle.realisations.specs.Descents.{longer_first, partial_sums, descent_set, places_outside, is_finer}
use Rattle.realisations.specs.IndexKinds.{IsComposition}
use Rattle.basis_representatives.proofs.Bits.{composition_of, bits_of}
use Rattle.basis_representatives.proofs.Places.{places, turned, set_bits, pairwise, within, pairwise-other_lengths, is_subset-places, filter-places}

-- a composition with a part
abbrev HasPart : List ℕ → Type 0
HasPart [] = ⊥
HasPart (suc i ∷ parts) = IsComposition parts
HasPart (zero ∷ parts) = ⊥

has_part : (bits : List Bool) → HasPart (composition_of bits)
has_part [] = tt
has_part (true ∷ bits) = composition (composition_of bits) (has_part bits)
  where
    composition : (parts : List ℕ) → HasPart parts → IsComposition parts
    composition [] some = absurd some
    composition (zero ∷ parts) some = absurd some
    composition (suc i ∷ parts) some = (omega arith, some)
has_part (false ∷ bits) = longer (composition_of bits) (has_part bits)
  where
    longer : (parts : List ℕ) → HasPart parts → HasPart (longer_first parts)
    longer [] some = absurd some
    longer (zero ∷ parts) some = absurd some
    longer (suc i ∷ parts) some = some

-- bits give a composition
pub IsComposition-composition_of : (bits : List Bool) → IsComposition (composition_of bits)
IsComposition-composition_of bits = composition (composition_of bits) (has_part bits)
  where
    composition : (parts : List ℕ) → HasPart parts → IsComposition parts
    composition [] some = absurd some
    composition (zero ∷ parts) some = absurd some
    composition (suc i ∷ parts) some = (omega arith, some)

-- of n + 1, where there are n bits
pub sum-composition_of : (bits : List Bool) → sum (composition_of bits) ≡ suc (length bits)
sum-composition_of [] = refl
sum-composition_of (true ∷ bits) = omega (arith, sum_by-cons (λ (k : ℕ). k) 1 (composition_of bits), sum-composition_of bits)
sum-composition_of (false ∷ bits) = longer (composition_of bits) (has_part bits) (sum-composition_of bits)
  where
    longer : (parts : List ℕ) → HasPart parts → sum parts ≡ suc (length bits) → sum (longer_first parts) ≡ suc (suc (length bits))
    longer [] some e = absurd some
    longer (i ∷ parts) some e = omega (arith, e, sum_by-cons (λ (k : ℕ). k) (suc i) parts, sum_by-cons (λ (k : ℕ). k) i parts)

-- with a part more than bits that are set
pub length-composition_of : (bits : List Bool) → length (composition_of bits) ≡ suc (set_bits bits)
length-composition_of [] = refl
length-composition_of (true ∷ bits) = ap suc (length-composition_of bits)
length-composition_of (false ∷ bits) = longer (composition_of bits) (has_part bits) ∙ length-composition_of bits
  where
    longer : (parts : List ℕ) → HasPart parts → length (longer_first parts) ≡ length parts
    longer [] some = absurd some
    longer (i ∷ parts) some = refl

-- its bits are the bits
pub bits_of-composition_of : (bits : List Bool) → bits_of (composition_of bits) ≡ bits
bits_of-composition_of [] = refl
bits_of-composition_of (true ∷ bits) = first (composition_of bits) (has_part bits) (bits_of-composition_of bits)
  where
    first : (parts : List ℕ) → HasPart parts → bits_of parts ≡ bits → bits_of (1 ∷ parts) ≡ true ∷ bits
    first [] some e = absurd some
    first (i ∷ parts) some e = ap (λ bs. true ∷ bs) e
bits_of-composition_of (false ∷ bits) = longer (composition_of bits) (has_part bits) (bits_of-composition_of bits)
  where
    longer : (parts : List ℕ) → HasPart parts → bits_of parts ≡ bits → bits_of (longer_first parts) ≡ false ∷ bits
    longer [] some e = absurd some
    longer (zero ∷ parts) some e = absurd some
    longer (suc i ∷ []) some e = ap (λ bs. false ∷ bs) e
    longer (suc i ∷ j ∷ parts) some e = ap (λ bs. false ∷ bs) e

longer-inside : (n : ℕ) (bits : List Bool) → composition_of (replicate n false ++ true ∷ bits) ≡ suc n ∷ composition_of bits
longer-inside zero bits = refl
longer-inside (suc n) bits = ap longer_first (longer-inside n bits)

longer-last : (n : ℕ) → composition_of (replicate n false) ≡ suc n ∷ []
longer-last zero = refl
longer-last (suc n) = ap longer_first (longer-last n)

-- a composition with a part is that of its bits
pub composition_of-bits_of : (i : ℕ) (parts : List ℕ) → IsComposition (i ∷ parts) → composition_of (bits_of (i ∷ parts)) ≡ i ∷ parts
composition_of-bits_of zero parts h = absurd (omega (arith, h.0))
composition_of-bits_of (suc n) [] h = longer-last n
composition_of-bits_of (suc n) (j ∷ parts) h =
    longer-inside n (bits_of (j ∷ parts)) ∙ ap (λ ps. suc n ∷ ps) (composition_of-bits_of j parts h.1)

-- a place behind s letters
sums_step : (s : ℕ) (bits : List Bool) (bit : Bool) (parts : List ℕ) → HasPart parts → partial_sums (suc s) parts ≡ places (suc (suc s)) bits
    → partial_sums s (if bit then 1 ∷ parts else longer_first parts) ≡ places (suc s) (bit ∷ bits)
sums_step s bits bit [] some e = absurd some
sums_step s bits true (j ∷ parts) some e =
    let next : s + 1 ≡ suc s = omega arith in
    ap (λ n. n ∷ partial_sums n (j ∷ parts)) next ∙ ap (λ ps. suc s ∷ ps) e
sums_step s bits false (i ∷ []) some e = e
sums_step s bits false (i ∷ j ∷ parts) some e =
    let next : s + suc i ≡ suc s + i = omega arith in
    ap (λ n. n ∷ partial_sums n (j ∷ parts)) next ∙ e

partial_sums-composition_of : (s : ℕ) (bits : List Bool) → partial_sums s (composition_of bits) ≡ places (suc s) bits
partial_sums-composition_of s [] = refl
partial_sums-composition_of s (true ∷ bits) = sums_step s bits true (composition_of bits) (has_part bits) (partial_sums-composition_of (suc s) bits)
partial_sums-composition_of s (false ∷ bits) = sums_step s bits false (composition_of bits) (has_part bits) (partial_sums-composition_of (suc s) bits)

-- its descents are the places of the bits that are set
pub descent_set-composition_of : (bits : List Bool) → descent_set (composition_of bits) ≡ places 1 bits
descent_set-composition_of bits = partial_sums-composition_of 0 bits

-- and the places outside are those of the turned bits
pub places_outside-composition_of : (bits : List Bool) → places_outside (composition_of bits) ≡ places 1 (turned bits)
places_outside-composition_of bits =
    let size : sum (composition_of bits) - 1 ≡ length bits = omega (arith, sum-composition_of bits) in
    rw (size, descent_set-composition_of bits) (filter-places (λ k. not (is_among k (places 1 bits))) 1 bits (λ j from. refl))

-- refinement is compared bit by bit
pub is_finer-composition_of : (a b : List Bool) → is_finer (composition_of a) (composition_of b) ≡ pairwise within b a
is_finer-composition_of a b =
    rw (sum-composition_of a, sum-composition_of b, descent_set-composition_of a, descent_set-composition_of b)
    (elim (cases_eq (length b) (length a)) [
      | inl same ↦
          let yes : nat_eq (suc (length a)) (suc (length b)) ≡ true = grind (arith, nat_tests) in
          rw yes (is_subset-places 1 b a same)
      | inr other ↦
          let no : nat_eq (suc (length a)) (suc (length b)) ≡ false = grind (arith, nat_tests) in
          rw no (sym (pairwise-other_lengths within b a other))
    ])
