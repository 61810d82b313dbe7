-- What the code lists, by bits: the compositions of the allowed lists of bits, in canonical order.
use Rattle.std.proofs.Common.{◌≡◌, ℕ, zero, suc, ◌-◌, Bool, true, false, List, [], ◌∷◌, ◌++◌, map, length, replicate, refl, sym, ◌∙◌, ap, arith}
use Rattle.std.specs.List.{sum}
use Rattle.std.specs.Ordering.{nat_cmp, ordering_then}
use Rattle.std.specs.declared.cmp.Ordering.TheVariants.{Less}
use Rattle.std.specs.Cmp.{nat_cmp_is}
use Rattle.std.specs.Cmp.Lexicographic.{slice_cmp}
use Rattle.std.proofs.lemmas.Bool.Decides.{nat_tests}
use Rattle.std.proofs.lemmas.List.{map-append}
use Rattle.std.proofs.lemmas.List.Elements.{All-nil}
use Rattle.realisations.specs.Descents.{longer_first}
use Rattle.realisations.specs.IndexKinds.{IsComposition}
use Rattle.basis_representatives.proofs.Bits.{composition_of, bits_of}
use Rattle.basis_representatives.proofs.DescentBits.{IsComposition-composition_of, sum-composition_of}
use Rattle.compositions.specs.declared.growth.Place.{Place}
use Rattle.compositions.specs.declared.growth.Place.TheVariants.{Cut, Joined, Free}
use Rattle.compositions.specs.Growth.{grown_codes, grown_times, codes_over}
use Rattle.compositions.proofs.ChosenBits.{picked, bits_over, ascending_over}
use Rattle.compositions.proofs.OrderedLists.{Ascending, Ascending-map, IsBefore}

with_bit : (bit : Bool) (f : List ℕ → List ℕ) → ((bits : List Bool) → composition_of (bit ∷ bits) ≡ f (composition_of bits)) → (xs : List (List Bool))
    → map composition_of (map (λ bits. bit ∷ bits) xs) ≡ map f (map composition_of xs)
with_bit bit f is [] = refl
with_bit bit f is (bits ∷ xs) =
    let first = is bits in
    let rest = with_bit bit f is xs in
    λ i. first i ∷ rest i

-- one letter more is one bit more
grown-picked : (place : Place) (xs : List (List Bool)) → grown_codes place (map composition_of xs) ≡ map composition_of (picked place xs)
grown-picked Cut xs = sym (with_bit true (λ parts. 1 ∷ parts) (λ bits. refl) xs)
grown-picked Joined xs = sym (with_bit false longer_first (λ bits. refl) xs)
grown-picked Free xs =
    sym (map-append composition_of (map (λ bits. true ∷ bits) xs) (map (λ bits. false ∷ bits) xs)
    ∙ (λ i. with_bit true (λ parts. 1 ∷ parts) (λ bits. refl) xs i ++ with_bit false longer_first (λ bits. refl) xs i))

module _ (between inside : Place) where
  -- letters inside a part
  grown-inside : (n : ℕ) (bits : List Bool) → grown_times n inside (map composition_of (bits_over between inside bits)) ≡ map composition_of (bits_over between inside (replicate n false ++ bits))
  grown-inside zero bits = refl
  grown-inside (suc n) bits = ap (grown_codes inside) (grown-inside n bits) ∙ grown-picked inside (bits_over between inside (replicate n false ++ bits))

  -- and inside the last one
  grown-last : (n : ℕ) → grown_times n inside ((1 ∷ []) ∷ []) ≡ map composition_of (bits_over between inside (replicate n false))
  grown-last zero = refl
  grown-last (suc n) = ap (grown_codes inside) (grown-last n) ∙ grown-picked inside (bits_over between inside (replicate n false))

  -- so the codes are the compositions of the bits
  pub codes_over-bits : (i : ℕ) (parts : List ℕ) → IsComposition (i ∷ parts) → codes_over between inside (i ∷ parts) ≡ map composition_of (bits_over between inside (bits_of (i ∷ parts)))
  codes_over-bits zero parts h = absurd (omega (arith, h.0))
  codes_over-bits (suc n) [] h =
      let inner : suc n - 1 ≡ n = omega arith in
      ap (λ m. grown_times m inside ((1 ∷ []) ∷ [])) inner ∙ grown-last n
  codes_over-bits (suc n) (j ∷ parts) h =
      let inner : suc n - 1 ≡ n = omega arith in
      (λ k. grown_times (inner k) inside (grown_codes between (codes_over-bits j parts h.1 k)))
      ∙ ap (grown_times n inside) (grown-picked between (bits_over between inside (bits_of (j ∷ parts))))
      ∙ grown-inside n (true ∷ bits_of (j ∷ parts))

-- the composition of the first bits comes before that of the second
abbrev IsBeforeByBits : List Bool → List Bool → Type 0
IsBeforeByBits a b = IsBefore (composition_of a) (composition_of b)

-- a first part 1 comes before a larger one
one_before : (a b : List Bool) → IsBeforeByBits (true ∷ a) (false ∷ b)
one_before a b = longer (composition_of b) (IsComposition-composition_of b) (sum-composition_of b)
  where
    longer : (parts : List ℕ) → IsComposition parts → sum parts ≡ suc (length b) → slice_cmp nat_cmp (1 ∷ composition_of a) (longer_first parts) ≡ Less
    longer [] h e = absurd (omega (arith, e))
    longer (i ∷ parts) h e = ap (λ o. ordering_then o (slice_cmp nat_cmp (composition_of a) parts)) (sym (nat_cmp_is 1 (suc i) Less (omega (arith, h.0))))

-- first parts that are one larger keep the order, and so do equal ones
same_before : (bit : Bool) (a b : List Bool) → IsBeforeByBits a b → IsBeforeByBits (bit ∷ a) (bit ∷ b)
same_before true a b h = h
same_before false a b h = longer (composition_of a) (composition_of b) (sum-composition_of a) (sum-composition_of b) h
  where
    longer : (v w : List ℕ) → sum v ≡ suc (length a) → sum w ≡ suc (length b) → slice_cmp nat_cmp v w ≡ Less → slice_cmp nat_cmp (longer_first v) (longer_first w) ≡ Less
    longer [] w ev ew less = absurd (omega (arith, ev))
    longer (i ∷ v) [] ev ew less = absurd (omega (arith, ew))
    longer (i ∷ v) (j ∷ w) ev ew less =
        let same : nat_cmp (suc i) (suc j) ≡ nat_cmp i j = grind (arith, nat_tests) in
        ap (λ o. ordering_then o (slice_cmp nat_cmp v w)) same ∙ less

-- compositions of the allowed bits rise
pub ascending_compositions : (between inside : Place) (bits : List Bool) → Ascending IsBefore (map composition_of (bits_over between inside bits))
ascending_compositions between inside bits =
    Ascending-map IsBeforeByBits IsBefore composition_of (λ a b h. h) (bits_over between inside bits) (ascending_over IsBeforeByBits same_before one_before between inside bits)

-- and so does the empty composition alone
pub ascending_empty : Ascending IsBefore ([] ∷ [])
ascending_empty = (All-nil (λ w. IsBefore [] w), tt)
