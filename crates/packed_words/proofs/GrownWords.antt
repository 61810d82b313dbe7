-- The packed words of n + 1 letters, from those of n: by the packing of the letters behind the first one.
use Rattle.std.proofs.Common.{◌≡◌, ℕ, zero, suc, ◌+◌, ◌<◌, ◌≤◌, true, List, [], ◌∷◌, length, take, drop, get_or, refl, sym, ◌∙◌, ap, subst, arith}
use Rattle.std.specs.Prelude.{nat_le}
use Rattle.std.proofs.lemmas.Bool.Decides.{nat_tests}
use Rattle.std.proofs.lemmas.List.{length-append, length-drop, take-append-drop, take_all}
use Rattle.realisations.specs.Codes.{Code}
use Rattle.realisations.specs.Standardisation.{pack}
use Rattle.realisations.proofs.Packing.{length-pack}
use Rattle.basis_representatives.proofs.PackedWords.{HasAllLetters, all_letters, packed_from, packed-pack}
use Rattle.permutation_words.proofs.CanonicalOrder.{added_all, added_has, added_once, counted_at}
use Rattle.word_laws.specs.AddedCodes.{AddsEach, times_in}
use Rattle.word_laws.specs.Merges.{IsMerge, IsMergeFront, IsMergePast}
use Rattle.word_laws.proofs.AddedCodes.{adds_more, adds_none, adds_one, adds_same}
use Rattle.word_laws.proofs.Merges.{merge_front, merge_is_spread, merge_start}
use Rattle.packed_words.specs.Sizes.{IsPackedWordOf}

-- those whose letters behind the first one have the packing v are the merges of 1 and v
merge_of_one : (n : ℕ) (v w : Code) → IsPackedWordOf n v → IsMerge (1 ∷ []) v w → IsPackedWordOf (n + 1) w × (pack (drop 1 w) ≡ v)
merge_of_one n v w hv h =
    let first : length (take 1 w) ≡ 1 = sym (length-pack (take 1 w)) ∙ ap (λ (u : Code). length u) h.front in
    let others : length (drop 1 w) ≡ n = sym (length-pack (drop 1 w)) ∙ ap (λ (u : Code). length u) h.back ∙ hv.1 in
    ((h.packed, omega (arith, ap (λ (u : Code). length u) (take-append-drop 1 w), length-append (take 1 w) (drop 1 w), first, others)), h.back)

-- a word of one letter is packed to 1
packed_one : (w : Code) → 1 ≤ length w → HasAllLetters w → pack (take 1 w) ≡ 1 ∷ []
packed_one [] some h = absurd (omega (arith, some))
packed_one (x ∷ w) some h = let e : nat_le x x ≡ true = grind (arith, nat_tests) in rw e refl

one_is_merge : (n : ℕ) (v w : Code) → IsPackedWordOf (n + 1) w × (pack (drop 1 w) ≡ v) → IsMerge (1 ∷ []) v w
one_is_merge n v w h = record { packed = h.0.0; front = packed_one w (omega (arith, h.0.1)) (all_letters w h.0.0); back = h.1 }

module _ (n : ℕ) (codes : List Code) (all : AddsEach (IsPackedWordOf n) [] codes) where
  -- each of the codes is a packed word of n letters
  one_of_them : (i : ℕ) (v : Code) → i < length codes → v ≡ get_or codes i [] → IsPackedWordOf n v
  one_of_them i v lt here = added_has (IsPackedWordOf n) codes all v (counted_at codes i v lt here)

  -- 1 and one of them can be merged
  pub grown_front : (i : ℕ) (first v : Code) → n ≤ 7 → first ≡ 1 ∷ [] → i < length codes → v ≡ get_or codes i [] → IsMergeFront 0 first v
  grown_front i first v few one lt here =
      let hv = one_of_them i v lt here in
      subst (λ u. IsMergeFront 0 u v) (sym one) (merge_front (1 ∷ []) v refl hv.0 (omega (arith, hv.1, few)))

  -- the words that were found from the first codes
  abbrev pub GrownFrom : ℕ → Code → Type 0
  GrownFrom i w = IsPackedWordOf (n + 1) w × (1 ≤ times_in (pack (drop 1 w)) (take i codes))

  pub grown_start : AddsEach (GrownFrom 0) [] []
  grown_start = adds_none (GrownFrom 0) [] (λ w h. absurd (omega (arith, h.1)))

  pub grown_more : (i : ℕ) (first v : Code) (longer new : List Code) → first ≡ 1 ∷ [] → i < length codes → v ≡ get_or codes i []
      → AddsEach (GrownFrom i) [] longer → AddsEach (IsMergePast 0 first v) longer new → AddsEach (GrownFrom (i + 1)) [] new
  grown_more i first v longer new one lt here before adds =
      let hv = one_of_them i v lt here in
      adds_more (IsPackedWordOf (n + 1)) (λ w. pack (drop 1 w)) codes longer new i v lt here (added_once (IsPackedWordOf n) codes all v) before
      (adds_same (IsMergePast 0 (1 ∷ []) v) (λ w. IsPackedWordOf (n + 1) w × (pack (drop 1 w) ≡ v)) longer new
      (λ w h. merge_of_one n v w hv (merge_start (1 ∷ []) v refl hv.0 w h))
      (λ w h. merge_is_spread (1 ∷ []) v w (one_is_merge n v w h))
      (subst (λ u. AddsEach (IsMergePast 0 u v) longer new) one adds))

  -- from all codes all are found
  pub grown_whole : (i : ℕ) (longer : List Code) → length codes ≤ i → AddsEach (GrownFrom i) [] longer → AddsEach (IsPackedWordOf (n + 1)) [] longer
  grown_whole i longer end adds =
      adds_same (GrownFrom i) (IsPackedWordOf (n + 1)) [] longer (λ w h. h.0)
      (λ w h. (
        h,
        subst (λ ws. 1 ≤ times_in (pack (drop 1 w)) ws) (sym (take_all i codes end))
            (added_all (IsPackedWordOf n) codes all (pack (drop 1 w)) (packed_from (pack (drop 1 w)) (packed-pack (drop 1 w)), omega (arith, length-pack (drop 1 w), length-drop 1 w, h.1))),
      ))
      adds

-- the only packed word with no letters
pub no_letters : AddsEach (IsPackedWordOf 0) [] ([] ∷ [])
no_letters = adds_one (IsPackedWordOf 0) [] [] (refl, refl) only
  where
    only : (w : Code) → IsPackedWordOf 0 w → w ≡ []
    only [] h = refl
    only (x ∷ w) h = absurd (omega (arith, h.1))
