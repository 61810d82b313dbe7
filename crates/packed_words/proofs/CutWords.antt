-- The letters of a packed word up to k, and past k.
use Rattle.std.proofs.Common.{◌≡◌, ℕ, zero, suc, ◌+◌, ◌-◌, ◌<◌, ◌≤◌, true, false, List, [], ◌∷◌, ◌++◌, length, map, drop, get_or, refl, sym, ◌∙◌, ap, subst, arith, add-one, drop-cons, append_assoc, append-nil}
use Rattle.std.specs.Prelude.{nat_le, nat_lt}
use Rattle.std.proofs.lemmas.Bool.Decides.{nat_tests}
use Rattle.std.proofs.lemmas.List.{drop_all}
use Rattle.realisations.specs.Standardisation.{pack}
use Rattle.realisations.specs.Words.{greatest, raise}
use Rattle.realisations.proofs.Every.{every-any, every-map}
use Rattle.realisations.proofs.RisingMaps.{Letters, pack-map}
use Rattle.basis_representatives.proofs.Counts.{among_some}
use Rattle.basis_representatives.proofs.PackedWords.{HasAllLetters, all_letters, letters_to_greatest, packed_from, pack-packed}
use Rattle.basis_representatives.proofs.SameLists.{cons_same}
use Rattle.coproduct_laws.specs.ValueCuts.{letters_up_to, letters_past, lower}
use Rattle.coproduct_laws.proofs.CutLetters.{count_past, count_up_to, counted, greatest_up_to_le, length_cut}
use Rattle.coproduct_laws.proofs.LowAndHigh.{greatest_from_low, high_past, letters_of_filter, low_up_to, past_high, past_low, up_to_high, up_to_low}
use Rattle.linear_combos.specs.Codes.{IsCode}
use Rattle.linear_combos.proofs.Words.{IsCode-left}
use Rattle.packed_words.specs.Sizes.{IsSmallPackedWord}
use Rattle.packed_words.proofs.PackedCodes.{IsCode-packed}

module _ (w : List ℕ) (packed : HasAllLetters w) (k : ℕ) where
  -- the letters up to k are packed
  packed-up_to : HasAllLetters (letters_up_to k w)
  packed-up_to = record {
    positive = letters_of_filter (λ x. 1 ≤ x) (λ x. nat_le x k) w packed.positive;
    each = λ x from to.
        let within : x ≤ k = omega (arith, to, greatest_from_low k (letters_up_to k w) (low_up_to k w)) in
        among_some x (letters_up_to k w) (omega (arith, count_up_to k x w within, counted x w (packed.each x from (omega (arith, to, greatest_up_to_le k w)))));
  }

  -- and so are those past k, lowered
  packed-past : HasAllLetters (lower k (letters_past k w))
  packed-past = record {
    positive = every-map (λ x. k < x) (λ x. 1 ≤ x) (λ x. x - k) (λ x h. omega arith) (letters_past k w) (high_past k w);
    each = λ x from to.
        among_some x (lower k (letters_past k w)) (omega (arith, count_past k x w from, counted (k + x) w (packed.each (k + x) (omega arith) (omega (arith, from, to, top)))));
  }
    where
      top : greatest (lower k (letters_past k w)) ≤ greatest w - k
      top =
          greatest_from_low (greatest w - k) (lower k (letters_past k w))
          (every-map (λ x. x ≤ greatest w) (λ x. x ≤ greatest w - k) (λ x. x - k) (λ x le. omega arith) (letters_past k w)
          (letters_of_filter (λ x. x ≤ greatest w) (λ x. nat_lt k x) w (letters_to_greatest w (greatest w) (omega arith))))

-- the same of small packed words
pub small_up_to : (k : ℕ) (w : List ℕ) → IsSmallPackedWord w → IsSmallPackedWord (letters_up_to k w)
small_up_to k w h = record { packed = packed_from (letters_up_to k w) (packed-up_to w (all_letters w h.packed) k); small = omega (arith, length_cut k w, h.small) }

pub small_past : (k : ℕ) (w : List ℕ) → IsSmallPackedWord w → IsSmallPackedWord (lower k (letters_past k w))
small_past k w h = record { packed = packed_from (lower k (letters_past k w)) (packed-past w (all_letters w h.packed) k); small = omega (arith, length_cut k w, h.small) }

pub code_up_to : (k : ℕ) (w : List ℕ) → IsSmallPackedWord w → IsCode (letters_up_to k w)
code_up_to k w h = let small = small_up_to k w h in IsCode-packed (letters_up_to k w) (all_letters (letters_up_to k w) small.packed) (omega (arith, small.small))

pub code_past : (k : ℕ) (w : List ℕ) → IsSmallPackedWord w → IsCode (lower k (letters_past k w))
code_past k w h = let small = small_past k w h in IsCode-packed (lower k (letters_past k w)) (all_letters (lower k (letters_past k w)) small.packed) (omega (arith, small.small))

-- the packing of the letters past k lowers them by k
pub pack_past : (k : ℕ) (w : List ℕ) → IsSmallPackedWord w → pack (letters_past k w) ≡ lower k (letters_past k w)
pack_past k w h =
    ap pack (sym (raised (letters_past k w) (high_past k w)))
    ∙ pack_raised (lower k (letters_past k w))
    ∙ pack-packed (lower k (letters_past k w)) (packed-past w (all_letters w h.packed) k)
  where
    raised : (u : List ℕ) → Letters (λ x. k < x) u → raise k (lower k u) ≡ u
    raised [] high = refl
    raised (x ∷ u) high = cons_same (omega (arith, high.0)) (raised u high.1)

    pack_raised : (u : List ℕ) → pack (raise k u) ≡ pack u
    pack_raised u = pack-map (λ x. Unit {0}) (λ x. k + x) (λ x y hx hy less. omega arith) u (every-any (λ x. Unit {0}) (λ x. tt) u)

-- one letter more

next_letter : (w : List ℕ) (i : ℕ) → i < length w → drop i w ≡ get_or w i 0 ∷ drop (i + 1) w
next_letter w i lt = rw (add-one, drop-cons w i 0) refl

module _ (w : List ℕ) (k i : ℕ) (lt : i < length w) where
  low : get_or w i 0 ≤ k → letters_up_to k (drop i w) ≡ get_or w i 0 ∷ letters_up_to k (drop (i + 1) w)
  low le = let e : nat_le (get_or w i 0) k ≡ true = grind (arith, nat_tests, le) in ap (letters_up_to k) (next_letter w i lt) ∙ up_to_low k (get_or w i 0) (drop (i + 1) w) e

  high : k < get_or w i 0 → letters_up_to k (drop i w) ≡ letters_up_to k (drop (i + 1) w)
  high past = let e : nat_le (get_or w i 0) k ≡ false = grind (arith, nat_tests, past) in ap (letters_up_to k) (next_letter w i lt) ∙ up_to_high k (get_or w i 0) (drop (i + 1) w) e

  low_past : get_or w i 0 ≤ k → lower k (letters_past k (drop i w)) ≡ lower k (letters_past k (drop (i + 1) w))
  low_past le =
      let e : nat_le (get_or w i 0) k ≡ true = grind (arith, nat_tests, le) in
      ap (λ v. lower k (letters_past k v)) (next_letter w i lt) ∙ ap (lower k) (past_low k (get_or w i 0) (drop (i + 1) w) e)

  high_letter : k < get_or w i 0 → lower k (letters_past k (drop i w)) ≡ (get_or w i 0 - k) ∷ lower k (letters_past k (drop (i + 1) w))
  high_letter past =
      let e : nat_le (get_or w i 0) k ≡ false = grind (arith, nat_tests, past) in
      ap (λ v. lower k (letters_past k v)) (next_letter w i lt) ∙ ap (lower k) (past_high k (get_or w i 0) (drop (i + 1) w) e)

-- a list that is taken over element by element
put : (whole out rest rest' new : List ℕ) (x : ℕ) → whole ≡ out ++ rest → rest ≡ x ∷ rest' → new ≡ out ++ x ∷ [] → whole ≡ new ++ rest'
put whole out rest rest' new x so_far next is =
    so_far ∙ ap (λ v. out ++ v) next ∙ sym (append_assoc out (x ∷ []) rest') ∙ ap (λ v. v ++ rest') (sym is)

left_out : (whole out rest rest' new : List ℕ) → whole ≡ out ++ rest → rest ≡ rest' → new ≡ out → whole ≡ new ++ rest'
left_out whole out rest rest' new so_far next is = so_far ∙ ap (λ v. out ++ v) next ∙ ap (λ v. v ++ rest') (sym is)

next_is_code : (whole out rest rest' : List ℕ) (x : ℕ) → IsCode whole → whole ≡ out ++ rest → rest ≡ x ∷ rest' → IsCode (out ++ x ∷ [])
next_is_code whole out rest rest' x code so_far next =
    IsCode-left (out ++ x ∷ []) rest' (subst IsCode (put whole out rest rest' (out ++ x ∷ []) x so_far next refl) code)

module _ (w out new : List ℕ) (k i x : ℕ) (lt : i < length w) (is : x ≡ get_or w i 0) where
  pub low_taken : letters_up_to k w ≡ out ++ letters_up_to k (drop i w) → x ≤ k → new ≡ out ++ x ∷ [] → letters_up_to k w ≡ new ++ letters_up_to k (drop (i + 1) w)
  low_taken so_far le now =
      put (letters_up_to k w) out (letters_up_to k (drop i w)) (letters_up_to k (drop (i + 1) w)) new x so_far
      (low w k i lt (omega (arith, is, le)) ∙ ap (λ y. y ∷ letters_up_to k (drop (i + 1) w)) (sym is)) now

  pub low_left_out : letters_up_to k w ≡ out ++ letters_up_to k (drop i w) → k < x → new ≡ out → letters_up_to k w ≡ new ++ letters_up_to k (drop (i + 1) w)
  low_left_out so_far past now = left_out (letters_up_to k w) out (letters_up_to k (drop i w)) (letters_up_to k (drop (i + 1) w)) new so_far (high w k i lt (omega (arith, is, past))) now

  pub low_code : IsCode (letters_up_to k w) → letters_up_to k w ≡ out ++ letters_up_to k (drop i w) → x ≤ k → IsCode (out ++ x ∷ [])
  low_code code so_far le =
      next_is_code (letters_up_to k w) out (letters_up_to k (drop i w)) (letters_up_to k (drop (i + 1) w)) x code so_far
      (low w k i lt (omega (arith, is, le)) ∙ ap (λ y. y ∷ letters_up_to k (drop (i + 1) w)) (sym is))

  pub high_taken : lower k (letters_past k w) ≡ out ++ lower k (letters_past k (drop i w)) → k < x → new ≡ out ++ (x - k) ∷ []
      → lower k (letters_past k w) ≡ new ++ lower k (letters_past k (drop (i + 1) w))
  high_taken so_far past now =
      put (lower k (letters_past k w)) out (lower k (letters_past k (drop i w))) (lower k (letters_past k (drop (i + 1) w))) new (x - k) so_far
      (high_letter w k i lt (omega (arith, is, past)) ∙ ap (λ y. (y - k) ∷ lower k (letters_past k (drop (i + 1) w))) (sym is)) now

  pub high_left_out : lower k (letters_past k w) ≡ out ++ lower k (letters_past k (drop i w)) → x ≤ k → new ≡ out → lower k (letters_past k w) ≡ new ++ lower k (letters_past k (drop (i + 1) w))
  high_left_out so_far le now =
      left_out (lower k (letters_past k w)) out (lower k (letters_past k (drop i w))) (lower k (letters_past k (drop (i + 1) w))) new so_far (low_past w k i lt (omega (arith, is, le))) now

  pub high_code : IsCode (lower k (letters_past k w)) → lower k (letters_past k w) ≡ out ++ lower k (letters_past k (drop i w)) → k < x → IsCode (out ++ (x - k) ∷ [])
  high_code code so_far past =
      next_is_code (lower k (letters_past k w)) out (lower k (letters_past k (drop i w))) (lower k (letters_past k (drop (i + 1) w))) (x - k) code so_far
      (high_letter w k i lt (omega (arith, is, past)) ∙ ap (λ y. (y - k) ∷ lower k (letters_past k (drop (i + 1) w))) (sym is))

-- at the end the lowered letters are the packing
pub high_packed : (k i : ℕ) (w out : List ℕ) → IsSmallPackedWord w → length w ≤ i → lower k (letters_past k w) ≡ out ++ lower k (letters_past k (drop i w)) → out ≡ pack (letters_past k w)
high_packed k i w out h end so_far =
    sym (append-nil out) ∙ ap (λ v. out ++ lower k (letters_past k v)) (sym (drop_all i w end)) ∙ sym so_far ∙ sym (pack_past k w h)
