-- The rows of a tableau by its code: codes, and their texts.
use Rattle.std.proofs.Common.{◌≡◌, ℕ, suc, ◌+◌, ◌-◌, ◌<◌, ◌≤◌, Bool, true, false, List, [], ◌∷◌, ◌++◌, map, length, get_or, drop, refl, sym, ◌∙◌, ap, subst, arith, append_assoc, drop-cons}
use Rattle.std.specs.Prelude.{nat_eq, if◌then◌else◌}
use Rattle.std.proofs.lemmas.Bool.{eq-eqb}
use Rattle.std.proofs.lemmas.List.{get_or-map, length-map}
use Rattle.std.proofs.lemmas.List.FromFn.{get_or-map-range_with_len, length-map-range_with_len}
use Rattle.linear_combos.specs.Codes.{IsCode}
use Rattle.realisations.specs.Tableaux.{places_of, rows_of}
use Rattle.realisations.specs.Words.{greatest}
use Rattle.basis_representatives.proofs.Letters.{UpTo}
use Rattle.permutation_words.proofs.Codes.{IsCode-up_to}
use Rattle.index_spellings.specs.Texts.{list_text}
use Rattle.index_spellings.proofs.RowsRead.{front_code}

places_up_to : (r k m : ℕ) (code : List ℕ) → 1 ≤ k → k + length code ≤ m + 1 → UpTo m (places_of r k code) × (length (places_of r k code) ≤ length code)
places_up_to r k m [] low high = (tt, omega arith)
places_up_to r k m (x ∷ code) low high = by_test (nat_eq x r) (places_up_to r (suc k) m code (omega arith) (omega arith))
  where
    by_test : (b : Bool) → UpTo m (places_of r (suc k) code) × (length (places_of r (suc k) code) ≤ length code)
        → UpTo m (if b then k ∷ places_of r (suc k) code else places_of r (suc k) code) × (length (if b then k ∷ places_of r (suc k) code else places_of r (suc k) code) ≤ suc (length code))
    by_test true ih = (((low, omega arith), ih.0), omega (arith, ih.1))
    by_test false ih = (ih.0, omega (arith, ih.1))

-- the places of a letter in a code are a code
pub IsCode-places : (r : ℕ) (code : List ℕ) → IsCode code → IsCode (places_of r 1 code)
IsCode-places r code h =
    let places = places_up_to r 1 15 code (omega arith) (omega (arith, h.short)) in
    IsCode-up_to 15 (places_of r 1 code) (omega arith) (omega (arith, places.1, h.short)) places.0

-- and so are the first ones with the next
pub next_place : (r : ℕ) (code places : List ℕ) (i x : ℕ) → IsCode code → i < length code → x ≡ get_or code i 0 → x ≡ r
    → places_of r 1 code ≡ places ++ places_of r (i + 1) (drop i code) → IsCode (places ++ (i + 1) ∷ [])
next_place r code places i x h lt at is so_far =
    let here : drop i code ≡ x ∷ drop (suc i) code = drop-cons code i 0 lt ∙ ap (λ y. y ∷ drop (suc i) code) (sym at) in
    let test : nat_eq x r ≡ true = eq-eqb x r is in
    let step : places_of r (i + 1) (drop i code) ≡ (i + 1) ∷ places_of r (suc (i + 1)) (drop (suc i) code) = ap (places_of r (i + 1)) here ∙ rw test refl in
    front_code (places ++ (i + 1) ∷ []) (places_of r (suc (i + 1)) (drop (suc i) code))
    (subst IsCode (so_far ∙ ap (λ w. places ++ w) step ∙ sym (append_assoc places ((i + 1) ∷ []) (places_of r (suc (i + 1)) (drop (suc i) code)))) (IsCode-places r code h))

-- the texts of the rows of a code
pub length-row_texts : (code : List ℕ) → length (map list_text (rows_of code)) ≡ greatest code
length-row_texts code = length-map (rows_of code) list_text ∙ length-map-range_with_len (λ r. places_of r 1 code) 1 (greatest code)

pub row_text : (code : List ℕ) (r i : ℕ) (row : List ℕ) → row ≡ places_of r 1 code → 1 ≤ r → r ≤ greatest code → i ≡ r - 1
    → list_text row ≡ get_or (map list_text (rows_of code)) i []
row_text code r i row is low high at =
    let within : i < length (rows_of code) = omega (arith, length-map-range_with_len (λ r. places_of r 1 code) 1 (greatest code), low, high, at) in
    ap list_text (is ∙ sym (get_or-map-range_with_len (λ k. places_of k 1 code) 1 (greatest code) i r [] (omega (arith, low, high, at)) (omega (arith, low, high, at))))
    ∙ sym (get_or-map list_text (rows_of code) i [] [] within)
