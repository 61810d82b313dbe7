-- Packed words are codes; ranks and cuts, letter by letter; which codes are packed.
use Rattle.std.proofs.Common.{◌≡◌, ℕ, zero, suc, ◌+◌, ◌-◌, ◌<◌, ◌≤◌, Bool, true, false, List, [], ◌∷◌, ◌++◌, length, map, drop, get_or, refl, sym, ◌∙◌, ap, subst, arith, add-one, drop-cons, append_assoc}
use Rattle.std.specs.Prelude.{nat_le, nat_lt, ◌&&◌, not, IsTrue}
use Rattle.std.proofs.lemmas.Bool.{and_parts}
use Rattle.std.proofs.lemmas.Bool.Decides.{nat_tests}
use Rattle.std.proofs.lemmas.List.{length-map, get_or-map}
use Rattle.realisations.specs.IndexKinds.{is_packed}
use Rattle.realisations.specs.Lists.{is_among, one_if}
use Rattle.realisations.specs.Standardisation.{rank_in, pack}
use Rattle.realisations.specs.Words.{greatest}
use Rattle.realisations.proofs.Packing.{length-pack}
use Rattle.realisations.proofs.RisingMaps.{Letters}
use Rattle.basis_representatives.proofs.PackedWords.{HasAllLetters, all_letters, packed_from, packed-pack}
use Rattle.coproduct_laws.proofs.CutLetters.{greatest-packed}
use Rattle.linear_combos.specs.Codes.{IsCode, all_letters as all_code_letters}
use Rattle.permutation_words.proofs.Codes.{IsCode-greatest}

-- a short packed word is a code
pub IsCode-packed : (u : List ℕ) → HasAllLetters u → length u ≤ 15 → IsCode u
IsCode-packed u h short = IsCode-greatest u h.positive (omega (arith, greatest-packed u h, short)) short

pub IsCode-pack : (w : List ℕ) → length w ≤ 15 → IsCode (pack w)
IsCode-pack w short = IsCode-packed (pack w) (packed-pack w) (omega (arith, length-pack w))

-- a letter of a packing is a rank
pub letter-pack : (w : List ℕ) (i x y : ℕ) → i < length w → x ≡ get_or w i 0 → y ≡ rank_in w x → y ≡ get_or (pack w) i 0
letter-pack w i x y lt letter is = is ∙ ap (rank_in w) letter ∙ sym (get_or-map (λ z. rank_in w z) w i 0 0 lt)

-- the letters of a code are positive
pub positive_letters : (w : List ℕ) → IsTrue (all_code_letters w) → Letters (λ x. 1 ≤ x) w
positive_letters [] h = tt
positive_letters (x ∷ w) h =
    let parts = and_parts (nat_le 1 x && nat_le x 15) (all_code_letters w) h in
    let low : nat_le 1 x ≡ true = (and_parts (nat_le 1 x) (nat_le x 15) parts.0).0 in
    (grind (arith, nat_tests), positive_letters w parts.1)

-- a code is packed where each number from 1 to its greatest letter stands in it, and not packed where one does not
pub each_number : (w : List ℕ) → IsCode w → ((k : ℕ) → 1 ≤ k → k ≤ greatest w → is_among k w ≡ true) → true ≡ is_packed w
each_number w code h = sym (packed_from w record { positive = positive_letters w code.letters; each = h })

pub no_number : (w : List ℕ) (k : ℕ) → 1 ≤ k → k ≤ greatest w → is_among k w ≡ false → false ≡ is_packed w
no_number w k low high none = by_test (is_packed w) refl
  where
    by_test : (b : Bool) → is_packed w ≡ b → false ≡ b
    by_test false e = refl
    by_test true e = sym none ∙ (all_letters w e).each k low high
