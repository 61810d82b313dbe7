-- There are at most 4^n merges of packed words of n letters together.
use Rattle.std.proofs.Common.{◌≡◌, ◌⊎◌, ℕ, zero, suc, ◌+◌, ◌*◌, ◌^◌, ◌≤◌, List, [], ◌∷◌, ◌++◌, length, ap, arith, inl, inr}
use Rattle.std.specs.Prelude.{IsTrue}
use Rattle.std.proofs.Math.Nat.{pow-suc}
use Rattle.std.proofs.lemmas.Bool.{cases_lt}
use Rattle.std.proofs.lemmas.List.{length-append}
use Rattle.std.proofs.lemmas.Nat.{pow_pos}
use Rattle.basis_representatives.proofs.PackedWords.{all_letters}
use Rattle.coproduct_laws.proofs.CutLetters.{greatest-packed}
use Rattle.realisations.specs.Codes.{Code}
use Rattle.realisations.specs.IndexKinds.{is_packed}
use Rattle.realisations.specs.Words.{greatest}
use Rattle.word_laws.specs.AddedCodes.{AddsEach}
use Rattle.word_laws.specs.Merges.{IsMerge, IsMergeFront, IsMergePast}
use Rattle.word_laws.specs.Spreads.{raise_past}
use Rattle.word_laws.proofs.AddedCodes.{adds_same}
use Rattle.word_laws.proofs.Merges.{merge_both, merge_end, merge_front, merge_in_back, merge_in_front, merge_is_spread, merge_parts, merge_start}
use Rattle.word_laws.proofs.Spreads.{greatest_raised}

-- a list to which the codes with a property were added, which are at most so many
pub record Added (P : Code → Type 0) (old : List Code) (most : ℕ) : Type 0 where
  pub new : List Code
  pub adds : AddsEach P old new
  pub few : length new ≤ length old + most

four_times : (s : ℕ) → 2 ^ (2 * suc s) ≡ 4 * 2 ^ (2 * s)
four_times s =
    let two : 2 * suc s ≡ suc (suc (2 * s)) = omega arith in
    omega (arith, ap (λ k. 2 ^ k) two, pow-suc 2 (suc (2 * s)), pow-suc 2 (2 * s))

-- where one part is settled, there is one word
one_word : (s n : ℕ) (u v : List ℕ) → IsMergeFront n u v → (greatest u ≤ n) ⊎ (greatest v ≤ n) → (old : List Code) → Added (IsMergePast n u v) old (2 ^ (2 * s))
one_word s n u v front low old = record {
  new = old ++ (u ++ v) ∷ [];
  adds = merge_end n u v front old low;
  few = omega (arith, length-append old ((u ++ v) ∷ []), pow_pos (2 * s));
}

-- with s letters past n in both parts together there are at most 4^s: a letter more is in the front, in the back or in both
words_past : (s n : ℕ) (u v : List ℕ) → IsMergeFront n u v → greatest u + greatest v ≤ n + n + s → (old : List Code) → Added (IsMergePast n u v) old (2 ^ (2 * s))
words_past zero n u v front le old = one_word 0 n u v front (inl (omega (arith, le, front.back_past))) old
words_past (suc s) n u v front le old = elim (cases_lt n (greatest u)) [
  | inr low ↦ one_word (suc s) n u v front (inl low) old
  | inl past_u ↦ elim (cases_lt n (greatest v)) [
    | inr low ↦ one_word (suc s) n u v front (inr low) old
    | inl past_v ↦
        (let mid = words_past s (n + 1) u (raise_past n v) (merge_in_front n u v front past_u past_v) (omega (arith, le, greatest_raised n v past_v)) old in
        let later = words_past s (n + 1) (raise_past n u) v (merge_in_back n u v front past_u past_v) (omega (arith, le, greatest_raised n u past_u)) mid.new in
        let last = words_past s (n + 1) u v (merge_both n u v front past_u past_v) (omega (arith, le)) later.new in
        record {
          new = last.new;
          adds = merge_parts n u v front past_u past_v old mid.new later.new last.new mid.adds later.adds last.adds;
          few = omega (arith, mid.few, later.few, last.few, four_times s);
        })
  ]
]

-- so there is a list of the merges of two packed words, and it is short
pub merges : (u v : Code) → IsTrue (is_packed u) → IsTrue (is_packed v) → length u + length v ≤ 12 → Added (IsMerge u v) [] (2 ^ (2 * (length u + length v)))
merges u v hu hv small =
    let letters : greatest u + greatest v ≤ 0 + 0 + (length u + length v) = omega (arith, greatest-packed u (all_letters u hu), greatest-packed v (all_letters v hv)) in
    let words = words_past (length u + length v) 0 u v (merge_front u v hu hv small) letters [] in
    record { new = words.new; adds = adds_same (IsMergePast 0 u v) (IsMerge u v) [] words.new (merge_start u v hu hv) (merge_is_spread u v) words.adds; few = words.few }
