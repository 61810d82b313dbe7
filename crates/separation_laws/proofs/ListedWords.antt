-- The lists of packed words of each length, in order, one after another are the packed words in their order.
use Rattle.std.proofs.Common.{◌≡◌, ℕ, zero, suc, ◌+◌, ◌-◌, ◌<◌, ◌≤◌, inl, inr, IsTrue, List, [], ◌++◌, length, length-append, refl, sym, ◌∙◌, ap, subst, arith}
use Rattle.std.proofs.lemmas.Bool.{cases_lt}
use Rattle.std.proofs.lemmas.List.{get_or_append_left, get_or-append_right}
use Rattle.realisations.specs.IndexKinds.{by_packed_word, is_packed}
use Rattle.realisations.specs.Pairings.{up_to}
use Rattle.realisations.specs.Points.{Point}
use Rattle.linear_combos.specs.CodeLists.{ListsIndices}
use Rattle.separation_laws.specs.Scans.{ArePackedWords, word_at}
use Rattle.separation_laws.specs.Separation.{IsBefore}

-- a word of a list joined to another one, at a place
word_left : (ws xs : List Point) (i : ℕ) → i < length ws → word_at (ws ++ xs) i ≡ word_at ws i
word_left ws xs i lt = get_or_append_left ws xs [] i lt

-- or behind it
word_right : (ws xs : List Point) (i : ℕ) → length ws ≤ i → word_at (ws ++ xs) i ≡ word_at xs (i - length ws)
word_right ws xs i le = get_or-append_right ws xs (length ws) i [] refl le

module _ (bound : ℕ) (listing : ℕ → List Point) (lists : (n : ℕ) → n ≤ bound → ListsIndices by_packed_word n (listing n)) where
  -- a word of a list has its length, and stands in order
  length-listed : (n : ℕ) → n ≤ bound → (i : ℕ) → i < length (listing n) → length (word_at (listing n) i) ≡ n
  length-listed n le i lt = ((lists n le).each (word_at (listing n) i) (i, lt, refl)).1

  -- the first lists with the bound of their lengths
  record AreShort (d : ℕ) (ws : List Point) : Type 0 where
    words : ArePackedWords d ws
    short : (i : ℕ) → i < length ws → length (word_at ws i) ≤ d

  -- each packed word of a length is in the list of this length
  listed : (n : ℕ) → n ≤ bound → (w : List ℕ) → IsTrue (is_packed w) → length w ≡ n → (i : ℕ) × (i < length (listing n)) × (word_at (listing n) i ≡ w)
  listed n le w packed long = (lists n le).whole w (packed, long)

  -- the words of one list rise
  rising_listed : (n : ℕ) → n ≤ bound → (i j : ℕ) → i < j → j < length (listing n) → IsBefore (word_at (listing n) i) (word_at (listing n) j)
  rising_listed n le i j less lt = inr (length-listed n le i (omega arith) ∙ sym (length-listed n le j lt), (lists n le).in_order i j less lt)

  -- the list of length 0
  first_list : AreShort 0 (listing 0)
  first_list = record {
    words = record {
      packed = λ i lt. ((lists 0 (omega arith)).each (word_at (listing 0) i) (i, lt, refl)).0;
      rising = rising_listed 0 (omega arith);
      all = λ w packed short. listed 0 (omega arith) w packed (let e : length w ≡ 0 = omega arith in e);
    };
    short = λ i lt. let e = length-listed 0 (omega arith) i lt in omega arith;
  }

  module _ (d : ℕ) (ws : List Point) (are : AreShort d ws) (le : suc d ≤ bound) where
    -- what holds of the words of both lists holds of the words of the joined one
    at_each : (P : List ℕ → Type 0) → ((i : ℕ) → i < length ws → P (word_at ws i)) → ((i : ℕ) → i < length (listing (suc d)) → P (word_at (listing (suc d)) i))
        → (i : ℕ) → i < length (ws ++ listing (suc d)) → P (word_at (ws ++ listing (suc d)) i)
    at_each P left right i lt = elim (cases_lt i (length ws)) [
      | inl below ↦ subst P (sym (word_left ws (listing (suc d)) i below)) (left i below)
      | inr above ↦ subst P (sym (word_right ws (listing (suc d)) i above)) (right (i - length ws) (let e = length-append ws (listing (suc d)) in omega arith))
    ]

    -- the words of both lists rise
    rising_joined : (i j : ℕ) → i < j → j < length (ws ++ listing (suc d)) → IsBefore (word_at (ws ++ listing (suc d)) i) (word_at (ws ++ listing (suc d)) j)
    rising_joined i j less lt =
        let xs = listing (suc d) in
        let long = length-append ws xs in
        elim (cases_lt j (length ws)) [
          | inl below ↦
              subst (λ v. IsBefore (word_at (ws ++ xs) i) v) (sym (word_left ws xs j below))
              (subst (λ u. IsBefore u (word_at ws j)) (sym (word_left ws xs i (omega arith))) (are.words.rising i j less below))
          | inr above ↦
              subst (λ v. IsBefore (word_at (ws ++ xs) i) v) (sym (word_right ws xs j above))
              (elim (cases_lt i (length ws)) [
                | inl below ↦
                    let short = are.short i below in
                    let longer = length-listed (suc d) le (j - length ws) (omega arith) in
                    subst (λ u. IsBefore u (word_at xs (j - length ws))) (sym (word_left ws xs i below)) (inl (omega arith))
                | inr above' ↦
                    subst (λ u. IsBefore u (word_at xs (j - length ws))) (sym (word_right ws xs i above')) (rising_listed (suc d) le (i - length ws) (j - length ws) (omega arith) (omega arith))
              ])
        ]

    -- a word of the second list at its place in the joined one
    place_right : (w : List ℕ) → (i : ℕ) × (i < length (listing (suc d))) × (word_at (listing (suc d)) i ≡ w) → (i : ℕ) × (i < length (ws ++ listing (suc d))) × (word_at (ws ++ listing (suc d)) i ≡ w)
    place_right w (i, lt, same) =
        let xs = listing (suc d) in
        let long = length-append ws xs in
        let back : length ws + i - length ws ≡ i = omega arith in
        (length ws + i, omega arith, word_right ws xs (length ws + i) (omega arith) ∙ ap (word_at xs) back ∙ same)

    -- one list more
    next_list : AreShort (suc d) (ws ++ listing (suc d))
    next_list = record {
      words = record {
        packed = at_each (λ w. IsTrue (is_packed w)) are.words.packed (λ i lt. ((lists (suc d) le).each (word_at (listing (suc d)) i) (i, lt, refl)).0);
        rising = rising_joined;
        all = λ w packed short. elim (cases_lt (length w) (suc d)) [
          | inl shorter ↦
              let at = are.words.all w packed (omega arith) in
              let long = length-append ws (listing (suc d)) in
              (at.0, omega (arith, at.1, long), word_left ws (listing (suc d)) at.0 at.1 ∙ at.2)
          | inr longest ↦ place_right w (listed (suc d) le w packed (let e : length w ≡ suc d = omega arith in e))
        ];
      };
      short = at_each (λ w. length w ≤ suc d) (λ i lt. let e = are.short i lt in omega arith) (λ i lt. let e = length-listed (suc d) le i lt in omega arith);
    }

  -- the lists of the lengths from 0 to d
  short_lists : (d : ℕ) → d ≤ bound → AreShort d (up_to listing d)
  short_lists zero le = first_list
  short_lists (suc d) le = next_list d (up_to listing d) (short_lists d (omega arith)) le

  -- one after another they are the packed words of at most d letters in their order
  pub packed_words_listed : (d : ℕ) → d ≤ bound → ArePackedWords d (up_to listing d)
  packed_words_listed d le = (short_lists d le).words
