-- The packed words whose front and back have given packings, by their letters from the smallest on.
use Rattle.std.proofs.Common.{◌≡◌, ◌⊎◌, ℕ, suc, ◌+◌, ◌-◌, ◌<◌, ◌≤◌, List, [], ◌∷◌, ◌++◌, length, take, drop, refl, sym, ◌∙◌, ap, subst, arith, inl, inr}
use Rattle.std.specs.Prelude.{IsTrue, max}
use Rattle.std.proofs.lemmas.Bool.{cases_lt}
use Rattle.std.proofs.lemmas.List.{length-map}
use Rattle.realisations.specs.Codes.{Code}
use Rattle.realisations.specs.IndexKinds.{is_packed}
use Rattle.realisations.specs.Standardisation.{count_same, pack}
use Rattle.realisations.specs.Words.{greatest}
use Rattle.realisations.proofs.RisingMaps.{Letters}
use Rattle.basis_representatives.proofs.Counts.{among_some, count_same-append}
use Rattle.basis_representatives.proofs.Letters.{Letters-append}
use Rattle.basis_representatives.proofs.PackedWords.{HasAllLetters, all_letters, packed_from}
use Rattle.coproduct_laws.proofs.CutLetters.{counted, greatest-packed}
use Rattle.word_laws.specs.AddedCodes.{AddsEach}
use Rattle.word_laws.specs.Merges.{AreSpread, IsMerge, IsMergeFront, IsMergePast}
use Rattle.word_laws.specs.Spreads.{IsSpread, raised_past, raise_past}
use Rattle.word_laws.proofs.AddedCodes.{adds_either, adds_one, adds_same}
use Rattle.word_laws.proofs.Patterns.{pack_of_spread, spread_of_pack}
use Rattle.word_laws.proofs.Spreads.{count_raised-high, count_raised-low, greatest_raised, positive_raised}
use Rattle.word_laws.proofs.SpreadParts.{back_less, both_less, count_back, count_back_less, count_front, count_front_less, front_less, greatest-append, greatest_front, letters_parts, settled_whole, spread_joined, spread_parts}

-- the letters of a packed word are spreads of their packings
pub merge_start : (u v : List ℕ) → IsTrue (is_packed u) → IsTrue (is_packed v) → (w : List ℕ) → IsMergePast 0 u v w → IsMerge u v w
merge_start u v hu hv w h = record {
  packed = h.packed;
  front = pack_of_spread 0 u (take (length u) w) (all_letters u hu) h.spread.front;
  back = pack_of_spread 0 v (drop (length u) w) (all_letters v hv) h.spread.back;
}

pub merge_is_spread : (u v w : List ℕ) → IsMerge u v w → IsMergePast 0 u v w
merge_is_spread u v w h =
    let parts = letters_parts (λ x. 1 ≤ x) (length u) w (all_letters w h.packed).positive in
    record {
      packed = h.packed;
      spread = record {
        front = subst (λ a. IsSpread 0 a (take (length u) w)) h.front (spread_of_pack (take (length u) w) parts.0);
        back = subst (λ a. IsSpread 0 a (drop (length u) w)) h.back (spread_of_pack (drop (length u) w) parts.1);
      };
    }

-- two packed words are the front and the back at the start
pub merge_front : (u v : List ℕ) → IsTrue (is_packed u) → IsTrue (is_packed v) → length u + length v ≤ 12 → IsMergeFront 0 u v
merge_front u v hu hv short =
    let a = all_letters u hu in
    let b = all_letters v hv in
    record {
      positive_front = a.positive;
      positive_back = b.positive;
      settled = λ x from to. absurd (omega arith);
      open_front = λ x past to. counted x u (a.each x (omega arith) to);
      open_back = λ x past to. counted x v (b.each x (omega arith) to);
      front_past = omega arith;
      back_past = omega arith;
      small = omega (arith, short, greatest-packed u a, greatest-packed v b);
      short = short;
    }

-- the letters past n of a word that has each of them, raised: it has each past n + 1
open_raised : (n : ℕ) (v : List ℕ) → ((x : ℕ) → n < x → x ≤ greatest v → 1 ≤ count_same x v) → n < greatest v
    → (x : ℕ) → n + 1 < x → x ≤ greatest (raise_past n v) → 1 ≤ count_same x (raise_past n v)
open_raised n v each past x from to =
    let back : x - 1 + 1 ≡ x = omega arith in
    subst (λ y. 1 ≤ count_same y (raise_past n v)) back
    (omega (arith, count_raised-high n (x - 1) v (omega arith), each (x - 1) (omega arith) (omega (arith, to, greatest_raised n v past))))

module _ (n : ℕ) (u v : List ℕ) (front : IsMergeFront n u v) where
  -- both parts together have all letters
  pub packed_joined : HasAllLetters (u ++ v)
  packed_joined = record {
    positive = Letters-append (λ x. 1 ≤ x) u v front.positive_front front.positive_back;
    each = λ x from to. among_some x (u ++ v) (omega (arith, count_same-append x u v, each x from (omega (arith, to, greatest-append u v))));
  }
    where
      each : (x : ℕ) → 1 ≤ x → x ≤ max (greatest u) (greatest v) → 1 ≤ count_same x u + count_same x v
      each x from to = elim (cases_lt n x) [
        | inl past ↦ elim (cases_lt (greatest u) x) [
          | inl over ↦ omega (arith, front.open_back x past (omega arith))
          | inr within ↦ omega (arith, front.open_front x past within)
        ]
        | inr low ↦ front.settled x from low
      ]

  -- where one part is settled, both together are the only word
  pub merge_end : (old : List Code) → (greatest u ≤ n) ⊎ (greatest v ≤ n) → AddsEach (IsMergePast n u v) old (old ++ (u ++ v) ∷ [])
  merge_end old low =
      adds_one (IsMergePast n u v) (u ++ v) old (record { packed = packed_from (u ++ v) packed_joined; spread = spread_joined n u v })
      (λ w h. settled_whole n u v w (all_letters w h.packed) h.spread low)

  -- else n + 1 is a letter of both
  module _ (past_u : n < greatest u) (past_v : n < greatest v) where
    here_u : 1 ≤ count_same (n + 1) u
    here_u = front.open_front (n + 1) (omega arith) (omega arith)

    here_v : 1 ≤ count_same (n + 1) v
    here_v = front.open_back (n + 1) (omega arith) (omega arith)

    -- it settles in both
    pub merge_both : IsMergeFront (n + 1) u v
    merge_both = record {
      positive_front = front.positive_front;
      positive_back = front.positive_back;
      settled = λ x from to. settled x from to (cases_lt n x);
      open_front = λ x past to. front.open_front x (omega arith) to;
      open_back = λ x past to. front.open_back x (omega arith) to;
      front_past = omega arith;
      back_past = omega arith;
      small = omega (arith, front.small);
      short = front.short;
    }
      where
        settled : (x : ℕ) → 1 ≤ x → x ≤ n + 1 → (n < x) ⊎ (x ≤ n) → 1 ≤ count_same x u + count_same x v
        settled x from to (inl past) = omega (arith, front.open_front x past (omega arith))
        settled x from to (inr low) = front.settled x from low

    -- in the front, and is left out in the back
    pub merge_in_front : IsMergeFront (n + 1) u (raise_past n v)
    merge_in_front = record {
      positive_front = front.positive_front;
      positive_back = positive_raised n v front.positive_back;
      settled = λ x from to. settled x from to (cases_lt n x);
      open_front = λ x past to. front.open_front x (omega arith) to;
      open_back = λ x past to. open_raised n v front.open_back past_v x past to;
      front_past = omega arith;
      back_past = omega (arith, greatest_raised n v past_v);
      small = omega (arith, front.small, greatest_raised n v past_v);
      short = omega (arith, front.short, length-map v (raised_past n));
    }
      where
        settled : (x : ℕ) → 1 ≤ x → x ≤ n + 1 → (n < x) ⊎ (x ≤ n) → 1 ≤ count_same x u + count_same x (raise_past n v)
        settled x from to (inl past) = omega (arith, front.open_front x past (omega arith))
        settled x from to (inr low) = omega (arith, front.settled x from low, count_raised-low n x v low)

    -- in the back, and is left out in the front
    pub merge_in_back : IsMergeFront (n + 1) (raise_past n u) v
    merge_in_back = record {
      positive_front = positive_raised n u front.positive_front;
      positive_back = front.positive_back;
      settled = λ x from to. settled x from to (cases_lt n x);
      open_front = λ x past to. open_raised n u front.open_front past_u x past to;
      open_back = λ x past to. front.open_back x (omega arith) to;
      front_past = omega (arith, greatest_raised n u past_u);
      back_past = omega arith;
      small = omega (arith, front.small, greatest_raised n u past_u);
      short = omega (arith, front.short, length-map u (raised_past n));
    }
      where
        settled : (x : ℕ) → 1 ≤ x → x ≤ n + 1 → (n < x) ⊎ (x ≤ n) → 1 ≤ count_same x (raise_past n u) + count_same x v
        settled x from to (inl past) = omega (arith, front.open_back x past (omega arith))
        settled x from to (inr low) = omega (arith, front.settled x from low, count_raised-low n x u low)

    -- the words with n + 1 in the front alone, in the back alone and in both are all
    pub merge_parts : (old mid later new : List Code) → AddsEach (IsMergePast (n + 1) u (raise_past n v)) old mid
        → AddsEach (IsMergePast (n + 1) (raise_past n u) v) mid later → AddsEach (IsMergePast (n + 1) u v) later new → AddsEach (IsMergePast n u v) old new
    merge_parts old mid later new in_front in_back in_both =
        adds_same (λ w. (IsMergePast (n + 1) u (raise_past n v) w ⊎ IsMergePast (n + 1) (raise_past n u) v w) ⊎ IsMergePast (n + 1) u v w) (IsMergePast n u v) old new all parts
        (adds_either (λ w. IsMergePast (n + 1) u (raise_past n v) w ⊎ IsMergePast (n + 1) (raise_past n u) v w) (IsMergePast (n + 1) u v) old later new one_or_both
        (adds_either (IsMergePast (n + 1) u (raise_past n v)) (IsMergePast (n + 1) (raise_past n u) v) old mid later front_or_back in_front in_back) in_both)
      where
        front_or_back : (w : Code) → IsMergePast (n + 1) u (raise_past n v) w → IsMergePast (n + 1) (raise_past n u) v w → ⊥
        front_or_back w h k = absurd (omega (arith, here_u, count_front_less n u v w h.spread, count_back_less n u v w k.spread))

        one_or_both : (w : Code) → IsMergePast (n + 1) u (raise_past n v) w ⊎ IsMergePast (n + 1) (raise_past n u) v w → IsMergePast (n + 1) u v w → ⊥
        one_or_both w (inl h) k = absurd (omega (arith, here_v, count_front_less n u v w h.spread, count_back (n + 1) u v w k.spread (n + 1) (omega arith)))
        one_or_both w (inr h) k = absurd (omega (arith, here_u, count_back_less n u v w h.spread, count_front (n + 1) u v w k.spread (n + 1) (omega arith)))

        all : (w : Code) → (IsMergePast (n + 1) u (raise_past n v) w ⊎ IsMergePast (n + 1) (raise_past n u) v w) ⊎ IsMergePast (n + 1) u v w → IsMergePast n u v w
        all w (inl (inl h)) = record { packed = h.packed; spread = front_less n u v w h.spread }
        all w (inl (inr h)) = record { packed = h.packed; spread = back_less n u v w h.spread }
        all w (inr h) = record { packed = h.packed; spread = both_less n u v w h.spread }

        parts : (w : Code) → IsMergePast n u v w → (IsMergePast (n + 1) u (raise_past n v) w ⊎ IsMergePast (n + 1) (raise_past n u) v w) ⊎ IsMergePast (n + 1) u v w
        parts w h = by_case (spread_parts n u v w h.spread)
          where
            by_case : AreSpread (n + 1) u v w ⊎ AreSpread (n + 1) u (raise_past n v) w ⊎ AreSpread (n + 1) (raise_past n u) v w ⊎ (count_same (n + 1) w ≡ 0)
                → (IsMergePast (n + 1) u (raise_past n v) w ⊎ IsMergePast (n + 1) (raise_past n u) v w) ⊎ IsMergePast (n + 1) u v w
            by_case (inl s) = inr record { packed = h.packed; spread = s }
            by_case (inr (inl s)) = inl (inl record { packed = h.packed; spread = s })
            by_case (inr (inr (inl s))) = inl (inr record { packed = h.packed; spread = s })
            by_case (inr (inr (inr none))) =
                absurd (omega (arith, none, counted (n + 1) w ((all_letters w h.packed).each (n + 1) (omega arith) (omega (arith, past_u, greatest_front n u v w h.spread)))))
