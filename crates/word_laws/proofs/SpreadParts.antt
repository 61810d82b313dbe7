-- A front and a back that are spread: one number more, and how often letters stand in both.
use Rattle.std.proofs.Common.{◌≡◌, ◌⊎◌, ℕ, zero, suc, ◌+◌, ◌-◌, ◌<◌, ◌≤◌, List, [], ◌∷◌, ◌++◌, length, take, drop, refl, sym, ◌∙◌, ap, subst, arith, inl, inr}
use Rattle.std.specs.Prelude.{nat_eq, max}
use Rattle.std.proofs.lemmas.Bool.{cases_lt}
use Rattle.std.proofs.lemmas.Bool.Decides.{nat_tests}
use Rattle.std.proofs.lemmas.List.{length-map, take-append-drop}
use Rattle.realisations.specs.Lists.{one_if}
use Rattle.realisations.specs.Standardisation.{count_same}
use Rattle.realisations.specs.Words.{greatest}
use Rattle.realisations.proofs.RisingMaps.{Letters}
use Rattle.basis_representatives.proofs.Counts.{count_same-append}
use Rattle.basis_representatives.proofs.PackedWords.{HasAllLetters}
use Rattle.coproduct_laws.proofs.CutLetters.{counted}
use Rattle.word_laws.specs.Merges.{AreSpread}
use Rattle.word_laws.specs.Spreads.{IsSpread, raised_past, raise_past}
use Rattle.word_laws.proofs.Spreads.{count_raised-here, count_settled, greatest_image, settle, spread_cases, spread_less, spread_raised, spread_same, spread_settled}

-- the letters of a front and a back
pub letters_parts : (P : ℕ → Type 0) (k : ℕ) (w : List ℕ) → Letters P w → Letters P (take k w) × Letters P (drop k w)
letters_parts P zero w h = (tt, h)
letters_parts P (suc k) [] h = (tt, tt)
letters_parts P (suc k) (x ∷ w) h = let rest = letters_parts P k w h.1 in ((h.0, rest.0), rest.1)

pub count_parts : (x k : ℕ) (w : List ℕ) → count_same x w ≡ count_same x (take k w) + count_same x (drop k w)
count_parts x k w = ap (count_same x) (sym (take-append-drop k w)) ∙ count_same-append x (take k w) (drop k w)

pub greatest-append : (u v : List ℕ) → greatest (u ++ v) ≡ max (greatest u) (greatest v)
greatest-append [] v = omega arith
greatest-append (x ∷ u) v = omega (arith, greatest-append u v)

pub greatest_parts : (k : ℕ) (w : List ℕ) → greatest w ≡ max (greatest (take k w)) (greatest (drop k w))
greatest_parts k w = ap greatest (sym (take-append-drop k w)) ∙ greatest-append (take k w) (drop k w)

-- no letter is past the greatest
pub none_past : (x : ℕ) (w : List ℕ) → greatest w < x → count_same x w ≡ 0
none_past x [] h = refl
none_past x (y ∷ w) h =
    let apart : y < x = omega arith in
    let none : one_if (nat_eq y x) ≡ 0 = grind (arith, nat_tests, apart) in
    omega (arith, none, none_past x w (omega arith))

-- the front and the back of two words
pub take_at : (u v : List ℕ) → take (length u) (u ++ v) ≡ u
take_at [] v = refl
take_at (x ∷ u) v = ap (λ w. x ∷ w) (take_at u v)

pub drop_at : (u v : List ℕ) → drop (length u) (u ++ v) ≡ v
drop_at [] v = refl
drop_at (x ∷ u) v = drop_at u v

module _ (n : ℕ) (u v w : List ℕ) where
  -- letters that stay
  pub count_front : AreSpread n u v w → (x : ℕ) → x ≤ n → count_same x (take (length u) w) ≡ count_same x u
  count_front s x h = count_settled n u (take (length u) w) s.front x h

  pub count_back : AreSpread n u v w → (x : ℕ) → x ≤ n → count_same x (drop (length u) w) ≡ count_same x v
  count_back s x h = count_settled n v (drop (length u) w) s.back x h

  -- the greatest letter of a spread word is not below those of its parts
  pub greatest_front : AreSpread n u v w → greatest u ≤ greatest w
  greatest_front s =
      let image : greatest (take (length u) w) ≡ _ = ap greatest s.front.word in
      omega (arith, greatest_parts (length u) w, image, greatest_image s.front.image s.front.rises u)

  pub greatest_back : AreSpread n u v w → greatest v ≤ greatest w
  greatest_back s =
      let image : greatest (drop (length u) w) ≡ _ = ap greatest s.back.word in
      omega (arith, greatest_parts (length u) w, image, greatest_image s.back.image s.back.rises v)

  -- n + 1 in both parts
  pub both_less : AreSpread (n + 1) u v w → AreSpread n u v w
  both_less s = record { front = spread_less n u (take (length u) w) s.front; back = spread_less n v (drop (length u) w) s.back }

  -- n + 1 in the front alone
  pub front_less : AreSpread (n + 1) u (raise_past n v) w → AreSpread n u v w
  front_less s = record { front = spread_less n u (take (length u) w) s.front; back = spread_raised n v (drop (length u) w) s.back }

  same_length : (P : ℕ → Type 0) → P (length (raise_past n u)) → P (length u)
  same_length P h = subst P (length-map u (raised_past n)) h

  raised_length : (P : ℕ → Type 0) → P (length u) → P (length (raise_past n u))
  raised_length P h = subst P (sym (length-map u (raised_past n))) h

  -- n + 1 in the back alone
  pub back_less : AreSpread (n + 1) (raise_past n u) v w → AreSpread n u v w
  back_less s = record {
    front = spread_raised n u (take (length u) w) (same_length (λ k. IsSpread (n + 1) (raise_past n u) (take k w)) s.front);
    back = spread_less n v (drop (length u) w) (same_length (λ k. IsSpread (n + 1) v (drop k w)) s.back);
  }

  -- how often n + 1 stands in the front and the back then
  pub count_front_less : AreSpread (n + 1) u (raise_past n v) w → (count_same (n + 1) (take (length u) w) ≡ count_same (n + 1) u) × (count_same (n + 1) (drop (length u) w) ≡ 0)
  count_front_less s =
      (count_settled (n + 1) u (take (length u) w) s.front (n + 1) (omega arith), count_settled (n + 1) (raise_past n v) (drop (length u) w) s.back (n + 1) (omega arith) ∙ count_raised-here n v)

  pub count_back_less : AreSpread (n + 1) (raise_past n u) v w → (count_same (n + 1) (take (length u) w) ≡ 0) × (count_same (n + 1) (drop (length u) w) ≡ count_same (n + 1) v)
  count_back_less s =
      let front = same_length (λ k. IsSpread (n + 1) (raise_past n u) (take k w)) s.front in
      let back = same_length (λ k. IsSpread (n + 1) v (drop k w)) s.back in
      (count_settled (n + 1) (raise_past n u) (take (length u) w) front (n + 1) (omega arith) ∙ count_raised-here n u, count_settled (n + 1) v (drop (length u) w) back (n + 1) (omega arith))

  -- n + 1 in both, in one of them, or in none
  pub spread_parts : AreSpread n u v w
      → AreSpread (n + 1) u v w ⊎ AreSpread (n + 1) u (raise_past n v) w ⊎ AreSpread (n + 1) (raise_past n u) v w ⊎ (count_same (n + 1) w ≡ 0)
  spread_parts s = by_cases (spread_cases n u (take (length u) w) s.front) (spread_cases n v (drop (length u) w) s.back)
    where
      by_cases : IsSpread (n + 1) u (take (length u) w) ⊎ IsSpread (n + 1) (raise_past n u) (take (length u) w)
          → IsSpread (n + 1) v (drop (length u) w) ⊎ IsSpread (n + 1) (raise_past n v) (drop (length u) w)
          → AreSpread (n + 1) u v w ⊎ AreSpread (n + 1) u (raise_past n v) w ⊎ AreSpread (n + 1) (raise_past n u) v w ⊎ (count_same (n + 1) w ≡ 0)
      by_cases (inl a) (inl b) = inl record { front = a; back = b }
      by_cases (inl a) (inr b) = inr (inl record { front = a; back = b })
      by_cases (inr a) (inl b) = inr (inr (inl record {
        front = raised_length (λ k. IsSpread (n + 1) (raise_past n u) (take k w)) a;
        back = raised_length (λ k. IsSpread (n + 1) v (drop k w)) b;
      }))
      by_cases (inr a) (inr b) =
          inr (inr (inr (omega (
            arith,
            count_parts (n + 1) (length u) w,
            count_settled (n + 1) (raise_past n u) (take (length u) w) a (n + 1) (omega arith),
            count_raised-here n u,
            count_settled (n + 1) (raise_past n v) (drop (length u) w) b (n + 1) (omega arith),
            count_raised-here n v,
          ))))

-- of a packed word of which one part is settled, so is the other: its letters past n are all the numbers up to its greatest
pub other_settles : (n : ℕ) (b t w : List ℕ) → HasAllLetters w → IsSpread n b t → greatest b ≤ greatest w → ((x : ℕ) → n < x → count_same x w ≡ count_same x t) → t ≡ b
other_settles n b t w packed s le same =
    spread_settled (n + (greatest b - n)) b t
    (settle n (greatest b - n) b t s (λ x past to. omega (arith, same x past, counted x w (packed.each x (omega arith) (omega arith))))) (omega arith)

-- where one of the parts is settled, the word is these parts
pub settled_whole : (n : ℕ) (u v w : List ℕ) → HasAllLetters w → AreSpread n u v w → (greatest u ≤ n) ⊎ (greatest v ≤ n) → w ≡ u ++ v
settled_whole n u v w packed s (inl low) =
    let front : take (length u) w ≡ u = spread_settled n u (take (length u) w) s.front low in
    let back : drop (length u) w ≡ v = other_settles n v (drop (length u) w) w packed s.back (greatest_back n u v w s)
    (λ x past. omega (arith, count_parts x (length u) w, ap (count_same x) front, none_past x u (omega arith))) in
    sym (take-append-drop (length u) w) ∙ (λ i. front i ++ back i)
settled_whole n u v w packed s (inr low) =
    let back : drop (length u) w ≡ v = spread_settled n v (drop (length u) w) s.back low in
    let front : take (length u) w ≡ u = other_settles n u (take (length u) w) w packed s.front (greatest_front n u v w s)
    (λ x past. omega (arith, count_parts x (length u) w, ap (count_same x) back, none_past x v (omega arith))) in
    sym (take-append-drop (length u) w) ∙ (λ i. front i ++ back i)

-- two words one behind the other are spread
pub spread_joined : (n : ℕ) (u v : List ℕ) → AreSpread n u v (u ++ v)
spread_joined n u v = record {
  front = subst (λ t. IsSpread n u t) (sym (take_at u v)) (spread_self u);
  back = subst (λ t. IsSpread n v t) (sym (drop_at u v)) (spread_self v);
}
  where
    spread_self : (a : List ℕ) → IsSpread n a a
    spread_self a = spread_same n a
