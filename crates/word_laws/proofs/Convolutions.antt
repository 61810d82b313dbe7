-- The permutations whose front and back have given standardisations, by their letters from the smallest on.
use Rattle.std.proofs.Common.{◌≡◌, ◌⊎◌, ℕ, suc, ◌+◌, ◌-◌, ◌<◌, ◌≤◌, List, [], ◌∷◌, ◌++◌, length, take, drop, refl, sym, ◌∙◌, ap, subst, arith, inl, inr}
use Rattle.std.specs.Prelude.{IsTrue, max}
use Rattle.std.proofs.lemmas.Bool.{cases_lt}
use Rattle.std.proofs.lemmas.List.{length-append, length-map}
use Rattle.realisations.specs.Codes.{Code}
use Rattle.realisations.specs.IndexKinds.{is_permutation}
use Rattle.realisations.specs.Standardisation.{count_same, pack, standardise}
use Rattle.realisations.specs.Words.{greatest}
use Rattle.basis_representatives.proofs.Counts.{count_same-append}
use Rattle.basis_representatives.proofs.PackedWords.{HasAllLetters}
use Rattle.basis_representatives.proofs.Permutations.{HasEachOnce, count_same-permutation, each_once, permutation_from}
use Rattle.coproduct_laws.proofs.CutLetters.{counted, greatest-permutation, packed-permutation}
use Rattle.word_laws.specs.AddedCodes.{AddsEach}
use Rattle.word_laws.specs.Merges.{AreSpread, IsConvolution, IsConvolutionFront, IsConvolutionPast}
use Rattle.word_laws.specs.Spreads.{IsSpread, raised_past, raise_past}
use Rattle.word_laws.proofs.AddedCodes.{adds_either, adds_one, adds_same}
use Rattle.word_laws.proofs.Patterns.{pack_of_spread, spread_of_pack, standardise_distinct}
use Rattle.word_laws.proofs.Spreads.{count_raised-here, count_raised-high, count_raised-low, greatest_raised, positive_raised}
use Rattle.word_laws.proofs.SpreadParts.{back_less, count_back, count_back_less, count_front, count_front_less, count_parts, front_less, greatest-append, greatest_front, letters_parts, none_past, settled_whole, spread_joined, spread_parts}

module _ (u v : List ℕ) (hu : IsTrue (is_permutation u)) (hv : IsTrue (is_permutation v)) where
  packed_u : HasAllLetters u
  packed_u = packed-permutation u (each_once u hu)

  packed_v : HasAllLetters v
  packed_v = packed-permutation v (each_once v hv)

  -- in the parts of a permutation no letter stands twice
  distinct : (w : List ℕ) → HasEachOnce w → (k x : ℕ) → (count_same x (take k w) ≤ 1) × (count_same x (drop k w) ≤ 1)
  distinct w h k x = (omega (arith, count_parts x k w, count_same-permutation w h x), omega (arith, count_parts x k w, count_same-permutation w h x))

  -- so they are spreads of their standardisations
  standard_parts : (w : List ℕ) → HasEachOnce w → (k : ℕ) → (standardise (take k w) ≡ pack (take k w)) × (standardise (drop k w) ≡ pack (drop k w))
  standard_parts w h k =
      let positive = letters_parts (λ x. 1 ≤ x) k w (packed-permutation w h).positive in
      (standardise_distinct (take k w) positive.0 (λ x. (distinct w h k x).0), standardise_distinct (drop k w) positive.1 (λ x. (distinct w h k x).1))

  pub convolution_start : (w : List ℕ) → IsConvolutionPast 0 u v w → IsConvolution u v w
  convolution_start w h =
      let parts = standard_parts w (each_once w h.permutation) (length u) in
      record {
        permutation = h.permutation;
        front = parts.0 ∙ pack_of_spread 0 u (take (length u) w) packed_u h.spread.front;
        back = parts.1 ∙ pack_of_spread 0 v (drop (length u) w) packed_v h.spread.back;
      }

  pub convolution_is_spread : (w : List ℕ) → IsConvolution u v w → IsConvolutionPast 0 u v w
  convolution_is_spread w h =
      let once = each_once w h.permutation in
      let parts = standard_parts w once (length u) in
      let positive = letters_parts (λ x. 1 ≤ x) (length u) w (packed-permutation w once).positive in
      record {
        permutation = h.permutation;
        spread = record {
          front = subst (λ a. IsSpread 0 a (take (length u) w)) (sym parts.0 ∙ h.front) (spread_of_pack (take (length u) w) positive.0);
          back = subst (λ a. IsSpread 0 a (drop (length u) w)) (sym parts.1 ∙ h.back) (spread_of_pack (drop (length u) w) positive.1);
        };
      }

  -- two permutations are the front and the back at the start
  pub convolution_front : length u + length v ≤ 12 → IsConvolutionFront 0 u v
  convolution_front short =
      let a = each_once u hu in
      let b = each_once v hv in
      record {
        positive_front = packed_u.positive;
        positive_back = packed_v.positive;
        settled = λ x from to. absurd (omega arith);
        open_front = λ x past to. a.once x (omega arith) (omega (arith, to, greatest-permutation u a));
        open_back = λ x past to. b.once x (omega arith) (omega (arith, to, greatest-permutation v b));
        front_past = omega arith;
        back_past = omega arith;
        whole = omega (arith, greatest-permutation u a, greatest-permutation v b);
        short = short;
      }

-- the letters past n of a word that has each of them once, raised: it has each past n + 1 once
open_raised : (n : ℕ) (v : List ℕ) → ((x : ℕ) → n < x → x ≤ greatest v → count_same x v ≡ 1) → n < greatest v
    → (x : ℕ) → n + 1 < x → x ≤ greatest (raise_past n v) → count_same x (raise_past n v) ≡ 1
open_raised n v each past x from to =
    let back : x - 1 + 1 ≡ x = omega arith in
    subst (λ y. count_same y (raise_past n v) ≡ 1) back
    (omega (arith, count_raised-high n (x - 1) v (omega arith), each (x - 1) (omega arith) (omega (arith, to, greatest_raised n v past))))

module _ (n : ℕ) (u v : List ℕ) (front : IsConvolutionFront n u v) where
  -- where one part is settled, both together are a permutation
  pub joined_once : (greatest u ≤ n) ⊎ (greatest v ≤ n) → HasEachOnce (u ++ v)
  joined_once low = record { once = λ x from to. omega (arith, count_same-append x u v, once low x from (omega (arith, to, length-append u v, front.whole))) }
    where
      once : (greatest u ≤ n) ⊎ (greatest v ≤ n) → (x : ℕ) → 1 ≤ x → n + x ≤ greatest u + greatest v → count_same x u + count_same x v ≡ 1
      once (inl low) x from to = elim (cases_lt n x) [
        | inl past ↦ omega (arith, none_past x u (omega arith), front.open_back x past (omega arith))
        | inr under ↦ front.settled x from under
      ]
      once (inr low) x from to = elim (cases_lt n x) [
        | inl past ↦ omega (arith, none_past x v (omega arith), front.open_front x past (omega arith))
        | inr under ↦ front.settled x from under
      ]

  -- the only one
  pub convolution_end : (old : List Code) → (greatest u ≤ n) ⊎ (greatest v ≤ n) → AddsEach (IsConvolutionPast n u v) old (old ++ (u ++ v) ∷ [])
  convolution_end old low =
      adds_one (IsConvolutionPast n u v) (u ++ v) old (record { permutation = permutation_from (u ++ v) (joined_once low); spread = spread_joined n u v })
      (λ w h. settled_whole n u v w (packed-permutation w (each_once w h.permutation)) h.spread low)

  -- else n + 1 is a letter of both
  module _ (past_u : n < greatest u) (past_v : n < greatest v) where
    here_u : count_same (n + 1) u ≡ 1
    here_u = front.open_front (n + 1) (omega arith) (omega arith)

    here_v : count_same (n + 1) v ≡ 1
    here_v = front.open_back (n + 1) (omega arith) (omega arith)

    -- it settles in the front, and is left out in the back
    pub convolution_in_front : IsConvolutionFront (n + 1) u (raise_past n v)
    convolution_in_front = record {
      positive_front = front.positive_front;
      positive_back = positive_raised n v front.positive_back;
      settled = λ x from to. settled x from to (cases_lt n x);
      open_front = λ x past to. front.open_front x (omega arith) to;
      open_back = λ x past to. open_raised n v front.open_back past_v x past to;
      front_past = omega arith;
      back_past = omega (arith, greatest_raised n v past_v);
      whole = omega (arith, front.whole, greatest_raised n v past_v, length-map v (raised_past n));
      short = omega (arith, front.short, length-map v (raised_past n));
    }
      where
        settled : (x : ℕ) → 1 ≤ x → x ≤ n + 1 → (n < x) ⊎ (x ≤ n) → count_same x u + count_same x (raise_past n v) ≡ 1
        settled x from to (inl past) =
            let last : x ≡ n + 1 = omega arith in
            omega (arith, ap (λ y. count_same y u) last, here_u, ap (λ y. count_same y (raise_past n v)) last, count_raised-here n v)
        settled x from to (inr low) = omega (arith, front.settled x from low, count_raised-low n x v low)

    -- or in the back, and is left out in the front
    pub convolution_in_back : IsConvolutionFront (n + 1) (raise_past n u) v
    convolution_in_back = record {
      positive_front = positive_raised n u front.positive_front;
      positive_back = front.positive_back;
      settled = λ x from to. settled x from to (cases_lt n x);
      open_front = λ x past to. open_raised n u front.open_front past_u x past to;
      open_back = λ x past to. front.open_back x (omega arith) to;
      front_past = omega (arith, greatest_raised n u past_u);
      back_past = omega arith;
      whole = omega (arith, front.whole, greatest_raised n u past_u, length-map u (raised_past n));
      short = omega (arith, front.short, length-map u (raised_past n));
    }
      where
        settled : (x : ℕ) → 1 ≤ x → x ≤ n + 1 → (n < x) ⊎ (x ≤ n) → count_same x (raise_past n u) + count_same x v ≡ 1
        settled x from to (inl past) =
            let last : x ≡ n + 1 = omega arith in
            omega (arith, ap (λ y. count_same y v) last, here_v, ap (λ y. count_same y (raise_past n u)) last, count_raised-here n u)
        settled x from to (inr low) = omega (arith, front.settled x from low, count_raised-low n x u low)

    -- the words with n + 1 in the front and those with it in the back are all
    pub convolution_parts : (old mid new : List Code) → AddsEach (IsConvolutionPast (n + 1) u (raise_past n v)) old mid
        → AddsEach (IsConvolutionPast (n + 1) (raise_past n u) v) mid new → AddsEach (IsConvolutionPast n u v) old new
    convolution_parts old mid new in_front in_back =
        adds_same (λ w. IsConvolutionPast (n + 1) u (raise_past n v) w ⊎ IsConvolutionPast (n + 1) (raise_past n u) v w) (IsConvolutionPast n u v) old new all parts
        (adds_either (IsConvolutionPast (n + 1) u (raise_past n v)) (IsConvolutionPast (n + 1) (raise_past n u) v) old mid new front_or_back in_front in_back)
      where
        front_or_back : (w : Code) → IsConvolutionPast (n + 1) u (raise_past n v) w → IsConvolutionPast (n + 1) (raise_past n u) v w → ⊥
        front_or_back w h k = absurd (omega (arith, here_u, count_front_less n u v w h.spread, count_back_less n u v w k.spread))

        all : (w : Code) → IsConvolutionPast (n + 1) u (raise_past n v) w ⊎ IsConvolutionPast (n + 1) (raise_past n u) v w → IsConvolutionPast n u v w
        all w (inl h) = record { permutation = h.permutation; spread = front_less n u v w h.spread }
        all w (inr h) = record { permutation = h.permutation; spread = back_less n u v w h.spread }

        parts : (w : Code) → IsConvolutionPast n u v w → IsConvolutionPast (n + 1) u (raise_past n v) w ⊎ IsConvolutionPast (n + 1) (raise_past n u) v w
        parts w h = by_case (spread_parts n u v w h.spread)
          where
            once : HasEachOnce w
            once = each_once w h.permutation

            by_case : AreSpread (n + 1) u v w ⊎ AreSpread (n + 1) u (raise_past n v) w ⊎ AreSpread (n + 1) (raise_past n u) v w ⊎ (count_same (n + 1) w ≡ 0)
                → IsConvolutionPast (n + 1) u (raise_past n v) w ⊎ IsConvolutionPast (n + 1) (raise_past n u) v w
            by_case (inl s) =
                absurd (omega (
                  arith,
                  here_u,
                  here_v,
                  count_front (n + 1) u v w s (n + 1) (omega arith),
                  count_back (n + 1) u v w s (n + 1) (omega arith),
                  count_parts (n + 1) (length u) w,
                  count_same-permutation w once (n + 1),
                ))
            by_case (inr (inl s)) = inl record { permutation = h.permutation; spread = s }
            by_case (inr (inr (inl s))) = inr record { permutation = h.permutation; spread = s }
            by_case (inr (inr (inr none))) =
                absurd (omega (arith, none, counted (n + 1) w ((packed-permutation w once).each (n + 1) (omega arith) (omega (arith, past_u, greatest_front n u v w h.spread)))))
