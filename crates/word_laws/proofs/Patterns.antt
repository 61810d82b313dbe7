-- The pattern of a word: it is a spread of its packing, and of its standardisation where no letter stands twice.
use Rattle.std.proofs.Common.{◌≡◌, ◌≢◌, ℕ, zero, suc, ◌+◌, ◌-◌, ◌<◌, ◌≤◌, true, false, List, [], ◌∷◌, length, map, refl, sym, ◌∙◌, ap, subst, arith, inl, inr}
use Rattle.std.specs.Prelude.{nat_eq, nat_lt, if◌then◌else◌}
use Rattle.std.proofs.lemmas.Bool.{cases_lt}
use Rattle.std.proofs.lemmas.Bool.Decides.{nat_tests}
use Rattle.realisations.specs.Lists.{one_if}
use Rattle.realisations.specs.Standardisation.{count_below, count_same, pack, standardise}
use Rattle.realisations.specs.Words.{greatest}
use Rattle.realisations.proofs.Every.{every-any}
use Rattle.realisations.proofs.Packing.{standardise-pack}
use Rattle.realisations.proofs.RisingMaps.{Letters, pack-map}
use Rattle.basis_representatives.proofs.Counts.{among_some, count_below-suc, count_below-zero}
use Rattle.basis_representatives.proofs.PackedWords.{HasAllLetters, letters_to_greatest, pack-packed, packed-pack}
use Rattle.basis_representatives.proofs.Permutations.{HasEachOnce, standardise-permutation}
use Rattle.basis_representatives.proofs.SameLists.{cons_same}
use Rattle.coproduct_laws.proofs.CutLetters.{counted}
use Rattle.word_laws.specs.Laws.{PatternLaw}
use Rattle.word_laws.specs.Spreads.{IsSpread, raised_past, raise_past}
use Rattle.word_laws.proofs.Spreads.{count_image, count_raised-high, greatest_raised, raised_past-high, raised_past-low, raised_past-rises, spread_more, spread_same}

-- a map that rises everywhere keeps the packing
pub pack_image : (n : ℕ) (u w : List ℕ) → IsSpread n u w → pack w ≡ pack u
pack_image n u w s = ap pack s.word ∙ pack-map (λ x. Unit {0}) s.image (λ x y hx hy h. s.rises x y h) u (every-any (λ x. Unit {0}) (λ x. tt) u)

-- a packed word is the packing of its spreads
pub pack_of_spread : (n : ℕ) (u w : List ℕ) → HasAllLetters u → IsSpread n u w → pack w ≡ u
pack_of_spread n u w h s = pack_image n u w s ∙ pack-packed u h

-- where k + 1 is no letter, the letters past it lowered by 1
close_letter : ℕ → ℕ → ℕ
close_letter k x = if nat_lt k x then x - 1 else x

raised_closed : (k x : ℕ) → x ≢ k + 1 → raised_past k (close_letter k x) ≡ x
unfolding close_letter
raised_closed k x other = elim (cases_lt k x) [
  | inl past ↦ (let e : nat_lt k x ≡ true = grind (arith, nat_tests) in rw e (raised_past-high k (x - 1) (omega (arith, other)) ∙ omega arith))
  | inr low ↦ (let e : nat_lt k x ≡ false = grind (arith, nat_tests) in rw e (raised_past-low k x low))
]

closed_positive : (k x : ℕ) → x ≢ k + 1 → 1 ≤ x → 1 ≤ close_letter k x
unfolding close_letter
closed_positive k x other h = elim (cases_lt k x) [
  | inl past ↦ (let e : nat_lt k x ≡ true = grind (arith, nat_tests) in rw e (omega (arith, other)))
  | inr low ↦ (let e : nat_lt k x ≡ false = grind (arith, nat_tests) in rw e h)
]

closed : ℕ → List ℕ → List ℕ
closed k s = map (close_letter k) s

not_here : (x k : ℕ) → one_if (nat_eq x (k + 1)) ≡ 0 → x ≢ k + 1
not_here x k none e = let one : one_if (nat_eq x (k + 1)) ≡ 1 = grind (arith, nat_tests) in omega (arith, none, one)

raise_closed : (k : ℕ) (s : List ℕ) → count_same (k + 1) s ≡ 0 → raise_past k (closed k s) ≡ s
unfolding closed
raise_closed k [] none = refl
raise_closed k (x ∷ s) none = cons_same (raised_closed k x (not_here x k (omega (arith, none)))) (raise_closed k s (omega (arith, none)))

positive_closed : (k : ℕ) (s : List ℕ) → count_same (k + 1) s ≡ 0 → Letters (λ x. 1 ≤ x) s → Letters (λ x. 1 ≤ x) (closed k s)
unfolding closed
positive_closed k [] none h = tt
positive_closed k (x ∷ s) none h = (closed_positive k x (not_here x k (omega (arith, none))) h.0, positive_closed k s (omega (arith, none)) h.1)

-- a word whose letters past k leave nothing out is a spread of its packing: the gaps up to k are closed from the last one on
closing : (k : ℕ) (s : List ℕ) → Letters (λ x. 1 ≤ x) s → ((x : ℕ) → k < x → x ≤ greatest s → 1 ≤ count_same x s) → IsSpread 0 (pack s) s
closing zero s positive each =
    subst (λ u. IsSpread 0 u s) (sym (pack-packed s record { positive = positive; each = λ x from to. among_some x s (each x from to) })) (spread_same 0 s)
closing (suc k) s positive each = elim (cases_lt 0 (count_same (k + 1) s)) [
  | inl some ↦ closing k s positive
      (λ x past to. elim (cases_lt (k + 1) x) [
        | inl more ↦ each x (omega arith) to
        | inr here ↦ (let same : k + 1 ≡ x = omega arith in subst (λ y. 1 ≤ count_same y s) same some)
      ])
  | inr not_some ↦
      (let none : count_same (k + 1) s ≡ 0 = omega arith in
      let is : raise_past k (closed k s) ≡ s = raise_closed k s none in
      let rest : IsSpread 0 (pack (closed k s)) (closed k s) = closing k (closed k s) (positive_closed k s none positive)
      (λ x past to. omega (arith, count_raised-high k x (closed k s) past, ap (count_same (x + 1)) is, each (x + 1) (omega arith) (omega (arith, greatest_raised k (closed k s) (omega arith), ap greatest is)))) in
      let raised : IsSpread 0 (pack (closed k s)) (raise_past k (closed k s)) =
      spread_more 0 (raised_past k) (raised_past-rises k) (λ x h. raised_past-low k x (omega arith)) (pack (closed k s)) (closed k s) rest in
      subst (λ w. IsSpread 0 (pack w) w) is (subst (λ u. IsSpread 0 u (raise_past k (closed k s))) (sym (pack_raised k (closed k s))) raised))
]
  where
    pack_raised : (k : ℕ) (u : List ℕ) → pack (raise_past k u) ≡ pack u
    pack_raised k u = pack-map (λ x. Unit {0}) (raised_past k) (λ x y hx hy h. raised_past-rises k x y h) u (every-any (λ x. Unit {0}) (λ x. tt) u)

-- a word over positive letters is a spread of its packing
pub spread_of_pack : PatternLaw
spread_of_pack w positive = closing (greatest w) w positive (λ x past to. absurd (omega arith))

-- letters that are at most k, each there at most once, are at most k

below_last : (g : ℕ) (w : List ℕ) → Letters (λ x. x ≤ g) w → count_below (suc g) w ≡ length w
below_last g [] h = refl
below_last g (x ∷ w) h = let one : one_if (nat_lt x (suc g)) ≡ 1 = grind (arith, nat_tests, h.0) in omega (arith, one, below_last g w h.1)

no_zero : (w : List ℕ) → Letters (λ x. 1 ≤ x) w → count_same 0 w ≡ 0
no_zero [] h = refl
no_zero (x ∷ w) h = let none : one_if (nat_eq x 0) ≡ 0 = grind (arith, nat_tests, h.0) in omega (arith, none, no_zero w h.1)

few_below : (k : ℕ) (w : List ℕ) → Letters (λ x. 1 ≤ x) w → ((x : ℕ) → count_same x w ≤ 1) → count_below (suc k) w ≤ k
few_below zero w positive distinct = omega (arith, count_below-suc 0 w, count_below-zero w, no_zero w positive)
few_below (suc k) w positive distinct = omega (arith, count_below-suc (suc k) w, distinct (suc k), few_below k w positive distinct)

-- a packed word in which no letter stands twice is a permutation
pub distinct_permutation : (w : List ℕ) → HasAllLetters w → ((x : ℕ) → count_same x w ≤ 1) → HasEachOnce w
distinct_permutation w h distinct = record { once = λ i from to. omega (arith, distinct i, counted i w (h.each i from (omega (arith, to, fits)))) }
  where
    fits : length w ≤ greatest w
    fits = omega (arith, below_last (greatest w) w (letters_to_greatest w (greatest w) (omega arith)), few_below (greatest w) w h.positive distinct)

-- where no letter stands twice, the standardisation is the packing
pub standardise_distinct : (w : List ℕ) → Letters (λ x. 1 ≤ x) w → ((x : ℕ) → count_same x w ≤ 1) → standardise w ≡ pack w
standardise_distinct w positive distinct =
    let s : IsSpread 0 (pack w) w = spread_of_pack w positive in
    sym (standardise-pack w)
    ∙ standardise-permutation (pack w)
    (distinct_permutation (pack w) (packed-pack w) (λ x. omega (arith, distinct (s.image x), ap (count_same (s.image x)) s.word, count_image s.image s.rises x (pack w))))
