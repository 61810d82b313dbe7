-- A map that rises on the letters of a word keeps all that depends on the order of the letters alone.
use Rattle.std.proofs.Common.{◌≡◌, ℕ, zero, suc, ◌<◌, Bool, true, false, List, [], ◌∷◌, length, map, refl, sym, ◌∙◌, ap, subst, arith, inl, inr}
use Rattle.std.proofs.lemmas.Bool.{cases_lt}
use Rattle.std.specs.Prelude.{nat_eq, nat_lt, nat_le, max, if◌then◌else◌}
use Rattle.std.specs.List.{AllByRecursion}
use Rattle.std.proofs.lemmas.Bool.Decides.{nat_tests}
use Rattle.std.proofs.lemmas.List.{length-map}
use Rattle.realisations.specs.Lists.{is_among, count}
use Rattle.realisations.specs.Words.{greatest}
use Rattle.realisations.specs.Standardisation.{standardise_after, rank_in, pack}
use Rattle.realisations.specs.Descents.{places_where, descent_composition}
use Rattle.realisations.specs.Trees.{node, before_last, after_last, decreasing_within, decreasing_tree}

-- f rises strictly from each number with P to each greater one with P
abbrev pub Rises : (ℕ → Type 0) → (ℕ → ℕ) → Type 0
Rises P f = (x y : ℕ) → P x → P y → x < y → f x < f y

-- each letter has P
abbrev pub Letters : (ℕ → Type 0) → List ℕ → Type 0
Letters P w = AllByRecursion P w

module _ (P : ℕ → Type 0) (f : ℕ → ℕ) (rises : Rises P f) where
  pub nat_lt-rises : (x y : ℕ) → P x → P y → nat_lt (f x) (f y) ≡ nat_lt x y
  nat_lt-rises x y hx hy = grind (arith, nat_tests, rises x y hx hy, rises y x hy hx)

  nat_le-rises : (x y : ℕ) → P x → P y → nat_le (f x) (f y) ≡ nat_le x y
  nat_le-rises x y hx hy = grind (arith, nat_tests, rises x y hx hy, rises y x hy hx)

  nat_eq-rises : (x y : ℕ) → P x → P y → nat_eq (f x) (f y) ≡ nat_eq x y
  nat_eq-rises x y hx hy = grind (arith, nat_tests, rises x y hx hy, rises y x hy hx)

  -- places

  places_where-map : (test : ℕ → ℕ → Bool) → ((x y : ℕ) → P x → P y → test (f x) (f y) ≡ test x y)
      → (k : ℕ) (w : List ℕ) → Letters P w → places_where test k (map f w) ≡ places_where test k w
  places_where-map test same k [] h = refl
  places_where-map test same k (x ∷ []) h = refl
  places_where-map test same k (x ∷ y ∷ w) h =
      rw (same x y h.0 h.1.0, places_where-map test same (suc k) (y ∷ w) h.1)

  pub descents-map : (w : List ℕ) → Letters P w → places_where (λ x y. nat_lt y x) 1 (map f w) ≡ places_where (λ x y. nat_lt y x) 1 w
  descents-map w h = places_where-map (λ x y. nat_lt y x) (λ x y hx hy. nat_lt-rises y x hy hx) 1 w h

  pub descent_composition-map : (w : List ℕ) → Letters P w → descent_composition (map f w) ≡ descent_composition w
  descent_composition-map [] h = refl
  descent_composition-map (x ∷ []) h = refl
  descent_composition-map (x ∷ y ∷ w) h =
      rw (nat_lt-rises y x h.1.0 h.0, descent_composition-map (y ∷ w) h.1)

  -- counts

  count-map : (test test' : ℕ → Bool) → ((y : ℕ) → P y → test' (f y) ≡ test y) → (w : List ℕ) → Letters P w → count test' (map f w) ≡ count test w
  count-map test test' same [] h = refl
  count-map test test' same (y ∷ w) h = rw (same y h.0, count-map test test' same w h.1)

  standardise_after-map : (before w : List ℕ) → Letters P before → Letters P w → standardise_after (map f before) (map f w) ≡ standardise_after before w
  standardise_after-map before [] hb h = refl
  standardise_after-map before (x ∷ w) hb h =
      let below = count-map (λ y. nat_lt y x) (λ y. nat_lt y (f x)) (λ y hy. nat_lt-rises y x hy h.0) in
      let equal = count-map (λ y. nat_eq y x) (λ y. nat_eq y (f x)) (λ y hy. nat_eq-rises y x hy h.0) in
      rw (below before hb, equal before hb, below w h.1, standardise_after-map (x ∷ before) w (h.0, hb) h.1)

  pub standardise-map : (w : List ℕ) → Letters P w → standardise_after [] (map f w) ≡ standardise_after [] w
  standardise-map w h = standardise_after-map [] w tt h

  -- ranks

  is_among-map : (w : List ℕ) (x : ℕ) → Letters P w → P x → is_among (f x) (map f w) ≡ is_among x w
  is_among-map [] x h hx = refl
  is_among-map (y ∷ w) x h hx = rw (nat_eq-rises y x h.0 hx, is_among-map w x h.1 hx)

  rank_in-map : (w : List ℕ) (x : ℕ) → Letters P w → P x → rank_in (map f w) (f x) ≡ rank_in w x
  rank_in-map [] x h hx = refl
  rank_in-map (y ∷ w) x h hx = rw (nat_le-rises y x h.0 hx, is_among-map w y h.1 h.0, rank_in-map w x h.1 hx)

  ranks-map : (w v : List ℕ) → Letters P w → Letters P v → map (λ x. rank_in (map f w) x) (map f v) ≡ map (λ x. rank_in w x) v
  ranks-map w [] hw h = refl
  ranks-map w (x ∷ v) hw h = rw (rank_in-map w x hw h.0, ranks-map w v hw h.1)

  pub pack-map : (w : List ℕ) → Letters P w → pack (map f w) ≡ pack w
  pack-map w h = ranks-map w w h h

  -- trees

  -- the greatest letter is a letter
  greatest-has : (x : ℕ) (w : List ℕ) → P x → Letters P w → P (greatest (x ∷ w))
  greatest-has x [] hx h = subst P (omega arith) hx
  greatest-has x (y ∷ w) hx h = max-has x (greatest (y ∷ w)) hx (greatest-has y w h.0 h.1)
    where
      max-has : (a b : ℕ) → P a → P b → P (max a b)
      max-has a b ha hb = elim (cases_lt a b) [
        | inl less ↦ subst P (omega arith) hb
        | inr over ↦ subst P (omega arith) ha
      ]

  max-zero : (n : ℕ) → max n 0 ≡ n
  max-zero n = omega arith

  pub greatest-map : (x : ℕ) (w : List ℕ) → P x → Letters P w → greatest (f x ∷ map f w) ≡ f (greatest (x ∷ w))
  greatest-map x [] hx h = max-zero (f x) ∙ ap f (sym (max-zero x))
  greatest-map x (y ∷ w) hx h = ap (λ n. max (f x) n) (greatest-map y w h.0 h.1) ∙ max-map x (greatest (y ∷ w)) hx (greatest-has y w h.0 h.1)
    where
      max-map : (a b : ℕ) → P a → P b → max (f a) (f b) ≡ f (max a b)
      max-map a b ha hb = elim (cases_lt a b) [
        | inl less ↦ let image = rises a b ha hb less in (let right : max a b ≡ b = omega arith in rw right (omega arith))
        | inr over ↦ elim (cases_lt b a) [
          | inl more ↦ let image = rises b a hb ha more in (let left : max a b ≡ a = omega arith in rw left (omega arith))
          | inr under ↦ let same : a ≡ b = omega arith in (let right : max b b ≡ b = omega arith in rw (same, right) (omega arith))
        ]
      ]

  before_last-map : (m : ℕ) (w : List ℕ) → P m → Letters P w → before_last (f m) (map f w) ≡ map f (before_last m w)
  before_last-map m [] hm h = refl
  before_last-map m (x ∷ w) hm h =
      rw (is_among-map w m h.1 hm, nat_eq-rises x m h.0 hm, before_last-map m w hm h.1) (by_cases (is_among m w) (nat_eq x m))
    where
      by_cases : (a b : Bool) → (if a then f x ∷ map f (before_last m w) else (if b then [] else f x ∷ map f (before_last m w)))
          ≡ map f (if a then x ∷ before_last m w else (if b then [] else x ∷ before_last m w))
      by_cases true b = refl
      by_cases false true = refl
      by_cases false false = refl

  after_last-map : (m : ℕ) (w : List ℕ) → P m → Letters P w → after_last (f m) (map f w) ≡ map f (after_last m w)
  after_last-map m [] hm h = refl
  after_last-map m (x ∷ w) hm h =
      rw (is_among-map w m h.1 hm, nat_eq-rises x m h.0 hm, after_last-map m w hm h.1) (by_cases (is_among m w) (nat_eq x m))
    where
      by_cases : (a b : Bool) → (if a then map f (after_last m w) else (if b then map f w else map f (after_last m w)))
          ≡ map f (if a then after_last m w else (if b then w else after_last m w))
      by_cases true b = refl
      by_cases false true = refl
      by_cases false false = refl

  Letters-before_last : (m : ℕ) (w : List ℕ) → Letters P w → Letters P (before_last m w)
  Letters-before_last m [] h = tt
  Letters-before_last m (x ∷ w) h = by_cases (is_among m w) (nat_eq x m) (Letters-before_last m w h.1)
    where
      by_cases : (a b : Bool) → Letters P (before_last m w) → Letters P (if a then x ∷ before_last m w else (if b then [] else x ∷ before_last m w))
      by_cases true b rest = (h.0, rest)
      by_cases false true rest = tt
      by_cases false false rest = (h.0, rest)

  Letters-after_last : (m : ℕ) (w : List ℕ) → Letters P w → Letters P (after_last m w)
  Letters-after_last m [] h = tt
  Letters-after_last m (x ∷ w) h = by_cases (is_among m w) (nat_eq x m) (Letters-after_last m w h.1)
    where
      by_cases : (a b : Bool) → Letters P (after_last m w) → Letters P (if a then after_last m w else (if b then w else after_last m w))
      by_cases true b rest = rest
      by_cases false true rest = h.1
      by_cases false false rest = rest

  decreasing_within-map : (n : ℕ) (w : List ℕ) → Letters P w → decreasing_within n (map f w) ≡ decreasing_within n w
  decreasing_within-map zero w h = refl
  decreasing_within-map (suc n) [] h = refl
  decreasing_within-map (suc n) (x ∷ w) h =
      let m = greatest (x ∷ w) in
      let root : greatest (f x ∷ map f w) ≡ f m = greatest-map x w h.0 h.1 in
      let has : P m = greatest-has x w h.0 h.1 in
      let left : decreasing_within n (before_last (greatest (f x ∷ map f w)) (f x ∷ map f w)) ≡ decreasing_within n (before_last m (x ∷ w)) =
      ap (λ k. decreasing_within n (before_last k (f x ∷ map f w))) root
      ∙ ap (λ v. decreasing_within n v) (before_last-map m (x ∷ w) has h)
      ∙ decreasing_within-map n (before_last m (x ∷ w)) (Letters-before_last m (x ∷ w) h) in
      let right : decreasing_within n (after_last (greatest (f x ∷ map f w)) (f x ∷ map f w)) ≡ decreasing_within n (after_last m (x ∷ w)) =
      ap (λ k. decreasing_within n (after_last k (f x ∷ map f w))) root
      ∙ ap (λ v. decreasing_within n v) (after_last-map m (x ∷ w) has h)
      ∙ decreasing_within-map n (after_last m (x ∷ w)) (Letters-after_last m (x ∷ w) h) in
      λ i. node (left i) (right i)

  pub decreasing_tree-map : (w : List ℕ) → Letters P w → decreasing_tree (map f w) ≡ decreasing_tree w
  decreasing_tree-map w h = ap (λ n. decreasing_within n (map f w)) (length-map w f) ∙ decreasing_within-map (length w) w h
