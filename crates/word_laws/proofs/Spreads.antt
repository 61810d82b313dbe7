-- Words that are spread past a number: one number more, how often letters stand in them, and when nothing is spread.
use Rattle.std.proofs.Common.{◌≡◌, ◌≢◌, ◌⊎◌, ℕ, zero, suc, ◌+◌, ◌-◌, ◌<◌, ◌≤◌, true, false, List, [], ◌∷◌, length, map, refl, sym, ◌∙◌, ap, subst, arith, inl, inr}
use Rattle.std.specs.Prelude.{nat_eq, nat_lt, if◌then◌else◌}
use Rattle.std.proofs.lemmas.Bool.{cases_lt}
use Rattle.std.proofs.lemmas.Bool.Decides.{nat_tests}
use Rattle.std.proofs.lemmas.List.{map-id, length-map}
use Rattle.realisations.specs.Lists.{one_if}
use Rattle.realisations.specs.Standardisation.{count_same}
use Rattle.realisations.specs.Words.{greatest}
use Rattle.realisations.proofs.RisingMaps.{Letters}
use Rattle.basis_representatives.proofs.Letters.{map_same}
use Rattle.basis_representatives.proofs.PackedWords.{letters_to_greatest}
use Rattle.basis_representatives.proofs.SameLists.{cons_same}
use Rattle.word_laws.specs.Spreads.{IsRising, IsSpread, raised_past, raise_past}

module _ (f : ℕ → ℕ) (rises : IsRising f) where
  pub not_falling : (x y : ℕ) → x ≤ y → f x ≤ f y
  not_falling x y h = elim (cases_lt x y) [
    | inl less ↦ omega (arith, rises x y less)
    | inr over ↦ (let same : x ≡ y = omega arith in omega (arith, ap f same))
  ]

  -- no number is above its image
  pub image_above : (x : ℕ) → x ≤ f x
  image_above zero = omega arith
  image_above (suc x) = omega (arith, image_above x, rises x (suc x) (omega arith))

  -- images stand in the image as often as the letters in the word
  pub count_image : (x : ℕ) (u : List ℕ) → count_same (f x) (map f u) ≡ count_same x u
  count_image x [] = refl
  count_image x (z ∷ u) =
      let one : nat_eq (f z) (f x) ≡ nat_eq z x = grind (arith, nat_tests, rises z x, rises x z) in
      rw (one, count_image x u) refl

  -- a number between two images in a row is not in the image
  pub count_missed : (y k : ℕ) → ((x : ℕ) → x < k → f x < y) → y < f k → (u : List ℕ) → count_same y (map f u) ≡ 0
  count_missed y k under over [] = refl
  count_missed y k under over (z ∷ u) =
      let apart : f z ≢ y = elim (cases_lt z k) [
        | inl less ↦ (λ e. omega (arith, under z less, e))
        | inr past ↦ (λ e. omega (arith, not_falling k z past, e))
      ] in
      let none : one_if (nat_eq (f z) y) ≡ 0 = grind (arith, nat_tests, apart) in
      omega (arith, none, count_missed y k under over u)

  -- the greatest letter is not above that of the image
  pub greatest_image : (u : List ℕ) → greatest u ≤ greatest (map f u)
  greatest_image [] = omega arith
  greatest_image (x ∷ u) = omega (arith, image_above x, greatest_image u)

-- letters past n raised

module _ (n : ℕ) where
  pub raised_past-low : (x : ℕ) → x ≤ n → raised_past n x ≡ x
  raised_past-low x h = let e : nat_lt n x ≡ false = grind (arith, nat_tests) in rw e refl

  pub raised_past-high : (x : ℕ) → n < x → raised_past n x ≡ x + 1
  raised_past-high x h = let e : nat_lt n x ≡ true = grind (arith, nat_tests) in rw e refl

  pub raised_past-rises : IsRising (raised_past n)
  raised_past-rises x y h = elim (cases_lt n x) [
    | inl past ↦ omega (arith, raised_past-high x past, raised_past-high y (omega arith))
    | inr low ↦ elim (cases_lt n y) [
      | inl past ↦ omega (arith, raised_past-low x low, raised_past-high y past)
      | inr both ↦ omega (arith, raised_past-low x low, raised_past-low y both)
    ]
  ]

  -- how often letters stand in a word once those past n are raised
  pub count_raised-low : (x : ℕ) (u : List ℕ) → x ≤ n → count_same x (raise_past n u) ≡ count_same x u
  count_raised-low x u h = ap (λ y. count_same y (raise_past n u)) (sym (raised_past-low x h)) ∙ count_image (raised_past n) raised_past-rises x u

  pub count_raised-here : (u : List ℕ) → count_same (n + 1) (raise_past n u) ≡ 0
  count_raised-here u =
      count_missed (raised_past n) raised_past-rises (n + 1) (n + 1) (λ x h. omega (arith, raised_past-low x (omega arith))) (omega (arith, raised_past-high (n + 1) (omega arith))) u

  pub count_raised-high : (x : ℕ) (u : List ℕ) → n < x → count_same (x + 1) (raise_past n u) ≡ count_same x u
  count_raised-high x u h = ap (λ y. count_same y (raise_past n u)) (sym (raised_past-high x h)) ∙ count_image (raised_past n) raised_past-rises x u

  -- their greatest letter
  pub greatest_raised : (u : List ℕ) → n < greatest u → greatest (raise_past n u) ≡ greatest u + 1
  greatest_raised [] h = absurd (omega arith)
  greatest_raised (x ∷ u) h = elim (cases_lt n (greatest u)) [
    | inl past ↦ elim (cases_lt n x) [
      | inl high ↦ omega (arith, greatest_raised u past, raised_past-high x high)
      | inr low ↦ omega (arith, greatest_raised u past, raised_past-low x low)
    ]
    | inr under ↦ (let high : n < x = omega arith in omega (arith, greatest_kept u under, raised_past-high x high))
  ]
    where
      greatest_kept : (v : List ℕ) → greatest v ≤ n → greatest (raise_past n v) ≡ greatest v
      greatest_kept [] h = refl
      greatest_kept (y ∷ v) h = omega (arith, raised_past-low y (omega arith), greatest_kept v (omega arith))

  pub positive_raised : (u : List ℕ) → Letters (λ x. 1 ≤ x) u → Letters (λ x. 1 ≤ x) (raise_past n u)
  positive_raised [] h = tt
  positive_raised (x ∷ u) h = (omega (arith, h.0, image_above (raised_past n) raised_past-rises x), positive_raised u h.1)

-- one map after another
map_twice : (f g : ℕ → ℕ) (u : List ℕ) → map f (map g u) ≡ map (λ x. f (g x)) u
map_twice f g [] = refl
map_twice f g (x ∷ u) = ap (λ v. f (g x) ∷ v) (map_twice f g u)

-- a word is a spread of itself
pub spread_same : (n : ℕ) (u : List ℕ) → IsSpread n u u
spread_same n u = record { image = λ x. x; rises = λ x y h. h; stays = λ x h. refl; word = sym (map-id u) }

-- the letters that stay are as many as before
pub count_settled : (n : ℕ) (u w : List ℕ) → IsSpread n u w → (x : ℕ) → x ≤ n → count_same x w ≡ count_same x u
count_settled n u w s x h =
    ap (count_same x) s.word ∙ ap (λ y. count_same y (map s.image u)) (sym (s.stays x h)) ∙ count_image s.image s.rises x u

-- where n + 1 stays, too
pub spread_less : (n : ℕ) (u w : List ℕ) → IsSpread (n + 1) u w → IsSpread n u w
spread_less n u w s = record { image = s.image; rises = s.rises; stays = λ x h. s.stays x (omega arith); word = s.word }

-- where n + 1 is left out
pub spread_raised : (n : ℕ) (u w : List ℕ) → IsSpread (n + 1) (raise_past n u) w → IsSpread n u w
spread_raised n u w s = record {
  image = λ x. s.image (raised_past n x);
  rises = λ x y h. s.rises (raised_past n x) (raised_past n y) (raised_past-rises n x y h);
  stays = λ x h. ap s.image (raised_past-low n x h) ∙ s.stays x (omega arith);
  word = s.word ∙ map_twice s.image (raised_past n) u;
}

-- a spread word that is spread again
pub spread_more : (n : ℕ) (f : ℕ → ℕ) → IsRising f → ((x : ℕ) → x ≤ n → f x ≡ x) → (u w : List ℕ) → IsSpread n u w → IsSpread n u (map f w)
spread_more n f rises stays u w s = record {
  image = λ x. f (s.image x);
  rises = λ x y h. rises (s.image x) (s.image y) (s.rises x y h);
  stays = λ x h. ap f (s.stays x h) ∙ stays x h;
  word = ap (map f) s.word ∙ map_twice f s.image u;
}

-- the image of the numbers with n + 1 left out
shifted : ℕ → (ℕ → ℕ) → ℕ → ℕ
shifted n f x = if nat_lt (n + 1) x then f (x - 1) else x

module _ (n : ℕ) (f : ℕ → ℕ) (rises : IsRising f) (over : n + 1 < f (n + 1)) where
  shifted-low : (x : ℕ) → x ≤ n + 1 → shifted n f x ≡ x
  unfolding shifted
  shifted-low x h = let e : nat_lt (n + 1) x ≡ false = grind (arith, nat_tests) in rw e refl

  shifted-high : (x : ℕ) → n + 1 < x → shifted n f x ≡ f (x - 1)
  unfolding shifted
  shifted-high x h = let e : nat_lt (n + 1) x ≡ true = grind (arith, nat_tests) in rw e refl

  shifted-rises : IsRising (shifted n f)
  shifted-rises x y h = elim (cases_lt (n + 1) x) [
    | inl past ↦ omega (arith, shifted-high x past, shifted-high y (omega arith), rises (x - 1) (y - 1) (omega arith))
    | inr low ↦ elim (cases_lt (n + 1) y) [
      | inl past ↦ omega (arith, shifted-low x low, shifted-high y past, over, not_falling f rises (n + 1) (y - 1) (omega arith))
      | inr both ↦ omega (arith, shifted-low x low, shifted-low y both)
    ]
  ]

  -- it takes the raised word to the image of the word
  shifted-word : ((x : ℕ) → x ≤ n → f x ≡ x) → (u : List ℕ) → map f u ≡ map (shifted n f) (raise_past n u)
  shifted-word stays [] = refl
  shifted-word stays (x ∷ u) = cons_same (letter x) (shifted-word stays u)
    where
      letter : (x : ℕ) → f x ≡ shifted n f (raised_past n x)
      letter x = elim (cases_lt n x) [
        | inl past ↦
            (let back : x + 1 - 1 ≡ x = omega arith in
            ap f (sym back) ∙ sym (shifted-high (x + 1) (omega arith)) ∙ ap (shifted n f) (sym (raised_past-high n x past)))
        | inr low ↦ stays x low ∙ sym (shifted-low x (omega arith)) ∙ ap (shifted n f) (sym (raised_past-low n x low))
      ]

-- n + 1 stays, or it is left out
pub spread_cases : (n : ℕ) (u w : List ℕ) → IsSpread n u w → IsSpread (n + 1) u w ⊎ IsSpread (n + 1) (raise_past n u) w
spread_cases n u w s = elim (cases_lt (n + 1) (s.image (n + 1))) [
  | inl over ↦ inr record {
    image = shifted n s.image;
    rises = shifted-rises n s.image s.rises over;
    stays = shifted-low n s.image s.rises over;
    word = s.word ∙ shifted-word n s.image s.rises over s.stays u;
  }
  | inr not_over ↦ inl record { image = s.image; rises = s.rises; stays = stays not_over; word = s.word }
]
  where
    stays : s.image (n + 1) ≤ n + 1 → (x : ℕ) → x ≤ n + 1 → s.image x ≡ x
    stays le x h = elim (cases_lt n x) [
      | inl last ↦ (let same : x ≡ n + 1 = omega arith in ap s.image same ∙ omega (arith, le, image_above s.image s.rises (n + 1), same))
      | inr low ↦ s.stays x low
    ]

-- where each of the next m numbers is a letter, they stay
pub settle : (n m : ℕ) (u w : List ℕ) → IsSpread n u w → ((x : ℕ) → n < x → x ≤ n + m → 1 ≤ count_same x w) → IsSpread (n + m) u w
settle n zero u w s each = let e : n ≡ n + 0 = omega arith in subst (λ k. IsSpread k u w) e s
settle n (suc m) u w s each =
    let e : n + m + 1 ≡ n + suc m = omega arith in
    subst (λ k. IsSpread k u w) e (next (spread_cases (n + m) u w (settle n m u w s (λ x past to. each x past (omega arith)))))
  where
    next : IsSpread (n + m + 1) u w ⊎ IsSpread (n + m + 1) (raise_past (n + m) u) w → IsSpread (n + m + 1) u w
    next (inl s) = s
    next (inr s) =
        absurd (omega (arith, each (n + m + 1) (omega arith) (omega arith), count_settled (n + m + 1) (raise_past (n + m) u) w s (n + m + 1) (omega arith), count_raised-here (n + m) u))

-- a word with no letter past n is not spread
pub spread_settled : (n : ℕ) (u w : List ℕ) → IsSpread n u w → greatest u ≤ n → w ≡ u
spread_settled n u w s low = s.word ∙ map_same s.image (λ x. x) (λ x. x ≤ n) s.stays u (letters_to_greatest u n low) ∙ map-id u

-- the letters are as many
pub length-spread : (n : ℕ) (u w : List ℕ) → IsSpread n u w → length w ≡ length u
length-spread n u w s = ap (λ (v : List ℕ). length v) s.word ∙ length-map u s.image
