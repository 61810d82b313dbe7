-- The cuts of the shuffles of two words are the shuffles of their cuts: concatenation and shuffling are compatible (Malvenuto, Reutenauer 1995).
use Rattle.std.proofs.Common.{◌≡◌, ℕ, ◌+◌, List, [], ◌∷◌, map, refl, sym, ◌∙◌, ap, arith}
use Rattle.std.specs.List.{AllByRecursion}
use Rattle.realisations.specs.Words.{shuffles, word_cuts}
use Rattle.realisations.proofs.Sums.{sums, sums-add, sums-map, sums_same}
use Rattle.coproduct_laws.proofs.Shuffling.{over_shuffles, over_shuffles-step}

-- no second word
pub over_shuffles-nil_right : (f : List ℕ → ℕ) (u : List ℕ) → over_shuffles f u [] ≡ f u
over_shuffles-nil_right f [] = omega arith
over_shuffles-nil_right f (x ∷ u) = omega arith

-- no first word
pub over_shuffles-nil_left : (f : List ℕ → ℕ) (v : List ℕ) → over_shuffles f [] v ≡ f v
over_shuffles-nil_left f v = omega arith

-- the sum of a function over the cuts of a word
abbrev pub over_word_cuts : (List ℕ → List ℕ → ℕ) → List ℕ → ℕ
over_word_cuts h w = sums (λ c. h c.0 c.1) (word_cuts w)

-- the cut before the first letter, and those after it
pub over_word_cuts-step : (h : List ℕ → List ℕ → ℕ) (x : ℕ) (w : List ℕ) → over_word_cuts h (x ∷ w) ≡ h [] (x ∷ w) + over_word_cuts (λ a b. h (x ∷ a) b) w
over_word_cuts-step h x w = ap (λ n. h [] (x ∷ w) + n) (sums-map (λ (c : List ℕ × List ℕ). h c.0 c.1) (λ (c : List ℕ × List ℕ). (x ∷ c.0, c.1)) (word_cuts w))

-- the cuts of a mapped word
pub over_word_cuts-map : (f : ℕ → ℕ) (h : List ℕ → List ℕ → ℕ) (w : List ℕ) → over_word_cuts h (map f w) ≡ over_word_cuts (λ a b. h (map f a) (map f b)) w
over_word_cuts-map f h [] = refl
over_word_cuts-map f h (x ∷ w) =
    over_word_cuts-step h (f x) (map f w)
    ∙ ap (λ n. h [] (f x ∷ map f w) + n) (over_word_cuts-map f (λ a b. h (f x ∷ a) b) w)
    ∙ sym (over_word_cuts-step (λ a b. h (map f a) (map f b)) x w)

-- functions that agree where the letters have a property
pub over_word_cuts_same : (P : ℕ → Type 0) (h k : List ℕ → List ℕ → ℕ) (w : List ℕ) → AllByRecursion P w
    → ((a b : List ℕ) → AllByRecursion P a → AllByRecursion P b → h a b ≡ k a b) → over_word_cuts h w ≡ over_word_cuts k w
over_word_cuts_same P h k [] p same = omega (arith, same [] [] tt tt)
over_word_cuts_same P h k (x ∷ w) p same =
    omega (
      arith,
      over_word_cuts-step h x w,
      over_word_cuts-step k x w,
      same [] (x ∷ w) tt p,
      over_word_cuts_same P (λ a b. h (x ∷ a) b) (λ a b. k (x ∷ a) b) w p.1 (λ a b pa pb. same (x ∷ a) b (p.0, pa) pb),
    )

-- the sum over the shuffles of the first parts, and of the second parts, of two cuts
abbrev pub over_parts : (List ℕ → List ℕ → ℕ) → List ℕ → List ℕ → List ℕ → List ℕ → ℕ
over_parts h a b c d = over_shuffles (λ x. over_shuffles (λ y. h x y) b d) a c

-- the sum over all cuts of both words, and the shuffles of their parts
abbrev pub over_cut_shuffles : (List ℕ → List ℕ → ℕ) → List ℕ → List ℕ → ℕ
over_cut_shuffles h u v = over_word_cuts (λ a b. over_word_cuts (λ c d. over_parts h a b c d) v) u

-- a sum of two functions over cuts
over_word_cuts-add : (h k : List ℕ → List ℕ → ℕ) (w : List ℕ) → over_word_cuts (λ a b. h a b + k a b) w ≡ over_word_cuts h w + over_word_cuts k w
over_word_cuts-add h k w = sums-add (λ (c : List ℕ × List ℕ). h c.0 c.1) (λ c. k c.0 c.1) (word_cuts w)

-- a sum of two functions over shuffles
over_shuffles-add : (f g : List ℕ → ℕ) (u v : List ℕ) → over_shuffles (λ w. f w + g w) u v ≡ over_shuffles f u v + over_shuffles g u v
over_shuffles-add f g u v = sums-add f g (shuffles u v)

-- functions that agree, over shuffles
over_shuffles_alike : (f g : List ℕ → ℕ) → ((w : List ℕ) → f w ≡ g w) → (u v : List ℕ) → over_shuffles f u v ≡ over_shuffles g u v
over_shuffles_alike f g same u v = sums_same f g same (shuffles u v)

-- functions that agree, over cuts
over_word_cuts_alike : (h k : List ℕ → List ℕ → ℕ) → ((a b : List ℕ) → h a b ≡ k a b) → (w : List ℕ) → over_word_cuts h w ≡ over_word_cuts k w
over_word_cuts_alike h k same w = sums_same (λ (c : List ℕ × List ℕ). h c.0 c.1) (λ c. k c.0 c.1) (λ c. same c.0 c.1) (word_cuts w)

-- the cuts of one word against the uncut other
pub over_cut_shuffles-step : (h : List ℕ → List ℕ → ℕ) (x : ℕ) (u : List ℕ) (y : ℕ) (v : List ℕ)
    → over_cut_shuffles h (x ∷ u) (y ∷ v)
    ≡ over_shuffles (λ b. h [] b) (x ∷ u) (y ∷ v) + over_cut_shuffles (λ a b. h (x ∷ a) b) u (y ∷ v) + over_cut_shuffles (λ a b. h (y ∷ a) b) (x ∷ u) v
over_cut_shuffles-step h x u y v =
    let hx : List ℕ → List ℕ → ℕ = λ a b. h (x ∷ a) b in
    let hy : List ℕ → List ℕ → ℕ = λ a b. h (y ∷ a) b in
    let outer : over_cut_shuffles h (x ∷ u) (y ∷ v)
    ≡ over_word_cuts (λ c d. over_parts h [] (x ∷ u) c d) (y ∷ v) + over_word_cuts (λ a b. over_word_cuts (λ c d. over_parts h (x ∷ a) b c d) (y ∷ v)) u
    = over_word_cuts-step (λ a b. over_word_cuts (λ c d. over_parts h a b c d) (y ∷ v)) x u in
    let uncut : over_word_cuts (λ c d. over_parts h [] (x ∷ u) c d) (y ∷ v)
    ≡ over_parts h [] (x ∷ u) [] (y ∷ v) + over_word_cuts (λ c d. over_parts hy [] (x ∷ u) c d) v
    = over_word_cuts-step (λ c d. over_parts h [] (x ∷ u) c d) y v in
    let start : over_parts h [] (x ∷ u) [] (y ∷ v) ≡ over_shuffles (λ b. h [] b) (x ∷ u) (y ∷ v) = omega arith in
    let inner : over_word_cuts (λ a b. over_word_cuts (λ c d. over_parts h (x ∷ a) b c d) (y ∷ v)) u
    ≡ over_word_cuts (λ a b. over_word_cuts (λ c d. over_parts hx a b c d) (y ∷ v) + over_word_cuts (λ c d. over_parts hy (x ∷ a) b c d) v) u
    = over_word_cuts_alike _ _ (λ a b. both a b) u in
    let parts : over_word_cuts (λ a b. over_word_cuts (λ c d. over_parts hx a b c d) (y ∷ v) + over_word_cuts (λ c d. over_parts hy (x ∷ a) b c d) v) u
    ≡ over_cut_shuffles hx u (y ∷ v) + over_word_cuts (λ a b. over_word_cuts (λ c d. over_parts hy (x ∷ a) b c d) v) u
    = over_word_cuts-add (λ a b. over_word_cuts (λ c d. over_parts hx a b c d) (y ∷ v)) (λ a b. over_word_cuts (λ c d. over_parts hy (x ∷ a) b c d) v) u in
    let last : over_cut_shuffles hy (x ∷ u) v
    ≡ over_word_cuts (λ c d. over_parts hy [] (x ∷ u) c d) v + over_word_cuts (λ a b. over_word_cuts (λ c d. over_parts hy (x ∷ a) b c d) v) u
    = over_word_cuts-step (λ a b. over_word_cuts (λ c d. over_parts hy a b c d) v) x u in
    omega (arith, outer, uncut, start, inner, parts, last)
  where
    both : (a b : List ℕ) → over_word_cuts (λ c d. over_parts h (x ∷ a) b c d) (y ∷ v)
        ≡ over_word_cuts (λ c d. over_parts (λ a b. h (x ∷ a) b) a b c d) (y ∷ v) + over_word_cuts (λ c d. over_parts (λ a b. h (y ∷ a) b) (x ∷ a) b c d) v
    both a b =
        let left : over_word_cuts (λ c d. over_parts h (x ∷ a) b c d) (y ∷ v)
        ≡ over_parts h (x ∷ a) b [] (y ∷ v) + over_word_cuts (λ c d. over_parts h (x ∷ a) b (y ∷ c) d) v
        = over_word_cuts-step (λ c d. over_parts h (x ∷ a) b c d) y v in
        let right : over_word_cuts (λ c d. over_parts (λ a b. h (x ∷ a) b) a b c d) (y ∷ v)
        ≡ over_parts (λ a b. h (x ∷ a) b) a b [] (y ∷ v) + over_word_cuts (λ c d. over_parts (λ a b. h (x ∷ a) b) a b (y ∷ c) d) v
        = over_word_cuts-step (λ c d. over_parts (λ a b. h (x ∷ a) b) a b c d) y v in
        let first : over_parts h (x ∷ a) b [] (y ∷ v) ≡ over_parts (λ a b. h (x ∷ a) b) a b [] (y ∷ v)
        = over_shuffles-nil_right (λ s. over_shuffles (λ t. h s t) b (y ∷ v)) (x ∷ a) ∙ sym (over_shuffles-nil_right (λ s. over_shuffles (λ t. h (x ∷ s) t) b (y ∷ v)) a) in
        let rest : over_word_cuts (λ c d. over_parts h (x ∷ a) b (y ∷ c) d) v
        ≡ over_word_cuts (λ c d. over_parts (λ a b. h (x ∷ a) b) a b (y ∷ c) d) v + over_word_cuts (λ c d. over_parts (λ a b. h (y ∷ a) b) (x ∷ a) b c d) v
        = over_word_cuts_alike _ _ (λ c d. over_shuffles-step (λ s. over_shuffles (λ t. h s t) b d) x a y c) v
        ∙ over_word_cuts-add (λ c d. over_parts (λ a b. h (x ∷ a) b) a b (y ∷ c) d) (λ c d. over_parts (λ a b. h (y ∷ a) b) (x ∷ a) b c d) v in
        omega (arith, left, right, first, rest)

-- the sum over the cuts of the shuffles is that over the shuffles of the cuts
pub cuts_of_shuffles : (h : List ℕ → List ℕ → ℕ) (u v : List ℕ) → over_shuffles (λ w. over_word_cuts h w) u v ≡ over_cut_shuffles h u v
cuts_of_shuffles h [] v =
    over_shuffles-nil_left (λ w. over_word_cuts h w) v
    ∙ over_word_cuts_alike h (λ c d. over_parts h [] [] c d)
    (λ c d. sym (over_shuffles-nil_left (λ x. over_shuffles (λ y. h x y) [] d) c ∙ over_shuffles-nil_left (λ y. h c y) d)) v
    ∙ omega arith
cuts_of_shuffles h (x ∷ u) [] =
    over_shuffles-nil_right (λ w. over_word_cuts h w) (x ∷ u)
    ∙ over_word_cuts_alike h (λ a b. over_word_cuts (λ c d. over_parts h a b c d) [])
    (λ a b. sym (one_more (over_parts h a b [] []) ∙ over_shuffles-nil_right (λ s. over_shuffles (λ t. h s t) b []) a ∙ over_shuffles-nil_right (λ t. h a t) b)) (x ∷ u)
  where
    one_more : (n : ℕ) → n + 0 ≡ n
    one_more n = omega arith
cuts_of_shuffles h (x ∷ u) (y ∷ v) =
    let left : over_shuffles (λ w. over_word_cuts h (x ∷ w)) u (y ∷ v) ≡ over_shuffles (λ w. h [] (x ∷ w)) u (y ∷ v) + over_shuffles (λ w. over_word_cuts (λ a b. h (x ∷ a) b) w) u (y ∷ v)
    = over_shuffles_alike _ _ (λ w. over_word_cuts-step h x w) u (y ∷ v) ∙ over_shuffles-add (λ w. h [] (x ∷ w)) (λ w. over_word_cuts (λ a b. h (x ∷ a) b) w) u (y ∷ v) in
    let right : over_shuffles (λ w. over_word_cuts h (y ∷ w)) (x ∷ u) v ≡ over_shuffles (λ w. h [] (y ∷ w)) (x ∷ u) v + over_shuffles (λ w. over_word_cuts (λ a b. h (y ∷ a) b) w) (x ∷ u) v
    = over_shuffles_alike _ _ (λ w. over_word_cuts-step h y w) (x ∷ u) v ∙ over_shuffles-add (λ w. h [] (y ∷ w)) (λ w. over_word_cuts (λ a b. h (y ∷ a) b) w) (x ∷ u) v in
    omega (
      arith,
      over_shuffles-step (λ w. over_word_cuts h w) x u y v,
      left,
      right,
      over_shuffles-step (λ b. h [] b) x u y v,
      cuts_of_shuffles (λ a b. h (x ∷ a) b) u (y ∷ v),
      cuts_of_shuffles (λ a b. h (y ∷ a) b) (x ∷ u) v,
      over_cut_shuffles-step h x u y v,
    )
