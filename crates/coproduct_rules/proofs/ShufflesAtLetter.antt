-- Shuffles that are cut at one letter of one of the words.
use Rattle.std.proofs.Common.{◌≡◌, ℕ, ◌+◌, List, [], ◌∷◌, ◌++◌, sym, ◌∙◌, arith}
use Rattle.std.specs.List.{AllByRecursion}
use Rattle.realisations.specs.Words.{word_cuts}
use Rattle.realisations.proofs.Sums.{sums-add, sums_same}
use Rattle.coproduct_laws.proofs.Shuffling.{over_shuffles, over_shuffles-step}
use Rattle.coproduct_rules.proofs.ShuffleCuts.{over_shuffles-nil_right, over_shuffles-nil_left}
use Rattle.coproduct_rules.proofs.ShuffleCuts.{over_word_cuts, over_word_cuts-step}

-- functions that agree on the words whose letters have a property
pub over_shuffles_letters : (P : ℕ → Type 0) (f g : List ℕ → ℕ) (u v : List ℕ) → AllByRecursion P u → AllByRecursion P v
    → ((w : List ℕ) → AllByRecursion P w → f w ≡ g w) → over_shuffles f u v ≡ over_shuffles g u v
over_shuffles_letters P f g [] v hu hv same = omega (arith, same v hv)
over_shuffles_letters P f g (x ∷ u) [] hu hv same = omega (arith, same (x ∷ u) hu)
over_shuffles_letters P f g (x ∷ u) (y ∷ v) hu hv same =
    omega (
      arith,
      over_shuffles-step f x u y v,
      over_shuffles-step g x u y v,
      over_shuffles_letters P (λ w. f (x ∷ w)) (λ w. g (x ∷ w)) u (y ∷ v) hu.1 hv (λ w h. same (x ∷ w) (hu.0, h)),
      over_shuffles_letters P (λ w. f (y ∷ w)) (λ w. g (y ∷ w)) (x ∷ u) v hu hv.1 (λ w h. same (y ∷ w) (hv.0, h)),
    )

-- the shuffles of the parts before and after the letter
abbrev pub around : (List ℕ → ℕ) → ℕ → List ℕ → List ℕ → List ℕ → List ℕ → ℕ
around f m a b c d = over_shuffles (λ x. over_shuffles (λ y. f (x ++ (m ∷ y))) b d) a c

-- a letter m of the second word stands somewhere in each shuffle: some of the first word is before it, and some after it
pub shuffles_at_letter : (f : List ℕ → ℕ) (m : ℕ) (c d u : List ℕ) → over_shuffles f u (c ++ (m ∷ d)) ≡ over_word_cuts (λ a b. around f m a b c d) u
shuffles_at_letter f m c d [] =
    over_shuffles-nil_left f (c ++ (m ∷ d))
    ∙ sym (one_more (around f m [] [] c d) ∙ over_shuffles-nil_left (λ x. over_shuffles (λ y. f (x ++ (m ∷ y))) [] d) c ∙ over_shuffles-nil_left (λ y. f (c ++ (m ∷ y))) d)
  where
    one_more : (n : ℕ) → n + 0 ≡ n
    one_more n = omega arith
shuffles_at_letter f m [] d (x ∷ u) =
    over_shuffles-step f x u m d
    ∙ omega (
      arith,
      shuffles_at_letter (λ w. f (x ∷ w)) m [] d u,
      over_word_cuts-step (λ a b. around f m a b [] d) x u,
      over_shuffles-nil_left (λ z. over_shuffles (λ y. f (z ++ (m ∷ y))) (x ∷ u) d) [],
      sums_same (λ (e : List ℕ × List ℕ). around (λ w. f (x ∷ w)) m e.0 e.1 [] d) (λ e. around f m (x ∷ e.0) e.1 [] d) (λ e. first e.0 e.1) (word_cuts u),
    )
  where
    first : (a b : List ℕ) → around (λ w. f (x ∷ w)) m a b [] d ≡ around f m (x ∷ a) b [] d
    first a b =
        over_shuffles-nil_right (λ z. over_shuffles (λ y. f (x ∷ (z ++ (m ∷ y)))) b d) a
        ∙ sym (over_shuffles-nil_right (λ z. over_shuffles (λ y. f (z ++ (m ∷ y))) b d) (x ∷ a))
shuffles_at_letter f m (y ∷ c) d (x ∷ u) =
    over_shuffles-step f x u y (c ++ (m ∷ d))
    ∙ omega (
      arith,
      shuffles_at_letter (λ w. f (x ∷ w)) m (y ∷ c) d u,
      shuffles_at_letter (λ w. f (y ∷ w)) m c d (x ∷ u),
      over_word_cuts-step (λ a b. around f m a b (y ∷ c) d) x u,
      over_word_cuts-step (λ a b. around (λ w. f (y ∷ w)) m a b c d) x u,
      over_shuffles-nil_left (λ z. over_shuffles (λ t. f (z ++ (m ∷ t))) (x ∷ u) d) (y ∷ c),
      over_shuffles-nil_left (λ z. over_shuffles (λ t. f (y ∷ (z ++ (m ∷ t)))) (x ∷ u) d) c,
      sums_same (λ (e : List ℕ × List ℕ). around f m (x ∷ e.0) e.1 (y ∷ c) d) (λ e. around (λ w. f (x ∷ w)) m e.0 e.1 (y ∷ c) d + around (λ w. f (y ∷ w)) m (x ∷ e.0) e.1 c d)
          (λ e. over_shuffles-step (λ z. over_shuffles (λ t. f (z ++ (m ∷ t))) e.1 d) x e.0 y c) (word_cuts u),
      sums-add (λ (e : List ℕ × List ℕ). around (λ w. f (x ∷ w)) m e.0 e.1 (y ∷ c) d) (λ e. around (λ w. f (y ∷ w)) m (x ∷ e.0) e.1 c d) (word_cuts u),
    )
