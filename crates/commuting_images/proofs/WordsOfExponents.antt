-- The words that become a monomial once letters commute: their cuts are pairs of such words, for the cuts of the exponents. So commuting images multiply (Gelfand, Krob, Lascoux, Leclerc, Retakh, Thibon 1995).
use Rattle.std.proofs.Common.{◌≡◌, ℕ, zero, suc, ◌+◌, List, [], ◌∷◌, map, replicate, refl, sym, ◌∙◌, ap, arith}
use Rattle.realisations.specs.Exponents.{exponent_cuts, number_cuts}
use Rattle.realisations.specs.Words.{shuffles, words_from, words_of}
use Rattle.realisations.proofs.Sums.{sums, sums-flat_map, sums-map, sums_same, over_cuts, over_cuts-suc}
use Rattle.coproduct_laws.proofs.Shuffling.{over_shuffles}
use Rattle.coproduct_rules.proofs.ShuffleCuts.{over_word_cuts, over_word_cuts-step, over_parts, cuts_of_shuffles}
use Rattle.coproduct_rules.proofs.DoubleSums.{sums_swap}

-- the cuts of a block of equal letters
cuts_of_block : (h : List ℕ → List ℕ → ℕ) (n j : ℕ) → over_word_cuts h (replicate n j) ≡ over_cuts n (λ x y. h (replicate x j) (replicate y j))
cuts_of_block h zero j = refl
cuts_of_block h (suc n) j =
    over_word_cuts-step h j (replicate n j)
    ∙ ap (λ m. h [] (j ∷ replicate n j) + m) (cuts_of_block (λ a b. h (j ∷ a) b) n j)
    ∙ sym (over_cuts-suc n (λ x y. h (replicate x j) (replicate y j)))

-- the sum of a function over the pairs of words from a letter on, for each cut of the exponents
abbrev over_pairs : (List ℕ → List ℕ → ℕ) → ℕ → List ℕ → List ℕ → ℕ
over_pairs h j a b = sums (λ u. sums (λ v. h u v) (words_from j b)) (words_from j a)

-- a first exponent more on both sides: a block among the words of each
pairs-step : (h : List ℕ → List ℕ → ℕ) (j x y : ℕ) (a b : List ℕ)
    → over_pairs h j (x ∷ a) (y ∷ b) ≡ over_pairs (λ c d. over_parts h (replicate x j) (replicate y j) c d) (suc j) a b
pairs-step h j x y a b =
    sums-flat_map (λ u. sums (λ v. h u v) (words_from j (y ∷ b))) (λ w. shuffles (replicate x j) w) (words_from (suc j) a)
    ∙ sums_same (λ c. over_shuffles (λ u. sums (λ v. h u v) (words_from j (y ∷ b))) (replicate x j) c)
    (λ c. sums (λ d. over_parts h (replicate x j) (replicate y j) c d) (words_from (suc j) b)) inner (words_from (suc j) a)
  where
    inner : (c : List ℕ) → over_shuffles (λ u. sums (λ v. h u v) (words_from j (y ∷ b))) (replicate x j) c
        ≡ sums (λ d. over_parts h (replicate x j) (replicate y j) c d) (words_from (suc j) b)
    inner c =
        sums_same (λ u. sums (λ v. h u v) (words_from j (y ∷ b))) (λ u. sums (λ d. over_shuffles (λ v. h u v) (replicate y j) d) (words_from (suc j) b))
        (λ u. sums-flat_map (λ v. h u v) (λ w. shuffles (replicate y j) w) (words_from (suc j) b)) (shuffles (replicate x j) c)
        ∙ sums_swap (λ u d. over_shuffles (λ v. h u v) (replicate y j) d) (shuffles (replicate x j) c) (words_from (suc j) b)

-- the cuts of the words from a letter on
cuts_from : (h : List ℕ → List ℕ → ℕ) (j : ℕ) (p : List ℕ) → sums (λ w. over_word_cuts h w) (words_from j p) ≡ sums (λ (c : List ℕ × List ℕ). over_pairs h j c.0 c.1) (exponent_cuts p)
cuts_from h j [] = omega arith
cuts_from h j (n ∷ p) =
    let g : ℕ → ℕ → List ℕ → List ℕ → ℕ = λ x y c d. over_parts h (replicate x j) (replicate y j) c d in
    sums-flat_map (λ w. over_word_cuts h w) (λ w. shuffles (replicate n j) w) (words_from (suc j) p)
    ∙ sums_same (λ w. over_shuffles (λ v. over_word_cuts h v) (replicate n j) w) (λ w. over_cuts n (λ x y. over_word_cuts (g x y) w))
    (λ w. cuts_of_shuffles h (replicate n j) w ∙ cuts_of_block (λ a b. over_word_cuts (λ c d. over_parts h a b c d) w) n j) (words_from (suc j) p)
    ∙ sums_swap (λ w (e : ℕ × ℕ). over_word_cuts (g e.0 e.1) w) (words_from (suc j) p) (number_cuts n)
    ∙ sums_same (λ (e : ℕ × ℕ). sums (λ w. over_word_cuts (g e.0 e.1) w) (words_from (suc j) p)) (λ (e : ℕ × ℕ). sums (λ (c : List ℕ × List ℕ). over_pairs h j (e.0 ∷ c.0) (e.1 ∷ c.1)) (exponent_cuts p))
    (λ e. cuts_from (g e.0 e.1) (suc j) p
    ∙ sums_same (λ (c : List ℕ × List ℕ). over_pairs (g e.0 e.1) (suc j) c.0 c.1) (λ (c : List ℕ × List ℕ). over_pairs h j (e.0 ∷ c.0) (e.1 ∷ c.1)) (λ c. sym (pairs-step h j e.0 e.1 c.0 c.1)) (exponent_cuts p)) (number_cuts n)
    ∙ sums_same (λ (e : ℕ × ℕ). sums (λ (c : List ℕ × List ℕ). over_pairs h j (e.0 ∷ c.0) (e.1 ∷ c.1)) (exponent_cuts p))
    (λ (e : ℕ × ℕ). sums (λ (c : List ℕ × List ℕ). over_pairs h j c.0 c.1) (map (λ (c : List ℕ × List ℕ). (e.0 ∷ c.0, e.1 ∷ c.1)) (exponent_cuts p)))
    (λ e. sym (sums-map (λ (c : List ℕ × List ℕ). over_pairs h j c.0 c.1) (λ (c : List ℕ × List ℕ). (e.0 ∷ c.0, e.1 ∷ c.1)) (exponent_cuts p))) (number_cuts n)
    ∙ sym (sums-flat_map (λ (c : List ℕ × List ℕ). over_pairs h j c.0 c.1) (λ (e : ℕ × ℕ). map (λ (c : List ℕ × List ℕ). (e.0 ∷ c.0, e.1 ∷ c.1)) (exponent_cuts p)) (number_cuts n))

-- the cuts of the words of a monomial
pub cuts_of_words : (h : List ℕ → List ℕ → ℕ) (p : List ℕ)
    → sums (λ w. over_word_cuts h w) (words_of p) ≡ sums (λ (c : List ℕ × List ℕ). sums (λ u. sums (λ v. h u v) (words_of c.1)) (words_of c.0)) (exponent_cuts p)
cuts_of_words h p = cuts_from h 1 p
