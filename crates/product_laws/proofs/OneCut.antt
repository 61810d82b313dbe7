-- Sums over the cuts of a word.
use Rattle.std.proofs.Common.{◌≡◌, ℕ, zero, suc, List, [], ◌∷◌, map, length, take, drop, ◌∙◌, arith}
use Rattle.realisations.specs.Words.{word_cuts}
use Rattle.realisations.proofs.Sums.{sums, sums-map, sums_none}

-- a function of two words that is 0 unless the first one has m letters sums to its value at the cut after m letters
pub one_cut : (m : ℕ) (f : List ℕ → List ℕ → ℕ) → ((u v : List ℕ) → (length u ≡ m → ⊥) → f u v ≡ 0) → (p : List ℕ)
    → sums (λ (c : List ℕ × List ℕ). f c.0 c.1) (word_cuts p) ≡ f (take m p) (drop m p)
one_cut zero f none [] = omega arith
one_cut (suc m) f none [] = omega arith
one_cut zero f none (x ∷ p) =
    let rest : sums (λ (c : List ℕ × List ℕ). f c.0 c.1) (map (λ (c : List ℕ × List ℕ). (x ∷ c.0, c.1)) (word_cuts p)) ≡ 0 =
    sums-map (λ (c : List ℕ × List ℕ). f c.0 c.1) (λ (c : List ℕ × List ℕ). (x ∷ c.0, c.1)) (word_cuts p)
    ∙ sums_none (λ (c : List ℕ × List ℕ). f (x ∷ c.0) c.1) (λ (c : List ℕ × List ℕ). none (x ∷ c.0) c.1 (λ e. absurd (cc))) (word_cuts p) in
    omega (arith, rest)
one_cut (suc m) f none (x ∷ p) =
    let rest : sums (λ (c : List ℕ × List ℕ). f c.0 c.1) (map (λ (c : List ℕ × List ℕ). (x ∷ c.0, c.1)) (word_cuts p)) ≡ f (x ∷ take m p) (drop m p) =
    sums-map (λ (c : List ℕ × List ℕ). f c.0 c.1) (λ (c : List ℕ × List ℕ). (x ∷ c.0, c.1)) (word_cuts p)
    ∙ one_cut m (λ u v. f (x ∷ u) v) (λ u v k. none (x ∷ u) v (λ e. k (omega (arith, e)))) p in
    omega (arith, rest, none [] (x ∷ p) (λ e. absurd (cc)))
