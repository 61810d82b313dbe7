-- The law of existence: the product of two elements has a combination that is its answer.
use Rattle.std.proofs.Common.{◌≡◌, ℕ, ◌+◌, ◌^◌, ◌<◌, ◌≤◌, List, [], ◌∷◌, map, length, refl, subst, ◌∙◌, arith, unsigned_abs}
use Rattle.std.proofs.Math.IntN.{ℤ, pos}
use Rattle.std.proofs.lemmas.Int.{ints}
use Rattle.std.specs.List.{sum, All}
use Rattle.std.proofs.lemmas.List.Elements.{All-nil, All-cons, All-append, All-map}
use Rattle.std.proofs.lemmas.List.Sums.{sum_by-cons}
use Rattle.realisations.specs.Answers.{IsAnswer}
use Rattle.realisations.specs.Combinations.{Combination, HasKey, norm_of, term_at, weighed}
use Rattle.realisations.specs.IndexKinds.{IsComposition}
use Rattle.realisations.specs.Lists.{int_sum}
use Rattle.realisations.specs.Readings.{Terms, product, element}
use Rattle.basis_names.specs.declared.bases.BasisId.TheVariants.{QsymM}
use Rattle.linear_combos.specs.Combos.{Gathers}
use Rattle.linear_combos.proofs.Gathering.{gathered}
use Rattle.compositions.specs.QuasiShuffles.{quasi_shuffles, AreShuffles, IsProduct, IsKeyOf}
use Rattle.compositions.proofs.Parts.{length-le-sum, shuffles_bound}
use Rattle.compositions.proofs.Readings.{product_answer}

-- a composition of n
pub record IsCompositionOf (n : ℕ) (w : List ℕ) : Type 0 where
  pub positive : IsComposition w
  pub size : sum w ≡ n

-- one composition alone
one_composition : (n : ℕ) (w : List ℕ) → IsComposition w → sum w ≡ n → All (IsCompositionOf n) (w ∷ [])
one_composition n w h e = All-cons (IsCompositionOf n) w [] (record { positive = h; size = e }) (All-nil (IsCompositionOf n))

-- a part before a composition
part_before : (n m a : ℕ) (w : List ℕ) → 0 < a → a + n ≡ m → IsCompositionOf n w → IsCompositionOf m (a ∷ w)
part_before n m a w lt e c = record { positive = (lt, c.positive); size = omega (arith, sum_by-cons (λ x. x) a w) }

-- a part before each of some compositions
part_before_each : (n m a : ℕ) → 0 < a → a + n ≡ m → (ws : List (List ℕ)) → All (IsCompositionOf n) ws → All (IsCompositionOf m) (map (λ w. a ∷ w) ws)
part_before_each n m a lt e ws h = All-map (IsCompositionOf m) (λ w. a ∷ w) ws (λ k d le. part_before n m a _ lt e (h k d le))

-- each quasi-shuffle is a composition of the sum of the sizes
pub shuffles_compositions : (j k : List ℕ) → IsComposition j → IsComposition k → All (IsCompositionOf (sum j + sum k)) (quasi_shuffles j k)
shuffles_compositions [] k hj hk = one_composition _ k hk (omega arith)
shuffles_compositions (a ∷ j) [] hj hk = one_composition _ (a ∷ j) hj (omega arith)
shuffles_compositions (a ∷ j) (b ∷ k) hj hk =
    let left = sum_by-cons (λ x. x) a j in
    let right = sum_by-cons (λ x. x) b k in
    let n = sum (a ∷ j) + sum (b ∷ k) in
    All-append (IsCompositionOf n) _ _
    (All-append (IsCompositionOf n) _ _
    (part_before_each _ n a hj.0 (omega arith) _ (shuffles_compositions j (b ∷ k) hj.1 hk))
    (part_before_each _ n b hk.0 (omega arith) _ (shuffles_compositions (a ∷ j) k hj hk.1)))
    (part_before_each _ n (a + b) (omega (arith, hj.0)) (omega arith) _ (shuffles_compositions j k hj.1 hk.1))

-- each word once, as terms
abbrev pub terms_once : List (List ℕ) → Terms
terms_once ws = map (λ w. (pos 1, w ∷ [])) ws

-- their norm is the number of words
pub norm_of-once : (ws : List (List ℕ)) → norm_of (terms_once ws) ≡ length ws
norm_of-once [] = refl
norm_of-once (w ∷ ws) = omega (arith, sum_by-cons (λ (t : ℤ × List (List ℕ)). unsigned_abs t.0) (pos 1, w ∷ []) (terms_once ws), norm_of-once ws)

-- they weigh the sum of the weights of the words
pub weighed-once : (weight : List (List ℕ) → ℤ) (ws : List (List ℕ)) → weighed weight (terms_once ws) ≡ int_sum (map (λ w. weight (w ∷ [])) ws)
weighed-once weight [] = refl
weighed-once weight (w ∷ ws) = omega (arith, ints, weighed-once weight ws)

-- each of them has one code
length-once : (ws : List (List ℕ)) → (i : ℕ) → i < length (terms_once ws) → length ((term_at (terms_once ws) i).1) ≡ 1
length-once ws i lt = All-map (λ (t : ℤ × List (List ℕ)). length t.1 ≡ 1) (λ w. (pos 1, w ∷ [])) ws (λ k d le. refl) i (pos 0, []) lt

-- the keys of compositions of n, each once
keys-once : (n : ℕ) (ws : List (List ℕ)) → All (IsCompositionOf n) ws → (key : List (List ℕ)) → HasKey (terms_once ws) key → IsKeyOf n key
keys-once n ws h key (i, lt, is) =
    subst (IsKeyOf n) is
    (All-map (λ (t : ℤ × List (List ℕ)). IsKeyOf n t.1) (λ w. (pos 1, w ∷ [])) ws (λ k d le. let c = h k d le in (_, refl, c.positive, c.size)) i (pos 0, []) lt)

-- what gathers the quasi-shuffles is their sum
shuffles_gathered : (j k : List ℕ) (us : Terms) → IsComposition j → IsComposition k → Gathers 1 (terms_once (quasi_shuffles j k)) us → AreShuffles j k us
shuffles_gathered j k us hj hk g = record {
  weighs = λ weight. g.weighs weight ∙ weighed-once weight (quasi_shuffles j k);
  keys = λ key has. keys-once _ (quasi_shuffles j k) (shuffles_compositions j k hj hk) key (g.keys key has);
}

-- the product of two elements has a combination that is its answer
pub product_exists : (j k : List ℕ) → IsComposition j → IsComposition k → sum j + sum k ≤ 12
    → (c : Combination) × IsAnswer (QsymM ∷ []) (sum j + sum k) (product (element QsymM j) (element QsymM k)) c
product_exists j k hj hk le =
    let ws = quasi_shuffles j k in
    let size = norm_of-once ws in
    let few : length ws ≤ 3 ^ 12 = shuffles_bound 12 j k (omega (arith, length-le-sum j hj, length-le-sum k hk)) in
    let g = gathered 1 (terms_once ws) (length-once ws) (omega (arith, size)) in
    let c : Combination = record { rank = 1; den = 1; terms = g.0 } in
    let is : IsProduct j k c = record { rank = refl; whole = refl; terms = g.1.terms; norm = omega (arith, size, g.1.norm); shuffles = shuffles_gathered j k g.0 hj hk g.1 } in
    (c, product_answer j k c hj hk is)
