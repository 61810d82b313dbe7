-- The norms of products of monomial quasi-symmetric functions, and of coproducts.
use Rattle.std.proofs.Common.{◌≡◌, ℕ, zero, suc, ◌+◌, ◌*◌, ◌^◌, ◌<◌, ◌≤◌, List, [], ◌∷◌, length, refl, ap, subst, arith, ◌∙◌, pow-suc}
use Rattle.std.proofs.Math.Pow.{pow_mono, pow-add}
use Rattle.std.specs.List.{All, sum}
use Rattle.std.proofs.Math.IntN.{ℤ, pos}
use Rattle.std.proofs.lemmas.List.Elements.{All-map}
use Rattle.basis_names.specs.declared.bases.BasisId.TheVariants.{QsymM, QsymF}
use Rattle.coproduct_laws.proofs.MonomialRule.{monomial_rule}
use Rattle.coproduct_laws.proofs.ValuePairs.{suc-le-pow_two}
use Rattle.coproduct_laws.proofs.WordCuts.{length-word_cuts}
use Rattle.compositions.specs.QuasiShuffles.{quasi_shuffles, AreShuffles, IsKeyOf, IsProduct}
use Rattle.compositions.proofs.Existence.{IsCompositionOf, terms_once, norm_of-once, weighed-once, shuffles_compositions}
use Rattle.compositions.proofs.Parts.{length-le-sum, shuffles_bound}
use Rattle.compositions.proofs.Readings.{product_answer}
use Rattle.coproduct_laws.specs.Coproducts.{terms_of_pairs}
use Rattle.coproduct_rules.specs.DegreeCuts.{front_of_degree, rest_past_degree, degree_cuts}
use Rattle.coproduct_rules.proofs.DegreePairs.{fundamental_rule}
use Rattle.std.proofs.lemmas.List.FromFn.{length-map-range_with_len}
use Rattle.index_rules.specs.Rules.{IsAnswerWithin}
use Rattle.index_rules.proofs.PairAnswers.{answer_within, pairs_within}
use Rattle.index_rules.proofs.UniqueAnswers.{same_answers}
use Rattle.linear_combos.specs.Combos.{Gathers, IsSumOfTerms}
use Rattle.linear_combos.proofs.Gathering.{gathered}
use Rattle.realisations.specs.Answers.{IsAnswer}
use Rattle.realisations.specs.Codes.{Code, Key}
use Rattle.realisations.specs.Combinations.{Combination, HasKey, norm_of, term_at}
use Rattle.realisations.specs.IndexKinds.{IsComposition}
use Rattle.realisations.specs.Readings.{Terms, applied, coproduct, product, element}
use Rattle.realisations.specs.Words.{word_cuts}

-- 3 ^ n is at most 4 ^ n
pow_three-le : (n : ℕ) → 3 ^ n ≤ 2 ^ (2 * n)
pow_three-le zero = omega arith
pow_three-le (suc n) =
    let e : 2 * suc n ≡ 2 + 2 * n = omega arith in
    let four : 2 ^ (2 * suc n) ≡ 4 * 2 ^ (2 * n) = ap (λ m. 2 ^ m) e ∙ pow-add 2 2 (2 * n) in
    omega (arith, pow-suc 3 n, four, pow_three-le n)

pow_small : (m : ℕ) → m ≤ 24 → 2 ^ m ≤ 2 ^ 24
pow_small m h = pow_mono h

-- each word once has one code, and is a composition of n
length-once : (ws : List Code) (i : ℕ) → i < length (terms_once ws) → length ((term_at (terms_once ws) i).1) ≡ 1
length-once ws i lt = All-map (λ (t : ℤ × Key). length t.1 ≡ 1) (λ w. (pos 1, w ∷ [])) ws (λ k d le. refl) i (pos 0, []) lt

keys-once : (n : ℕ) (ws : List Code) → All (IsCompositionOf n) ws → (key : Key) → HasKey (terms_once ws) key → IsKeyOf n key
keys-once n ws h key (i, lt, is) =
    subst (IsKeyOf n) is
    (All-map (λ (t : ℤ × Key). IsKeyOf n t.1) (λ w. (pos 1, w ∷ [])) ws (λ k d le. let c = h k d le in (_, refl, c.positive, c.size)) i (pos 0, []) lt)

shuffles_gathered : (j k : Code) (us : Terms) → IsComposition j → IsComposition k → Gathers 1 (terms_once (quasi_shuffles j k)) us → AreShuffles j k us
shuffles_gathered j k us hj hk g = record {
  weighs = λ weight. g.weighs weight ∙ weighed-once weight (quasi_shuffles j k);
  keys = λ key has. keys-once _ (quasi_shuffles j k) (shuffles_compositions j k hj hk) key (g.keys key has);
}

-- a product of monomial functions of degrees that add to n has norm at most 2^(2n)
pub product_within : (j k : List ℕ) (c : Combination) → IsComposition j → IsComposition k → sum j + sum k ≤ 12
    → IsAnswer (QsymM ∷ []) (sum j + sum k) (product (element QsymM j) (element QsymM k)) c → IsAnswerWithin 2 (QsymM ∷ []) (sum j + sum k) (product (element QsymM j) (element QsymM k)) c
product_within j k c hj hk le is =
    let ws = quasi_shuffles j k in
    let size = norm_of-once ws in
    let n = sum j + sum k in
    let few : length ws ≤ 3 ^ n = shuffles_bound n j k (omega (arith, length-le-sum j hj, length-le-sum k hk)) in
    let least : 3 ^ n ≤ 2 ^ (2 * n) = pow_three-le n in
    let most : 2 ^ (2 * n) ≤ 2 ^ 24 = pow_small (2 * n) (omega (arith, le)) in
    let g = gathered 1 (terms_once ws) (length-once ws) (omega (arith, size, few, least, most)) in
    let d : Combination = record { rank = 1; den = 1; terms = g.0 } in
    let sums : IsProduct j k d = record { rank = refl; whole = refl; terms = g.1.terms; norm = omega (arith, size, g.1.norm); shuffles = shuffles_gathered j k g.0 hj hk g.1 } in
    let same : c ≡ d = same_answers (QsymM ∷ []) n (product (element QsymM j) (element QsymM k)) c d (omega arith) is (product_answer j k d hj hk sums) in
    record { answer = is; norm = omega (arith, ap (λ (v : Combination). norm_of v.terms) same, g.1.norm, size, few, least) }

-- one more than a number of at most 12 is within 2 to its power, and has room
pub small_number : (m n : ℕ) → m ≤ suc n → n ≤ 12 → (m ≤ 2 ^ (1 * n)) × (m < 2 ^ 127)
small_number m n le small =
    let e : 1 * n ≡ n = omega arith in
    (omega (arith, suc-le-pow_two n, le, ap (λ k. 2 ^ k) e), omega (arith, le, small))

-- a coproduct of a fundamental function of degree n has as many
pub degree_cuts_within : (parts : Code) (c : Combination) → IsComposition parts → sum parts ≤ 12 → IsSumOfTerms 2 (terms_of_pairs (degree_cuts parts)) c
    → IsAnswerWithin 1 (QsymF ∷ QsymF ∷ []) (sum parts) (applied coproduct 0 (element QsymF parts)) c
degree_cuts_within parts c h le is =
    let size = length-map-range_with_len {X = Code × Code} (λ k. (front_of_degree k parts, rest_past_degree k parts)) 0 (suc (sum parts)) in
    let small = small_number (length (degree_cuts parts)) (sum parts) (omega (arith, size)) le in
    pairs_within QsymF parts (degree_cuts parts) (fundamental_rule parts h) 1 small.0 c is

-- a coproduct of a monomial function of degree n has norm at most n + 1
pub cuts_within : (parts : Code) (c : Combination) → IsComposition parts → sum parts ≤ 12 → IsAnswer (QsymM ∷ QsymM ∷ []) (sum parts) (applied coproduct 0 (element QsymM parts)) c
    → IsAnswerWithin 1 (QsymM ∷ QsymM ∷ []) (sum parts) (applied coproduct 0 (element QsymM parts)) c
cuts_within parts c h le is =
    let small = small_number (length (word_cuts parts)) (sum parts) (omega (arith, length-word_cuts parts, length-le-sum parts h)) le in
    answer_within QsymM parts (word_cuts parts) (monomial_rule parts h) 1 small.0 c small.1 is
