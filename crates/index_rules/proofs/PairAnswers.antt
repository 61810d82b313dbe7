-- The answers of coproduct rules that list pairs, and the bounds of their norms.
use Rattle.std.proofs.Common.{◌≡◌, ℕ, zero, suc, ◌*◌, ◌^◌, ◌<◌, ◌≤◌, List, [], ◌∷◌, map, length, inl, inr, refl, sym, ◌∙◌, ap, subst, arith, unsigned_abs}
use Rattle.std.proofs.Math.IntN.{ℤ, pos}
use Rattle.std.proofs.lemmas.Int.{ints}
use Rattle.std.proofs.lemmas.List.Sums.{sum_by-cons}
use Rattle.basis_names.specs.declared.bases.BasisId.{BasisId}
use Rattle.coproduct_laws.specs.AddedPairs.{AddsPairs, IsPairOf}
use Rattle.coproduct_laws.specs.Coproducts.{IsCoproductRule, terms_of_pairs}
use Rattle.coproduct_laws.proofs.AddedPairs.{answers}
use Rattle.index_rules.specs.Rules.{IsAnswerWithin}
use Rattle.index_rules.proofs.UniqueAnswers.{same_answers}
use Rattle.linear_combos.specs.Combos.{IsSumOfTerms}
use Rattle.linear_combos.proofs.Edits.{lowest_one}
use Rattle.linear_combos.proofs.Gathering.{gathered}
use Rattle.realisations.specs.Answers.{IsAnswer}
use Rattle.realisations.specs.Codes.{Code, Key}
use Rattle.realisations.specs.Combinations.{Combination, IsCanonical, HasKey, norm_of, term_at, weighed}
use Rattle.realisations.specs.Indices.{degree_of}
use Rattle.realisations.specs.Lists.{int_sum}
use Rattle.realisations.specs.Readings.{applied, coproduct, element}

-- the norm of the tensors of pairs is their number
pub norm_of-pairs : (pairs : List (Code × Code)) → norm_of (terms_of_pairs pairs) ≡ length pairs
norm_of-pairs [] = refl
norm_of-pairs (e ∷ pairs) = omega (arith, norm_of-pairs pairs, sum_by-cons (λ (t : ℤ × Key). unsigned_abs t.0) (pos 1, e.0 ∷ e.1 ∷ []) (terms_of_pairs pairs))

weighed-pairs : (weight : Key → ℤ) (pairs : List (Code × Code)) → weighed weight (terms_of_pairs pairs) ≡ int_sum (map (λ e. weight (e.0 ∷ e.1 ∷ [])) pairs)
weighed-pairs weight [] = refl
weighed-pairs weight (e ∷ pairs) = omega (arith, ints, weighed-pairs weight pairs)

-- their keys are the pairs
key-pairs : (pairs : List (Code × Code)) (key : Key) → HasKey (terms_of_pairs pairs) key → IsPairOf pairs key
key-pairs [] key has = absurd (omega (arith, has.1))
key-pairs (e ∷ pairs) key (zero, lt, is) = inl (sym is)
key-pairs (e ∷ pairs) key (suc i, lt, is) = inr (key-pairs pairs key (i, omega (arith, lt), is))

length-pairs : (pairs : List (Code × Code)) (i : ℕ) → i < length (terms_of_pairs pairs) → length ((term_at (terms_of_pairs pairs) i).1) ≡ 2
length-pairs [] i lt = absurd (omega (arith, lt))
length-pairs (e ∷ pairs) zero lt = refl
length-pairs (e ∷ pairs) (suc i) lt = length-pairs pairs i (omega (arith, lt))

module _ (basis : BasisId) (code : Code) (pairs : List (Code × Code)) (rule : IsCoproductRule basis code pairs) where
  -- the sum of the tensors of the pairs of a coproduct rule is its answer
  answer_of_pairs : (c : Combination) → IsSumOfTerms 2 (terms_of_pairs pairs) c → IsAnswer (basis ∷ basis ∷ []) (degree_of basis code) (applied coproduct 0 (element basis code)) c
  answer_of_pairs c is =
      let canonical : IsCanonical c.rank c.den c.terms =
      subst (λ r. IsCanonical r c.den c.terms) (sym is.rank_is) (subst (λ d. IsCanonical 2 d c.terms) (sym is.whole) (record { ordered = is.gathers.terms; lowest = lowest_one c.terms })) in
      let adds : AddsPairs [] c.terms pairs = record {
        weighs = λ weight. is.gathers.weighs weight ∙ weighed-pairs weight pairs ∙ omega (arith, ints);
        keys = λ key has. inr (key-pairs pairs key (is.gathers.keys key has));
      } in
      answers basis code pairs c rule canonical is.rank_is is.whole (omega (arith, is.gathers.norm, norm_of-pairs pairs)) adds

  module _ (growth : ℕ) (few : length pairs ≤ 2 ^ (growth * degree_of basis code)) where
    -- within the bound of their number
    pub pairs_within : (c : Combination) → IsSumOfTerms 2 (terms_of_pairs pairs) c → IsAnswerWithin growth (basis ∷ basis ∷ []) (degree_of basis code) (applied coproduct 0 (element basis code)) c
    pairs_within c is = record { answer = answer_of_pairs c is; norm = omega (arith, is.gathers.norm, norm_of-pairs pairs, few) }

    -- and so is every answer of the rule, since there is one alone
    pub answer_within : (c : Combination) → length pairs < 2 ^ 127 → IsAnswer (basis ∷ basis ∷ []) (degree_of basis code) (applied coproduct 0 (element basis code)) c
        → IsAnswerWithin growth (basis ∷ basis ∷ []) (degree_of basis code) (applied coproduct 0 (element basis code)) c
    answer_within c small is =
        let g = gathered 2 (terms_of_pairs pairs) (length-pairs pairs) (omega (arith, norm_of-pairs pairs, small)) in
        let d : Combination = record { rank = 2; den = 1; terms = g.0 } in
        let sum : IsSumOfTerms 2 (terms_of_pairs pairs) d = record { rank_is = refl; whole = refl; gathers = g.1 } in
        let same : c ≡ d = same_answers (basis ∷ basis ∷ []) (degree_of basis code) (applied coproduct 0 (element basis code)) c d (omega arith) is (answer_of_pairs d sum) in
        record { answer = is; norm = omega (arith, ap (λ (v : Combination). norm_of v.terms) same, g.1.norm, norm_of-pairs pairs, few) }
