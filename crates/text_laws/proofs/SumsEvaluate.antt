-- The expression of a value comes to the value.
use Rattle.std.proofs.Common.{◌≡◌, ◌≢◌, ℕ, zero, suc, ◌*◌, ◌<◌, ◌≤◌, Bool, true, false, if◌then◌else◌, Ok, Result, List, [], ◌∷◌, ◌++◌, length, refl, sym, ◌∙◌, ap, subst, arith, append_assoc, append-nil, unsigned_abs}
use Rattle.std.specs.Prelude.{◌==◌}
use Rattle.std.proofs.Math.IntN.{ℤ, pos, negsuc, ◌*ℤ◌, neg_ℤ, zero-*ℤ}
use Rattle.std.proofs.lemmas.Bool.{eqb-true}
use Rattle.std.proofs.lemmas.Int.{ints}
use Rattle.std.proofs.lemmas.List.{get_or_push, length_push}
use Rattle.hopf_num.specs.Fractions.{Ratio, IsFraction}
use Rattle.hopf_num.proofs.Ring.{*ℤ-pos_cancel}
use Rattle.basis_names.specs.declared.bases.BasisId.{BasisId}
use Rattle.realisations.specs.Combinations.{Combination, HasKey, term_at}
use Rattle.realisations.specs.Readings.{Terms}
use Rattle.hopf_laws.specs.Values.{Expansion, IsValue}
use Rattle.basis_routes.specs.declared.refusal.Refusal.{Refusal}
use Rattle.hopf_ops.specs.Operations.{RowOf, SumRow, QuotientRow}
use Rattle.hopf_ops.specs.declared.operator.Operator.TheVariants.{Plus, Minus}
use Rattle.session_grammar.specs.declared.expression.Expr.{Expr}
use Rattle.session_grammar.specs.declared.expression.Signed.{Signed}
use Rattle.session_grammar.specs.Grammar.{factor, signed, sum_of}
use Rattle.session_grammar.specs.declared.expression.Expr.TheVariants as e
use Rattle.session_evaluation.specs.Names.{Names}
use Rattle.session_evaluation.specs.Evaluation.{Evaluates, Signs, sum, product, Folds, done, step, steps_of_sum}
use Rattle.value_texts.specs.Text.{IsCoefficient}
use Rattle.text_laws.proofs.PartialSums.{over_bases, AreOver, IsPart, over_front, part_exists, part_of_term, part_of_value, part_once, coefficient_factor}
use Rattle.text_laws.proofs.SpelledTerms.{are_spelled, SpelledTerm, AreOf, none, one_more, is_negative, unsigned, later_parts, sum_with, number_by, number_sum}
use Rattle.text_laws.proofs.SumRows.{signed_number, sum_row}
use Rattle.text_laws.proofs.TermsEvaluate.{number_evaluates, term_evaluates}
use Rattle.text_laws.proofs.TermValues.{over, term_value, IsTerm, whole_fraction, quotient_row, negation_row}

-- Signs and absolute values.

signed_abs : (z : ℤ) → signed_number (is_negative z) (unsigned_abs z) ≡ z
signed_abs (pos n) = refl
signed_abs (negsuc n) = let one : 1 * suc n ≡ suc n = omega arith in ap (λ m. neg_ℤ (pos m)) one

pub abs-some : (z : ℤ) → z ≢ pos 0 → 1 ≤ unsigned_abs z
abs-some (pos zero) h = absurd (h refl)
abs-some (pos (suc n)) h = omega arith
abs-some (negsuc n) h = omega arith

-- the coefficient of a term is not 0
coefficient_nonzero : (num : ℤ) (den : ℕ) (r : Ratio) → IsCoefficient num den r → num ≢ pos 0 → r.num ≢ pos 0
coefficient_nonzero num den r is some zero_is =
    let product : num *ℤ pos r.den ≡ pos 0 *ℤ pos r.den = sym is.value ∙ ap (λ z. z *ℤ pos den) zero_is ∙ zero-*ℤ (pos den) ∙ sym (zero-*ℤ (pos r.den)) in
    some (*ℤ-pos_cancel num (pos 0) r.den is.lowest.positive product)

-- without its sign it is a term as well
unsigned_term : (bases : List BasisId) (r : Ratio) (key : List (List ℕ)) → IsTerm bases r key → IsTerm bases (over (unsigned_abs r.num) r.den) key
unsigned_term bases r key is = record {
  short = is.short;
  built = is.built;
  fraction = record { positive = is.fraction.positive; lowest = is.fraction.lowest; num_small = is.fraction.num_small; den_small = is.fraction.den_small };
  nonzero = λ e. let some = abs-some r.num is.nonzero in absurd (omega (arith, ints, e, some));
  indices = is.indices;
  degree = is.degree;
}

-- the last term of a list
last_term : (bases : List BasisId) (den : ℕ) (ts : Terms) (num : ℤ) (key : List (List ℕ)) (r : Ratio) → AreOver bases den (ts ++ (num, key) ∷ []) → IsCoefficient num den r → IsTerm bases r key
last_term bases den ts num key r are is =
    let at : term_at (ts ++ (num, key) ∷ []) (length ts) ≡ (num, key) = get_or_push ts (num, key) (pos 0, []) (length ts) refl in
    let lt : length ts < length (ts ++ (num, key) ∷ []) = omega (arith, length_push ts (num, key)) in
    let has : HasKey (ts ++ (num, key) ∷ []) key = (length ts, lt, ap (λ (t : ℤ × List (List ℕ)). t.1) at) in
    record {
      short = are.short;
      built = are.built;
      fraction = is.lowest;
      nonzero = coefficient_nonzero num den r is (λ e. are.terms.nonzero (length ts) lt (ap (λ (t : ℤ × List (List ℕ)). t.0) at ∙ e));
      indices = are.indices key has;
      degree = are.degrees key has;
    }

row_of_sign : (minus : Bool) (a b : Expansion) (r : Result Expansion Refusal) → SumRow minus a b r → RowOf (if minus then Minus else Plus) a b r
row_of_sign false a b r h = h
row_of_sign true a b r h = h

module _ (names : Names) where
  -- the first summand, with its sign
  first_signed : (bases : List BasisId) (z : ℤ) (d : ℕ) (key : List (List ℕ)) → IsTerm bases (record { num = z; den = d }) key
      → Signs (is_negative z) (Ok (term_value bases (over (unsigned_abs z) d) key)) (Ok (term_value bases (record { num = z; den = d }) key))
  first_signed bases (pos n) d key is = refl
  first_signed bases (negsuc n) d key is = (Ok (term_value bases (record { num = negsuc n; den = d }) key), negation_row bases n d key is, refl)

  -- one summand alone
  one_summand : (minus : Bool) (x : Expr) (a v : Expansion) → Evaluates names x (Ok a) → Signs minus (Ok a) (Ok v) → Evaluates names (sum_of (signed minus x ∷ [])) (Ok v)
  one_summand false x a v evaluates signs = subst (λ r. Evaluates names x r) (sym signs) evaluates
  one_summand true x a v evaluates signs = sum (signed true x) [] evaluates signs done

  -- summands
  summands : (minus : Bool) (x : Expr) (a b v : Expansion) (parts : List Signed) → Evaluates names x (Ok a) → Signs minus (Ok a) (Ok b) → Folds names (Ok b) (steps_of_sum parts) (Ok v) → (parts ≡ [] → b ≡ v)
      → Evaluates names (sum_of (signed minus x ∷ parts)) (Ok v)
  summands minus x a b v [] evaluates signs folds alone = one_summand minus x a v evaluates (subst (λ w. Signs minus (Ok a) (Ok w)) (alone refl) signs)
  summands minus x a b v (p ∷ parts) evaluates signs folds alone = sum (signed minus x) (p ∷ parts) evaluates signs folds

  module _ (basis : BasisId) (bases : List BasisId) (den : ℕ) where
    abbrev all_bases : List BasisId
    all_bases = basis ∷ bases

    -- a term behind others
    term_alone : (t : SpelledTerm) → IsTerm all_bases t.ratio (t.code ∷ t.codes)
        → Evaluates names (unsigned basis bases t) (Ok (term_value all_bases (over (unsigned_abs t.ratio.num) t.ratio.den) (t.code ∷ t.codes)))
    term_alone t is =
        term_evaluates names basis bases (unsigned_abs t.ratio.num) t.ratio.den t.code t.codes (unsigned_term all_bases t.ratio (t.code ∷ t.codes) is) (abs-some t.ratio.num is.nonzero)
        (are_spelled all_bases (t.code ∷ t.codes) is.built is.indices is.degree)

    -- the later terms, one by one
    later_evaluate : (ts us : Terms) (rs : List SpelledTerm) (c c' : Combination) → AreOver all_bases den (ts ++ us) → AreOf den us rs → IsPart all_bases den ts c → IsPart all_bases den (ts ++ us) c'
        → Folds names (Ok (over_bases all_bases c)) (steps_of_sum (later_parts basis bases rs)) (Ok (over_bases all_bases c'))
    later_evaluate ts [] [] c c' are none part part' =
        let same : c ≡ c' = part_once all_bases den ts c c' are.positive part (subst (λ us. IsPart all_bases den us c') (append-nil ts) part') in
        subst (λ x. Folds names (Ok (over_bases all_bases c)) [] (Ok (over_bases all_bases x))) same done
    later_evaluate ts [] (t ∷ rs) c c' are h part part' = elim h [ ]
    later_evaluate ts ((num, key) ∷ us) [] c c' are h part part' = elim h [ ]
    later_evaluate ts ((num, key) ∷ us) (t ∷ rs) c c' are (one_more is rest) part part' =
        let minus : Bool = is_negative t.ratio.num in
        let n : ℕ = unsigned_abs t.ratio.num in
        let codes : List (List ℕ) = t.code ∷ t.codes in
        let more : Terms = ts ++ (num, codes) ∷ [] in
        let regroup : more ++ us ≡ ts ++ (num, codes) ∷ us = append_assoc ts ((num, codes) ∷ []) us in
        let are_more : AreOver all_bases den (more ++ us) = subst (λ ws. AreOver all_bases den ws) (sym regroup) are in
        let over_more : AreOver all_bases den more = over_front all_bases den more us are_more in
        let next = part_exists all_bases den more over_more in
        let term : IsTerm all_bases t.ratio codes = last_term all_bases den ts num codes t.ratio over_more is in
        let same : signed_number minus n *ℤ pos den ≡ num *ℤ pos t.ratio.den = ap (λ z. z *ℤ pos den) (signed_abs t.ratio.num) ∙ is.value in
        let row = sum_row all_bases den ts num codes n t.ratio.den minus c next.0 part next.1 (unsigned_term all_bases t.ratio codes term) (coefficient_factor num den t.ratio is) same are.positive are.small over_more.terms.small in
        step {operand = Ok (term_value all_bases (over n t.ratio.den) codes)} {next = Ok (over_bases all_bases next.0)} (term_alone t term)
        (Ok (over_bases all_bases next.0), row_of_sign minus (over_bases all_bases c) (term_value all_bases (over n t.ratio.den) codes) (Ok (over_bases all_bases next.0)) row, refl)
        (later_evaluate more us rs next.0 c' are_more rest next.1 (subst (λ ws. IsPart all_bases den ws c') (sym regroup) part'))

  -- the terms of a value over some bases
  pub sum_evaluates : (basis : BasisId) (bases : List BasisId) (rank den : ℕ) (num : ℤ) (ts : Terms) (t : SpelledTerm) (rs : List SpelledTerm)
      → IsValue (over_bases (basis ∷ bases) (record { rank = rank; den = den; terms = (num, t.code ∷ t.codes) ∷ ts })) → IsCoefficient num den t.ratio → AreOf den ts rs
      → AreOver (basis ∷ bases) den ((num, t.code ∷ t.codes) ∷ ts)
      → Evaluates names (sum_with basis bases t rs) (Ok (over_bases (basis ∷ bases) (record { rank = rank; den = den; terms = (num, t.code ∷ t.codes) ∷ ts })))
  sum_evaluates basis bases rank den num ts t rs value is later are =
      summands (is_negative t.ratio.num) (unsigned basis bases t) (term_value all (over (unsigned_abs t.ratio.num) t.ratio.den) key) (term_value all t.ratio key) (over_bases all c) (later_parts basis bases rs)
      (term_alone basis bases den t term) (first_signed all t.ratio.num t.ratio.den key term) (later_evaluate basis bases den ((num, key) ∷ []) ts rs (term_value all t.ratio key).combination c are later first whole) (alone ts rs later whole)
    where
      all : List BasisId
      all = basis ∷ bases

      key : List (List ℕ)
      key = t.code ∷ t.codes

      c : Combination
      c = record { rank = rank; den = den; terms = (num, key) ∷ ts }

      term : IsTerm all t.ratio key
      term = last_term all den [] num key t.ratio (over_front all den ((num, key) ∷ []) ts are) is

      first : IsPart all den ((num, key) ∷ []) (term_value all t.ratio key).combination
      first = part_of_term all den num key t.ratio is term

      whole : IsPart all den ((num, key) ∷ ts) c
      whole = part_of_value all c value

      alone : (us : Terms) (qs : List SpelledTerm) → AreOf den us qs → IsPart all den ((num, key) ∷ us) c → later_parts basis bases qs ≡ [] → term_value all t.ratio key ≡ over_bases all c
      alone [] [] none part e = ap (λ x. over_bases all x) (part_once all den ((num, key) ∷ []) (term_value all t.ratio key).combination c are.positive first part)
      alone [] (q ∷ qs) h part e = elim h [ ]
      alone (u ∷ us) [] h part e = elim h [ ]
      alone (u ∷ us) (q ∷ qs) h part e = absurd (cc)

  -- a number that is not 0
  number_expression : (r : Ratio) → IsFraction r → r.num ≢ pos 0 → (whole : Bool) → (r.den == 1) ≡ whole → Evaluates names (number_by whole (unsigned_abs r.num) r.den) (Ok (term_value [] (over (unsigned_abs r.num) r.den) []))
  number_expression r is nonzero true ones =
      subst (λ d. Evaluates names (e.Number (unsigned_abs r.num)) (Ok (term_value [] (over (unsigned_abs r.num) d) []))) (sym (eqb-true r.den 1 ones)) (number_evaluates names (unsigned_abs r.num) (abs-some r.num nonzero))
  number_expression r is nonzero false ones =
      let n : ℕ = unsigned_abs r.num in
      let q = term_value [] (over n r.den) [] in
      let some : 1 ≤ n = abs-some r.num nonzero in
      let divided : QuotientRow (term_value [] (over n 1) []) (term_value [] (over r.den 1) []) (Ok q) =
      quotient_row n r.den some (whole_fraction n is.num_small) (whole_fraction r.den is.den_small) is.positive (record { positive = is.positive; lowest = is.lowest; num_small = is.num_small; den_small = is.den_small }) in
      product (factor false (e.Number n)) (factor true (e.Number r.den) ∷ []) (number_evaluates names n some)
      (step {a = term_value [] (over n 1) []} {operand = Ok (term_value [] (over r.den 1) [])} {next = Ok q} (number_evaluates names r.den is.positive) (Ok q, divided, refl) done)

  pub number_sum_evaluates : (rank den : ℕ) (num : ℤ) (r : Ratio) → IsValue (over_bases [] (record { rank = rank; den = den; terms = (num, []) ∷ [] })) → IsCoefficient num den r → AreOver [] den ((num, []) ∷ [])
      → Evaluates names (number_sum r) (Ok (over_bases [] (record { rank = rank; den = den; terms = (num, []) ∷ [] })))
  number_sum_evaluates rank den num r value is are =
      let c : Combination = record { rank = rank; den = den; terms = (num, []) ∷ [] } in
      let term : IsTerm [] r [] = last_term [] den [] num [] r are is in
      let same : (term_value [] r []).combination ≡ c = part_once [] den ((num, []) ∷ []) (term_value [] r []).combination c are.positive (part_of_term [] den num [] r is term) (part_of_value [] c value) in
      one_summand (is_negative r.num) (number_by (r.den == 1) (unsigned_abs r.num) r.den) (term_value [] (over (unsigned_abs r.num) r.den) []) (over_bases [] c)
      (number_expression r is.lowest term.nonzero (r.den == 1) refl) (subst (λ x. Signs (is_negative r.num) (Ok (term_value [] (over (unsigned_abs r.num) r.den) [])) (Ok (over_bases [] x))) same (first_signed [] r.num r.den [] term))
