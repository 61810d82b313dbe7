-- The text of a value is read back.
use Rattle.std.proofs.Common.{◌≡◌, ℕ, suc, ◌≤◌, Ok, None, List, [], ◌∷◌, ◌++◌, refl, sym, ap, subst, arith}
use Rattle.std.specs.Prelude.{codes}
use Rattle.std.proofs.Math.IntN.{ℤ}
use Rattle.std.proofs.lemmas.Fmt.{decimal_digit}
use Rattle.hopf_num.specs.Fractions.{Ratio, IsFraction, fraction_text}
use Rattle.basis_names.specs.declared.bases.BasisId.{BasisId}
use Rattle.realisations.specs.Combinations.{AreTerms, HasKey}
use Rattle.realisations.specs.Indices.{AreIndices, total_degree}
use Rattle.realisations.specs.Readings.{Terms}
use Rattle.hopf_laws.specs.Bases.{AreBuilt, least_limit}
use Rattle.hopf_laws.specs.Values.{IsValue}
use Rattle.session_tokens.specs.declared.lexeme.Lexeme.{Lexeme}
use Rattle.session_grammar.specs.declared.expression.Expr.{Expr}
use Rattle.session_grammar.specs.declared.expression.Statement.TheVariants as s
use Rattle.session_grammar.specs.Parses.{IsOnlyStatement}
use Rattle.session_reading.specs.Parses.{IsAnswer, IsSound, reserved_name}
use Rattle.index_spellings.proofs.SpelledTokens.{StandFor}
use Rattle.session_evaluation.specs.Names.{Names}
use Rattle.session_evaluation.specs.Evaluation.{number}
use Rattle.value_texts.specs.Text.{first_sign, later_sign, term_text, IsCoefficient, AreLaterTerms, AreTermsIn, zero_text, none, one_more, scalar_text, terms_text}
use Rattle.text_laws.specs.ReadBack.{ReadBackLaw, IsReadBack, told_by}
use Rattle.text_laws.proofs.PartialSums.{over_bases, AreOver}
use Rattle.text_laws.proofs.SpelledTerms.{are_spelled, SpelledTerm, AreOf, none as no_terms, one_more as term_more, later_text, sum_lexemes, sum_with, number_lexemes, number_sum}
use Rattle.text_laws.proofs.SumsEvaluate.{sum_evaluates, number_sum_evaluates}
use Rattle.text_laws.proofs.TermValues.{over, whole_fraction}
use Rattle.text_laws.proofs.TextGrammar.{sum_statement, number_statement}
use Rattle.text_laws.proofs.TextSound.{IsFine, flawless, fine_sum, unreserved_sum, fine_number, unreserved_fraction}
use Rattle.text_laws.proofs.TextTokens.{AreTermTexts, sum_stands, fraction_stands, text_tokens}

-- a text that stands for lexemes of one statement in which nothing is refused
answered : (text : List ℕ) (ls : List Lexeme) (x : Expr) → StandFor text text ls → IsOnlyStatement ls (s.Print x) → IsFine ls → reserved_name ls ≡ None → IsAnswer text (Ok (s.Print x))
answered text ls x stands is fine unreserved =
    let (tokens, are, same) = text_tokens text ls stands in
    let sound : IsSound ls (s.Print x) = record { shallow = fine.shallow; statement = is; flawless = flawless ls fine unreserved } in
    record { tokens = tokens; are = are; answers = subst (λ us. IsSound us (s.Print x)) (sym same) sound }

-- a value's terms over its bases and its denominator
value_over : (bases : List BasisId) (rank den : ℕ) (ts : Terms) → IsValue (over_bases bases (record { rank = rank; den = den; terms = ts })) → AreOver bases den ts
value_over bases rank den ts is = record {
  short = is.short;
  built = is.built;
  positive = is.canonical.lowest.positive;
  small = is.canonical.lowest.small;
  terms = subst (λ n. AreTerms n ts) is.rank is.canonical.ordered;
  indices = is.indices;
  degrees = is.degrees;
}

module _ (basis : BasisId) (bases : List BasisId) (den : ℕ) where
  -- the later terms as they are spelled
  later_spelled : (ts : Terms) (text : List ℕ) → ((key : List (List ℕ)) → HasKey ts key → AreIndices (basis ∷ bases) key) → AreLaterTerms (basis ∷ bases) den ts text
      → (rs : List SpelledTerm) × AreOf den ts rs × (text ≡ later_text basis bases rs)
  later_spelled [] text indices none = ([], no_terms, refl)
  later_spelled ((num, []) ∷ ts) text indices h = absurd (indices [] (0, omega arith, refl))
  later_spelled ((num, code ∷ codes) ∷ ts) text indices (one_more {r = r} {text = more} is rest) =
      let (rs, are, same) = later_spelled ts more (λ key has. indices key (suc has.0, omega (arith, has.1), has.2)) rest in
      (record { ratio = r; code = code; codes = codes } ∷ rs, term_more is are, ap (λ us. later_sign r.num ++ term_text (basis ∷ bases) r (code ∷ codes) ++ us) same)

  -- each has a coefficient, and elements of the bases
  texts_of : (ts : Terms) (rs : List SpelledTerm) → AreBuilt (basis ∷ bases) → ((key : List (List ℕ)) → HasKey ts key → AreIndices (basis ∷ bases) key)
      → ((key : List (List ℕ)) → HasKey ts key → total_degree (basis ∷ bases) key ≤ least_limit (basis ∷ bases)) → AreOf den ts rs → AreTermTexts basis bases rs
  texts_of [] [] built indices degrees are = tt
  texts_of [] (t ∷ rs) built indices degrees are = elim are [ ]
  texts_of (u ∷ ts) [] built indices degrees are = elim are [ ]
  texts_of ((num, key) ∷ ts) (t ∷ rs) built indices degrees (term_more is rest) = (
    (is.lowest, are_spelled (basis ∷ bases) (t.code ∷ t.codes) built (indices (t.code ∷ t.codes) (0, omega arith, refl)) (degrees (t.code ∷ t.codes) (0, omega arith, refl))),
    texts_of ts rs built (λ k has. indices k (suc has.0, omega (arith, has.1), has.2)) (λ k has. degrees k (suc has.0, omega (arith, has.1), has.2)) rest,
  )

module _ (names : Names) where
  -- terms over some bases
  sum_read : (basis : BasisId) (bases : List BasisId) (rank den : ℕ) (num : ℤ) (key : List (List ℕ)) (ts : Terms) (r : Ratio) (text : List ℕ)
      → IsValue (over_bases (basis ∷ bases) (record { rank = rank; den = den; terms = (num, key) ∷ ts })) → IsCoefficient num den r → AreLaterTerms (basis ∷ bases) den ts text
      → IsReadBack names (first_sign r.num ++ term_text (basis ∷ bases) r key ++ text) (over_bases (basis ∷ bases) (record { rank = rank; den = den; terms = (num, key) ∷ ts }))
  sum_read basis bases rank den num [] ts r text value is later = absurd (value.indices [] (0, omega arith, refl))
  sum_read basis bases rank den num (code ∷ codes) ts r text value is later =
      let (rs, are, same) = later_spelled basis bases den ts text (λ k has. value.indices k (suc has.0, omega (arith, has.1), has.2)) later in
      let t : SpelledTerm = record { ratio = r; code = code; codes = codes } in
      let over_all = value_over (basis ∷ bases) rank den ((num, code ∷ codes) ∷ ts) value in
      let texts : AreTermTexts basis bases (t ∷ rs) = texts_of basis bases den ((num, code ∷ codes) ∷ ts) (t ∷ rs) over_all.built over_all.indices over_all.degrees (term_more is are) in
      let whole : List ℕ = first_sign r.num ++ term_text (basis ∷ bases) r (code ∷ codes) ++ later_text basis bases rs in
      let there : whole ≡ first_sign r.num ++ term_text (basis ∷ bases) r (code ∷ codes) ++ text = ap (λ us. first_sign r.num ++ term_text (basis ∷ bases) r (code ∷ codes) ++ us) (sym same) in
      record {
        expression = sum_with basis bases t rs;
        answer = subst (λ us. IsAnswer us (Ok (s.Print (sum_with basis bases t rs)))) there
            (answered whole (sum_lexemes basis bases t rs) (sum_with basis bases t rs) (sum_stands basis bases t rs texts whole) (sum_statement basis bases t rs) (fine_sum basis bases t rs texts) (unreserved_sum basis bases t rs));
        evaluates = sum_evaluates names basis bases rank den num ts t rs value is are over_all;
        same_text = terms_text is later;
      }

  number_answered : (r : Ratio) → IsFraction r → IsAnswer (fraction_text r) (Ok (s.Print (number_sum r)))
  number_answered r is = answered (fraction_text r) (number_lexemes r) (number_sum r) (fraction_stands (fraction_text r) r is) (number_statement r) (fine_number r is) (unreserved_fraction r)

  -- a scalar that is not 0
  number_read : (rank den : ℕ) (num : ℤ) (key : List (List ℕ)) (r : Ratio) → IsValue (over_bases [] (record { rank = rank; den = den; terms = (num, key) ∷ [] })) → IsCoefficient num den r
      → IsReadBack names (fraction_text r) (over_bases [] (record { rank = rank; den = den; terms = (num, key) ∷ [] }))
  number_read rank den num (code ∷ key) r value is = absurd (value.indices (code ∷ key) (0, omega arith, refl))
  number_read rank den num [] r value is = record {
    expression = number_sum r;
    answer = number_answered r is.lowest;
    evaluates = number_sum_evaluates names rank den num r value is (value_over [] rank den ((num, []) ∷ []) value);
    same_text = scalar_text is;
  }

  zero_answered : IsAnswer (codes "0") (Ok (s.Print (number_sum (over 0 1))))
  zero_answered =
      let digit : fraction_text (over 0 1) ≡ codes "0" = ap (λ us. us ++ []) (decimal_digit 0 (omega arith)) in
      subst (λ us. IsAnswer us (Ok (s.Print (number_sum (over 0 1))))) digit (number_answered (over 0 1) (whole_fraction 0 (omega arith)))

  terms_read : (rank den : ℕ) (bases : List BasisId) (ts : Terms) (text : List ℕ) → IsValue (over_bases bases (record { rank = rank; den = den; terms = ts })) → AreTermsIn den bases ts text
      → IsReadBack names text (told_by ts (over_bases bases (record { rank = rank; den = den; terms = ts })))
  terms_read rank den bases ts text value zero_text = record { expression = number_sum (over 0 1); answer = zero_answered; evaluates = number; same_text = zero_text }
  terms_read rank den bases ts text value (scalar_text {num = num} {key = key} {r = r} is) = number_read rank den num key r value is
  terms_read rank den bases ts text value (terms_text {basis = basis} {bases = more} {num = num} {key = key} {ts = us} {r = r} {text = later} is rest) = sum_read basis more rank den num key us r later value is rest

pub read_back : ReadBackLaw
read_back names v text is h = terms_read names v.combination.rank v.combination.den v.bases v.combination.terms text is h
