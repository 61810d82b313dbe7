-- The expression of a term comes to the value of the term.
use Rattle.std.proofs.Common.{◌≡◌, ℕ, ◌≤◌, Bool, true, false, ◌&&◌, Ok, List, [], ◌∷◌, ◌++◌, length, refl, sym, subst, arith, append_assoc, append-nil, length-append}
use Rattle.std.specs.Prelude.{◌==◌}
use Rattle.std.proofs.lemmas.Bool.{and_parts, eqb-true}
use Rattle.hopf_num.specs.Fractions.{Ratio}
use Rattle.basis_names.specs.declared.bases.BasisId.{BasisId}
use Rattle.realisations.specs.Indices.{AreIndices}
use Rattle.hopf_laws.specs.Values.{Expansion}
use Rattle.session_grammar.specs.Grammar.{factor}
use Rattle.hopf_ops.specs.Operations.{QuotientRow}
use Rattle.hopf_ops.proofs.TensorsOfValues.{indices-append}
use Rattle.session_evaluation.specs.Names.{Names}
use Rattle.session_evaluation.specs.Evaluation.{Evaluates, element_value, number, element, product, tensor_product, Folds, done, step, steps_of_tensor}
use Rattle.session_grammar.specs.declared.expression.Expr.TheVariants as e
use Rattle.text_laws.proofs.SpelledTerms.{element_of, IsSpelled, AreSpelled, spells, scaled_by, scaled, later_elements, term_of}
use Rattle.text_laws.proofs.TermValues.{over, term_value, IsTerm, term_front, number_is_term, whole_fraction, quotient_row, times_row, hash_row}

module _ (names : Names) where
  -- a number
  pub number_evaluates : (n : ℕ) → 1 ≤ n → Evaluates names (e.Number n) (Ok (term_value [] (over n 1) []))
  number_evaluates n some = subst (λ (v : Expansion). Evaluates names (e.Number n) (Ok v)) (number_is_term n some) number

  -- a coefficient and an element
  scaled_evaluates : (basis : BasisId) (code : List ℕ) (n d : ℕ) → IsTerm (basis ∷ []) (over n d) (code ∷ []) → 1 ≤ n → IsSpelled basis code → (unit whole : Bool) → (n == 1 && d == 1) ≡ unit → (d == 1) ≡ whole
      → Evaluates names (scaled_by unit whole n d (element_of basis code)) (Ok (term_value (basis ∷ []) (over n d) (code ∷ [])))
  scaled_evaluates basis code n d is some h true whole units ones =
      let both = and_parts (n == 1) (d == 1) units in
      subst (λ m. Evaluates names (element_of basis code) (Ok (term_value (basis ∷ []) (over m d) (code ∷ [])))) (sym (eqb-true n 1 both.0))
      (subst (λ m. Evaluates names (element_of basis code) (Ok (term_value (basis ∷ []) (over 1 m) (code ∷ [])))) (sym (eqb-true d 1 both.1)) (element (spells basis code h)))
  scaled_evaluates basis code n d is some h false true units ones =
      let one = eqb-true d 1 ones in
      let is_whole = subst (λ m. IsTerm (basis ∷ []) (over n m) (code ∷ [])) one is in
      let v = term_value (basis ∷ []) (over n 1) (code ∷ []) in
      let made : Evaluates names (scaled_by false true n d (element_of basis code)) (Ok v) =
      product (factor false (e.Number n)) (factor false (element_of basis code) ∷ []) (number_evaluates n some)
      (step {a = term_value [] (over n 1) []} {operand = Ok (element_value basis code)} {next = Ok v} (element (spells basis code h)) (Ok v, times_row basis code (over n 1) is_whole, refl) done) in
      subst (λ m. Evaluates names (scaled_by false true n d (element_of basis code)) (Ok (term_value (basis ∷ []) (over n m) (code ∷ [])))) (sym one) made
  scaled_evaluates basis code n d is some h false false units ones =
      let v = term_value (basis ∷ []) (over n d) (code ∷ []) in
      let q = term_value [] (over n d) [] in
      let divided : QuotientRow (term_value [] (over n 1) []) (term_value [] (over d 1) []) (Ok q) =
      quotient_row n d some (whole_fraction n is.fraction.num_small) (whole_fraction d is.fraction.den_small) is.fraction.positive is.fraction in
      product (factor false (e.Number n)) (factor true (e.Number d) ∷ factor false (element_of basis code) ∷ []) (number_evaluates n some)
      (step {a = term_value [] (over n 1) []} {operand = Ok (term_value [] (over d 1) [])} {next = Ok q} (number_evaluates d is.fraction.positive) (Ok q, divided, refl)
      (step {a = q} {operand = Ok (element_value basis code)} {next = Ok v} (element (spells basis code h)) (Ok v, times_row basis code (over n d) is, refl) done))

  -- elements behind a term, by tensor products
  hashes_evaluate : (bases others : List BasisId) (r : Ratio) (key more : List (List ℕ)) → IsTerm (bases ++ others) r (key ++ more) → AreIndices bases key → 1 ≤ length bases → AreSpelled others more
      → Folds names (Ok (term_value bases r key)) (steps_of_tensor (later_elements others more)) (Ok (term_value (bases ++ others) r (key ++ more)))
  hashes_evaluate bases [] r key [] is indices some h =
      subst (λ bs. Folds names (Ok (term_value bases r key)) [] (Ok (term_value bs r (key ++ [])))) (sym (append-nil bases))
      (subst (λ k. Folds names (Ok (term_value bases r key)) [] (Ok (term_value bases r k))) (sym (append-nil key)) done)
  hashes_evaluate bases [] r key (code ∷ more) is indices some h = absurd h
  hashes_evaluate bases (basis ∷ others) r key [] is indices some h = absurd h
  hashes_evaluate bases (basis ∷ others) r key (code ∷ more) is indices some h =
      let here : (bases ++ basis ∷ []) ++ others ≡ bases ++ basis ∷ others = append_assoc bases (basis ∷ []) others in
      let codes : (key ++ code ∷ []) ++ more ≡ key ++ code ∷ more = append_assoc key (code ∷ []) more in
      let moved : IsTerm ((bases ++ basis ∷ []) ++ others) r ((key ++ code ∷ []) ++ more) =
      subst (λ bs. IsTerm bs r ((key ++ code ∷ []) ++ more)) (sym here) (subst (λ k. IsTerm (bases ++ basis ∷ others) r k) (sym codes) is) in
      let more_indices : AreIndices (bases ++ basis ∷ []) (key ++ code ∷ []) = indices-append bases (basis ∷ []) key (code ∷ []) indices (h.0.within.0, tt) in
      let longer : 1 ≤ length (bases ++ basis ∷ []) = omega (arith, length-append bases (basis ∷ [])) in
      let v = term_value (bases ++ basis ∷ []) r (key ++ code ∷ []) in
      let front = term_front bases (basis ∷ others) r key (code ∷ more) is indices some in
      let next_front = term_front (bases ++ basis ∷ []) others r (key ++ code ∷ []) more moved more_indices longer in
      let rest = hashes_evaluate (bases ++ basis ∷ []) others r (key ++ code ∷ []) more moved more_indices longer h.1 in
      step {operand = Ok (element_value basis code)} {next = Ok v} (element (spells basis code h.0)) (Ok v, hash_row bases r key basis code front next_front, refl)
      (subst (λ bs. Folds names (Ok v) (steps_of_tensor (later_elements others more)) (Ok (term_value bs r (key ++ code ∷ more)))) here
      (subst (λ k. Folds names (Ok v) (steps_of_tensor (later_elements others more)) (Ok (term_value ((bases ++ basis ∷ []) ++ others) r k))) codes rest))

  -- a term without its sign
  pub term_evaluates : (basis : BasisId) (bases : List BasisId) (n d : ℕ) (code : List ℕ) (key : List (List ℕ)) → IsTerm (basis ∷ bases) (over n d) (code ∷ key) → 1 ≤ n → AreSpelled (basis ∷ bases) (code ∷ key)
      → Evaluates names (term_of basis bases n d code key) (Ok (term_value (basis ∷ bases) (over n d) (code ∷ key)))
  term_evaluates basis bases n d code key is some h =
      by_others bases key (scaled_evaluates basis code n d front some h.0 (n == 1 && d == 1) (d == 1) refl refl) (hashes_evaluate (basis ∷ []) bases (over n d) (code ∷ []) key is indices (omega arith) h.1) h.1
    where
      indices : AreIndices (basis ∷ []) (code ∷ [])
      indices = (is.indices.0, tt)

      front : IsTerm (basis ∷ []) (over n d) (code ∷ [])
      front = term_front (basis ∷ []) bases (over n d) (code ∷ []) key is indices (omega arith)

      by_others : (others : List BasisId) (more : List (List ℕ)) → Evaluates names (scaled n d (element_of basis code)) (Ok (term_value (basis ∷ []) (over n d) (code ∷ [])))
          → Folds names (Ok (term_value (basis ∷ []) (over n d) (code ∷ []))) (steps_of_tensor (later_elements others more)) (Ok (term_value (basis ∷ others) (over n d) (code ∷ more)))
          → AreSpelled others more → Evaluates names (term_of basis others n d code more) (Ok (term_value (basis ∷ others) (over n d) (code ∷ more)))
      by_others [] [] first folds spelled = first
      by_others [] (c ∷ more) first folds spelled = absurd spelled
      by_others (b ∷ others) [] first folds spelled = absurd spelled
      by_others (b ∷ others) (c ∷ more) first folds spelled = tensor_product (scaled n d (element_of basis code)) (later_elements (b ∷ others) (c ∷ more)) first folds
