-- F of a permutation is G of its inverse, and G of a permutation is F of its inverse.
use Rattle.std.proofs.Common.{◌≡◌, ◌≢◌, ℕ, suc, zero, ◌*◌, ◌^◌, ◌<◌, ◌≤◌, [], ◌∷◌, length, refl, sym, ◌∙◌, ap, arith, subst}
use Rattle.std.proofs.Math.IntN.{ℤ, pos, ◌*ℤ◌}
use Rattle.std.proofs.lemmas.Int.{ints}
use Rattle.std.proofs.lemmas.Nat.{pow_pos}
use Rattle.basis_names.specs.declared.bases.BasisId.{BasisId}
use Rattle.basis_names.specs.declared.bases.BasisId.TheVariants.{FqsymF, FqsymG}
use Rattle.basis_representatives.proofs.Inverses.{inverse-inverse, length-inverse, permutation-inverse}
use Rattle.basis_representatives.proofs.Permutations.{HasEachOnce, each_once, permutation_from, permutation-standardise}
use Rattle.basis_representatives.proofs.SameLists.{same_list-both}
use Rattle.change_laws.proofs.ChangeAnswers.{numerator-element}
use Rattle.index_rules.specs.Rules.{IsAnswerWithin}
use Rattle.linear_combos.proofs.Edits.{lowest_one}
use Rattle.realisations.specs.Bases.{kind_of}
use Rattle.realisations.specs.Codes.{Code, Key}
use Rattle.realisations.specs.Combinations.{AreTerms, Combination, HasKey, term_at}
use Rattle.realisations.specs.Indices.{AreIndices, IsIndex, degree_of, total_degree}
use Rattle.realisations.specs.Lists.{one_if}
use Rattle.realisations.specs.Occurrence.{occurs}
use Rattle.realisations.specs.Points.{Point}
use Rattle.realisations.specs.Readings.{leaf, element, AgreeAt}
use Rattle.realisations.specs.Standardisation.{inverse, standardise}
use Rattle.realisations.proofs.TuplesOfPoints.{at_one_point}

-- the combination that is one basis element
abbrev pub one_element : Code → Combination
one_element code = record { rank = 1; den = 1; terms = (pos 1, code ∷ []) ∷ [] }

-- what the one term has, each has
only_term : (P : ℤ × Key → Type 0) (t : ℤ × Key) → P t → (i : ℕ) → i < 1 → P (term_at (t ∷ []) i)
only_term P t h zero lt = h
only_term P t h (suc i) lt = absurd (omega arith)

only_key : (P : Key → Type 0) (t : ℤ × Key) → P t.1 → (key : Key) → HasKey (t ∷ []) key → P key
only_key P t h key (i, lt, is) = subst P is (only_term (λ u. P u.1) t h i lt)

one_term : (code : Code) → AreTerms 1 ((pos 1, code ∷ []) ∷ [])
one_term code = record {
  rising = λ i j lt in_range. absurd (omega arith);
  nonzero = only_term (λ t. t.0 ≢ pos 0) (pos 1, code ∷ []) (λ e. absurd (omega (arith, ints, e)));
  ranks = only_term (λ t. length t.1 ≡ 1) (pos 1, code ∷ []) refl;
  small = omega arith;
}

-- an element is that of another basis that occurs at the same points
same_element : (from to : BasisId) (code other : Code) → IsIndex to other → degree_of to other ≡ degree_of from code → ((p : Point) → occurs to other p ≡ occurs from code p)
    → IsAnswerWithin 0 (to ∷ []) (degree_of from code) (element from code) (one_element other)
same_element from to code other index degree same =
    let n : ℕ = degree_of from code in
    let one : 1 ≤ 2 ^ (5 * n) = omega (arith, pow_pos (5 * n)) in
    let none : 0 * n ≡ 0 = omega arith in
    record {
      answer = record {
        canonical = record { ordered = one_term other; lowest = lowest_one ((pos 1, other ∷ []) ∷ []) };
        rank = refl;
        whole = refl;
        small = omega (arith, one);
        indices = only_key (λ key. AreIndices (to ∷ []) key) (pos 1, other ∷ []) (index, tt);
        degrees = only_key (λ key. total_degree (to ∷ []) key ≡ n) (pos 1, other ∷ []) (omega (arith, degree));
        reads = at_one_point (kind_of to) (AgreeAt (leaf (to ∷ []) 1 ((pos 1, other ∷ []) ∷ [])) (element from code))
            (λ p point. ap (λ z. z *ℤ pos 1) (numerator-element to other p ∙ ap (λ b. pos (one_if b)) (same p) ∙ sym (numerator-element from code p)));
      };
      norm = omega (arith, ap (λ k. 2 ^ k) none);
    }

-- G of the inverse occurs where F of a permutation does
occurs-inverse : (s : Code) → HasEachOnce s → (p : Point) → occurs FqsymG (inverse s) p ≡ occurs FqsymF s p
occurs-inverse s once p =
    same_list-both (standardise p) (inverse s) (inverse (standardise p)) s (λ e. ap inverse e ∙ inverse-inverse s once)
    (λ e. sym (inverse-inverse (standardise p) (permutation-standardise p)) ∙ ap inverse e)

pub fundamental_in_dual : (s : Code) → IsIndex FqsymF s → IsAnswerWithin 0 (FqsymG ∷ []) (length s) (element FqsymF s) (one_element (inverse s))
fundamental_in_dual s h =
    let once = each_once s h in
    same_element FqsymF FqsymG s (inverse s) (permutation_from (inverse s) (permutation-inverse s once)) (length-inverse s) (occurs-inverse s once)

pub dual_in_fundamental : (s : Code) → IsIndex FqsymG s → IsAnswerWithin 0 (FqsymF ∷ []) (length s) (element FqsymG s) (one_element (inverse s))
dual_in_fundamental s h =
    let once = each_once s h in
    let turned = permutation-inverse s once in
    same_element FqsymG FqsymF s (inverse s) (permutation_from (inverse s) turned) (length-inverse s)
    (λ p. sym (occurs-inverse (inverse s) turned p) ∙ ap (λ t. occurs FqsymG t p) (inverse-inverse s once))
