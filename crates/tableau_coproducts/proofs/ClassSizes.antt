-- The pairs of the rule of FSym.S are pairs of tableaux, and few.
use Rattle.std.proofs.Common.{◌≡◌, ℕ, zero, suc, ◌+◌, ◌*◌, ◌^◌, ◌≤◌, Bool, true, false, List, [], ◌∷◌, length, refl, sym, ◌∙◌, ap, subst, arith, inl, inr}
use Rattle.std.specs.Prelude.{IsTrue, ◌&&◌, if◌then◌else◌}
use Rattle.std.specs.List.{AllByRecursion, flat_map}
use Rattle.std.proofs.Math.Nat.{mul-le-mul, pow-le-pow_left, pow-suc, pow-zero}
use Rattle.std.proofs.lemmas.Bool.{cases_lt}
use Rattle.std.proofs.lemmas.List.{length-map}
use Rattle.std.proofs.lemmas.Nat.{pow-add}
use Rattle.basis_names.specs.declared.bases.BasisId.TheVariants.{FsymS}
use Rattle.realisations.specs.IndexKinds.{IsTableauCode, is_permutation}
use Rattle.realisations.specs.Standardisation.{inverse, standardise}
use Rattle.realisations.specs.Tableaux.{insertion_tableau, tableau_code}
use Rattle.realisations.specs.Words.{word_cuts}
use Rattle.realisations.proofs.Every.{every-any, every-flat_map, every-weaker}
use Rattle.basis_representatives.proofs.Inverses.{length-inverse}
use Rattle.basis_representatives.proofs.Permutations.{each_once}
use Rattle.coproduct_laws.specs.Coproducts.{ArePairs, IsCoproductRule}
use Rattle.coproduct_laws.proofs.ValuePairs.{suc-le-pow_two}
use Rattle.coproduct_laws.proofs.WordCuts.{length-word_cuts}
use Rattle.coproduct_rules.specs.PlaceCuts.{place_cuts}
use Rattle.coproduct_rules.proofs.PartPairs.{length-flat_map-le}
use Rattle.coproduct_rules.proofs.PlaceRule.{place_rule}
use Rattle.word_laws.specs.AddedCodes.{times_in}
use Rattle.product_laws.proofs.CutRules.{letters_of_permutation}
use Rattle.product_laws.proofs.DistinctWords.{AreUpTo, few_distinct}
use Rattle.product_laws.proofs.TableauRule.{by_tableaux}
use Rattle.tableau_laws.proofs.NumberedTableaux.{standard-insertion}
use Rattle.tableau_coproducts.specs.ClassCuts.{IsOfClass, ListsClass, class_cuts, is_reading_word, reading_pair}
use Rattle.tableau_coproducts.proofs.ClassCuts.{class_cuts_read, counted_has}
use Rattle.tableau_coproducts.proofs.ReadingPairs.{sorted_places-inverse}

-- the code of the insertion tableau of a permutation is as long as the permutation
pub length-tableau : (s : List ℕ) → IsTrue (is_permutation s) → length (tableau_code (insertion_tableau s)) ≡ length s
length-tableau s h =
    ap (λ w. length (tableau_code (insertion_tableau w))) (sym (sorted_places-inverse s (each_once s h))) ∙ by_tableaux.degree (inverse s) ∙ length-inverse s

-- so the permutations of a class are as long as its code
pub length-class : (t s : List ℕ) → IsOfClass t s → length s ≡ length t
length-class t s h = sym (length-tableau s h.permutation) ∙ ap length h.tableau

-- the pair of two permutations is one of tableaux
pair_of_tableaux : (n : ℕ) (e : List ℕ × List ℕ) → IsTrue (is_permutation e.0) × IsTrue (is_permutation e.1) × (length e.0 + length e.1 ≡ n)
    → AllByRecursion (λ (d : List ℕ × List ℕ). IsTableauCode d.0 × IsTableauCode d.1 × (length d.0 + length d.1 ≡ n)) (reading_pair e)
pair_of_tableaux n e h = by_test (is_reading_word e.0 && is_reading_word e.1)
  where
    by_test : (b : Bool) → AllByRecursion (λ (d : List ℕ × List ℕ). IsTableauCode d.0 × IsTableauCode d.1 × (length d.0 + length d.1 ≡ n))
        (if b then (tableau_code (insertion_tableau e.0), tableau_code (insertion_tableau e.1)) ∷ [] else [])
    by_test true = (
      (
        (insertion_tableau e.0, standard-insertion e.0 h.0, refl),
        (insertion_tableau e.1, standard-insertion e.1 h.1, refl),
        omega (arith, h.2, length-tableau e.0 h.0, length-tableau e.1 h.1),
      ),
      tt,
    )
    by_test false = tt

-- it is one at most
at_most_pair : (e : List ℕ × List ℕ) → length (reading_pair e) ≤ 1
at_most_pair e = by_test (is_reading_word e.0 && is_reading_word e.1)
  where
    by_test : (b : Bool) → length {A = List ℕ × List ℕ} (if b then (tableau_code (insertion_tableau e.0), tableau_code (insertion_tableau e.1)) ∷ [] else []) ≤ 1
    by_test true = omega arith
    by_test false = omega arith

-- a power of a power of 2
power_of_power : (g n : ℕ) → (2 ^ g) ^ n ≡ 2 ^ (g * n)
power_of_power g zero = let none : 0 ≡ g * 0 = omega arith in pow-zero (2 ^ g) ∙ ap (λ k. 2 ^ k) none
power_of_power g (suc n) =
    let next : g * n + g ≡ g * suc n = omega arith in
    pow-suc (2 ^ g) n ∙ ap (λ k. k * 2 ^ g) (power_of_power g n) ∙ sym (pow-add 2 (g * n) g) ∙ ap (λ k. 2 ^ k) next

module _ (t : List ℕ) (words : List (List ℕ)) (lists : ListsClass t words) where
  -- the pairs are pairs of tableaux of the whole degree
  class_pairs : ArePairs FsymS t (class_cuts words)
  class_pairs =
      every-flat_map (λ s. IsOfClass t s) _ (λ s. flat_map reading_pair (place_cuts s))
      (λ s h.
      every-flat_map (λ (e : List ℕ × List ℕ). IsTrue (is_permutation e.0) × IsTrue (is_permutation e.1) × (length e.0 + length e.1 ≡ length t)) _ reading_pair (pair_of_tableaux (length t)) (place_cuts s)
      (subst (λ n. AllByRecursion (λ (e : List ℕ × List ℕ). IsTrue (is_permutation e.0) × IsTrue (is_permutation e.1) × (length e.0 + length e.1 ≡ n)) (place_cuts s))
      (length-class t s h) (place_rule s h.permutation).indices))
      words lists.each

  -- no permutation is listed twice
  at_most_once : (s : List ℕ) → times_in s words ≤ 1
  at_most_once s = elim (cases_lt 0 (times_in s words)) [
    | inl some ↦ omega (arith, lists.once s (counted_has (λ s. IsOfClass t s) words lists.each s some))
    | inr none ↦ omega (arith, none)
  ]

  -- so at most n^n are
  few_words : length words ≤ length t ^ length t
  few_words =
      few_distinct (length t) (length t) words
      (every-weaker (λ s. IsOfClass t s) (λ s. AreUpTo (length t) s × (length s ≡ length t))
      (λ s h. (subst (λ n. AreUpTo n s) (length-class t s h) (letters_of_permutation s h.permutation), length-class t s h)) words lists.each)
      at_most_once

  -- each with a cut more than letters
  few_of_word : (s : List ℕ) → IsOfClass t s → length (flat_map reading_pair (place_cuts s)) ≤ suc (length t)
  few_of_word s h =
      omega (
        arith,
        length-flat_map-le (λ (e : List ℕ × List ℕ). Unit {0}) reading_pair 1 (λ e k. at_most_pair e) (place_cuts s) (every-any (λ (e : List ℕ × List ℕ). Unit {0}) (λ e. tt) (place_cuts s)),
        length-map {B = List ℕ × List ℕ} (word_cuts s) (λ (c : List ℕ × List ℕ). (standardise c.0, standardise c.1)),
        length-word_cuts s,
        length-class t s h,
      )

  -- for tableaux of degrees up to 2^g there are at most g + 1 bits of pairs for each degree
  pub few_pairs : (g : ℕ) → length t ≤ 2 ^ g → length (class_cuts words) ≤ 2 ^ (suc g * length t)
  few_pairs g small =
      let n : ℕ = length t in
      let all : length (class_cuts words) ≤ length words * suc n =
      length-flat_map-le (λ s. IsOfClass t s) (λ s. flat_map reading_pair (place_cuts s)) (suc n) few_of_word words lists.each in
      let power : n ^ n ≤ 2 ^ (g * n) = subst (λ k. n ^ n ≤ k) (power_of_power g n) (pow-le-pow_left {n = n} {m = 2 ^ g} small n) in
      let first : length words ≤ 2 ^ (g * n) = omega (arith, few_words, power) in
      let most : length words * suc n ≤ 2 ^ (g * n) * 2 ^ n = mul-le-mul first (suc-le-pow_two n) in
      let bits : suc g * n ≡ g * n + n = omega arith in
      let whole : 2 ^ (suc g * n) ≡ 2 ^ (g * n) * 2 ^ n = ap (λ k. 2 ^ k) bits ∙ pow-add 2 (g * n) n in
      omega (arith, all, most, whole)

  -- they are a rule of degree at most 16
  pub class_rule : length t ≤ 16 → IsCoproductRule FsymS t (class_cuts words)
  class_rule small = record { reads = class_cuts_read t words lists; indices = class_pairs; few = few_pairs 4 (omega (arith, small)) }
