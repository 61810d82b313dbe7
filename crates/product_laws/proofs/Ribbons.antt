-- The product of two ribbons.
use Rattle.std.proofs.Common.{◌≡◌, ℕ, ◌+◌, ◌*◌, ◌<◌, ◌≤◌, Bool, true, false, List, [], ◌∷◌, ◌++◌, length, take, drop, refl, sym, ◌∙◌, ap, arith, inl, inr}
use Rattle.std.specs.Prelude.{nat_lt, if◌then◌else◌, ◌&&◌}
use Rattle.std.specs.List.{sum}
use Rattle.std.proofs.lemmas.List.{length-append, length-take-le, take-append-drop, drop_all}
use Rattle.std.proofs.lemmas.Bool.{cases_lt, and_parts}
use Rattle.basis_names.specs.declared.bases.BasisId.TheVariants.{NcsfR}
use Rattle.realisations.specs.Descents.{longer_first, descent_composition}
use Rattle.realisations.specs.IndexKinds.{IsComposition}
use Rattle.realisations.specs.Lists.{same_list, one_if}
use Rattle.realisations.specs.Occurrence.{occurs}
use Rattle.realisations.proofs.DescentCompositions.{descends}
use Rattle.basis_representatives.proofs.SameLists.{one_if-and, same_list-true}
use Rattle.basis_representatives.proofs.Steps.{IsComposition-descent_composition}
use Rattle.product_laws.specs.Products.{IsProduct}
use Rattle.product_laws.specs.Ribbons.{near_concatenation, ribbon_products}
use Rattle.product_laws.proofs.ElementProducts.{occurrences, OccursAtLength, reads_as_product}
use Rattle.product_laws.proofs.Parts.{HasPart, positive_sum, front_parts, back_parts, front-append, back-append, front-near_concatenation, back-near_concatenation, length-near_concatenation, sum-append, sum-near_concatenation}
use Rattle.product_laws.proofs.Tests.{same_tests, same_list-is}
use Rattle.product_laws.proofs.Units.{left_unit, right_unit}

-- the last letter of a nonempty word
abbrev pub last_letter : ℕ → List ℕ → ℕ
last_letter x [] = x
last_letter x (z ∷ u) = last_letter z u

longer_has_part : (b : Bool) (parts : List ℕ) → HasPart (if b then 1 ∷ parts else longer_first parts)
longer_has_part true parts = tt
longer_has_part false [] = tt
longer_has_part false (i ∷ parts) = tt

-- the descent composition of a nonempty word has a part
pub has_part : (x : ℕ) (w : List ℕ) → HasPart (descent_composition (x ∷ w))
has_part x [] = tt
has_part x (y ∷ w) = longer_has_part (nat_lt y x) (descent_composition (y ∷ w))

-- one more letter in front of a concatenation or a near concatenation

first_step : (c : Bool) (b : List ℕ) → HasPart b → (if c then 1 ∷ b else longer_first b) ≡ (if c then (1 ∷ []) ++ b else near_concatenation (1 ∷ []) b)
first_step true b some = refl
first_step false [] some = absurd some
first_step false (j ∷ b) some = ap (λ m. m ∷ b) (omega arith)

next_step : (d c : Bool) (a b : List ℕ) → HasPart a → HasPart b
    → (if d then 1 ∷ (if c then a ++ b else near_concatenation a b) else longer_first (if c then a ++ b else near_concatenation a b))
    ≡ (if c then (if d then 1 ∷ a else longer_first a) ++ b else near_concatenation (if d then 1 ∷ a else longer_first a) b)
next_step d c [] b some some' = absurd some
next_step d c (i ∷ a) [] some some' = absurd some'
next_step true true (i ∷ a) (j ∷ b) some some' = refl
next_step false true (i ∷ a) (j ∷ b) some some' = refl
next_step true false (i ∷ a) (j ∷ b) some some' = refl
next_step false false (i ∷ []) (j ∷ b) some some' = ap (λ m. m ∷ b) (omega arith)
next_step false false (i ∷ h ∷ a) (j ∷ b) some some' = refl

-- the descent composition of a concatenation of nonempty words: that of the second after that of the first, joined where there is no descent between them
pub descent_composition-append : (x : ℕ) (u : List ℕ) (y : ℕ) (v : List ℕ)
    → descent_composition ((x ∷ u) ++ (y ∷ v))
    ≡ (if nat_lt y (last_letter x u) then descent_composition (x ∷ u) ++ descent_composition (y ∷ v) else near_concatenation (descent_composition (x ∷ u)) (descent_composition (y ∷ v)))
descent_composition-append x [] y v = first_step (nat_lt y x) (descent_composition (y ∷ v)) (has_part y v)
descent_composition-append x (z ∷ u) y v =
    ap (λ c. if nat_lt z x then 1 ∷ c else longer_first c) (descent_composition-append z u y v)
    ∙ next_step (nat_lt z x) (nat_lt y (last_letter z u)) (descent_composition (z ∷ u)) (descent_composition (y ∷ v)) (has_part z u) (has_part y v)

-- two pairs of nonempty compositions whose first ones have one sum
module _ (a b i j : List ℕ)
    (ha : IsComposition a) (hb : IsComposition b) (hi : IsComposition i) (hj : IsComposition j)
    (sa : HasPart a) (sb : HasPart b) (si : HasPart i) (sj : HasPart j) (size : sum a ≡ sum i) where
  pair_of_tests : same_list a i && same_list b j ≡ true → (a ≡ i) × (b ≡ j)
  pair_of_tests e = let t = and_parts (same_list a i) (same_list b j) e in (same_list-true a i t.0, same_list-true b j t.1)

  tests_of_pair : (a ≡ i) × (b ≡ j) → same_list a i && same_list b j ≡ true
  tests_of_pair e = rw (same_list-is a i e.0, same_list-is b j e.1) refl

  -- their concatenations are equal where they are
  same-append : same_list (a ++ b) (i ++ j) ≡ (same_list a i && same_list b j)
  same-append =
      same_tests _ _
      (λ e. let whole = same_list-true (a ++ b) (i ++ j) e in
      tests_of_pair (
        sym (front-append a b (sum i) ha sa (sym size)) ∙ ap (front_parts (sum i)) whole ∙ front-append i j (sum i) hi si refl,
        sym (back-append a b (sum i) ha sa (sym size)) ∙ ap (back_parts (sum i)) whole ∙ back-append i j (sum i) hi si refl,
      ))
      (λ e. let parts = pair_of_tests e in same_list-is (a ++ b) (i ++ j) (λ k. parts.0 k ++ parts.1 k))

  same-near : same_list (near_concatenation a b) (near_concatenation i j) ≡ (same_list a i && same_list b j)
  same-near =
      same_tests _ _
      (λ e. let whole = same_list-true (near_concatenation a b) (near_concatenation i j) e in
      tests_of_pair (
        sym (front-near_concatenation a b (sum i) ha sa hb sb (sym size)) ∙ ap (front_parts (sum i)) whole ∙ front-near_concatenation i j (sum i) hi si hj sj refl,
        sym (back-near_concatenation a b (sum i) ha sa hb sb (sym size)) ∙ ap (back_parts (sum i)) whole ∙ back-near_concatenation i j (sum i) hi si hj sj refl,
      ))
      (λ e. let parts = pair_of_tests e in same_list-is (near_concatenation a b) (near_concatenation i j) (λ k. near_concatenation (parts.0 k) (parts.1 k)))

  -- no concatenation is a near concatenation
  other-append : same_list (a ++ b) (near_concatenation i j) ≡ false
  other-append =
      same_tests _ _
      (λ e. let whole = same_list-true (a ++ b) (near_concatenation i j) e in
      let front : a ≡ i = sym (front-append a b (sum i) ha sa (sym size)) ∙ ap (front_parts (sum i)) whole ∙ front-near_concatenation i j (sum i) hi si hj sj refl in
      let back : b ≡ j = sym (back-append a b (sum i) ha sa (sym size)) ∙ ap (back_parts (sum i)) whole ∙ back-near_concatenation i j (sum i) hi si hj sj refl in
      let again : length (i ++ j) ≡ length (near_concatenation i j) = (λ k. length (sym front k ++ sym back k)) ∙ ap length whole in
      absurd (omega (arith, again, length-near_concatenation i j si sj)))
      (λ e. absurd (cc))

  other-near : same_list (near_concatenation a b) (i ++ j) ≡ false
  other-near =
      same_tests _ _
      (λ e. let whole = same_list-true (near_concatenation a b) (i ++ j) e in
      let front : a ≡ i = sym (front-near_concatenation a b (sum i) ha sa hb sb (sym size)) ∙ ap (front_parts (sum i)) whole ∙ front-append i j (sum i) hi si refl in
      let back : b ≡ j = sym (back-near_concatenation a b (sum i) ha sa hb sb (sym size)) ∙ ap (back_parts (sum i)) whole ∙ back-append i j (sum i) hi si refl in
      let again : length (near_concatenation i j) ≡ length (i ++ j) = (λ k. length (near_concatenation (sym front k) (sym back k))) ∙ ap length whole in
      absurd (omega (arith, again, length-near_concatenation i j si sj)))
      (λ e. absurd (cc))

  -- either one is exactly one of the two products where the pairs are equal, and else none
  pub products_of_pair : (c : Bool)
      → one_if (same_list (if c then a ++ b else near_concatenation a b) (i ++ j)) + (one_if (same_list (if c then a ++ b else near_concatenation a b) (near_concatenation i j)) + 0)
      ≡ one_if (same_list a i) * one_if (same_list b j)
  products_of_pair true = omega (arith, ap one_if same-append, ap one_if other-append, one_if-and (same_list a i) (same_list b j))
  products_of_pair false = omega (arith, ap one_if same-near, ap one_if other-near, one_if-and (same_list a i) (same_list b j))

-- a ribbon occurs at words of the size of its composition
pub ribbon_at_length : (parts : List ℕ) → OccursAtLength NcsfR parts (sum parts)
ribbon_at_length parts p e = sym (descends p).0 ∙ ap sum (same_list-true (descent_composition p) parts e)

-- the empty composition's ribbon occurs at the empty word alone
empty_ribbon : (p : List ℕ) → occurs NcsfR [] p ≡ same_list p []
empty_ribbon [] = refl
empty_ribbon (x ∷ w) = none (descent_composition (x ∷ w)) (has_part x w)
  where
    none : (parts : List ℕ) → HasPart parts → same_list parts [] ≡ false
    none [] some = absurd some
    none (i ∷ parts) some = refl

-- at a word no longer than the first composition neither product occurs
none_if_short : (parts : List ℕ) (m : ℕ) (p : List ℕ) → m < sum parts → length p ≤ m → same_list (descent_composition p) parts ≡ false
none_if_short parts m p longer short = same_tests _ _ (λ e. absurd (omega (arith, ribbon_at_length parts p e))) (λ e. absurd (cc))

module _ (i : ℕ) (is : List ℕ) (j : ℕ) (js : List ℕ) (hi : IsComposition (i ∷ is)) (hj : IsComposition (j ∷ js)) where
  ribbons_at_cut : (u v p : List ℕ) → u ++ v ≡ p → length u ≡ sum (i ∷ is) → length u < length p
      → occurrences NcsfR (ribbon_products (i ∷ is) (j ∷ js)) p ≡ one_if (same_list (descent_composition u) (i ∷ is)) * one_if (same_list (descent_composition v) (j ∷ js))
  ribbons_at_cut [] v p whole size longer = absurd (omega (arith, size, positive_sum (i ∷ is) hi tt))
  ribbons_at_cut (x ∷ u) [] p whole size longer = absurd (omega (arith, longer, ap length whole, length-append u []))
  ribbons_at_cut (x ∷ u) (y ∷ v) p whole size longer =
      (λ k. occurrences NcsfR (ribbon_products (i ∷ is) (j ∷ js)) (sym whole k))
      ∙ (λ k. let c = descent_composition-append x u y v k in one_if (same_list c ((i ∷ is) ++ (j ∷ js))) + (one_if (same_list c (near_concatenation (i ∷ is) (j ∷ js))) + 0))
      ∙ products_of_pair (descent_composition (x ∷ u)) (descent_composition (y ∷ v)) (i ∷ is) (j ∷ js)
      (IsComposition-descent_composition (x ∷ u)) (IsComposition-descent_composition (y ∷ v)) hi hj (has_part x u) (has_part y v) tt tt
      ((descends (x ∷ u)).0 ∙ size) (nat_lt y (last_letter x u))

  ribbons_at : (p : List ℕ) → occurrences NcsfR (ribbon_products (i ∷ is) (j ∷ js)) p
      ≡ one_if (same_list (descent_composition (take (sum (i ∷ is)) p)) (i ∷ is)) * one_if (same_list (descent_composition (drop (sum (i ∷ is)) p)) (j ∷ js))
  ribbons_at p = elim (cases_lt (sum (i ∷ is)) (length p)) [
    | inl longer ↦
        let size : length (take (sum (i ∷ is)) p) ≡ sum (i ∷ is) = length-take-le (sum (i ∷ is)) p (omega arith) in
        ribbons_at_cut (take (sum (i ∷ is)) p) (drop (sum (i ∷ is)) p) p (take-append-drop (sum (i ∷ is)) p) size (omega arith)
    | inr short ↦
        let more : 0 < sum (j ∷ js) = positive_sum (j ∷ js) hj tt in
        let no : same_list (descent_composition p) ((i ∷ is) ++ (j ∷ js)) ≡ false =
        none_if_short _ (sum (i ∷ is)) p (omega (arith, more, sum-append (i ∷ is) (j ∷ js))) short in
        let nor : same_list (descent_composition p) (near_concatenation (i ∷ is) (j ∷ js)) ≡ false =
        none_if_short _ (sum (i ∷ is)) p (omega (arith, more, sum-near_concatenation (i ∷ is) (j ∷ js) tt)) short in
        let rest : drop (sum (i ∷ is)) p ≡ [] = drop_all (sum (i ∷ is)) p short in
        rw rest (omega (arith, ap one_if no, ap one_if nor))
  ]

-- R of I times R of J is R of I . J and R of I > J; the empty composition is the unit
pub ribbons_read : (i j : List ℕ) → IsComposition i → IsComposition j → IsProduct NcsfR i j (ribbon_products i j)
ribbons_read [] j hi hj = left_unit NcsfR j refl empty_ribbon
ribbons_read (i ∷ is) [] hi hj = right_unit NcsfR (i ∷ is) (sum (i ∷ is)) refl (ribbon_at_length (i ∷ is)) empty_ribbon
ribbons_read (i ∷ is) (j ∷ js) hi hj =
    reads_as_product NcsfR (ribbon_products (i ∷ is) (j ∷ js)) (i ∷ is) (j ∷ js) (sum (i ∷ is)) refl (ribbon_at_length (i ∷ is)) (λ p point. ribbons_at i is j js hi hj p)
