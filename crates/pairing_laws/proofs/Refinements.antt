-- Signed sums over the refinements of a composition: by recursion, and as the pairing has them.
use Rattle.std.proofs.Common.{◌≡◌, ℕ, zero, suc, ◌-◌, ◌≤◌, Bool, true, false, List, [], ◌∷◌, length, refl, sym, ◌∙◌, ap, subst, arith}
use Rattle.std.specs.Prelude.{if◌then◌else◌}
use Rattle.std.proofs.Math.IntN.{ℤ, pos, neg_ℤ, ◌+ℤ◌, ◌*ℤ◌, *ℤ-zero}
use Rattle.hopf_num.proofs.Ring.{*ℤ-+ℤ, *ℤ-neg_ℤ}
use Rattle.std.specs.List.{AllByRecursion, filter, sum}
use Rattle.std.proofs.lemmas.Int.{ints}
use Rattle.realisations.specs.Lists.{with_sign}
use Rattle.realisations.specs.Descents.{is_finer, longer_first}
use Rattle.realisations.specs.IndexKinds.{IsComposition}
use Rattle.realisations.specs.Pairings.{longer_compositions, compositions, refinements}
use Rattle.antipode_laws.proofs.IntegerSums.{sum_over, sum_over-flat_map, with_sign-add, with_sign-neg}
use Rattle.realisations.proofs.Every.{every-flat_map}
use Rattle.antipode_laws.proofs.ReadAtPoints.{sum_over_every}
use Rattle.coproduct_rules.proofs.DegreeCuts.{sum-first}
use Rattle.pairing_laws.proofs.CompositionsOfSize.{IsCompositionOf, compositions_of_size}
use Rattle.pairing_laws.proofs.FinerCompositions.{finer_one_one, finer_longer_one, finer_one_longer, finer_longer_longer}

-- the sums over what a part n may be cut into, before what the later parts are cut into
abbrev pub cut_part : ℕ → ((List ℕ → ℤ) → ℤ) → (List ℕ → ℤ) → ℤ
cut_part zero rest f = pos 0
cut_part (suc zero) rest f = rest (λ i. f (1 ∷ i))
cut_part (suc (suc n)) rest f = cut_part (suc n) rest (λ i. f (longer_first i) +ℤ neg_ℤ (f (1 ∷ i)))

-- the sum over the compositions finer than J or equal to it, with a sign for each part past those of J
abbrev pub signed_refinements : List ℕ → (List ℕ → ℤ) → ℤ
signed_refinements [] f = f []
signed_refinements (n ∷ j) f = cut_part n (signed_refinements j) f

-- a filter inside a sum
sum_over-filter : {X : Type 0} (test : X → Bool) (f : X → ℤ) (xs : List X) → sum_over f (filter test xs) ≡ sum_over (λ x. if test x then f x else pos 0) xs
sum_over-filter test f [] = refl
sum_over-filter test f (x ∷ xs) = by_test (test x) (sum_over-filter test f xs)
  where
    by_test : (b : Bool) → sum_over f (filter test xs) ≡ sum_over (λ x. if test x then f x else pos 0) xs →
        sum_over f (if b then x ∷ filter test xs else filter test xs) ≡ (if b then f x else pos 0) +ℤ sum_over (λ x. if test x then f x else pos 0) xs
    by_test true ih = ap (λ z. f x +ℤ z) ih
    by_test false ih = omega (arith, ints, ih)

-- the term of a refinement
abbrev term : List ℕ → (List ℕ → ℤ) → List ℕ → ℤ
term j f i = if is_finer i j then with_sign (length i - length j) (f i) else pos 0

-- no refinement has fewer parts
abbrev HasParts : List ℕ → List ℕ → Type 0
HasParts j i = is_finer i j ≡ true → length j ≤ length i

nothing_added : (x : ℤ) → x +ℤ pos 0 ≡ x
nothing_added x = omega (arith, ints)

-- after a first part 1
term_one_one : (j : List ℕ) (f : List ℕ → ℤ) (i : List ℕ) → IsComposition i → IsComposition j → term (1 ∷ j) f (1 ∷ i) ≡ term j (λ k. f (1 ∷ k)) i
term_one_one j f i hi hj =
    ap (λ b. if b then with_sign (length (1 ∷ i) - length (1 ∷ j)) (f (1 ∷ i)) else pos 0) (finer_one_one i j hi hj)
    ∙ ap (λ k. if is_finer i j then with_sign k (f (1 ∷ i)) else pos 0) parts
  where
    parts : length (1 ∷ i) - length (1 ∷ j) ≡ length i - length j
    parts = omega arith

term_longer_one : (j : List ℕ) (f : List ℕ → ℤ) (i : ℕ) (p : List ℕ) → IsComposition (i ∷ p) → IsComposition j → term (1 ∷ j) f (suc i ∷ p) ≡ pos 0
term_longer_one j f i p hi hj =
    ap (λ b. if b then with_sign (length (suc i ∷ p) - length (1 ∷ j)) (f (suc i ∷ p)) else pos 0) (finer_longer_one i p j hi hj)

terms_after_one : (j : List ℕ) → IsComposition j → (f : List ℕ → ℤ) (i : List ℕ) → IsCompositionOf (sum j) i → sum_over (term (1 ∷ j) f) (longer_compositions i) ≡ term j (λ k. f (1 ∷ k)) i
terms_after_one j hj f [] is = nothing_added (term (1 ∷ j) f (1 ∷ [])) ∙ term_one_one j f [] tt hj
terms_after_one j hj f (i ∷ p) is =
    omega (arith, ints, term_one_one j f (i ∷ p) is.composition hj, term_longer_one j f i p is.composition hj)

-- where the first part is one larger
terms_longer : (j : ℕ) (q : List ℕ) → IsComposition (j ∷ q) → (f : List ℕ → ℤ) (i : List ℕ) → IsCompositionOf (sum (j ∷ q)) i × HasParts (j ∷ q) i →
    sum_over (term (suc j ∷ q) f) (longer_compositions i) ≡ term (j ∷ q) (λ k. f (longer_first k) +ℤ neg_ℤ (f (1 ∷ k))) i
terms_longer j q hj f [] is = absurd (omega (arith, hj.0, is.0.size, sum-first j q))
terms_longer j q hj f (i ∷ p) is =
    by_test (is_finer (i ∷ p) (j ∷ q)) refl
  where
    by_test : (b : Bool) → is_finer (i ∷ p) (j ∷ q) ≡ b →
        sum_over (term (suc j ∷ q) f) (longer_compositions (i ∷ p)) ≡ term (j ∷ q) (λ k. f (longer_first k) +ℤ neg_ℤ (f (1 ∷ k))) (i ∷ p)
    by_test true e =
        let parts : length (j ∷ q) ≤ length (i ∷ p) = is.1 e in
        let d = length (i ∷ p) - length (j ∷ q) in
        let more : length (1 ∷ i ∷ p) - length (suc j ∷ q) ≡ suc d = omega (arith, parts) in
        let same : length (suc i ∷ p) - length (suc j ∷ q) ≡ d = omega arith in
        let first : term (suc j ∷ q) f (1 ∷ i ∷ p) ≡ neg_ℤ (with_sign d (f (1 ∷ i ∷ p))) =
        ap (λ b. if b then with_sign (length (1 ∷ i ∷ p) - length (suc j ∷ q)) (f (1 ∷ i ∷ p)) else pos 0) (finer_one_longer (i ∷ p) j q is.0.composition hj ∙ e)
        ∙ ap (λ k. with_sign k (f (1 ∷ i ∷ p))) more in
        let second : term (suc j ∷ q) f (suc i ∷ p) ≡ with_sign d (f (suc i ∷ p)) =
        ap (λ b. if b then with_sign (length (suc i ∷ p) - length (suc j ∷ q)) (f (suc i ∷ p)) else pos 0) (finer_longer_longer i p j q is.0.composition hj ∙ e)
        ∙ ap (λ k. with_sign k (f (suc i ∷ p))) same in
        let right : term (j ∷ q) (λ k. f (longer_first k) +ℤ neg_ℤ (f (1 ∷ k))) (i ∷ p) ≡ with_sign d (f (suc i ∷ p) +ℤ neg_ℤ (f (1 ∷ i ∷ p))) =
        ap (λ b. if b then with_sign d (f (suc i ∷ p) +ℤ neg_ℤ (f (1 ∷ i ∷ p))) else pos 0) e in
        omega (arith, ints, first, second, right, with_sign-add d (f (suc i ∷ p)) (neg_ℤ (f (1 ∷ i ∷ p))), with_sign-neg d (f (1 ∷ i ∷ p)))
    by_test false e =
        let first : term (suc j ∷ q) f (1 ∷ i ∷ p) ≡ pos 0 =
        ap (λ b. if b then with_sign (length (1 ∷ i ∷ p) - length (suc j ∷ q)) (f (1 ∷ i ∷ p)) else pos 0) (finer_one_longer (i ∷ p) j q is.0.composition hj ∙ e) in
        let second : term (suc j ∷ q) f (suc i ∷ p) ≡ pos 0 =
        ap (λ b. if b then with_sign (length (suc i ∷ p) - length (suc j ∷ q)) (f (suc i ∷ p)) else pos 0) (finer_longer_longer i p j q is.0.composition hj ∙ e) in
        let right : term (j ∷ q) (λ k. f (longer_first k) +ℤ neg_ℤ (f (1 ∷ k))) (i ∷ p) ≡ pos 0 =
        ap (λ b. if b then with_sign (length (i ∷ p) - length (j ∷ q)) (f (suc i ∷ p) +ℤ neg_ℤ (f (1 ∷ i ∷ p))) else pos 0) e in
        omega (arith, ints, first, second, right)

parts_after_one : (j : List ℕ) → IsComposition j → (i : List ℕ) → IsCompositionOf (sum j) i × HasParts j i → AllByRecursion (HasParts (1 ∷ j)) (longer_compositions i)
parts_after_one j hj [] is = ((λ e. let less = is.1 (sym (finer_one_one [] j tt hj) ∙ e) in omega (arith, less)), tt)
parts_after_one j hj (i ∷ p) is = (
  (λ e. let less = is.1 (sym (finer_one_one (i ∷ p) j is.0.composition hj) ∙ e) in omega (arith, less)),
  ((λ e. let no = finer_longer_one i p j is.0.composition hj in absurd (cc)), tt),
)

parts_longer : (j : ℕ) (q : List ℕ) → IsComposition (j ∷ q) → (i : List ℕ) → IsCompositionOf (sum (j ∷ q)) i × HasParts (j ∷ q) i → AllByRecursion (HasParts (suc j ∷ q)) (longer_compositions i)
parts_longer j q hj [] is = absurd (omega (arith, hj.0, is.0.size, sum-first j q))
parts_longer j q hj (i ∷ p) is = (
  (λ e. let less = is.1 (sym (finer_one_longer (i ∷ p) j q is.0.composition hj) ∙ e) in omega (arith, less)),
  ((λ e. let less = is.1 (sym (finer_longer_longer i p j q is.0.composition hj) ∙ e) in omega (arith, less)), tt),
)

-- what is proved by recursion on the composition
record AreRefined (j : List ℕ) : Type 0 where
  parts : AllByRecursion (HasParts j) (compositions (sum j))
  sums : (f : List ℕ → ℤ) → sum_over (term j f) (compositions (sum j)) ≡ signed_refinements j f

every_pair : {X : Type 0} (P Q : X → Type 0) (xs : List X) → AllByRecursion P xs → AllByRecursion Q xs → AllByRecursion (λ x. P x × Q x) xs
every_pair P Q [] h k = tt
every_pair P Q (x ∷ xs) h k = ((h.0, k.0), every_pair P Q xs h.1 k.1)

both_known : (j : List ℕ) → AreRefined j → AllByRecursion (λ i. IsCompositionOf (sum j) i × HasParts j i) (compositions (sum j))
both_known j is = every_pair (IsCompositionOf (sum j)) (HasParts j) (compositions (sum j)) (compositions_of_size (sum j)) is.parts

refined_one : (j : List ℕ) → IsComposition j → AreRefined j → AreRefined (1 ∷ j)
refined_one j hj is =
    let size : suc (sum j) ≡ sum (1 ∷ j) = omega (arith, sum-first 1 j) in
    record {
      parts = subst (λ n. AllByRecursion (HasParts (1 ∷ j)) (compositions n)) size
          (every-flat_map (λ i. IsCompositionOf (sum j) i × HasParts j i) (HasParts (1 ∷ j)) (λ i. longer_compositions i) (parts_after_one j hj) (compositions (sum j)) (both_known j is));
      sums = λ f. ap (λ n. sum_over (term (1 ∷ j) f) (compositions n)) (sym size)
          ∙ sum_over-flat_map (term (1 ∷ j) f) (λ i. longer_compositions i) (compositions (sum j))
          ∙ sum_over_every (IsCompositionOf (sum j)) _ _ (terms_after_one j hj f) (compositions (sum j)) (compositions_of_size (sum j))
          ∙ is.sums (λ k. f (1 ∷ k));
    }

refined_longer : (n : ℕ) (j : List ℕ) → IsComposition (suc n ∷ j) → AreRefined (suc n ∷ j) → AreRefined (suc (suc n) ∷ j)
refined_longer n j hj is =
    let size : suc (sum (suc n ∷ j)) ≡ sum (suc (suc n) ∷ j) = omega (arith, sum-first (suc n) j, sum-first (suc (suc n)) j) in
    record {
      parts = subst (λ n'. AllByRecursion (HasParts (suc (suc n) ∷ j)) (compositions n')) size
          (every-flat_map (λ i. IsCompositionOf (sum (suc n ∷ j)) i × HasParts (suc n ∷ j) i) (HasParts (suc (suc n) ∷ j)) (λ i. longer_compositions i) (parts_longer (suc n) j hj) (compositions (sum (suc n ∷ j))) (both_known (suc n ∷ j) is));
      sums = λ f. ap (λ n'. sum_over (term (suc (suc n) ∷ j) f) (compositions n')) (sym size)
          ∙ sum_over-flat_map (term (suc (suc n) ∷ j) f) (λ i. longer_compositions i) (compositions (sum (suc n ∷ j)))
          ∙ sum_over_every (λ i. IsCompositionOf (sum (suc n ∷ j)) i × HasParts (suc n ∷ j) i) _ _ (terms_longer (suc n) j hj f) (compositions (sum (suc n ∷ j))) (both_known (suc n ∷ j) is)
          ∙ is.sums (λ k. f (longer_first k) +ℤ neg_ℤ (f (1 ∷ k)));
    }

refined_part : (n : ℕ) (j : List ℕ) → IsComposition (n ∷ j) → AreRefined j → AreRefined (n ∷ j)
refined_part zero j h is = absurd (omega (arith, h.0))
refined_part (suc zero) j h is = refined_one j h.1 is
refined_part (suc (suc n)) j h is =
    refined_longer n j (omega arith, h.1) (refined_part (suc n) j (omega arith, h.1) is)

refined : (j : List ℕ) → IsComposition j → AreRefined j
refined [] h = record { parts = ((λ e. omega arith), tt); sums = λ f. omega (arith, ints) }
refined (n ∷ j) h = refined_part n j h (refined j h.1)

-- the signed sum over the refinements
pub refinements_sum : (j : List ℕ) → IsComposition j → (f : List ℕ → ℤ) →
    sum_over (λ i. with_sign (length i - length j) (f i)) (refinements j) ≡ signed_refinements j f
refinements_sum j h f =
    sum_over-filter (λ i. is_finer i j) (λ i. with_sign (length i - length j) (f i)) (compositions (sum j))
    ∙ (refined j h).sums f

cut_part_same : (n : ℕ) (rest : (List ℕ → ℤ) → ℤ) → ((f g : List ℕ → ℤ) → ((i : List ℕ) → IsComposition i → f i ≡ g i) → rest f ≡ rest g)
    → (f g : List ℕ → ℤ) → ((i : List ℕ) → IsComposition i → f i ≡ g i) → cut_part n rest f ≡ cut_part n rest g
cut_part_same zero rest same f g e = refl
cut_part_same (suc zero) rest same f g e = same (λ i. f (1 ∷ i)) (λ i. g (1 ∷ i)) (λ i h. e (1 ∷ i) (omega arith, h))
cut_part_same (suc (suc n)) rest same f g e =
    cut_part_same (suc n) rest same (λ i. f (longer_first i) +ℤ neg_ℤ (f (1 ∷ i))) (λ i. g (longer_first i) +ℤ neg_ℤ (g (1 ∷ i)))
    (λ i h. omega (arith, ints, e (1 ∷ i) (omega arith, h), e (longer_first i) (longer_composition i h)))
  where
    longer_composition : (i : List ℕ) → IsComposition i → IsComposition (longer_first i)
    longer_composition [] h = (omega arith, tt)
    longer_composition (i ∷ p) h = (omega arith, h.1)

-- functions that agree at compositions
pub signed_refinements_same : (j : List ℕ) (f g : List ℕ → ℤ) → ((i : List ℕ) → IsComposition i → f i ≡ g i) → signed_refinements j f ≡ signed_refinements j g
signed_refinements_same [] f g e = e [] tt
signed_refinements_same (n ∷ j) f g e = cut_part_same n (signed_refinements j) (signed_refinements_same j) f g e

-- a multiple and a sum of functions
cut_part-linear : (n : ℕ) (rest : (List ℕ → ℤ) → ℤ) (z : ℤ) → ((f g : List ℕ → ℤ) → rest (λ i. z *ℤ f i +ℤ g i) ≡ z *ℤ rest f +ℤ rest g)
    → ((f g : List ℕ → ℤ) → ((i : List ℕ) → IsComposition i → f i ≡ g i) → rest f ≡ rest g)
    → (f g : List ℕ → ℤ) → cut_part n rest (λ i. z *ℤ f i +ℤ g i) ≡ z *ℤ cut_part n rest f +ℤ cut_part n rest g
cut_part-linear zero rest z linear same f g = omega (arith, ints, *ℤ-zero z)
cut_part-linear (suc zero) rest z linear same f g = linear (λ i. f (1 ∷ i)) (λ i. g (1 ∷ i))
cut_part-linear (suc (suc n)) rest z linear same f g =
    cut_part_same (suc n) rest same _ (λ i. z *ℤ (f (longer_first i) +ℤ neg_ℤ (f (1 ∷ i))) +ℤ (g (longer_first i) +ℤ neg_ℤ (g (1 ∷ i))))
    (λ i h. omega (arith, ints, *ℤ-+ℤ z (f (longer_first i)) (neg_ℤ (f (1 ∷ i))), *ℤ-neg_ℤ z (f (1 ∷ i))))
    ∙ cut_part-linear (suc n) rest z linear same (λ i. f (longer_first i) +ℤ neg_ℤ (f (1 ∷ i))) (λ i. g (longer_first i) +ℤ neg_ℤ (g (1 ∷ i)))

pub signed_refinements-linear : (j : List ℕ) (z : ℤ) (f g : List ℕ → ℤ) → signed_refinements j (λ i. z *ℤ f i +ℤ g i) ≡ z *ℤ signed_refinements j f +ℤ signed_refinements j g
signed_refinements-linear [] z f g = refl
signed_refinements-linear (n ∷ j) z f g = cut_part-linear n (signed_refinements j) z (signed_refinements-linear j z) (signed_refinements_same j) f g
