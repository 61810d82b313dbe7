-- The recursion for combinations: from the coproduct of an index, the antipodes of its first codes, and products.
use Rattle.std.proofs.Common.{◌≡◌, ℕ, ◌+◌, ◌<◌, ◌≤◌, Bool, true, false, List, [], ◌∷◌, refl, sym, ◌∙◌, ap, arith}
use Rattle.std.specs.Prelude.{if◌then◌else◌}
use Rattle.std.proofs.Math.IntN.{ℤ, pos, neg_ℤ, ◌+ℤ◌, ◌*ℤ◌}
use Rattle.std.proofs.lemmas.Int.{ints}
use Rattle.basis_names.specs.declared.bases.BasisId.{BasisId}
use Rattle.realisations.specs.Bases.{kind_of}
use Rattle.realisations.specs.Codes.{Code, Key}
use Rattle.realisations.specs.Combinations.{Combination, HasKey, weighed}
use Rattle.realisations.specs.Indices.{IsIndex, AreIndices, degree_of, total_degree}
use Rattle.realisations.specs.Lists.{same_list}
use Rattle.realisations.specs.Points.{IsPoint}
use Rattle.realisations.specs.Readings.{Terms, leaf, applied, antipode, product, element, of_key, numerator, AgreeAt}
use Rattle.realisations.proofs.Linearity.{reads_linearly, reads_bilinearly}
use Rattle.realisations.proofs.TuplesOfPoints.{at_one_point}
use Rattle.antipode_laws.specs.Recursion.{first_code, second_code, ends, antipode_times, recursion_part, IsCoproductOf, IsAntipodeOf, RecursionLaw, AreKnown, IsKeyOfParts, weight_of_parts, RecursionAnswerLaw}
use Rattle.antipode_laws.proofs.AntipodeOfOne.{antipode_of_one}
use Rattle.antipode_laws.proofs.AntipodeRecursion.{recursion}
use Rattle.antipode_laws.proofs.ReadAtPoints.{product_at_points}
use Rattle.antipode_laws.proofs.UnitElements.{degree-empty, degree_positive}
use Rattle.antipode_laws.proofs.WeighedKeys.{weighed_same_keys}

-- over 1 readings agree where their numerators do
numerators : (y z : ℤ) → y *ℤ pos 1 ≡ z *ℤ pos 1 → y ≡ z
numerators y z e = omega (arith, ints, e)

-- an index of positive degree is not the empty one
not_empty : (basis : BasisId) (code : Code) → 1 ≤ degree_of basis code → same_list code [] ≡ false
not_empty basis [] h = absurd (omega (arith, h, degree-empty basis))
not_empty basis (x ∷ code) h = refl

-- the reading of the antipode
reads : (basis : BasisId) (code : Code) (c : Combination) → IsCoproductOf basis code c → (p : List ℕ) → IsPoint (kind_of basis) p →
    numerator (applied antipode 0 (element basis code)) (p ∷ []) ≡ neg_ℤ (weighed (recursion_part basis p) c.terms)
reads basis code c is p h =
    recursion basis code c.terms is.index (not_empty basis code is.positive) is.answer.indices (λ qs k. numerators _ _ (is.answer.reads qs k)) p h

-- a key of two codes, the second of them not empty
module _ (basis : BasisId) where
  second_index : (key : Key) → AreIndices (basis ∷ basis ∷ []) key → IsIndex basis (second_code key)
  second_index [] h = absurd h
  second_index (a ∷ []) h = absurd h.1
  second_index (a ∷ b ∷ []) h = h.1.0
  second_index (a ∷ b ∷ c ∷ key) h = absurd h.1.1

  degrees_of_two : (key : Key) → AreIndices (basis ∷ basis ∷ []) key → degree_of basis (first_code key) + degree_of basis (second_code key) ≡ total_degree (basis ∷ basis ∷ []) key
  degrees_of_two [] h = absurd h
  degrees_of_two (a ∷ []) h = absurd h.1
  degrees_of_two (a ∷ b ∷ []) h = omega arith
  degrees_of_two (a ∷ b ∷ c ∷ key) h = absurd h.1.1

  second_positive : (code : Code) → IsIndex basis code → same_list code [] ≡ false → 1 ≤ degree_of basis code
  second_positive [] h e = absurd (cc)
  second_positive (x ∷ code) h e = omega (arith, degree_positive basis x code h)

  -- a key of one code
  degree_of_one : (key : Key) → AreIndices (basis ∷ []) key → total_degree (basis ∷ []) key ≡ degree_of basis (first_code key)
  degree_of_one [] h = absurd h
  degree_of_one (a ∷ []) h = omega arith
  degree_of_one (a ∷ b ∷ key) h = absurd h.1

  one_key : (key : Key) → AreIndices (basis ∷ []) key → key ≡ first_code key ∷ []
  one_key [] h = absurd h
  one_key (a ∷ []) h = refl
  one_key (a ∷ b ∷ key) h = absurd h.1

-- first codes have lower degrees
lower : (basis : BasisId) (code : Code) (c : Combination) → IsCoproductOf basis code c → (key : Key) → HasKey c.terms key → ends key ≡ false → degree_of basis (first_code key) < degree_of basis code
lower basis code c is key has goes_on =
    let index = is.answer.indices key has in
    omega (arith, is.answer.degrees key has, degrees_of_two basis key index, second_positive basis (second_code key) (second_index basis key index) goes_on)

pub recursion_law : RecursionLaw
recursion_law = record {
  empty = λ basis p. ap (λ z. z *ℤ pos 1) (antipode_of_one basis p);
  reads = reads;
  lower = lower;
}

module _ (basis : BasisId) (turned : Code → Combination) (times : Code → Code → Combination) (c : Combination) (known : AreKnown basis turned times c.terms) where
  -- the products of an antipode's terms with a second code read as the product of the antipode with it
  part_reads : (p : List ℕ) → IsPoint (kind_of basis) p → (key : Key) → HasKey c.terms key → ends key ≡ false →
      weighed (λ codes. weighed (λ k. numerator (of_key (basis ∷ []) k) (p ∷ [])) (times (first_code codes) (second_code key)).terms) (turned (first_code key)).terms
      ≡ numerator (antipode_times basis key) (p ∷ [])
  part_reads p h key has goes_on =
      let b : Code = second_code key in
      let ts : Terms = (turned (first_code key)).terms in
      let is : IsAntipodeOf basis (first_code key) (turned (first_code key)) = known.antipodes key has goes_on in
      weighed_same_keys _ (λ codes. numerator (product (element basis (first_code codes)) (element basis b)) (p ∷ [])) ts
      (λ codes of. sym (reads_linearly (basis ∷ []) 1 (times (first_code codes) b).terms (p ∷ [])) ∙ numerators _ _ ((known.products key has goes_on codes of).reads (p ∷ []) (h, tt)))
      ∙ weighed_same_keys _ (λ codes. weighed (λ other. numerator (product (of_key (basis ∷ []) codes) (of_key (basis ∷ []) other)) (p ∷ [])) ((pos 1, b ∷ []) ∷ [])) ts
      (λ codes of. ap (λ k. numerator (product (of_key (basis ∷ []) k) (element basis b)) (p ∷ [])) (sym (one_key basis codes (is.indices codes of))) ∙ once (numerator (product (of_key (basis ∷ []) codes) (element basis b)) (p ∷ [])))
      ∙ sym (reads_bilinearly (basis ∷ []) 1 1 ts ((pos 1, b ∷ []) ∷ []) (p ∷ []))
      ∙ product_at_points (kind_of basis) (leaf (basis ∷ []) 1 ts) (applied antipode 0 (element basis (first_code key))) (element basis b) refl refl
      (λ qs k. numerators _ _ (is.reads qs k)) (p ∷ []) (h, tt)
    where
      once : (z : ℤ) → z ≡ (pos 1 *ℤ z) +ℤ pos 0
      once z = omega (arith, ints)

  -- so all of them read as what the key adds
  weight_reads : (p : List ℕ) → IsPoint (kind_of basis) p → (key : Key) → HasKey c.terms key →
      weight_of_parts turned times (λ k. numerator (of_key (basis ∷ []) k) (p ∷ [])) key ≡ recursion_part basis p key
  weight_reads p h key has = by_test (ends key) refl
    where
      by_test : (b : Bool) → ends key ≡ b → (if b then pos 0 else weighed (λ codes. weighed (λ k. numerator (of_key (basis ∷ []) k) (p ∷ [])) (times (first_code codes) (second_code key)).terms) (turned (first_code key)).terms)
          ≡ (if b then pos 0 else numerator (antipode_times basis key) (p ∷ []))
      by_test true e = refl
      by_test false e = part_reads p h key has e

-- the law
pub recursion_answer : RecursionAnswerLaw
recursion_answer basis code turned times c d is known parts canonical rank whole small = record {
  canonical = canonical;
  rank = rank;
  whole = whole;
  small = small;
  indices = λ key has. (of_part key (parts.keys key has)).0;
  degrees = λ key has. (of_part key (parts.keys key has)).1;
  reads = at_one_point (kind_of basis) (λ ps. AgreeAt (leaf (basis ∷ []) 1 d.terms) (applied antipode 0 (element basis code)) ps) reads_here;
}
  where
    reads_here : (p : List ℕ) → IsPoint (kind_of basis) p → AgreeAt (leaf (basis ∷ []) 1 d.terms) (applied antipode 0 (element basis code)) (p ∷ [])
    reads_here p h =
        ap (λ z. z *ℤ pos 1)
        (reads_linearly (basis ∷ []) 1 d.terms (p ∷ [])
        ∙ parts.weighs (λ k. numerator (of_key (basis ∷ []) k) (p ∷ []))
        ∙ ap neg_ℤ (weighed_same_keys _ (recursion_part basis p) c.terms (weight_reads basis turned times c known p h))
        ∙ sym (reads basis code c is p h))

    of_part : (key : Key) → IsKeyOfParts turned times c.terms key → AreIndices (basis ∷ []) key × (total_degree (basis ∷ []) key ≡ degree_of basis code)
    of_part key part =
        let product_is = known.products part.key part.has part.goes_on part.codes part.of_antipode in
        let antipode_is = known.antipodes part.key part.has part.goes_on in (
          product_is.indices key part.of_product,
          omega (
            arith,
            product_is.degrees key part.of_product,
            antipode_is.degrees part.codes part.of_antipode,
            degree_of_one basis part.codes (antipode_is.indices part.codes part.of_antipode),
            degrees_of_two basis part.key (is.answer.indices part.key part.has),
            is.answer.degrees part.key part.has,
          ),
        )
