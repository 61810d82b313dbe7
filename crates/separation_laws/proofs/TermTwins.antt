-- The finite test by numerators: each term has a twin, with the same numerator and its code replaced, for each index of the same coarse class.
use Rattle.std.proofs.Common.{◌≡◌, ◌≢◌, ℕ, zero, suc, ◌<◌, ◌≤◌, ◌⊎◌, inl, inr, List, [], ◌∷◌, length, set, insert, remove, refl, sym, ◌∙◌, ap, subst, arith}
use Rattle.std.proofs.Math.IntN.{ℤ, pos, ◌+ℤ◌, ◌*ℤ◌, *ℤ-zero, *ℤ-one, one}
use Rattle.std.proofs.lemmas.Int.{ints}
use Rattle.std.proofs.lemmas.List.Edits.{length-remove, get_or-insert_at}
use Rattle.std.proofs.lemmas.Cmp.{tied_itself}
use Rattle.std.specs.declared.cmp.Ordering.{Ordering}
use Rattle.std.specs.declared.cmp.Ordering.TheVariants.{Less, Equal, Greater}
use Rattle.basis_names.specs.declared.bases.AlgebraId.{AlgebraId}
use Rattle.basis_names.specs.declared.bases.BasisId.{BasisId}
use Rattle.realisations.specs.Codes.{Key}
use Rattle.realisations.specs.Combinations.{AreTerms, key_cmp}
use Rattle.realisations.specs.Indices.{AreIndices, IsIndex, degree_of}
use Rattle.realisations.specs.Readings.{Terms}
use Rattle.realisations.proofs.Coefficients.{Each, Rising, coefficient, counts, less_turned, rising_from}
use Rattle.realisations.proofs.KeyOrders.{key_order, same_key}
use Rattle.linear_combos.specs.Keys.{code_at}
use Rattle.change_laws.proofs.LiftedKeys.{length-indices}
use Rattle.separation_laws.specs.Classes.{IsClassBasis, class_basis, class_for, index_of_word}
use Rattle.separation_laws.specs.Conversions.{basis_at}
use Rattle.separation_laws.specs.FiniteTests.{HasTerm, TermsHaveTwins, TwinsInClass, coarse_class, part}
use Rattle.separation_laws.proofs.ByCoefficients.{parts_by_coefficients}
use Rattle.separation_laws.proofs.CoarserClasses.{Refines}
use Rattle.separation_laws.proofs.Components.{insert-remove}
use Rattle.separation_laws.proofs.EachTerm.{EachKey, each_key_at, each_term_at, index_at, indices-remove}
use Rattle.separation_laws.proofs.FiniteTests.{ClassesHaveOnePart, degree_same}

-- a component of a list with an element put in, given anew
set-insert : {X : Type 0} (xs : List X) (n : ℕ) (x y : X) → n ≤ length xs → set (insert xs n x) n y ≡ insert xs n y
set-insert xs zero x y le = refl
set-insert [] (suc n) x y le = absurd (omega arith)
set-insert (z ∷ xs) (suc n) x y le = ap (λ ys. z ∷ ys) (set-insert xs n x y (omega arith))

-- an element put in the place of one taken out
insert_removed : {X : Type 0} (xs : List X) (n : ℕ) (x : X) → n < length xs → insert (remove xs n) n x ≡ set xs n x
insert_removed [] n x lt = absurd (omega arith)
insert_removed (y ∷ xs) zero x lt = refl
insert_removed (y ∷ xs) (suc n) x lt = ap (λ ys. y ∷ ys) (insert_removed xs n x (omega arith))

-- below all keys of the terms the coefficient is 0
coefficient-below : (key : Key) (ts : Terms) → Each (λ (u : ℤ × Key). key_cmp key u.1 ≡ Less) ts → coefficient ts key ≡ pos 0
coefficient-below key [] a = refl
coefficient-below key (t ∷ ts) a =
    let head : t.0 *ℤ pos (counts (key_cmp t.1 key)) ≡ pos 0 = ap (λ o. t.0 *ℤ pos (counts o)) (less_turned key t.1 a.0) ∙ *ℤ-zero t.0 in
    omega (arith, ints, coefficient-below key ts a.1)

-- a key is that of a term with its coefficient, or its coefficient is 0
pub term_or_zero : (ts : Terms) → Rising ts → (key : Key) → HasTerm ts (coefficient ts key) key ⊎ (coefficient ts key ≡ pos 0)
unfolding one
term_or_zero [] rising key = inr refl
term_or_zero (t ∷ ts) rising key = by_order (key_cmp t.1 key) refl (term_or_zero ts rising.1 key)
  where
    by_order : (o : Ordering) → key_cmp t.1 key ≡ o → HasTerm ts (coefficient ts key) key ⊎ (coefficient ts key ≡ pos 0)
        → HasTerm (t ∷ ts) (t.0 *ℤ pos (counts o) +ℤ coefficient ts key) key ⊎ (t.0 *ℤ pos (counts o) +ℤ coefficient ts key ≡ pos 0)
    by_order Equal e rest =
        let here : t.1 ≡ key = same_key t.1 key e in
        let below : coefficient ts key ≡ pos 0 = ap (coefficient ts) (sym here) ∙ coefficient-below t.1 ts rising.0 in
        let is : t.0 ≡ t.0 *ℤ pos 1 +ℤ coefficient ts key = omega (arith, ints, below, *ℤ-one t.0) in
        inl (0, omega arith, is, here)
    by_order Less e rest = later rest
      where
        later : HasTerm ts (coefficient ts key) key ⊎ (coefficient ts key ≡ pos 0)
            → HasTerm (t ∷ ts) (t.0 *ℤ pos 0 +ℤ coefficient ts key) key ⊎ (t.0 *ℤ pos 0 +ℤ coefficient ts key ≡ pos 0)
        later (inl (i, lt, num, is)) = inl (suc i, omega arith, num ∙ (let e : coefficient ts key ≡ t.0 *ℤ pos 0 +ℤ coefficient ts key = omega (arith, ints, *ℤ-zero t.0) in e), is)
        later (inr none) = inr (omega (arith, ints, none, *ℤ-zero t.0))
    by_order Greater e rest = later rest
      where
        later : HasTerm ts (coefficient ts key) key ⊎ (coefficient ts key ≡ pos 0)
            → HasTerm (t ∷ ts) (t.0 *ℤ pos 0 +ℤ coefficient ts key) key ⊎ (t.0 *ℤ pos 0 +ℤ coefficient ts key ≡ pos 0)
        later (inl (i, lt, num, is)) = inl (suc i, omega arith, num ∙ (let e : coefficient ts key ≡ t.0 *ℤ pos 0 +ℤ coefficient ts key = omega (arith, ints, *ℤ-zero t.0) in e), is)
        later (inr none) = inr (omega (arith, ints, none, *ℤ-zero t.0))

-- a term has the coefficient of its key
pub coefficient-term : (ts : Terms) → Rising ts → (num : ℤ) (key : Key) → HasTerm ts num key → coefficient ts key ≡ num
unfolding one
coefficient-term [] rising num key has = absurd (omega (arith, has.1))
coefficient-term (t ∷ ts) rising num key (zero, lt, is, here) =
    let first : t.0 *ℤ pos (counts (key_cmp t.1 key)) ≡ t.0 = ap (λ k. t.0 *ℤ pos (counts (key_cmp t.1 k))) (sym here) ∙ ap (λ o. t.0 *ℤ pos (counts o)) (tied_itself key_order t.1) ∙ *ℤ-one t.0 in
    let below : coefficient ts key ≡ pos 0 = ap (coefficient ts) (sym here) ∙ coefficient-below t.1 ts rising.0 in
    omega (arith, ints, first, below, is)
coefficient-term (t ∷ ts) rising num key (suc i, lt, is, here) =
    let less : key_cmp t.1 key ≡ Less = ap (key_cmp t.1) (sym here) ∙ each_term_at (λ (u : ℤ × Key). key_cmp t.1 u.1 ≡ Less) ts rising.0 i (omega arith) in
    let first : t.0 *ℤ pos (counts (key_cmp t.1 key)) ≡ pos 0 = ap (λ o. t.0 *ℤ pos (counts o)) less ∙ *ℤ-zero t.0 in
    omega (arith, ints, first, coefficient-term ts rising.1 num key (i, omega arith, is, here))

module _ (n : ℕ) (bases : List BasisId) (ts : Terms) (lt : n < length bases) (terms : AreTerms (length bases) ts) (indices : EachKey (AreIndices bases) ts) where
  -- the keys rise
  rising : Rising ts
  rising = rising_from ts terms.rising

  -- the key of a term is one of indices
  pub indices_of_term : (num : ℤ) (key : Key) → HasTerm ts num key → AreIndices bases key
  indices_of_term num key has = each_key_at (AreIndices bases) ts indices key (has.0, has.1, has.3)

  -- and its numerator is not 0
  nonzero_term : (num : ℤ) (key : Key) → HasTerm ts num key → num ≢ pos 0
  nonzero_term num key has = λ e. terms.nonzero has.0 has.1 (has.2 ∙ e)

  -- where the part of a term's code is that of an index, the term has a twin with the index
  pub twin_from_part : (num : ℤ) (key : Key) → HasTerm ts num key → (e : List ℕ) → part n (code_at key n) ts ≡ part n e ts → HasTerm ts num (set key n e)
  twin_from_part num key has e part_same =
      let ik = indices_of_term num key has in
      let long = length-indices bases key ik in
      let in_key : n < length key = omega arith in
      let c = code_at key n in
      let others = remove key n in
      let whole : insert others n c ≡ key = insert-remove key n [] in_key in
      let coefficients : coefficient ts (insert others n c) ≡ coefficient ts (insert others n e) = (parts_by_coefficients n bases lt ts terms indices c e).0 part_same others (indices-remove n bases key ik) in
      let here : coefficient ts (set key n e) ≡ num =
      ap (coefficient ts) (sym (insert_removed key n e in_key)) ∙ sym coefficients ∙ ap (coefficient ts) whole ∙ coefficient-term ts rising num key has in
      elim (term_or_zero ts rising (set key n e)) [
        | inl term ↦ subst (λ z. HasTerm ts z (set key n e)) here term
        | inr none ↦ absurd (nonzero_term num key has (sym here ∙ none))
      ]

  -- each term with the first code in the component has a twin with the second
  abbrev pub HaveTwins : List ℕ → List ℕ → Type 0
  HaveTwins c e = (num : ℤ) (key : Key) → HasTerm ts num key → code_at key n ≡ c → HasTerm ts num (set key n e)

  -- such a twin has the coefficient
  twin : (c e : List ℕ) → HaveTwins c e → (num : ℤ) (others : Key) → n ≤ length others → HasTerm ts num (insert others n c) → coefficient ts (insert others n e) ≡ num
  twin c e test num others le has =
      ap (coefficient ts) (sym (set-insert others n c e le)) ∙ coefficient-term ts rising num (set (insert others n c) n e) (test num (insert others n c) has (get_or-insert_at others n c [] le))

  -- the parts of two codes are the same exactly where the terms of each have twins with the other
  pub parts_from_twins : (c e : List ℕ) → HaveTwins c e → HaveTwins e c → part n c ts ≡ part n e ts
  parts_from_twins c e there back =
      (parts_by_coefficients n bases lt ts terms indices c e).1
      (λ others h.
      let fewer = length-remove bases n lt in
      let long = length-indices (remove bases n) others h in
      let le : n ≤ length others = omega arith in
      elim (term_or_zero ts rising (insert others n c)) [
        | inl term ↦ sym (twin c e there (coefficient ts (insert others n c)) others le term)
        | inr none ↦ elim (term_or_zero ts rising (insert others n e)) [
          | inl term ↦ twin e c back (coefficient ts (insert others n e)) others le term
          | inr none' ↦ none ∙ sym none'
        ]
      ])

module _ (fine : BasisId) (fine_classes : IsClassBasis fine (index_of_word fine))
    (n : ℕ) (bases : List BasisId) (den : ℕ) (ts : Terms) (lt : n < length bases) (is : basis_at bases n ≡ fine) (terms : AreTerms (length bases) ts) (indices : EachKey (AreIndices bases) ts)
    (target : AlgebraId) (classes : IsClassBasis (class_basis target) (class_for target)) (refines : Refines fine target) where
  -- where the parts of one coarse class are the same, each term has its twins
  pub twins_from_one_part : ClassesHaveOnePart n fine target ts → TermsHaveTwins n fine target ts
  twins_from_one_part same x num key has here e in_class =
      let ik = indices_of_term n bases ts lt terms indices num key has in
      let c = code_at key n in
      twin_from_part n bases ts lt terms indices num key has e (same c e (subst (λ basis. IsIndex basis c) is (index_at n bases key lt ik)) in_class.index (sym in_class.same_class))

  -- where the terms of a class have their twins, each of its codes has twins with each other one
  twins_in_class : (x : List ℕ) → TwinsInClass n fine target ts x → (c e : List ℕ) → IsIndex fine c → IsIndex fine e → coarse_class target fine c ≡ x → coarse_class target fine e ≡ x
      → HaveTwins n bases ts lt terms indices c e
  twins_in_class x test c e ic ie cx ex num key has here =
      let deg : degree_of fine e ≡ degree_of fine (code_at key n) =
      degree_same fine fine_classes n bases den ts lt is terms indices target classes refines c e ic ie (cx ∙ sym ex) ∙ ap (degree_of fine) (sym here) in
      test num key has (ap (coarse_class target fine) here ∙ cx) e (record { index = ie; degree = deg; same_class = ex ∙ sym cx ∙ ap (coarse_class target fine) (sym here) })

  -- so its indices have one part
  pub one_part_in_class : (x : List ℕ) → TwinsInClass n fine target ts x → (c e : List ℕ) → IsIndex fine c → IsIndex fine e
      → coarse_class target fine c ≡ x → coarse_class target fine e ≡ x → part n c ts ≡ part n e ts
  one_part_in_class x test c e ic ie cx ex =
      parts_from_twins n bases ts lt terms indices c e (twins_in_class x test c e ic ie cx ex) (twins_in_class x test e c ie ic ex cx)

  -- in all classes
  pub one_part_from_twins : TermsHaveTwins n fine target ts → ClassesHaveOnePart n fine target ts
  one_part_from_twins test c e ic ie class = one_part_in_class (coarse_class target fine c) (test (coarse_class target fine c)) c e ic ie refl (sym class)
