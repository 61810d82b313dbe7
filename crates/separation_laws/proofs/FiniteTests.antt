-- Words read alike over a class basis exactly where the parts of their indices are the same; so a leaf lies in a coarser algebra exactly where parts of classes with one coarser class are the same.
use Rattle.std.proofs.Common.{◌≡◌, ℕ, suc, ◌<◌, ◌⊎◌, inl, inr, Bool, true, false, if◌then◌else◌, List, [], ◌∷◌, length, remove, refl, sym, ◌∙◌, ap, map, subst, arith}
use Rattle.std.proofs.Math.IntN.{ℤ, pos, ◌*ℤ◌}
use Rattle.basis_names.specs.declared.bases.AlgebraId.{AlgebraId}
use Rattle.basis_names.specs.declared.bases.BasisId.{BasisId}
use Rattle.realisations.specs.Bases.{kind_of, representative}
use Rattle.realisations.specs.Codes.{Code, Key}
use Rattle.realisations.specs.Combinations.{AreTerms, Combination, HasKey}
use Rattle.realisations.specs.Indices.{AreIndices, IsIndex, degree_of}
use Rattle.realisations.specs.Lists.{same_list}
use Rattle.realisations.specs.Points.{ArePoints, Point, Points}
use Rattle.realisations.specs.Readings.{AgreeAt, Reading, Terms, leaf, numerator, reads}
use Rattle.realisations.specs.Standardisation.{pack}
use Rattle.basis_representatives.proofs.SameLists.{same_list-true}
use Rattle.linear_combos.specs.Keys.{code_at}
use Rattle.linear_combos.proofs.Edits.{lowest_one}
use Rattle.change_laws.proofs.CompositionsByBits.{alike}
use Rattle.separation_laws.specs.Classes.{IsClassBasis, class_basis, class_for, index_of_word}
use Rattle.separation_laws.specs.Conversions.{Expresses, basis_at}
use Rattle.separation_laws.specs.FiniteTests.{TermsHaveOnePart, coarse_class, part}
use Rattle.separation_laws.specs.Separation.{ReadAlike}
use Rattle.separation_laws.proofs.Alike.{ClassesReadAlike}
use Rattle.separation_laws.proofs.ClassBases.{is_packed-pack}
use Rattle.separation_laws.proofs.Classes.{class-pack, length-representative}
use Rattle.separation_laws.proofs.CoarserClasses.{Refines}
use Rattle.separation_laws.proofs.Components.{kinds-remove, length-others}
use Rattle.separation_laws.proofs.EachTerm.{EachKey, each_key_at, each_weaker, index_at, indices-remove}
use Rattle.separation_laws.proofs.Equality.{same_from_agreement}
use Rattle.separation_laws.proofs.Parts.{each-part, numerator-part, terms-part}

-- the parts of indices of one class are the same
abbrev pub ClassesHaveOnePart : ℕ → BasisId → AlgebraId → Terms → Type 0
ClassesHaveOnePart n fine target ts = (c d : Code) → IsIndex fine c → IsIndex fine d → coarse_class target fine c ≡ coarse_class target fine d → part n c ts ≡ part n d ts

-- terms over 1 as a combination
abbrev whole : List BasisId → Terms → Combination
whole bases ts = record { rank = length bases; den = 1; terms = ts }

module _ (fine : BasisId) (fine_classes : IsClassBasis fine (index_of_word fine))
    (n : ℕ) (bases : List BasisId) (den : ℕ) (ts : Terms) (lt : n < length bases) (is : basis_at bases n ≡ fine) (terms : AreTerms (length bases) ts) (indices : EachKey (AreIndices bases) ts) where
  -- the part of a code is over the other bases, and expresses what it reads as
  part_over : (code : Code) (a : Reading) → ((qs : Points) → ArePoints (map kind_of (remove bases n)) qs → AgreeAt (leaf (remove bases n) 1 (part n code ts)) a qs)
      → Expresses (remove bases n) a (whole (remove bases n) (part n code ts))
  part_over code a reads = record {
    canonical = record { ordered = terms-part n bases code ts lt terms; lowest = lowest_one (part n code ts) };
    rank = refl;
    over = record {
      indices = each_key_at (AreIndices (remove bases n)) (part n code ts)
          (each-part (λ (t : ℤ × Key). AreIndices (remove bases n) t.1) n code ts
          (each_weaker (λ (t : ℤ × Key). AreIndices bases t.1) (λ (t : ℤ × Key). code ≡ code_at t.1 n → AreIndices (remove bases n) (remove t.1 n))
          (λ t h here. indices-remove n bases t.1 h) ts indices));
      reads = reads;
    };
  }

  -- where the parts of their indices are the same, words read alike
  pub alike_from_parts : (u v : Point) → part n (index_of_word fine u) ts ≡ part n (index_of_word fine v) ts → ReadAlike (leaf bases den ts) n u v
  alike_from_parts u v same qs others =
      let long = length-others n bases qs lt others in
      numerator-part fine (index_of_word fine) fine_classes n bases den 1 ts lt is indices u qs long
      ∙ ap (λ us. numerator (leaf (remove bases n) 1 us) qs) same
      ∙ sym (numerator-part fine (index_of_word fine) fine_classes n bases den 1 ts lt is indices v qs long)

  -- and the other way round, since combinations over the other bases are determined by their readings
  pub parts_from_alike : (u v : Point) → ReadAlike (leaf bases den ts) n u v → part n (index_of_word fine u) ts ≡ part n (index_of_word fine v) ts
  parts_from_alike u v alike =
      let cu = index_of_word fine u in
      let cv = index_of_word fine v in
      let first = leaf (remove bases n) 1 (part n cu ts) in
      ap (λ (c : Combination). c.terms)
      (same_from_agreement (remove bases n) first (whole (remove bases n) (part n cu ts)) (whole (remove bases n) (part n cv ts)) (omega arith)
      (part_over cu first (λ qs points. refl)) (part_over cv first (λ qs points. sym (agree qs points))))
    where
      agree : (qs : Points) → ArePoints (map kind_of (remove bases n)) qs → AgreeAt (leaf (remove bases n) 1 (part n (index_of_word fine u) ts)) (leaf (remove bases n) 1 (part n (index_of_word fine v) ts)) qs
      agree qs points =
          let others : ArePoints (remove (map kind_of bases) n) qs = subst (λ kinds. ArePoints kinds qs) (sym (kinds-remove n bases)) points in
          let long = length-others n bases qs lt others in
          ap (λ z. z *ℤ pos 1)
          (sym (numerator-part fine (index_of_word fine) fine_classes n bases den 1 ts lt is indices u qs long)
          ∙ alike qs others
          ∙ numerator-part fine (index_of_word fine) fine_classes n bases den 1 ts lt is indices v qs long)

  -- a code that is that of no term has no part
  part_or_none : (code : List ℕ) (us : Terms) → ((key : Key) × HasKey us key × (code_at key n ≡ code)) ⊎ (part n code us ≡ [])
  part_or_none code [] = inr refl
  part_or_none code (t ∷ us) = by_test (same_list code (code_at t.1 n)) refl (part_or_none code us)
    where
      by_test : (b : Bool) → same_list code (code_at t.1 n) ≡ b → ((key : Key) × HasKey us key × (code_at key n ≡ code)) ⊎ (part n code us ≡ [])
          → ((key : Key) × HasKey (t ∷ us) key × (code_at key n ≡ code)) ⊎ ((if b then (t.0, remove t.1 n) ∷ part n code us else part n code us) ≡ [])
      by_test true e rest = inl (t.1, (0, omega arith, refl), sym (same_list-true code (code_at t.1 n) e))
      by_test false e (inl has) = inl (has.0, (suc has.1.0, omega (arith, has.1.1), has.1.2), has.2)
      by_test false e (inr none) = inr none

  module _ (target : AlgebraId) (classes : IsClassBasis (class_basis target) (class_for target)) (refines : Refines fine target) where
    -- the coarse class of the class of a word is that of the word
    coarse_class-class : (w : List ℕ) → coarse_class target fine (index_of_word fine w) ≡ class_for target w
    coarse_class-class w = refines (representative fine (index_of_word fine w)) w (fine_classes.class (index_of_word fine w) (fine_classes.index w))

    -- where the parts of indices with one coarse class are the same, words of one coarse class read alike
    pub alike_from_one_part : ClassesHaveOnePart n fine target ts → ClassesReadAlike (leaf bases den ts) n target
    alike_from_one_part same u v pu pv class =
        alike_from_parts u v (same (index_of_word fine u) (index_of_word fine v) (fine_classes.index u) (fine_classes.index v) (coarse_class-class u ∙ class ∙ sym (coarse_class-class v)))

    -- and the other way round
    pub one_part_from_alike : ClassesReadAlike (leaf bases den ts) n target → ClassesHaveOnePart n fine target ts
    one_part_from_alike alike c d ic id same =
        let u = pack (representative fine c) in
        let v = pack (representative fine d) in
        let back = λ (code : List ℕ) (h : IsIndex fine code). class-pack fine (index_of_word fine) fine_classes (representative fine code) ∙ fine_classes.class code h in
        let class : class_for target u ≡ class_for target v =
        class-pack (class_basis target) (class_for target) classes (representative fine c) ∙ same ∙ sym (class-pack (class_basis target) (class_for target) classes (representative fine d)) in
        ap (λ code. part n code ts) (sym (back c ic))
        ∙ parts_from_alike u v (alike u v (is_packed-pack (representative fine c)) (is_packed-pack (representative fine d)) class)
        ∙ ap (λ code. part n code ts) (back d id)

    -- indices of one coarse class have one degree
    pub degree_same : (c d : List ℕ) → IsIndex fine c → IsIndex fine d → coarse_class target fine c ≡ coarse_class target fine d → degree_of fine d ≡ degree_of fine c
    degree_same c d ic id same =
        sym (length-representative fine (index_of_word fine) fine_classes d id) ∙ sym (classes.degree (representative fine d)) ∙ ap (degree_of (class_basis target)) (sym same)
        ∙ classes.degree (representative fine c) ∙ length-representative fine (index_of_word fine) fine_classes c ic

    -- the finite test suffices
    pub one_part_from_terms : TermsHaveOnePart n fine target ts → ClassesHaveOnePart n fine target ts
    one_part_from_terms test c d ic id same = elim (part_or_none c ts) [
      | inl (key, has, here) ↦ found key has c here d ic id same
      | inr none ↦ elim (part_or_none d ts) [
        | inl (key, has, here) ↦ sym (found key has d here c id ic (sym same))
        | inr none' ↦ none ∙ sym none'
      ]
    ]
      where
        found : (key : Key) → HasKey ts key → (c : List ℕ) → code_at key n ≡ c → (d : List ℕ) → IsIndex fine c → IsIndex fine d → coarse_class target fine c ≡ coarse_class target fine d
            → part n c ts ≡ part n d ts
        found key has c here d ic id same =
            ap (λ code. part n code ts) (sym here)
            ∙ test key has d (record { index = id; degree = degree_same c d ic id same ∙ ap (degree_of fine) (sym here); same_class = sym same ∙ ap (coarse_class target fine) (sym here) })

    -- and is needed
    pub terms_from_one_part : ClassesHaveOnePart n fine target ts → TermsHaveOnePart n fine target ts
    terms_from_one_part same key has e in_class =
        same (code_at key n) e (subst (λ basis. IsIndex basis (code_at key n)) is (index_at n bases key lt (each_key_at (AreIndices bases) ts indices key has))) in_class.index (sym in_class.same_class)
