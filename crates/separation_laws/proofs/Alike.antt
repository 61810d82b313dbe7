-- Words of one class read alike exactly where terms over a basis of the algebra read as the leaf does.
use Rattle.std.proofs.Common.{◌≡◌, ℕ, suc, ◌*◌, ◌<◌, ◌≤◌, List, length, map, set, insert, remove, sym, ◌∙◌, ap, subst, arith, length-set}
use Rattle.std.specs.Prelude.{IsTrue}
use Rattle.std.proofs.Math.IntN.{ℤ, pos, ◌*ℤ◌}
use Rattle.std.proofs.lemmas.List.{length-map, get_or-set_same}
use Rattle.basis_names.specs.declared.bases.AlgebraId.{AlgebraId}
use Rattle.basis_names.specs.declared.bases.BasisId.{BasisId}
use Rattle.basis_names.specs.declared.bases.BasisId.TheVariants.{QsymM}
use Rattle.hopf_num.proofs.Ring.{*ℤ-pos_cancel}
use Rattle.realisations.specs.Bases.{kind_of}
use Rattle.realisations.specs.Codes.{Code, Key}
use Rattle.realisations.specs.IndexKinds.{is_packed}
use Rattle.realisations.specs.Indices.{AreIndices}
use Rattle.realisations.specs.Lists.{one_if}
use Rattle.realisations.specs.Occurrence.{occurs}
use Rattle.realisations.specs.Points.{ArePoints, Point, Points, word}
use Rattle.realisations.specs.Readings.{Reading, Terms, leaf, numerator, occurrence}
use Rattle.realisations.specs.Standardisation.{pack}
use Rattle.realisations.proofs.Coefficients.{weighed_same}
use Rattle.linear_combos.specs.Keys.{code_at}
use Rattle.change_laws.proofs.CompositionsByBits.{alike}
use Rattle.change_laws.proofs.LiftedKeys.{length-indices}
use Rattle.separation_laws.specs.Classes.{IsClassBasis, class_basis, class_for}
use Rattle.separation_laws.specs.Conversions.{ReadsOver, basis_at}
use Rattle.separation_laws.specs.Separation.{ReadAlike}
use Rattle.separation_laws.proofs.ClassBases.{is_packed-pack, occurs-pack, packed_point}
use Rattle.separation_laws.proofs.Classes.{class-pack}
use Rattle.separation_laws.proofs.CoarserClasses.{OccursAlike}
use Rattle.separation_laws.proofs.Components.{kinds-set, length-others, occurrence-insert, points-insert}
use Rattle.separation_laws.proofs.EachTerm.{EachKey, each_key_from, each_weaker}

-- packed words of one class read alike
abbrev pub ClassesReadAlike : Reading → ℕ → AlgebraId → Type 0
ClassesReadAlike a n target = (u v : Point) → IsTrue (is_packed u) → IsTrue (is_packed v) → class_for target u ≡ class_for target v → ReadAlike a n u v

-- a leaf reads the same at two words in one component where each element of its basis occurs at both or at none
pub reads_same : (n : ℕ) (bases : List BasisId) (den : ℕ) (ts : Terms) → n < length bases → EachKey (AreIndices bases) ts
    → (p q : Point) → ((code : Code) → occurs (basis_at bases n) code p ≡ occurs (basis_at bases n) code q)
    → (qs : Points) → suc (length qs) ≡ length bases
    → numerator (leaf bases den ts) (insert qs n p) ≡ numerator (leaf bases den ts) (insert qs n q)
reads_same n bases den ts lt indices p q same qs long =
    weighed_same (λ key. pos (occurrence bases key (insert qs n p))) (λ key. pos (occurrence bases key (insert qs n q))) ts
    (each_weaker (λ (t : ℤ × Key). AreIndices bases t.1) (λ (t : ℤ × Key). pos (occurrence bases t.1 (insert qs n p)) ≡ pos (occurrence bases t.1 (insert qs n q)))
    (λ t h. ap pos
    (occurrence-insert n bases t.1 qs p lt (length-indices bases t.1 h) long
    ∙ ap (λ b. one_if b * occurrence (remove bases n) (remove t.1 n) qs) (same (code_at t.1 n))
    ∙ sym (occurrence-insert n bases t.1 qs q lt (length-indices bases t.1 h) long)))
    ts indices)

-- a leaf over a basis whose elements occur at words of one class alike reads alike at these
pub alike_in_class : (n : ℕ) (bases : List BasisId) (den : ℕ) (ts : Terms) (target : AlgebraId) → n < length bases → EachKey (AreIndices bases) ts → OccursAlike (basis_at bases n) target
    → ClassesReadAlike (leaf bases den ts) n target
alike_in_class n bases den ts target lt indices occur u v pu pv class qs others =
    reads_same n bases den ts lt indices u v (λ code. occur code u v class) qs (length-others n bases qs lt others)

module _ (n : ℕ) (bases : List BasisId) (den : ℕ) (ts : Terms) (lt : n < length bases) (indices : EachKey (AreIndices bases) ts) (kind : kind_of (basis_at bases n) ≡ word) where
  -- where packed words of one class read alike, so do words
  pub words_alike : (target : AlgebraId) (classes : IsClassBasis (class_basis target) (class_for target)) → ClassesReadAlike (leaf bases den ts) n target
      → (p q : Point) → class_for target p ≡ class_for target q → ReadAlike (leaf bases den ts) n p q
  words_alike target classes alike p q same qs others =
      let long = length-others n bases qs lt others in
      reads_same n bases den ts lt indices p (pack p) (λ code. occurs-pack (basis_at bases n) kind code p) qs long
      ∙ alike (pack p) (pack q) (is_packed-pack p) (is_packed-pack q)
      (class-pack (class_basis target) (class_for target) classes p ∙ same ∙ sym (class-pack (class_basis target) (class_for target) classes q)) qs others
      ∙ sym (reads_same n bases den ts lt indices q (pack q) (λ code. occurs-pack (basis_at bases n) kind code q) qs long)

  -- where terms over a basis of the algebra read as the leaf does, words of one class read alike
  pub alike_from_terms : (to : BasisId) → kind_of to ≡ word → (den' : ℕ) (us : Terms) → 1 ≤ den' → ReadsOver (set bases n to) (leaf bases den ts) den' us
      → (target : AlgebraId) → OccursAlike to target → ClassesReadAlike (leaf bases den ts) n target
  alike_from_terms to kind' den' us positive over target occur u v pu pv same qs others =
      let bases' = set bases n to in
      let set_long = length-set bases n to in
      let lt' : n < length bases' = omega arith in
      let kinds : map kind_of bases' ≡ map kind_of bases = kinds-set n bases to (kind ∙ sym kind') in
      let many = length-map bases kind_of in
      let at = λ (w : Point) (packed : IsTrue (is_packed w)). over.reads (insert qs n w)
      (subst (λ ks. ArePoints ks (insert qs n w)) (sym kinds) (points-insert n (map kind_of bases) qs w (omega arith) others (packed_point w packed))) in
      let there : OccursAlike (basis_at bases' n) target = subst (λ basis. OccursAlike basis target) (sym (get_or-set_same bases n to QsymM lt)) occur in
      let same' = alike_in_class n bases' den' us target lt' (each_key_from (AreIndices bases') us over.indices) there u v pu pv same qs
      (subst (λ ks. ArePoints (remove ks n) qs) (sym kinds) others) in
      *ℤ-pos_cancel (numerator (leaf bases den ts) (insert qs n u)) (numerator (leaf bases den ts) (insert qs n v)) den' positive
      (sym (at u pu) ∙ ap (λ z. z *ℤ pos den) same' ∙ at v pv)
