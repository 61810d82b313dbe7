-- Kept terms read at each word as the old ones at the representative of its coarse class; so they are the conversion wherever there is one.
use Rattle.std.proofs.Common.{◌≡◌, ℕ, suc, ◌*◌, ◌<◌, ◌≤◌, Bool, true, false, if◌then◌else◌, List, [], ◌∷◌, length, map, set, insert, remove, refl, sym, ◌∙◌, ap, subst, arith, unsigned_abs}
use Rattle.std.proofs.Math.IntN.{ℤ, pos, ◌+ℤ◌, ◌*ℤ◌, *ℤ-zero}
use Rattle.std.proofs.lemmas.Int.{ints}
use Rattle.std.proofs.lemmas.List.Sums.{sum_by-cons}
use Rattle.basis_names.specs.declared.bases.AlgebraId.{AlgebraId}
use Rattle.basis_names.specs.declared.bases.BasisId.{BasisId}
use Rattle.realisations.specs.Bases.{kind_of, representative}
use Rattle.realisations.specs.Codes.{Key}
use Rattle.realisations.specs.Combinations.{norm_of, weighed}
use Rattle.realisations.specs.Indices.{AreIndices, IsIndex, degree_of, total_degree}
use Rattle.realisations.specs.Lists.{one_if, same_list}
use Rattle.realisations.specs.Occurrence.{occurs}
use Rattle.realisations.specs.Points.{ArePoints, Points, word}
use Rattle.realisations.specs.Readings.{AgreeAt, Terms, leaf, numerator, occurrence}
use Rattle.basis_representatives.proofs.Places.{within}
use Rattle.basis_representatives.proofs.SameLists.{same_list-true}
use Rattle.linear_combos.specs.Keys.{code_at}
use Rattle.change_laws.proofs.CompositionsByBits.{alike}
use Rattle.change_laws.proofs.LiftedKeys.{length-indices}
use Rattle.product_laws.proofs.Tests.{same_list-is}
use Rattle.separation_laws.specs.Classes.{IsClassBasis, class_basis, class_for, index_of_word}
use Rattle.separation_laws.specs.Conversions.{basis_at}
use Rattle.separation_laws.specs.FiniteTests.{coarse_class, kept}
use Rattle.separation_laws.proofs.Alike.{ClassesReadAlike, words_alike}
use Rattle.separation_laws.proofs.Classes.{length-representative, word_for}
use Rattle.separation_laws.proofs.CoarserClasses.{Refines}
use Rattle.separation_laws.proofs.Components.{length-others, occurrence-insert}
use Rattle.separation_laws.proofs.ConversionsExist.{reads_at_words}
use Rattle.separation_laws.proofs.EachTerm.{EachKey, each_both, each_weaker, index_at, indices-set, total_degree-set}
use Rattle.separation_laws.proofs.Expansions.{occurrence-set}

module _ (fine : BasisId) (fine_classes : IsClassBasis fine (index_of_word fine)) (target : AlgebraId) (classes : IsClassBasis (class_basis target) (class_for target)) (refines : Refines fine target) where
  -- a fine index is the class of the representative of a coarse class x exactly where its coarse class is x and it is the class of the representative of its own
  abbrev IsKept : List ℕ → Bool
  IsKept f = same_list (index_of_word fine (word_for target (coarse_class target fine f))) f

  -- as a product of tests
  kept_once : (f x : List ℕ) → IsIndex fine f → IsIndex (class_basis target) x → one_if (IsKept f) * one_if (same_list x (coarse_class target fine f)) ≡ one_if (same_list (index_of_word fine (word_for target x)) f)
  kept_once f x index_f index_x = by_tests (IsKept f) refl (same_list x (coarse_class target fine f)) refl (same_list (index_of_word fine (word_for target x)) f) refl
    where
      by_tests : (k : Bool) → IsKept f ≡ k → (s : Bool) → same_list x (coarse_class target fine f) ≡ s → (r : Bool) → same_list (index_of_word fine (word_for target x)) f ≡ r
          → one_if k * one_if s ≡ one_if r
      by_tests k ek s es true er =
          let class : index_of_word fine (word_for target x) ≡ f = same_list-true (index_of_word fine (word_for target x)) f er in
          let same : coarse_class target fine f ≡ x = refines (representative fine f) (word_for target x) (fine_classes.class f index_f ∙ sym class) ∙ classes.class x index_x in
          let is_kept : IsKept f ≡ true = ap (λ y. same_list (index_of_word fine (word_for target y)) f) same ∙ er in
          let is_same : same_list x (coarse_class target fine f) ≡ true = same_list-is x (coarse_class target fine f) (sym same) in
          (λ i. one_if ((sym ek ∙ is_kept) i) * one_if ((sym es ∙ is_same) i)) ∙ (let e : 1 * 1 ≡ 1 = omega arith in e)
      by_tests true ek true es false er =
          let same : x ≡ coarse_class target fine f = same_list-true x (coarse_class target fine f) es in
          let there : same_list (index_of_word fine (word_for target x)) f ≡ true = ap (λ y. same_list (index_of_word fine (word_for target y)) f) same ∙ ek in
          absurd (cc)
      by_tests true ek false es false er = omega arith
      by_tests false ek s es false er = omega arith

  -- a weight of kept terms
  weighed-kept : (n : ℕ) (f g : Key → ℕ) (ts : Terms)
      → EachKey (λ key. one_if (IsKept (code_at key n)) * f (set key n (coarse_class target fine (code_at key n))) ≡ g key) ts
      → weighed (λ key. pos (f key)) (kept n fine target ts) ≡ weighed (λ key. pos (g key)) ts
  weighed-kept n f g [] h = refl
  weighed-kept n f g (t ∷ ts) h = by_test (IsKept (code_at t.1 n)) h.0 (weighed-kept n f g ts h.1)
    where
      by_test : (b : Bool) → one_if b * f (set t.1 n (coarse_class target fine (code_at t.1 n))) ≡ g t.1
          → weighed (λ key. pos (f key)) (kept n fine target ts) ≡ weighed (λ key. pos (g key)) ts
          → weighed (λ key. pos (f key)) (if b then (t.0, set t.1 n (coarse_class target fine (code_at t.1 n))) ∷ kept n fine target ts else kept n fine target ts)
          ≡ t.0 *ℤ pos (g t.1) +ℤ weighed (λ key. pos (g key)) ts
      by_test true e ih =
          let same : f (set t.1 n (coarse_class target fine (code_at t.1 n))) ≡ g t.1 = omega arith in
          λ i. (t.0 *ℤ pos (same i)) +ℤ ih i
      by_test false e ih =
          let none : g t.1 ≡ 0 = omega arith in
          omega (arith, ints, ih, ap (λ k. t.0 *ℤ pos k) none, *ℤ-zero t.0)

  -- what each key has once its code is replaced by its coarse class, each kept key has
  pub each-kept : (P Q : Key → Type 0) (n : ℕ) (ts : Terms) → ((key : Key) → Q key → P (set key n (coarse_class target fine (code_at key n)))) → EachKey Q ts
      → EachKey P (kept n fine target ts)
  each-kept P Q n [] step h = tt
  each-kept P Q n (t ∷ ts) step h = by_test (IsKept (code_at t.1 n)) (each-kept P Q n ts step h.1)
    where
      by_test : (b : Bool) → EachKey P (kept n fine target ts)
          → EachKey P (if b then (t.0, set t.1 n (coarse_class target fine (code_at t.1 n))) ∷ kept n fine target ts else kept n fine target ts)
      by_test true ih = (step t.1 h.0, ih)
      by_test false ih = ih

  -- keeping terms makes the norm no larger
  pub norm-kept : (n : ℕ) (ts : Terms) → norm_of (kept n fine target ts) ≤ norm_of ts
  norm-kept n [] = omega arith
  norm-kept n (t ∷ ts) = by_test (IsKept (code_at t.1 n)) (norm-kept n ts)
    where
      by_test : (b : Bool) → norm_of (kept n fine target ts) ≤ norm_of ts
          → norm_of (if b then (t.0, set t.1 n (coarse_class target fine (code_at t.1 n))) ∷ kept n fine target ts else kept n fine target ts) ≤ norm_of (t ∷ ts)
      by_test true ih =
          omega (
            arith,
            sum_by-cons (λ (u : ℤ × Key). unsigned_abs u.0) t ts,
            sum_by-cons (λ (u : ℤ × Key). unsigned_abs u.0) (t.0, set t.1 n (coarse_class target fine (code_at t.1 n))) (kept n fine target ts),
          )
      by_test false ih = omega (arith, sum_by-cons (λ (u : ℤ × Key). unsigned_abs u.0) t ts)

  module _ (n : ℕ) (bases : List BasisId) (lt : n < length bases) (is : basis_at bases n ≡ fine) (den : ℕ) (ts : Terms) (indices : EachKey (AreIndices bases) ts) where
    -- kept terms read at a word as the terms at the representative of its class
    pub numerator-kept : (den' : ℕ) (qs : Points) → suc (length qs) ≡ length bases → (p : List ℕ)
        → numerator (leaf (set bases n (class_basis target)) den' (kept n fine target ts)) (insert qs n p) ≡ numerator (leaf bases den ts) (insert qs n (word_for target (class_for target p)))
    numerator-kept den' qs long p =
        let x = class_for target p in
        weighed-kept n (λ key. occurrence (set bases n (class_basis target)) key (insert qs n p)) (λ key. occurrence bases key (insert qs n (word_for target x))) ts
        (each_weaker (λ (t : ℤ × Key). AreIndices bases t.1)
        (λ (t : ℤ × Key). one_if (IsKept (code_at t.1 n)) * occurrence (set bases n (class_basis target)) (set t.1 n (coarse_class target fine (code_at t.1 n))) (insert qs n p)
        ≡ occurrence bases t.1 (insert qs n (word_for target x)))
        (λ t h.
        let f = code_at t.1 n in
        let same = length-indices bases t.1 h in
        let r = occurrence (remove bases n) (remove t.1 n) qs in
        let there : occurrence (set bases n (class_basis target)) (set t.1 n (coarse_class target fine f)) (insert qs n p) ≡ one_if (same_list x (coarse_class target fine f)) * r =
        occurrence-set n bases (class_basis target) t.1 qs (coarse_class target fine f) p lt same long ∙ ap (λ b. one_if b * r) (classes.occurs_in (coarse_class target fine f) p) in
        let here : occurrence bases t.1 (insert qs n (word_for target x)) ≡ one_if (same_list (index_of_word fine (word_for target x)) f) * r =
        occurrence-insert n bases t.1 qs (word_for target x) lt same long ∙ ap (λ basis. one_if (occurs basis f (word_for target x)) * r) is ∙ ap (λ b. one_if b * r) (fine_classes.occurs_in f (word_for target x)) in
        let once = kept_once f x (subst (λ basis. IsIndex basis f) is (index_at n bases t.1 lt h)) (classes.index p) in
        omega (arith, ap (λ k. one_if (IsKept f) * k) there, here, ap (λ k. k * r) once))
        ts indices)

    -- their keys are indices
    pub indices-kept : EachKey (AreIndices (set bases n (class_basis target))) (kept n fine target ts)
    indices-kept =
        each-kept (AreIndices (set bases n (class_basis target))) (AreIndices bases) n ts
        (λ key h. indices-set n bases (class_basis target) key (coarse_class target fine (code_at key n)) lt h (classes.index (representative fine (code_at key n)))) indices

    -- of the same total degrees
    pub degrees-kept : (d : ℕ) → EachKey (λ key. total_degree bases key ≤ d) ts → EachKey (λ key. total_degree (set bases n (class_basis target)) key ≤ d) (kept n fine target ts)
    degrees-kept d within =
        each-kept (λ key. total_degree (set bases n (class_basis target)) key ≤ d) (λ key. AreIndices bases key × (total_degree bases key ≤ d)) n ts
        (λ key h.
        let f = code_at key n in
        let same : degree_of (class_basis target) (coarse_class target fine f) ≡ degree_of (basis_at bases n) f =
        classes.degree (representative fine f) ∙ length-representative fine (index_of_word fine) fine_classes f (subst (λ basis. IsIndex basis f) is (index_at n bases key lt h.0)) ∙ ap (λ basis. degree_of basis f) (sym is) in
        omega (arith, same, total_degree-set n bases (class_basis target) key (coarse_class target fine f) lt h.0, h.1))
        (each_both (λ (t : ℤ × Key). AreIndices bases t.1) (λ (t : ℤ × Key). total_degree bases t.1 ≤ d) ts indices within)

    -- where words of one class read alike, the kept terms read as the leaf does
    pub kept_reads : ClassesReadAlike (leaf bases den ts) n target → (ps : Points) → ArePoints (map kind_of (set bases n (class_basis target))) ps
        → AgreeAt (leaf (set bases n (class_basis target)) den (kept n fine target ts)) (leaf bases den ts) ps
    kept_reads alike =
        let kind : kind_of (basis_at bases n) ≡ word = ap kind_of is ∙ fine_classes.kind in
        reads_at_words n bases (class_basis target) lt kind classes.kind den ts (kept n fine target ts)
        (λ qs others p point.
        numerator-kept den qs (length-others n bases qs lt others) p
        ∙ words_alike n bases den ts lt indices kind target classes alike (word_for target (class_for target p)) p (classes.class (class_for target p) (classes.index p)) qs others)
