-- Where words of one class read alike, there are terms over each basis of the algebra that read as the leaf does, and a canonical combination where they have room.
use Rattle.std.proofs.Common.{◌≡◌, ℕ, IsTrue, ◌*◌, ◌^◌, ◌<◌, ◌≤◌, List, [], length, map, get_or, set, insert, remove, refl, sym, ◌∙◌, ap, subst, arith, pow_mono, le_trans, mul-le-mul_left}
use Rattle.std.proofs.Math.IntN.{ℤ, pos, ◌*ℤ◌}
use Rattle.std.proofs.lemmas.List.{length-map}
use Rattle.basis_names.specs.declared.bases.AlgebraId.{AlgebraId}
use Rattle.basis_names.specs.declared.bases.BasisId.{BasisId}
use Rattle.realisations.specs.Bases.{has_words, kind_of}
use Rattle.realisations.specs.Codes.{Code, Key}
use Rattle.realisations.specs.Combinations.{Combination, norm_of, term_at}
use Rattle.realisations.specs.Indices.{AreIndices, degree_of, total_degree}
use Rattle.realisations.specs.Points.{ArePoints, IsPoint, Point, Points, word}
use Rattle.realisations.specs.Readings.{AgreeAt, Reading, Terms, leaf, numerator, occurrence, reads}
use Rattle.realisations.proofs.Agreement.{agree_trans}
use Rattle.realisations.proofs.TuplesOfPoints.{length-points_over}
use Rattle.basis_representatives.proofs.Places.{within}
use Rattle.linear_combos.specs.Keys.{code_at}
use Rattle.change_laws.proofs.CompositionsByBits.{alike}
use Rattle.change_laws.proofs.LiftedKeys.{length-indices}
use Rattle.separation_laws.specs.Classes.{IsClassBasis, class_basis, class_for}
use Rattle.separation_laws.specs.Conversions.{IsConversion, ReadsOver, basis_at}
use Rattle.separation_laws.proofs.Alike.{ClassesReadAlike, words_alike}
use Rattle.separation_laws.proofs.Canonical.{IsCanonicalOver, combination_exists}
use Rattle.separation_laws.proofs.ClassBases.{classes_of}
use Rattle.separation_laws.proofs.ClassEntries.{class_entries, degree-class_entries, norm-class_entries, occur-class_entries}
use Rattle.separation_laws.proofs.Classes.{word_for}
use Rattle.separation_laws.proofs.Components.{insert-remove, kinds-set, length-others, point_at, points-remove}
use Rattle.separation_laws.proofs.EachTerm.{EachKey, degree_at-le, each_both, each_key_at, each_weaker}
use Rattle.separation_laws.proofs.ExpandedKeys.{IsReplacedAt, degrees-expanded, indices-expanded}
use Rattle.separation_laws.proofs.Expansions.{OccursAs, expanded, norm-expanded, numerator-expanded}
use Rattle.separation_laws.proofs.Listings.{IsListing, growth_of, has_listing}

-- terms of indices with room that read as a reading does have a canonical combination
pub conversion_of_terms : (bases : List BasisId) (a : Reading) (den d m : ℕ) (us : Terms) → EachKey (AreIndices bases) us → EachKey (λ key. total_degree bases key ≤ d) us
    → norm_of us ≤ m → m < 2 ^ 127 → 1 ≤ den → den < 2 ^ 127 → ((ps : Points) → ArePoints (map kind_of bases) ps → AgreeAt (leaf bases den us) a ps)
    → (c : Combination) × IsConversion bases d m den a c
conversion_of_terms bases a den d m us indices degrees norm room positive small reads =
    let made = combination_exists (length bases) den us
    (λ i below. length-indices bases ((term_at us i).1) (each_key_at (AreIndices bases) us indices ((term_at us i).1) (i, below, refl))) (omega arith) positive small in
    (made.0, conversion_of made.0 made.1)
  where
    conversion_of : (c : Combination) → IsCanonicalOver (length bases) den us c → IsConversion bases d m den a c
    conversion_of c made = record {
      expresses = record {
        canonical = made.canonical;
        rank = made.over.rank;
        over = record {
          indices = λ key has. each_key_at (AreIndices bases) us indices key (made.over.keys key has);
          reads = λ ps points. agree_trans (leaf bases c.den c.terms) (leaf bases den us) a ps positive (made.over.weighs (λ key. pos (occurrence bases key ps))) (reads ps points);
        };
      };
      degrees = λ key has. each_key_at (λ k. total_degree bases k ≤ d) us degrees key (made.over.keys key has);
      norm = le_trans made.over.norm_within norm;
      den = made.over.den_within;
    }

-- terms over another basis of words in one component that read as the leaf does wherever a word is put there
pub reads_at_words : (n : ℕ) (bases : List BasisId) (to : BasisId) → n < length bases → kind_of (basis_at bases n) ≡ word → kind_of to ≡ word → (den : ℕ) (ts us : Terms)
    → ((qs : Points) → ArePoints (remove (map kind_of bases) n) qs → (p : Point) → IsPoint word p → numerator (leaf (set bases n to) den us) (insert qs n p) ≡ numerator (leaf bases den ts) (insert qs n p))
    → (ps : Points) → ArePoints (map kind_of (set bases n to)) ps → AgreeAt (leaf (set bases n to) den us) (leaf bases den ts) ps
reads_at_words n bases to lt kind kind' den ts us same ps points =
    let here : ArePoints (map kind_of bases) ps = subst (λ kinds. ArePoints kinds ps) (kinds-set n bases to (kind ∙ sym kind')) points in
    let long = length-points_over bases ps here in
    let p = get_or ps n [] in
    let qs = remove ps n in
    let whole : insert qs n p ≡ ps = insert-remove ps n [] (omega arith) in
    let point : IsPoint word p = subst (λ k. IsPoint k p) kind (point_at n bases ps lt here) in
    let others = points-remove n (map kind_of bases) ps (omega (arith, length-map bases kind_of)) here in
    ap (λ z. z *ℤ pos den) (ap (λ xs. numerator (leaf (set bases n to) den us) xs) (sym whole) ∙ same qs others p point ∙ ap (λ xs. numerator (leaf bases den ts) xs) whole)

module _ (target : AlgebraId) (classes : IsClassBasis (class_basis target) (class_for target)) (growth : ℕ) (listing : ℕ → List Code) (lists : IsListing (class_basis target) growth listing)
    (n : ℕ) (bases : List BasisId) (lt : n < length bases) (kind : kind_of (basis_at bases n) ≡ word) (den : ℕ) (ts : Terms) (indices : EachKey (AreIndices bases) ts) where
  -- the leaf read at the representatives of classes
  abbrev pub converted : Terms
  converted = expanded n (class_entries (basis_at bases n) target listing) ts

  -- each key has its code replaced by indices of its degree
  each_replaced : EachKey (IsReplacedAt n bases (basis_at bases n) (class_basis target) (class_entries (basis_at bases n) target listing)) ts
  each_replaced =
      each_weaker (λ (t : ℤ × Key). AreIndices bases t.1) (λ (t : ℤ × Key). IsReplacedAt n bases (basis_at bases n) (class_basis target) (class_entries (basis_at bases n) target listing) t.1)
      (λ t h. (h, degree-class_entries target classes growth listing lists (basis_at bases n) kind (code_at t.1 n))) ts indices

  pub indices-converted : EachKey (AreIndices (set bases n (class_basis target))) converted
  indices-converted = indices-expanded n bases lt (basis_at bases n) (class_basis target) refl (class_entries (basis_at bases n) target listing) ts each_replaced

  pub degrees-converted : (d : ℕ) → EachKey (λ key. total_degree bases key ≤ d) ts → EachKey (λ key. total_degree (set bases n (class_basis target)) key ≤ d) converted
  degrees-converted d within = degrees-expanded n bases lt (basis_at bases n) (class_basis target) refl (class_entries (basis_at bases n) target listing) ts d each_replaced within

  -- where words of one class read alike, the converted terms read as the leaf does
  pub numerator-converted : ClassesReadAlike (leaf bases den ts) n target → (den' : ℕ) (qs : Points) → ArePoints (remove (map kind_of bases) n) qs → (p : Point)
      → numerator (leaf (set bases n (class_basis target)) den' converted) (insert qs n p) ≡ numerator (leaf bases den ts) (insert qs n p)
  numerator-converted alike den' qs others p =
      let q = word_for target (class_for target p) in
      numerator-expanded n bases lt (basis_at bases n) (class_basis target) refl (class_entries (basis_at bases n) target listing) qs (length-others n bases qs lt others) p q den den' ts
      (each_weaker (λ (t : ℤ × Key). AreIndices bases t.1)
      (λ (t : ℤ × Key). AreIndices bases t.1 × OccursAs (class_basis target) (class_entries (basis_at bases n) target listing (code_at t.1 n)) p (basis_at bases n) (code_at t.1 n) q)
      (λ t h. (h, occur-class_entries target classes growth listing lists (basis_at bases n) kind (code_at t.1 n) p)) ts indices)
      ∙ words_alike n bases den ts lt indices kind target classes alike q p (classes.class (class_for target p) (classes.index p)) qs others

  -- the norm grows at most by the number of indices
  pub norm-converted : (d : ℕ) → d ≤ 32 → EachKey (λ key. total_degree bases key ≤ d) ts → norm_of converted ≤ norm_of ts * 2 ^ (growth * d)
  norm-converted d small within =
      let basis = basis_at bases n in
      norm-expanded n (2 ^ (growth * d)) (class_entries basis target listing) ts
      (each_weaker (λ (t : ℤ × Key). AreIndices bases t.1 × (total_degree bases t.1 ≤ d)) (λ (t : ℤ × Key). norm_of (class_entries basis target listing (code_at t.1 n)) ≤ 2 ^ (growth * d))
      (λ t h.
      let m = degree_of basis (code_at t.1 n) in
      let le : m ≤ d = omega (arith, degree_at-le n bases t.1 lt h.0, h.1) in
      let more : growth * m ≤ growth * d = mul-le-mul_left growth le in
      le_trans (norm-class_entries target classes growth listing lists basis kind (code_at t.1 n)) (le_trans (lists.few m (omega arith)) (pow_mono more)))
      ts (each_both (λ (t : ℤ × Key). AreIndices bases t.1) (λ (t : ℤ × Key). total_degree bases t.1 ≤ d) ts indices within))

-- where words of one class read alike, there are terms over the class basis that read as the leaf does
pub terms_over_classes : (target : AlgebraId) → IsTrue (has_words target) → (n : ℕ) (bases : List BasisId) → n < length bases → kind_of (basis_at bases n) ≡ word
    → (den : ℕ) (ts : Terms) → EachKey (AreIndices bases) ts → ClassesReadAlike (leaf bases den ts) n target → (us : Terms) × ReadsOver (set bases n (class_basis target)) (leaf bases den ts) den us
terms_over_classes target words n bases lt kind den ts indices alike =
    let classes = classes_of target words in
    let has = has_listing target words in
    let us = converted target classes (growth_of target) has.listing has.is n bases lt kind den ts indices in (
      us,
      record {
        indices = each_key_at (AreIndices (set bases n (class_basis target))) us (indices-converted target classes (growth_of target) has.listing has.is n bases lt kind den ts indices);
        reads = reads_at_words n bases (class_basis target) lt kind classes.kind den ts us
            (λ qs others p point. numerator-converted target classes (growth_of target) has.listing has.is n bases lt kind den ts indices alike den qs others p);
      },
    )
