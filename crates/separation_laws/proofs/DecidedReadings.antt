-- Whether two words read alike is decided by the bounded points of the other components.
use Rattle.std.proofs.Common.{◌≡◌, ℕ, suc, ◌*◌, ◌<◌, ◌≤◌, ◌⊎◌, inl, inr, Bool, true, false, List, [], ◌∷◌, length, map, insert, remove, refl, sym, ◌∙◌, ap, subst, arith, le_trans}
use Rattle.std.proofs.Math.IntN.{ℤ, pos, ◌*ℤ◌, *ℤ-zero}
use Rattle.std.specs.Ordering.{int_eq}
use Rattle.std.specs.Bool.{Decides}
use Rattle.std.proofs.lemmas.Int.{ints}
use Rattle.std.proofs.lemmas.Bool.{false≢true}
use Rattle.std.proofs.lemmas.Bool.Decides.{Decides-int_eq}
use Rattle.std.proofs.lemmas.List.{length-map}
use Rattle.std.proofs.lemmas.List.Edits.{length-remove}
use Rattle.basis_names.specs.declared.bases.BasisId.{BasisId}
use Rattle.realisations.specs.Bases.{kind_of}
use Rattle.realisations.specs.Codes.{Key}
use Rattle.realisations.specs.Combinations.{weighed}
use Rattle.realisations.specs.Indices.{AreIndices, total_degree}
use Rattle.realisations.specs.Lists.{one_if}
use Rattle.realisations.specs.Occurrence.{occurs}
use Rattle.realisations.specs.Points.{ArePoints, Kind, Points, patterns, word}
use Rattle.realisations.specs.Readings.{Terms, leaf, numerator, occurrence}
use Rattle.realisations.proofs.Coefficients.{weighed_same}
use Rattle.realisations.proofs.Pattern.{occurrence-patterns}
use Rattle.linear_combos.specs.Keys.{code_at}
use Rattle.change_laws.proofs.LiftedKeys.{length-indices}
use Rattle.separation_laws.specs.Conversions.{basis_at}
use Rattle.separation_laws.specs.Separation.{ReadAlike, ReadDifferently}
use Rattle.separation_laws.proofs.BoundedPoints.{bounded_or_none, total_degree-remove, tuple_of_points, tuples_within}
use Rattle.separation_laws.proofs.Classes.{length-occurs}
use Rattle.separation_laws.proofs.Components.{kinds-remove, length-others, occurrence-insert}
use Rattle.separation_laws.proofs.EachTerm.{EachKey, degree_at-le, each_both, each_weaker}
use Rattle.separation_laws.proofs.Least.{Decided, all_or_some}
use Rattle.separation_laws.proofs.Members.{Member}

-- a test that decides
pub decided_from : {P : Type 0} (b : Bool) → Decides b P → Decided P
decided_from true d = inl (d.0 refl)
decided_from false d = inr (λ p. false≢true (d.1 p))

-- two integers are the same or not
pub decided_int : (x y : ℤ) → Decided (x ≡ y)
decided_int x y = decided_from (int_eq x y) (Decides-int_eq x y)

-- keys that weigh nothing
pub weighed_none : (f : Key → ℤ) (ts : Terms) → EachKey (λ key. f key ≡ pos 0) ts → weighed f ts ≡ pos 0
weighed_none f [] h = refl
weighed_none f (t ∷ ts) h = omega (arith, ints, ap (λ z. t.0 *ℤ z) h.0, *ℤ-zero t.0, weighed_none f ts h.1)

-- patterns are as many as the points
length-patterns : (kinds : List Kind) (ps : Points) → length (patterns kinds ps) ≡ length ps
length-patterns [] ps = refl
length-patterns (kind ∷ kinds) [] = refl
length-patterns (kind ∷ kinds) (p ∷ ps) = ap suc (length-patterns kinds ps)

-- terms over these bases, with keys of degree at most d
pub record AreTermsOver (bases : List BasisId) (d : ℕ) (ts : Terms) : Type 0 where
  pub indices : EachKey (AreIndices bases) ts
  pub degrees : EachKey (λ key. total_degree bases key ≤ d) ts

module _ (n : ℕ) (bases : List BasisId) (lt : n < length bases) (den d : ℕ) (ts : Terms) (over : AreTermsOver bases d ts) where
  -- what holds of each key
  each_over : (P : Key → Type 0) → ((key : Key) → AreIndices bases key → total_degree bases key ≤ d → P key) → EachKey P ts
  each_over P step =
      each_weaker (λ (t : ℤ × Key). AreIndices bases t.1 × (total_degree bases t.1 ≤ d)) (λ (t : ℤ × Key). P t.1) (λ t h. step t.1 h.0 h.1) ts
      (each_both (λ (t : ℤ × Key). AreIndices bases t.1) (λ (t : ℤ × Key). total_degree bases t.1 ≤ d) ts over.indices over.degrees)

  -- at points of the other components the leaf reads as at their patterns
  reads_patterns : (w : List ℕ) (qs : Points) → suc (length qs) ≡ length bases
      → numerator (leaf bases den ts) (insert qs n w) ≡ numerator (leaf bases den ts) (insert (patterns (map kind_of (remove bases n)) qs) n w)
  reads_patterns w qs long =
      let ks = map kind_of (remove bases n) in
      let long' : suc (length (patterns ks qs)) ≡ length bases = omega (arith, length-patterns ks qs) in
      weighed_same (λ key. pos (occurrence bases key (insert qs n w))) (λ key. pos (occurrence bases key (insert (patterns ks qs) n w))) ts
      (each_over (λ key. pos (occurrence bases key (insert qs n w)) ≡ pos (occurrence bases key (insert (patterns ks qs) n w)))
      (λ key h small.
      let same = length-indices bases key h in
      ap pos
      (occurrence-insert n bases key qs w lt same long
      ∙ ap (λ k. one_if (occurs (basis_at bases n) (code_at key n) w) * k) (occurrence-patterns (remove bases n) (remove key n) qs)
      ∙ sym (occurrence-insert n bases key (patterns ks qs) w lt same long'))))

  -- a word longer than the degree is read as 0
  pub reads_none : kind_of (basis_at bases n) ≡ word → (w : List ℕ) → d < length w → (qs : Points) → suc (length qs) ≡ length bases → numerator (leaf bases den ts) (insert qs n w) ≡ pos 0
  reads_none kind w above qs long =
      weighed_none (λ key. pos (occurrence bases key (insert qs n w))) ts
      (each_over (λ key. pos (occurrence bases key (insert qs n w)) ≡ pos 0)
      (λ key h small. ap pos (occurrence-insert n bases key qs w lt (length-indices bases key h) long
      ∙ by_test key h small (occurs (basis_at bases n) (code_at key n) w) refl)))
    where
      by_test : (key : Key) → AreIndices bases key → total_degree bases key ≤ d → (b : Bool) → occurs (basis_at bases n) (code_at key n) w ≡ b
          → one_if b * occurrence (remove bases n) (remove key n) qs ≡ 0
      by_test key h small true e = absurd (omega (arith, length-occurs (basis_at bases n) kind (code_at key n) w e, degree_at-le n bases key lt h))
      by_test key h small false e = omega arith

  -- so are all words at points at which no key of the other components occurs
  none_at : (w : List ℕ) (qs : Points) → suc (length qs) ≡ length bases → ((key : Key) → total_degree (remove bases n) key ≤ d → occurrence (remove bases n) key qs ≡ 0)
      → numerator (leaf bases den ts) (insert qs n w) ≡ pos 0
  none_at w qs long none =
      weighed_none (λ key. pos (occurrence bases key (insert qs n w))) ts
      (each_over (λ key. pos (occurrence bases key (insert qs n w)) ≡ pos 0)
      (λ key h small. ap pos
      (occurrence-insert n bases key qs w lt (length-indices bases key h) long
      ∙ (let e : one_if (occurs (basis_at bases n) (code_at key n) w) * occurrence (remove bases n) (remove key n) qs ≡ 0 =
      omega (arith, ap (λ k. one_if (occurs (basis_at bases n) (code_at key n) w) * k) (none (remove key n) (le_trans (total_degree-remove n bases key h) small))) in e))))

  -- readings at two words that agree at all bounded points of the other components agree at all points
  pub alike_from_bounded : (u v : List ℕ)
      → ((qs : Points) → Member qs (tuples_within d (length (remove bases n))) → numerator (leaf bases den ts) (insert qs n u) ≡ numerator (leaf bases den ts) (insert qs n v))
      → ReadAlike (leaf bases den ts) n u v
  alike_from_bounded u v bounded qs others =
      let long : suc (length qs) ≡ length bases = length-others n bases qs lt others in
      let fewer = length-remove bases n lt in
      elim (bounded_or_none d (remove bases n) qs (let e : length qs ≡ length (remove bases n) = omega arith in e)) [
        | inl among ↦ reads_patterns u qs long ∙ bounded (patterns (map kind_of (remove bases n)) qs) among ∙ sym (reads_patterns v qs long)
        | inr none ↦ none_at u qs long none ∙ sym (none_at v qs long none)
      ]

  -- so it is decided whether they read alike
  pub alike_or_differently : (u v : List ℕ) → ReadAlike (leaf bases den ts) n u v ⊎ ReadDifferently (leaf bases den ts) n u v
  alike_or_differently u v =
      let Same = λ (qs : Points). numerator (leaf bases den ts) (insert qs n u) ≡ numerator (leaf bases den ts) (insert qs n v) in
      let rank = length (remove bases n) in
      let fewer = length-remove bases n lt in
      elim (all_or_some Same (λ qs. decided_int (numerator (leaf bases den ts) (insert qs n u)) (numerator (leaf bases den ts) (insert qs n v))) (tuples_within d rank)) [
        | inl all ↦ inl (alike_from_bounded u v all)
        | inr some ↦ inr (
          some.0,
          subst (λ kinds. ArePoints kinds some.0) (sym (kinds-remove n bases))
              (tuple_of_points d (map kind_of (remove bases n)) some.0 (subst (λ m. Member some.0 (tuples_within d m)) (sym (length-map (remove bases n) kind_of)) some.1)),
          some.2,
        )
      ]
