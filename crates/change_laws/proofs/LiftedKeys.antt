-- Keys with other codes in the place of a component: their indices, degrees and occurrences.
use Rattle.std.proofs.Common.{◌≡◌, ℕ, suc, ◌+◌, ◌*◌, ◌<◌, List, [], ◌∷◌, ◌++◌, length, take, drop, refl, sym, ◌∙◌, ap, arith}
use Rattle.std.proofs.Math.IntN.{ℤ, pos, ◌*ℤ◌, *ℤ_comm, *ℤ-zero, pos-*ℤ-pos}
use Rattle.std.proofs.Math.Nat.{mul_assoc, mul_comm}
use Rattle.std.proofs.Math.Seq.{split_at}
use Rattle.std.proofs.lemmas.Int.{ints}
use Rattle.std.proofs.lemmas.List.{append_assoc, length-append}
use Rattle.basis_names.specs.declared.bases.BasisId.{BasisId}
use Rattle.hopf_num.proofs.Ring.{*ℤ-+ℤ, *ℤ_assoc}
use Rattle.realisations.specs.Codes.{Key}
use Rattle.realisations.specs.Combinations.{HasKey, term_at, weighed}
use Rattle.realisations.specs.Indices.{IsIndex, AreIndices, degree_of, total_degree}
use Rattle.realisations.specs.Lists.{one_if}
use Rattle.realisations.specs.Occurrence.{occurs}
use Rattle.realisations.specs.Points.{Point, Points}
use Rattle.realisations.specs.Readings.{Terms, leaf, occurrence, numerator}
use Rattle.realisations.proofs.Coefficients.{each_from, weighed_same}
use Rattle.change_laws.specs.Lifts.{code_at, replaced, occurrence_beside, ReplacedLaw}

-- indices are as many as their bases
pub length-indices : (bases : List BasisId) (key : Key) → AreIndices bases key → length key ≡ length bases
length-indices [] [] h = refl
length-indices [] (code ∷ key) h = absurd h
length-indices (basis ∷ bases) [] h = absurd h
length-indices (basis ∷ bases) (code ∷ key) h = ap suc (length-indices bases key h.1)

-- indices before a component, there, and after it
pub record IsInParts (before after : List BasisId) (basis : BasisId) (key : Key) : Type 0 where
  pub front : AreIndices before (take (length before) key)
  pub here : IsIndex basis (code_at (length before) key)
  pub back : AreIndices after (drop (suc (length before)) key)
  pub degrees : total_degree (before ++ basis ∷ after) key ≡ total_degree before (take (length before) key) + (degree_of basis (code_at (length before) key) + total_degree after (drop (suc (length before)) key))

pub parts_of_key : (before after : List BasisId) (basis : BasisId) (key : Key) → AreIndices (before ++ basis ∷ after) key → IsInParts before after basis key
parts_of_key [] after basis [] h = absurd h
parts_of_key [] after basis (code ∷ key) h = record { front = tt; here = h.0; back = h.1; degrees = omega arith }
parts_of_key (b ∷ before) after basis [] h = absurd h
parts_of_key (b ∷ before) after basis (code ∷ key) h =
    let rest = parts_of_key before after basis key h.1 in
    record { front = (h.0, rest.front); here = rest.here; back = rest.back; degrees = omega (arith, rest.degrees) }

-- indices one after another
indices-append : (bases bases' : List BasisId) (key key' : Key) → AreIndices bases key → AreIndices bases' key' → AreIndices (bases ++ bases') (key ++ key')
indices-append [] bases' [] key' h h' = h'
indices-append [] bases' (code ∷ key) key' h h' = absurd h
indices-append (basis ∷ bases) bases' [] key' h h' = absurd h
indices-append (basis ∷ bases) bases' (code ∷ key) key' h h' = (h.0, indices-append bases bases' key key' h.1 h')

degrees-append : (bases bases' : List BasisId) (key key' : Key) → AreIndices bases key → total_degree (bases ++ bases') (key ++ key') ≡ total_degree bases key + total_degree bases' key'
degrees-append [] bases' [] key' h = omega arith
degrees-append [] bases' (code ∷ key) key' h = absurd h
degrees-append (basis ∷ bases) bases' [] key' h = absurd h
degrees-append (basis ∷ bases) bases' (code ∷ key) key' h = omega (arith, degrees-append bases bases' key key' h.1)

-- a key in two parts, at points in two parts
occurrence-append : (bases bases' : List BasisId) (key key' : Key) (ps ps' : Points) → length key ≡ length bases → length ps ≡ length bases
    → occurrence (bases ++ bases') (key ++ key') (ps ++ ps') ≡ occurrence bases key ps * occurrence bases' key' ps'
occurrence-append [] bases' [] key' [] ps' ek ep = omega arith
occurrence-append [] bases' (c ∷ key) key' ps ps' ek ep = absurd (omega arith)
occurrence-append [] bases' [] key' (p ∷ ps) ps' ek ep = absurd (omega arith)
occurrence-append (basis ∷ bases) bases' [] key' ps ps' ek ep = absurd (omega arith)
occurrence-append (basis ∷ bases) bases' (c ∷ key) key' [] ps' ek ep = absurd (omega arith)
occurrence-append (basis ∷ bases) bases' (c ∷ key) key' (p ∷ ps) ps' ek ep =
    ap (λ n. one_if (occurs basis c p) * n) (occurrence-append bases bases' key key' ps ps' (omega arith) (omega arith))
    ∙ sym (mul_assoc (one_if (occurs basis c p)) (occurrence bases key ps) (occurrence bases' key' ps'))

-- a factor in the middle goes to the end
middle_last : (a b c : ℕ) → a * (b * c) ≡ (a * c) * b
middle_last a b c = ap (λ n. a * n) (mul_comm b c) ∙ sym (mul_assoc a c b)

module _ (before after : List BasisId) (basis : BasisId) (key : Key) (h : AreIndices (before ++ basis ∷ after) key) where
  is_in_parts : IsInParts before after basis key
  is_in_parts = parts_of_key before after basis key h

  front_long : length (take (length before) key) ≡ length before
  front_long = length-indices before (take (length before) key) is_in_parts.front

  -- the component is one of the key
  pub in_range : length before < length key
  in_range = omega (arith, length-indices (before ++ basis ∷ after) key h, length-append before (basis ∷ after))

  -- the key at a point in the place of the component
  pub occurrence-at : (ps rs : Points) (q : Point) → length ps ≡ length before
      → occurrence (before ++ basis ∷ after) key (ps ++ q ∷ rs) ≡ occurrence_beside before after key ps rs * one_if (occurs basis (code_at (length before) key) q)
  occurrence-at ps rs q ep =
      ap (λ k. occurrence (before ++ basis ∷ after) k (ps ++ q ∷ rs)) (split_at key (length before) [] in_range)
      ∙ occurrence-append before (basis ∷ after) (take (length before) key) (code_at (length before) key ∷ drop (suc (length before)) key) ps (q ∷ rs) front_long ep
      ∙ middle_last (occurrence before (take (length before) key) ps) (one_if (occurs basis (code_at (length before) key) q)) (occurrence after (drop (suc (length before)) key) rs)

  module _ (middle : List BasisId) (codes : Key) (new : AreIndices middle codes) where
    in_order : replaced (length before) codes key ≡ take (length before) key ++ (codes ++ drop (suc (length before)) key)
    in_order = append_assoc (take (length before) key) codes (drop (suc (length before)) key)

    -- other codes in its place
    pub occurrence-replaced : (ps qs rs : Points) → length ps ≡ length before → length qs ≡ length middle
        → occurrence (before ++ (middle ++ after)) (replaced (length before) codes key) (ps ++ (qs ++ rs)) ≡ occurrence_beside before after key ps rs * occurrence middle codes qs
    occurrence-replaced ps qs rs ep eq =
        ap (λ k. occurrence (before ++ (middle ++ after)) k (ps ++ (qs ++ rs))) in_order
        ∙ occurrence-append before (middle ++ after) (take (length before) key) (codes ++ drop (suc (length before)) key) ps (qs ++ rs) front_long ep
        ∙ ap (λ n. occurrence before (take (length before) key) ps * n) (occurrence-append middle after codes (drop (suc (length before)) key) qs rs (length-indices middle codes new) eq)
        ∙ middle_last (occurrence before (take (length before) key) ps) (occurrence middle codes qs) (occurrence after (drop (suc (length before)) key) rs)

    pub indices-replaced : AreIndices (before ++ (middle ++ after)) (replaced (length before) codes key)
    indices-replaced =
        rw in_order
        (indices-append before (middle ++ after) (take (length before) key) (codes ++ drop (suc (length before)) key) is_in_parts.front
        (indices-append middle after codes (drop (suc (length before)) key) new is_in_parts.back))

    pub degrees-replaced : total_degree middle codes ≡ degree_of basis (code_at (length before) key)
        → total_degree (before ++ (middle ++ after)) (replaced (length before) codes key) ≡ total_degree (before ++ basis ∷ after) key
    degrees-replaced e =
        ap (total_degree (before ++ (middle ++ after))) in_order
        ∙ omega (
          arith,
          degrees-append before (middle ++ after) (take (length before) key) (codes ++ drop (suc (length before)) key) is_in_parts.front,
          degrees-append middle after codes (drop (suc (length before)) key) new,
          is_in_parts.degrees,
          e,
        )

-- a factor of all weights
weighed-factor : (z : ℤ) (f : Key → ℤ) (ts : Terms) → weighed (λ k. z *ℤ f k) ts ≡ z *ℤ weighed f ts
weighed-factor z f [] = sym (*ℤ-zero z)
weighed-factor z f (t ∷ ts) =
    let head : t.0 *ℤ (z *ℤ f t.1) ≡ z *ℤ (t.0 *ℤ f t.1) = *ℤ_assoc t.0 z (f t.1) ∙ ap (λ w. w *ℤ f t.1) (*ℤ_comm t.0 z) ∙ sym (*ℤ_assoc z t.0 (f t.1)) in
    omega (arith, ints, head, weighed-factor z f ts, *ℤ-+ℤ z (t.0 *ℤ f t.1) (weighed f ts))

-- terms in the place of a component read as the other components times what they read as
pub weighed-replaced : (before after middle : List BasisId) (basis : BasisId) (key : Key) (ts : Terms) (ps qs rs : Points) → AreIndices (before ++ basis ∷ after) key
    → ((codes : Key) → HasKey ts codes → AreIndices middle codes) → length ps ≡ length before → length qs ≡ length middle
    → weighed (λ codes. pos (occurrence (before ++ (middle ++ after)) (replaced (length before) codes key) (ps ++ (qs ++ rs)))) ts
    ≡ pos (occurrence_beside before after key ps rs) *ℤ numerator (leaf middle 1 ts) qs
weighed-replaced before after middle basis key ts ps qs rs h new ep eq =
    weighed_same (λ codes. pos (occurrence (before ++ (middle ++ after)) (replaced (length before) codes key) (ps ++ (qs ++ rs))))
    (λ codes. pos (occurrence_beside before after key ps rs) *ℤ pos (occurrence middle codes qs)) ts
    (each_from _ ts (λ i lt.
    ap pos (occurrence-replaced before after basis key h middle ((term_at ts i).1) (new ((term_at ts i).1) (i, lt, refl)) ps qs rs ep eq)
    ∙ sym (pos-*ℤ-pos (occurrence_beside before after key ps rs) (occurrence middle ((term_at ts i).1) qs))))
    ∙ weighed-factor (pos (occurrence_beside before after key ps rs)) (λ codes. pos (occurrence middle codes qs)) ts

-- all three
pub replaced_components : ReplacedLaw
replaced_components = record {
  indices = λ before after middle basis codes key h new. indices-replaced before after basis key h middle codes new;
  degrees = λ before after middle basis codes key h new. degrees-replaced before after basis key h middle codes new;
  reads = weighed-replaced;
}
