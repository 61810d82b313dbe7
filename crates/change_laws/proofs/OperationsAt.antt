-- An operation on one component of a combination: for each key the rest of the key, times what the operation makes of the basis element there.
use Rattle.std.proofs.Common.{◌≡◌, ℕ, zero, suc, ◌*◌, List, [], ◌∷◌, ◌++◌, map, length, refl, sym, ◌∙◌, ap, arith}
use Rattle.std.specs.List.{flat_map}
use Rattle.std.proofs.Math.IntN.{ℤ, pos, ◌*ℤ◌, neg_ℤ, pos-*ℤ-pos}
use Rattle.realisations.specs.Combinations.{HasKey, term_at, weighed}
use Rattle.realisations.specs.Lists.{one_if, with_sign}
use Rattle.realisations.specs.Readings.{Terms, Operation, coproduct, antipode, counit, mult, commute, leaf, applied, element, of_key, occurrence, numerator, reads, reads_at, on_ordinal_sum, pieces, on_ordinal_sums, commuting}
use Rattle.basis_names.specs.declared.bases.BasisId.{BasisId}
use Rattle.realisations.specs.Points.{Kind}
use Rattle.realisations.specs.Bases.{kind_of}
use Rattle.realisations.specs.Occurrence.{occurs}
use Rattle.realisations.proofs.Coefficients.{Codes, each_from, weighed_same}
use Rattle.realisations.proofs.Linearity.{numerator-of_key, operates_linearly}
use Rattle.hopf_num.proofs.Ring.{*ℤ-neg_ℤ}
use Rattle.realisations.specs.Indices.{AreIndices}
use Rattle.change_laws.specs.Lifts.{code_at, occurrence_beside, points_of, TakesOne}
use Rattle.change_laws.proofs.IntSums.{sum_over, sum_over-flat_map, sum_over-map, sum_over-scale}
use Rattle.change_laws.proofs.LiftedKeys.{occurrence-at}

-- the points at which an operation reads its component, each with a number of signs
abbrev pub read_points : Operation → Kind → Codes → List (ℕ × List ℕ)
read_points coproduct kind (u ∷ v ∷ []) = map (λ p. (0, p)) (on_ordinal_sum kind u v)
read_points antipode kind (p ∷ []) = flat_map (λ parts. map (λ q. (length parts, q)) (on_ordinal_sums kind parts)) (pieces kind p)
read_points counit kind [] = (0, []) ∷ []
read_points commute kind (p ∷ []) = map (λ q. (0, q)) (commuting kind p)
read_points _ kind qs = []

-- the operation on a first component reads it at these points, while the others stand still
sum-reads : (operation : Operation) → TakesOne operation → (kind : Kind) (qs rs : Codes) → length qs ≡ points_of operation → (h : ℕ × Codes → ℤ)
    → sum_over h (reads operation kind (qs ++ rs)) ≡ sum_over (λ (x : ℕ × List ℕ). h (x.0, x.1 ∷ rs)) (read_points operation kind qs)
sum-reads coproduct one kind (u ∷ v ∷ []) rs e h =
    sum_over-map h (λ p. (0, p ∷ rs)) (on_ordinal_sum kind u v) ∙ sym (sum_over-map (λ (x : ℕ × List ℕ). h (x.0, x.1 ∷ rs)) (λ p. (0, p)) (on_ordinal_sum kind u v))
sum-reads coproduct one kind [] rs e h = absurd (omega arith)
sum-reads coproduct one kind (u ∷ []) rs e h = absurd (omega arith)
sum-reads coproduct one kind (u ∷ v ∷ w ∷ qs) rs e h = absurd (omega arith)
sum-reads antipode one kind (p ∷ []) rs e h =
    sum_over-flat_map h (λ parts. map (λ q. (length parts, q ∷ rs)) (on_ordinal_sums kind parts)) (pieces kind p)
    ∙ (λ i. sum_over (λ parts. (sum_over-map h (λ q. (length parts, q ∷ rs)) (on_ordinal_sums kind parts)
    ∙ sym (sum_over-map (λ (x : ℕ × List ℕ). h (x.0, x.1 ∷ rs)) (λ q. (length parts, q)) (on_ordinal_sums kind parts))) i) (pieces kind p))
    ∙ sym (sum_over-flat_map (λ (x : ℕ × List ℕ). h (x.0, x.1 ∷ rs)) (λ parts. map (λ q. (length parts, q)) (on_ordinal_sums kind parts)) (pieces kind p))
sum-reads antipode one kind [] rs e h = absurd (omega arith)
sum-reads antipode one kind (p ∷ q ∷ qs) rs e h = absurd (omega arith)
sum-reads counit one kind [] rs e h = refl
sum-reads counit one kind (p ∷ qs) rs e h = absurd (omega arith)
sum-reads mult one kind qs rs e h = absurd one
sum-reads commute one kind (p ∷ []) rs e h =
    sum_over-map h (λ q. (0, q ∷ rs)) (commuting kind p) ∙ sym (sum_over-map (λ (x : ℕ × List ℕ). h (x.0, x.1 ∷ rs)) (λ q. (0, q)) (commuting kind p))
sum-reads commute one kind [] rs e h = absurd (omega arith)
sum-reads commute one kind (p ∷ q ∷ qs) rs e h = absurd (omega arith)

-- on a later component the points before it stand still
sum-reads_at : (operation : Operation) (before after : List BasisId) (basis : BasisId) (ps qs : Codes) → length ps ≡ length before → (h : ℕ × Codes → ℤ)
    → sum_over h (reads_at (length before) operation (map kind_of (before ++ basis ∷ after)) (ps ++ qs)) ≡ sum_over (λ (r : ℕ × Codes). h (r.0, ps ++ r.1)) (reads operation (kind_of basis) qs)
sum-reads_at operation [] after basis [] qs e h = refl
sum-reads_at operation [] after basis (p ∷ ps) qs e h = absurd (omega arith)
sum-reads_at operation (b ∷ before) after basis [] qs e h = absurd (omega arith)
sum-reads_at operation (b ∷ before) after basis (p ∷ ps) qs e h =
    sum_over-map h (λ (r : ℕ × Codes). (r.0, p ∷ r.1)) (reads_at (length before) operation (map kind_of (before ++ basis ∷ after)) (ps ++ qs))
    ∙ sum-reads_at operation before after basis ps qs (omega arith) (λ (r : ℕ × Codes). h (r.0, p ∷ r.1))

-- signs go past a factor
with_sign-factor : (k : ℕ) (z w : ℤ) → with_sign k (z *ℤ w) ≡ z *ℤ with_sign k w
with_sign-factor zero z w = refl
with_sign-factor (suc k) z w = ap neg_ℤ (with_sign-factor k z w) ∙ sym (*ℤ-neg_ℤ z (with_sign k w))

one_factor : (n : ℕ) → n * 1 ≡ n
one_factor n = omega arith

-- on a basis element
operated-element : (operation : Operation) → TakesOne operation → (basis : BasisId) (code : List ℕ) (qs : Codes) → length qs ≡ points_of operation
    → numerator (applied operation 0 (element basis code)) qs ≡ sum_over (λ (x : ℕ × List ℕ). with_sign x.0 (pos (one_if (occurs basis code x.1)))) (read_points operation (kind_of basis) qs)
operated-element operation one basis code qs e =
    (λ i. sum_over (λ (r : ℕ × Codes). with_sign r.0 (numerator-of_key (basis ∷ []) (code ∷ []) r.1 i)) (reads operation (kind_of basis) (append_nil qs i)))
    ∙ sum-reads operation one (kind_of basis) qs [] e (λ (r : ℕ × Codes). with_sign r.0 (pos (occurrence (basis ∷ []) (code ∷ []) r.1)))
    ∙ (λ i. sum_over (λ (x : ℕ × List ℕ). with_sign x.0 (pos (one_factor (one_if (occurs basis code x.1)) i))) (read_points operation (kind_of basis) qs))
  where
    append_nil : (xs : Codes) → xs ≡ xs ++ []
    append_nil [] = refl
    append_nil (x ∷ xs) = ap (λ v. x ∷ v) (append_nil xs)

-- on the component of a key
operated-key : (operation : Operation) → TakesOne operation → (before after : List BasisId) (basis : BasisId) (key ps qs rs : Codes) → length ps ≡ length before → length qs ≡ points_of operation → AreIndices (before ++ basis ∷ after) key
    → numerator (applied operation (length before) (of_key (before ++ basis ∷ after) key)) (ps ++ (qs ++ rs))
    ≡ pos (occurrence_beside before after key ps rs) *ℤ numerator (applied operation 0 (element basis (code_at (length before) key))) qs
operated-key operation one before after basis key ps qs rs ep eq h =
    let bases = before ++ basis ∷ after in
    let around = occurrence_beside before after key ps rs in
    let here = λ (q : List ℕ). one_if (occurs basis (code_at (length before) key) q) in
    (λ i. sum_over (λ (r : ℕ × Codes). with_sign r.0 (numerator-of_key bases key r.1 i)) (reads_at (length before) operation (map kind_of bases) (ps ++ (qs ++ rs))))
    ∙ sum-reads_at operation before after basis ps (qs ++ rs) ep (λ (r : ℕ × Codes). with_sign r.0 (pos (occurrence bases key r.1)))
    ∙ sum-reads operation one (kind_of basis) qs rs eq (λ (r : ℕ × Codes). with_sign r.0 (pos (occurrence bases key (ps ++ r.1))))
    ∙ (λ i. sum_over (λ (x : ℕ × List ℕ).
    (ap (λ n. with_sign x.0 (pos n)) (occurrence-at before after basis key h ps rs x.1 ep)
    ∙ ap (with_sign x.0) (sym (pos-*ℤ-pos around (here x.1)))
    ∙ with_sign-factor x.0 (pos around) (pos (here x.1))) i) (read_points operation (kind_of basis) qs))
    ∙ sum_over-scale (pos around) (λ (x : ℕ × List ℕ). with_sign x.0 (pos (here x.1))) (read_points operation (kind_of basis) qs)
    ∙ ap (λ z. pos around *ℤ z) (sym (operated-element operation one basis (code_at (length before) key) qs eq))

-- on the component of a combination
pub operated : (operation : Operation) → TakesOne operation → (before after : List BasisId) (basis : BasisId) (den : ℕ) (ts : Terms) (ps qs rs : Codes)
    → length ps ≡ length before → length qs ≡ points_of operation → ((key : Codes) → HasKey ts key → AreIndices (before ++ basis ∷ after) key)
    → numerator (applied operation (length before) (leaf (before ++ basis ∷ after) den ts)) (ps ++ (qs ++ rs))
    ≡ weighed (λ key. pos (occurrence_beside before after key ps rs) *ℤ numerator (applied operation 0 (element basis (code_at (length before) key))) qs) ts
operated operation one before after basis den ts ps qs rs ep eq indices =
    operates_linearly operation (length before) (before ++ basis ∷ after) den ts (ps ++ (qs ++ rs))
    ∙ weighed_same (λ key. numerator (applied operation (length before) (of_key (before ++ basis ∷ after) key)) (ps ++ (qs ++ rs)))
    (λ key. pos (occurrence_beside before after key ps rs) *ℤ numerator (applied operation 0 (element basis (code_at (length before) key))) qs) ts
    (each_from _ ts (λ i lt. operated-key operation one before after basis ((term_at ts i).1) ps qs rs ep eq (indices ((term_at ts i).1) (i, lt, refl))))
