-- The combination of a tensor product as a value.
use Rattle.std.proofs.Common.{◌≡◌, ◌+◌, ◌*◌, ◌≤◌, ◌⊎◌, inl, inr, List, [], ◌∷◌, ◌++◌, length, map, take, drop, sym, ◌∙◌, ap, subst, arith}
use Rattle.std.proofs.Math.IntN.{ℤ, pos, ◌*ℤ◌, pos-*ℤ-pos}
use Rattle.std.proofs.Math.Nat.{mul_assoc}
use Rattle.std.proofs.lemmas.List.{length-append, length-map, append-nil}
use Rattle.realisations.specs.Lists.{one_if}
use Rattle.realisations.specs.Combinations.{Combination, AreTerms, HasKey, weighed, term_at}
use Rattle.linear_combos.specs.Combos.{IsTensor}
use Rattle.realisations.specs.Indices.{AreIndices, total_degree}
use Rattle.realisations.specs.Readings.{Terms, leaf, tensor, occurrence, numerator, AgreeAt}
use Rattle.basis_names.specs.declared.bases.BasisId.{BasisId}
use Rattle.realisations.specs.Bases.{kind_of}
use Rattle.realisations.specs.Points.{ArePoints}
use Rattle.realisations.specs.Occurrence.{occurs}
use Rattle.realisations.proofs.Coefficients.{Codes, each_from, weighed_same}
use Rattle.realisations.proofs.Linearity.{weighed-times}
use Rattle.realisations.proofs.TuplesOfPoints.{length-points_over}
use Rattle.hopf_laws.specs.Bases.{AreBuilt, least_limit}
use Rattle.hopf_laws.specs.Values.{Expansion, IsValue, reading_of, degree_of_value}
use Rattle.basis_routes.proofs.Degrees.{degree-le-greatest, degree_within}
use Rattle.hopf_laws.proofs.Scalars.{no_bases}
use Rattle.hopf_ops.specs.Answers.{IsOver}

-- keys put together
pub indices-append : (bases bases' : List BasisId) (key key' : Codes) → AreIndices bases key → AreIndices bases' key' → AreIndices (bases ++ bases') (key ++ key')
indices-append [] bases' [] key' h h' = h'
indices-append [] bases' (code ∷ key) key' h h' = absurd h
indices-append (basis ∷ bases) bases' [] key' h h' = absurd h
indices-append (basis ∷ bases) bases' (code ∷ key) key' h h' = (h.0, indices-append bases bases' key key' h.1 h')

pub total_degree-append : (bases bases' : List BasisId) (key key' : Codes) → AreIndices bases key → total_degree (bases ++ bases') (key ++ key') ≡ total_degree bases key + total_degree bases' key'
total_degree-append [] bases' [] key' h = omega arith
total_degree-append [] bases' (code ∷ key) key' h = absurd h
total_degree-append (basis ∷ bases) bases' [] key' h = absurd h
total_degree-append (basis ∷ bases) bases' (code ∷ key) key' h = omega (arith, total_degree-append bases bases' key key' h.1)

occurrence-append : (bases bases' : List BasisId) (key key' ps : Codes) → length key ≡ length bases → length ps ≡ length bases + length bases'
    → occurrence (bases ++ bases') (key ++ key') ps ≡ occurrence bases key (take (length bases) ps) * occurrence bases' key' (drop (length bases) ps)
occurrence-append [] bases' [] key' ps e f = omega arith
occurrence-append [] bases' (code ∷ key) key' ps e f = absurd (omega arith)
occurrence-append (basis ∷ bases) bases' [] key' ps e f = absurd (omega arith)
occurrence-append (basis ∷ bases) bases' (code ∷ key) key' [] e f = absurd (omega arith)
occurrence-append (basis ∷ bases) bases' (code ∷ key) key' (p ∷ ps) e f =
    ap (λ n. one_if (occurs basis code p) * n) (occurrence-append bases bases' key key' ps (omega arith) (omega arith))
    ∙ sym (mul_assoc (one_if (occurs basis code p)) (occurrence bases key (take (length bases) ps)) (occurrence bases' key' (drop (length bases) ps)))

-- two lists of built bases are built
pub built-append : (bases bases' : List BasisId) → AreBuilt bases → AreBuilt bases' → AreBuilt (bases ++ bases')
built-append [] bases' h h' = h'
built-append (basis ∷ bases) bases' h h' = (h.0, built-append bases bases' h.1 h')

-- a tensor product within the limits is over both lists of bases
pub tensor_over : (a b : Expansion) (c : Combination) → IsValue a → IsValue b → length a.bases + length b.bases ≤ 3
    → degree_of_value a + degree_of_value b ≤ least_limit (a.bases ++ b.bases) → IsTensor a.combination b.combination c → IsOver (a.bases ++ b.bases) c
tensor_over a b c ha hb short within is = record {
  short = omega (arith, short, length-append a.bases b.bases);
  built = built-append a.bases b.bases ha.built hb.built;
  rank = is.rank ∙ (λ i. ha.rank i + hb.rank i) ∙ sym (length-append a.bases b.bases);
  indices = λ key has. both_indices key (is.keys key has);
  degrees = λ key has. both_degrees key (is.keys key has);
}
  where
    both_indices : (key : Codes) → ((left : Codes) × (right : Codes) × HasKey a.combination.terms left × HasKey b.combination.terms right × (key ≡ left ++ right)) → AreIndices (a.bases ++ b.bases) key
    both_indices key (left, right, l, r, e) =
        rw e (indices-append a.bases b.bases left right (ha.indices left l) (hb.indices right r))

    both_degrees : (key : Codes) → ((left : Codes) × (right : Codes) × HasKey a.combination.terms left × HasKey b.combination.terms right × (key ≡ left ++ right)) → total_degree (a.bases ++ b.bases) key ≤ least_limit (a.bases ++ b.bases)
    both_degrees key (left, right, l, r, e) =
        rw e (omega (
          arith,
          within,
          total_degree-append a.bases b.bases left right (ha.indices left l),
          degree-le-greatest a.bases a.combination.terms left l,
          degree-le-greatest b.bases b.combination.terms right r,
        ))

-- the product of two sums of numerators, where the keys of the first have one rank
pub weighed-tensor : (bases bases' : List BasisId) (ts us : Terms) (ps : Codes) → AreTerms (length bases) ts → length ps ≡ length bases + length bases'
    → weighed (λ left. weighed (λ right. pos (occurrence (bases ++ bases') (left ++ right) ps)) us) ts
    ≡ weighed (λ key. pos (occurrence bases key (take (length bases) ps))) ts *ℤ weighed (λ key. pos (occurrence bases' key (drop (length bases) ps))) us
weighed-tensor bases bases' ts us ps h long =
    weighed_same (λ left. weighed (λ right. pos (occurrence (bases ++ bases') (left ++ right) ps)) us)
    (λ left. weighed (λ right. pos (occurrence bases left (take (length bases) ps)) *ℤ pos (occurrence bases' right (drop (length bases) ps))) us) ts
    (each_from _ ts (λ i lt.
    let rank = h.ranks i lt in
    λ j. weighed (λ right. (ap pos (occurrence-append bases bases' ((term_at ts i).1) right ps rank long)
    ∙ sym (pos-*ℤ-pos (occurrence bases ((term_at ts i).1) (take (length bases) ps)) (occurrence bases' right (drop (length bases) ps)))) j) us))
    ∙ sym (weighed-times (λ key. pos (occurrence bases key (take (length bases) ps))) (λ key. pos (occurrence bases' key (drop (length bases) ps))) ts us)

-- whatever the keys weigh, a combination weighs as the tensor product of two
abbrev pub WeighsAsTensor : Combination → Combination → Combination → Type 0
WeighsAsTensor a b c = (weight : Codes → ℤ) → weighed weight c.terms *ℤ (pos a.den *ℤ pos b.den) ≡ weighed (λ left. weighed (λ right. weight (left ++ right)) b.terms) a.terms *ℤ pos c.den

-- and reads as the tensor product
pub tensor_reads : (a b : Expansion) (c : Combination) → IsValue a → WeighsAsTensor a.combination b.combination c
    → (ps : Codes) → ArePoints (map kind_of (a.bases ++ b.bases)) ps → AgreeAt (leaf (a.bases ++ b.bases) c.den c.terms) (tensor (reading_of a) (reading_of b)) ps
tensor_reads a b c ha is ps points =
    let bases = a.bases in
    let bases' = b.bases in
    let terms : AreTerms (length bases) a.combination.terms = subst (λ n. AreTerms n a.combination.terms) (ha.rank) ha.canonical.ordered in
    let size : length ps ≡ length bases + length bases' = omega (arith, length-points_over (a.bases ++ b.bases) ps points, length-append a.bases b.bases) in
    let kinds : length bases ≡ length (map kind_of bases) = sym (length-map bases kind_of) in
    ap (λ z. numerator (leaf (bases ++ bases') c.den c.terms) ps *ℤ z) (sym (pos-*ℤ-pos a.combination.den b.combination.den))
    ∙ is (λ key. pos (occurrence (bases ++ bases') key ps))
    ∙ ap (λ z. z *ℤ pos c.den) (weighed-tensor bases bases' a.combination.terms b.combination.terms ps terms size)
    ∙ ap (λ n. (numerator (reading_of a) (take n ps) *ℤ numerator (reading_of b) (drop n ps)) *ℤ pos c.den) kinds

-- a scalar adds nothing to the degree, and no basis
pub scalar_within : (a b : Expansion) → IsValue a → IsValue b → (length a.bases ≡ 0) ⊎ (length b.bases ≡ 0) → degree_of_value a + degree_of_value b ≤ least_limit (a.bases ++ b.bases)
scalar_within a b ha hb (inl none) =
    let bases = no_bases a.bases none in
    let degree : degree_of_value a ≤ 0 = subst (λ bs. degree_of_value a ≤ least_limit bs) bases (degree_within a ha) in
    subst (λ bs. degree_of_value a + degree_of_value b ≤ least_limit (bs ++ b.bases)) (sym bases) (omega (arith, degree, degree_within b hb))
scalar_within a b ha hb (inr none) =
    let bases = no_bases b.bases none in
    let degree : degree_of_value b ≤ 0 = subst (λ bs. degree_of_value b ≤ least_limit bs) bases (degree_within b hb) in
    subst (λ bs. degree_of_value a + degree_of_value b ≤ least_limit (a.bases ++ bs)) (sym bases) (rw (append-nil a.bases) (omega (arith, degree, degree_within a ha)))
