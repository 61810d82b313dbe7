-- The counit of a component of a value.
use Rattle.std.proofs.Common.{◌≡◌, ℕ, zero, suc, ◌<◌, ◌≤◌, List, [], ◌∷◌, ◌++◌, length, refl, sym, ◌∙◌, ap, subst, arith}
use Rattle.std.specs.Prelude.{slice_index_or, if◌then◌else◌}
use Rattle.std.proofs.Math.IntN.{ℤ, pos, ◌*ℤ◌}
use Rattle.std.proofs.lemmas.Int.{ints}
use Rattle.std.proofs.lemmas.List.{length-append}
use Rattle.basis_names.specs.declared.bases.BasisId.{BasisId}
use Rattle.change_laws.specs.Lifts.{code_at, replaced}
use Rattle.change_laws.proofs.LiftedKeys.{replaced_components}
use Rattle.coproduct_rules.specs.Components.{without_at, counit_terms_at}
use Rattle.coproduct_rules.proofs.Components.{counit_component}
use Rattle.hopf_laws.specs.Bases.{least_limit}
use Rattle.hopf_laws.specs.Values.{Expansion, IsValue, Expands, reading_of}
use Rattle.realisations.specs.Codes.{Key}
use Rattle.realisations.specs.Combinations.{Combination, HasKey, term_at, weighed}
use Rattle.realisations.specs.IndexKinds.{IndexKind, degree_by, by_composition, by_permutation, by_packed_word, by_tableau, by_tree}
use Rattle.realisations.specs.Indices.{AreIndices, degree_of, total_degree}
use Rattle.realisations.specs.Lists.{same_list}
use Rattle.realisations.specs.Points.{Points}
use Rattle.realisations.specs.Readings.{Terms, leaf, applied, counit, of_key, numerator, occurrence, AgreeAt}
use Rattle.realisations.proofs.Coefficients.{each_from, weighed_same}
use Rattle.realisations.proofs.Linearity.{operates_linearly}
use Rattle.basis_routes.specs.KeptTerms.{kept_terms, IsKept, IsKeptKey}
use Rattle.basis_routes.specs.Lists.{without}
use Rattle.basis_routes.proofs.BasesAround.{IsWithin, at_component, basis_there, without-around, built-around, within_each, within_least, within-around}
use Rattle.basis_routes.proofs.LiftedValues.{over}

-- a list without a component, by its parts
bases-left : (n : ℕ) (bases : List BasisId) → without_at n bases ≡ without n bases
bases-left zero [] = refl
bases-left (suc n) [] = refl
bases-left zero (b ∷ bases) = refl
bases-left (suc n) (b ∷ bases) = ap (λ bs. b ∷ bs) (bases-left n bases)

codes-left : (n : ℕ) (key : Key) → without_at n key ≡ replaced n [] key
codes-left zero [] = refl
codes-left (suc n) [] = refl
codes-left zero (c ∷ key) = refl
codes-left (suc n) (c ∷ key) = ap (λ k. c ∷ k) (codes-left n key)

-- what is left of a key reads as the counit of the component
kept_reads : (n : ℕ) (bases : List BasisId) (key : Key) (ps : Points) → n < length bases → AreIndices bases key
    → weighed (λ k. pos (occurrence (without n bases) k ps)) (kept_terms n key) ≡ numerator (applied counit n (of_key bases key)) ps
kept_reads n bases key ps lt indices =
    sym (λ i. left (bases-left n bases i) (codes-left n key i))
    ∙ by_ones (numerator (leaf (without_at n bases) 1 (counit_terms_at n key)) ps) (numerator (applied counit n (of_key bases key)) ps) (counit_component n bases key lt indices ps)
  where
    left : List BasisId → Key → ℤ
    left others k =
        let ts : Terms = (pos 1, k) ∷ [] in
        weighed (λ k. pos (occurrence others k ps)) (if same_list (code_at n key) [] then ts else [])

    by_ones : (y z : ℤ) → y *ℤ pos 1 ≡ z *ℤ pos 1 → y ≡ z
    by_ones y z e = omega (arith, ints, e)

-- and of all keys
counit_reads : (n : ℕ) (bases : List BasisId) (old new : Combination) (ps : Points) → n < length bases → ((key : Key) → HasKey old.terms key → AreIndices bases key) → IsKept n old new
    → AgreeAt (leaf (without n bases) new.den new.terms) (applied counit n (leaf bases old.den old.terms)) ps
counit_reads n bases old new ps lt indices kept =
    kept.weighs (λ k. pos (occurrence (without n bases) k ps))
    ∙ ap (λ z. z *ℤ pos new.den)
    (weighed_same (λ key. weighed (λ k. pos (occurrence (without n bases) k ps)) (kept_terms n key)) (λ key. numerator (applied counit n (of_key bases key)) ps) old.terms
    (each_from _ old.terms (λ i here. kept_reads n bases ((term_at old.terms i).1) ps lt (indices ((term_at old.terms i).1) (i, here, refl))))
    ∙ sym (operates_linearly counit n bases old.den old.terms ps))

-- the empty code is of degree 0
empty_degree : (kind : IndexKind) → degree_by kind [] ≡ 0
empty_degree by_composition = refl
empty_degree by_permutation = refl
empty_degree by_packed_word = refl
empty_degree by_tableau = refl
empty_degree by_tree = refl

-- a degree within each limit is within the least one, also where there is no basis
degree_within_least : (bases : List BasisId) (key : Key) → IsWithin (total_degree bases key) bases → total_degree bases key ≤ least_limit bases
degree_within_least [] key h = omega arith
degree_within_least (b ∷ bases) key h = within_least (total_degree (b ∷ bases) key) (b ∷ bases) (omega arith) h

-- what the counit of component n of a value gives
abbrev pub HasCounit : ℕ → List BasisId → BasisId → Type 0
HasCounit n bases basis = (old new : Combination) → IsValue (over bases old) → IsKept n old new → IsValue (over (without n bases) new)

counit_around : (before after : List BasisId) (basis : BasisId) → HasCounit (length before) (before ++ basis ∷ after) basis
counit_around before after basis old new is kept =
    subst (λ bases. IsValue (over bases new)) (sym (without-around before after basis)) (record {
      short = omega (arith, is.short, length-append before (basis ∷ after), length-append before after);
      built = built-around before after [] basis is.built tt;
      rank = omega (arith, kept.rank, is.rank, length-append before (basis ∷ after), length-append before after);
      canonical = kept.canonical;
      indices = λ key has. (left key (kept.keys key has)).0;
      degrees = λ key has. (left key (kept.keys key has)).1;
    })
  where
    left : (key : Key) → IsKeptKey (length before) old.terms key → AreIndices (before ++ after) key × (total_degree (before ++ after) key ≤ least_limit (before ++ after))
    left key from =
        let indices = replaced_components.indices before after [] basis [] from.key (is.indices from.key from.has) tt in
        let none : 0 ≡ degree_of basis (code_at (length before) from.key) = sym (ap (degree_of basis) from.empty ∙ empty_degree _) in
        let degrees = replaced_components.degrees before after [] basis [] from.key (is.indices from.key from.has) tt none in
        let same : total_degree (before ++ after) key ≡ total_degree (before ++ basis ∷ after) from.key = ap (total_degree (before ++ after)) from.is ∙ degrees in
        let within : IsWithin (total_degree (before ++ basis ∷ after) from.key) (before ++ after) =
        within-around (total_degree (before ++ basis ∷ after) from.key) before after [] basis (within_each (total_degree (before ++ basis ∷ after) from.key) (before ++ basis ∷ after) (is.degrees from.key from.has)) tt in (
          subst (AreIndices (before ++ after)) (sym from.is) indices,
          degree_within_least (before ++ after) key (subst (λ d. IsWithin d (before ++ after)) (sym same) within),
        )

-- the value that reads as the counit
pub counit_expands : (n : ℕ) (v : Expansion) (old new : Combination) → n < length v.bases → IsValue v → old ≡ v.combination → IsKept n old new
    → Expands (without n v.bases) (applied counit n (reading_of v)) (over (without n v.bases) new)
counit_expands n v old new lt is same kept =
    let here : IsKept n v.combination new = subst (λ c. IsKept n c new) same kept in
    record {
      value = with_basis (basis_there n v.bases lt) here;
      over = refl;
      reads = λ ps points. counit_reads n v.bases v.combination new ps lt is.indices here;
    }
  where
    with_basis : (b : BasisId) × (b ≡ slice_index_or v.bases n b) → IsKept n v.combination new → IsValue (over (without n v.bases) new)
    with_basis (b, at) here = at_component HasCounit counit_around n v.bases b lt at v.combination new is here
