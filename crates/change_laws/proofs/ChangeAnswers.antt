-- What gathers the terms of a change is its answer, and there is such a combination.
use Rattle.std.proofs.Common.{◌≡◌, ℕ, ◌*◌, ◌^◌, ◌<◌, ◌≤◌, Bool, true, false, List, [], ◌∷◌, map, length, refl, sym, ◌∙◌, ap, subst, arith, unsigned_abs}
use Rattle.std.specs.Prelude.{IsTrue}
use Rattle.std.specs.List.{All, sum}
use Rattle.std.proofs.Math.IntN.{ℤ, pos, ◌*ℤ◌}
use Rattle.std.proofs.Math.Pow.{pow_mono}
use Rattle.std.proofs.lemmas.Nat.{pow_below}
use Rattle.std.proofs.lemmas.List.Elements.{All-map, All-weaker}
use Rattle.std.proofs.lemmas.List.Sums.{sum_by-cons}
use Rattle.basis_names.specs.declared.bases.BasisId.{BasisId}
use Rattle.realisations.specs.Bases.{kind_of}
use Rattle.realisations.specs.Codes.{Code, Key}
use Rattle.realisations.specs.Combinations.{Combination, AreTerms, IsCanonical, HasKey, term_at, norm_of, weighed}
use Rattle.realisations.specs.IndexKinds.{IsComposition}
use Rattle.realisations.specs.Indices.{IsIndex, AreIndices, degree_of, total_degree}
use Rattle.realisations.specs.Lists.{one_if, with_sign}
use Rattle.realisations.specs.Occurrence.{occurs}
use Rattle.realisations.specs.Points.{Point}
use Rattle.realisations.specs.Readings.{Terms, leaf, element, numerator, occurrence, AgreeAt}
use Rattle.realisations.proofs.Linearity.{numerator-of_key}
use Rattle.realisations.proofs.TuplesOfPoints.{at_one_point}
use Rattle.linear_combos.specs.CodeLists.{ListsEach}
use Rattle.linear_combos.specs.Combos.{IsSumOfTerms}
use Rattle.linear_combos.proofs.Edits.{lowest_one}
use Rattle.linear_combos.proofs.Gathering.{gathered}
use Rattle.change_laws.specs.Changes.{signed_terms, IsChanged, HasChanges}
use Rattle.change_laws.proofs.Changes.{ReadsAsSum}
use Rattle.change_laws.proofs.CompositionsByBits.{every_composition, few_compositions}
use Rattle.change_laws.proofs.IntSums.{sum_over, sum_over-map}
use Rattle.change_laws.proofs.ListedSums.{each_listed}
use Rattle.change_laws.proofs.PassingSums.{IsCompositionOf, each_composition, few_passing, weighed-passing}
use Rattle.change_laws.proofs.SignedEntries.{sign_if, abs-with_sign, abs-sign_if}

-- the norm of terms with signs is their number
pub norm_of-signed : (signs : Code → ℕ) (codes : List Code) → norm_of (signed_terms signs codes) ≡ length codes
norm_of-signed signs [] = refl
norm_of-signed signs (v ∷ codes) =
    omega (arith, abs-with_sign (signs v), norm_of-signed signs codes, sum_by-cons (λ (t : ℤ × Key). unsigned_abs t.0) (with_sign (signs v) (pos 1), v ∷ []) (signed_terms signs codes))

-- the key has one code, a composition of n
abbrev IsKeyOf : ℕ → Key → Type 0
IsKeyOf n key = (parts : Code) × (key ≡ parts ∷ []) × IsCompositionOf n parts

keys-signed : (n : ℕ) (signs : Code → ℕ) (codes : List Code) → All (IsCompositionOf n) codes → (key : Key) → HasKey (signed_terms signs codes) key → IsKeyOf n key
keys-signed n signs codes each key (i, lt, is) =
    subst (IsKeyOf n) is
    (All-map (λ (t : ℤ × Key). IsKeyOf n t.1) (λ code. (with_sign (signs code) (pos 1), code ∷ [])) codes (λ k d le. (_, refl, each k d le)) i (pos 0, []) lt)

-- a basis indexed by compositions
pub record IsByCompositions (basis : BasisId) : Type 0 where
  pub index : (parts : Code) → IsComposition parts → IsIndex basis parts
  pub degree : (parts : Code) → degree_of basis parts ≡ sum parts

index-key : (basis : BasisId) → IsByCompositions basis → (n : ℕ) (key : Key) → IsKeyOf n key → AreIndices (basis ∷ []) key
index-key basis by n key (parts, is, composition) = rw is (by.index parts composition.positive, tt)

degree-key : (basis : BasisId) → IsByCompositions basis → (n : ℕ) (key : Key) → IsKeyOf n key → total_degree (basis ∷ []) key ≡ n
degree-key basis by n key (parts, is, composition) = rw is (omega (arith, by.degree parts, composition.size))

one_factor : (t : Bool) → one_if t * 1 ≡ one_if t
one_factor true = refl
one_factor false = refl

-- an element is read 1 where it occurs
pub numerator-element : (basis : BasisId) (code : Code) (p : Point) → numerator (element basis code) (p ∷ []) ≡ pos (one_if (occurs basis code p))
numerator-element basis code p = numerator-of_key (basis ∷ []) (code ∷ []) (p ∷ []) ∙ ap pos (one_factor (occurs basis code p))

-- over 1, terms that weigh as the sum of the coefficients over all compositions, whatever they weigh
pub record WeighsAs (n : ℕ) (coefficient : Code → ℤ) (c : Combination) : Type 0 where
  pub rank : c.rank ≡ 1
  pub whole : c.den ≡ 1
  pub terms : AreTerms 1 c.terms
  pub norm : norm_of c.terms ≤ 2 ^ n
  pub keys : (key : Key) → HasKey c.terms key → IsKeyOf n key
  pub weighs : (weight : Key → ℤ) → weighed weight c.terms ≡ sum_over (λ code. coefficient code *ℤ weight (code ∷ [])) (every_composition n)

-- they are the element that reads as this sum
changed : (from to : BasisId) → IsByCompositions to → (coefficient : Code → Code → ℤ) → ReadsAsSum from to coefficient
    → (parts : Code) → IsComposition parts → (c : Combination) → WeighsAs (sum parts) (coefficient parts) c → IsChanged from to parts c
changed from to by coefficient reads parts h c is = record {
  answer = record {
    canonical = subst (λ r. IsCanonical r c.den c.terms) (sym is.rank) (subst (λ d. IsCanonical 1 d c.terms) (sym is.whole) (record { ordered = is.terms; lowest = lowest_one c.terms }));
    rank = is.rank;
    whole = is.whole;
    small = let room : 2 ^ sum parts ≤ 2 ^ (5 * sum parts) = pow_mono (omega arith) in omega (arith, is.norm);
    indices = λ key has. index-key to by (sum parts) key (is.keys key has);
    degrees = λ key has. degree-key to by (sum parts) key (is.keys key has);
    reads = at_one_point (kind_of to) (AgreeAt (leaf (to ∷ []) 1 c.terms) (element from parts)) (λ p point. ap (λ z. z *ℤ pos 1) (numerators p));
  };
  norm = is.norm;
}
  where
    numerators : (p : Point) → numerator (leaf (to ∷ []) 1 c.terms) (p ∷ []) ≡ numerator (element from parts) (p ∷ [])
    numerators p =
        is.weighs (λ key. pos (occurrence (to ∷ []) key (p ∷ [])))
        ∙ (λ i. sum_over (λ code. coefficient parts code *ℤ pos (one_factor (occurs to code p) i)) (every_composition (sum parts)))
        ∙ reads parts h p
        ∙ sym (numerator-element from parts p)

-- all compositions of n, each with a coefficient
abbrev all_terms : (Code → ℤ) → List Code → Terms
all_terms coefficient codes = map (λ code. (coefficient code, code ∷ [])) codes

norm_of-all : (coefficient : Code → ℤ) → ((code : Code) → unsigned_abs (coefficient code) ≤ 1) → (codes : List Code) → norm_of (all_terms coefficient codes) ≤ length codes
norm_of-all coefficient small [] = omega arith
norm_of-all coefficient small (v ∷ codes) =
    omega (arith, small v, norm_of-all coefficient small codes, sum_by-cons (λ (t : ℤ × Key). unsigned_abs t.0) (coefficient v, v ∷ []) (all_terms coefficient codes))

keys-all : (n : ℕ) (coefficient : Code → ℤ) (codes : List Code) → All (IsCompositionOf n) codes → (key : Key) → HasKey (all_terms coefficient codes) key → IsKeyOf n key
keys-all n coefficient codes each key (i, lt, is) =
    subst (IsKeyOf n) is
    (All-map (λ (t : ℤ × Key). IsKeyOf n t.1) (λ code. (coefficient code, code ∷ [])) codes (λ k d le. (_, refl, each k d le)) i (pos 0, []) lt)

ranks-all : (coefficient : Code → ℤ) (codes : List Code) (i : ℕ) → i < length (all_terms coefficient codes) → length ((term_at (all_terms coefficient codes) i).1) ≡ 1
ranks-all coefficient codes i lt = All-map (λ (t : ℤ × Key). length t.1 ≡ 1) (λ code. (coefficient code, code ∷ [])) codes (λ k d le. refl) i (pos 0, []) lt

module _ (from to : BasisId) (by : IsByCompositions to) (test : Code → Code → Bool) (signs : Code → Code → ℕ)
    (size : (parts code : Code) → IsComposition parts → IsTrue (test parts code) → sum code ≡ sum parts)
    (reads : ReadsAsSum from to (λ parts code. sign_if (test parts code) (signs parts code))) where
  -- what gathers the compositions that pass, each with its sign, is the element over the other basis
  pub change_answer : (parts : Code) → IsComposition parts → (codes : List Code) → ListsEach (λ code. IsComposition code × IsTrue (test parts code)) codes → (c : Combination)
      → IsSumOfTerms 1 (signed_terms (signs parts) codes) c → IsChanged from to parts c
  change_answer parts h codes lists c is =
      let n = sum parts in
      let size_here = λ (code : Code) (hc : IsComposition code) (passes : IsTrue (test parts code)). size parts code h passes in
      let each : All (IsCompositionOf n) codes =
      All-weaker (λ code. IsComposition code × IsTrue (test parts code)) (IsCompositionOf n) (λ code p. record { positive = p.0; size = size parts code h p.1 }) codes
      (each_listed (λ code. IsComposition code × IsTrue (test parts code)) codes lists) in
      changed from to by (λ parts code. sign_if (test parts code) (signs parts code)) reads parts h c
      (record {
        rank = is.rank_is;
        whole = is.whole;
        terms = is.gathers.terms;
        norm = omega (arith, is.gathers.norm, norm_of-signed (signs parts) codes, few_passing n (test parts) size_here codes lists);
        keys = λ key has. keys-signed n (signs parts) codes each key (is.gathers.keys key has);
        weighs = λ weight. is.gathers.weighs weight ∙ weighed-passing n (test parts) size_here codes lists (signs parts) weight;
      })

  -- and there is such a combination
  pub change_exists : HasChanges from to
  change_exists parts h less =
      let n = sum parts in
      let coefficient = λ (code : Code). sign_if (test parts code) (signs parts code) in
      let codes = every_composition n in
      let few : norm_of (all_terms coefficient codes) ≤ 2 ^ n = omega (arith, norm_of-all coefficient (λ code. abs-sign_if (test parts code) (signs parts code)) codes, few_compositions n) in
      let (us, g) = gathered 1 (all_terms coefficient codes) (ranks-all coefficient codes) (omega (arith, few, pow_below n 127 less)) in
      let c : Combination = record { rank = 1; den = 1; terms = us } in (
        c,
        changed from to by (λ parts code. sign_if (test parts code) (signs parts code)) reads parts h c
            (record {
              rank = refl;
              whole = refl;
              terms = g.terms;
              norm = omega (arith, g.norm, few);
              keys = λ key has. keys-all n coefficient codes (each_composition n) key (g.keys key has);
              weighs = λ weight. g.weighs weight ∙ sum_over-map (λ (t : ℤ × Key). t.0 *ℤ weight t.1) (λ code. (coefficient code, code ∷ [])) codes;
            }),
      )
