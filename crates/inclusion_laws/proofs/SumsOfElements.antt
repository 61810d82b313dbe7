-- What gathers the elements of listed indices is the answer that they read as.
use Rattle.std.proofs.Common.{◌≡◌, ℕ, zero, suc, ◌*◌, ◌^◌, ◌<◌, ◌≤◌, List, [], ◌∷◌, length, refl, sym, ◌∙◌, ap, subst, arith, unsigned_abs}
use Rattle.std.proofs.Math.IntN.{ℤ, pos, ◌*ℤ◌}
use Rattle.std.proofs.Math.Nat.{pow-le-pow_right}
use Rattle.std.proofs.lemmas.List.Elements.{All-map}
use Rattle.std.proofs.lemmas.List.Sums.{sum_by-cons}
use Rattle.basis_names.specs.declared.bases.BasisId.{BasisId}
use Rattle.realisations.specs.Answers.{IsAnswer}
use Rattle.realisations.specs.Bases.{kind_of}
use Rattle.realisations.specs.Codes.{Code, Key}
use Rattle.realisations.specs.Combinations.{AreTerms, IsLowest, Combination, HasKey, norm_of, term_at}
use Rattle.realisations.specs.Indices.{AreIndices, degree_of, total_degree}
use Rattle.realisations.specs.Lists.{one_if}
use Rattle.realisations.specs.Occurrence.{occurs}
use Rattle.realisations.specs.Points.{IsPoint}
use Rattle.realisations.specs.Readings.{Reading, leaf, element, denominator, numerator, occurrence, AgreeAt}
use Rattle.realisations.proofs.TuplesOfPoints.{at_one_point}
use Rattle.linear_combos.specs.Combos.{IsSumOfTerms}
use Rattle.linear_combos.proofs.Edits.{lowest_one}
use Rattle.linear_combos.proofs.Gathering.{gathered}
use Rattle.product_laws.specs.Products.{AreOfDegree, terms_of_codes}
use Rattle.product_laws.proofs.ElementProducts.{element_at, occurrences, terms_of_codes_at}
use Rattle.inclusion_laws.specs.Inclusions.{IsIncluded}

-- the key has one code, that of an index of degree n
abbrev IsKeyOf : BasisId → ℕ → Key → Type 0
IsKeyOf basis n key = AreIndices (basis ∷ []) key × (total_degree (basis ∷ []) key ≡ n)

key_at : (basis : BasisId) (n : ℕ) (codes : List Code) → AreOfDegree basis n codes → (i : ℕ) → i < length (terms_of_codes codes) → IsKeyOf basis n ((term_at (terms_of_codes codes) i).1)
key_at basis n [] all i lt = absurd (omega (arith, lt))
key_at basis n (code ∷ codes) all zero lt = ((all.0.0, tt), omega (arith, all.0.1))
key_at basis n (code ∷ codes) all (suc i) lt = key_at basis n codes all.1 i (omega (arith, lt))

keys_of_codes : (basis : BasisId) (n : ℕ) (codes : List Code) → AreOfDegree basis n codes → (key : Key) → HasKey (terms_of_codes codes) key → IsKeyOf basis n key
keys_of_codes basis n codes all key has = subst (λ k. IsKeyOf basis n k) has.2 (key_at basis n codes all has.0 has.1)

-- the norm of elements is their number
pub norm_of-codes : (codes : List Code) → norm_of (terms_of_codes codes) ≡ length codes
norm_of-codes [] = refl
norm_of-codes (code ∷ codes) = omega (arith, sum_by-cons (λ (t : ℤ × Key). unsigned_abs t.0) (pos 1, code ∷ []) (terms_of_codes codes), norm_of-codes codes)

length-codes : (codes : List Code) (i : ℕ) → i < length (terms_of_codes codes) → length ((term_at (terms_of_codes codes) i).1) ≡ 1
length-codes codes i lt = All-map (λ (t : ℤ × Key). length t.1 ≡ 1) (λ code. (pos 1, code ∷ [])) codes (λ k d le. refl) i (pos 0, []) lt

-- what a rule owes that adds up elements: its codes are indices of degree n, at most 2^(5n), and read as a reading over 1
pub record AreElements (basis : BasisId) (n : ℕ) (reading : Reading) (codes : List Code) : Type 0 where
  pub whole : denominator reading ≡ 1
  pub indices : AreOfDegree basis n codes
  pub small : length codes ≤ 2 ^ (5 * n)
  pub reads : (p : List ℕ) → IsPoint (kind_of basis) p → pos (occurrences basis codes p) ≡ numerator reading (p ∷ [])

-- what gathers them is the answer
pub answered : (basis : BasisId) (n : ℕ) (reading : Reading) (codes : List Code) (c : Combination) → AreElements basis n reading codes → IsSumOfTerms 1 (terms_of_codes codes) c
    → IsAnswer (basis ∷ []) n reading c
answered basis n reading codes c of is =
    let ordered : AreTerms c.rank c.terms = subst (λ rank. AreTerms rank c.terms) (sym is.rank_is) is.gathers.terms in
    let lowest : IsLowest c.den c.terms = subst (λ den. IsLowest den c.terms) (sym is.whole) (lowest_one c.terms) in
    record {
      canonical = record { ordered = ordered; lowest = lowest };
      rank = is.rank_is;
      whole = is.whole;
      small = omega (arith, norm_of-codes codes, is.gathers.norm, of.small);
      indices = λ key has. (keys_of_codes basis n codes of.indices key (is.gathers.keys key has)).0;
      degrees = λ key has. (keys_of_codes basis n codes of.indices key (is.gathers.keys key has)).1;
      reads = at_one_point (kind_of basis) (AgreeAt (leaf (basis ∷ []) 1 c.terms) reading) (λ p point.
          ap (λ d. numerator (leaf (basis ∷ []) 1 c.terms) (p ∷ []) *ℤ pos d) of.whole
          ∙ ap (λ z. z *ℤ pos 1) (is.gathers.weighs (λ key. pos (occurrence (basis ∷ []) key (p ∷ []))) ∙ terms_of_codes_at basis codes p ∙ of.reads p point));
    }

-- up to degree 25 elements can be gathered
pub gathered_codes : (n : ℕ) (codes : List Code) → length codes ≤ 2 ^ (5 * n) → n ≤ 25 → (c : Combination) × IsSumOfTerms 1 (terms_of_codes codes) c
gathered_codes n codes few le =
    let bound : 2 ^ (5 * n) ≤ 2 ^ 125 = pow-le-pow_right {n = 2} (omega arith) {i = 5 * n} {j = 125} (omega (arith, le)) in
    let g = gathered 1 (terms_of_codes codes) (length-codes codes) (omega (arith, norm_of-codes codes, few, bound)) in
    let c : Combination = record { rank = 1; den = 1; terms = g.0 } in
    (c, record { rank_is = refl; whole = refl; gathers = g.1 })

-- and one element in any degree
pub gathered_code : (code : Code) → (c : Combination) × IsSumOfTerms 1 (terms_of_codes (code ∷ [])) c
gathered_code code = gathered_codes 0 (code ∷ []) (omega arith) (omega arith)

-- what an inclusion owes: its codes are indices of the degree n of the coarser one, at most 2^(k n) where n is at most 2^k, and occur at each point as often together as that one
pub record AreOver (fine coarse : BasisId) (index : Code) (codes : List Code) : Type 0 where
  pub indices : AreOfDegree fine (degree_of coarse index) codes
  pub small : length codes ≤ 2 ^ (5 * degree_of coarse index)
  pub few : (k : ℕ) → degree_of coarse index ≤ 2 ^ k → length codes ≤ 2 ^ (k * degree_of coarse index)
  pub occur : (p : List ℕ) → IsPoint (kind_of fine) p → occurrences fine codes p ≡ one_if (occurs coarse index p)

-- they add up to the element of that index
pub included : (fine coarse : BasisId) (index : Code) (codes : List Code) (c : Combination) → AreOver fine coarse index codes → IsSumOfTerms 1 (terms_of_codes codes) c → IsIncluded fine coarse index c
included fine coarse index codes c over is = record {
  answer = answered fine (degree_of coarse index) (element coarse index) codes c
      (record { whole = refl; indices = over.indices; small = over.small; reads = λ p point. ap pos (over.occur p point) ∙ sym (element_at coarse index p) }) is;
  norm = λ k le. omega (arith, norm_of-codes codes, is.gathers.norm, over.few k le);
}

-- and up to degree 25 there is such a combination
pub included_exists : (fine coarse : BasisId) (index : Code) (codes : List Code) → AreOver fine coarse index codes → degree_of coarse index ≤ 25 → (c : Combination) × IsIncluded fine coarse index c
included_exists fine coarse index codes over le =
    let g = gathered_codes (degree_of coarse index) codes over.small le in (g.0, included fine coarse index codes g.0 over g.1)
