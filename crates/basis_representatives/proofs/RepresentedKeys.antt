-- At the representatives of a key that key is read 1, and another only where its measure is smaller.
use Rattle.std.proofs.Common.{◌≡◌, ◌⊎◌, ℕ, ◌+◌, ◌*◌, ◌<◌, List, [], ◌∷◌, map, refl, sym, ◌∙◌, ap, arith, inl, inr}
use Rattle.std.proofs.lemmas.Bool.{cases_Bool}
use Rattle.std.specs.declared.cmp.Ordering.{Ordering}
use Rattle.std.specs.declared.cmp.Ordering.TheVariants.{Less, Equal, Greater}
use Rattle.realisations.specs.Lists.{one_if}
use Rattle.basis_names.specs.declared.bases.BasisId.{BasisId}
use Rattle.realisations.specs.Occurrence.{occurs}
use Rattle.realisations.specs.Readings.{occurrence}
use Rattle.realisations.specs.Combinations.{key_cmp}
use Rattle.realisations.proofs.KeyOrders.{same_key}
use Rattle.realisations.proofs.Coefficients.{Codes, counts}
use Rattle.realisations.specs.Bases.{kind_of, representative, representatives}
use Rattle.realisations.specs.Points.{ArePoints}
use Rattle.realisations.specs.Indices.{AreIndices}
use Rattle.basis_representatives.specs.Laws.{RepresentativesLaw}
use Rattle.basis_representatives.proofs.VanishingWeights.{key_cmp-self}
use Rattle.basis_representatives.proofs.TriangularReadings.{IsTriangular}

-- the measure of a key: the sum of those of its codes
abbrev pub measure_of : (bases : List BasisId) → RepresentativesLaw → Codes → ℕ
measure_of [] have key = 0
measure_of (basis ∷ bases) have [] = 0
measure_of (basis ∷ bases) have (code ∷ key) = (have basis).measure code + measure_of bases have key

-- a key is read 1 at its representatives
occurrence-own : (bases : List BasisId) (have : RepresentativesLaw) (key : Codes) (h : AreIndices bases key) → occurrence bases key (representatives bases key) ≡ 1
occurrence-own [] have [] h = refl
occurrence-own [] have (code ∷ key) h = absurd h
occurrence-own (basis ∷ bases) have [] h = absurd h
occurrence-own (basis ∷ bases) have (code ∷ key) h =
    ap (λ b. one_if b * occurrence bases key (representatives bases key)) ((have basis).own code h.0)
    ∙ ap (λ n. 1 * n) (occurrence-own bases have key h.1)

-- a key at the representatives of another: it is not read there, or it is the same, or it has a smaller measure
abbrev Stands : (bases : List BasisId) (have : RepresentativesLaw) (k key : Codes) → AreIndices bases key → Type 0
Stands bases have k key h =
    (occurrence bases k (representatives bases key) ≡ 0) ⊎ ((k ≡ key) ⊎ (measure_of bases have k < measure_of bases have key))

stands : (bases : List BasisId) (have : RepresentativesLaw) (k key : Codes) → AreIndices bases k → (h : AreIndices bases key) → Stands bases have k key h
stands [] have [] [] hk h = inr (inl refl)
stands [] have (c ∷ k) key hk h = absurd hk
stands [] have [] (d ∷ key) hk h = absurd h
stands (basis ∷ bases) have [] key hk h = absurd hk
stands (basis ∷ bases) have (c ∷ k) [] hk h = absurd h
stands (basis ∷ bases) have (c ∷ k) (d ∷ key) hk h = elim (cases_Bool (occurs basis c (representative basis d))) [
  | inr apart ↦ inl (ap (λ b. one_if b * occurrence bases k (representatives bases key)) apart ∙ none_left (occurrence bases k (representatives bases key)))
  | inl there ↦ by_rest ((have basis).others d c h.0 hk.0 there) (stands bases have k key hk.1 h.1)
]
  where
    none_left : (n : ℕ) → 0 * n ≡ 0
    none_left n = omega arith

    none_right : (n : ℕ) → n * 0 ≡ 0
    none_right n = omega arith

    by_rest : (c ≡ d) ⊎ ((have basis).measure c < (have basis).measure d) → Stands bases have k key h.1 → Stands (basis ∷ bases) have (c ∷ k) (d ∷ key) h
    by_rest first (inl none) = inl (ap (λ n. one_if (occurs basis c (representative basis d)) * n) none ∙ none_right (one_if (occurs basis c (representative basis d))))
    by_rest (inl same) (inr (inl rest)) = inr (inl (λ i. same i ∷ rest i))
    by_rest (inl same) (inr (inr smaller)) = inr (inr (let equal = ap (λ code. (have basis).measure code) same in omega arith))
    by_rest (inr smaller) (inr (inl rest)) = inr (inr (let equal = ap (measure_of bases have) rest in omega arith))
    by_rest (inr smaller) (inr (inr smaller')) = inr (inr (omega arith))

-- readings at representatives, of any rank, are unit triangular
pub triangular_keys : (bases : List BasisId) (have : RepresentativesLaw)
    → IsTriangular (AreIndices bases) (measure_of bases have) (λ k key h. occurrence bases k (representatives bases key))
triangular_keys bases have k key hk h = elim (stands bases have k key hk h) [
  | inl none ↦ inl (by_order (key_cmp k key) refl none)
  | inr (inl same) ↦
      inl (ap (λ v. occurrence bases v (representatives bases key)) same ∙ occurrence-own bases have key h ∙ sym (ap counts (ap (λ v. key_cmp v key) same ∙ key_cmp-self key)))
  | inr (inr smaller) ↦ inr smaller
]
  where
    by_order : (o : Ordering) → key_cmp k key ≡ o → occurrence bases k (representatives bases key) ≡ 0
        → occurrence bases k (representatives bases key) ≡ counts (key_cmp k key)
    by_order Less e none = none ∙ sym (ap counts e)
    by_order Greater e none = none ∙ sym (ap counts e)
    by_order Equal e none =
        let own = occurrence-own bases have key h in
        let same = ap (λ v. occurrence bases v (representatives bases key)) (same_key k key e) in
        absurd (omega arith)

-- the representatives of a key are points
pub points_of_key : (bases : List BasisId) (have : RepresentativesLaw) (key : Codes) → AreIndices bases key → ArePoints (map kind_of bases) (representatives bases key)
points_of_key [] have [] h = tt
points_of_key [] have (code ∷ key) h = absurd h
points_of_key (basis ∷ bases) have [] h = absurd h
points_of_key (basis ∷ bases) have (code ∷ key) h = ((have basis).point code h.0, points_of_key bases have key h.1)
