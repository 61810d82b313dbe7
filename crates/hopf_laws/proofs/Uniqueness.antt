-- The law of uniqueness for values.
use Rattle.std.proofs.Common.{◌≡◌, ℕ, ◌≤◌, List, length, sym, ◌∙◌, ap, subst}
use Rattle.basis_names.specs.declared.bases.BasisId.{BasisId}
use Rattle.realisations.specs.Bases.{representatives}
use Rattle.realisations.specs.Combinations.{HasKey}
use Rattle.realisations.specs.Indices.{AreIndices}
use Rattle.realisations.specs.Readings.{Reading, leaf, denominator, AgreeAt}
use Rattle.basis_representatives.proofs.Uniqueness.{unique, unique_reading}
use Rattle.hopf_laws.specs.Values.{Expansion, Expands, reading_of}
use Rattle.hopf_laws.specs.Laws.{UniquenessLaw}

pub unique_value : UniquenessLaw
unique_value v w hv hw same agree =
    let combination : v.combination ≡ w.combination =
    unique v.bases v.combination w.combination hv.canonical hw.canonical hv.rank (hw.rank ∙ ap (λ bs. length bs) (sym same)) hv.indices
    (λ key has. subst (λ bs. AreIndices bs key) (sym same) (hw.indices key has))
    (λ key h. subst (λ bs. AgreeAt (reading_of v) (leaf bs w.combination.den w.combination.terms) (representatives v.bases key)) (sym same) (agree key h)) in
    λ i. record { bases = same i; combination = combination i }

-- two values that a reading asks for over the same bases are equal
pub expands_once : (bases : List BasisId) (r : Reading) (v w : Expansion) → 1 ≤ denominator r → Expands bases r v → Expands bases r w → v ≡ w
expands_once bases r v w positive h k =
    let over : v.bases ≡ w.bases = h.over ∙ sym k.over in
    let same : v.combination ≡ w.combination =
    unique_reading bases r v.combination w.combination h.value.canonical k.value.canonical
    (h.value.rank ∙ ap (λ (bs : List BasisId). length bs) h.over) (k.value.rank ∙ ap (λ (bs : List BasisId). length bs) k.over) positive
    (subst (λ bs. (key : List (List ℕ)) → HasKey v.combination.terms key → AreIndices bs key) h.over h.value.indices)
    (subst (λ bs. (key : List (List ℕ)) → HasKey w.combination.terms key → AreIndices bs key) k.over k.value.indices)
    (λ ps points. subst (λ bs. AgreeAt (leaf bs v.combination.den v.combination.terms) r ps) h.over (h.reads ps points))
    (λ ps points. subst (λ bs. AgreeAt (leaf bs w.combination.den w.combination.terms) r ps) k.over (k.reads ps points)) in
    λ i. record { bases = over i; combination = same i }
