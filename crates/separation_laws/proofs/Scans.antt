-- A scan of the packed words in their order finds the separating pair, or that there is none.
use Rattle.std.proofs.Common.{◌≡◌, ℕ, ◌<◌, inl, inr, List, length, sym, subst, arith}
use Rattle.std.proofs.lemmas.Bool.{cases_order}
use Rattle.basis_names.specs.declared.bases.AlgebraId.{AlgebraId}
use Rattle.basis_names.specs.declared.bases.BasisId.{BasisId}
use Rattle.realisations.specs.Bases.{kind_of}
use Rattle.realisations.specs.Points.{word}
use Rattle.realisations.specs.Readings.{Terms, leaf}
use Rattle.separation_laws.specs.Classes.{IsClassBasis, class_basis, class_for}
use Rattle.separation_laws.specs.Conversions.{basis_at}
use Rattle.separation_laws.specs.Scans.{ArePackedWords, NoneParted, NonePartners, word_at}
use Rattle.separation_laws.specs.Separation.{IsBefore, IsPartner, IsSeparatingPair}
use Rattle.separation_laws.proofs.DecidedReadings.{AreTermsOver}
use Rattle.separation_laws.proofs.SeparatingPairs.{length-class, length-partner}
use Rattle.separation_laws.proofs.WordOrder.{before_itself, before_trans}

-- a word of the list that comes before the word at a place stands at an earlier place
earlier_place : (d : ℕ) (ws : List (List ℕ)) → ArePackedWords d ws → (i k : ℕ) → i < length ws → k < length ws → IsBefore (word_at ws k) (word_at ws i) → k < i
earlier_place d ws are i k li lk before = elim (cases_order k i) [
  | inl same ↦ absurd (before_itself (word_at ws i) (subst (λ m. IsBefore (word_at ws m) (word_at ws i)) same before))
  | inr other ↦ elim other [
    | inl earlier ↦ earlier
    | inr later ↦ absurd (before_itself (word_at ws k) (before_trans (word_at ws k) (word_at ws i) (word_at ws k) before (are.rising i k later lk)))
  ]
]

module _ (target : AlgebraId) (classes : IsClassBasis (class_basis target) (class_for target))
    (n : ℕ) (bases : List BasisId) (lt : n < length bases) (kind : kind_of (basis_at bases n) ≡ word) (den d : ℕ) (ts : Terms) (over : AreTermsOver bases d ts)
    (ws : List (List ℕ)) (are : ArePackedWords d ws) where
  -- where none of the words has a partner there is no separating pair
  pub no_pair_scanned : NoneParted (leaf bases den ts) n target ws (length ws) → (u v : List ℕ) → IsSeparatingPair (leaf bases den ts) n target u v → ⊥
  no_pair_scanned none u v pair =
      let at = are.all u pair.packed (length-partner target classes n bases lt kind den d ts over u v pair.partner) in
      none at.0 at.1 v (subst (λ w. IsPartner (leaf bases den ts) n target w v) (sym at.2) pair.partner)

  -- the first word with a partner, and its first partner, are the separating pair
  pub pair_scanned : (i j : ℕ) → i < length ws → j < length ws → NoneParted (leaf bases den ts) n target ws i → NonePartners (leaf bases den ts) n target ws (word_at ws i) j
      → IsPartner (leaf bases den ts) n target (word_at ws i) (word_at ws j) → IsSeparatingPair (leaf bases den ts) n target (word_at ws i) (word_at ws j)
  pair_scanned i j li lj none none' partner = record {
    packed = are.packed i li;
    partner = partner;
    first = λ w w' packed before is.
        let at = are.all w packed (length-partner target classes n bases lt kind den d ts over w w' is) in
        none at.0 (earlier_place d ws are i at.0 li at.1 (subst (λ x. IsBefore x (word_at ws i)) (sym at.2) before)) w'
        (subst (λ x. IsPartner (leaf bases den ts) n target x w') (sym at.2) is);
    first_partner = λ w before is.
        let short = length-partner target classes n bases lt kind den d ts over (word_at ws i) w is in
        let same = length-class target classes n bases lt kind den d ts over (word_at ws i) w is.same_class in
        let at = are.all w is.packed (omega arith) in
        none' at.0 (earlier_place d ws are j at.0 lj at.1 (subst (λ x. IsBefore x (word_at ws j)) (sym at.2) before))
        (subst (λ x. IsPartner (leaf bases den ts) n target (word_at ws i) x) (sym at.2) is);
  }
