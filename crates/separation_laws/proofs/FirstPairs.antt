-- The separating pair by the indices of a class basis, in the order of first words.
use Rattle.std.proofs.Common.{◌≡◌, ℕ, IsTrue, ◌<◌, inl, inr, List, length, sym, subst}
use Rattle.basis_names.specs.declared.bases.AlgebraId.{AlgebraId}
use Rattle.basis_names.specs.declared.bases.BasisId.{BasisId}
use Rattle.realisations.specs.Codes.{Code}
use Rattle.realisations.specs.Combinations.{AreTerms}
use Rattle.realisations.specs.IndexKinds.{is_packed}
use Rattle.realisations.specs.Indices.{IsIndex}
use Rattle.realisations.specs.Points.{Point}
use Rattle.realisations.specs.Readings.{Terms, leaf}
use Rattle.separation_laws.specs.Classes.{IsClassBasis, class_basis, class_for, index_of_word}
use Rattle.separation_laws.specs.Conversions.{basis_at}
use Rattle.separation_laws.specs.FiniteTests.{AreFirstWords, IsFirstPair, IsOtherPart}
use Rattle.separation_laws.specs.Separation.{IsBefore, IsPartner, IsSeparatingPair}
use Rattle.separation_laws.proofs.CoarserClasses.{Refines}
use Rattle.separation_laws.proofs.DecidedReadings.{AreTermsOver}
use Rattle.separation_laws.proofs.PartedWords.{other_from_partner, partner_from_other}
use Rattle.separation_laws.proofs.WordOrder.{before_trans}

module _ (fine : BasisId) (fine_classes : IsClassBasis fine (index_of_word fine)) (first : Code → Point) (firsts : AreFirstWords fine first)
    (target : AlgebraId) (classes : IsClassBasis (class_basis target) (class_for target)) (refines : Refines fine target)
    (n : ℕ) (bases : List BasisId) (den d : ℕ) (ts : Terms) (lt : n < length bases) (is : basis_at bases n ≡ fine) (terms : AreTerms (length bases) ts) (over : AreTermsOver bases d ts) where
  -- where a word has a partner, its index has another part
  other : (u v : Point) → IsPartner (leaf bases den ts) n target u v → IsOtherPart n fine target ts (index_of_word fine u) (index_of_word fine v)
  other u v partner = other_from_partner fine fine_classes n bases den d ts lt is terms over target classes refines u v partner

  -- where an index has another part, its first word has a partner
  partner : (c e : Code) → IsIndex fine c → IsOtherPart n fine target ts c e → IsPartner (leaf bases den ts) n target (first c) (first e)
  partner c e ic other =
      partner_from_other fine fine_classes n bases den d ts lt is terms over target classes refines c e other (first c) (first e) (firsts.class c ic) (firsts.class e other.in_class.index)
      (firsts.packed e other.in_class.index)

  -- the first word of the index of a word that comes before another one comes before it
  first_before : (w u : Point) → IsTrue (is_packed w) → IsBefore w u → IsBefore (first (index_of_word fine w)) u
  first_before w u packed before = elim (firsts.earliest w packed) [
    | inl same ↦ subst (λ x. IsBefore x u) (sym same) before
    | inr earlier ↦ before_trans (first (index_of_word fine w)) w u earlier before
  ]

  -- the first words of the first pair of indices are the separating pair
  pub pair_from_indices : (c e : Code) → IsFirstPair n fine first target ts c e → IsSeparatingPair (leaf bases den ts) n target (first c) (first e)
  pair_from_indices c e pair = record {
    packed = firsts.packed c pair.index;
    partner = partner c e pair.index pair.other_part;
    first = λ w w' packed before parted.
        pair.first_index (index_of_word fine w) (index_of_word fine w') (fine_classes.index w) (first_before w (first c) packed before) (other w w' parted);
    first_partner = λ w before parted.
        pair.first_other (index_of_word fine w) (first_before w (first e) parted.packed before)
        (subst (λ x. IsOtherPart n fine target ts x (index_of_word fine w)) (firsts.class c pair.index) (other (first c) w parted));
  }

  -- the words of the separating pair are first words
  pub first_words_of_pair : (u v : Point) → IsSeparatingPair (leaf bases den ts) n target u v → (first (index_of_word fine u) ≡ u) × (first (index_of_word fine v) ≡ v)
  first_words_of_pair u v pair =
      let c = index_of_word fine u in
      let e = index_of_word fine v in
      let parted = partner c e (fine_classes.index u) (other u v pair.partner) in
      let same_u : first c ≡ u = elim (firsts.earliest u pair.packed) [
        | inl same ↦ same
        | inr before ↦ absurd (pair.first (first c) (first e) (firsts.packed c (fine_classes.index u)) before parted)
      ] in
      let same_v : first e ≡ v = elim (firsts.earliest v pair.partner.packed) [
        | inl same ↦ same
        | inr before ↦ absurd (pair.first_partner (first e) before (subst (λ x. IsPartner (leaf bases den ts) n target x (first e)) same_u parted))
      ] in
      (same_u, same_v)

  -- so the separating pair comes from a first pair of indices
  pub indices_from_pair : (u v : Point) → IsSeparatingPair (leaf bases den ts) n target u v → IsFirstPair n fine first target ts (index_of_word fine u) (index_of_word fine v)
  indices_from_pair u v pair =
      let c = index_of_word fine u in
      let e = index_of_word fine v in
      let same = first_words_of_pair u v pair in
      record {
        index = fine_classes.index u;
        other_part = other u v pair.partner;
        first_index = λ b b' ib before other'.
            pair.first (first b) (first b') (firsts.packed b ib) (subst (λ x. IsBefore (first b) x) same.0 before) (partner b b' ib other');
        first_other = λ b before other'.
            pair.first_partner (first b) (subst (λ x. IsBefore (first b) x) same.1 before)
            (subst (λ x. IsPartner (leaf bases den ts) n target x (first b)) same.0 (partner c b (fine_classes.index u) other'));
      }
