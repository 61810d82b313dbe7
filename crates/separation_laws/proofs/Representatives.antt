-- Of each class it is enough to compare each packed word with the representative; and words of a class that reads differently each read differently from some other one.
use Rattle.std.proofs.Common.{◌≡◌, ℕ, suc, ◌<◌, ◌≤◌, ◌⊎◌, inl, inr, List, length, insert, IsTrue, sym, ◌∙◌, ap, arith}
use Rattle.std.proofs.lemmas.Bool.{cases_lt}
use Rattle.basis_names.specs.declared.bases.AlgebraId.{AlgebraId}
use Rattle.basis_names.specs.declared.bases.BasisId.{BasisId}
use Rattle.realisations.specs.Bases.{kind_of}
use Rattle.realisations.specs.IndexKinds.{is_packed}
use Rattle.realisations.specs.Indices.{degree_of}
use Rattle.realisations.specs.Points.{word}
use Rattle.realisations.specs.Readings.{Reading, Terms, leaf, numerator}
use Rattle.basis_representatives.proofs.Places.{within}
use Rattle.linear_combos.specs.Packing.{packed}
use Rattle.change_laws.proofs.CompositionsByBits.{alike}
use Rattle.separation_laws.specs.Classes.{IsClassBasis, class_basis, class_for}
use Rattle.separation_laws.specs.Conversions.{basis_at}
use Rattle.separation_laws.specs.Separation.{IsPartner, ReadAlike, ReadDifferently}
use Rattle.separation_laws.proofs.Alike.{ClassesReadAlike, words_alike}
use Rattle.separation_laws.proofs.Classes.{word_for}
use Rattle.separation_laws.proofs.Components.{length-others}
use Rattle.separation_laws.proofs.DecidedReadings.{AreTermsOver, decided_int, reads_none}

-- of two words that read differently one reads differently from any third one
pub differs_from_one : (a : Reading) (n : ℕ) (u v w : List ℕ) → ReadDifferently a n u v → ReadDifferently a n w u ⊎ ReadDifferently a n w v
differs_from_one a n u v w (qs, others, differ) = elim (decided_int (numerator a (insert qs n w)) (numerator a (insert qs n u))) [
  | inr other ↦ inl (qs, others, other)
  | inl same ↦ inr (qs, others, λ same'. differ (sym same ∙ same'))
]

-- in a class with two packed words that read differently each word has a partner
pub each_parted : (a : Reading) (n : ℕ) (target : AlgebraId) (u v w : List ℕ) → IsTrue (is_packed u) → IsPartner a n target u v → class_for target w ≡ class_for target u
    → (x : List ℕ) × IsPartner a n target w x
each_parted a n target u v w packed partner class = elim (differs_from_one a n u v w partner.differs) [
  | inl from_u ↦ (u, record { packed = packed; same_class = sym class; differs = from_u })
  | inr from_v ↦ (v, record { packed = partner.packed; same_class = partner.same_class ∙ sym class; differs = from_v })
]

-- each packed word up to a length reads like the representative of its class
abbrev pub ReadLikeRepresentatives : Reading → ℕ → AlgebraId → ℕ → Type 0
ReadLikeRepresentatives a n target d = (w : List ℕ) → IsTrue (is_packed w) → length w ≤ d → ReadAlike a n w (word_for target (class_for target w))

module _ (target : AlgebraId) (classes : IsClassBasis (class_basis target) (class_for target))
    (n : ℕ) (bases : List BasisId) (lt : n < length bases) (kind : kind_of (basis_at bases n) ≡ word) (den d : ℕ) (ts : Terms) (over : AreTermsOver bases d ts) where
  -- it is enough to compare each packed word, up to the degree of the leaf, with the representative of its class
  pub alike_from_representatives : ReadLikeRepresentatives (leaf bases den ts) n target d → ClassesReadAlike (leaf bases den ts) n target
  alike_from_representatives like u v pu pv class qs others = elim (cases_lt d (length u)) [
    | inr within ↦
        like u pu within qs others
        ∙ ap (λ c. numerator (leaf bases den ts) (insert qs n (word_for target c))) class
        ∙ sym (like v pv (let e : length v ≤ d = omega (arith, same) in e) qs others)
    | inl above ↦
        reads_none n bases lt den d ts over kind u above qs long ∙ sym (reads_none n bases lt den d ts over kind v (omega (arith, same)) qs long)
  ]
    where
      same : length v ≡ length u
      same = sym (classes.degree v) ∙ ap (degree_of (class_basis target)) (sym class) ∙ classes.degree u

      long : suc (length qs) ≡ length bases
      long = length-others n bases qs lt others

  -- and it is needed
  pub representatives_from_alike : ClassesReadAlike (leaf bases den ts) n target → ReadLikeRepresentatives (leaf bases den ts) n target d
  representatives_from_alike alike w packed short qs others =
      words_alike n bases den ts lt over.indices kind target classes alike w (word_for target (class_for target w)) (sym (classes.class (class_for target w) (classes.index w)))
      qs others
