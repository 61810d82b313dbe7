-- Which words read differently, and which have a partner, by the parts of their indices.
use Rattle.std.proofs.Common.{◌≡◌, ◌≢◌, ℕ, IsTrue, ◌<◌, ◌↔◌, inl, inr, List, length, refl, sym, ◌∙◌, ap}
use Rattle.basis_names.specs.declared.bases.AlgebraId.{AlgebraId}
use Rattle.basis_names.specs.declared.bases.BasisId.{BasisId}
use Rattle.realisations.specs.Bases.{representative}
use Rattle.realisations.specs.Codes.{Code}
use Rattle.realisations.specs.Combinations.{AreTerms}
use Rattle.realisations.specs.IndexKinds.{is_packed}
use Rattle.realisations.specs.Indices.{degree_of}
use Rattle.realisations.specs.Points.{Point}
use Rattle.realisations.specs.Readings.{Terms, leaf}
use Rattle.realisations.specs.Standardisation.{pack}
use Rattle.linear_combos.specs.Packing.{packed}
use Rattle.change_laws.proofs.CompositionsByBits.{alike}
use Rattle.separation_laws.specs.Classes.{IsClassBasis, class_basis, class_for, index_of_word}
use Rattle.separation_laws.specs.Conversions.{basis_at}
use Rattle.separation_laws.specs.FiniteTests.{IsInClassOf, IsOtherPart, coarse_class, part}
use Rattle.separation_laws.specs.Separation.{IsPartner, ReadDifferently}
use Rattle.separation_laws.proofs.ClassBases.{is_packed-pack}
use Rattle.separation_laws.proofs.Classes.{class-pack}
use Rattle.separation_laws.proofs.CoarserClasses.{Refines}
use Rattle.separation_laws.proofs.DecidedReadings.{AreTermsOver, alike_or_differently}
use Rattle.separation_laws.proofs.FiniteTests.{alike_from_parts, parts_from_alike}
use Rattle.separation_laws.proofs.SeparatingPairs.{not_both}

module _ (fine : BasisId) (fine_classes : IsClassBasis fine (index_of_word fine))
    (n : ℕ) (bases : List BasisId) (den d : ℕ) (ts : Terms) (lt : n < length bases) (is : basis_at bases n ≡ fine) (terms : AreTerms (length bases) ts) (over : AreTermsOver bases d ts) where
  -- words read differently exactly where the parts of their indices differ
  pub differ_by_parts : (u v : Point) → ReadDifferently (leaf bases den ts) n u v ↔ (part n (index_of_word fine u) ts ≢ part n (index_of_word fine v) ts)
  differ_by_parts u v = (
    λ differ same. not_both (leaf bases den ts) n u v (alike_from_parts fine fine_classes n bases den ts lt is terms over.indices u v same) differ,
    λ other. elim (alike_or_differently n bases lt den d ts over u v) [
      | inr differ ↦ differ
      | inl alike ↦ absurd (other (parts_from_alike fine fine_classes n bases den ts lt is terms over.indices u v alike))
    ],
  )

  module _ (target : AlgebraId) (classes : IsClassBasis (class_basis target) (class_for target)) (refines : Refines fine target) where
    -- the index of a word has its class
    pub coarse_same : (w : Point) → coarse_class target fine (index_of_word fine w) ≡ class_for target w
    coarse_same w = refines (representative fine (index_of_word fine w)) w (fine_classes.class (index_of_word fine w) (fine_classes.index w))

    -- where words have one class, the indices of the one are of the class of those of the other
    pub indices_in_class : (u v : Point) → class_for target v ≡ class_for target u → IsInClassOf target fine (index_of_word fine u) (index_of_word fine v)
    indices_in_class u v same = record {
      index = fine_classes.index v;
      degree = fine_classes.degree v ∙ sym (classes.degree v) ∙ ap (degree_of (class_basis target)) same ∙ classes.degree u ∙ sym (fine_classes.degree u);
      same_class = coarse_same v ∙ same ∙ sym (coarse_same u);
    }

    -- where a word has a partner, its index has the index of the partner as another part
    pub other_from_partner : (u v : Point) → IsPartner (leaf bases den ts) n target u v → IsOtherPart n fine target ts (index_of_word fine u) (index_of_word fine v)
    other_from_partner u v partner = record { in_class = indices_in_class u v partner.same_class; differs = (differ_by_parts u v).0 partner.differs }

    -- where an index has another part, words of these two indices are partners
    pub partner_from_other : (c e : Code) → IsOtherPart n fine target ts c e → (u v : Point) → index_of_word fine u ≡ c → index_of_word fine v ≡ e → IsTrue (is_packed v) → IsPartner (leaf bases den ts) n target u v
    partner_from_other c e other u v iu iv packed = record {
      packed = packed;
      same_class = sym (coarse_same v) ∙ ap (coarse_class target fine) iv ∙ other.in_class.same_class ∙ ap (coarse_class target fine) (sym iu) ∙ coarse_same u;
      differs = (differ_by_parts u v).1 (λ same. other.differs (ap (λ code. part n code ts) (sym iu) ∙ same ∙ ap (λ code. part n code ts) iv));
    }

    -- so a word has a partner exactly where its index has another part in its class
    pub parted_by_parts : (u : Point) → ((v : Point) × IsPartner (leaf bases den ts) n target u v) ↔ ((e : Code) × IsOtherPart n fine target ts (index_of_word fine u) e)
    parted_by_parts u = (
      λ has. (index_of_word fine has.0, other_from_partner u has.0 has.1),
      λ other. (
        pack (representative fine other.0),
        partner_from_other (index_of_word fine u) other.0 other.1 u (pack (representative fine other.0)) refl
            (class-pack fine (index_of_word fine) fine_classes (representative fine other.0) ∙ fine_classes.class other.0 other.1.in_class.index) (is_packed-pack (representative fine other.0)),
      ),
    )
