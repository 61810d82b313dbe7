-- Each class basis of words has first words.
use Rattle.std.proofs.Common.{◌≡◌, ◌⊎◌, inl, inr, IsTrue, [], refl, ◌∙◌, subst, arith}
use Rattle.basis_names.specs.declared.bases.BasisId.{BasisId}
use Rattle.realisations.specs.Bases.{representative}
use Rattle.realisations.specs.Codes.{Code}
use Rattle.realisations.specs.IndexKinds.{is_packed}
use Rattle.realisations.specs.Indices.{IsIndex, degree_of}
use Rattle.realisations.specs.Points.{Point}
use Rattle.realisations.specs.Standardisation.{pack}
use Rattle.separation_laws.specs.Classes.{IsClassBasis, index_of_word}
use Rattle.separation_laws.specs.FiniteTests.{AreFirstWords}
use Rattle.separation_laws.specs.Separation.{IsBefore}
use Rattle.separation_laws.proofs.BoundedPoints.{member-packed, points_within}
use Rattle.separation_laws.proofs.ClassBases.{is_packed-pack, pack-packed_word}
use Rattle.separation_laws.proofs.Classes.{class-pack, length-representative}
use Rattle.separation_laws.proofs.Least.{IsFirst, decided_both, none_or_first}
use Rattle.separation_laws.proofs.Members.{Member}
use Rattle.separation_laws.proofs.SeparatingPairs.{decided_list, decided_true}
use Rattle.separation_laws.proofs.WordOrder.{before_cases}

module _ (fine : BasisId) (fine_classes : IsClassBasis fine (index_of_word fine)) where
  -- a packed word of an index
  abbrev IsWordOf : Code → Point → Type 0
  IsWordOf code w = IsTrue (is_packed w) × (index_of_word fine w ≡ code)

  -- what a search among the bounded points finds
  abbrev Searched : Code → Type 0
  Searched code = ((w : Point) → Member w (points_within (degree_of fine code)) → IsWordOf code w → ⊥) ⊎ ((w : Point) × IsFirst (IsWordOf code) (points_within (degree_of fine code)) w)

  searched : (code : Code) → Searched code
  searched code = none_or_first (IsWordOf code) (λ w. decided_both (decided_true (is_packed w)) (decided_list (index_of_word fine w) code)) (points_within (degree_of fine code))

  -- the first packed word of an index, by search; where there is none, no word
  abbrev first_word_from : (code : Code) → Searched code → Point
  first_word_from code (inl none) = []
  first_word_from code (inr first) = first.0

  -- a packed word of an index is among the bounded points
  member-index : (w : Point) → IsTrue (is_packed w) → Member w (points_within (degree_of fine (index_of_word fine w)))
  member-index w packed =
      subst (λ u. Member u (points_within (degree_of fine (index_of_word fine w)))) (pack-packed_word w packed)
      (member-packed (degree_of fine (index_of_word fine w)) w (let long = fine_classes.degree w in omega arith))

  -- the packing of the representative of an index is such a word
  some_word : (code : Code) → IsIndex fine code → Member (pack (representative fine code)) (points_within (degree_of fine code)) × IsWordOf code (pack (representative fine code))
  some_word code is = (
    member-packed (degree_of fine code) (representative fine code) (let long = length-representative fine (index_of_word fine) fine_classes code is in omega arith),
    (is_packed-pack (representative fine code), class-pack fine (index_of_word fine) fine_classes (representative fine code) ∙ fine_classes.class code is),
  )

  -- what is found is a packed word of the index
  word_from : (code : Code) → IsIndex fine code → (s : Searched code) → IsWordOf code (first_word_from code s)
  word_from code is (inl none) = let some = some_word code is in absurd (none (pack (representative fine code)) some.0 some.1)
  word_from code is (inr first) = first.1.holds

  -- and no packed word of the index comes before it
  earliest_from : (w : Point) → IsTrue (is_packed w) → (s : Searched (index_of_word fine w)) → (first_word_from (index_of_word fine w) s ≡ w) ⊎ IsBefore (first_word_from (index_of_word fine w) s) w
  earliest_from w packed (inl none) = absurd (none w (member-index w packed) (packed, refl))
  earliest_from w packed (inr first) = elim (before_cases first.0 w) [
    | inl before ↦ inr before
    | inr other ↦ elim other [
      | inl same ↦ inl same
      | inr after ↦ absurd (first.1.first w (member-index w packed) after (packed, refl))
    ]
  ]

  -- the first words exist
  pub first_words_exist : (first : Code → Point) × AreFirstWords fine first
  first_words_exist = (
    λ code. first_word_from code (searched code),
    record {
      packed = λ code is. (word_from code is (searched code)).0;
      class = λ code is. (word_from code is (searched code)).1;
      earliest = λ w packed. earliest_from w packed (searched (index_of_word fine w));
    },
  )
