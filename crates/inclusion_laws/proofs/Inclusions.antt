-- Inclusions of class bases of words: where a function brings the class of each word in the finer basis to that in the coarser one, the elements over an index add up to its element.
use Rattle.std.proofs.Common.{◌≡◌, ℕ, ◌*◌, ◌≤◌, false, List, [], ◌∷◌, length, refl, sym, ◌∙◌, ap, subst, arith, inl, inr}
use Rattle.std.proofs.lemmas.Bool.{cases_eq}
use Rattle.basis_names.specs.declared.bases.BasisId.{BasisId}
use Rattle.realisations.specs.Bases.{index_kind_of}
use Rattle.realisations.specs.Codes.{Code}
use Rattle.realisations.specs.Indices.{IsIndex, degree_of}
use Rattle.realisations.specs.Lists.{same_list, one_if}
use Rattle.realisations.specs.Occurrence.{occurs}
use Rattle.realisations.specs.Points.{Point, word, IsPoint}
use Rattle.basis_representatives.proofs.SameLists.{same_list-false}
use Rattle.linear_combos.specs.CodeLists.{ListsIndices}
use Rattle.word_laws.specs.AddedCodes.{times_in}
use Rattle.product_laws.specs.Classes.{IsByClasses}
use Rattle.product_laws.proofs.ElementProducts.{occurrences}
use Rattle.product_laws.proofs.Filters.{every-filter, length-filter, times_in-filter}
use Rattle.inclusion_laws.specs.Inclusions.{IsInclusion, those_over}
use Rattle.inclusion_laws.proofs.ListedIndices.{AreAll, IsOfLetters, all_of_list, all_own}
use Rattle.inclusion_laws.proofs.SumsOfElements.{AreOver, included, included_exists}

-- an element occurs at the words of a class, of the degree of its index
pub record HasClasses (basis : BasisId) (class_of : Point → Code) : Type 0 where
  pub occurs_at : (code : Code) (p : Point) → occurs basis code p ≡ same_list (class_of p) code
  pub degree : (p : Point) → degree_of basis (class_of p) ≡ length p

-- bases by classes do so
pub has_classes : (basis : BasisId) (class_of : Point → Code) (front back : ℕ → Code → Code) → IsByClasses basis class_of front back → HasClasses basis class_of
has_classes basis class_of front back by = record { occurs_at = by.occurs_at; degree = by.degree }

-- the indices of the finer basis that go to an index occur together as its element: those of all of its degree, and of some list
pub record GoesOver (fine coarse : BasisId) (to : Code → Code) : Type 0 where
  pub listed : (index : Code) (codes : List Code) → degree_of coarse index ≤ 32 → ListsIndices (index_kind_of fine) (degree_of coarse index) codes → AreOver fine coarse index (those_over to index codes)
  pub found : (index : Code) → degree_of coarse index ≤ 25 → (codes : List Code) × AreOver fine coarse index codes

module _ (fine : BasisId) (of : IsOfLetters fine) (class_of : List ℕ → List ℕ) (front back : ℕ → List ℕ → List ℕ) (by : IsByClasses fine class_of front back)
    (coarse : BasisId) (class_of' : List ℕ → List ℕ) (by' : HasClasses coarse class_of') (to : List ℕ → List ℕ) (brings : (p : List ℕ) → to (class_of p) ≡ class_of' p) where
  occurrences-times_in : (codes : List Code) (p : Point) → occurrences fine codes p ≡ times_in (class_of p) codes
  occurrences-times_in [] p = refl
  occurrences-times_in (code ∷ codes) p = omega (arith, ap one_if (by.occurs_at code p), occurrences-times_in codes p)

  times_in-other : (n : ℕ) (codes : List Code) → AreAll fine n codes → (index : Code) → degree_of coarse index ≡ n → (p : Point) → IsPoint word p
      → one_if (same_list (class_of' p) index) * times_in (class_of p) codes ≡ one_if (same_list (class_of' p) index)
  times_in-other n codes all index degree p point = elim (cases_eq (length p) n) [
    | inl same ↦ (let once = all.once (class_of p) (by.index p point) (by.degree p ∙ same) in rw once (omega arith))
    | inr other ↦
        (let apart : same_list (class_of' p) index ≡ false = same_list-false (degree_of coarse) (class_of' p) index (λ e. other (sym (by'.degree p) ∙ e ∙ degree)) in
        rw apart (omega arith))
  ]

  -- at each word the elements over an index occur together as often as its element
  occur_over : (n : ℕ) (codes : List Code) → AreAll fine n codes → (index : Code) → degree_of coarse index ≡ n → (p : Point) → IsPoint word p
      → occurrences fine (those_over to index codes) p ≡ one_if (occurs coarse index p)
  occur_over n codes all index degree p point =
      occurrences-times_in (those_over to index codes) p
      ∙ times_in-filter (class_of p) (λ code. same_list (to code) index) codes
      ∙ ap (λ c. one_if (same_list c index) * times_in (class_of p) codes) (brings p)
      ∙ times_in-other n codes all index degree p point
      ∙ ap one_if (sym (by'.occurs_at index p))

  are_over : (index : Code) (codes : List Code) → degree_of coarse index ≤ 32 → AreAll fine (degree_of coarse index) codes → AreOver fine coarse index (those_over to index codes)
  are_over index codes le all =
      let less = length-filter (λ code. same_list (to code) index) codes in
      record {
        indices = every-filter (λ c. IsIndex fine c × (degree_of fine c ≡ degree_of coarse index)) (λ code. same_list (to code) index) codes all.each;
        small = omega (arith, less, all.small le);
        few = λ k le. omega (arith, less, all.few k le);
        occur = λ p point. occur_over (degree_of coarse index) codes all index refl p (subst (λ kind. IsPoint kind p) by.words point);
      }

  -- the indices over each one, of a list or of a list that there is
  pub goes_over : GoesOver fine coarse to
  goes_over = record {
    listed = λ index codes le lists. are_over index codes le (all_of_list fine of (degree_of coarse index) codes lists);
    found = λ index le. (_, are_over index _ (omega (arith, le)) (all_own fine of class_of front back by (degree_of coarse index)));
  }

-- so the coarser basis is included by the function
pub inclusion : (fine coarse : BasisId) (to : List ℕ → List ℕ) → GoesOver fine coarse to → IsInclusion fine coarse to
inclusion fine coarse to goes = record {
  sums = λ index codes c le lists is. included fine coarse index (those_over to index codes) c (goes.listed index codes le lists) is;
  exists = λ index le. let found = goes.found index le in included_exists fine coarse index found.0 found.1 le;
}
