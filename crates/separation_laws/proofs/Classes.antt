-- Class bases of words: what packing does to classes, and how long representatives are.
use Rattle.std.proofs.Common.{◌≡◌, ℕ, true, List, length, sym, ◌∙◌, ap}
use Rattle.basis_names.specs.declared.bases.AlgebraId.{AlgebraId}
use Rattle.basis_names.specs.declared.bases.BasisId.{BasisId}
use Rattle.realisations.specs.Bases.{kind_of, representative}
use Rattle.realisations.specs.Codes.{Code}
use Rattle.realisations.specs.Indices.{IsIndex, degree_of}
use Rattle.realisations.specs.Occurrence.{occurs}
use Rattle.realisations.specs.Points.{Point, word}
use Rattle.realisations.specs.Standardisation.{pack}
use Rattle.basis_representatives.proofs.SameLists.{same_list-self, same_list-true}
use Rattle.separation_laws.specs.Classes.{IsClassBasis, class_basis}
use Rattle.separation_laws.proofs.ClassBases.{occurs-pack}
use Rattle.separation_laws.proofs.Grading.{graded, point_degree}

-- the word of a class for an algebra: its representative
abbrev pub word_for : AlgebraId → Code → Point
word_for target code = representative (class_basis target) code

-- a basis element occurs at words of its degree only
pub length-occurs : (basis : BasisId) → kind_of basis ≡ word → (code p : List ℕ) → occurs basis code p ≡ true → length p ≡ degree_of basis code
length-occurs basis kind code p h = ap (λ k. point_degree k p) (sym kind) ∙ graded basis code p h

module _ (basis : BasisId) (class_of : Point → Code) (classes : IsClassBasis basis class_of) where
  -- a word has the class of its packing
  pub class-pack : (p : List ℕ) → class_of (pack p) ≡ class_of p
  class-pack p =
      let c = class_of p in
      same_list-true (class_of (pack p)) c
      (sym (classes.occurs_in c (pack p)) ∙ sym (occurs-pack basis classes.kind c p) ∙ classes.occurs_in c p ∙ same_list-self c)

  -- the representative of an index has its degree
  pub length-representative : (code : List ℕ) → IsIndex basis code → length (representative basis code) ≡ degree_of basis code
  length-representative code h = sym (classes.degree (representative basis code)) ∙ ap (degree_of basis) (classes.class code h)
