-- Class bases of words: each word is in one class, and an element occurs at the words of its class.
use Rattle.std.specs.Prelude.{◌≡◌, ℕ, Bool, ◌&&◌, length, take, drop}
use Rattle.basis_names.specs.declared.bases.BasisId.{BasisId}
use Rattle.realisations.specs.Bases.{kind_of}
use Rattle.realisations.specs.Codes.{Code}
use Rattle.realisations.specs.Indices.{IsIndex, degree_of}
use Rattle.realisations.specs.Lists.{same_list}
use Rattle.realisations.specs.Occurrence.{occurs}
use Rattle.realisations.specs.Points.{Point, word, IsPoint}

-- the class of each word is an index, of the degree that is the length of the word; and the class of a word gives those of its first n letters and of the rest, its front and its back
pub record IsByClasses (basis : BasisId) (class_of : Point → Code) (front back : ℕ → Code → Code) : Type 0 where
  pub words : kind_of basis ≡ word
  pub occurs_at : (code : Code) (p : Point) → occurs basis code p ≡ same_list (class_of p) code
  pub degree : (p : Point) → degree_of basis (class_of p) ≡ length p
  pub index : (p : Point) → IsPoint word p → IsIndex basis (class_of p)
  pub fronts : (n : ℕ) (p : Point) → IsPoint word p → front n (class_of p) ≡ class_of (take n p)
  pub backs : (n : ℕ) (p : Point) → IsPoint word p → back n (class_of p) ≡ class_of (drop n p)

-- whether the front and the back of an index after n letters are two others
abbrev pub splits_into : (ℕ → Code → Code) → (ℕ → Code → Code) → ℕ → Code → Code → Code → Bool
splits_into front back n left right code = same_list (front n code) left && same_list (back n code) right
