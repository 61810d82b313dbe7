-- Finite tests of whether terms over a class basis lie, in one component, in a coarser algebra.
use Rattle.std.specs.Prelude.{◌≡◌, ◌≢◌, ℕ, ◌<◌, ◌⊎◌, if◌then◌else◌, IsTrue, ℤ, [], ◌∷◌, length, set, remove}
use Rattle.basis_names.specs.Bases.{algebra_of}
use Rattle.basis_names.specs.declared.bases.AlgebraId.{AlgebraId}
use Rattle.basis_names.specs.declared.bases.BasisId.{BasisId}
use Rattle.linear_combos.specs.Keys.{code_at}
use Rattle.realisations.specs.Bases.{has_words, lies_in, representative}
use Rattle.realisations.specs.Codes.{Code, Key}
use Rattle.realisations.specs.Combinations.{HasKey, term_at}
use Rattle.realisations.specs.IndexKinds.{is_packed}
use Rattle.realisations.specs.Indices.{IsIndex, degree_of}
use Rattle.realisations.specs.Lists.{same_list}
use Rattle.realisations.specs.Points.{Point}
use Rattle.realisations.specs.Readings.{Terms}
use Rattle.separation_laws.specs.Classes.{class_basis, class_for, index_of_word, is_class_basis}
use Rattle.separation_laws.specs.Separation.{IsBefore}

-- the basis is a class basis of words, and the algebra is one of words that lies in that of the basis
pub record IsFiner (fine : BasisId) (target : AlgebraId) : Type 0 where
  pub classes : IsTrue (is_class_basis fine)
  pub words : IsTrue (has_words target)
  pub inside : IsTrue (lies_in target (algebra_of fine))

-- the class of an index of the finer basis for the algebra: that of its representative, and so of each word at which its element occurs
abbrev pub coarse_class : AlgebraId → BasisId → Code → Code
coarse_class target fine code = class_for target (representative fine code)

-- an index of the same class, and of the same degree
pub record IsInClassOf (target : AlgebraId) (fine : BasisId) (code other : Code) : Type 0 where
  pub index : IsIndex fine other
  pub degree : degree_of fine other ≡ degree_of fine code
  pub same_class : coarse_class target fine other ≡ coarse_class target fine code

-- the part of a code in component n, counted from 0: the terms that have the code there, without it
abbrev pub part : ℕ → Code → Terms → Terms
part n code [] = []
part n code (t ∷ ts) = if same_list code (code_at t.1 n) then (t.0, remove t.1 n) ∷ part n code ts else part n code ts

-- the code of each term has the same part as each index of its class
abbrev pub TermsHaveOnePart : ℕ → BasisId → AlgebraId → Terms → Type 0
TermsHaveOnePart n fine target ts = (key : Key) → HasKey ts key → (other : Code) → IsInClassOf target fine (code_at key n) other → part n (code_at key n) ts ≡ part n other ts

-- some term has this numerator and this key
abbrev pub HasTerm : Terms → ℤ → Key → Type 0
HasTerm ts num key = (i : ℕ) × (i < length ts) × ((term_at ts i).0 ≡ num) × ((term_at ts i).1 ≡ key)

-- each term whose code is in this class has a twin for each index of the class: a term with the same numerator, and with the index in the place of the code
abbrev pub TwinsInClass : ℕ → BasisId → AlgebraId → Terms → Code → Type 0
TwinsInClass n fine target ts class = (num : ℤ) (key : Key) → HasTerm ts num key → coarse_class target fine (code_at key n) ≡ class →
    (other : Code) → IsInClassOf target fine (code_at key n) other → HasTerm ts num (set key n other)

-- the same for each class
abbrev pub TermsHaveTwins : ℕ → BasisId → AlgebraId → Terms → Type 0
TermsHaveTwins n fine target ts = (class : Code) → TwinsInClass n fine target ts class

-- of the indices of one class one is kept, that of the representative of the class: the terms with such a code, each with the class in the place of the code
abbrev pub kept : ℕ → BasisId → AlgebraId → Terms → Terms
kept n fine target [] = []
kept n fine target (t ∷ ts) =
    if same_list (index_of_word fine (representative (class_basis target) (coarse_class target fine (code_at t.1 n)))) (code_at t.1 n)
    then (t.0, set t.1 n (coarse_class target fine (code_at t.1 n))) ∷ kept n fine target ts
    else kept n fine target ts

-- the first packed word of each class of a basis
pub record AreFirstWords (fine : BasisId) (first : Code → Point) : Type 0 where
  pub packed : (code : Code) → IsIndex fine code → IsTrue (is_packed (first code))
  pub class : (code : Code) → IsIndex fine code → index_of_word fine (first code) ≡ code
  pub earliest : (w : Point) → IsTrue (is_packed w) → (first (index_of_word fine w) ≡ w) ⊎ IsBefore (first (index_of_word fine w)) w

-- an index of the same class with another part
pub record IsOtherPart (n : ℕ) (fine : BasisId) (target : AlgebraId) (ts : Terms) (code other : Code) : Type 0 where
  pub in_class : IsInClassOf target fine code other
  pub differs : part n code ts ≢ part n other ts

-- in the order of first words, the first index that has an index of its class with another part, and the first of these
pub record IsFirstPair (n : ℕ) (fine : BasisId) (first : Code → Point) (target : AlgebraId) (ts : Terms) (code other : Code) : Type 0 where
  pub index : IsIndex fine code
  pub other_part : IsOtherPart n fine target ts code other
  pub first_index : (c d : Code) → IsIndex fine c → IsBefore (first c) (first code) → IsOtherPart n fine target ts c d → ⊥
  pub first_other : (d : Code) → IsBefore (first d) (first other) → IsOtherPart n fine target ts code d → ⊥
