-- The tests of a composition at the class of a point, bit by bit: what each basis indexed by compositions is read as.
use Rattle.std.proofs.Common.{◌≡◌, ℕ, Bool, true, false, List, [], refl, ◌∙◌}
use Rattle.std.specs.Prelude.{not}
use Rattle.realisations.specs.Lists.{same_list}
use Rattle.realisations.specs.Exponents.{without_zeros}
use Rattle.realisations.specs.Descents.{descent_composition, is_finer}
use Rattle.basis_names.specs.declared.bases.BasisId.{BasisId}
use Rattle.basis_names.specs.declared.bases.BasisId.TheVariants.{QsymM, QsymF, NcsfR, NcsfS, NcsfL}
use Rattle.realisations.specs.Occurrence.{occurs}
use Rattle.realisations.specs.IndexKinds.{IsComposition}
use Rattle.basis_representatives.proofs.Bits.{composition_of}
use Rattle.basis_representatives.proofs.Places.{pairwise, within}
use Rattle.basis_representatives.proofs.Steps.{IsComposition-descent_composition}
use Rattle.basis_representatives.proofs.BlockWords.{IsComposition-without_zeros}
use Rattle.basis_representatives.proofs.DescentBits.{is_finer-composition_of}
use Rattle.basis_representatives.proofs.ClassTests.{is_complementary, occurs-fundamental, occurs-complete, occurs-elementary}
use Rattle.basis_representatives.proofs.Refinement.{is_finer-empty_fine, is_finer-empty_coarse, is_complementary-composition_of, is_complementary-empty_code, is_complementary-empty_class}
use Rattle.change_laws.proofs.BitMatrices.{pairwise-transposed, pairwise-turned}
use Rattle.change_laws.proofs.CompositionsByBits.{alike, same_list-composition_of, same_list-empty_first, same_list-empty_second}

-- a relation of compositions of one size is a test of their bits, place by place
pub record IsBitTest (related : List ℕ → List ℕ → Bool) (test : Bool → Bool → Bool) : Type 0 where
  pub both_empty : related [] [] ≡ true
  pub code_empty : (b : List Bool) → related [] (composition_of b) ≡ false
  pub class_empty : (a : List Bool) → related (composition_of a) [] ≡ false
  pub bits : (a b : List Bool) → related (composition_of a) (composition_of b) ≡ pairwise test a b

-- the elements of a basis occur where their codes are in relation to the class of the point, which is a composition
pub record OccursByClass (basis : BasisId) (class : List ℕ → List ℕ) (related : List ℕ → List ℕ → Bool) : Type 0 where
  pub classes : (p : List ℕ) → IsComposition (class p)
  pub occurs_by : (code p : List ℕ) → occurs basis code p ≡ related code (class p)

-- the class is the code
abbrev pub same_class : List ℕ → List ℕ → Bool
same_class code class = same_list class code

-- the second composition is finer than the first or equal to it
abbrev pub finer_class : List ℕ → List ℕ → Bool
finer_class code class = is_finer class code

-- the same code: equal bits
pub same_class-bits : IsBitTest same_class (λ x y. alike y x)
same_class-bits = record {
  both_empty = refl;
  code_empty = same_list-empty_second;
  class_empty = same_list-empty_first;
  bits = λ a b. same_list-composition_of b a ∙ pairwise-transposed alike a b;
}

-- a finer class: the bits of the code within those of the class
pub finer_class-bits : IsBitTest finer_class within
finer_class-bits = record {
  both_empty = refl;
  code_empty = is_finer-empty_coarse;
  class_empty = is_finer-empty_fine;
  bits = λ a b. is_finer-composition_of b a;
}

-- a coarser class: the bits of the class within those of the code
pub coarser_class-bits : IsBitTest is_finer (λ x y. within y x)
coarser_class-bits = record {
  both_empty = refl;
  code_empty = is_finer-empty_fine;
  class_empty = is_finer-empty_coarse;
  bits = λ a b. is_finer-composition_of a b ∙ pairwise-transposed within a b;
}

-- a class with a descent at each place outside: a bit of the code or of the class at each place
pub complementary_class-bits : IsBitTest is_complementary (λ x y. within (not x) y)
complementary_class-bits = record {
  both_empty = refl;
  code_empty = is_complementary-empty_code;
  class_empty = is_complementary-empty_class;
  bits = λ a b. is_complementary-composition_of a b ∙ pairwise-turned within a b;
}

-- M of I at the class I
pub monomial-occurs : OccursByClass QsymM without_zeros same_class
monomial-occurs = record { classes = IsComposition-without_zeros; occurs_by = λ code p. refl }

-- F of I at the classes finer than I or equal to it
pub fundamental-occurs : OccursByClass QsymF without_zeros finer_class
fundamental-occurs = record { classes = IsComposition-without_zeros; occurs_by = occurs-fundamental }

-- R of I at the class I
pub ribbon-occurs : OccursByClass NcsfR descent_composition same_class
ribbon-occurs = record { classes = IsComposition-descent_composition; occurs_by = λ code p. refl }

-- S of I at the classes coarser than I or equal to it
pub complete-occurs : OccursByClass NcsfS descent_composition is_finer
complete-occurs = record { classes = IsComposition-descent_composition; occurs_by = occurs-complete }

-- L of I at the classes with a descent at each place outside those of I
pub elementary-occurs : OccursByClass NcsfL descent_composition is_complementary
elementary-occurs = record { classes = IsComposition-descent_composition; occurs_by = occurs-elementary }
