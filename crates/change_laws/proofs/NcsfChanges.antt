-- The changes between NCSF.S and NCSF.R, and between NCSF.L and NCSF.R (Gelfand, Krob, Lascoux, Leclerc, Retakh, Thibon 1995).
use Rattle.std.proofs.Common.{◌≡◌, ◌-◌, Bool, true, false, List, length, refl, sym, ◌∙◌, ap}
use Rattle.std.specs.Prelude.{IsTrue, not}
use Rattle.std.specs.List.{sum}
use Rattle.std.proofs.Math.IntN.{pos}
use Rattle.basis_names.specs.declared.bases.BasisId.TheVariants.{NcsfR, NcsfS, NcsfL}
use Rattle.realisations.specs.Codes.{Code}
use Rattle.realisations.specs.Descents.{descent_composition, is_finer, complement}
use Rattle.realisations.specs.IndexKinds.{IsComposition}
use Rattle.realisations.specs.Lists.{one_if}
use Rattle.basis_representatives.proofs.Bits.{composition_of}
use Rattle.basis_representatives.proofs.ClassTests.{is_complementary}
use Rattle.basis_representatives.proofs.Complements.{complement-turned}
use Rattle.basis_representatives.proofs.DescentBits.{IsComposition-composition_of, is_finer-composition_of}
use Rattle.basis_representatives.proofs.Places.{turned, within}
use Rattle.basis_representatives.proofs.Refinement.{sum-finer, sum-complement, complement-composition_of}
use Rattle.change_laws.specs.Laws.{NcsfChangesLaw, NcsfExistenceLaw}
use Rattle.change_laws.proofs.BitMatrices.{Matrix, matrix_of, entries, entries-matrix_of, entries-transposed, entries-turned, pairwise-transposed, pairwise-turned, Multiplies}
use Rattle.change_laws.proofs.BitTests.{same_class, same_class-bits, coarser_class-bits, complementary_class-bits, ribbon-occurs, complete-occurs, elementary-occurs}
use Rattle.change_laws.proofs.ChangeAnswers.{IsByCompositions, change_answer, change_exists}
use Rattle.change_laws.proofs.Changes.{HasEntries, ReadsAsSum, change}
use Rattle.change_laws.proofs.CompositionsByBits.{alike}
use Rattle.change_laws.proofs.SignedEntries.{sign_if, mobius, sign_if-zero, sign_if-within, parts_past}

-- the elements of all three bases are indexed by compositions
ribbons : IsByCompositions NcsfR
ribbons = record { index = λ parts h. h; degree = λ parts. refl }

completes : IsByCompositions NcsfS
completes = record { index = λ parts h. h; degree = λ parts. refl }

elementaries : IsByCompositions NcsfL
elementaries = record { index = λ parts h. h; degree = λ parts. refl }

-- compositions in order of refinement have one size
coarser_size : (parts code : Code) → IsComposition parts → IsTrue (is_finer parts code) → sum code ≡ sum parts
coarser_size parts code h finer = sym (sum-finer parts code finer)

-- the complement has the size of the composition
complement_size : (parts : Code) → IsComposition parts → sum (complement parts) ≡ sum parts
complement_size parts h = ap sum (complement-turned parts h) ∙ sum-complement parts h

finer_complement_size : (parts code : Code) → IsComposition parts → IsTrue (is_finer code (complement parts)) → sum code ≡ sum parts
finer_complement_size parts code h finer = sum-finer code (complement parts) finer ∙ complement_size parts h

coarser_complement_size : (parts code : Code) → IsComposition parts → IsTrue (is_finer (complement parts) code) → sum code ≡ sum parts
coarser_complement_size parts code h finer = sym (sum-finer (complement parts) code finer) ∙ complement_size parts h

-- the complement of bits turns each
complement-bits : (a : List Bool) → complement (composition_of a) ≡ composition_of (turned a)
complement-bits a = complement-turned (composition_of a) (IsComposition-composition_of a) ∙ complement-composition_of a

complete-entries : HasEntries (λ parts code. sign_if (is_finer parts code) 0) (matrix_of (λ x y. within y x))
complete-entries = record {
  empty = refl;
  bits = λ a b e.
      sign_if-zero (is_finer (composition_of a) (composition_of b))
      ∙ ap (λ t. pos (one_if t)) (is_finer-composition_of a b ∙ pairwise-transposed within a b) ∙ sym (entries-matrix_of (λ x y. within y x) a b);
}

ribbon-complete-entries : HasEntries (λ parts code. sign_if (is_finer parts code) (length parts - length code)) (λ x y. mobius y x)
ribbon-complete-entries = record {
  empty = refl;
  bits = λ a b e. (λ i. sign_if (is_finer-composition_of a b i) (parts_past b a i)) ∙ sign_if-within b a ∙ entries-transposed mobius a b;
}

elementary-entries : HasEntries (λ parts code. sign_if (is_finer code (complement parts)) 0) (matrix_of (λ x y. within (not x) y))
elementary-entries = record {
  empty = refl;
  bits = λ a b e.
      sign_if-zero (is_finer (composition_of b) (complement (composition_of a)))
      ∙ ap (λ t. pos (one_if t)) (ap (λ c. is_finer (composition_of b) c) (complement-bits a) ∙ is_finer-composition_of b (turned a) ∙ pairwise-turned within a b)
      ∙ sym (entries-matrix_of (λ x y. within (not x) y) a b);
}

-- a matrix whose rows are turned
entries-rows_turned : (f : Matrix) (a b : List Bool) → entries f b (turned a) ≡ entries (λ x y. f y (not x)) a b
entries-rows_turned f a b = entries-turned f b a ∙ entries-transposed (λ x y. f x (not y)) a b

ribbon-elementary-entries : HasEntries (λ parts code. sign_if (is_finer (complement parts) code) (length (complement parts) - length code)) (λ x y. mobius y (not x))
ribbon-elementary-entries = record {
  empty = refl;
  bits = λ a b e.
      ap (λ c. sign_if (is_finer c (composition_of b)) (length c - length (composition_of b))) (complement-bits a)
      ∙ (λ i. sign_if (is_finer-composition_of (turned a) b i) (parts_past b (turned a) i))
      ∙ sign_if-within b (turned a)
      ∙ entries-rows_turned mobius a b;
}

-- S in R
complete_reads : ReadsAsSum NcsfS NcsfR (λ parts code. sign_if (is_finer parts code) 0)
complete_reads =
    change NcsfS NcsfR descent_composition is_finer same_class complete-occurs ribbon-occurs (λ x y. within y x) (λ x y. alike y x) coarser_class-bits same_class-bits
    (λ parts code. sign_if (is_finer parts code) 0) (matrix_of (λ x y. within y x)) complete-entries multiplies
  where
    multiplies : Multiplies (matrix_of (λ x y. within y x)) (matrix_of (λ x y. alike y x)) (matrix_of (λ x y. within y x))
    multiplies true true = refl
    multiplies true false = refl
    multiplies false true = refl
    multiplies false false = refl

-- R in S, by inclusion and exclusion
ribbon_reads_complete : ReadsAsSum NcsfR NcsfS (λ parts code. sign_if (is_finer parts code) (length parts - length code))
ribbon_reads_complete =
    change NcsfR NcsfS descent_composition same_class is_finer ribbon-occurs complete-occurs (λ x y. alike y x) (λ x y. within y x) same_class-bits coarser_class-bits
    (λ parts code. sign_if (is_finer parts code) (length parts - length code)) (λ x y. mobius y x) ribbon-complete-entries multiplies
  where
    multiplies : Multiplies (λ x y. mobius y x) (matrix_of (λ x y. within y x)) (matrix_of (λ x y. alike y x))
    multiplies true true = refl
    multiplies true false = refl
    multiplies false true = refl
    multiplies false false = refl

-- L in R
elementary_reads : ReadsAsSum NcsfL NcsfR (λ parts code. sign_if (is_finer code (complement parts)) 0)
elementary_reads =
    change NcsfL NcsfR descent_composition is_complementary same_class elementary-occurs ribbon-occurs (λ x y. within (not x) y) (λ x y. alike y x) complementary_class-bits same_class-bits
    (λ parts code. sign_if (is_finer code (complement parts)) 0) (matrix_of (λ x y. within (not x) y)) elementary-entries multiplies
  where
    multiplies : Multiplies (matrix_of (λ x y. within (not x) y)) (matrix_of (λ x y. alike y x)) (matrix_of (λ x y. within (not x) y))
    multiplies true true = refl
    multiplies true false = refl
    multiplies false true = refl
    multiplies false false = refl

-- R in L, by inclusion and exclusion
ribbon_reads_elementary : ReadsAsSum NcsfR NcsfL (λ parts code. sign_if (is_finer (complement parts) code) (length (complement parts) - length code))
ribbon_reads_elementary =
    change NcsfR NcsfL descent_composition same_class is_complementary ribbon-occurs elementary-occurs (λ x y. alike y x) (λ x y. within (not x) y) same_class-bits complementary_class-bits
    (λ parts code. sign_if (is_finer (complement parts) code) (length (complement parts) - length code)) (λ x y. mobius y (not x)) ribbon-elementary-entries multiplies
  where
    multiplies : Multiplies (λ x y. mobius y (not x)) (matrix_of (λ x y. within (not x) y)) (matrix_of (λ x y. alike y x))
    multiplies true true = refl
    multiplies true false = refl
    multiplies false true = refl
    multiplies false false = refl

-- the four changes
pub ncsf_changes : NcsfChangesLaw
ncsf_changes = record {
  complete_in_ribbon = change_answer NcsfS NcsfR ribbons (λ parts code. is_finer parts code) (λ parts code. 0) coarser_size complete_reads;
  ribbon_in_complete = change_answer NcsfR NcsfS completes (λ parts code. is_finer parts code) (λ parts code. length parts - length code) coarser_size ribbon_reads_complete;
  elementary_in_ribbon = change_answer NcsfL NcsfR ribbons (λ parts code. is_finer code (complement parts)) (λ parts code. 0) finer_complement_size elementary_reads;
  ribbon_in_elementary = change_answer NcsfR NcsfL elementaries (λ parts code. is_finer (complement parts) code) (λ parts code. length (complement parts) - length code) coarser_complement_size
      ribbon_reads_elementary;
}

-- and all exist
pub ncsf_changes_exist : NcsfExistenceLaw
ncsf_changes_exist = record {
  complete_in_ribbon = change_exists NcsfS NcsfR ribbons (λ parts code. is_finer parts code) (λ parts code. 0) coarser_size complete_reads;
  ribbon_in_complete = change_exists NcsfR NcsfS completes (λ parts code. is_finer parts code) (λ parts code. length parts - length code) coarser_size ribbon_reads_complete;
  elementary_in_ribbon = change_exists NcsfL NcsfR ribbons (λ parts code. is_finer code (complement parts)) (λ parts code. 0) finer_complement_size elementary_reads;
  ribbon_in_elementary = change_exists NcsfR NcsfL elementaries (λ parts code. is_finer (complement parts) code) (λ parts code. length (complement parts) - length code) coarser_complement_size
      ribbon_reads_elementary;
}
