-- The changes between QSym.M and QSym.F (Gessel 1984).
use Rattle.std.proofs.Common.{◌≡◌, ◌-◌, true, false, length, refl, sym, ◌∙◌, ap}
use Rattle.std.specs.Prelude.{IsTrue}
use Rattle.std.specs.List.{sum}
use Rattle.std.proofs.Math.IntN.{pos}
use Rattle.basis_names.specs.declared.bases.BasisId.TheVariants.{QsymM, QsymF}
use Rattle.realisations.specs.Codes.{Code}
use Rattle.realisations.specs.Descents.{is_finer}
use Rattle.realisations.specs.Exponents.{without_zeros}
use Rattle.realisations.specs.IndexKinds.{IsComposition}
use Rattle.realisations.specs.Lists.{one_if}
use Rattle.basis_representatives.proofs.Bits.{composition_of}
use Rattle.basis_representatives.proofs.DescentBits.{is_finer-composition_of}
use Rattle.basis_representatives.proofs.Places.{within}
use Rattle.basis_representatives.proofs.Refinement.{sum-finer}
use Rattle.change_laws.specs.Laws.{QsymChangesLaw, QsymExistenceLaw}
use Rattle.change_laws.proofs.BitMatrices.{matrix_of, entries-matrix_of, Multiplies}
use Rattle.change_laws.proofs.BitTests.{same_class, finer_class, same_class-bits, finer_class-bits, monomial-occurs, fundamental-occurs}
use Rattle.change_laws.proofs.ChangeAnswers.{IsByCompositions, change_answer, change_exists}
use Rattle.change_laws.proofs.Changes.{HasEntries, ReadsAsSum, change}
use Rattle.change_laws.proofs.CompositionsByBits.{alike}
use Rattle.change_laws.proofs.SignedEntries.{sign_if, mobius, sign_if-zero, sign_if-within, parts_past}

-- the elements of both bases are indexed by compositions
monomials : IsByCompositions QsymM
monomials = record { index = λ parts h. h; degree = λ parts. refl }

fundamentals : IsByCompositions QsymF
fundamentals = record { index = λ parts h. h; degree = λ parts. refl }

-- a finer composition has the same size
finer_size : (parts code : Code) → IsComposition parts → IsTrue (is_finer code parts) → sum code ≡ sum parts
finer_size parts code h finer = sum-finer code parts finer

fundamental-entries : HasEntries (λ parts code. sign_if (is_finer code parts) 0) (matrix_of within)
fundamental-entries = record {
  empty = refl;
  bits = λ a b e. sign_if-zero (is_finer (composition_of b) (composition_of a)) ∙ ap (λ t. pos (one_if t)) (is_finer-composition_of b a) ∙ sym (entries-matrix_of within a b);
}

monomial-entries : HasEntries (λ parts code. sign_if (is_finer code parts) (length code - length parts)) mobius
monomial-entries = record {
  empty = refl;
  bits = λ a b e. (λ i. sign_if (is_finer-composition_of b a i) (parts_past a b i)) ∙ sign_if-within a b;
}

-- F in M
fundamental_reads : ReadsAsSum QsymF QsymM (λ parts code. sign_if (is_finer code parts) 0)
fundamental_reads =
    change QsymF QsymM without_zeros finer_class same_class fundamental-occurs monomial-occurs within (λ x y. alike y x) finer_class-bits same_class-bits
    (λ parts code. sign_if (is_finer code parts) 0) (matrix_of within) fundamental-entries multiplies
  where
    multiplies : Multiplies (matrix_of within) (matrix_of (λ x y. alike y x)) (matrix_of within)
    multiplies true true = refl
    multiplies true false = refl
    multiplies false true = refl
    multiplies false false = refl

-- M in F, by inclusion and exclusion
monomial_reads : ReadsAsSum QsymM QsymF (λ parts code. sign_if (is_finer code parts) (length code - length parts))
monomial_reads =
    change QsymM QsymF without_zeros same_class finer_class monomial-occurs fundamental-occurs (λ x y. alike y x) within same_class-bits finer_class-bits
    (λ parts code. sign_if (is_finer code parts) (length code - length parts)) mobius monomial-entries multiplies
  where
    multiplies : Multiplies mobius (matrix_of within) (matrix_of (λ x y. alike y x))
    multiplies true true = refl
    multiplies true false = refl
    multiplies false true = refl
    multiplies false false = refl

-- both changes
pub qsym_changes : QsymChangesLaw
qsym_changes = record {
  fundamental_in_monomial = change_answer QsymF QsymM monomials (λ parts code. is_finer code parts) (λ parts code. 0) finer_size fundamental_reads;
  monomial_in_fundamental = change_answer QsymM QsymF fundamentals (λ parts code. is_finer code parts) (λ parts code. length code - length parts) finer_size monomial_reads;
}

-- and both exist
pub qsym_changes_exist : QsymExistenceLaw
qsym_changes_exist = record {
  fundamental_in_monomial = change_exists QsymF QsymM monomials (λ parts code. is_finer code parts) (λ parts code. 0) finer_size fundamental_reads;
  monomial_in_fundamental = change_exists QsymM QsymF fundamentals (λ parts code. is_finer code parts) (λ parts code. length code - length parts) finer_size monomial_reads;
}
