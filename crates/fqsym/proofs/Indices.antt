-- Permutations within the degree limit, and the classes of words.
use Rattle.std.proofs.Common.{ℕ, ◌≤◌, List, length, refl, arith}
use Rattle.basis_names.specs.declared.bases.BasisId.TheVariants.{FqsymF, FqsymG}
use Rattle.basis_representatives.proofs.Inverses.{length-inverse, permutation-inverse}
use Rattle.basis_representatives.proofs.Permutations.{each_once, permutation_from, permutation-standardise}
use Rattle.basis_representatives.proofs.SameOrder.{length-standardise}
use Rattle.coproduct_laws.proofs.CutLetters.{packed-permutation}
use Rattle.basis_representatives.proofs.PackedWords.{packed_from}
use Rattle.index_rules.specs.Spaces.{IsIndexWithin, IsClass}
use Rattle.packed_words.specs.Sizes.{IsSmallPackedWord}
use Rattle.permutation_words.specs.Sizes.{IsSmallPermutation}
use Rattle.realisations.specs.Codes.{Code}
use Rattle.realisations.specs.Standardisation.{standardise, inverse}

-- a standardisation is a permutation
pub small_standard : (p : List ℕ) → length p ≤ 12 → IsSmallPermutation (standardise p)
small_standard p le = record { permutation = permutation_from (standardise p) (permutation-standardise p); small = omega (arith, length-standardise p, le) }

-- a permutation is a packed word
pub small_packed : (s : Code) → IsIndexWithin FqsymG s → IsSmallPackedWord s
small_packed s h = record { packed = packed_from s (packed-permutation s (each_once s h.index)); small = omega (arith, h.degree) }

-- G of its standardisation is the one element that occurs at a word
pub standard_class : (p : Code) → IsClass FqsymG p (standardise p)
standard_class p = record { index_of = permutation_from (standardise p) (permutation-standardise p); degree = length-standardise p; occurs_alone = λ code is. refl }

-- and F of the inverse of that
pub inverse_class : (p : Code) → IsClass FqsymF p (inverse (standardise p))
inverse_class p = record {
  index_of = permutation_from (inverse (standardise p)) (permutation-inverse (standardise p) (permutation-standardise p));
  degree = omega (arith, length-inverse (standardise p), length-standardise p);
  occurs_alone = λ code is. refl;
}
