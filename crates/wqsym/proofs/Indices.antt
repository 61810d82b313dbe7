-- Packed words within the degree limit, and the classes of words.
use Rattle.std.proofs.Common.{refl, arith}
use Rattle.basis_names.specs.declared.bases.BasisId.TheVariants.{WqsymM}
use Rattle.basis_representatives.proofs.PackedWords.{packed_from, packed-pack}
use Rattle.index_rules.specs.Spaces.{IsClass, IsIndexWithin}
use Rattle.packed_words.specs.Sizes.{IsSmallPackedWord}
use Rattle.realisations.specs.Codes.{Code}
use Rattle.realisations.specs.Standardisation.{pack}
use Rattle.realisations.proofs.Packing.{length-pack}

-- the indices within the limit are packed words of few letters
pub small_packed : (u : Code) → IsIndexWithin WqsymM u → IsSmallPackedWord u
small_packed u h = record { packed = h.index; small = omega (arith, h.degree) }

-- M of its packing is the one element that occurs at a word
pub packed_class : (p : Code) → IsClass WqsymM p (pack p)
packed_class p = record { index_of = packed_from (pack p) (packed-pack p); degree = length-pack p; occurs_alone = λ code is. refl }
