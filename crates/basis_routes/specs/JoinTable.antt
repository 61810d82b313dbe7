-- The join of two bases: the basis over which their elements are added and multiplied.
use Rattle.std.specs.Prelude.{◌&&◌, if◌then◌else◌, Option, Some, None}
use Rattle.basis_names.specs.declared.bases.BasisId.{BasisId}
use Rattle.basis_names.specs.declared.bases.BasisId.TheVariants.{FqsymF}
use Rattle.basis_names.specs.Bases.{algebra_of}
use Rattle.realisations.specs.Bases.{has_words, lies_in}

-- of two bases of one algebra the left one; of an algebra inside another one the basis of the larger; of two algebras of words of which none lies in the other, FQSym.F, since both lie there; and QSym and an algebra of words have none
abbrev pub join_of : BasisId → BasisId → Option BasisId
join_of left right =
    if lies_in (algebra_of right) (algebra_of left) then Some left
    else (if lies_in (algebra_of left) (algebra_of right) then Some right
    else (if has_words (algebra_of left) && has_words (algebra_of right) then Some FqsymF else None))
