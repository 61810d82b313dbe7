-- The canonical order of keys is total, and keys that it does not tell apart are the same.
use Rattle.std.specs.Cmp.{IsTotalOrder}
use Rattle.std.specs.FinMap.{IsAntisymmetric, slice_cmp-IsAntisymmetric, nat_cmp-IsAntisymmetric}
use Rattle.std.specs.Cmp.Lexicographic.{lists_total, nat_list_cmp_total}
use Rattle.realisations.specs.Combinations.{key_cmp}

pub key_order : IsTotalOrder key_cmp
key_order = lists_total nat_list_cmp_total

pub same_key : IsAntisymmetric key_cmp
same_key = slice_cmp-IsAntisymmetric (slice_cmp-IsAntisymmetric nat_cmp-IsAntisymmetric)
