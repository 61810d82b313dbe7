-- Where basis elements occur. Over its ordered alphabet a basis element is a sum of distinct points; it occurs at these.
use Rattle.std.specs.Prelude.{Bool, ◌&&◌, length, nat_eq}
use Rattle.std.specs.List.{sum}
use Rattle.basis_names.specs.declared.bases.BasisId.{BasisId}
use Rattle.basis_names.specs.declared.bases.BasisId.TheVariants.{QsymM, QsymF, NcsfR, NcsfS, NcsfL, FqsymG, FqsymF, WqsymM, FsymS, PbtP}
use Rattle.realisations.specs.Codes.{Code}
use Rattle.realisations.specs.Points.{Point}
use Rattle.realisations.specs.Lists.{same_list, is_subset}
use Rattle.realisations.specs.Exponents.{without_zeros, nondecreasing_word}
use Rattle.realisations.specs.Standardisation.{standardise, pack, inverse}
use Rattle.realisations.specs.Descents.{descents, ascents, descent_composition, descent_set, places_outside}
use Rattle.realisations.specs.Trees.{tree_code, decreasing_tree}
use Rattle.realisations.specs.Tableaux.{tableau_code, recording_tableau}

-- whether the basis element of a code occurs at a point:
-- M of I at the exponents that are I once zeros are left out (Gessel 1984);
-- F of I where the nondecreasing word has the length of I and rises strictly at each place of Des(I) (Gessel 1984);
-- R of I, the ribbon, at the words with descent composition I (Gelfand, Krob, Lascoux, Leclerc, Retakh, Thibon 1995);
-- S of I, complete, at the words of its length with no descent outside Des(I), and L of I, elementary, at those with a descent at each place outside Des(I) (the same);
-- G of s at the words whose standardisation is s, and F of s at those whose standardisation has the inverse s (Malvenuto, Reutenauer 1995; Duchamp, Hivert, Thibon 2002);
-- M of u at the words whose packing is u (Hivert 1999; Novelli, Thibon 2006);
-- S of t at the words whose standardisation has an inverse with insertion tableau t (Poirier, Reutenauer 1995);
-- P of T at the words with decreasing tree T (Loday, Ronco 1998; Hivert, Novelli, Thibon 2005)
abbrev pub occurs : BasisId → Code → Point → Bool
occurs QsymM code p = same_list (without_zeros p) code
occurs QsymF code p = nat_eq (length (nondecreasing_word p)) (sum code) && is_subset (descent_set code) (ascents (nondecreasing_word p))
occurs NcsfR code p = same_list (descent_composition p) code
occurs NcsfS code p = nat_eq (length p) (sum code) && is_subset (descents p) (descent_set code)
occurs NcsfL code p = nat_eq (length p) (sum code) && is_subset (places_outside code) (descents p)
occurs FqsymG code p = same_list (standardise p) code
occurs FqsymF code p = same_list (inverse (standardise p)) code
occurs WqsymM code p = same_list (pack p) code
occurs FsymS code p = same_list (tableau_code (recording_tableau p)) code
occurs PbtP code p = same_list (tree_code (decreasing_tree p)) code
