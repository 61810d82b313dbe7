-- Where the elements indexed by compositions occur, as tests of the class of the point: what is left of exponents without the zeros, and the descent composition of a word.
use Rattle.std.proofs.Common.{◌≡◌, ℕ, Bool, ◌&&◌, List, length, refl, arith}
use Rattle.std.specs.Prelude.{nat_eq}
use Rattle.std.specs.List.{sum}
use Rattle.std.proofs.lemmas.Bool.Decides.{nat_tests}
use Rattle.realisations.specs.Lists.{is_subset}
use Rattle.realisations.specs.Exponents.{without_zeros}
use Rattle.realisations.specs.Descents.{descent_composition, descent_set, places_outside, is_finer}
use Rattle.basis_names.specs.declared.bases.BasisId.TheVariants.{QsymF, NcsfS, NcsfL}
use Rattle.realisations.specs.Occurrence.{occurs}
use Rattle.realisations.proofs.DescentCompositions.{descends}
use Rattle.basis_representatives.proofs.BlockWords.{ascents-nondecreasing_word, length-nondecreasing_word}

-- compositions of one size, the second with a descent at each place outside those of the first
abbrev pub is_complementary : List ℕ → List ℕ → Bool
is_complementary code class = nat_eq (sum class) (sum code) && is_subset (places_outside code) (descent_set class)

-- F of I occurs where the exponents are finer than I or equal to it
pub occurs-fundamental : (code p : List ℕ) → occurs QsymF code p ≡ is_finer (without_zeros p) code
occurs-fundamental code p = rw (length-nondecreasing_word p, ascents-nondecreasing_word p) refl

turned_round : (m n : ℕ) → nat_eq m n ≡ nat_eq n m
turned_round m n = grind (arith, nat_tests)

-- S of I occurs where the descent composition is coarser than I or equal to it
pub occurs-complete : (code w : List ℕ) → occurs NcsfS code w ≡ is_finer code (descent_composition w)
occurs-complete code w =
    let law = descends w in
    rw (law.0, law.1, turned_round (sum code) (length w)) refl

-- L of I occurs where the descent composition has a descent at each place outside those of I
pub occurs-elementary : (code w : List ℕ) → occurs NcsfL code w ≡ is_complementary code (descent_composition w)
occurs-elementary code w =
    let law = descends w in
    rw (law.0, law.1) refl
