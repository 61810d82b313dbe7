-- A combination reads at points as at their patterns.
use Rattle.std.proofs.Common.{◌≡◌, ℕ, zero, suc, ◌*◌, List, [], ◌∷◌, map, refl, sym, ◌∙◌, ap}
use Rattle.std.proofs.Math.IntN.{pos}
use Rattle.std.specs.Prelude.{nat_eq, length, ◌&&◌}
use Rattle.std.specs.List.{sum}
use Rattle.realisations.specs.Lists.{same_list, is_subset, one_if}
use Rattle.realisations.specs.Exponents.{without_zeros, nondecreasing_word}
use Rattle.realisations.specs.Standardisation.{pack, inverse}
use Rattle.realisations.specs.Descents.{descents, ascents, descent_set, places_outside}
use Rattle.realisations.specs.Trees.{tree_code}
use Rattle.realisations.specs.Tableaux.{tableau_code, insertion_tableau}
use Rattle.realisations.proofs.NondecreasingWords.{ascents-without_zeros, length-without_zeros}
use Rattle.realisations.proofs.Packing.{pack-pack, length-pack, standardise-pack, descents-pack, descent_composition-pack, decreasing_tree-pack}
use Rattle.basis_names.specs.declared.bases.BasisId.{BasisId}
use Rattle.basis_names.specs.declared.bases.BasisId.TheVariants.{QsymM, QsymF, NcsfR, NcsfS, NcsfL, FqsymG, FqsymF, WqsymM, FsymS, PbtP}
use Rattle.realisations.specs.Bases.{kind_of}
use Rattle.realisations.specs.Occurrence.{occurs}
use Rattle.realisations.specs.Points.{pattern, patterns}
use Rattle.realisations.specs.Readings.{occurrence}
use Rattle.realisations.specs.Combinations.{weighed}
use Rattle.realisations.specs.Laws.{PatternLaw}

-- without the zeros there are no zeros to leave out
without_zeros-twice : (p : List ℕ) → without_zeros (without_zeros p) ≡ without_zeros p
without_zeros-twice [] = refl
without_zeros-twice (zero ∷ p) = without_zeros-twice p
without_zeros-twice (suc n ∷ p) = ap (λ q. suc n ∷ q) (without_zeros-twice p)

-- what each basis owes: its elements occur at a point as at its pattern
pub occurs-pattern : (basis : BasisId) (code p : List ℕ) → occurs basis code p ≡ occurs basis code (pattern (kind_of basis) p)
occurs-pattern QsymM code p = ap (λ q. same_list q code) (sym (without_zeros-twice p))
occurs-pattern QsymF code p =
    ap (λ n. nat_eq n (sum code) && is_subset (descent_set code) (ascents (nondecreasing_word p))) (length-without_zeros p)
    ∙ ap (λ places. nat_eq (length (nondecreasing_word (without_zeros p))) (sum code) && is_subset (descent_set code) places) (ascents-without_zeros p)
occurs-pattern NcsfR code p = ap (λ c. same_list c code) (sym (descent_composition-pack p))
occurs-pattern NcsfS code p =
    ap (λ n. nat_eq n (sum code) && is_subset (descents p) (descent_set code)) (sym (length-pack p))
    ∙ ap (λ places. nat_eq (length (pack p)) (sum code) && is_subset places (descent_set code)) (sym (descents-pack p))
occurs-pattern NcsfL code p =
    ap (λ n. nat_eq n (sum code) && is_subset (places_outside code) (descents p)) (sym (length-pack p))
    ∙ ap (λ places. nat_eq (length (pack p)) (sum code) && is_subset (places_outside code) places) (sym (descents-pack p))
occurs-pattern FqsymG code p = ap (λ s. same_list s code) (sym (standardise-pack p))
occurs-pattern FqsymF code p = ap (λ s. same_list (inverse s) code) (sym (standardise-pack p))
occurs-pattern WqsymM code p = ap (λ w. same_list w code) (sym (pack-pack p))
occurs-pattern FsymS code p = ap (λ s. same_list (tableau_code (insertion_tableau (inverse s))) code) (sym (standardise-pack p))
occurs-pattern PbtP code p = ap (λ tree. same_list (tree_code tree) code) (sym (decreasing_tree-pack p))

-- and so do the elements of a key
pub occurrence-patterns : (bases : List BasisId) (key ps : List (List ℕ)) → occurrence bases key ps ≡ occurrence bases key (patterns (map kind_of bases) ps)
occurrence-patterns [] key ps = refl
occurrence-patterns (basis ∷ bases) [] ps = refl
occurrence-patterns (basis ∷ bases) (code ∷ key) [] = refl
occurrence-patterns (basis ∷ bases) (code ∷ key) (p ∷ ps) =
    let first = occurs-pattern basis code p in
    let rest = occurrence-patterns bases key ps in
    λ i. one_if (first i) * rest i

pub reads_pattern : PatternLaw
reads_pattern bases den ts ps = λ i. weighed (λ key. pos (occurrence-patterns bases key ps i)) ts
