-- Combinations read at points as at their patterns, and so they do not see zeros among exponents.
use Rattle.std.proofs.Common.{◌≡◌, ℕ, zero, suc, List, [], ◌∷◌, map, refl, sym, ◌∙◌, ap}
use Rattle.basis_names.specs.declared.bases.BasisId.{BasisId}
use Rattle.realisations.specs.Bases.{kind_of}
use Rattle.realisations.specs.Exponents.{without_zeros}
use Rattle.realisations.specs.Points.{Kind, exponents, word, pattern, patterns}
use Rattle.realisations.specs.Readings.{Terms, leaf, numerator}
use Rattle.realisations.proofs.Pattern.{reads_pattern}
use Rattle.antipode_laws.specs.Units.{without_zeros_of, without_zeros_at, IgnoresZerosAt}

-- without the zeros there are no zeros to leave out
pub without_zeros-twice : (p : List ℕ) → without_zeros (without_zeros p) ≡ without_zeros p
without_zeros-twice [] = refl
without_zeros-twice (zero ∷ p) = without_zeros-twice p
without_zeros-twice (suc n ∷ p) = ap (λ q. suc n ∷ q) (without_zeros-twice p)

-- the pattern of a point without zeros is that of the point
pattern-without_zeros : (kind : Kind) (p : List ℕ) → pattern kind (without_zeros_of kind p) ≡ pattern kind p
pattern-without_zeros exponents p = without_zeros-twice p
pattern-without_zeros word p = refl

-- in any component
patterns-without_zeros : (n : ℕ) (kinds : List Kind) (ps : List (List ℕ)) → patterns kinds (without_zeros_at n kinds ps) ≡ patterns kinds ps
patterns-without_zeros zero [] ps = refl
patterns-without_zeros zero (kind ∷ kinds) [] = refl
patterns-without_zeros zero (kind ∷ kinds) (p ∷ ps) = ap (λ q. q ∷ patterns kinds ps) (pattern-without_zeros kind p)
patterns-without_zeros (suc n) [] ps = refl
patterns-without_zeros (suc n) (kind ∷ kinds) [] = refl
patterns-without_zeros (suc n) (kind ∷ kinds) (p ∷ ps) = ap (λ qs. pattern kind p ∷ qs) (patterns-without_zeros n kinds ps)

-- so do combinations
pub leaf_ignores_zeros : (n : ℕ) (bases : List BasisId) (den : ℕ) (ts : Terms) → IgnoresZerosAt n (leaf bases den ts)
leaf_ignores_zeros n bases den ts ps =
    let kinds : List Kind = map kind_of bases in
    reads_pattern bases den ts ps
    ∙ ap (numerator (leaf bases den ts)) (sym (patterns-without_zeros n kinds ps))
    ∙ sym (reads_pattern bases den ts (without_zeros_at n kinds ps))
