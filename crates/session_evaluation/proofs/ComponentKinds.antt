-- The kinds of bases with others in the place of a component.
use Rattle.std.proofs.Common.{◌≡◌, ℕ, zero, suc, ◌+◌, ◌-◌, ◌<◌, List, [], ◌∷◌, ◌++◌, All, length, map, get_or, refl, sym, ◌∙◌, ap, arith}
use Rattle.std.specs.Prelude.{unwrap_or}
use Rattle.realisations.specs.Bases.{kind_of}
use Rattle.realisations.specs.Laws.{IsDoubled}
use Rattle.realisations.specs.Points.{Kind}
use Rattle.realisations.specs.Readings.{coproduct, counit, mult, commute, kinds_after_at}
use Rattle.basis_names.specs.declared.bases.BasisId.{BasisId}
use Rattle.basis_names.specs.declared.bases.BasisId.TheVariants.{QsymM}
use Rattle.basis_routes.specs.declared.checks.Check.TheVariants.{Joined}
use Rattle.basis_routes.specs.Checks.{Passes}
use Rattle.basis_routes.specs.JoinTable.{join_of}
use Rattle.basis_routes.specs.Lists.{replaced, doubled, without}
use Rattle.basis_routes.proofs.JoinedKinds.{joined_kinds}

-- a component twice
pub kinds-doubled : (n : ℕ) (bases : List BasisId) → kinds_after_at n coproduct (map kind_of bases) ≡ map kind_of (doubled n bases)
kinds-doubled zero [] = refl
kinds-doubled zero (basis ∷ bases) = refl
kinds-doubled (suc n) [] = refl
kinds-doubled (suc n) (basis ∷ bases) = ap (λ (ks : List Kind). kind_of basis ∷ ks) (kinds-doubled n bases)

-- a component less
pub kinds-without : (n : ℕ) (bases : List BasisId) → kinds_after_at n counit (map kind_of bases) ≡ map kind_of (without n bases)
kinds-without zero [] = refl
kinds-without zero (basis ∷ bases) = refl
kinds-without (suc n) [] = refl
kinds-without (suc n) (basis ∷ bases) = ap (λ (ks : List Kind). kind_of basis ∷ ks) (kinds-without n bases)

-- a component over QSym.M has the kind of its commuting image
pub kinds-kept : (n : ℕ) (bases : List BasisId) → n < length bases → get_or bases n QsymM ≡ QsymM → kinds_after_at n commute (map kind_of bases) ≡ map kind_of bases
kinds-kept n [] there same = absurd (omega (arith, there))
kinds-kept zero (basis ∷ bases) there same = ap (λ (b : BasisId). kind_of b ∷ map kind_of bases) (sym same)
kinds-kept (suc n) (basis ∷ bases) there same = ap (λ (ks : List Kind). kind_of basis ∷ ks) (kinds-kept n bases (omega (arith, there)) same)

-- a component over another basis of its kind
pub kinds-replaced : (n : ℕ) (bases : List BasisId) (to : BasisId) → n < length bases → kind_of (get_or bases n to) ≡ kind_of to → map kind_of (replaced n (to ∷ []) bases) ≡ map kind_of bases
kinds-replaced n [] to there same = absurd (omega (arith, there))
kinds-replaced zero (basis ∷ bases) to there same = ap (λ (k : Kind). k ∷ map kind_of bases) (sym same)
kinds-replaced (suc n) (basis ∷ bases) to there same = ap (λ (ks : List Kind). kind_of basis ∷ ks) (kinds-replaced n bases to (omega (arith, there)) same)

-- two bases with a join are of one kind, and so is the join
joined_kind : (left right : BasisId) → Passes (Joined left right) → (kind_of left ≡ kind_of right) × (kind_of (unwrap_or (join_of left right) left) ≡ kind_of left)
joined_kind left right join =
    let kinds = joined_kinds (left ∷ []) (right ∷ []) refl only in
    (first_kind _ _ [] [] kinds.0, first_kind _ _ [] [] kinds.1)
  where
    only : All Passes (Joined left right ∷ [])
    only zero check less = join
    only (suc k) check less = absurd (omega (arith, less))

    first_kind : (k l : Kind) (ks ls : List Kind) → k ∷ ks ≡ l ∷ ls → k ≡ l
    first_kind k l ks ls same = cc

-- two neighbours with a join are of one kind
pub neighbours_alike : (before : List BasisId) (left right : BasisId) (after : List BasisId) → Passes (Joined left right) → IsDoubled (length before) (map kind_of (before ++ left ∷ right ∷ after))
neighbours_alike [] left right after join = (joined_kind left right join).0
neighbours_alike (basis ∷ before) left right after join = neighbours_alike before left right after join

-- their join in the place of both
pub kinds-multiplied : (before : List BasisId) (left right : BasisId) (after : List BasisId) → Passes (Joined left right)
    → kinds_after_at (length before) mult (map kind_of (before ++ left ∷ right ∷ after)) ≡ map kind_of (before ++ unwrap_or (join_of left right) left ∷ after)
kinds-multiplied [] left right after join =
    let kinds = joined_kind left right join in ap (λ (k : Kind). k ∷ map kind_of after) (sym kinds.0 ∙ sym kinds.1)
kinds-multiplied (basis ∷ before) left right after join = ap (λ (ks : List Kind). kind_of basis ∷ ks) (kinds-multiplied before left right after join)
