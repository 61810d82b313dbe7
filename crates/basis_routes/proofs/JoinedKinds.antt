-- Bases with a join are read at points of one kind, and so is their join.
use Rattle.std.proofs.Common.{◌≡◌, Bool, true, false, ◌&&◌, List, [], ◌∷◌, map, length, Option, Some, None, refl, arith}
use Rattle.std.specs.Prelude.{All, IsSome, unwrap_or}
use Rattle.std.specs.List.{list_all, AllPass}
use Rattle.std.proofs.lemmas.List.Elements.{All-head, All-tail}
use Rattle.std.proofs.lemmas.List.Sums.{AllPass-from_list_all}
use Rattle.std.proofs.lemmas.Bool.{and_parts}
use Rattle.basis_names.specs.declared.bases.BasisId.{BasisId}
use Rattle.basis_names.specs.declared.bases.BasisId.TheVariants.{QsymM, QsymF, NcsfS, NcsfL, NcsfR, FqsymF, FqsymG, WqsymM, FsymS, PbtP}
use Rattle.basis_names.specs.Bases.{bases}
use Rattle.realisations.specs.Bases.{kind_of}
use Rattle.realisations.specs.Points.{Kind, exponents, word}
use Rattle.basis_routes.specs.declared.checks.Check.TheVariants.{Joined}
use Rattle.basis_routes.specs.Checks.{Passes}
use Rattle.basis_routes.specs.JoinTable.{join_of}
use Rattle.basis_routes.specs.Joins.{joined, join_checks}

-- what is tested of all bases holds of each
pub of_each : (test : BasisId → Bool) → AllPass test bases → (basis : BasisId) → test basis ≡ true
of_each test all QsymM = all 0 QsymM (omega arith)
of_each test all QsymF = all 1 QsymF (omega arith)
of_each test all NcsfS = all 2 NcsfS (omega arith)
of_each test all NcsfL = all 3 NcsfL (omega arith)
of_each test all NcsfR = all 4 NcsfR (omega arith)
of_each test all FqsymF = all 5 FqsymF (omega arith)
of_each test all FqsymG = all 6 FqsymG (omega arith)
of_each test all WqsymM = all 7 WqsymM (omega arith)
of_each test all FsymS = all 8 FsymS (omega arith)
of_each test all PbtP = all 9 PbtP (omega arith)

-- what is tested of all pairs of bases holds of each
pub of_pairs : (test : BasisId → BasisId → Bool) → list_all (λ left. list_all (test left) bases) bases ≡ true → (left right : BasisId) → test left right ≡ true
of_pairs test all left right =
    let of_left : list_all (test left) bases ≡ true = of_each (λ basis. list_all (test basis) bases) (AllPass-from_list_all (λ basis. list_all (test basis) bases) bases all) left in
    of_each (test left) (AllPass-from_list_all (test left) bases of_left) right

abbrev pub same_kind : Kind → Kind → Bool
same_kind exponents exponents = true
same_kind exponents word = false
same_kind word exponents = false
same_kind word word = true

pub are_same_kind : (a b : Kind) → same_kind a b ≡ true → a ≡ b
are_same_kind exponents exponents is = refl
are_same_kind exponents word is = absurd (cc)
are_same_kind word exponents is = absurd (cc)
are_same_kind word word is = refl

-- the join, where there is one, is of the kind of both
abbrev keeps_kind : BasisId → BasisId → Option BasisId → Bool
keeps_kind left right None = true
keeps_kind left right (Some basis) = same_kind (kind_of left) (kind_of right) && same_kind (kind_of basis) (kind_of left)

abbrev keeps_kind_of_all : BasisId → Bool
keeps_kind_of_all left = list_all (λ right. keeps_kind left right (join_of left right)) bases

all_keep_kinds : list_all keeps_kind_of_all bases ≡ true
all_keep_kinds = refl

kinds_kept : (left right : BasisId) → keeps_kind left right (join_of left right) ≡ true
kinds_kept left right =
    let of_left : keeps_kind_of_all left ≡ true = of_each keeps_kind_of_all (AllPass-from_list_all keeps_kind_of_all bases all_keep_kinds) left in
    of_each (λ basis. keeps_kind left basis (join_of left basis)) (AllPass-from_list_all (λ basis. keeps_kind left basis (join_of left basis)) bases of_left) right

-- of two bases that have a join
kind_of_join : (left right : BasisId) (join : Option BasisId) → keeps_kind left right join ≡ true → IsSome join
    → (kind_of left ≡ kind_of right) × (kind_of (unwrap_or join left) ≡ kind_of left)
kind_of_join left right None kept some = absurd (cc)
kind_of_join left right (Some basis) kept some =
    let both = and_parts _ _ kept in
    (are_same_kind _ _ both.0, are_same_kind _ _ both.1)

-- where two lists of one length have joins, they have the same kinds, and so have the joins
pub joined_kinds : (lefts rights : List BasisId) → length lefts ≡ length rights → All Passes (join_checks lefts rights)
    → (map kind_of lefts ≡ map kind_of rights) × (map kind_of (joined lefts rights) ≡ map kind_of lefts)
joined_kinds [] [] long pass = (refl, refl)
joined_kinds [] (right ∷ rights) long pass = absurd (omega arith)
joined_kinds (left ∷ lefts) [] long pass = absurd (omega arith)
joined_kinds (left ∷ lefts) (right ∷ rights) long pass =
    let later = join_checks lefts rights in
    let first = kind_of_join left right (join_of left right) (kinds_kept left right) (All-head Passes (Joined left right) later pass) in
    let others = joined_kinds lefts rights (omega arith) (All-tail Passes (Joined left right) later pass) in (
      λ i. first.0 i ∷ others.0 i,
      λ i. first.1 i ∷ others.1 i,
    )
