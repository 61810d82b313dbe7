-- Lists of bases of which each lies in the algebra of the one in its place: they are as long and of the same kinds; lists with one of them replaced; and the joins of two lists, in which both lie.
use Rattle.std.proofs.Common.{◌≡◌, ℕ, zero, suc, ◌<◌, Bool, true, false, ◌&&◌, IsTrue, List, [], ◌∷◌, ◌++◌, map, length, get_or, Option, Some, None, refl, sym, subst, arith}
use Rattle.std.specs.Prelude.{All, IsSome, unwrap_or, if◌then◌else◌}
use Rattle.std.proofs.lemmas.List.Elements.{All-head, All-tail}
use Rattle.std.proofs.lemmas.List.Sums.{AllPass-from_list_all}
use Rattle.std.proofs.lemmas.Bool.{and_parts}
use Rattle.basis_names.specs.declared.bases.BasisId.{BasisId}
use Rattle.basis_names.specs.Bases.{algebra_of, bases}
use Rattle.realisations.specs.Bases.{kind_of, lies_in}
use Rattle.basis_routes.specs.declared.checks.Check.TheVariants.{Joined}
use Rattle.basis_routes.specs.Checks.{Passes}
use Rattle.basis_routes.specs.JoinTable.{join_of}
use Rattle.basis_routes.specs.Joins.{joined, join_checks, LieIn}
use Rattle.basis_routes.specs.Lists.{replaced}
use Rattle.basis_routes.proofs.JoinedKinds.{of_each, of_pairs, same_kind, are_same_kind}

-- a basis lies in the algebra of another one
abbrev is_inside : BasisId → BasisId → Bool
is_inside old new = lies_in (algebra_of old) (algebra_of new)

by_test : (p q : Bool) → (if p then q else true) ≡ true → p ≡ true → q ≡ true
by_test true q test hp = test
by_test false q test hp = absurd (cc)

-- they are of one kind
abbrev keeps_kind_inside : BasisId → BasisId → Bool
keeps_kind_inside old new = if is_inside old new then same_kind (kind_of old) (kind_of new) else true

kinds_kept_inside : (old new : BasisId) → keeps_kind_inside old new ≡ true
kinds_kept_inside = of_pairs keeps_kind_inside refl

pub lies_kind : (old new : BasisId) → IsTrue (lies_in (algebra_of old) (algebra_of new)) → kind_of old ≡ kind_of new
lies_kind old new inside =
    are_same_kind _ _ (by_test (is_inside old new) (same_kind (kind_of old) (kind_of new)) (kinds_kept_inside old new) inside)

pub lies_kinds : (olds news : List BasisId) → LieIn olds news → map kind_of news ≡ map kind_of olds
lies_kinds [] [] lie = refl
lies_kinds [] (new ∷ news) lie = absurd lie
lies_kinds (old ∷ olds) [] lie = absurd lie
lies_kinds (old ∷ olds) (new ∷ news) lie =
    let first = lies_kind old new lie.0 in
    let others = lies_kinds olds news lie.1 in
    λ i. sym first i ∷ others i

pub lies_length : (olds news : List BasisId) → LieIn olds news → length olds ≡ length news
lies_length [] [] lie = refl
lies_length [] (new ∷ news) lie = absurd lie
lies_length (old ∷ olds) [] lie = absurd lie
lies_length (old ∷ olds) (new ∷ news) lie = omega (arith, lies_length olds news lie.1)

-- each list lies in itself
lies_in_its_own : (basis : BasisId) → is_inside basis basis ≡ true
lies_in_its_own = of_each (λ basis. is_inside basis basis) (AllPass-from_list_all (λ basis. is_inside basis basis) bases refl)

pub lies_itself : (olds : List BasisId) → LieIn olds olds
lies_itself [] = tt
lies_itself (old ∷ olds) = (lies_in_its_own old, lies_itself olds)

-- and in the list with one basis replaced by another one, in the algebra of which it lies
pub lies_change : (before after : List BasisId) (old new : BasisId) → IsTrue (lies_in (algebra_of old) (algebra_of new)) → LieIn (before ++ old ∷ after) (before ++ new ∷ after)
lies_change [] after old new inside = (inside, lies_itself after)
lies_change (basis ∷ before) after old new inside = (lies_in_its_own basis, lies_change before after old new inside)

-- a component lies in the algebra of the one in its place
pub inside_at : (n : ℕ) (olds news : List BasisId) (new : BasisId) → LieIn olds news → n < length news → new ≡ get_or news n new → IsTrue (lies_in (algebra_of (get_or olds n new)) (algebra_of new))
inside_at n [] [] new lie lt is = absurd (omega (arith, lt))
inside_at n [] (b ∷ news) new lie lt is = absurd lie
inside_at n (a ∷ olds) [] new lie lt is = absurd lie
inside_at zero (a ∷ olds) (b ∷ news) new lie lt is = subst (λ (x : BasisId). IsTrue (lies_in (algebra_of a) (algebra_of x))) (sym is) lie.0
inside_at (suc n) (a ∷ olds) (b ∷ news) new lie lt is = inside_at n olds news new lie.1 (omega (arith, lt)) is

-- replaced by that one, the list lies there still
pub lies_replaced : (n : ℕ) (olds news : List BasisId) (new : BasisId) → LieIn olds news → n < length news → new ≡ get_or news n new → LieIn (replaced n (new ∷ []) olds) news
lies_replaced n [] [] new lie lt is = absurd (omega (arith, lt))
lies_replaced n [] (b ∷ news) new lie lt is = absurd lie
lies_replaced n (a ∷ olds) [] new lie lt is = absurd lie
lies_replaced zero (a ∷ olds) (b ∷ news) new lie lt is =
    (subst (λ (x : BasisId). IsTrue (lies_in (algebra_of new) (algebra_of x))) is (lies_in_its_own new), lie.1)
lies_replaced (suc n) (a ∷ olds) (b ∷ news) new lie lt is = (lie.0, lies_replaced n olds news new lie.1 (omega (arith, lt)) is)

-- the join of two bases, where there is one: both lie in its algebra
abbrev holds_both : BasisId → BasisId → Option BasisId → Bool
holds_both left right None = true
holds_both left right (Some basis) = is_inside left basis && is_inside right basis

abbrev join_holds_both : BasisId → BasisId → Bool
join_holds_both left right = holds_both left right (join_of left right)

both_held : (left right : BasisId) → join_holds_both left right ≡ true
both_held = of_pairs join_holds_both refl

both_inside : (left right : BasisId) (join : Option BasisId) → holds_both left right join ≡ true → IsSome join
    → IsTrue (lies_in (algebra_of left) (algebra_of (unwrap_or join left))) × IsTrue (lies_in (algebra_of right) (algebra_of (unwrap_or join left)))
both_inside left right None held some = absurd (cc)
both_inside left right (Some basis) held some = and_parts _ _ held

-- so do two lists of one length in their joins
pub joined_inside : (lefts rights : List BasisId) → length lefts ≡ length rights → All Passes (join_checks lefts rights)
    → LieIn lefts (joined lefts rights) × LieIn rights (joined lefts rights)
joined_inside [] [] long pass = (tt, tt)
joined_inside [] (right ∷ rights) long pass = absurd (omega arith)
joined_inside (left ∷ lefts) [] long pass = absurd (omega arith)
joined_inside (left ∷ lefts) (right ∷ rights) long pass =
    let later = join_checks lefts rights in
    let first = both_inside left right (join_of left right) (both_held left right) (All-head Passes (Joined left right) later pass) in
    let others = joined_inside lefts rights (omega arith) (All-tail Passes (Joined left right) later pass) in
    ((first.0, others.0), (first.1, others.1))
