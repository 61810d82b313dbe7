-- Lists of bases with another one in the place of one: their kinds, and the limits of their degrees.
use Rattle.std.proofs.Common.{◌≡◌, ℕ, zero, suc, ◌<◌, ◌≤◌, List, [], ◌∷◌, ◌++◌, length, map, get_or, refl, sym, ap, subst, arith}
use Rattle.std.proofs.lemmas.List.{length-append}
use Rattle.basis_names.specs.declared.bases.BasisId.{BasisId}
use Rattle.basis_names.specs.Bases.{algebra_of, limit_of}
use Rattle.realisations.specs.Bases.{kind_of}
use Rattle.hopf_laws.specs.Bases.{least_limit}
use Rattle.basis_routes.specs.Lists.{replaced}
use Rattle.basis_routes.proofs.BasesAround.{replaced-around, IsWithin, within_each, within_least, within-around}

-- a list with a basis at a place: those before it and those after it
pub record HasAt (n : ℕ) (bases : List BasisId) : Type 0 where
  pub before : List BasisId
  pub basis : BasisId
  pub after : List BasisId
  pub is : bases ≡ before ++ basis ∷ after
  pub long : length before ≡ n

pub has_at : (n : ℕ) (bases : List BasisId) → n < length bases → HasAt n bases
has_at n [] within = absurd (omega (arith, within))
has_at zero (basis ∷ bases) within = record { before = []; basis = basis; after = bases; is = refl; long = refl }
has_at (suc n) (basis ∷ bases) within =
    let rest = has_at n bases (omega (arith, within)) in
    record { before = basis ∷ rest.before; basis = rest.basis; after = rest.after; is = ap (λ bs. basis ∷ bs) rest.is; long = omega (arith, rest.long) }

pub get_or-at : (n : ℕ) (before after : List BasisId) (old d : BasisId) → length before ≡ n → get_or (before ++ old ∷ after) n d ≡ old
get_or-at zero [] after old d long = refl
get_or-at (suc n) [] after old d long = absurd (omega (arith, long))
get_or-at zero (b ∷ before) after old d long = absurd (omega (arith, long))
get_or-at (suc n) (b ∷ before) after old d long = get_or-at n before after old d (omega (arith, long))

-- others in its place
pub replaced-at : (n : ℕ) (before middle after : List BasisId) (old : BasisId) → length before ≡ n → replaced n middle (before ++ old ∷ after) ≡ before ++ (middle ++ after)
replaced-at n before middle after old long = subst (λ m. replaced m middle (before ++ old ∷ after) ≡ before ++ (middle ++ after)) long (replaced-around before after middle old)

-- bases of the same kinds behind others
pub kinds-behind : (before xs ys : List BasisId) → map kind_of xs ≡ map kind_of ys → map kind_of (before ++ xs) ≡ map kind_of (before ++ ys)
kinds-behind [] xs ys kinds = kinds
kinds-behind (b ∷ before) xs ys kinds = ap (λ ks. kind_of b ∷ ks) (kinds-behind before xs ys kinds)

pub kinds-replaced : (before after : List BasisId) (old new : BasisId) → kind_of old ≡ kind_of new → map kind_of (before ++ new ∷ after) ≡ map kind_of (before ++ old ∷ after)
kinds-replaced before after old new kind = kinds-behind before (new ∷ after) (old ∷ after) (λ i. sym kind i ∷ map kind_of after)

-- a smaller degree is within each limit, too
pub within_less : (degree less : ℕ) (bases : List BasisId) → less ≤ degree → IsWithin degree bases → IsWithin less bases
within_less degree less [] le each = tt
within_less degree less (basis ∷ bases) le each = (omega (arith, le, each.0), within_less degree less bases le each.1)

-- a degree within the limits of bases and of another one that takes the place of one of them
pub within_replaced : (degree : ℕ) (before after : List BasisId) (old new : BasisId) → degree ≤ least_limit (before ++ old ∷ after) → degree ≤ limit_of (algebra_of new) → degree ≤ least_limit (before ++ new ∷ after)
within_replaced degree before after old new within small =
    within_least degree (before ++ new ∷ after) (omega (arith, length-append before (new ∷ after)))
    (within-around degree before after (new ∷ []) old (within_each degree (before ++ old ∷ after) within) (small, tt))
