-- A Knuth move restricts to a move, or to nothing, on each interval of letters (Knuth 1970).
use Rattle.std.proofs.Common.{◌≡◌, ℕ, ◌<◌, ◌≤◌, Bool, true, false, List, [], ◌∷◌, ◌++◌, refl, arith}
use Rattle.std.specs.Prelude.{if◌then◌else◌}
use Rattle.std.specs.List.{filter}
use Rattle.std.proofs.lemmas.Bool.{both_ways}
use Rattle.std.proofs.lemmas.List.Elements.{filter-append}
use Rattle.realisations.specs.Standardisation.{count_same}
use Rattle.tableau_laws.specs.Knuth.{Move, still, xzy, zxy, yxz, yzx, Chain, done, step}
use Rattle.tableau_laws.proofs.KnuthMoves.{Distinct}

-- an interval of letters: what is between two of them is one
abbrev pub IsInterval : (ℕ → Bool) → Type 0
IsInterval test = (x y z : ℕ) → x < y → y < z → test x ≡ true → test z ≡ true → test y ≡ true

-- a letter that is kept or left out
abbrev keep : Bool → ℕ → List ℕ → List ℕ
keep b x w = if b then x ∷ w else w

-- of three letters in a move some are kept: where both ends are, so is the middle one
move_kept_xzy : (p s : List ℕ) (x y z : ℕ) → x < y → y < z → (a b c : Bool) → (a ≡ true → c ≡ true → b ≡ true)
    → Move (p ++ keep a x (keep c z (keep b y s))) (p ++ keep c z (keep a x (keep b y s)))
move_kept_xzy p s x y z h k true true true e = xzy p s x y z h k
move_kept_xzy p s x y z h k true false true e = absurd (both_ways false refl (e refl refl))
move_kept_xzy p s x y z h k true b false e = still _
move_kept_xzy p s x y z h k false b true e = still _
move_kept_xzy p s x y z h k false b false e = still _

move_kept_zxy : (p s : List ℕ) (x y z : ℕ) → x < y → y < z → (a b c : Bool) → (a ≡ true → c ≡ true → b ≡ true)
    → Move (p ++ keep c z (keep a x (keep b y s))) (p ++ keep a x (keep c z (keep b y s)))
move_kept_zxy p s x y z h k true true true e = zxy p s x y z h k
move_kept_zxy p s x y z h k true false true e = absurd (both_ways false refl (e refl refl))
move_kept_zxy p s x y z h k true b false e = still _
move_kept_zxy p s x y z h k false b true e = still _
move_kept_zxy p s x y z h k false b false e = still _

move_kept_yxz : (p s : List ℕ) (x y z : ℕ) → x < y → y < z → (a b c : Bool) → (a ≡ true → c ≡ true → b ≡ true)
    → Move (p ++ keep b y (keep a x (keep c z s))) (p ++ keep b y (keep c z (keep a x s)))
move_kept_yxz p s x y z h k true true true e = yxz p s x y z h k
move_kept_yxz p s x y z h k true false true e = absurd (both_ways false refl (e refl refl))
move_kept_yxz p s x y z h k true b false e = still _
move_kept_yxz p s x y z h k false b true e = still _
move_kept_yxz p s x y z h k false b false e = still _

move_kept_yzx : (p s : List ℕ) (x y z : ℕ) → x < y → y < z → (a b c : Bool) → (a ≡ true → c ≡ true → b ≡ true)
    → Move (p ++ keep b y (keep c z (keep a x s))) (p ++ keep b y (keep a x (keep c z s)))
move_kept_yzx p s x y z h k true true true e = yzx p s x y z h k
move_kept_yzx p s x y z h k true false true e = absurd (both_ways false refl (e refl refl))
move_kept_yzx p s x y z h k true b false e = still _
move_kept_yzx p s x y z h k false b true e = still _
move_kept_yzx p s x y z h k false b false e = still _

-- moves of two filtered concatenations
filtered : (test : ℕ → Bool) (p v w : List ℕ) → Move (filter test p ++ filter test v) (filter test p ++ filter test w) → Move (filter test (p ++ v)) (filter test (p ++ w))
filtered test p v w h = rw (filter-append test p v, filter-append test p w) h

module _ (test : ℕ → Bool) (interval : IsInterval test) where
  -- a move of a word is one, or none, of its letters in the interval
  pub move-filter : (v w : List ℕ) → Move v w → Move (filter test v) (filter test w)
  move-filter v w (still u) = still (filter test u)
  move-filter v w (xzy p s x y z h k) =
      filtered test p (x ∷ z ∷ y ∷ s) (z ∷ x ∷ y ∷ s) (move_kept_xzy (filter test p) (filter test s) x y z h k (test x) (test y) (test z) (interval x y z h k))
  move-filter v w (zxy p s x y z h k) =
      filtered test p (z ∷ x ∷ y ∷ s) (x ∷ z ∷ y ∷ s) (move_kept_zxy (filter test p) (filter test s) x y z h k (test x) (test y) (test z) (interval x y z h k))
  move-filter v w (yxz p s x y z h k) =
      filtered test p (y ∷ x ∷ z ∷ s) (y ∷ z ∷ x ∷ s) (move_kept_yxz (filter test p) (filter test s) x y z h k (test x) (test y) (test z) (interval x y z h k))
  move-filter v w (yzx p s x y z h k) =
      filtered test p (y ∷ z ∷ x ∷ s) (y ∷ x ∷ z ∷ s) (move_kept_yzx (filter test p) (filter test s) x y z h k (test x) (test y) (test z) (interval x y z h k))

  -- and a chain is a chain of these
  pub chain-filter : (v w : List ℕ) → Chain v w → Chain (filter test v) (filter test w)
  chain-filter v w (done u) = done (filter test u)
  chain-filter v w (step a b c m h) = step (filter test a) (filter test b) (filter test c) (move-filter a b m) (chain-filter b c h)

-- letters that are left out do no harm to distinct ones
pub distinct-filter : (test : ℕ → Bool) (w : List ℕ) → Distinct w → Distinct (filter test w)
distinct-filter test w d k = omega (arith, fewer w, d k)
  where
    fewer : (w : List ℕ) → count_same k (filter test w) ≤ count_same k w
    fewer [] = omega arith
    fewer (x ∷ w) = by_test (test x) (fewer w)
      where
        by_test : (b : Bool) → count_same k (filter test w) ≤ count_same k w → count_same k (if b then x ∷ filter test w else filter test w) ≤ count_same k (x ∷ w)
        by_test true ih = omega (arith, ih)
        by_test false ih = omega (arith, ih)
