-- The law of existence for sums: two values that pass the checks have a value that reads as their sum or difference.
use Rattle.std.proofs.Common.{◌≡◌, ◌⊎◌, ℕ, zero, suc, ◌+◌, ◌*◌, ◌/◌, ◌^◌, ◌<◌, ◌≤◌, List, [], ◌∷◌, ◌++◌, map, length, inl, inr, refl, sym, ◌∙◌, ap, subst, arith, unsigned_abs}
use Rattle.std.proofs.Math.IntN.{ℤ, pos, negsuc, ◌+ℤ◌, ◌*ℤ◌, zero-*ℤ}
use Rattle.std.specs.Prelude.{All, Bool, true, false}
use Rattle.std.proofs.lemmas.Int.{ints, unsigned_abs-mul}
use Rattle.std.proofs.lemmas.List.Elements.{All-nil, All-cons, All-append, All-head, All-tail}
use Rattle.std.proofs.lemmas.List.Sums.{sum_by-cons, sum_by-append}
use Rattle.hopf_num.specs.Divisors.{IsLcm}
use Rattle.hopf_num.specs.declared.room.Need.TheVariants.{CommonDenominator, Sum}
use Rattle.hopf_num.proofs.CommonDivisors.{lcm-pos, common_room}
use Rattle.hopf_num.proofs.Ring.{+ℤ-*ℤ}
use Rattle.realisations.specs.Readings.{Terms}
use Rattle.realisations.specs.Combinations.{Combination, IsCanonical, HasKey, norm_of, term_at, weighed}
use Rattle.linear_combos.specs.Merges.{IsCombined}
use Rattle.realisations.proofs.Agreement.{times_turned}
use Rattle.realisations.proofs.Linearity.{weighed-append}
use Rattle.linear_combos.proofs.SumsOfCombos.{IsSignedSum-combined, IsSum-signed, IsDifference-signed}
use Rattle.basis_names.specs.declared.bases.BasisId.{BasisId}
use Rattle.hopf_laws.specs.Bases.{least_limit}
use Rattle.hopf_laws.specs.Values.{Expansion, IsValue, Expands, reading_of}
use Rattle.basis_routes.specs.declared.checks.Check.TheVariants.{SameRank, Joined, DegreeWithin, Room}
use Rattle.basis_routes.specs.Checks.{Passes, IsCheck}
use Rattle.basis_routes.specs.Joins.{joined, join_checks}
use Rattle.hopf_ops.specs.Operations.{common_checks, sum_room}
use Rattle.hopf_ops.specs.Answers.{IsSumOrDifference}
use Rattle.hopf_ops.proofs.LowestExist.{combination_exists, value_over}
use Rattle.hopf_ops.proofs.SumsOfValues.{sum_over, sum_reads}
use Rattle.hopf_ops.specs.ReadingOperations.{sum_or_difference}

-- keys of one rank
abbrev pub AreOfRank : ℕ → Terms → Type 0
AreOfRank r ts = (i : ℕ) → i < length ts → length ((term_at ts i).1) ≡ r

-- the terms times a factor
abbrev pub times : ℤ → Terms → Terms
times p ts = map (λ t. (t.0 *ℤ p, t.1)) ts

-- they weigh so much more
pub weighed-times_factor : (w : List (List ℕ) → ℤ) (p : ℤ) (ts : Terms) → weighed w (times p ts) ≡ weighed w ts *ℤ p
weighed-times_factor w p [] = sym (zero-*ℤ p)
weighed-times_factor w p (t ∷ ts) =
    let head : (t.0 *ℤ p) *ℤ w t.1 ≡ (t.0 *ℤ w t.1) *ℤ p = times_turned t.0 p (w t.1) in
    omega (arith, ints, head, weighed-times_factor w p ts, +ℤ-*ℤ (t.0 *ℤ w t.1) (weighed w ts) p)

-- and their norm is so much more
pub norm-times_factor : (p : ℤ) (ts : Terms) → norm_of (times p ts) ≡ norm_of ts * unsigned_abs p
norm-times_factor p [] = omega arith
norm-times_factor p (t ∷ ts) =
    let left = sum_by-cons (λ (u : ℤ × List (List ℕ)). unsigned_abs u.0) (t.0 *ℤ p, t.1) (times p ts) in
    let right = sum_by-cons (λ (u : ℤ × List (List ℕ)). unsigned_abs u.0) t ts in
    let tail : norm_of (times p ts) ≡ norm_of ts * unsigned_abs p = norm-times_factor p ts in
    omega (arith, left, ap (λ n. n * unsigned_abs p) right, unsigned_abs-mul t.0 p, tail)

-- with the same keys
pub keys-times_factor : (p : ℤ) (ts : Terms) (key : List (List ℕ)) → HasKey (times p ts) key → HasKey ts key
keys-times_factor p [] key has = absurd (omega (arith, has.1))
keys-times_factor p (t ∷ ts) key (zero, lt, is) = (0, omega arith, is)
keys-times_factor p (t ∷ ts) key (suc i, lt, is) =
    let (j, lt2, is2) = keys-times_factor p ts key (i, omega (arith, lt), is) in (suc j, omega (arith, lt2), is2)

-- keys of terms and others
pub keys-append : (ts us : Terms) (key : List (List ℕ)) → HasKey (ts ++ us) key → HasKey ts key ⊎ HasKey us key
keys-append [] us key has = inr has
keys-append (t ∷ ts) us key (zero, lt, is) = inl (0, omega arith, is)
keys-append (t ∷ ts) us key (suc i, lt, is) = elim (keys-append ts us key (i, omega (arith, lt), is)) [
  | inl (j, lt2, is2) ↦ inl (suc j, omega (arith, lt2), is2)
  | inr has ↦ inr has
]

-- keys of one rank, by the keys
pub rank-of_keys : (r : ℕ) (ts : Terms) → ((key : List (List ℕ)) → HasKey ts key → length key ≡ r) → AreOfRank r ts
rank-of_keys r ts h i lt = h ((term_at ts i).1) (i, lt, refl)

pub keys-of_rank : (r : ℕ) (ts : Terms) → AreOfRank r ts → (key : List (List ℕ)) → HasKey ts key → length key ≡ r
keys-of_rank r ts h key (i, lt, is) = ap length (sym is) ∙ h i lt

module _ (r : ℕ) (a : Terms) (p : ℤ) (b : Terms) (q : ℤ) where
  -- keys of the terms behind each other are keys of the one or the other
  keys-both : (key : List (List ℕ)) → HasKey (times p a ++ times q b) key → HasKey a key ⊎ HasKey b key
  keys-both key has = elim (keys-append (times p a) (times q b) key has) [
    | inl left ↦ inl (keys-times_factor p a key left)
    | inr right ↦ inr (keys-times_factor q b key right)
  ]

  -- so they are of one rank
  rank-both : AreOfRank r a → AreOfRank r b → AreOfRank r (times p a ++ times q b)
  rank-both ha hb = rank-of_keys r (times p a ++ times q b) (λ key has. elim (keys-both key has) [
    | inl left ↦ keys-of_rank r a ha key left
    | inr right ↦ keys-of_rank r b hb key right
  ])

  -- their norm
  norm-both : norm_of (times p a ++ times q b) ≡ norm_of a * unsigned_abs p + norm_of b * unsigned_abs q
  norm-both = omega (arith, sum_by-append (λ (u : ℤ × List (List ℕ)). unsigned_abs u.0) (times p a) (times q b), norm-times_factor p a, norm-times_factor q b)

  -- their weight
  weighed-both : (w : List (List ℕ) → ℤ) → weighed w (times p a ++ times q b) ≡ weighed w a *ℤ p +ℤ weighed w b *ℤ q
  weighed-both w = weighed-append w (times p a) (times q b) ∙ (λ i. weighed-times_factor w p a i +ℤ weighed-times_factor w q b i)

  -- two lists of terms with two factors, over a denominator, have a combination, where all has room
  pub combined_exists : (den : ℕ) → AreOfRank r a → AreOfRank r b → norm_of a * unsigned_abs p + norm_of b * unsigned_abs q < 2 ^ 127 → 1 ≤ den → den < 2 ^ 127
      → (c : Combination) × IsCanonical c.rank c.den c.terms × IsCombined r den a p b q c
  combined_exists den ha hb room positive small =
      let e = combination_exists r den (times p a ++ times q b) (rank-both ha hb) (omega (arith, norm-both, room)) positive small in (
        e.0,
        e.1.canonical,
        record {
          rank = e.1.over.rank;
          weighs = λ w. e.1.over.weighs w ∙ ap (λ z. z *ℤ pos e.0.den) (weighed-both w);
          keys = λ key has. keys-both key (e.1.over.keys key has);
        },
      )

-- the sign of the second operand
abbrev sign_of : Bool → ℤ
sign_of true = negsuc 0
sign_of false = pos 1

sign-one : (minus : Bool) → unsigned_abs (sign_of minus) ≡ 1
sign-one true = refl
sign-one false = refl

-- a combination with the sign is the sum or difference
sum_or_difference-combined : (minus : Bool) (a b c : Combination) (m : ℕ) → 1 ≤ m → IsLcm a.den b.den m
    → IsCombined a.rank m a.terms (pos (m / a.den)) b.terms (pos (m / b.den) *ℤ sign_of minus) c → IsSumOrDifference minus a b c
sum_or_difference-combined true a b c m positive least is = IsDifference-signed a b c (IsSignedSum-combined a b c m (negsuc 0) positive least is)
sum_or_difference-combined false a b c m positive least is = IsSum-signed a b c (IsSignedSum-combined a b c m (pos 1) positive least is)

-- two canonical combinations of one rank have a canonical sum and difference, where these have room
pub sum_of_combos_exists : (minus : Bool) (m : ℕ) (a b : Combination) → IsCanonical a.rank a.den a.terms → IsCanonical b.rank b.den b.terms → a.rank ≡ b.rank
    → IsLcm a.den b.den m → m < 2 ^ 127 → norm_of a.terms * (m / a.den) + norm_of b.terms * (m / b.den) < 2 ^ 127
    → (c : Combination) × IsCanonical c.rank c.den c.terms × IsSumOrDifference minus a b c
sum_of_combos_exists minus m a b ha hb same least small room =
    let positive : 1 ≤ m = lcm-pos a.den b.den m ha.lowest.positive hb.lowest.positive least in
    let q = pos (m / b.den) *ℤ sign_of minus in
    let factor : unsigned_abs q ≡ (m / b.den) * 1 = unsigned_abs-mul (pos (m / b.den)) (sign_of minus) ∙ ap (λ n. (m / b.den) * n) (sign-one minus) in
    let second : norm_of b.terms * unsigned_abs q ≡ norm_of b.terms * (m / b.den) = ap (λ n. norm_of b.terms * n) factor ∙ times_one (norm_of b.terms) (m / b.den) in
    let e = combined_exists a.rank a.terms (pos (m / a.den)) b.terms q m ha.ordered.ranks (λ i lt. hb.ordered.ranks i lt ∙ sym same)
    (subst (λ n. norm_of a.terms * (m / a.den) + n < 2 ^ 127) (sym second) room) positive small in
    (e.0, e.1, sum_or_difference-combined minus a b e.0 m positive least e.2)
  where
    times_one : (k n : ℕ) → k * (n * 1) ≡ k * n
    times_one k n = omega arith

-- two values over the same bases have a sum and a difference, where the sum rule holds
pub sum_exists : (m : ℕ) (minus : Bool) (a b : Expansion) → IsValue a → IsValue b → a.bases ≡ b.bases → IsLcm a.combination.den b.combination.den m → All Passes (sum_room m a b)
    → (v : Expansion) × Expands a.bases (sum_or_difference minus (reading_of a) (reading_of b)) v
sum_exists m minus a b ha hb same least room =
    let x = a.combination in
    let y = b.combination in
    let common = Room (CommonDenominator x.den y.den) in
    let sum = Room (Sum (norm_of x.terms) (m / x.den) (norm_of y.terms) (m / y.den)) in
    let small : m < 2 ^ 127 =
    (common_room x.den y.den m ha.canonical.lowest.positive hb.canonical.lowest.positive least).1 (All-head Passes common (sum ∷ []) room) in
    let fits : norm_of x.terms * (m / x.den) + norm_of y.terms * (m / y.den) < 2 ^ 127 = All-head Passes sum [] (All-tail Passes common (sum ∷ []) room) in
    let e = sum_of_combos_exists minus m x y ha.canonical hb.canonical (ha.rank ∙ ap (λ (bs : List BasisId). length bs) same ∙ sym hb.rank) least small fits in (
      record { bases = a.bases; combination = e.0 },
      record {
        value = value_over a.bases e.0 (sum_over minus a b e.0 ha hb same e.2) e.1;
        over = refl;
        reads = λ ps points. sum_reads minus a b e.0 same e.2 ps;
      },
    )

-- joins can be checked
pub join_checks_are : (lefts rights : List BasisId) → All IsCheck (join_checks lefts rights)
join_checks_are [] rights = All-nil IsCheck
join_checks_are (left ∷ lefts) [] = All-nil IsCheck
join_checks_are (left ∷ lefts) (right ∷ rights) = All-cons IsCheck (Joined left right) (join_checks lefts rights) tt (join_checks_are lefts rights)

-- so can what two values have in common, for any degree
pub common_checks_are : (degree : ℕ) (a b : Expansion) → All IsCheck (common_checks degree a b)
common_checks_are degree a b =
    let ranks = SameRank (length a.bases) (length b.bases) in
    let within = DegreeWithin degree (least_limit (joined a.bases b.bases)) in
    All-append IsCheck (ranks ∷ join_checks a.bases b.bases) (within ∷ [])
    (All-cons IsCheck ranks (join_checks a.bases b.bases) tt (join_checks_are a.bases b.bases))
    (All-cons IsCheck within [] tt (All-nil IsCheck))

-- and the sum rule, since denominators are at least 1
pub sum_room_are : (m : ℕ) (a b : Expansion) → IsValue a → IsValue b → All IsCheck (sum_room m a b)
sum_room_are m a b ha hb =
    let x = a.combination in
    let y = b.combination in
    let common = Room (CommonDenominator x.den y.den) in
    let sum = Room (Sum (norm_of x.terms) (m / x.den) (norm_of y.terms) (m / y.den)) in
    All-cons IsCheck common (sum ∷ []) (ha.canonical.lowest.positive, hb.canonical.lowest.positive) (All-cons IsCheck sum [] tt (All-nil IsCheck))
