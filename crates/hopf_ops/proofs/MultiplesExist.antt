-- The law of existence for multiples: negations and quotients have values.
use Rattle.std.proofs.Common.{◌≡◌, ◌≢◌, ℕ, zero, suc, ◌*◌, ◌^◌, ◌<◌, ◌≤◌, List, [], ◌∷◌, map, length, refl, sym, ◌∙◌, ap, arith, unsigned_abs}
use Rattle.std.proofs.Math.IntN.{ℤ, pos, negsuc, ◌*ℤ◌, zero-*ℤ}
use Rattle.std.proofs.Math.Nat.{mul-le-mul_right}
use Rattle.std.specs.Prelude.{All}
use Rattle.std.proofs.lemmas.Int.{ints, unsigned_abs-mul}
use Rattle.std.proofs.lemmas.List.{length-map, get_or-map}
use Rattle.std.proofs.lemmas.List.Sums.{sum_by-cons}
use Rattle.hopf_num.specs.Fractions.{Ratio, reciprocal}
use Rattle.hopf_num.proofs.Ring.{+ℤ-*ℤ}
use Rattle.realisations.specs.Readings.{Terms, multiple}
use Rattle.realisations.specs.Combinations.{Combination, IsCanonical, HasKey, norm_of, term_at, weighed}
use Rattle.linear_combos.specs.Combos.{IsMultiple}
use Rattle.realisations.proofs.Agreement.{times_turned}
use Rattle.hopf_laws.specs.Values.{Expansion, IsValue, Expands, ratio_of, reading_of}
use Rattle.basis_routes.specs.declared.checks.Check.TheVariants.{Scalar}
use Rattle.basis_routes.specs.Checks.{Passes}
use Rattle.hopf_ops.specs.Operations.{quotient_checks}
use Rattle.hopf_ops.proofs.LowestExist.{IsCanonicalOver, combination_exists, value_over}
use Rattle.hopf_ops.proofs.MultiplesOfValues.{multiple_over, multiple_reads, abs-with_sign_of}
use Rattle.hopf_ops.specs.ReadingOperations.{negative, quotient}

-- the same keys, with the numerators times a number
abbrev scaled : ℤ → Terms → Terms
scaled n ts = map (λ t. (t.0 *ℤ n, t.1)) ts

length-scaled : (n : ℤ) (ts : Terms) → length (scaled n ts) ≡ length ts
length-scaled n ts = length-map {B = ℤ × List (List ℕ)} ts (λ (t : ℤ × List (List ℕ)). (t.0 *ℤ n, t.1))

key-scaled : (n : ℤ) (ts : Terms) (i : ℕ) → i < length ts → (term_at (scaled n ts) i).1 ≡ (term_at ts i).1
key-scaled n ts i lt = ap (λ (t : ℤ × List (List ℕ)). t.1) (get_or-map (λ (t : ℤ × List (List ℕ)). (t.0 *ℤ n, t.1)) ts i (pos 0, []) (pos 0, []) lt)

keys-scaled : (n : ℤ) (ts : Terms) (key : List (List ℕ)) → HasKey (scaled n ts) key → HasKey ts key
keys-scaled n ts key (i, lt, is) =
    let size = length-scaled n ts in
    let here : i < length ts = omega (arith, size) in
    (i, here, sym (key-scaled n ts i here) ∙ is)

norm-scaled : (n : ℤ) (ts : Terms) → norm_of (scaled n ts) ≡ norm_of ts * unsigned_abs n
norm-scaled n [] = omega arith
norm-scaled n (t ∷ ts) =
    let left = sum_by-cons (λ (u : ℤ × List (List ℕ)). unsigned_abs u.0) (t.0 *ℤ n, t.1) (scaled n ts) in
    let right = sum_by-cons (λ (u : ℤ × List (List ℕ)). unsigned_abs u.0) t ts in
    omega (arith, left, ap (λ m. m * unsigned_abs n) right, unsigned_abs-mul t.0 n, norm-scaled n ts)

weighed-scaled : (weight : List (List ℕ) → ℤ) (n : ℤ) (ts : Terms) → weighed weight (scaled n ts) ≡ weighed weight ts *ℤ n
weighed-scaled weight n [] = sym (zero-*ℤ n)
weighed-scaled weight n (t ∷ ts) =
    omega (arith, ints, +ℤ-*ℤ (t.0 *ℤ weight t.1) (weighed weight ts) n, times_turned t.0 n (weight t.1), weighed-scaled weight n ts)

-- a canonical combination that is the multiple of another
pub record IsMultipleMade (a : Combination) (by : Ratio) (c : Combination) : Type 0 where
  pub canonical : IsCanonical c.rank c.den c.terms
  pub multiple : IsMultiple a by c

multiple_made : (a : Combination) (by : Ratio) (c : Combination) → IsCanonicalOver a.rank (a.den * by.den) (scaled by.num a.terms) c → IsMultipleMade a by c
multiple_made a by c made = record {
  canonical = made.canonical;
  multiple = record {
    rank = made.over.rank;
    weighs = λ weight. made.over.weighs weight ∙ ap (λ z. z *ℤ pos c.den) (weighed-scaled weight by.num a.terms);
    keys = λ key has. keys-scaled by.num a.terms key (made.over.keys key has);
  };
}

-- a multiple of a canonical combination has a combination, where the product of the denominators and that of the norm and the numerator have room
pub multiple_exists : (a : Combination) (by : Ratio) → IsCanonical a.rank a.den a.terms → 1 ≤ by.den → a.den * by.den < 2 ^ 127 → norm_of a.terms * unsigned_abs by.num < 2 ^ 127
    → (c : Combination) × IsMultipleMade a by c
multiple_exists a by canonical positive small room =
    let below : 1 * by.den ≤ a.den * by.den = mul-le-mul_right by.den canonical.lowest.positive in
    let size = length-scaled by.num a.terms in
    let made = combination_exists a.rank (a.den * by.den) (scaled by.num a.terms)
    (λ i lt. let here : i < length a.terms = omega (arith, size, lt) in ap length (key-scaled by.num a.terms i here) ∙ canonical.ordered.ranks i here)
    (omega (arith, room, norm-scaled by.num a.terms)) (omega (arith, below, positive)) small in
    (made.0, multiple_made a by made.0 made.1)

-- and a multiple of a value has a value
pub multiple_value : (a : Expansion) (by : Ratio) → IsValue a → 1 ≤ by.den → a.combination.den * by.den < 2 ^ 127 → norm_of a.combination.terms * unsigned_abs by.num < 2 ^ 127
    → (v : Expansion) × Expands a.bases (multiple by.num by.den (reading_of a)) v
multiple_value a by ha positive small room =
    let c = multiple_exists a.combination by ha.canonical positive small room in (
      record { bases = a.bases; combination = c.0 },
      record {
        value = value_over a.bases c.0 (multiple_over a by c.0 ha c.1.multiple) c.1.canonical;
        over = refl;
        reads = λ ps points. multiple_reads a by c.0 c.1.multiple ps;
      },
    )

-- each value has a negation
pub negation_exists : (a : Expansion) → IsValue a → (v : Expansion) × Expands a.bases (negative (reading_of a)) v
negation_exists a ha =
    let small = ha.canonical.lowest.small in
    let room = ha.canonical.ordered.small in
    multiple_value a (record { num = negsuc 0; den = 1 }) ha (omega arith) (omega (arith, small)) (omega (arith, room))

abs-some : (z : ℤ) → z ≢ pos 0 → 1 ≤ unsigned_abs z
abs-some (pos zero) h = absurd (h refl)
abs-some (pos (suc n)) h = omega arith
abs-some (negsuc n) h = omega arith

-- each value has a quotient by a scalar, where the checks pass
pub quotient_exists : (a b : Expansion) → IsValue a → IsValue b → All Passes (quotient_checks a b) → (v : Expansion) × Expands a.bases (quotient (reading_of a) (reading_of b)) v
quotient_exists a b ha hb pass =
    let by : Ratio = reciprocal (ratio_of b) in
    let nonzero : (ratio_of b).num ≢ pos 0 = pass 1 (Scalar 0) (omega arith) in
    let dens : a.combination.den * unsigned_abs (ratio_of b).num * 2 ^ 0 < 2 ^ 127 = pass 2 (Scalar 0) (omega arith) in
    let norms : norm_of a.combination.terms * b.combination.den * 2 ^ 0 < 2 ^ 127 = pass 3 (Scalar 0) (omega arith) in
    let size : norm_of a.combination.terms * unsigned_abs by.num ≡ norm_of a.combination.terms * b.combination.den =
    ap (λ n. norm_of a.combination.terms * n) (abs-with_sign_of (ratio_of b).num b.combination.den) in
    multiple_value a by ha (abs-some (ratio_of b).num nonzero) (omega (arith, dens)) (omega (arith, norms, size))
