-- Values of one term, and the rows by which they are made.
use Rattle.std.proofs.Common.{◌≡◌, ◌≢◌, ℕ, zero, suc, ◌+◌, ◌*◌, ◌^◌, ◌<◌, ◌≤◌, Ok, List, [], ◌∷◌, ◌++◌, length, inl, refl, sym, ◌∙◌, ap, subst, arith, unsigned_abs}
use Rattle.std.specs.Prelude.{All}
use Rattle.std.proofs.Math.IntN.{ℤ, pos, negsuc, ◌+ℤ◌, ◌*ℤ◌, *ℤ_comm, *ℤ-one, one, neg_ℤ}
use Rattle.std.proofs.Math.Nat.{eq-one_of_dvd-one, mul-one, one-dvd}
use Rattle.std.proofs.lemmas.Int.{ints}
use Rattle.std.proofs.lemmas.List.{length-append}
use Rattle.std.proofs.lemmas.List.Elements.{All-nil, All-cons}
use Rattle.hopf_num.specs.Fractions.{Ratio, IsFraction, with_sign_of, reciprocal}
use Rattle.hopf_num.specs.declared.room.Need.TheVariants.{Denominator, Product}
use Rattle.basis_names.specs.declared.bases.BasisId.{BasisId}
use Rattle.realisations.specs.Points.{ArePoints}
use Rattle.realisations.specs.Combinations.{HasKey, IsCanonical, norm_of, term_at}
use Rattle.realisations.specs.Indices.{AreIndices, total_degree}
use Rattle.realisations.specs.Readings.{numerator, occurrence}
use Rattle.change_laws.proofs.LiftedKeys.{length-indices}
use Rattle.hopf_laws.specs.Bases.{AreBuilt, least_limit}
use Rattle.hopf_laws.specs.Values.{Expansion, IsValue, reading_of, ratio_of, degree_of_value}
use Rattle.hopf_laws.proofs.Scalars.{numerator-scalar}
use Rattle.basis_routes.specs.declared.checks.Check.{Check}
use Rattle.basis_routes.specs.declared.checks.Check.TheVariants.{RankWithin, Scalar, Nonzero, DegreeWithin, Room}
use Rattle.basis_routes.specs.Checks.{Passes}
use Rattle.hopf_ops.specs.Operations.{TensorRow, ProductRow, QuotientRow, NegationRow, product_room, tensor_checks, quotient_checks}
use Rattle.hopf_ops.proofs.TensorsOfValues.{tensor_reads, total_degree-append, WeighsAsTensor}
use Rattle.session_evaluation.specs.Evaluation.{number_value, element_value}

-- a numerator over a denominator
abbrev pub over : ℕ → ℕ → Ratio
over n d = record { num = pos n; den = d }

-- a ratio times the elements of a key
abbrev pub term_value : List BasisId → Ratio → List (List ℕ) → Expansion
term_value bases r key = record { bases = bases; combination = record { rank = length bases; den = r.den; terms = (r.num, key) ∷ [] } }

-- it is a value
pub record IsTerm (bases : List BasisId) (r : Ratio) (key : List (List ℕ)) : Type 0 where
  pub short : length bases ≤ 3
  pub built : AreBuilt bases
  pub fraction : IsFraction r
  pub nonzero : r.num ≢ pos 0
  pub indices : AreIndices bases key
  pub degree : total_degree bases key ≤ least_limit bases

one_term : (num : ℤ) (key : List (List ℕ)) → norm_of ((num, key) ∷ []) ≡ unsigned_abs num
one_term num key = omega arith

one_key : (num : ℤ) (key other : List (List ℕ)) → HasKey ((num, key) ∷ []) other → key ≡ other
one_key num key other (zero, lt, is) = is
one_key num key other (suc i, lt, is) = absurd (omega (arith, lt))

canonical_term : (bases : List BasisId) (r : Ratio) (key : List (List ℕ)) → IsTerm bases r key → IsCanonical (length bases) r.den ((r.num, key) ∷ [])
unfolding one
canonical_term bases r key is = record {
  ordered = record {
    rising = λ i j less lt. absurd (omega (arith, less, lt));
    nonzero = nonzero;
    ranks = ranks;
    small = omega (arith, one_term r.num key, is.fraction.num_small);
  };
  lowest = record {
    positive = is.fraction.positive;
    small = is.fraction.den_small;
    coprime = λ d p each. eq-one_of_dvd-one (is.fraction.lowest.2 d (each 0 (omega arith)) p);
  };
}
  where
    nonzero : (i : ℕ) → i < length {A = ℤ × List (List ℕ)} ((r.num, key) ∷ []) → (term_at ((r.num, key) ∷ []) i).0 ≢ pos 0
    nonzero zero lt = is.nonzero
    nonzero (suc i) lt = absurd (omega (arith, lt))

    ranks : (i : ℕ) → i < length {A = ℤ × List (List ℕ)} ((r.num, key) ∷ []) → length ((term_at ((r.num, key) ∷ []) i).1) ≡ length bases
    ranks zero lt = length-indices bases key is.indices
    ranks (suc i) lt = absurd (omega (arith, lt))

pub value_of_term : (bases : List BasisId) (r : Ratio) (key : List (List ℕ)) → IsTerm bases r key → IsValue (term_value bases r key)
value_of_term bases r key is = record {
  short = is.short;
  built = is.built;
  rank = refl;
  canonical = canonical_term bases r key is;
  indices = λ other has. subst (λ k. AreIndices bases k) (one_key r.num key other has) is.indices;
  degrees = λ other has. subst (λ k. total_degree bases k ≤ least_limit bases) (one_key r.num key other has) is.degree;
}

-- The first components of a term.

built_front : (bases others : List BasisId) → AreBuilt (bases ++ others) → AreBuilt bases
built_front [] others h = tt
built_front (basis ∷ bases) others h = (h.0, built_front bases others h.1)

limit_front : (bases others : List BasisId) → 1 ≤ length bases → least_limit (bases ++ others) ≤ least_limit bases
limit_front [] others some = absurd (omega (arith, some))
limit_front (basis ∷ []) [] some = omega arith
limit_front (basis ∷ []) (other ∷ others) some = omega arith
limit_front (basis ∷ next ∷ bases) others some = let rest = limit_front (next ∷ bases) others (omega arith) in omega (arith, rest)

pub term_front : (bases others : List BasisId) (r : Ratio) (key more : List (List ℕ)) → IsTerm (bases ++ others) r (key ++ more) → AreIndices bases key → 1 ≤ length bases → IsTerm bases r key
term_front bases others r key more is indices some = record {
  short = omega (arith, is.short, length-append bases others);
  built = built_front bases others is.built;
  fraction = is.fraction;
  nonzero = is.nonzero;
  indices = indices;
  degree = omega (arith, is.degree, total_degree-append bases others key more indices, limit_front bases others some);
}

-- Numbers.

-- a number below 2^127 is a fraction
pub whole_fraction : (n : ℕ) → n < 2 ^ 127 → IsFraction (over n 1)
unfolding one
whole_fraction n small = record { positive = omega arith; lowest = (one-dvd n, one-dvd 1, λ d p q. q); num_small = small; den_small = omega arith }

pub number_is_term : (n : ℕ) → 1 ≤ n → number_value n ≡ term_value [] (over n 1) []
number_is_term zero some = absurd (omega (arith, some))
number_is_term (suc n) some = refl

pub scalar_is_term : (r : Ratio) → IsFraction r → r.num ≢ pos 0 → IsTerm [] r []
scalar_is_term r fraction nonzero = record { short = omega arith; built = tt; fraction = fraction; nonzero = nonzero; indices = tt; degree = omega arith }

-- the quotient of two numbers that are a fraction
pub quotient_row : (n d : ℕ) → 1 ≤ n → IsFraction (over n 1) → IsFraction (over d 1) → 1 ≤ d → IsFraction (over n d) → QuotientRow (term_value [] (over n 1) []) (term_value [] (over d 1) []) (Ok (term_value [] (over n d) []))
unfolding one
quotient_row n d some num den some_den whole = inl (passes, (term_value [] (over n d) [], record { value = value_of_term [] (over n d) [] (scalar_is_term (over n d) whole nonzero); over = refl; reads = reads }, refl))
  where
    a : Expansion
    a = term_value [] (over n 1) []

    b : Expansion
    b = term_value [] (over d 1) []

    nonzero : pos n ≢ pos 0
    nonzero e = absurd (omega (arith, ints, e, some))

    nonzero_den : pos d ≢ pos 0
    nonzero_den e = absurd (omega (arith, ints, e, some_den))

    is : (ratio_of b).num ≡ pos d
    is = numerator-scalar 1 ((pos d, []) ∷ []) (canonical_term [] (over d 1) [] (scalar_is_term (over d 1) den nonzero_den)).ordered

    size : unsigned_abs (ratio_of b).num ≡ d
    size = ap unsigned_abs is

    norm : norm_of ((pos n, []) ∷ []) ≡ n
    norm = one_term (pos n) []

    passes : All Passes (quotient_checks a b)
    passes =
        let dens : 1 * unsigned_abs (ratio_of b).num * 2 ^ 0 < 2 ^ 127 = omega (arith, size, whole.den_small) in
        let norms : norm_of ((pos n, []) ∷ []) * 1 * 2 ^ 0 < 2 ^ 127 = omega (arith, norm, whole.num_small) in
        let room = Room (Denominator 1 (unsigned_abs (ratio_of b).num)) in
        let size_room = Room (Product (norm_of ((pos n, []) ∷ [])) 1 0) in
        All-cons Passes (Scalar 0) (Nonzero (ratio_of b).num ∷ room ∷ size_room ∷ []) refl
        (All-cons Passes (Nonzero (ratio_of b).num) (room ∷ size_room ∷ []) (λ e. nonzero_den (sym is ∙ e))
        (All-cons Passes room (size_room ∷ []) dens (All-cons Passes size_room [] norms (All-nil Passes))))

    reads : (ps : List (List ℕ)) → ArePoints [] ps → numerator (reading_of a) ps *ℤ pos ((reciprocal (ratio_of b)).den * 1) ≡ ((reciprocal (ratio_of b)).num *ℤ numerator (reading_of a) ps) *ℤ pos d
    reads ps points =
        let x = numerator (reading_of a) ps in
        ap (λ m. x *ℤ pos m) (mul-one (unsigned_abs (ratio_of b).num) ∙ size)
        ∙ ap (λ z. z *ℤ pos d) (sym (ap (λ z. with_sign_of z 1 *ℤ x) is ∙ *ℤ_comm (pos 1) x ∙ *ℤ-one x))

-- Elements.

-- a key behind another one
weighs_behind : (r : Ratio) (bases others : List BasisId) (key more : List (List ℕ)) → WeighsAsTensor (term_value bases r key).combination (term_value others (over 1 1) more).combination (term_value (bases ++ others) r (key ++ more)).combination
unfolding one
weighs_behind r bases others key more weight =
    let w = weight (key ++ more) in
    let left : (r.num *ℤ w) +ℤ pos 0 ≡ r.num *ℤ w = omega (arith, ints) in
    let inner : (pos 1 *ℤ w) +ℤ pos 0 ≡ w = omega (arith, ints, *ℤ_comm (pos 1) w, *ℤ-one w) in
    let right : (r.num *ℤ ((pos 1 *ℤ w) +ℤ pos 0)) +ℤ pos 0 ≡ r.num *ℤ w = omega (arith, ints, ap (λ z. r.num *ℤ z) inner) in
    ap (λ z. z *ℤ (pos r.den *ℤ pos 1)) left ∙ ap (λ z. (r.num *ℤ w) *ℤ z) (*ℤ-one (pos r.den)) ∙ ap (λ z. z *ℤ pos r.den) (sym right)

room_of_element : (bases : List BasisId) (r : Ratio) (key : List (List ℕ)) (basis : BasisId) (code : List ℕ) → IsFraction r → All Passes (product_room 0 (term_value bases r key) (element_value basis code))
room_of_element bases r key basis code is =
    let dens : r.den * 1 * 2 ^ 0 < 2 ^ 127 = omega (arith, is.den_small) in
    let unit : norm_of ((pos 1, code ∷ []) ∷ []) ≡ 1 = one_term (pos 1) (code ∷ []) in
    let norms : norm_of ((r.num, key) ∷ []) * norm_of ((pos 1, code ∷ []) ∷ []) * 2 ^ 0 < 2 ^ 127 =
    subst (λ m. norm_of ((r.num, key) ∷ []) * m * 2 ^ 0 < 2 ^ 127) (sym unit) (omega (arith, one_term r.num key, is.num_small)) in
    let size_room = Room (Product (norm_of ((r.num, key) ∷ [])) (norm_of ((pos 1, code ∷ []) ∷ [])) 0) in
    All-cons Passes (Room (Denominator r.den 1)) (size_room ∷ []) dens (All-cons Passes size_room [] norms (All-nil Passes))

-- the product of a number and an element
pub times_row : (basis : BasisId) (code : List ℕ) (r : Ratio) → IsTerm (basis ∷ []) r (code ∷ []) → ProductRow (term_value [] r []) (element_value basis code) (Ok (term_value (basis ∷ []) r (code ∷ [])))
times_row basis code r is = inl (
  room_of_element [] r [] basis code is.fraction,
  (
    term_value (basis ∷ []) r (code ∷ []),
    record {
      value = value_of_term (basis ∷ []) r (code ∷ []) is;
      over = refl;
      reads = tensor_reads (term_value [] r []) (element_value basis code) (term_value (basis ∷ []) r (code ∷ [])).combination
          (value_of_term [] r [] (scalar_is_term r is.fraction is.nonzero)) (weighs_behind r [] (basis ∷ []) [] (code ∷ []));
    },
    refl,
  ),
)

-- the tensor product of a term and an element
pub hash_row : (bases : List BasisId) (r : Ratio) (key : List (List ℕ)) (basis : BasisId) (code : List ℕ) → IsTerm bases r key → IsTerm (bases ++ basis ∷ []) r (key ++ code ∷ [])
    → TensorRow (term_value bases r key) (element_value basis code) (Ok (term_value (bases ++ basis ∷ []) r (key ++ code ∷ [])))
hash_row bases r key basis code front is = inl (
  passes,
  (
    term_value (bases ++ basis ∷ []) r (key ++ code ∷ []),
    record {
      value = value_of_term (bases ++ basis ∷ []) r (key ++ code ∷ []) is;
      over = refl;
      reads = tensor_reads (term_value bases r key) (element_value basis code) (term_value (bases ++ basis ∷ []) r (key ++ code ∷ [])).combination
          (value_of_term bases r key front) (weighs_behind r bases (basis ∷ []) key (code ∷ []));
    },
    refl,
  ),
)
  where
    passes : All Passes (tensor_checks (term_value bases r key) (element_value basis code))
    passes =
        let rank : length bases + 1 ≤ 3 = omega (arith, is.short, length-append bases (basis ∷ [])) in
        let degree : degree_of_value (term_value bases r key) + degree_of_value (element_value basis code) ≤ least_limit (bases ++ basis ∷ []) =
        omega (arith, is.degree, total_degree-append bases (basis ∷ []) key (code ∷ []) front.indices) in
        let within = DegreeWithin (degree_of_value (term_value bases r key) + degree_of_value (element_value basis code)) (least_limit (bases ++ basis ∷ [])) in
        let room : List Check = product_room 0 (term_value bases r key) (element_value basis code) in
        All-cons Passes (RankWithin (length bases + 1)) (within ∷ room) rank
        (All-cons Passes within room degree (room_of_element bases r key basis code front.fraction))

-- The other sign.

opposite : (m d : ℕ) → (neg_ℤ (pos m) +ℤ pos 0) *ℤ pos (1 * d) ≡ neg_ℤ (pos (1 * (m + 0))) *ℤ pos d
opposite m d =
    let left : neg_ℤ (pos m) +ℤ pos 0 ≡ neg_ℤ (pos m) = omega (arith, ints) in
    let den : 1 * d ≡ d = omega arith in
    let num : 1 * (m + 0) ≡ m = omega arith in
    ap (λ z. z *ℤ pos (1 * d)) left ∙ ap (λ k. neg_ℤ (pos m) *ℤ pos k) den ∙ ap (λ k. neg_ℤ (pos k) *ℤ pos d) (sym num)

-- the negation of a positive term
pub negation_row : (bases : List BasisId) (n d : ℕ) (key : List (List ℕ)) → IsTerm bases (record { num = negsuc n; den = d }) key
    → NegationRow (term_value bases (over (suc n) d) key) (Ok (term_value bases (record { num = negsuc n; den = d }) key))
negation_row bases n d key is = (
  term_value bases (record { num = negsuc n; den = d }) key,
  record {
    value = value_of_term bases (record { num = negsuc n; den = d }) key is;
    over = refl;
    reads = λ ps points. opposite (suc n * occurrence bases key ps) d;
  },
  refl,
)
