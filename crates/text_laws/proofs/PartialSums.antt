-- The first terms of a value over its denominator, in lowest terms.
use Rattle.std.proofs.Common.{◌≡◌, ℕ, ◌+◌, ◌*◌, ◌/◌, ◌^◌, ◌<◌, ◌≤◌, List, [], ◌∷◌, ◌++◌, length, length-append, refl, sym, ◌∙◌, ap, subst, arith, unsigned_abs, append_assoc, append-nil}
use Rattle.std.proofs.Math.IntN.{ℤ, pos, ◌+ℤ◌, ◌*ℤ◌}
use Rattle.std.proofs.Math.Nat.{mul-div_cancel', mul_comm, mul_assoc, mul-one, dvd-mul_left, div-add-mod', le_of_mul-le-mul_right}
use Rattle.std.specs.Int.{◌∣◌}
use Rattle.std.proofs.lemmas.Int.{ints, unsigned_abs-mul}
use Rattle.std.proofs.lemmas.Nat.Gcd.{dvd_refl}
use Rattle.std.proofs.lemmas.List.{get_or_append_left}
use Rattle.std.proofs.lemmas.List.Sums.{sum_by-append}
use Rattle.hopf_num.specs.Fractions.{Ratio}
use Rattle.hopf_num.proofs.CommonDivisors.{IsGcd-turned, dvd-times_coprime, gcd-exists}
use Rattle.basis_names.specs.declared.bases.BasisId.{BasisId}
use Rattle.realisations.specs.Combinations.{Combination, AreTerms, HasKey, key_cmp, norm_of, term_at}
use Rattle.realisations.specs.Indices.{AreIndices, total_degree}
use Rattle.realisations.specs.Readings.{Terms, leaf, occurrence, AgreeAt}
use Rattle.realisations.proofs.Agreement.{times_turned}
use Rattle.linear_combos.specs.Merges.{IsCommon, IsUnreduced, quotients}
use Rattle.linear_combos.proofs.LowestCombos.{IsCanonical-quotients, IsCommon-push, IsOver-quotients, common-positive}
use Rattle.hopf_laws.specs.Bases.{AreBuilt, least_limit}
use Rattle.hopf_laws.specs.Values.{Expansion, IsValue, Expands}
use Rattle.hopf_laws.proofs.Uniqueness.{expands_once}
use Rattle.value_texts.specs.Text.{IsCoefficient}
use Rattle.text_laws.proofs.TermValues.{term_value, IsTerm, value_of_term}

-- a combination over bases
abbrev pub over_bases : List BasisId → Combination → Expansion
over_bases bases c = record { bases = bases; combination = c }

-- terms over bases and a denominator that make a value in lowest terms
pub record AreOver (bases : List BasisId) (den : ℕ) (ts : Terms) : Type 0 where
  pub short : length bases ≤ 3
  pub built : AreBuilt bases
  pub positive : 1 ≤ den
  pub small : den < 2 ^ 127
  pub terms : AreTerms (length bases) ts
  pub indices : (key : List (List ℕ)) → HasKey ts key → AreIndices bases key
  pub degrees : (key : List (List ℕ)) → HasKey ts key → total_degree bases key ≤ least_limit bases

-- this value: a common divisor was taken out
pub record IsPart (bases : List BasisId) (den : ℕ) (ts : Terms) (c : Combination) : Type 0 where
  pub value : IsValue (over_bases bases c)
  pub common : ℕ
  pub den_is : c.den * common ≡ den
  pub norm_within : norm_of c.terms * common ≤ norm_of ts
  pub reads : (ps : List (List ℕ)) → AgreeAt (leaf bases c.den c.terms) (leaf bases den ts) ps

-- The first terms.

key_front : (ts us : Terms) (key : List (List ℕ)) → HasKey ts key → HasKey (ts ++ us) key
key_front ts us key (i, lt, is) = (i, omega (arith, lt, length-append ts us), ap (λ (t : ℤ × List (List ℕ)). t.1) (get_or_append_left ts us (pos 0, []) i lt) ∙ is)

pub norm-append : (ts us : Terms) → norm_of (ts ++ us) ≡ norm_of ts + norm_of us
norm-append ts us = sum_by-append (λ (t : ℤ × List (List ℕ)). unsigned_abs t.0) ts us

terms_front : (rank : ℕ) (ts us : Terms) → AreTerms rank (ts ++ us) → AreTerms rank ts
terms_front rank ts us are = record {
  rising = λ i j less lt.
      ap (λ k. key_cmp k ((term_at ts j).1)) (sym (key i (omega (arith, less, lt)))) ∙ ap (key_cmp ((term_at (ts ++ us) i).1)) (sym (key j lt)) ∙ are.rising i j less (omega (arith, lt, length-append ts us));
  nonzero = λ i lt e. are.nonzero i (omega (arith, lt, length-append ts us)) (ap (λ (t : ℤ × List (List ℕ)). t.0) (get_or_append_left ts us (pos 0, []) i lt) ∙ e);
  ranks = λ i lt. ap length (sym (key i lt)) ∙ are.ranks i (omega (arith, lt, length-append ts us));
  small = omega (arith, are.small, norm-append ts us);
}
  where
    key : (i : ℕ) → i < length ts → (term_at (ts ++ us) i).1 ≡ (term_at ts i).1
    key i lt = ap (λ (t : ℤ × List (List ℕ)). t.1) (get_or_append_left ts us (pos 0, []) i lt)

pub over_front : (bases : List BasisId) (den : ℕ) (ts us : Terms) → AreOver bases den (ts ++ us) → AreOver bases den ts
over_front bases den ts us are = record {
  short = are.short;
  built = are.built;
  positive = are.positive;
  small = are.small;
  terms = terms_front (length bases) ts us are.terms;
  indices = λ key has. are.indices key (key_front ts us key has);
  degrees = λ key has. are.degrees key (key_front ts us key has);
}

-- Terms have their value.

-- a denominator and numerators have a greatest common divisor
common_from : (den : ℕ) (ts us : Terms) (g : ℕ) → IsCommon den ts g → (h : ℕ) × IsCommon den (ts ++ us) h
common_from den ts [] g is = (g, subst (λ ws. IsCommon den ws g) (sym (append-nil ts)) is)
common_from den ts ((num, key) ∷ us) g is =
    let (h, both) = gcd-exists (unsigned_abs num) g in
    let (k, all) = common_from den (ts ++ (num, key) ∷ []) us h (IsCommon-push den ts num key g h is both) in
    (k, subst (λ ws. IsCommon den ws k) (append_assoc ts ((num, key) ∷ []) us) all)

common_of_none : (den : ℕ) → IsCommon den [] den
common_of_none den = record { divides_den = dvd_refl den; divides = λ i lt. absurd (omega (arith, lt)); greatest = λ d p each. p }

pub part_exists : (bases : List BasisId) (den : ℕ) (ts : Terms) → AreOver bases den ts → (c : Combination) × IsPart bases den ts c
part_exists bases den ts are =
    let found = common_from den [] ts den (common_of_none den) in
    let g : ℕ = found.0 in
    let is : IsUnreduced (length bases) den ts (norm_of ts) g = record { ordered = are.terms; positive = are.positive; small = are.small; norm_is = refl; common_is = found.1 } in
    let canonical = IsCanonical-quotients (length bases) den ts (norm_of ts) g is in
    let over = IsOver-quotients (length bases) den ts (norm_of ts) g is in
    let some : 1 ≤ g = common-positive (length bases) den ts (norm_of ts) g is in
    let whole : g * (den / g) ≡ den = mul-div_cancel' g found.1.divides_den in
    let below : norm_of ts / g * g ≤ norm_of ts = div-mul-le (norm_of ts) g in (
      record { rank = length bases; den = den / g; terms = quotients g ts },
      record {
        value = record {
          short = are.short;
          built = are.built;
          rank = refl;
          canonical = canonical.0;
          indices = λ key has. are.indices key (over.keys key has);
          degrees = λ key has. are.degrees key (over.keys key has);
        };
        common = g;
        den_is = mul_comm (den / g) g ∙ whole;
        norm_within = subst (λ n. n * g ≤ norm_of ts) canonical.1 below;
        reads = λ ps. over.weighs (λ key. pos (occurrence bases key ps));
      },
    )
  where
    div-mul-le : (n d : ℕ) → n / d * d ≤ n
    div-mul-le n d = omega (arith, div-add-mod' n d)

-- A coefficient times the factor that was taken out.

pub record HasFactor (n d m den : ℕ) : Type 0 where
  pub factor : ℕ
  pub den_is : d * factor ≡ den
  pub num_is : n * factor ≡ m

pub coefficient_factor : (num : ℤ) (den : ℕ) (r : Ratio) → IsCoefficient num den r → HasFactor (unsigned_abs r.num) r.den (unsigned_abs num) den
coefficient_factor num den r is =
    let n : ℕ = unsigned_abs r.num in
    let m : ℕ = unsigned_abs num in
    let sizes : n * den ≡ m * r.den = sym (unsigned_abs-mul r.num (pos den)) ∙ ap unsigned_abs is.value ∙ unsigned_abs-mul num (pos r.den) in
    let divides : r.den ∣ den = dvd-times_coprime r.den n den (IsGcd-turned n r.den 1 is.lowest.lowest) (subst (λ k. r.den ∣ k) (sym sizes) (dvd-mul_left r.den m)) in
    let whole : r.den * (den / r.den) ≡ den = mul-div_cancel' r.den divides in
    record { factor = den / r.den; den_is = whole; num_is = times_cancel (n * (den / r.den)) m r.den is.lowest.positive (regroup n (den / r.den) r.den ∙ ap (λ k. n * k) whole ∙ sizes) }
  where
    regroup : (a b c : ℕ) → a * b * c ≡ a * (c * b)
    regroup a b c = mul_assoc a b c ∙ ap (λ k. a * k) (mul_comm b c)

    times_cancel : (a b c : ℕ) → 1 ≤ c → a * c ≡ b * c → a ≡ b
    times_cancel a b c some same =
        let below : a ≤ b = le_of_mul-le-mul_right {m = a} {n = b} {k = c} (omega (arith, same)) some in
        let above : b ≤ a = le_of_mul-le-mul_right {m = b} {n = a} {k = c} (omega (arith, same)) some in
        omega arith

-- a term over the denominator of its value is its coefficient's
term_agrees : (num : ℤ) (den : ℕ) (r : Ratio) (o : ℤ) → r.num *ℤ pos den ≡ num *ℤ pos r.den → ((r.num *ℤ o) +ℤ pos 0) *ℤ pos den ≡ ((num *ℤ o) +ℤ pos 0) *ℤ pos r.den
term_agrees num den r o same =
    let left : (r.num *ℤ o) +ℤ pos 0 ≡ r.num *ℤ o = omega (arith, ints) in
    let right : (num *ℤ o) +ℤ pos 0 ≡ num *ℤ o = omega (arith, ints) in
    ap (λ z. z *ℤ pos den) left ∙ times_turned r.num o (pos den) ∙ ap (λ z. z *ℤ o) same ∙ times_turned num (pos r.den) o ∙ ap (λ z. z *ℤ pos r.den) (sym right)

pub part_of_term : (bases : List BasisId) (den : ℕ) (num : ℤ) (key : List (List ℕ)) (r : Ratio) → IsCoefficient num den r → IsTerm bases r key → IsPart bases den ((num, key) ∷ []) (term_value bases r key).combination
part_of_term bases den num key r is term =
    let f = coefficient_factor num den r is in
    let left : norm_of ((r.num, key) ∷ []) ≡ unsigned_abs r.num = omega arith in
    let right : norm_of ((num, key) ∷ []) ≡ unsigned_abs num = omega arith in
    record {
      value = value_of_term bases r key term;
      common = f.factor;
      den_is = f.den_is;
      norm_within = omega (arith, ap (λ n. n * f.factor) left, f.num_is, right);
      reads = λ ps. term_agrees num den r (pos (occurrence bases key ps)) is.value;
    }

-- Terms have one value.

part_expands : (bases : List BasisId) (den : ℕ) (ts : Terms) (c : Combination) → IsPart bases den ts c → Expands bases (leaf bases den ts) (over_bases bases c)
part_expands bases den ts c is = record { value = is.value; over = refl; reads = λ ps points. is.reads ps }

pub part_once : (bases : List BasisId) (den : ℕ) (ts : Terms) (c d : Combination) → 1 ≤ den → IsPart bases den ts c → IsPart bases den ts d → c ≡ d
part_once bases den ts c d positive is is' = ap (λ (v : Expansion). v.combination) (expands_once bases (leaf bases den ts) (over_bases bases c) (over_bases bases d) positive (part_expands bases den ts c is) (part_expands bases den ts d is'))

-- all terms of a value are those of the value
pub part_of_value : (bases : List BasisId) (c : Combination) → IsValue (over_bases bases c) → IsPart bases c.den c.terms c
part_of_value bases c is = record { value = is; common = 1; den_is = mul-one c.den; norm_within = omega arith; reads = λ ps. refl }
