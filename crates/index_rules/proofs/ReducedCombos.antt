-- A combination over a number, in lowest terms: there is one, its denominator divides that number, and its norm is no larger.
use Rattle.std.proofs.Common.{◌≡◌, ℕ, zero, suc, ◌/◌, ◌^◌, ◌<◌, ◌≤◌, [], ◌∷◌, length, refl, sym, ◌∙◌, ap, subst, arith, unsigned_abs}
use Rattle.std.specs.Int.{◌∣◌}
use Rattle.std.proofs.Math.IntN.{ℤ, pos, ◌*ℤ◌, *ℤ-one, *ℤ_comm, one}
use Rattle.std.proofs.Math.Nat.{dvd-mul_left, mul-div_cancel'}
use Rattle.std.proofs.lemmas.Nat.Gcd.{dvd_trans, dvd_refl}
use Rattle.basis_representatives.proofs.SameCombinations.{scaled, weighed-scaled, same_by_coefficients}
use Rattle.hopf_num.proofs.CommonDivisors.{gcd-exists}
use Rattle.hopf_num.proofs.Ring.{*ℤ-pos_cancel}
use Rattle.linear_combos.specs.Combos.{IsMultiple}
use Rattle.linear_combos.specs.Merges.{IsCommon, IsUnreduced, IsOver, quotients}
use Rattle.linear_combos.proofs.LowestCombos.{IsCanonical-quotients, IsOver-quotients}
use Rattle.realisations.specs.Codes.{Key}
use Rattle.realisations.specs.Combinations.{Combination, key_cmp, AreTerms, IsCanonical, HasKey, norm_of, term_at, weighed}
use Rattle.realisations.specs.Readings.{Terms}
use Rattle.realisations.proofs.Agreement.{times_turned}
use Rattle.realisations.proofs.Coefficients.{coefficient, counts}

-- a denominator and numerators have a greatest common divisor
common-exists : (den : ℕ) (ts : Terms) → (g : ℕ) × IsCommon den ts g
common-exists den [] = (den, record { divides_den = dvd_refl den; divides = λ i lt. absurd (omega (arith, lt)); greatest = λ d p each. p })
common-exists den (t ∷ ts) =
    let (g, is) = common-exists den ts in
    let (h, both) = gcd-exists (unsigned_abs t.0) g in
    (h, common-more h g is both)
  where
    each : (h g : ℕ) → IsCommon den ts g → h ∣ unsigned_abs t.0 → h ∣ g → (i : ℕ) → i < length (t ∷ ts) → h ∣ unsigned_abs (term_at (t ∷ ts) i).0
    each h g is first rest zero lt = first
    each h g is first rest (suc i) lt = dvd_trans h rest (is.divides i (omega (arith, lt)))

    common-more : (h g : ℕ) → IsCommon den ts g → (h ∣ unsigned_abs t.0) × (h ∣ g) × ((d : ℕ) → d ∣ unsigned_abs t.0 → d ∣ g → d ∣ h) → IsCommon den (t ∷ ts) h
    common-more h g is both = record {
      divides_den = dvd_trans h both.1 is.divides_den;
      divides = each h g is both.0 both.1;
      greatest = λ d p all. both.2 d (all 0 (omega arith)) (is.greatest d p (λ i lt. all (suc i) (omega (arith, lt))));
    }

-- two fractions that are a third one are the same
turned : (x y w : ℤ) (n m d : ℕ) → 1 ≤ d → x *ℤ pos d ≡ w *ℤ pos n → y *ℤ pos d ≡ w *ℤ pos m → x *ℤ pos m ≡ y *ℤ pos n
turned x y w n m d some ex ey =
    *ℤ-pos_cancel (x *ℤ pos m) (y *ℤ pos n) d some
    (times_turned x (pos m) (pos d) ∙ ap (λ z. z *ℤ pos m) ex ∙ times_turned w (pos n) (pos m) ∙ ap (λ z. z *ℤ pos n) (sym ey) ∙ times_turned y (pos d) (pos n))

-- a canonical combination of terms over a number
pub record IsLowestOver (whole : Combination) (den : ℕ) (c : Combination) : Type 0 where
  pub canonical : IsCanonical c.rank c.den c.terms
  pub over : IsOver whole.rank den whole.terms c
  pub divides : c.den ∣ den

-- the quotients by the greatest common divisor are such a combination
pub lowest_exists : (whole : Combination) (den : ℕ) → 1 ≤ den → den < 2 ^ 127 → AreTerms whole.rank whole.terms → (c : Combination) × IsLowestOver whole den c
lowest_exists whole den some small ordered =
    let (g, common) = common-exists den whole.terms in
    let unreduced : IsUnreduced whole.rank den whole.terms (norm_of whole.terms) g = record { ordered = ordered; positive = some; small = small; norm_is = refl; common_is = common } in (
      record { rank = whole.rank; den = den / g; terms = quotients g whole.terms },
      record {
        canonical = (IsCanonical-quotients whole.rank den whole.terms (norm_of whole.terms) g unreduced).0;
        over = IsOver-quotients whole.rank den whole.terms (norm_of whole.terms) g unreduced;
        divides = subst (λ n. (den / g) ∣ n) (mul-div_cancel' g common.divides_den) (dvd-mul_left (den / g) g);
      },
    )

-- what is found over the number is no other than this
pub reduced : (whole new : Combination) (den : ℕ) → 1 ≤ den → den < 2 ^ 127 → AreTerms whole.rank whole.terms → whole.den ≡ 1 → IsCanonical new.rank new.den new.terms
    → IsMultiple whole (record { num = pos 1; den = den }) new → (new.den ∣ den) × (norm_of new.terms ≤ norm_of whole.terms)
unfolding one
reduced whole new den some small ordered is_whole canonical multiple =
    let (found, is) = lowest_exists whole den some small ordered in
    let same : new ≡ found =
    same_by_coefficients (λ key. HasKey whole.terms key) new found canonical is.canonical (multiple.rank ∙ sym is.over.rank) multiple.keys is.over.keys (λ key has. coefficients found is.over key) in
    (subst (λ (c : Combination). c.den ∣ den) (sym same) is.divides, omega (arith, is.over.norm_within, ap (λ (c : Combination). norm_of c.terms) same))
  where
    -- both weigh the same over their denominators
    coefficients : (found : Combination) → IsOver whole.rank den whole.terms found → (key : Key) → coefficient (scaled found.den new.terms) key ≡ coefficient (scaled new.den found.terms) key
    coefficients found is key =
        let w = λ (k : Key). pos (counts (key_cmp k key)) in
        weighed-scaled w found.den new.terms
        ∙ turned (weighed w new.terms) (weighed w found.terms) (weighed w whole.terms) new.den found.den den some
        (ap (λ z. weighed w new.terms *ℤ z) (sym (*ℤ-one (pos den)) ∙ *ℤ_comm (pos den) (pos 1) ∙ ap (λ n. pos n *ℤ pos den) (sym is_whole)) ∙ multiple.weighs w ∙ ap (λ z. z *ℤ pos new.den) (*ℤ-one (weighed w whole.terms)))
        (is.weighs w)
        ∙ sym (weighed-scaled w new.den found.terms)

-- canonical terms over 1 can be divided by a number
pub divided_exists : (whole : Combination) (den : ℕ) → 1 ≤ den → den < 2 ^ 127 → AreTerms whole.rank whole.terms → whole.den ≡ 1
    → (c : Combination) × IsCanonical c.rank c.den c.terms × IsMultiple whole (record { num = pos 1; den = den }) c
unfolding one
divided_exists whole den some small ordered is_whole =
    let (c, is) = lowest_exists whole den some small ordered in (
      c,
      is.canonical,
      record {
        rank = is.over.rank;
        weighs = λ w.
            ap (λ z. weighed w c.terms *ℤ z) (ap (λ n. pos n *ℤ pos den) is_whole ∙ *ℤ_comm (pos 1) (pos den) ∙ *ℤ-one (pos den))
            ∙ is.over.weighs w ∙ ap (λ z. z *ℤ pos c.den) (sym (*ℤ-one (weighed w whole.terms)));
        keys = is.over.keys;
      },
    )
