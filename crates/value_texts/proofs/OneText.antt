-- Each value has one text.
use Rattle.std.proofs.Common.{◌≡◌, ℕ, ◌/◌, ◌^◌, ◌<◌, ◌≤◌, ℤ, pos, ◌*ℤ◌, int_div, unsigned_abs, List, [], ◌∷◌, ◌++◌, length, inl, inr, refl, sym, ◌∙◌, ap, subst, arith}
use Rattle.std.specs.Prelude.{codes}
use Rattle.std.proofs.Math.IntN.{*ℤ_comm}
use Rattle.std.proofs.lemmas.List.Sums.{sum_by-cons}
use Rattle.hopf_num.specs.Fractions.{Ratio, fraction_text}
use Rattle.hopf_num.proofs.CommonDivisors.{gcd-exists}
use Rattle.hopf_num.proofs.LowestTerms.{IsFraction-quotients, ratio-quotients, fraction-unique}
use Rattle.hopf_num.proofs.Ring.{*ℤ_assoc, *ℤ-pos_cancel}
use Rattle.realisations.specs.Combinations.{AreTerms, norm_of}
use Rattle.realisations.specs.Readings.{Terms}
use Rattle.basis_names.specs.declared.bases.BasisId.{BasisId}
use Rattle.hopf_laws.specs.Values.{Expansion, IsValue}
use Rattle.hopf_laws.proofs.Scalars.{scalar_terms, norm-scalar}
use Rattle.value_texts.specs.Text.{term_text, first_sign, later_sign, IsCoefficient, AreLaterTerms, AreTermsIn, IsTextOf, zero_text, none, one_more, scalar_text, terms_text}

-- the last two factors change places
turned : (a b c : ℤ) → (a *ℤ b) *ℤ c ≡ (a *ℤ c) *ℤ b
turned a b c = sym (*ℤ_assoc a b c) ∙ ap (λ z. a *ℤ z) (*ℤ_comm b c) ∙ *ℤ_assoc a c b

-- a numerator over a denominator has one coefficient
pub coefficient_once : (num : ℤ) (den : ℕ) (r q : Ratio) → 1 ≤ den → IsCoefficient num den r → IsCoefficient num den q → r ≡ q
coefficient_once num den r q positive is is' =
    let scaled : (r.num *ℤ pos q.den) *ℤ pos den ≡ (q.num *ℤ pos r.den) *ℤ pos den =
    turned r.num (pos q.den) (pos den) ∙ ap (λ z. z *ℤ pos q.den) is.value ∙ turned num (pos r.den) (pos q.den)
    ∙ ap (λ z. z *ℤ pos r.den) (sym is'.value) ∙ turned q.num (pos den) (pos r.den) in
    fraction-unique r q is.lowest is'.lowest (*ℤ-pos_cancel (r.num *ℤ pos q.den) (q.num *ℤ pos r.den) den positive scaled)

pub coefficient_exists : (num : ℤ) (den : ℕ) → unsigned_abs num < 2 ^ 127 → 1 ≤ den → den < 2 ^ 127 → (r : Ratio) × IsCoefficient num den r
coefficient_exists num den small positive den_small =
    let (g, is) = gcd-exists (unsigned_abs num) den in (
      record { num = int_div num (pos g); den = den / g },
      record { lowest = IsFraction-quotients num den g small positive den_small is; value = ratio-quotients num den g is },
    )

-- the terms behind the first have one text
later_once : (bases : List BasisId) (den : ℕ) (ts : Terms) (a b : List ℕ) → 1 ≤ den → AreLaterTerms bases den ts a → AreLaterTerms bases den ts b → a ≡ b
later_once bases den ts a b positive none none = refl
later_once bases den ts a b positive (one_more {num = num} {key = key} {ts = us} {r = r} {text = text} is rest) (one_more {r = q} {text = other} is' rest') =
    let first : r ≡ q = coefficient_once num den r q positive is is' in
    let later : text ≡ other = later_once bases den us text other positive rest rest' in
    λ i. later_sign (first i).num ++ term_text bases (first i) key ++ later i

terms_once : (den : ℕ) (bases : List BasisId) (ts : Terms) (a b : List ℕ) → 1 ≤ den → AreTermsIn den bases ts a → AreTermsIn den bases ts b → a ≡ b
terms_once den bases ts a b positive zero_text zero_text = refl
terms_once den bases ts a b positive (scalar_text {num = num} {r = r} is) (scalar_text {r = q} is') =
    ap fraction_text (coefficient_once num den r q positive is is')
terms_once den bases ts a b positive (terms_text {basis = basis} {bases = more} {num = num} {key = key} {ts = us} {r = r} {text = text} is rest) (terms_text {r = q} {text = other} is' rest') =
    let first : r ≡ q = coefficient_once num den r q positive is is' in
    let later : text ≡ other = later_once (basis ∷ more) den us text other positive rest rest' in
    λ i. first_sign (first i).num ++ term_text (basis ∷ more) (first i) key ++ later i

pub text_once : (v : Expansion) (a b : List ℕ) → 1 ≤ v.combination.den → IsTextOf v a → IsTextOf v b → a ≡ b
text_once v a b positive is is' = terms_once v.combination.den v.bases v.combination.terms a b positive is is'

-- terms whose norm has room have a text
later_exists : (bases : List BasisId) (den : ℕ) (ts : Terms) → 1 ≤ den → den < 2 ^ 127 → norm_of ts < 2 ^ 127 → (text : List ℕ) × AreLaterTerms bases den ts text
later_exists bases den [] positive den_small small = ([], none)
later_exists bases den ((num, key) ∷ ts) positive den_small small =
    let split = sum_by-cons (λ (t : ℤ × List (List ℕ)). unsigned_abs t.0) (num, key) ts in
    let (r, is) = coefficient_exists num den (omega (arith, small, split)) positive den_small in
    let (text, rest) = later_exists bases den ts positive den_small (omega (arith, small, split)) in
    (later_sign r.num ++ term_text bases r key ++ text, one_more is rest)

terms_exist : (bases : List BasisId) (den : ℕ) (ts : Terms) → 1 ≤ den → den < 2 ^ 127 → AreTerms (length bases) ts → (text : List ℕ) × AreTermsIn den bases ts text
terms_exist bases den [] positive den_small are = (codes "0", zero_text)
terms_exist [] den (t ∷ ts) positive den_small are =
    let (r, is) = coefficient_exists t.0 den (omega (arith, are.small, norm-scalar (t ∷ ts) are)) positive den_small in
    elim (scalar_terms (t ∷ ts) are) [
      | inl empty ↦ absurd (omega (arith, ap length empty))
      | inr one ↦ (fraction_text r, subst (λ us. AreTermsIn den [] us (fraction_text r)) (sym one) (scalar_text is))
    ]
terms_exist (basis ∷ bases) den ((num, key) ∷ ts) positive den_small are =
    let split = sum_by-cons (λ (t : ℤ × List (List ℕ)). unsigned_abs t.0) (num, key) ts in
    let (r, is) = coefficient_exists num den (omega (arith, are.small, split)) positive den_small in
    let (text, rest) = later_exists (basis ∷ bases) den ts positive den_small (omega (arith, are.small, split)) in
    (first_sign r.num ++ term_text (basis ∷ bases) r key ++ text, terms_text is rest)

pub text_exists : (v : Expansion) → IsValue v → (text : List ℕ) × IsTextOf v text
text_exists v is =
    terms_exist v.bases v.combination.den v.combination.terms is.canonical.lowest.positive is.canonical.lowest.small
    (subst (λ n. AreTerms n v.combination.terms) is.rank is.canonical.ordered)
