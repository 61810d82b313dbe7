-- The products of two neighbouring components read as the product of these components.
use Rattle.std.proofs.Common.{◌≡◌, ℕ, suc, ◌*◌, List, [], ◌∷◌, ◌++◌, length, take, drop, refl, sym, ◌∙◌, ap}
use Rattle.std.proofs.Math.IntN.{ℤ, pos, ◌*ℤ◌, *ℤ_comm, pos-*ℤ-pos}
use Rattle.basis_names.specs.declared.bases.BasisId.{BasisId}
use Rattle.change_laws.specs.Lifts.{code_at, replaced}
use Rattle.coproduct_rules.proofs.Components.{mult_at}
use Rattle.hopf_num.proofs.Ring.{*ℤ_assoc}
use Rattle.index_rules.specs.Laws.{ProductReadsLaw}
use Rattle.index_rules.specs.Lifts.{reads_as, two_codes}
use Rattle.realisations.specs.Codes.{Key}
use Rattle.realisations.specs.Combinations.{term_at}
use Rattle.realisations.specs.Indices.{AreIndices}
use Rattle.realisations.specs.Points.{Point, Points}
use Rattle.realisations.specs.Readings.{mult, applied, of_key, product, element, numerator, occurrence}
use Rattle.realisations.proofs.Coefficients.{each_from, weighed_same}
use Rattle.realisations.proofs.Linearity.{numerator-of_key, operates_linearly}

-- a key with two neighbours: what stands before them, both, and what stands after them; and the key without the second
record IsPairKey (before after : List BasisId) (basis : BasisId) (key : Key) : Type 0 where
  front : Key
  back : Key
  long : length front ≡ length before
  is : key ≡ front ++ code_at (length before) key ∷ code_at (suc (length before)) key ∷ back
  front_is : take (length before) (replaced (suc (length before)) [] key) ≡ front
  back_is : drop (suc (length before)) (replaced (suc (length before)) [] key) ≡ back
  shorter : AreIndices (before ++ basis ∷ after) (replaced (suc (length before)) [] key)

pair_key : (before after : List BasisId) (basis : BasisId) (key : Key) → AreIndices (before ++ basis ∷ basis ∷ after) key → IsPairKey before after basis key
pair_key [] after basis [] h = absurd h
pair_key [] after basis (a ∷ []) h = absurd h.1
pair_key [] after basis (a ∷ b ∷ key) h = record { front = []; back = key; long = refl; is = refl; front_is = refl; back_is = refl; shorter = (h.0, h.1.1) }
pair_key (first ∷ before) after basis [] h = absurd h
pair_key (first ∷ before) after basis (c ∷ key) h =
    let rest = pair_key before after basis key h.1 in
    record {
      front = c ∷ rest.front;
      back = rest.back;
      long = ap suc rest.long;
      is = ap (λ v. c ∷ v) rest.is;
      front_is = ap (λ v. c ∷ v) rest.front_is;
      back_is = rest.back_is;
      shorter = (h.0, rest.shorter);
    }

-- factors in another order
turned : (x y : ℕ) (z : ℤ) → (pos x *ℤ z) *ℤ pos y ≡ pos (x * y) *ℤ z
turned x y z = sym (*ℤ_assoc (pos x) z (pos y)) ∙ ap (λ w. pos x *ℤ w) (*ℤ_comm z (pos y)) ∙ *ℤ_assoc (pos x) (pos y) z ∙ ap (λ w. w *ℤ z) (pos-*ℤ-pos x y)

-- the product of two neighbours of one key
key_multiplied : (before after : List BasisId) (basis : BasisId) (growth : ℕ) (key : Key) (ps rs : Points) (q : Point) → length ps ≡ length before → AreIndices (before ++ basis ∷ basis ∷ after) key
    → reads_as (two_codes basis growth (length before)) before after ps (q ∷ []) rs key ≡ numerator (applied mult (length before) (of_key (before ++ basis ∷ basis ∷ after) key)) (ps ++ q ∷ rs)
key_multiplied before after basis growth key ps rs q ep h =
    let parts = pair_key before after basis key h in
    let k = length before in
    let z = numerator (product (element basis (code_at k key)) (element basis (code_at (suc k) key))) (q ∷ []) in
    let front = occurrence before parts.front ps in
    let back = occurrence after parts.back rs in
    (λ i. pos (occurrence before (parts.front_is i) ps * occurrence after (parts.back_is i) rs) *ℤ z)
    ∙ sym (turned front back z)
    ∙ (λ i. (sym (numerator-of_key before parts.front ps) i *ℤ z) *ℤ sym (numerator-of_key after parts.back rs) i)
    ∙ sym (mult_at before after basis parts.front parts.back (code_at k key) (code_at (suc k) key) ps rs q parts.long ep)
    ∙ ap (λ v. numerator (applied mult k (of_key (before ++ basis ∷ basis ∷ after) v)) (ps ++ q ∷ rs)) (sym parts.is)

-- and of all keys
pub products_read_as : ProductReadsLaw
products_read_as before after basis growth old new ps rs q ep point over is =
    is.reads before after ps (q ∷ []) rs refl ep (λ key has. (pair_key before after basis key (over key has)).shorter) (point, tt)
    ∙ ap (λ z. z *ℤ pos new.den)
    (weighed_same (reads_as (two_codes basis growth (length before)) before after ps (q ∷ []) rs) (λ key. numerator (applied mult (length before) (of_key (before ++ basis ∷ basis ∷ after) key)) (ps ++ q ∷ rs)) old.terms
    (each_from _ old.terms (λ i lt. key_multiplied before after basis growth ((term_at old.terms i).1) ps rs q ep (over ((term_at old.terms i).1) (i, lt, refl))))
    ∙ sym (operates_linearly mult (length before) (before ++ basis ∷ basis ∷ after) old.den old.terms (ps ++ q ∷ rs)))
