-- The combination of a multiple as a value.
use Rattle.std.proofs.Common.{◌≡◌, ℕ, ◌*◌, ◌^◌, ◌<◌, List, [], ◌∷◌, refl, sym, ◌∙◌, ap, arith}
use Rattle.std.proofs.Math.IntN.{ℤ, pos, negsuc, ◌*ℤ◌, pos-*ℤ-pos, *ℤ_comm}
use Rattle.std.proofs.Math.Nat.{mul_comm}
use Rattle.std.specs.Prelude.{All, unsigned_abs}
use Rattle.std.proofs.lemmas.List.Elements.{All-cons}
use Rattle.hopf_num.specs.Fractions.{Ratio, with_sign_of}
use Rattle.hopf_num.specs.Room.{HasRoom, product_rule}
use Rattle.hopf_num.specs.declared.room.Need.TheVariants.{Denominator, Product}
use Rattle.hopf_num.proofs.LowestTerms.{abs-neg}
use Rattle.realisations.specs.Combinations.{Combination, IsCanonical}
use Rattle.linear_combos.specs.Combos.{IsMultiple}
use Rattle.realisations.specs.Readings.{leaf, multiple, occurrence, numerator, AgreeAt}
use Rattle.hopf_laws.specs.Values.{Expansion, IsValue, reading_of}
use Rattle.hopf_ops.specs.Answers.{IsOver}

-- the multiple is over the same bases
pub multiple_over : (a : Expansion) (by : Ratio) (c : Combination) → IsValue a → IsMultiple a.combination by c → IsOver a.bases c
multiple_over a by c ha is = record {
  short = ha.short;
  built = ha.built;
  rank = is.rank ∙ ha.rank;
  indices = λ key has. ha.indices key (is.keys key has);
  degrees = λ key has. ha.degrees key (is.keys key has);
}

-- so it is a value
pub multiple_value : (a : Expansion) (by : Ratio) (c : Combination) → IsValue a → IsMultiple a.combination by c → IsCanonical c.rank c.den c.terms → IsValue (record { bases = a.bases; combination = c })
multiple_value a by c ha is canonical =
    let over = multiple_over a by c ha is in
    record { short = over.short; built = over.built; rank = over.rank; canonical = canonical; indices = over.indices; degrees = over.degrees }

-- and reads as the multiple
pub multiple_reads : (a : Expansion) (by : Ratio) (c : Combination) → IsMultiple a.combination by c
    → (ps : List (List ℕ)) → AgreeAt (leaf a.bases c.den c.terms) (multiple by.num by.den (reading_of a)) ps
multiple_reads a by c is ps =
    let value = numerator (leaf a.bases c.den c.terms) ps in
    let den : pos (by.den * a.combination.den) ≡ pos a.combination.den *ℤ pos by.den = ap pos (mul_comm by.den a.combination.den) ∙ sym (pos-*ℤ-pos a.combination.den by.den) in
    ap (λ z. value *ℤ z) den
    ∙ is.weighs (λ key. pos (occurrence a.bases key ps))
    ∙ ap (λ z. z *ℤ pos c.den) (*ℤ_comm (numerator (reading_of a) ps) by.num)

-- the absolute value of a number with some sign
pub abs-with_sign_of : (z : ℤ) (n : ℕ) → unsigned_abs (with_sign_of z n) ≡ n
abs-with_sign_of (pos m) n = refl
abs-with_sign_of (negsuc m) n = abs-neg n

-- a product with -1 has room
pub room_of_sign : (den norm : ℕ) → den < 2 ^ 127 → norm < 2 ^ 127 → All HasRoom (product_rule den 1 norm 1 0)
room_of_sign den norm small norm_small =
    All-cons HasRoom (Denominator den 1) (Product norm 1 0 ∷ []) (omega arith) (All-cons HasRoom (Product norm 1 0) [] (omega arith) (λ k d lt. absurd (omega arith)))
