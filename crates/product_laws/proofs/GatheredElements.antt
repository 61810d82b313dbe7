-- The sum of the elements of a product rule is its answer, and there is one.
use Rattle.std.proofs.Common.{◌≡◌, ℕ, zero, suc, ◌+◌, ◌*◌, ◌^◌, ◌<◌, ◌≤◌, List, [], ◌∷◌, map, length, inl, inr, refl, subst, arith, sym, unsigned_abs}
use Rattle.std.proofs.Math.IntN.{ℤ, pos}
use Rattle.std.proofs.Math.Nat.{pow-le-pow_right}
use Rattle.std.proofs.lemmas.Int.{ints}
use Rattle.std.proofs.lemmas.List.Elements.{All-map}
use Rattle.std.proofs.lemmas.List.Sums.{sum_by-cons}
use Rattle.realisations.specs.Combinations.{AreTerms, IsLowest, Combination, HasKey, norm_of, term_at, weighed}
use Rattle.realisations.specs.Indices.{degree_of}
use Rattle.realisations.specs.Lists.{int_sum}
use Rattle.linear_combos.proofs.Edits.{lowest_one}
use Rattle.linear_combos.proofs.Gathering.{gathered}
use Rattle.product_laws.specs.AddedElements.{AddsElements, IsCodeOf}
use Rattle.product_laws.specs.Laws.{GatheringLaw, SumLaw}
use Rattle.product_laws.specs.Products.{terms_of_codes}
use Rattle.product_laws.proofs.AddedElements.{answers}

norm_of-codes : (codes : List (List ℕ)) → norm_of (terms_of_codes codes) ≡ length codes
norm_of-codes [] = refl
norm_of-codes (code ∷ codes) = omega (arith, sum_by-cons (λ (t : ℤ × List (List ℕ)). unsigned_abs t.0) (pos 1, code ∷ []) (terms_of_codes codes), norm_of-codes codes)

weighed-codes : (weight : List (List ℕ) → ℤ) (codes : List (List ℕ)) → weighed weight (terms_of_codes codes) ≡ int_sum (map (λ code. weight (code ∷ [])) codes)
weighed-codes weight [] = refl
weighed-codes weight (code ∷ codes) = omega (arith, ints, weighed-codes weight codes)

length-codes : (codes : List (List ℕ)) (i : ℕ) → i < length (terms_of_codes codes) → length ((term_at (terms_of_codes codes) i).1) ≡ 1
length-codes codes i lt = All-map (λ (t : ℤ × List (List ℕ)). length t.1 ≡ 1) (λ code. (pos 1, code ∷ [])) codes (λ k d le. refl) i (pos 0, []) lt

key_at : (codes : List (List ℕ)) (i : ℕ) → i < length (terms_of_codes codes) → IsCodeOf codes ((term_at (terms_of_codes codes) i).1)
key_at [] i lt = absurd (omega (arith, lt))
key_at (c ∷ codes) zero lt = inl refl
key_at (c ∷ codes) (suc i) lt = inr (key_at codes i (omega (arith, lt)))

keys-codes : (codes : List (List ℕ)) (key : List (List ℕ)) → HasKey (terms_of_codes codes) key → IsCodeOf codes key
keys-codes codes key has = subst (λ k. IsCodeOf codes k) has.2 (key_at codes has.0 has.1)

-- the sum of the elements of a product rule is its answer
pub sums_answer : SumLaw
sums_answer basis left right codes c rule is =
    let adds : AddsElements [] c.terms codes = record {
      weighs = λ weight. omega (arith, ints, is.gathers.weighs weight, weighed-codes weight codes);
      keys = λ key has. inr (keys-codes codes key (is.gathers.keys key has));
    } in
    let ordered : AreTerms c.rank c.terms = subst (λ rank. AreTerms rank c.terms) (sym is.rank_is) is.gathers.terms in
    let lowest : IsLowest c.den c.terms = subst (λ den. IsLowest den c.terms) (sym is.whole) (lowest_one c.terms) in
    answers basis left right codes c rule (record { ordered = ordered; lowest = lowest }) is.rank_is is.whole (omega (arith, norm_of-codes codes, is.gathers.norm)) adds

pub gathers : GatheringLaw
gathers basis left right codes rule small =
    let bound : 2 ^ (5 * (degree_of basis left + degree_of basis right)) ≤ 2 ^ 125 =
    pow-le-pow_right {n = 2} (omega arith) {i = 5 * (degree_of basis left + degree_of basis right)} {j = 125} (omega (arith, small)) in
    let g = gathered 1 (terms_of_codes codes) (length-codes codes) (omega (arith, norm_of-codes codes, rule.few, bound)) in
    let c : Combination = record { rank = 1; den = 1; terms = g.0 } in
    (c, sums_answer basis left right codes c rule (record { rank_is = refl; whole = refl; gathers = g.1 }))
