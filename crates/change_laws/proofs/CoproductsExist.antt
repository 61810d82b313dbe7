-- A coproduct rule has an answer: the combination that gathers its pairs.
use Rattle.std.proofs.Common.{◌≡◌, ℕ, zero, suc, ◌<◌, ◌≤◌, List, [], ◌∷◌, map, length, refl, sym, ◌∙◌, arith, inl, inr, unsigned_abs}
use Rattle.std.proofs.Math.IntN.{ℤ, pos, ◌+ℤ◌}
use Rattle.std.proofs.lemmas.Int.{ints}
use Rattle.std.proofs.lemmas.List.Elements.{All-map}
use Rattle.std.proofs.lemmas.List.Sums.{sum_by-cons}
use Rattle.realisations.specs.Codes.{Code, Key}
use Rattle.realisations.specs.Combinations.{Combination, HasKey, term_at, norm_of, weighed}
use Rattle.realisations.specs.Lists.{int_sum}
use Rattle.coproduct_laws.specs.AddedPairs.{AddsPairs, IsPairOf}
use Rattle.coproduct_laws.specs.Coproducts.{terms_of_pairs}
use Rattle.coproduct_laws.proofs.AddedPairs.{answers}
use Rattle.linear_combos.proofs.Edits.{lowest_one}
use Rattle.linear_combos.proofs.Gathering.{gathered}
use Rattle.change_laws.specs.Laws.{CoproductExistenceLaw}

-- the norm is the number of pairs
norm_of-pairs : (pairs : List (Code × Code)) → norm_of (terms_of_pairs pairs) ≡ length pairs
norm_of-pairs [] = refl
norm_of-pairs (e ∷ pairs) = omega (arith, norm_of-pairs pairs, sum_by-cons (λ (t : ℤ × Key). unsigned_abs t.0) (pos 1, e.0 ∷ e.1 ∷ []) (terms_of_pairs pairs))

-- they weigh the sum of the weights
weighed-pairs : (weight : Key → ℤ) (pairs : List (Code × Code)) → weighed weight (terms_of_pairs pairs) ≡ int_sum (map (λ e. weight (e.0 ∷ e.1 ∷ [])) pairs)
weighed-pairs weight [] = refl
weighed-pairs weight (e ∷ pairs) = omega (arith, ints, weighed-pairs weight pairs)

-- the keys have two codes
ranks-pairs : (pairs : List (Code × Code)) (i : ℕ) → i < length (terms_of_pairs pairs) → length ((term_at (terms_of_pairs pairs) i).1) ≡ 2
ranks-pairs pairs i lt = All-map (λ (t : ℤ × Key). length t.1 ≡ 2) (λ e. (pos 1, e.0 ∷ e.1 ∷ [])) pairs (λ k d le. refl) i (pos 0, []) lt

-- each key is a pair
keys-pairs : (pairs : List (Code × Code)) (key : Key) → HasKey (terms_of_pairs pairs) key → IsPairOf pairs key
keys-pairs [] key (i, lt, is) = absurd (omega (arith, lt))
keys-pairs (e ∷ pairs) key (zero, lt, is) = inl (sym is)
keys-pairs (e ∷ pairs) key (suc i, lt, is) = inr (keys-pairs pairs key (i, omega (arith, lt), is))

pub coproducts_exist : CoproductExistenceLaw
coproducts_exist basis code pairs rule room =
    let (us, g) = gathered 2 (terms_of_pairs pairs) (ranks-pairs pairs) (omega (arith, norm_of-pairs pairs, room)) in
    let c : Combination = record { rank = 2; den = 1; terms = us } in
    let norm : norm_of us ≤ length pairs = omega (arith, g.norm, norm_of-pairs pairs) in
    let adds : AddsPairs [] us pairs =
    record { weighs = λ weight. g.weighs weight ∙ weighed-pairs weight pairs ∙ none (int_sum (map (λ e. weight (e.0 ∷ e.1 ∷ [])) pairs)); keys = λ key has. inr (keys-pairs pairs key (g.keys key has)) } in
    (c, answers basis code pairs c rule (record { ordered = g.terms; lowest = lowest_one us }) refl refl norm adds, norm)
  where
    none : (z : ℤ) → z ≡ pos 0 +ℤ z
    none z = omega (arith, ints)
