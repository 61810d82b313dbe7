-- The combination of a sum as a value.
use Rattle.std.proofs.Common.{◌≡◌, ℕ, ◌*◌, ◌≤◌, ◌⊎◌, inl, inr, List, sym, ◌∙◌, ap, subst, arith}
use Rattle.std.proofs.Math.IntN.{ℤ, pos, negsuc, ◌+ℤ◌, ◌*ℤ◌, pos-*ℤ-pos, *ℤ_comm, *ℤ-one, one}
use Rattle.hopf_num.proofs.Ring.{*ℤ-neg_ℤ}
use Rattle.realisations.specs.Combinations.{Combination, HasKey}
use Rattle.realisations.specs.Indices.{AreIndices, total_degree}
use Rattle.realisations.specs.Readings.{leaf, occurrence, numerator, AgreeAt}
use Rattle.basis_names.specs.declared.bases.BasisId.{BasisId}
use Rattle.hopf_laws.specs.Bases.{least_limit}
use Rattle.hopf_laws.specs.Values.{Expansion, IsValue, reading_of}
use Rattle.std.specs.Prelude.{Bool, true, false, neg_ℤ}
use Rattle.hopf_ops.specs.Answers.{IsOver, IsSumOrDifference}
use Rattle.hopf_ops.specs.ReadingOperations.{sum_or_difference}

-- keys of one of two values over the same bases
key_of_either : (a b : Expansion) → IsValue a → IsValue b → a.bases ≡ b.bases → (key : List (List ℕ)) → HasKey a.combination.terms key ⊎ HasKey b.combination.terms key
    → AreIndices a.bases key × (total_degree a.bases key ≤ least_limit a.bases)
key_of_either a b ha hb same key (inl has) = (ha.indices key has, ha.degrees key has)
key_of_either a b ha hb same key (inr has) = (
  subst (λ bases. AreIndices bases key) (sym same) (hb.indices key has),
  subst (λ bases. total_degree bases key ≤ least_limit bases) (sym same) (hb.degrees key has),
)

rank_of : (minus : Bool) (a b c : Combination) → IsSumOrDifference minus a b c → c.rank ≡ a.rank
rank_of true a b c is = is.rank
rank_of false a b c is = is.rank

keys_of : (minus : Bool) (a b c : Combination) → IsSumOrDifference minus a b c → (key : List (List ℕ)) → HasKey c.terms key → HasKey a.terms key ⊎ HasKey b.terms key
keys_of true a b c is = is.keys
keys_of false a b c is = is.keys

-- the sum or difference is over the same bases
pub sum_over : (minus : Bool) (a b : Expansion) (c : Combination) → IsValue a → IsValue b → a.bases ≡ b.bases
    → IsSumOrDifference minus a.combination b.combination c → IsOver a.bases c
sum_over minus a b c ha hb same is = record {
  short = ha.short;
  built = ha.built;
  rank = rank_of minus a.combination b.combination c is ∙ ha.rank;
  indices = λ key has. (key_of_either a b ha hb same key (keys_of minus a.combination b.combination c is key has)).0;
  degrees = λ key has. (key_of_either a b ha hb same key (keys_of minus a.combination b.combination c is key has)).1;
}

times-minus_one : (z : ℤ) → negsuc 0 *ℤ z ≡ neg_ℤ z
unfolding one
times-minus_one z = *ℤ_comm (negsuc 0) z ∙ *ℤ-neg_ℤ z (pos 1) ∙ ap neg_ℤ (*ℤ-one z)

-- over the same bases it reads as the sum or difference
reads_over : (minus : Bool) (bases : List BasisId) (a b c : Combination) → IsSumOrDifference minus a b c → (ps : List (List ℕ))
    → AgreeAt (leaf bases c.den c.terms) (sum_or_difference minus (reading_of (record { bases = bases; combination = a })) (reading_of (record { bases = bases; combination = b }))) ps
reads_over false bases a b c is ps =
    ap (λ z. numerator (leaf bases c.den c.terms) ps *ℤ z) (sym (pos-*ℤ-pos a.den b.den))
    ∙ is.weighs (λ key. pos (occurrence bases key ps))
reads_over true bases a b c is ps =
    let right = numerator (leaf bases b.den b.terms) ps in
    let den : pos (a.den * (1 * b.den)) ≡ pos a.den *ℤ pos b.den = ap (λ n. pos (a.den * n)) (one-mul b.den) ∙ sym (pos-*ℤ-pos a.den b.den) in
    let value : (numerator (leaf bases a.den a.terms) ps *ℤ pos b.den) +ℤ neg_ℤ (right *ℤ pos a.den)
    ≡ (numerator (leaf bases a.den a.terms) ps *ℤ pos (1 * b.den)) +ℤ ((negsuc 0 *ℤ right) *ℤ pos a.den) =
    (λ i. (numerator (leaf bases a.den a.terms) ps *ℤ pos (sym (one-mul b.den) i)) +ℤ negated right a.den i) in
    ap (λ z. numerator (leaf bases c.den c.terms) ps *ℤ z) den
    ∙ is.weighs (λ key. pos (occurrence bases key ps))
    ∙ ap (λ z. z *ℤ pos c.den) value
  where
    one-mul : (n : ℕ) → 1 * n ≡ n
    one-mul n = omega arith

    negated : (z : ℤ) (n : ℕ) → neg_ℤ (z *ℤ pos n) ≡ (negsuc 0 *ℤ z) *ℤ pos n
    negated z n =
        ap neg_ℤ (*ℤ_comm z (pos n)) ∙ sym (*ℤ-neg_ℤ (pos n) z) ∙ *ℤ_comm (pos n) (neg_ℤ z)
        ∙ ap (λ y. y *ℤ pos n) (sym (times-minus_one z))

-- so do two values over the same bases
pub sum_reads : (minus : Bool) (a b : Expansion) (c : Combination) → a.bases ≡ b.bases → IsSumOrDifference minus a.combination b.combination c
    → (ps : List (List ℕ)) → AgreeAt (leaf a.bases c.den c.terms) (sum_or_difference minus (reading_of a) (reading_of b)) ps
sum_reads minus a b c same is ps =
    subst (λ bases. AgreeAt (leaf a.bases c.den c.terms) (sum_or_difference minus (reading_of a) (reading_of (record { bases = bases; combination = b.combination }))) ps) same
    (reads_over minus a.bases a.combination b.combination c is ps)
