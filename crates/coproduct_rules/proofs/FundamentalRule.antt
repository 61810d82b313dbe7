-- The coproduct of a fundamental quasi-symmetric function (Gessel 1984).
use Rattle.std.proofs.Common.{◌≡◌, ℕ, zero, suc, ◌+◌, ◌*◌, ◌<◌, ◌≤◌, Bool, true, false, List, [], ◌∷◌, ◌++◌, length, refl, sym, ◌∙◌, ap, subst, arith, inl, inr, ◌⊎◌}
use Rattle.std.specs.Prelude.{nat_eq, ◌&&◌, replicate}
use Rattle.std.specs.List.{list_all, range_with_len, sum}
use Rattle.std.proofs.lemmas.Bool.{cases_lt, eq-eqb}
use Rattle.std.proofs.lemmas.Bool.Decides.{nat_tests}
use Rattle.std.proofs.lemmas.List.{length-append, length-map, append_assoc}
use Rattle.realisations.specs.Lists.{is_among, is_subset, one_if}
use Rattle.realisations.specs.Words.{raise}
use Rattle.realisations.specs.Exponents.{nondecreasing_from, nondecreasing_word}
use Rattle.realisations.specs.Descents.{ascents, descent_set, partial_sums}
use Rattle.realisations.specs.IndexKinds.{IsComposition}
use Rattle.realisations.specs.Indices.{IsIndex}
use Rattle.basis_names.specs.declared.bases.BasisId.TheVariants.{QsymF}
use Rattle.realisations.specs.Occurrence.{occurs}
use Rattle.realisations.proofs.Sums.{sums, sums-map, sums_same}
use Rattle.coproduct_laws.specs.Coproducts.{IsCoproduct}
use Rattle.coproduct_rules.specs.DegreeCuts.{front_of_degree, rest_past_degree, degree_cuts}
use Rattle.basis_representatives.proofs.SameLists.{one_if-and}
use Rattle.coproduct_laws.proofs.RangeSums.{sums_up_to_single}
use Rattle.coproduct_rules.proofs.LetterBlocks.{low_block, high_block}
use Rattle.coproduct_laws.proofs.LowAndHigh.{AreLow, AreHigh}
use Rattle.coproduct_laws.proofs.CoproductCounts.{coproduct_by_counts}
use Rattle.coproduct_rules.proofs.DegreeCuts.{sum-front, sum-rest, front-composition, rest-composition, partial_sums_same, partial_sums_shift, partial_sums_cut}
use Rattle.coproduct_rules.proofs.Rises.{ascents_within, ascents_between, ascents_later}
use Rattle.coproduct_rules.proofs.Raising.{ascents-raise}

-- the nondecreasing word of two lists of exponents

-- the words one after another, the second from the next letter on
nondecreasing-append : (i : ℕ) (u v : List ℕ) → nondecreasing_from i (u ++ v) ≡ nondecreasing_from i u ++ nondecreasing_from (i + length u) v
nondecreasing-append i [] v = ap (λ n. nondecreasing_from n v) (omega arith)
nondecreasing-append i (n ∷ u) v =
    let e : suc i + length u ≡ i + suc (length u) = omega arith in
    ap (λ w. replicate n i ++ w) (nondecreasing-append (suc i) u v ∙ ap (λ m. nondecreasing_from (suc i) u ++ nondecreasing_from m v) e)
    ∙ sym (append_assoc (replicate n i) (nondecreasing_from (suc i) u) (nondecreasing_from (i + suc (length u)) v))

-- a raised block of equal letters
raise-replicate : (k n i : ℕ) (w : List ℕ) → raise k (replicate n i ++ w) ≡ replicate n (k + i) ++ raise k w
raise-replicate k zero i w = refl
raise-replicate k (suc n) i w = ap (λ v. (k + i) ∷ v) (raise-replicate k n i w)

-- the word from a later letter on is the raised word
nondecreasing-raise : (k i : ℕ) (v : List ℕ) → nondecreasing_from (k + i) v ≡ raise k (nondecreasing_from i v)
nondecreasing-raise k i [] = refl
nondecreasing-raise k i (n ∷ v) =
    let e : suc (k + i) ≡ k + suc i = omega arith in
    ap (λ m. replicate n (k + i) ++ nondecreasing_from m v) e
    ∙ ap (λ w. replicate n (k + i) ++ w) (nondecreasing-raise k (suc i) v)
    ∙ sym (raise-replicate k n i (nondecreasing_from (suc i) v))

-- the letters of the word are low
low_nondecreasing : (g i : ℕ) (u : List ℕ) → i + length u ≤ suc g → AreLow g (nondecreasing_from i u)
low_nondecreasing g i [] h = tt
low_nondecreasing g i (n ∷ u) h = low_block g n i (nondecreasing_from (suc i) u) (omega arith) (low_nondecreasing g (suc i) u (omega arith))

-- the letters of the word are high
high_nondecreasing : (g i : ℕ) (v : List ℕ) → g < i → AreHigh g (nondecreasing_from i v)
high_nondecreasing g i [] h = tt
high_nondecreasing g i (n ∷ v) h = high_block g n i (nondecreasing_from (suc i) v) h (high_nondecreasing g (suc i) v (omega arith))

-- a composition of the length of a word, inside its ascents
fits : List ℕ → List ℕ → Bool
fits parts w = nat_eq (length w) (sum parts) && is_subset (descent_set parts) (ascents w)

-- no composition of another degree fits
fits_apart : (parts w : List ℕ) → (length w ≡ sum parts → ⊥) → fits parts w ≡ false
unfolding fits
fits_apart parts w h = let e : nat_eq (length w) (sum parts) ≡ false = grind (arith, nat_tests) in rw e refl

-- a composition of the right degree fits where its partial sums are ascents
fits_alike : (parts w : List ℕ) → length w ≡ sum parts → fits parts w ≡ list_all (λ d. is_among d (ascents w)) (partial_sums 0 parts)
unfolding fits
fits_alike parts w h = let e : nat_eq (length w) (sum parts) ≡ true = eq-eqb (length w) (sum parts) h in rw e refl

-- low letters before high letters, where the lengths fit
fits_cut : (g : ℕ) (parts a b : List ℕ) → IsComposition parts → AreLow g a → AreHigh g b → length a + length b ≡ sum parts
    → fits parts (a ++ b) ≡ (fits (front_of_degree (length a) parts) a && fits (rest_past_degree (length a) parts) b)
fits_cut g parts a b composition ha hb total =
    fits_alike parts (a ++ b) (length-append a b ∙ total)
    ∙ partial_sums_cut test 0 (length a) parts composition (λ some less. at_cut some less)
    ∙ (λ i. first i && second i)
    ∙ sym (λ i. fits_alike front a (sym front_sum) i && fits_alike rest b (sym rest_sum) i)
  where
    test : ℕ → Bool
    test d = is_among d (ascents (a ++ b))

    front : List ℕ
    front = front_of_degree (length a) parts

    rest : List ℕ
    rest = rest_past_degree (length a) parts

    front_sum : sum (front_of_degree (length a) parts) ≡ length a
    front_sum = omega (arith, sum-front (length a) parts, total)

    rest_sum : sum (rest_past_degree (length a) parts) ≡ length b
    rest_sum = omega (arith, sum-rest (length a) parts, total)

    at_cut : 0 < length a → length a < sum parts → is_among (0 + length a) (ascents (a ++ b)) ≡ true
    at_cut some less =
        let e : 0 + length a ≡ length a = omega arith in
        ap (λ n. is_among n (ascents (a ++ b))) e ∙ ascents_between g a b ha hb some (omega (arith, total))

    first : list_all (λ d. is_among d (ascents (a ++ b))) (partial_sums 0 (front_of_degree (length a) parts))
        ≡ list_all (λ d. is_among d (ascents a)) (partial_sums 0 (front_of_degree (length a) parts))
    first =
        partial_sums_same (λ d. is_among d (ascents (a ++ b))) (λ d. is_among d (ascents a)) 0 (front_of_degree (length a) parts) (front-composition (length a) parts composition)
        (λ e low high. ascents_within e a b low (omega (arith, front_sum)))

    second : list_all (λ d. is_among d (ascents (a ++ b))) (partial_sums (0 + length a) (rest_past_degree (length a) parts))
        ≡ list_all (λ d. is_among d (ascents b)) (partial_sums 0 (rest_past_degree (length a) parts))
    second =
        let e : 0 + length a ≡ length a + 0 = omega arith in
        ap (λ n. list_all (λ d. is_among d (ascents (a ++ b))) (partial_sums n (rest_past_degree (length a) parts))) e
        ∙ partial_sums_shift (λ d. is_among d (ascents (a ++ b))) (length a) 0 (rest_past_degree (length a) parts)
        ∙ partial_sums_same (λ d. is_among (length a + d) (ascents (a ++ b))) (λ d. is_among d (ascents b)) 0 (rest_past_degree (length a) parts) (rest-composition (length a) parts composition)
        (λ e low high. ascents_later e a b low)

-- and where they do not
fits_counts : (g : ℕ) (parts a b : List ℕ) → IsComposition parts → AreLow g a → AreHigh g b
    → one_if (fits parts (a ++ b)) ≡ one_if (fits (front_of_degree (length a) parts) a) * one_if (fits (rest_past_degree (length a) parts) b)
fits_counts g parts a b composition ha hb = by_length (cases_lt (length a + length b) (sum parts)) (cases_lt (sum parts) (length a + length b))
  where
    none : (length a + length b ≡ sum parts → ⊥)
        → one_if (fits parts (a ++ b)) ≡ one_if (fits (front_of_degree (length a) parts) a) * one_if (fits (rest_past_degree (length a) parts) b)
    none apart = elim (cases_lt (sum parts) (length a)) [
      | inl past ↦
          rw (
            fits_apart parts (a ++ b) (λ e. apart (sym (length-append a b) ∙ e)),
            fits_apart (front_of_degree (length a) parts) a (λ e. omega (arith, e, sum-front (length a) parts)),
          ) (omega arith)
      | inr within ↦
          rw (
            fits_apart parts (a ++ b) (λ e. apart (sym (length-append a b) ∙ e)),
            fits_apart (rest_past_degree (length a) parts) b (λ e. apart (omega (arith, e, sum-rest (length a) parts))),
          ) (omega arith)
    ]

    by_length : ((length a + length b < sum parts) ⊎ (sum parts ≤ length a + length b)) → ((sum parts < length a + length b) ⊎ (length a + length b ≤ sum parts))
        → one_if (fits parts (a ++ b)) ≡ one_if (fits (front_of_degree (length a) parts) a) * one_if (fits (rest_past_degree (length a) parts) b)
    by_length (inl less) q = none (λ e. omega arith)
    by_length (inr p) (inl more) = none (λ e. omega arith)
    by_length (inr p) (inr q) =
        ap one_if (fits_cut g parts a b composition ha hb (omega arith))
        ∙ one_if-and (fits (front_of_degree (length a) parts) a) (fits (rest_past_degree (length a) parts) b)

-- the fundamental function occurs where its composition fits the nondecreasing word
fits_is : (parts p : List ℕ) → occurs QsymF parts p ≡ fits parts (nondecreasing_word p)
unfolding fits
fits_is parts p = refl

-- raising keeps what fits
fits-raise : (k : ℕ) (parts w : List ℕ) → fits parts (raise k w) ≡ fits parts w
unfolding fits
fits-raise k parts w =
    let size : length (raise k w) ≡ length w = length-map w (λ x. k + x) in
    λ i. nat_eq (size i) (sum parts) && is_subset (descent_set parts) (ascents-raise k w i)

-- the word of two lists of exponents is the word of the first and the raised word of the second
joined_word : (u v : List ℕ) → nondecreasing_word (u ++ v) ≡ nondecreasing_word u ++ raise (length u) (nondecreasing_word v)
joined_word u v =
    let e : 1 + length u ≡ length u + 1 = omega arith in
    nondecreasing-append 1 u v ∙ ap (λ w. nondecreasing_word u ++ w) (ap (λ i. nondecreasing_from i v) e ∙ nondecreasing-raise (length u) 1 v)

module _ (parts : List ℕ) (composition : IsComposition parts) (u v : List ℕ) where
  -- whether the cut at degree k fits
  fits_at : ℕ → ℕ
  fits_at k = one_if (fits (front_of_degree k parts) (nondecreasing_word u)) * one_if (fits (rest_past_degree k parts) (nondecreasing_word v))

  -- the function occurs at both lists where the cut at the degree of the first fits
  occurs_joined : one_if (occurs QsymF parts (u ++ v)) ≡ fits_at (length (nondecreasing_word u))
  unfolding fits_at
  occurs_joined =
      ap one_if (fits_is parts (u ++ v) ∙ ap (λ w. fits parts w) (joined_word u v))
      ∙ fits_counts (length u) parts (nondecreasing_word u) (raise (length u) (nondecreasing_word v)) composition
      (low_nondecreasing (length u) 1 u (omega arith))
      (subst (λ w. AreHigh (length u) w) (nondecreasing-raise (length u) 1 v) (high_nondecreasing (length u) (length u + 1) v (omega arith)))
      ∙ ap (λ t. one_if (fits (front_of_degree (length (nondecreasing_word u)) parts) (nondecreasing_word u)) * one_if t)
      (fits-raise (length u) (rest_past_degree (length (nondecreasing_word u)) parts) (nondecreasing_word v))

  -- a front of another degree does not
  fits_none : (k : ℕ) → (length (nondecreasing_word u) ≡ sum (front_of_degree k parts) → ⊥) → fits_at k ≡ 0
  unfolding fits_at
  fits_none k apart =
      ap (λ t. one_if t * one_if (fits (rest_past_degree k parts) (nondecreasing_word v))) (fits_apart (front_of_degree k parts) (nondecreasing_word u) apart) ∙ omega arith

  -- only the cut at the degree of the first list can fit
  fits_single : sums fits_at (range_with_len 0 (suc (sum parts))) ≡ fits_at (length (nondecreasing_word u))
  fits_single =
      sums_up_to_single fits_at (length (nondecreasing_word u)) (sum parts)
      (λ k le apart. fits_none k (λ e. apart (omega (arith, e, sum-front k parts))))
      (λ past. fits_none (length (nondecreasing_word u)) (λ e. omega (arith, e, sum-front (length (nondecreasing_word u)) parts)))

  -- the cuts that fit are the pairs of functions that occur
  fits_pairs : sums fits_at (range_with_len 0 (suc (sum parts))) ≡ sums (λ e. one_if (occurs QsymF e.0 u) * one_if (occurs QsymF e.1 v)) (degree_cuts parts)
  unfolding fits_at
  fits_pairs =
      sums_same fits_at (λ k. one_if (occurs QsymF (front_of_degree k parts) u) * one_if (occurs QsymF (rest_past_degree k parts) v))
      (λ k. λ i. one_if (sym (fits_is (front_of_degree k parts) u) i) * one_if (sym (fits_is (rest_past_degree k parts) v) i)) (range_with_len 0 (suc (sum parts)))
      ∙ sym (sums-map (λ (e : List ℕ × List ℕ). one_if (occurs QsymF e.0 u) * one_if (occurs QsymF e.1 v)) (λ k. (front_of_degree k parts, rest_past_degree k parts)) (range_with_len 0 (suc (sum parts))))

-- QSym.F: for each degree the one cut of the composition
pub fundamental_coproduct : (parts : List ℕ) → IsIndex QsymF parts → IsCoproduct QsymF parts (degree_cuts parts)
fundamental_coproduct parts composition =
    coproduct_by_counts QsymF parts (degree_cuts parts) (λ u v hu hv.
    one_more (one_if (occurs QsymF parts (u ++ v))) ∙ occurs_joined parts composition u v ∙ sym (fits_single parts composition u v) ∙ fits_pairs parts composition u v)
  where
    one_more : (n : ℕ) → n + 0 ≡ n
    one_more n = omega arith
