-- The permutations of a class grow by their greatest letters: those of n + 1 letters are among those that the permutations of n letters, of the class of the front of the code, become.
use Rattle.std.proofs.Common.{◌≡◌, ℕ, suc, ◌+◌, ◌*◌, ◌≤◌, Bool, true, false, List, [], ◌∷◌, length, take, inl, inr, refl, sym, ◌∙◌, ap, subst, arith}
use Rattle.std.specs.Prelude.{nat_eq, nat_le, ◌&&◌, if◌then◌else◌}
use Rattle.std.specs.List.{AllByRecursion, filter, flat_map}
use Rattle.std.proofs.lemmas.Bool.{cases_lt, eqb-true}
use Rattle.std.proofs.lemmas.Bool.Decides.{nat_tests}
use Rattle.std.proofs.lemmas.List.{length-take}
use Rattle.basis_representatives.proofs.Counts.{one_if-self}
use Rattle.basis_representatives.proofs.Permutations.{HasEachOnce, count_below-permutation, each_once, letters-permutation, letters_that_occur, permutation_from}
use Rattle.basis_representatives.proofs.SameLists.{one_if-and, same_list-true}
use Rattle.coproduct_laws.specs.ValueCuts.{letters_up_to}
use Rattle.coproduct_laws.proofs.CutLetters.{length_up_to}
use Rattle.coproduct_laws.proofs.LowAndHigh.{up_to_high, up_to_low}
use Rattle.coproduct_laws.proofs.Shuffling.{over_shuffles, over_shuffles-step}
use Rattle.coproduct_rules.proofs.InverseCuts.{permutation-up_to}
use Rattle.product_laws.proofs.CutTableaux.{code-low}
use Rattle.product_laws.proofs.DistinctWords.{times_in-turned}
use Rattle.product_laws.proofs.EveryShuffle.{CountsAsBoth, counts_of_shuffles, sums_same_on}
use Rattle.product_laws.proofs.Filters.{times_in-filter}
use Rattle.product_laws.proofs.Tests.{same_list-is}
use Rattle.realisations.specs.Lists.{one_if, same_list}
use Rattle.realisations.specs.Standardisation.{count_same}
use Rattle.realisations.specs.Tableaux.{insertion_tableau, tableau_code}
use Rattle.realisations.specs.Words.{shuffles}
use Rattle.realisations.proofs.Every.{every-flat_map, every-weaker}
use Rattle.realisations.proofs.RisingMaps.{Letters}
use Rattle.realisations.proofs.Sums.{sums, sums-flat_map, sums_none}
use Rattle.tableau_coproducts.specs.ClassCuts.{IsOfClass, ListsClass}
use Rattle.tableau_coproducts.proofs.ClassSizes.{length-class}
use Rattle.word_laws.specs.AddedCodes.{times_in}
use Rattle.fsym.specs.Classes.{has_class, longer_words}

-- a word of letters up to n + 1 in which n + 1 does not stand has letters up to n alone
all_low : (n : ℕ) (s : List ℕ) → Letters (λ x. x ≤ suc n) s → count_same (suc n) s ≡ 0 → letters_up_to n s ≡ s
all_low n [] h none = refl
all_low n (x ∷ s) h none = by_test (nat_eq x (suc n)) refl (λ k. all_low n s h.1 k)
  where
    by_test : (b : Bool) → nat_eq x (suc n) ≡ b → (count_same (suc n) s ≡ 0 → letters_up_to n s ≡ s) → letters_up_to n (x ∷ s) ≡ x ∷ s
    by_test true e ih = absurd (omega (arith, none, ap one_if e))
    by_test false e ih =
        let low : nat_le x n ≡ true = grind (arith, nat_tests, h.0, e) in
        up_to_low n x s low ∙ ap (λ w. x ∷ w) (ih (omega (arith, none)))

-- words whose first letter is, or is not, that of another one
begun : (b : Bool) (s : List ℕ) (ws : List (List ℕ)) → sums (λ w. one_if (b && same_list w s)) ws ≡ one_if b * sums (λ w. one_if (same_list w s)) ws
begun true s ws = omega arith
begun false s ws = sums_none (λ w. one_if (false && same_list w s)) (λ w. refl) ws ∙ omega arith

-- of the words that v becomes when n + 1 is put in at each place, one is s where v has the letters up to n of s, and else none
put_in : (n : ℕ) (s v : List ℕ) → Letters (λ x. x ≤ suc n) s → count_same (suc n) s ≡ 1 → count_same (suc n) v ≡ 0
    → over_shuffles (λ w. one_if (same_list w s)) (suc n ∷ []) v ≡ one_if (same_list v (letters_up_to n s))
put_in n [] v h one none = absurd (omega (arith, one))
put_in n (x ∷ s) [] h one none = by_test (nat_eq (suc n) x) refl
  where
    by_test : (b : Bool) → nat_eq (suc n) x ≡ b → one_if (nat_eq (suc n) x && same_list [] s) + 0 ≡ one_if (same_list [] (letters_up_to n (x ∷ s)))
    by_test true e =
        let high : nat_le x n ≡ false = grind (arith, nat_tests, e) in
        let turned : one_if (nat_eq x (suc n)) ≡ 1 = grind (arith, nat_tests, e) in
        let rest : letters_up_to n s ≡ s = all_low n s h.1 (omega (arith, one, turned)) in
        rw (e, up_to_high n x s high, rest) (omega arith)
    by_test false e =
        let low : nat_le x n ≡ true = grind (arith, nat_tests, e, h.0) in
        rw (e, up_to_low n x s low) refl
put_in n (x ∷ s) (y ∷ v) h one none =
    over_shuffles-step (λ w. one_if (same_list w (x ∷ s))) (suc n) [] y v
    ∙ by_test (nat_eq (suc n) x) refl (λ k. put_in n s v h.1 k (omega (arith, none)))
  where
    by_test : (b : Bool) → nat_eq (suc n) x ≡ b
        → (count_same (suc n) s ≡ 1 → over_shuffles (λ w. one_if (same_list w s)) (suc n ∷ []) v ≡ one_if (same_list v (letters_up_to n s)))
        → one_if (nat_eq (suc n) x && same_list (y ∷ v) s) + 0 + over_shuffles (λ w. one_if (nat_eq y x && same_list w s)) (suc n ∷ []) v
        ≡ one_if (same_list (y ∷ v) (letters_up_to n (x ∷ s)))
    by_test true e ih =
        let high : nat_le x n ≡ false = grind (arith, nat_tests, e) in
        let turned : one_if (nat_eq x (suc n)) ≡ 1 = grind (arith, nat_tests, e) in
        let rest : letters_up_to n s ≡ s = all_low n s h.1 (omega (arith, one, turned)) in
        let other : one_if (nat_eq y x) ≡ 0 = apart in
        let left_out : over_shuffles (λ w. one_if (nat_eq y x && same_list w s)) (suc n ∷ []) v ≡ 0 =
        begun (nat_eq y x) s (shuffles (suc n ∷ []) v) ∙ ap (λ k. k * sums (λ w. one_if (same_list w s)) (shuffles (suc n ∷ []) v)) other ∙ omega arith in
        rw (e, up_to_high n x s high, rest) (omega (arith, left_out))
      where
        apart : one_if (nat_eq y x) ≡ 0
        apart = ap (λ k. one_if (nat_eq y k)) (sym (eqb-true (suc n) x e)) ∙ omega (arith, none)
    by_test false e ih =
        let low : nat_le x n ≡ true = grind (arith, nat_tests, e, h.0) in
        let turned : one_if (nat_eq x (suc n)) ≡ 0 = grind (arith, nat_tests, e) in
        let kept : over_shuffles (λ w. one_if (nat_eq y x && same_list w s)) (suc n ∷ []) v ≡ one_if (nat_eq y x) * one_if (same_list v (letters_up_to n s)) =
        begun (nat_eq y x) s (shuffles (suc n ∷ []) v) ∙ ap (λ k. one_if (nat_eq y x) * k) (ih (omega (arith, one, turned))) in
        rw (e, up_to_low n x s low) (omega (arith, kept, one_if-and (nat_eq y x) (same_list v (letters_up_to n s))))

-- what all words of a list have, those have that are left by a test, and they pass it
every_passing : (P : List ℕ → Type 0) (test : List ℕ → Bool) (ws : List (List ℕ)) → AllByRecursion P ws → AllByRecursion (λ w. P w × (test w ≡ true)) (filter test ws)
every_passing P test [] h = tt
every_passing P test (w ∷ ws) h = by_test (test w) refl (every_passing P test ws h.1)
  where
    by_test : (b : Bool) → test w ≡ b → AllByRecursion (λ w. P w × (test w ≡ true)) (filter test ws)
        → AllByRecursion (λ w. P w × (test w ≡ true)) (if b then w ∷ filter test ws else filter test ws)
    by_test true e rest = ((h.0, e), rest)
    by_test false e rest = rest

module _ (v : List ℕ) (hv : HasEachOnce v) where
  -- the next number does not stand in a permutation
  pub next_is_new : count_same (suc (length v)) v ≡ 0
  next_is_new = elim (cases_lt 0 (count_same (suc (length v)) v)) [
    | inl some ↦ absurd (omega (arith, (letters-permutation v hv (suc (length v)) some).1))
    | inr none ↦ omega (arith, none)
  ]

  -- so with it a permutation is one
  longer_permutation : (w : List ℕ) → CountsAsBoth (suc (length v) ∷ []) v w → HasEachOnce w
  longer_permutation w h = record { once = λ i from to. once i from (omega (arith, to, h.1)) }
    where
      once : (i : ℕ) → 1 ≤ i → i ≤ suc (length v) → count_same i w ≡ 1
      once i from to = elim (cases_lt (length v) i) [
        | inl past ↦ (let next : suc (length v) ≡ i = omega (arith, past, to) in
            subst (λ k. count_same k w ≡ 1) next
            (omega (arith, h.0 (λ x. nat_eq x (suc (length v))), next_is_new, one_if-self (suc (length v)))))
        | inr within ↦ (let other : one_if (nat_eq (suc (length v)) i) ≡ 0 = grind (arith, nat_tests, within) in
            omega (arith, h.0 (λ x. nat_eq x i), hv.once i from within, other))
      ]

  pub longer_permutations : AllByRecursion (λ w. HasEachOnce w × (length w ≡ suc (length v))) (shuffles (suc (length v) ∷ []) v)
  longer_permutations =
      every-weaker (CountsAsBoth (suc (length v) ∷ []) v) (λ w. HasEachOnce w × (length w ≡ suc (length v)))
      (λ w h. (longer_permutation w h, omega (arith, h.1))) (shuffles (suc (length v) ∷ []) v) (counts_of_shuffles (suc (length v) ∷ []) v)

module _ (n : ℕ) (t : List ℕ) (size : length t ≡ suc n) where
  -- the front of the code has n letters
  length_front : length (take n t) ≡ n
  length_front = omega (arith, length-take n t, size)

  module _ (v : List ℕ) (h : IsOfClass (take n t) v) where
    length_word : length v ≡ n
    length_word = length-class (take n t) v h ∙ length_front

    -- the words that become longer are of the class
    longer_of_class : AllByRecursion (λ s. IsOfClass t s) (longer_words t v)
    longer_of_class =
        every-weaker (λ w. (HasEachOnce w × (length w ≡ suc (length v))) × (has_class t w ≡ true)) (λ s. IsOfClass t s)
        (λ w k. record { permutation = permutation_from w k.0.0; tableau = same_list-true (tableau_code (insertion_tableau w)) t k.1 })
        (longer_words t v)
        (every_passing (λ w. HasEachOnce w × (length w ≡ suc (length v))) (λ w. has_class t w) (shuffles (suc (length v) ∷ []) v) (longer_permutations v (each_once v h.permutation)))

  module _ (s : List ℕ) (h : IsOfClass t s) where
    length_whole : length s ≡ suc n
    length_whole = length-class t s h ∙ size

    -- without its greatest letter a permutation of the class is of the class of the front
    front_of_class : IsOfClass (take n t) (letters_up_to n s)
    front_of_class =
        let each : HasEachOnce s = each_once s h.permutation in
        let le : n ≤ length s = omega (arith, length_whole) in
        let size : length (letters_up_to n s) ≡ n = length_up_to n s ∙ count_below-permutation s each n le in
        record {
          permutation = permutation_from (letters_up_to n s) (permutation-up_to s each n le);
          tableau = code-low n s each le size ∙ ap (take n) h.tableau;
        }

    -- and each word of that class becomes it once where it has its other letters
    once_from : (v : List ℕ) → IsOfClass (take n t) v → sums (λ w. one_if (same_list w s)) (longer_words t v) ≡ one_if (same_list v (letters_up_to n s))
    once_from v k =
        let each : HasEachOnce s = each_once s h.permutation in
        let long : length v ≡ n = length_word v k in
        let new : count_same (suc n) v ≡ 0 = subst (λ m. count_same (suc m) v ≡ 0) long (next_is_new v (each_once v k.permutation)) in
        times_in-turned s (longer_words t v)
        ∙ times_in-filter s (λ w. has_class t w) (shuffles (suc (length v) ∷ []) v)
        ∙ ap (λ b. one_if b * times_in s (shuffles (suc (length v) ∷ []) v)) (same_list-is (tableau_code (insertion_tableau s)) t h.tableau)
        ∙ one_time (times_in s (shuffles (suc (length v) ∷ []) v))
        ∙ sym (times_in-turned s (shuffles (suc (length v) ∷ []) v))
        ∙ (λ i. over_shuffles (λ w. one_if (same_list w s)) (suc (long i) ∷ []) v)
        ∙ put_in n s v (letters_that_occur (λ x. x ≤ suc n) s (λ x occurs. omega (arith, (letters-permutation s each x occurs).1, length_whole))) (each.once (suc n) (omega arith) (omega (arith, length_whole))) new
      where
        one_time : (m : ℕ) → 1 * m ≡ m
        one_time m = omega arith

  -- so the class grows from that of the front
  pub grown : (words : List (List ℕ)) → ListsClass (take n t) words → ListsClass t (flat_map (longer_words t) words)
  grown words lists = record {
    each = every-flat_map (λ v. IsOfClass (take n t) v) (λ s. IsOfClass t s) (longer_words t) longer_of_class words lists.each;
    once = λ s h.
        sym (times_in-turned s (flat_map (longer_words t) words))
        ∙ sums-flat_map (λ w. one_if (same_list w s)) (longer_words t) words
        ∙ sums_same_on (λ v. IsOfClass (take n t) v) (λ v. sums (λ w. one_if (same_list w s)) (longer_words t v)) (λ v. one_if (same_list v (letters_up_to n s))) (once_from s h) words lists.each
        ∙ times_in-turned (letters_up_to n s) words
        ∙ lists.once (letters_up_to n s) (front_of_class s h);
  }
