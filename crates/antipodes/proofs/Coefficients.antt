-- The numerators of canonical terms as coefficients, how many terms there can be, and the norm that both allow.
use Rattle.std.proofs.Common.{◌≡◌, ℕ, zero, suc, ◌+◌, ◌*◌, ◌<◌, ◌≤◌, Bool, true, false, List, [], ◌∷◌, map, length, refl, sym, ◌∙◌, ap, arith, unsigned_abs}
use Rattle.std.specs.Prelude.{slice_index_or}
use Rattle.std.specs.List.{AllByRecursion}
use Rattle.std.specs.Ordering.{nat_cmp, ordering_then}
use Rattle.std.specs.declared.cmp.Ordering.{Ordering}
use Rattle.std.specs.declared.cmp.Ordering.TheVariants.{Less, Equal, Greater}
use Rattle.std.specs.Cmp.Lexicographic.{slice_cmp}
use Rattle.std.proofs.Math.IntN.{ℤ, pos, ◌*ℤ◌, *ℤ-zero, *ℤ-one, one}
use Rattle.std.proofs.lemmas.Int.{ints}
use Rattle.std.proofs.lemmas.List.{length-map}
use Rattle.std.proofs.lemmas.List.Sums.{sum_by-cons}
use Rattle.antipode_laws.specs.Recursion.{first_code}
use Rattle.antipodes.proofs.BoundedSums.{sums_at_most}
use Rattle.basis_representatives.proofs.SameLists.{same_list-self, same_list-true}
use Rattle.basis_representatives.proofs.VanishingWeights.{key_cmp-self}
use Rattle.linear_combos.specs.CodeLists.{IsInOrder}
use Rattle.product_laws.proofs.DistinctWords.{times_in-turned}
use Rattle.product_laws.proofs.ListedOnce.{times_in-at_most}
use Rattle.realisations.specs.Codes.{Code, Key}
use Rattle.realisations.specs.Combinations.{HasRisingKeys, key_cmp, norm_of, term_at}
use Rattle.realisations.specs.Lists.{same_list, one_if}
use Rattle.realisations.specs.Readings.{Terms}
use Rattle.realisations.proofs.Coefficients.{counts, coefficient, less_turned}
use Rattle.realisations.proofs.KeyOrders.{same_key}
use Rattle.realisations.proofs.Sums.{sums, sums-add, sums_none}
use Rattle.word_laws.specs.AddedCodes.{times_in}

-- below all keys the coefficient is 0
none_below : (key : Key) (ts : Terms) → ((i : ℕ) → i < length ts → key_cmp key (term_at ts i).1 ≡ Less) → coefficient ts key ≡ pos 0
none_below key [] h = refl
none_below key (t ∷ ts) h =
    let head : t.0 *ℤ pos (counts (key_cmp t.1 key)) ≡ pos 0 = ap (λ o. t.0 *ℤ pos (counts o)) (less_turned key t.1 (h 0 (omega arith))) ∙ *ℤ-zero t.0 in
    omega (arith, ints, head, none_below key ts (λ i lt. h (suc i) (omega (arith, lt))))

-- a numerator is the coefficient of its key
pub numerator_is : (ts : Terms) → HasRisingKeys ts → (i : ℕ) → i < length ts → coefficient ts (term_at ts i).1 ≡ (term_at ts i).0
unfolding one
numerator_is [] rising i lt = absurd (omega (arith, lt))
numerator_is (t ∷ ts) rising zero lt =
    let head : t.0 *ℤ pos (counts (key_cmp t.1 t.1)) ≡ t.0 = ap (λ o. t.0 *ℤ pos (counts o)) (key_cmp-self t.1) ∙ *ℤ-one t.0 in
    omega (arith, ints, head, none_below t.1 ts (λ i less. rising 0 (suc i) (omega arith) (omega (arith, less))))
numerator_is (t ∷ ts) rising (suc i) lt =
    let head : t.0 *ℤ pos (counts (key_cmp t.1 (term_at ts i).1)) ≡ pos 0 = ap (λ o. t.0 *ℤ pos (counts o)) (rising 0 (suc i) (omega arith) lt) ∙ *ℤ-zero t.0 in
    let rest = numerator_is ts (λ j k less within. rising (suc j) (suc k) (omega (arith, less)) (omega (arith, within))) i (omega (arith, lt)) in
    omega (arith, ints, head, rest)

-- no numerator past b
pub norm_at_most : (ts : Terms) (b : ℕ) → ((i : ℕ) → i < length ts → unsigned_abs (term_at ts i).0 ≤ b) → norm_of ts ≤ b * length ts
norm_at_most [] b h = omega arith
norm_at_most (t ∷ ts) b h =
    omega (arith, sum_by-cons (λ (u : ℤ × Key). unsigned_abs u.0) t ts, h 0 (omega arith), norm_at_most ts b (λ i lt. h (suc i) (omega (arith, lt))))

-- keys of one code compare as these
first_then : (o : Ordering) → ordering_then o Equal ≡ o
first_then Less = refl
first_then Equal = refl
first_then Greater = refl

order_of_codes : (a b : Code) → key_cmp (a ∷ []) (b ∷ []) ≡ slice_cmp nat_cmp a b
order_of_codes a b = first_then (slice_cmp nat_cmp a b)

-- and count where they are the same
pub counts_same : (a b : Code) → counts (key_cmp (a ∷ []) (b ∷ [])) ≡ one_if (same_list b a)
counts_same a b = by_test (same_list b a) refl
  where
    not_same : (o : Ordering) → key_cmp (a ∷ []) (b ∷ []) ≡ o → same_list b a ≡ false → counts o ≡ 0
    not_same Less e apart = refl
    not_same Equal e apart =
        let same : a ∷ [] ≡ b ∷ [] = same_key (a ∷ []) (b ∷ []) e in
        let equal : same_list b a ≡ true = ap (λ v. same_list b (first_code v)) same ∙ same_list-self b in
        absurd (cc)
    not_same Greater e apart = refl

    by_test : (t : Bool) → same_list b a ≡ t → counts (key_cmp (a ∷ []) (b ∷ [])) ≡ one_if t
    by_test true e = ap (λ v. counts (key_cmp (a ∷ []) (v ∷ []))) (same_list-true b a e) ∙ ap counts (key_cmp-self (a ∷ []))
    by_test false e = not_same (key_cmp (a ∷ []) (b ∷ [])) refl e

-- the first codes of the keys
abbrev pub codes_of : Terms → List Code
codes_of ts = map (λ (t : ℤ × Key). first_code t.1) ts

code_at_place : (ts : Terms) (i : ℕ) → slice_index_or (codes_of ts) i [] ≡ first_code (term_at ts i).1
code_at_place [] i = refl
code_at_place (t ∷ ts) zero = refl
code_at_place (t ∷ ts) (suc i) = code_at_place ts i

-- rise, where each key has one code
codes_in_order : (ts : Terms) → HasRisingKeys ts → ((i : ℕ) → i < length ts → (term_at ts i).1 ≡ first_code (term_at ts i).1 ∷ []) → IsInOrder (codes_of ts)
codes_in_order ts rising single i j less within =
    let lt : j < length ts = omega (arith, within, length-map ts (λ (t : ℤ × Key). first_code t.1)) in
    (λ k. slice_cmp nat_cmp (code_at_place ts i k) (code_at_place ts j k))
    ∙ sym (order_of_codes (first_code (term_at ts i).1) (first_code (term_at ts j).1))
    ∙ (λ k. key_cmp (sym (single i (omega (arith, less, lt))) k) (sym (single j lt) k))
    ∙ rising i j less lt

-- so none is there twice
pub codes_once : (ts : Terms) → HasRisingKeys ts → ((i : ℕ) → i < length ts → (term_at ts i).1 ≡ first_code (term_at ts i).1 ∷ []) → (code : Code) → times_in code (codes_of ts) ≤ 1
codes_once ts rising single code = times_in-at_most (codes_of ts) (codes_in_order ts rising single) code

-- what the first code of each key has
pub every_code : (P : Code → Type 0) (ts : Terms) → ((i : ℕ) → i < length ts → P (first_code (term_at ts i).1)) → AllByRecursion P (codes_of ts)
every_code P [] h = tt
every_code P (t ∷ ts) h = (h 0 (omega arith), every_code P ts (λ i lt. h (suc i) (omega (arith, lt))))

-- the codes of one list in another, counted either way
swapped : (codes others : List Code) → sums (λ w. times_in w codes) others ≡ sums (λ c. times_in c others) codes
swapped [] others = sums_none (λ w. times_in w []) (λ w. refl) others
swapped (c ∷ codes) others =
    sums-add (λ w. one_if (same_list w c)) (λ w. times_in w codes) others
    ∙ (λ i. times_in-turned c others i + swapped codes others i)

one_each : (codes others : List Code) → AllByRecursion (λ c. times_in c others ≡ 1) codes → sums (λ c. times_in c others) codes ≡ length codes
one_each [] others h = refl
one_each (c ∷ codes) others h = omega (arith, h.0, one_each codes others h.1)

-- codes that are not there twice, each of them once in another list, are no more than that list
pub few_of_list : (codes others : List Code) → AllByRecursion (λ c. times_in c others ≡ 1) codes → ((c : Code) → times_in c codes ≤ 1) → length codes ≤ length others
few_of_list codes others each once = omega (arith, one_each codes others each, swapped codes others, sums_at_most (λ w. times_in w codes) 1 once others)
