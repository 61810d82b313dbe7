-- The products of complete functions and of elementary functions: the concatenation of indices.
use Rattle.std.proofs.Common.{◌≡◌, ℕ, zero, suc, ◌+◌, ◌-◌, ◌*◌, ◌<◌, ◌≤◌, Bool, true, false, List, [], ◌∷◌, ◌++◌, length, take, drop, refl, sym, ◌∙◌, ap, arith, append-nil, inl, inr}
use Rattle.std.specs.Prelude.{nat_eq, nat_lt, not, ◌&&◌, ◌||◌, if◌then◌else◌}
use Rattle.std.specs.List.{filter, range_with_len, sum}
use Rattle.std.proofs.lemmas.Bool.{and_parts, eqb-true, eq-eqb, ne_eqb, or_from, cases_eq}
use Rattle.std.proofs.lemmas.List.{length-append, length-take, length-drop, take-append-drop}
use Rattle.basis_names.specs.declared.bases.BasisId.TheVariants.{NcsfS, NcsfL}
use Rattle.realisations.specs.Descents.{places_where, descent_set, places_outside}
use Rattle.realisations.specs.Lists.{is_among, is_subset, one_if}
use Rattle.realisations.specs.Occurrence.{occurs}
use Rattle.basis_representatives.proofs.SameLists.{one_if-and}
use Rattle.product_laws.specs.Products.{IsProduct}
use Rattle.product_laws.proofs.ElementProducts.{OccursAtLength, reads_as_product}
use Rattle.product_laws.proofs.PartialSums.{sums_before, sum_among, sums_after, sums_raised}
use Rattle.product_laws.proofs.Parts.{sum-append}
use Rattle.product_laws.proofs.Tests.{same_tests}

-- a test of two neighbouring letters
abbrev Neighbours : Type 0
Neighbours = ℕ → ℕ → Bool

-- the places of a concatenation lie in a set that holds the place between both words, where those of both words do
subset-append : (test : Neighbours) (k : ℕ) (x : ℕ) (u : List ℕ) (y : ℕ) (v : List ℕ) (m : ℕ) (d : List ℕ) → suc m ≡ k + suc (length u) → is_among m d ≡ true
    → is_subset (places_where test k ((x ∷ u) ++ (y ∷ v))) d ≡ (is_subset (places_where test k (x ∷ u)) d && is_subset (places_where test (suc m) (y ∷ v)) d)
subset-append test k x [] y v m d e between =
    let at : m ≡ k = omega (arith, e) in
    by_test (test x y) (ap (λ n. is_among n d) (sym at) ∙ between) ∙ ap (λ n. is_subset (places_where test (suc n) (y ∷ v)) d) (sym at)
  where
    by_test : (b : Bool) → is_among k d ≡ true → is_subset (if b then k ∷ places_where test (suc k) (y ∷ v) else places_where test (suc k) (y ∷ v)) d ≡ is_subset (places_where test (suc k) (y ∷ v)) d
    by_test true h = ap (λ b. b && is_subset (places_where test (suc k) (y ∷ v)) d) h
    by_test false h = refl
subset-append test k x (z ∷ u) y v m d e between = by_test (test x z) (subset-append test (suc k) z u y v m d (omega (arith, e)) between)
  where
    grouped : (p q r s : Bool) → q ≡ (r && s) → (p && q) ≡ ((p && r) && s)
    grouped true q r s e = e
    grouped false q r s e = refl

    by_test : (b : Bool)
        → is_subset (places_where test (suc k) ((z ∷ u) ++ (y ∷ v))) d ≡ (is_subset (places_where test (suc k) (z ∷ u)) d && is_subset (places_where test (suc m) (y ∷ v)) d)
        → is_subset (if b then k ∷ places_where test (suc k) ((z ∷ u) ++ (y ∷ v)) else places_where test (suc k) ((z ∷ u) ++ (y ∷ v))) d
        ≡ (is_subset (if b then k ∷ places_where test (suc k) (z ∷ u) else places_where test (suc k) (z ∷ u)) d && is_subset (places_where test (suc m) (y ∷ v)) d)
    by_test true ih = grouped (is_among k d) _ _ _ ih
    by_test false ih = ih

-- the places of a word lie alike in two sets that hold its places alike, in the second one raised by c
subset_alike : (test : Neighbours) (c k k' : ℕ) (w d d' : List ℕ) → k' ≡ c + k
    → ((a b : ℕ) → k ≤ a → suc a < k + length w → b ≡ c + a → is_among b d' ≡ is_among a d)
    → is_subset (places_where test k' w) d' ≡ is_subset (places_where test k w) d
subset_alike test c k k' [] d d' e same = refl
subset_alike test c k k' (x ∷ []) d d' e same = refl
subset_alike test c k k' (x ∷ y ∷ w) d d' e same =
    by_test (test x y) (same k k' (omega arith) (omega arith) e)
    (subset_alike test c (suc k) (suc k') (y ∷ w) d d' (omega (arith, e)) (λ a b low high f. same a b (omega (arith, low)) (omega (arith, high)) f))
  where
    by_test : (b : Bool) → is_among k' d' ≡ is_among k d → is_subset (places_where test (suc k') (y ∷ w)) d' ≡ is_subset (places_where test (suc k) (y ∷ w)) d
        → is_subset (if b then k' ∷ places_where test (suc k') (y ∷ w) else places_where test (suc k') (y ∷ w)) d' ≡ is_subset (if b then k ∷ places_where test (suc k) (y ∷ w) else places_where test (suc k) (y ∷ w)) d
    by_test true first rest = λ i. first i && rest i
    by_test false first rest = rest

-- the word has the size of the composition, and places that pass the test at its partial sums alone
abbrev fits : Neighbours → List ℕ → List ℕ → Bool
fits test code p = nat_eq (length p) (sum code) && is_subset (places_where test 1 p) (descent_set code)

-- two words with the sizes of two compositions fit where both do, one after the other
sets-append : (test : Neighbours) (i j u v : List ℕ) → length u ≡ sum i → length v ≡ sum j
    → is_subset (places_where test 1 (u ++ v)) (descent_set (i ++ j)) ≡ (is_subset (places_where test 1 u) (descent_set i) && is_subset (places_where test 1 v) (descent_set j))
sets-append test [] j [] v eu ev = refl
sets-append test [] j (x ∷ u) v eu ev = absurd (omega (arith, eu))
sets-append test (i ∷ is) [] u [] eu ev =
    (λ k. is_subset (places_where test 1 (append-nil u k)) (descent_set (append-nil (i ∷ is) k)))
    ∙ and_true (is_subset (places_where test 1 u) (descent_set (i ∷ is)))
  where
    and_true : (b : Bool) → b ≡ (b && true)
    and_true true = refl
    and_true false = refl
sets-append test (i ∷ is) [] u (y ∷ v) eu ev = absurd (omega (arith, ev))
sets-append test (i ∷ is) (j ∷ js) [] v eu ev =
    subset_alike test 0 1 1 v (descent_set (j ∷ js)) (descent_set ((i ∷ is) ++ (j ∷ js))) refl
    (λ a b low high e.
    sums_after (i ∷ is) (j ∷ js) 0 0 b tt tt (omega (arith, eu)) (omega (arith, e, low))
    ∙ sums_raised (j ∷ js) 0 0 0 a b (omega arith) e)
sets-append test (i ∷ is) (j ∷ js) (x ∷ u) [] eu ev =
    (λ k. is_subset (places_where test 1 (append-nil (x ∷ u) k)) (descent_set ((i ∷ is) ++ (j ∷ js))))
    ∙ subset_alike test 0 1 1 (x ∷ u) (descent_set (i ∷ is)) (descent_set ((i ∷ is) ++ (j ∷ js))) refl
    (λ a b low high e.
    sums_before (i ∷ is) (j ∷ js) 0 b tt tt (omega (arith, eu, e, high))
    ∙ sums_raised (i ∷ is) 0 0 0 a b (omega arith) e)
    ∙ and_true (is_subset (places_where test 1 (x ∷ u)) (descent_set (i ∷ is)))
  where
    and_true : (b : Bool) → b ≡ (b && true)
    and_true true = refl
    and_true false = refl
sets-append test (i ∷ is) (j ∷ js) (x ∷ u) (y ∷ v) eu ev =
    let front = subset_alike test 0 1 1 (x ∷ u) (descent_set (i ∷ is)) (descent_set ((i ∷ is) ++ (j ∷ js))) refl
    (λ a b low high e.
    sums_before (i ∷ is) (j ∷ js) 0 b tt tt (omega (arith, eu, e, high))
    ∙ sums_raised (i ∷ is) 0 0 0 a b (omega arith) e) in
    let back = subset_alike test (suc (length u)) 1 (suc (suc (length u))) (y ∷ v) (descent_set (j ∷ js)) (descent_set ((i ∷ is) ++ (j ∷ js))) (omega arith)
    (λ a b low high e.
    sums_after (i ∷ is) (j ∷ js) 0 (suc (length u)) b tt tt (omega (arith, eu)) (omega (arith, e, low))
    ∙ sums_raised (j ∷ js) (suc (length u)) 0 (suc (length u)) a b (omega arith) e) in
    subset-append test 1 x u y v (suc (length u)) (descent_set ((i ∷ is) ++ (j ∷ js))) (omega arith)
    (sum_among (i ∷ is) (j ∷ js) 0 (suc (length u)) tt tt (omega (arith, eu)))
    ∙ (λ k. front k && back k)

sizes_differ : (m n : ℕ) (b : Bool) → (m ≡ n → ⊥) → (nat_eq m n && b) ≡ false
sizes_differ m n b other = ap (λ c. c && b) (ne_eqb m n other)

-- a word fits I . J where its front fits I and its back fits J
pub fits-append : (test : Neighbours) (i j p : List ℕ) → fits test (i ++ j) p ≡ (fits test i (take (sum i) p) && fits test j (drop (sum i) p))
fits-append test i j p = elim (cases_eq (length p) (sum (i ++ j))) [
  | inl same ↦
      let front : length (take (sum i) p) ≡ sum i = omega (arith, same, length-take (sum i) p, sum-append i j) in
      let back : length (drop (sum i) p) ≡ sum j = omega (arith, same, length-drop (sum i) p, sum-append i j) in
      both (is_subset (places_where test 1 p) (descent_set (i ++ j))) (is_subset (places_where test 1 (take (sum i) p)) (descent_set i)) (is_subset (places_where test 1 (drop (sum i) p)) (descent_set j))
      (eq-eqb (length p) (sum (i ++ j)) same) (eq-eqb (length (take (sum i) p)) (sum i) front) (eq-eqb (length (drop (sum i) p)) (sum j) back)
      ((λ k. is_subset (places_where test 1 (sym (take-append-drop (sum i) p) k)) (descent_set (i ++ j)))
      ∙ sets-append test i j (take (sum i) p) (drop (sum i) p) front back)
  | inr other ↦
      sizes_differ (length p) (sum (i ++ j)) (is_subset (places_where test 1 p) (descent_set (i ++ j))) other
      ∙ sym (same_tests (fits test i (take (sum i) p) && fits test j (drop (sum i) p)) false
      (λ e.
      let t = and_parts (fits test i (take (sum i) p)) (fits test j (drop (sum i) p)) e in
      let front = eqb-true _ _ (and_parts (nat_eq (length (take (sum i) p)) (sum i)) (is_subset (places_where test 1 (take (sum i) p)) (descent_set i)) t.0).0 in
      let back = eqb-true _ _ (and_parts (nat_eq (length (drop (sum i) p)) (sum j)) (is_subset (places_where test 1 (drop (sum i) p)) (descent_set j)) t.1).0 in
      let whole : length (take (sum i) p ++ drop (sum i) p) ≡ length p = ap length (take-append-drop (sum i) p) in
      absurd (other (omega (arith, front, back, whole, length-append (take (sum i) p) (drop (sum i) p), sum-append i j))))
      (λ e. absurd (cc)))
]
  where
    both : {a b c : Bool} (x y z : Bool) → a ≡ true → b ≡ true → c ≡ true → x ≡ (y && z) → (a && x) ≡ ((b && y) && (c && z))
    both x y z ea eb ec e = (λ k. ea k && e k) ∙ (λ k. (sym eb k && y) && (sym ec k && z))

-- the complement

-- places after k are at least k
pub none_before : (test : Neighbours) (k a : ℕ) (w : List ℕ) → a < k → is_among a (places_where test k w) ≡ false
none_before test k a [] h = refl
none_before test k a (x ∷ []) h = refl
none_before test k a (x ∷ y ∷ w) h = by_test (test x y) (none_before test (suc k) a (y ∷ w) (omega (arith, h)))
  where
    by_test : (b : Bool) → is_among a (places_where test (suc k) (y ∷ w)) ≡ false → is_among a (if b then k ∷ places_where test (suc k) (y ∷ w) else places_where test (suc k) (y ∷ w)) ≡ false
    by_test true ih = or_from (nat_eq k a) (is_among a (places_where test (suc k) (y ∷ w))) (ne_eqb k a (λ e. omega (arith, e, h))) ih
    by_test false ih = ih

-- all places outside a set pass a test where all places that fail it lie in the set
outside_pass : (test : Neighbours) (k n : ℕ) (w d all : List ℕ) → n ≡ length w - 1
    → ((a : ℕ) → k ≤ a → is_among a all ≡ is_among a (places_where test k w))
    → is_subset (filter (λ a. not (is_among a d)) (range_with_len k n)) all ≡ is_subset (places_where (λ x y. not (test x y)) k w) d
outside_pass test k zero [] d all e same = refl
outside_pass test k (suc n) [] d all e same = absurd (omega (arith, e))
outside_pass test k zero (x ∷ []) d all e same = refl
outside_pass test k (suc n) (x ∷ []) d all e same = absurd (omega (arith, e))
outside_pass test k zero (x ∷ y ∷ w) d all e same = absurd (omega (arith, e))
outside_pass test k (suc n) (x ∷ y ∷ w) d all e same =
    let next : k + 1 ≡ suc k = omega arith in
    let rest = (λ i. is_subset (filter (λ a. not (is_among a d)) (range_with_len (next i) n)) all)
    ∙ outside_pass test (suc k) n (y ∷ w) d all (omega (arith, e)) (λ a low. same a (omega (arith, low)) ∙ later a low (test x y)) in
    by_tests (is_among k d) refl (test x y) (same k (omega arith)) rest
  where
    later : (a : ℕ) → suc k ≤ a → (b : Bool) → is_among a (if b then k ∷ places_where test (suc k) (y ∷ w) else places_where test (suc k) (y ∷ w)) ≡ is_among a (places_where test (suc k) (y ∷ w))
    later a low true = ap (λ b. b || is_among a (places_where test (suc k) (y ∷ w))) (ne_eqb k a (λ e. omega (arith, e, low)))
    later a low false = refl

    here : (b : Bool) → is_among k (if b then k ∷ places_where test (suc k) (y ∷ w) else places_where test (suc k) (y ∷ w)) ≡ b
    here true = ap (λ b. b || is_among k (places_where test (suc k) (y ∷ w))) (eq-eqb k k refl)
    here false = none_before test (suc k) k (y ∷ w) (omega arith)

    by_tests : (m : Bool) → is_among k d ≡ m → (b : Bool)
        → is_among k all ≡ is_among k (if b then k ∷ places_where test (suc k) (y ∷ w) else places_where test (suc k) (y ∷ w))
        → is_subset (filter (λ a. not (is_among a d)) (range_with_len (k + 1) n)) all ≡ is_subset (places_where (λ x y. not (test x y)) (suc k) (y ∷ w)) d
        → is_subset (if not (is_among k d) then k ∷ filter (λ a. not (is_among a d)) (range_with_len (k + 1) n) else filter (λ a. not (is_among a d)) (range_with_len (k + 1) n)) all
        ≡ is_subset (if not b then k ∷ places_where (λ x y. not (test x y)) (suc k) (y ∷ w) else places_where (λ x y. not (test x y)) (suc k) (y ∷ w)) d
    by_tests true m true at rest = rw m rest
    by_tests true m false at rest = rw m rest
    by_tests false m true at rest = rw m ((λ i. (at ∙ here true) i && rest i))
    by_tests false m false at rest = rw m (ap (λ b. b && is_subset (filter (λ a. not (is_among a d)) (range_with_len (k + 1) n)) all) (at ∙ here false))

same_if : (a b c : Bool) → (a ≡ true → b ≡ c) → (a && b) ≡ (a && c)
same_if true b c h = h refl
same_if false b c h = refl

-- the two bases

elementary_fits : (code p : List ℕ) → occurs NcsfL code p ≡ fits (λ x y. not (nat_lt y x)) code p
elementary_fits code p =
    same_if (nat_eq (length p) (sum code)) (is_subset (places_outside code) (places_where (λ x y. nat_lt y x) 1 p)) (is_subset (places_where (λ x y. not (nat_lt y x)) 1 p) (descent_set code))
    (λ e. outside_pass (λ x y. nat_lt y x) 1 (sum code - 1) p (descent_set code) (places_where (λ x y. nat_lt y x) 1 p) (omega (arith, eqb-true (length p) (sum code) e)) (λ a low. refl))

-- a complete function occurs at words of its size
pub complete_at_length : (code : List ℕ) → OccursAtLength NcsfS code (sum code)
complete_at_length code p e = eqb-true (length p) (sum code) (and_parts (nat_eq (length p) (sum code)) _ e).0

-- and so does an elementary one
pub elementary_at_length : (code : List ℕ) → OccursAtLength NcsfL code (sum code)
elementary_at_length code p e = eqb-true (length p) (sum code) (and_parts (nat_eq (length p) (sum code)) _ e).0

-- S of I times S of J is S of I . J
pub complete_read : (i j : List ℕ) → IsProduct NcsfS i j ((i ++ j) ∷ [])
complete_read i j =
    reads_as_product NcsfS ((i ++ j) ∷ []) i j (sum i) refl (complete_at_length i)
    (λ p point.
    omega (
      arith,
      ap one_if (fits-append (λ x y. nat_lt y x) i j p),
      one_if-and (fits (λ x y. nat_lt y x) i (take (sum i) p)) (fits (λ x y. nat_lt y x) j (drop (sum i) p)),
    ))

-- L of I times L of J is L of I . J
pub elementary_read : (i j : List ℕ) → IsProduct NcsfL i j ((i ++ j) ∷ [])
elementary_read i j =
    reads_as_product NcsfL ((i ++ j) ∷ []) i j (sum i) refl (elementary_at_length i)
    (λ p point.
    let whole : one_if (occurs NcsfL (i ++ j) p) ≡ one_if (occurs NcsfL i (take (sum i) p)) * one_if (occurs NcsfL j (drop (sum i) p)) =
    ap one_if (elementary_fits (i ++ j) p ∙ fits-append (λ x y. not (nat_lt y x)) i j p)
    ∙ one_if-and (fits (λ x y. not (nat_lt y x)) i (take (sum i) p)) (fits (λ x y. not (nat_lt y x)) j (drop (sum i) p))
    ∙ (λ k. one_if (sym (elementary_fits i (take (sum i) p)) k) * one_if (sym (elementary_fits j (drop (sum i) p)) k)) in
    omega (arith, whole))
