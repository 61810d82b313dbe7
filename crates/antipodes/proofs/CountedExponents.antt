-- In how many ways exponents are sums of nonzero exponents, in order.
use Rattle.std.proofs.Common.{◌≡◌, ℕ, zero, suc, ◌+◌, ◌<◌, ◌≤◌, Bool, true, false, List, [], ◌∷◌, map, length, get_or, refl, ◌∙◌, ap, arith}
use Rattle.std.specs.Prelude.{if◌then◌else◌, nat_lt}
use Rattle.std.specs.List.{AllByRecursion, sum}
use Rattle.std.proofs.lemmas.Bool.Decides.{nat_tests}
use Rattle.std.proofs.lemmas.List.{length-append, length-map}
use Rattle.antipode_laws.proofs.ExponentsOfOne.{is_one-degree, degree-one}
use Rattle.antipodes.proofs.BoundedSums.{sums_le, sums_le_every, up_to_ten}
use Rattle.coproduct_rules.proofs.DegreeCuts.{sum-first}
use Rattle.coproduct_rules.proofs.ShuffleNumbers.{length-flat_map}
use Rattle.realisations.specs.Exponents.{number_cuts, exponent_cuts, is_one, exponent_pieces, exponent_pieces_up_to, all_exponent_pieces}
use Rattle.realisations.proofs.Every.{every-map, every-flat_map}
use Rattle.realisations.proofs.Sums.{sums, sums-add, sums-map, sums-flat_map, sums_same, over_cuts, over_cuts-suc}

-- nothing where the test holds
abbrev unless : Bool → ℕ → ℕ
unless true n = 0
unless false n = n

-- one piece more
length-pieces : (k : ℕ) (p : List ℕ) → length (exponent_pieces (suc k) p) ≡ sums (λ (c : List ℕ × List ℕ). unless (is_one c.0) (length (exponent_pieces k c.1))) (exponent_cuts p)
length-pieces k p =
    length-flat_map (λ (c : List ℕ × List ℕ). if is_one c.0 then [] else map (λ pieces. c.0 ∷ pieces) (exponent_pieces k c.1)) (exponent_cuts p)
    ∙ sums_same _ _ (λ (c : List ℕ × List ℕ). each c.0 c.1 (is_one c.0)) (exponent_cuts p)
  where
    each : (u v : List ℕ) (b : Bool) → length (if b then [] else map (λ pieces. u ∷ pieces) (exponent_pieces k v)) ≡ unless b (length (exponent_pieces k v))
    each u v true = refl
    each u v false = length-map (exponent_pieces k v) (λ pieces. u ∷ pieces)

-- up to a number of pieces
abbrev count_up_to : ℕ → List ℕ → ℕ
count_up_to k p = length (exponent_pieces_up_to k p)

count_up_to-suc : (k : ℕ) (p : List ℕ) → count_up_to (suc k) p ≡ length (exponent_pieces 0 p) + sums (λ (c : List ℕ × List ℕ). unless (is_one c.0) (count_up_to k c.1)) (exponent_cuts p)
count_up_to-suc zero p = omega (arith, length-append (exponent_pieces 0 p) (exponent_pieces 1 p), length-pieces 0 p)
count_up_to-suc (suc k) p =
    omega (
      arith,
      length-append (exponent_pieces_up_to (suc k) p) (exponent_pieces (suc (suc k)) p),
      count_up_to-suc k p,
      length-pieces (suc k) p,
      sums-add (λ (c : List ℕ × List ℕ). unless (is_one c.0) (count_up_to k c.1)) (λ (c : List ℕ × List ℕ). unless (is_one c.0) (length (exponent_pieces (suc k) c.1))) (exponent_cuts p),
      sums_same (λ (c : List ℕ × List ℕ). unless (is_one c.0) (count_up_to (suc k) c.1)) (λ (c : List ℕ × List ℕ). unless (is_one c.0) (count_up_to k c.1) + unless (is_one c.0) (length (exponent_pieces (suc k) c.1)))
          (λ (c : List ℕ × List ℕ). both c.1 (is_one c.0)) (exponent_cuts p),
    )
  where
    both : (v : List ℕ) (b : Bool) → unless b (count_up_to (suc k) v) ≡ unless b (count_up_to k v) + unless b (length (exponent_pieces (suc k) v))
    both v true = refl
    both v false = length-append (exponent_pieces_up_to k v) (exponent_pieces (suc k) v)

-- the sum of a function of the sizes of all subsets of n things
abbrev over_subsets : ℕ → (ℕ → ℕ) → ℕ
over_subsets zero g = g 0
over_subsets (suc n) g = over_subsets n g + over_subsets n (λ j. g (suc j))

over_subsets_same : (n : ℕ) (f g : ℕ → ℕ) → ((j : ℕ) → f j ≡ g j) → over_subsets n f ≡ over_subsets n g
over_subsets_same zero f g h = h 0
over_subsets_same (suc n) f g h = omega (arith, over_subsets_same n f g h, over_subsets_same n (λ j. f (suc j)) (λ j. g (suc j)) (λ j. h (suc j)))

-- subsets that hold n things more
with_all : (n m : ℕ) (g : ℕ → ℕ) → over_subsets m (λ j. g (n + j)) ≤ over_subsets (n + m) g
with_all zero m g =
    let none : 0 + m ≡ m = omega arith in
    omega (arith, over_subsets_same m (λ j. g (0 + j)) g (λ j. ap g (plus_none j)), ap (λ k. over_subsets k g) none)
  where
    plus_none : (j : ℕ) → 0 + j ≡ j
    plus_none j = omega arith
with_all (suc n) m g =
    let more : suc n + m ≡ suc (n + m) = omega arith in
    omega (
      arith,
      over_subsets_same m (λ j. g (suc n + j)) (λ j. g (suc (n + j))) (λ j. ap g (later j)),
      with_all n m (λ j. g (suc j)),
      ap (λ k. over_subsets k g) more,
    )
  where
    later : (j : ℕ) → suc n + j ≡ suc (n + j)
    later j = omega arith

-- a front of n equal things, of which some are held
with_some : (n m : ℕ) (g : ℕ → ℕ) → over_cuts n (λ i j. over_subsets m (λ k. g (j + k))) ≤ over_subsets (n + m) g
with_some zero m g = omega (arith, with_all 0 m g)
with_some (suc n) m g =
    let more : suc n + m ≡ suc (n + m) = omega arith in
    omega (
      arith,
      over_cuts-suc n (λ i j. over_subsets m (λ k. g (j + k))),
      over_subsets_same m (λ k. g (suc n + k)) (λ k. g (suc (n + k))) (λ k. ap g (later k)),
      with_all n m (λ j. g (suc j)),
      with_some n m g,
      ap (λ k. over_subsets k g) more,
    )
  where
    later : (k : ℕ) → suc n + k ≡ suc (n + k)
    later k = omega arith

-- the cuts of exponents are no more than those of as many different things
cuts_within : (p : List ℕ) (g : ℕ → ℕ) → sums (λ (c : List ℕ × List ℕ). g (sum c.1)) (exponent_cuts p) ≤ over_subsets (sum p) g
cuts_within [] g = omega arith
cuts_within (n ∷ p) g =
    let inner : ℕ → ℕ = λ j. sums (λ (c : List ℕ × List ℕ). g (sum (j ∷ c.1))) (exponent_cuts p) in
    let split : sums (λ (c : List ℕ × List ℕ). g (sum c.1)) (exponent_cuts (n ∷ p)) ≡ over_cuts n (λ i j. inner j) =
    sums-flat_map (λ (c : List ℕ × List ℕ). g (sum c.1)) (λ (e : ℕ × ℕ). map (λ (c : List ℕ × List ℕ). (e.0 ∷ c.0, e.1 ∷ c.1)) (exponent_cuts p)) (number_cuts n)
    ∙ sums_same _ _ (λ (e : ℕ × ℕ). sums-map (λ (c : List ℕ × List ℕ). g (sum c.1)) (λ (c : List ℕ × List ℕ). (e.0 ∷ c.0, e.1 ∷ c.1)) (exponent_cuts p)) (number_cuts n) in
    let each : over_cuts n (λ i j. inner j) ≤ over_cuts n (λ i j. over_subsets (sum p) (λ k. g (j + k))) =
    sums_le (λ (e : ℕ × ℕ). inner e.1) (λ (e : ℕ × ℕ). over_subsets (sum p) (λ k. g (e.1 + k)))
    (λ (e : ℕ × ℕ). omega (arith, sums_same (λ (c : List ℕ × List ℕ). g (sum (e.1 ∷ c.1))) (λ (c : List ℕ × List ℕ). g (e.1 + sum c.1)) (λ (c : List ℕ × List ℕ). ap g (sum-first e.1 c.1)) (exponent_cuts p), cuts_within p (λ k. g (e.1 + k)))) (number_cuts n) in
    omega (arith, split, each, with_some n (sum p) g, ap (λ k. over_subsets k g) (sum-first n p))

-- the parts of a cut add to the exponents
sums_of_numbers : (n : ℕ) → AllByRecursion (λ (e : ℕ × ℕ). e.0 + e.1 ≡ n) (number_cuts n)
sums_of_numbers zero = (refl, tt)
sums_of_numbers (suc n) =
    (omega arith, every-map (λ (e : ℕ × ℕ). e.0 + e.1 ≡ n) (λ (e : ℕ × ℕ). e.0 + e.1 ≡ suc n) (λ (e : ℕ × ℕ). (suc e.0, e.1)) (λ e h. omega (arith, h)) (number_cuts n) (sums_of_numbers n))

sums_of_cuts : (p : List ℕ) → AllByRecursion (λ (c : List ℕ × List ℕ). sum c.0 + sum c.1 ≡ sum p) (exponent_cuts p)
sums_of_cuts [] = (refl, tt)
sums_of_cuts (n ∷ p) =
    every-flat_map (λ (e : ℕ × ℕ). e.0 + e.1 ≡ n) (λ (c : List ℕ × List ℕ). sum c.0 + sum c.1 ≡ sum (n ∷ p)) (λ (e : ℕ × ℕ). map (λ (c : List ℕ × List ℕ). (e.0 ∷ c.0, e.1 ∷ c.1)) (exponent_cuts p))
    (λ e h. every-map (λ (c : List ℕ × List ℕ). sum c.0 + sum c.1 ≡ sum p) (λ (c : List ℕ × List ℕ). sum c.0 + sum c.1 ≡ sum (n ∷ p)) (λ (c : List ℕ × List ℕ). (e.0 ∷ c.0, e.1 ∷ c.1))
    (λ c k. omega (arith, h, k, sum-first e.0 c.0, sum-first e.1 c.1, sum-first n p)) (exponent_cuts p) (sums_of_cuts p)) (number_cuts n) (sums_of_numbers n)

-- the number of ordered set partitions
abbrev pub ordered_partitions : ℕ → ℕ
ordered_partitions n = get_or (1 ∷ 1 ∷ 3 ∷ 13 ∷ 75 ∷ 541 ∷ 4683 ∷ 47293 ∷ 545835 ∷ 7087261 ∷ 102247563 ∷ []) n 0

-- those of fewer things
abbrev below : ℕ → ℕ → ℕ
below n j = if nat_lt j n then ordered_partitions j else 0

partitions_step : (n : ℕ) → n < 10 → over_subsets (suc n) (below (suc n)) ≡ ordered_partitions (suc n)
partitions_step n lt =
    up_to_ten (λ n. n < 10 → over_subsets (suc n) (below (suc n)) ≡ ordered_partitions (suc n))
    (λ l. refl) (λ l. refl) (λ l. refl) (λ l. refl) (λ l. refl) (λ l. refl) (λ l. refl) (λ l. refl) (λ l. refl) (λ l. refl) (λ l. absurd (omega (arith, l))) n (omega (arith, lt)) lt

-- no pieces make exponents that are 0 alone
count_none : (b : Bool) → length {A = List (List ℕ)} (if b then [] ∷ [] else []) ≤ 1
count_none true = omega arith
count_none false = omega arith

pieces_of_some : (p : List ℕ) → 1 ≤ sum p → length (exponent_pieces 0 p) ≡ 0
pieces_of_some p some = by_test (is_one p) refl
  where
    by_test : (b : Bool) → is_one p ≡ b → length {A = List (List ℕ)} (if b then [] ∷ [] else []) ≡ 0
    by_test true e = absurd (omega (arith, some, degree-one p e))
    by_test false e = refl

-- what is left after a piece
rest_within : (n : ℕ) (u v : List ℕ) (x : ℕ) → sum u + sum v ≡ n → x ≤ ordered_partitions (sum v) → unless (is_one u) x ≤ below n (sum v)
rest_within n u v x sums few = by_test (is_one u) refl
  where
    less : is_one u ≡ false → nat_lt (sum v) n ≡ true
    less e = let lt : sum v < n = omega (arith, is_one-degree u e, sums) in grind (arith, nat_tests)

    by_test : (b : Bool) → is_one u ≡ b → unless b x ≤ below n (sum v)
    by_test true e = omega arith
    by_test false e = omega (arith, few, ap (λ b. if b then ordered_partitions (sum v) else 0) (less e))

-- ways of one piece more, by the degree
one_more : (k : ℕ) → ((v : List ℕ) → sum v ≤ 10 → count_up_to k v ≤ ordered_partitions (sum v)) → (p : List ℕ) (n : ℕ) → sum p ≡ n → n ≤ 10 → count_up_to (suc k) p ≤ ordered_partitions n
one_more k few p n is le =
    let each : sums (λ (c : List ℕ × List ℕ). unless (is_one c.0) (count_up_to k c.1)) (exponent_cuts p) ≤ sums (λ (c : List ℕ × List ℕ). below n (sum c.1)) (exponent_cuts p) =
    sums_le_every (λ (c : List ℕ × List ℕ). sum c.0 + sum c.1 ≡ sum p) _ _
    (λ c h. rest_within n c.0 c.1 (count_up_to k c.1) (h ∙ is) (few c.1 (omega (arith, h, is, le)))) (exponent_cuts p) (sums_of_cuts p) in
    by_degree n is le (omega (arith, each, cuts_within p (below n), ap (λ m. over_subsets m (below n)) is))
  where
    by_degree : (n : ℕ) → sum p ≡ n → n ≤ 10 → sums (λ (c : List ℕ × List ℕ). unless (is_one c.0) (count_up_to k c.1)) (exponent_cuts p) ≤ over_subsets n (below n) → count_up_to (suc k) p ≤ ordered_partitions n
    by_degree zero is le h = omega (arith, count_up_to-suc k p, count_none (is_one p), h)
    by_degree (suc n) is le h = omega (arith, count_up_to-suc k p, pieces_of_some p (omega (arith, is)), h, partitions_step n (omega (arith, le)))

-- up to ten there are at most as many ways as ordered set partitions
few_up_to : (k : ℕ) (p : List ℕ) → sum p ≤ 10 → count_up_to k p ≤ ordered_partitions (sum p)
few_up_to zero p le = by_degree (sum p) refl
  where
    by_degree : (n : ℕ) → sum p ≡ n → count_up_to 0 p ≤ ordered_partitions n
    by_degree zero is = count_none (is_one p)
    by_degree (suc n) is = omega (arith, pieces_of_some p (omega (arith, is)))
few_up_to (suc k) p le = one_more k (few_up_to k) p (sum p) refl le

-- so there are of all ways
pub few_pieces : (p : List ℕ) → sum p ≤ 10 → length (all_exponent_pieces p) ≤ ordered_partitions (sum p)
few_pieces p le = few_up_to (sum p) p le
