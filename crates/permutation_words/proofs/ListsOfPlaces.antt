-- The lists of places that an iterator over combinations gives, and the shuffles at those that it still has to give.
use Rattle.std.proofs.Common.{◌≡◌, ℕ, zero, suc, ◌+◌, ◌-◌, ◌<◌, ◌≤◌, List, [], ◌∷◌, ◌++◌, length, map, slice_index_or, Option, Some, Result, Ok, refl, sym, ◌∙◌, ap, subst, arith, append_assoc, zero-add}
use Rattle.std.specs.Prelude.{flat_map, All}
use Rattle.std.specs.List.{range_with_len}
use Rattle.std.specs.Vec.{vec_len}
use Rattle.std.specs.Iterator.Runs.{WholeRun, YieldsRun}
use Rattle.std.specs.declared.vec.Vec.{Vec}
use Rattle.std.proofs.iter.Yields.{nat_range_steps}
use Rattle.std.proofs.lemmas.Iterator.{YieldsList-from_range, items_from_drains}
use Rattle.std.proofs.lemmas.List.{length-take-le, map-id}
use Rattle.std.proofs.lemmas.List.Elements.{All-nil, All-cons, All-head, All-tail, All-append, All-map, All-weaker}
use Rattle.std.proofs.lemmas.List.FromFn.{get_or-range_with_len, length-range_with_len}
use Rattle.itertools.specs.Odometer.{numbers, ways, Fits}
use Rattle.itertools.specs.Pool.{ascending_low, ascending_high, combination_left, pool_steps, reads_pool, ClonesAt}
use Rattle.itertools.specs.declared.combinations.Combinations.{Combinations}
use Rattle.itertools.proofs.OdometerLemmas.{Fits-at}
use Rattle.itertools.proofs.PoolLemmas.{ascending-below}
use Rattle.linear_combos.specs.Codes.{IsCode}
use Rattle.realisations.specs.Words.{shuffles}
use Rattle.permutation_words.specs.Interleaving.{TakesLettersAt, put_in}
use Rattle.permutation_words.proofs.ShufflePlaces.{ascending_places, shuffled_by_places}

-- k places among n: each one leaves room for those that come after it
pub record IsListOfPlaces (n k : ℕ) (ds : List ℕ) : Type 0 where
  pub all : length ds ≡ k
  pub within : (i : ℕ) → i < length ds → slice_index_or ds i 0 + k ≤ n + i
  pub below : All (λ d. d < n) ds

numbers-inside : (a n : ℕ) → All (λ d. (a ≤ d) × (d < a + n)) (numbers a n)
numbers-inside a zero = All-nil (λ d. (a ≤ d) × (d < a + 0))
numbers-inside a (suc n) =
    All-cons (λ d. (a ≤ d) × (d < a + suc n)) a (numbers (a + 1) n) (omega arith, omega arith)
    (All-weaker (λ d. (a + 1 ≤ d) × (d < a + 1 + n)) (λ d. (a ≤ d) × (d < a + suc n)) (λ d h. (omega (arith, h.0), omega (arith, h.1))) (numbers (a + 1) n) (numbers-inside (a + 1) n))

-- each of the ways to go on from p with m choices is m choices that fit
module _ (low high : List ℕ → ℕ) where
  abbrev FitsAll : ℕ → List ℕ → List ℕ → Type 0
  FitsAll m p ds = Fits low high p ds × (length ds ≡ m)

  fit_after : (m : ℕ) (p : List ℕ) → ((d : ℕ) → All (FitsAll m (p ++ d ∷ [])) (ways low high m (p ++ d ∷ []))) → (ns : List ℕ) → All (λ d. (low p ≤ d) × (d < high p)) ns
      → All (FitsAll (suc m) p) (flat_map (λ d. map (λ ds. d ∷ ds) (ways low high m (p ++ d ∷ []))) ns)
  fit_after m p later [] h = All-nil (FitsAll (suc m) p)
  fit_after m p later (d ∷ ns) h =
      let here = All-head (λ d. (low p ≤ d) × (d < high p)) d ns h in
      All-append (FitsAll (suc m) p) (map (λ ds. d ∷ ds) (ways low high m (p ++ d ∷ []))) (flat_map (λ d. map (λ ds. d ∷ ds) (ways low high m (p ++ d ∷ []))) ns)
      (All-map (FitsAll (suc m) p) (λ ds. d ∷ ds) (ways low high m (p ++ d ∷ []))
      (All-weaker (FitsAll m (p ++ d ∷ [])) (λ ds. FitsAll (suc m) p (d ∷ ds)) (λ ds k. ((here.0, here.1, k.0), ap suc k.1)) (ways low high m (p ++ d ∷ [])) (later d)))
      (fit_after m p later ns (All-tail (λ d. (low p ≤ d) × (d < high p)) d ns h))

  ways_fit : (m : ℕ) (p : List ℕ) → All (FitsAll m p) (ways low high m p)
  ways_fit zero p = All-cons (FitsAll 0 p) [] [] (tt, refl) (All-nil (FitsAll 0 p))
  ways_fit (suc m) p =
      fit_after m p (λ d. ways_fit m (p ++ d ∷ [])) (numbers (low p) (high p - low p))
      (All-weaker (λ d. (low p ≤ d) × (d < low p + (high p - low p))) (λ d. (low p ≤ d) × (d < high p)) (λ d h. (h.0, omega (arith, h.0, h.1))) (numbers (low p) (high p - low p)) (numbers-inside (low p) (high p - low p)))

-- what each list of ascending places is
each_of_places : (n k : ℕ) → k ≤ n → All (IsListOfPlaces n k) (ascending_places n k)
each_of_places n k le =
    All-weaker (FitsAll ascending_low (ascending_high n k) k []) (IsListOfPlaces n k)
    (λ ds h. record {
      all = h.1;
      within = λ i lt. omega (arith, (Fits-at ascending_low (ascending_high n k) ds [] i h.0 lt).1, length-take-le i ds (omega (arith, lt)), le);
      below = ascending-below n k le ds [] h.0 (omega (arith, h.1));
    })
    (ascending_places n k) (ways_fit ascending_low (ascending_high n k) k [])

-- the numbers at places among the numbers from 0 on are the places
read_places : (n : ℕ) (ds vs : List ℕ) → All (λ d. d < n) ds → ClonesAt (λ x y. y ≡ x) (range_with_len 0 n) ds vs → vs ≡ ds
read_places n [] [] h read = refl
read_places n (d ∷ ds) (v ∷ vs) h read =
    let small = All-head (λ d. d < n) d ds h in
    let first : v ≡ d = read.0 ∙ get_or-range_with_len 0 n d v small ∙ zero-add d in
    let rest = read_places n ds vs (All-tail (λ d. d < n) d ds h) read.1 in
    λ i. first i ∷ rest i
read_places n [] (v ∷ vs) h read = elim read [ ]
read_places n (d ∷ ds) [] h read = elim read [ ]

-- what is collected from a range
collected : (n : ℕ) (pool : List ℕ) → WholeRun nat_range_steps (record { start = 0; end = n }) (λ p. pool ≡ p.items) → pool ≡ range_with_len 0 n
unfolding YieldsRun
collected n pool (p, from, whole, is) =
    let (t, gave, ended) = p.gave.0 in
    is ∙ sym (map-id p.items) ∙ items_from_drains p.items (t, gave, λ _. ended whole) (YieldsList-from_range 0 n n from (omega arith))

-- the shuffles so far, followed by those at the lists of places that are left, are all
pub record AreLeft {Z : Type 0} (a b : List ℕ) (codes : List (List ℕ)) (lists : Combinations ℕ Z) : Type 0 where
  pub shuffled : codes ++ map (λ q. put_in q a b) (combination_left lists) ≡ shuffles a b
  pub places : All (IsListOfPlaces (length a + length b) (length a)) (combination_left lists)
  pub pool : lists.pool.items ≡ range_with_len 0 (length a + length b)

-- a step of an iterator over combinations of numbers
abbrev Steps : {Z E : Type 0} → Combinations ℕ Z → Option (Result (Vec ℕ Z) E) → Combinations ℕ Z → Type 0
Steps s r t = pool_steps combination_left (λ u. u.pool.items) (reads_pool (λ x y. y ≡ x)) s r t

-- those that `combinations` makes of a range give each list of places
pub all_left : {Z : Type 0} (a b : List ℕ) (codes : List (List ℕ)) (given lists : Combinations ℕ Z) (n k : ℕ) → n ≡ length a + length b → k ≡ length a → codes ≡ [] → lists ≡ given
    → vec_len given.pool ≡ length given.pool.items → WholeRun nat_range_steps (record { start = 0; end = n }) (λ p. given.pool.items ≡ p.items) → combination_left given ≡ ascending_places (vec_len given.pool) k
    → AreLeft a b codes lists
all_left a b codes given lists n k is_n is_k none is known run left =
    let pool = collected n given.pool.items run in
    let long : vec_len given.pool ≡ length a + length b = known ∙ ap (λ (l : List ℕ). length l) pool ∙ length-range_with_len 0 n ∙ is_n in
    let places : combination_left lists ≡ ascending_places (length a + length b) (length a) = ap combination_left is ∙ left ∙ (λ i. ascending_places (long i) (is_k i)) in
    record {
      shuffled = (λ i. none i ++ map (λ q. put_in q a b) (places i)) ∙ shuffled_by_places a b;
      places = subst (All (IsListOfPlaces (length a + length b) (length a))) (sym places) (each_of_places (length a + length b) (length a) (omega arith));
      pool = ap (λ (l : Combinations ℕ _). l.pool.items) is ∙ pool ∙ ap (range_with_len 0) is_n;
    }

-- one list more: its places are those that the iterator gives, and what is left is all but this list
module _ {Z E : Type 0} (a b : List ℕ) (codes : List (List ℕ)) (s t : Combinations ℕ Z) (item : Result (Vec ℕ Z) E) (v : Vec ℕ Z) (is : item ≡ Ok v)
    (left : AreLeft a b codes s) (steps : Steps s (Some item) t) where
  next_is : IsListOfPlaces (length a + length b) (length a) v.items × (combination_left s ≡ v.items ∷ combination_left t) × All (IsListOfPlaces (length a + length b) (length a)) (combination_left t) × (t.pool.items ≡ range_with_len 0 (length a + length b))
  next_is =
      let found = subst (λ r. Steps s (Some r) t) is steps in
      let (ds, at, read) = found.1 in
      let here = subst (All (IsListOfPlaces (length a + length b) (length a))) at left.places in
      let first = All-head (IsListOfPlaces (length a + length b) (length a)) ds (combination_left t) here in
      let same : v.items ≡ ds = read_places (length a + length b) ds v.items first.below (subst (λ (pool : List ℕ). ClonesAt (λ x y. y ≡ x) pool ds v.items) left.pool read) in (
        subst (IsListOfPlaces (length a + length b) (length a)) (sym same) first,
        at ∙ ap (λ ds. ds ∷ combination_left t) (sym same),
        All-tail (IsListOfPlaces (length a + length b) (length a)) ds (combination_left t) here,
        sym found.0 ∙ left.pool,
      )

  pub next_takes : (places : List ℕ) → places ≡ v.items → length a + length b ≤ 15 → IsCode a → IsCode b → TakesLettersAt places a b
  next_takes places same short first second =
      let known = subst (IsListOfPlaces (length a + length b) (length a)) (sym same) next_is.0 in
      record {
        all = known.all;
        within = λ i lt. omega (arith, known.within i lt);
        room = short;
        first = first;
        second = second;
      }

  pub next_left : (places : List ℕ) (new : List (List ℕ)) (word : List ℕ) → places ≡ v.items → word ≡ put_in places a b → new ≡ codes ++ word ∷ [] → AreLeft a b new t
  next_left places new word same is_word is_new =
      let pushed : new ≡ codes ++ put_in v.items a b ∷ [] = is_new ∙ ap (λ w. codes ++ w ∷ []) (is_word ∙ ap (λ q. put_in q a b) same) in
      record {
        shuffled =
            ap (λ ws. ws ++ map (λ q. put_in q a b) (combination_left t)) pushed
            ∙ append_assoc codes (put_in v.items a b ∷ []) (map (λ q. put_in q a b) (combination_left t))
            ∙ ap (λ ls. codes ++ map (λ q. put_in q a b) ls) (sym next_is.1)
            ∙ left.shuffled;
        places = next_is.2;
        pool = next_is.3;
      }
