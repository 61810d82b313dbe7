-- Rows of products: each from products of compositions without their first parts.
use Rattle.std.proofs.Common.{◌≡◌, ◌≢◌, ℕ, zero, suc, ◌+◌, ◌-◌, ◌^◌, ◌<◌, ◌≤◌, List, [], ◌∷◌, ◌++◌, map, length, drop, get_or, inl, inr, refl, subst, sym, ◌∙◌, ap, arith, unsigned_abs}
use Rattle.std.proofs.Math.IntN.{ℤ, pos, ◌+ℤ◌, ◌*ℤ◌}
use Rattle.std.proofs.lemmas.Int.{ints}
use Rattle.std.proofs.lemmas.Bool.{cases_lt}
use Rattle.std.proofs.lemmas.List.{take_all, drop_all, drop-drop, get_or_default, length-drop, length_push, get_or_push, get_or_append_left}
use Rattle.std.proofs.lemmas.List.Sums.{sum_by-cons}
use Rattle.std.specs.List.{sum}
use Rattle.realisations.specs.Codes.{Key}
use Rattle.realisations.specs.Combinations.{Combination, AddsTerm, AreTerms, HasKey, norm_of, term_at, weighed}
use Rattle.realisations.specs.IndexKinds.{IsComposition}
use Rattle.realisations.specs.Lists.{int_sum}
use Rattle.realisations.specs.Readings.{Terms}
use Rattle.linear_combos.specs.Codes.{IsCode}
use Rattle.linear_combos.specs.Combos.{IsSumOfTerms}
use Rattle.linear_combos.proofs.Merging.{weighed-more}
use Rattle.linear_combos.proofs.Weights.{norm-more, norm-part}
use Rattle.compositions.specs.QuasiShuffles.{quasi_shuffles, IsKeyOf, IsProduct, AreFactors, AreProducts, behind, cell, CanStandBehind, AddsBehind, AddsBoth}
use Rattle.compositions.proofs.Parts.{rest, shuffles_parts, length-shuffles, sum_parts, first_part, shuffles_bound, length-le-sum, code_from_composition, one_times, quasi_shuffles-nil}

-- before the first term nothing was added
pub behind_none : (first : ℕ) (ts : Terms) (old : Combination) → AddsBehind first ts 0 old old
behind_none first ts old = record { rank = refl; norm = omega arith; weighs = λ w. omega (arith, ints); keys = λ key has. inl has }

-- one term more
pub behind_more : (first : ℕ) (ts : Terms) (i : ℕ) (old mid new : Combination) (num : ℤ) (key : Key) → i < length ts → AddsBehind first ts i old mid → num ≡ (term_at ts i).0
    → key ≡ behind first (term_at ts i).1 → new.rank ≡ mid.rank → AddsTerm mid.terms new.terms num key → norm_of new.terms ≤ norm_of mid.terms + unsigned_abs num → AddsBehind first ts (i + 1) old new
behind_more first ts i old mid new num key lt so_far num_is key_is rank adds norm = record {
  rank = rank ∙ so_far.rank;
  norm = omega (arith, norm, so_far.norm, norm-more ts i lt, ap unsigned_abs num_is);
  weighs = λ w.
      let term : num *ℤ w key ≡ (term_at ts i).0 *ℤ w (behind first (term_at ts i).1) = (λ n. num_is n *ℤ w (key_is n)) in
      omega (arith, ints, adds.weighs w, so_far.weighs w, term, weighed-more (λ k. w (behind first k)) ts i lt);
  keys = λ k has. elim (adds.keys k has) [
    | inl before ↦ so_far.keys k before
    | inr is ↦ inr ((term_at ts i).1, (i, lt, refl), is ∙ key_is)
  ];
}

-- the next term has room
pub behind_room : (first : ℕ) (ts : Terms) (i : ℕ) (old mid : Combination) → i < length ts → AddsBehind first ts i old mid → norm_of old.terms + norm_of ts < 2 ^ 127
    → norm_of mid.terms + unsigned_abs (term_at ts i).0 < 2 ^ 127
behind_room first ts i old mid lt so_far room = omega (arith, so_far.norm, norm-more ts i lt, norm-part ts (i + 1), room)

-- both lists, in either order
pub both_added : (first second : ℕ) (ts us : Terms) (old mid new : Combination) → AddsBehind first ts (length ts) old mid → AddsBehind second us (length us) mid new → AddsBoth first ts second us old new
both_added first second ts us old mid new p q =
    let left = take_all (length ts) ts (omega arith) in
    let right = take_all (length us) us (omega arith) in
    record {
      rank = q.rank ∙ p.rank;
      norm = omega (arith, p.norm, q.norm, ap norm_of left, ap norm_of right);
      weighs = λ w. omega (arith, ints, p.weighs w, q.weighs w, ap (weighed (λ k. w (behind first k))) left, ap (weighed (λ k. w (behind second k))) right);
      keys = λ k has. elim (q.keys k has) [
        | inr new_key ↦ inr (inr new_key)
        | inl before ↦ elim (p.keys k before) [
          | inr mid_key ↦ inr (inl mid_key)
          | inl old_key ↦ inl old_key
        ]
      ];
    }

pub both_turned : (first second : ℕ) (ts us : Terms) (old new : Combination) → AddsBoth second us first ts old new → AddsBoth first ts second us old new
both_turned first second ts us old new p = record {
  rank = p.rank;
  norm = omega (arith, p.norm);
  weighs = λ w. omega (arith, ints, p.weighs w);
  keys = λ k has. elim (p.keys k has) [
    | inl old_key ↦ inl old_key
    | inr new_key ↦ elim new_key [
      | inl second_key ↦ inr (inr second_key)
      | inr first_key ↦ inr (inl first_key)
    ]
  ];
}

-- room for the second list once the first was added
pub room_after : (first : ℕ) (ts : Terms) (n : ℕ) (old mid : Combination) → AddsBehind first ts (length ts) old mid → norm_of old.terms + norm_of ts + n < 2 ^ 127 → norm_of mid.terms + n < 2 ^ 127
room_after first ts n old mid p room = omega (arith, p.norm, norm-part ts (length ts), room)

-- keys of compositions of n can stand behind a part, where there is room
pub can_stand : (first n : ℕ) (ts : Terms) → 0 < first → first + n ≤ 12 → ((key : Key) → HasKey ts key → IsKeyOf n key) → CanStandBehind first ts
can_stand first n ts some room keys key has =
    let (code, is, composition, size) = keys key has in
    (code, is, code_from_composition (first ∷ code) (some, composition) (omega (arith, sum_by-cons (λ x. x) first code, size, room)))

-- the weight of words behind a part
words_behind : (w : Key → ℤ) (first : ℕ) (ws : List (List ℕ)) → int_sum (map (λ v. w (behind first (v ∷ []))) ws) ≡ int_sum (map (λ v. w (v ∷ [])) (map (λ v. first ∷ v) ws))
words_behind w first [] = refl
words_behind w first (v ∷ ws) = omega (arith, ints, words_behind w first ws)

words-append : (w : Key → ℤ) (xs ys : List (List ℕ)) → int_sum (map (λ v. w (v ∷ [])) (xs ++ ys)) ≡ int_sum (map (λ v. w (v ∷ [])) xs) +ℤ int_sum (map (λ v. w (v ∷ [])) ys)
words-append w [] ys = omega (arith, ints)
words-append w (x ∷ xs) ys = omega (arith, ints, words-append w xs ys)

-- a key of a composition behind a part is one of the larger size
key_behind : (first n m : ℕ) (key rest : Key) → 0 < first → first + n ≡ m → IsKeyOf n rest → key ≡ behind first rest → IsKeyOf m key
key_behind first n m key rest some size of is =
    let (code, rest_is, composition, total) = of in
    (first ∷ code, is ∙ ap (behind first) rest_is, (some, composition), omega (arith, sum_by-cons (λ x. x) first code, total, size))

module _ (a b : List ℕ) (la : 1 ≤ length a) (lb : 1 ≤ length b) (factors : AreFactors a b) where
  x : ℕ
  x = get_or a 0 0

  y : ℕ
  y = get_or b 0 0

  x_some : 0 < x
  unfolding x
  x_some = first_part a la factors.first

  y_some : 0 < y
  unfolding y
  y_some = first_part b lb factors.second

  sum_a : sum a ≡ x + sum (rest a)
  unfolding x
  sum_a = sum_parts a la

  sum_b : sum b ≡ y + sum (rest b)
  unfolding y
  sum_b = sum_parts b lb

  pub first_stands : (c : Combination) → IsProduct (rest a) b c → CanStandBehind (get_or a 0 0) c.terms
  unfolding x
  first_stands c is = can_stand x (sum (rest a) + sum b) c.terms x_some (omega (arith, sum_a, factors.small)) is.shuffles.keys

  pub second_stands : (c : Combination) → IsProduct a (rest b) c → CanStandBehind (get_or b 0 0) c.terms
  unfolding y
  second_stands c is = can_stand y (sum a + sum (rest b)) c.terms y_some (omega (arith, sum_b, factors.small)) is.shuffles.keys

  pub both_stand : (c : Combination) → IsProduct (rest a) (rest b) c → CanStandBehind (get_or a 0 0 + get_or b 0 0) c.terms
  unfolding x y
  both_stand c is = can_stand (x + y) (sum (rest a) + sum (rest b)) c.terms (omega (arith, x_some)) (omega (arith, sum_a, sum_b, factors.small)) is.shuffles.keys

  -- few quasi-shuffles
  pub few : length (quasi_shuffles a b) ≤ 3 ^ 12
  few = shuffles_bound 12 a b (omega (arith, length-le-sum a factors.first, length-le-sum b factors.second, factors.small))

  module _ (c1 c2 c3 : Combination) (p1 : IsProduct (rest a) b c1) (p2 : IsProduct a (rest b) c2) (p3 : IsProduct (rest a) (rest b) c3) where
    -- room for all
    pub norms : norm_of c1.terms + norm_of c2.terms + norm_of c3.terms ≤ length (quasi_shuffles a b)
    norms = omega (arith, p1.norm, p2.norm, p3.norm, length-shuffles a b la lb)

    pub room : norm_of c1.terms + norm_of c2.terms + norm_of c3.terms < 2 ^ 127
    room = omega (arith, norms, few)

    -- all three, in one combination
    module _ (none mid all whole : Combination) (start : none.terms ≡ []) (rank : none.rank ≡ 1) (both : AddsBoth (get_or a 0 0) c1.terms (get_or b 0 0) c2.terms none mid)
        (last : AddsBehind (get_or a 0 0 + get_or b 0 0) c3.terms (length c3.terms) mid all) (gathered : IsSumOfTerms all.rank all.terms whole) where
      all_norm : norm_of all.terms ≤ length (quasi_shuffles a b)
      all_norm = omega (arith, last.norm, both.norm, ap norm_of start, norm-part c3.terms (length c3.terms), norms)

      all_weighs : (w : Key → ℤ) → weighed w all.terms ≡ int_sum (map (λ v. w (v ∷ [])) (quasi_shuffles a b))
      all_weighs w =
          let one = map (λ v. get_or a 0 0 ∷ v) (quasi_shuffles (rest a) b) in
          let two = map (λ v. get_or b 0 0 ∷ v) (quasi_shuffles a (rest b)) in
          let three = map (λ v. (get_or a 0 0 + get_or b 0 0) ∷ v) (quasi_shuffles (rest a) (rest b)) in
          let list : int_sum (map (λ v. w (v ∷ [])) (quasi_shuffles a b)) ≡ int_sum (map (λ v. w (v ∷ [])) ((one ++ two) ++ three)) = ap (λ ws. int_sum (map (λ v. w (v ∷ [])) ws)) (shuffles_parts a b la lb) in
          omega (
            arith,
            ints,
            list,
            words-append w (one ++ two) three,
            words-append w one two,
            words_behind w (get_or a 0 0) (quasi_shuffles (rest a) b),
            words_behind w (get_or b 0 0) (quasi_shuffles a (rest b)),
            words_behind w (get_or a 0 0 + get_or b 0 0) (quasi_shuffles (rest a) (rest b)),
            p1.shuffles.weighs (λ k. w (behind (get_or a 0 0) k)),
            p2.shuffles.weighs (λ k. w (behind (get_or b 0 0) k)),
            p3.shuffles.weighs (λ k. w (behind (get_or a 0 0 + get_or b 0 0) k)),
            last.weighs w,
            ap (weighed (λ k. w (behind (get_or a 0 0 + get_or b 0 0) k))) (take_all (length c3.terms) c3.terms (omega arith)),
            both.weighs w,
            ap (weighed w) start,
          )

      all_keys : (key : Key) → HasKey all.terms key → IsKeyOf (sum a + sum b) key
      unfolding x y
      all_keys key has = elim (last.keys key has) [
        | inr h ↦ key_behind (x + y) (sum (rest a) + sum (rest b)) (sum a + sum b) key h.0 (omega (arith, x_some)) (omega (arith, sum_a, sum_b)) (p3.shuffles.keys h.0 h.1) h.2
        | inl before ↦ elim (both.keys key before) [
          | inl start_key ↦ absurd (omega (arith, ap length start, start_key.1))
          | inr h ↦ elim h [
            | inl g ↦ key_behind x (sum (rest a) + sum b) (sum a + sum b) key g.0 x_some (omega (arith, sum_a)) (p1.shuffles.keys g.0 g.1) g.2
            | inr g ↦ key_behind y (sum a + sum (rest b)) (sum a + sum b) key g.0 y_some (omega (arith, sum_b)) (p2.shuffles.keys g.0 g.1) g.2
          ]
        ]
      ]

      -- is the product
      pub product_made : IsProduct a b whole
      product_made =
          let one : all.rank ≡ 1 = last.rank ∙ both.rank ∙ rank in
          record {
            rank = gathered.rank_is ∙ one;
            whole = gathered.whole;
            terms = subst (λ r. AreTerms r whole.terms) one gathered.gathers.terms;
            norm = omega (arith, gathered.gathers.norm, all_norm);
            shuffles = record {
              weighs = λ w. gathered.gathers.weighs w ∙ all_weighs w;
              keys = λ key has. all_keys key (gathered.gathers.keys key has);
            };
          }

-- one composition alone is the product with the empty one
only_terms : (code : List ℕ) → AreTerms 1 ((pos 1, code ∷ []) ∷ [])
only_terms code = record {
  rising = λ i j less lt. absurd (omega arith);
  nonzero = λ i lt. one_term (λ (t : ℤ × Key). t.0 ≢ pos 0) (pos 1, code ∷ []) (λ e. absurd (omega (arith, ints, e))) i lt;
  ranks = λ i lt. one_term (λ (t : ℤ × Key). length t.1 ≡ 1) (pos 1, code ∷ []) refl i lt;
  small = omega arith;
}
  where
    one_term : (P : ℤ × Key → Type 0) (t : ℤ × Key) → P t → (i : ℕ) → i < 1 → P (term_at (t ∷ []) i)
    one_term P t h zero lt = h
    one_term P t h (suc i) lt = absurd (omega arith)

abbrev alone : List ℕ → Combination
alone code = record { rank = 1; den = 1; terms = (pos 1, code ∷ []) ∷ [] }

only_product : (j k code : List ℕ) → IsComposition code → sum code ≡ sum j + sum k → quasi_shuffles j k ≡ code ∷ [] → IsProduct j k (alone code)
only_product j k code h size is = record {
  rank = refl;
  whole = refl;
  terms = only_terms code;
  norm = omega (arith, ap length is);
  shuffles = record {
    weighs = λ w. omega (arith, ints, one_times (w (code ∷ [])), ap (λ ws. int_sum (map (λ v. w (v ∷ [])) ws)) is);
    keys = λ key has. subst (IsKeyOf (sum j + sum k)) (only_key key has) (code, refl, h, size);
  };
}
  where
    only_key : (key : Key) → HasKey ((pos 1, code ∷ []) ∷ []) key → code ∷ [] ≡ key
    only_key key (zero, lt, e) = e
    only_key key (suc i, lt, e) = absurd (omega arith)

pub only_left : (code : List ℕ) (c : Combination) → IsComposition code → c ≡ alone code → IsProduct [] code c
only_left code c h is = subst (IsProduct [] code) (sym is) (only_product [] code code h (omega arith) refl)

pub only_right : (code : List ℕ) (c : Combination) → IsComposition code → c ≡ alone code → IsProduct code [] c
only_right code c h is = subst (IsProduct code []) (sym is) (only_product code [] code h (omega arith) (quasi_shuffles-nil code))

-- a row with one product more
pub row_more : (j k : List ℕ) (n : ℕ) (row new : List Combination) (c : Combination) → AreProducts j k n row → IsProduct j (drop (length k - n) k) c → new ≡ row ++ c ∷ [] → AreProducts j k (n + 1) new
row_more j k n row new c so_far more is = record {
  long = ap length is ∙ omega (arith, length_push row c, so_far.long);
  each = λ m lt. subst (IsProduct j (drop (length k - m) k)) (ap (λ l. cell l m) (sym is)) (elim (cases_lt m n) [
    | inl below ↦ subst (IsProduct j (drop (length k - m) k)) (sym (get_or_append_left row (c ∷ []) (record { rank = 0; den = 1; terms = [] }) m (omega (arith, so_far.long)))) (so_far.each m below)
    | inr over ↦
        let same : m ≡ n = omega arith in
        let last : m ≡ length row = omega (arith, so_far.long) in
        subst (IsProduct j (drop (length k - m) k)) (sym (get_or_push row c (record { rank = 0; den = 1; terms = [] }) m (sym last))) (subst (λ i. IsProduct j (drop (length k - i) k) c) (sym same) more)
  ]);
}

-- an empty row, and one with the product with no part
pub row_none : (j k : List ℕ) → AreProducts j k 0 []
row_none j k = record { long = refl; each = λ m lt. absurd (omega arith) }

pub row_first : (a b : List ℕ) (row : List Combination) (c : Combination) → IsComposition a → c ≡ alone a → row ≡ [] ++ c ∷ [] → AreProducts a b 1 row
row_first a b row c h one is =
    let none : drop (length b - 0) b ≡ [] = drop_all (length b - 0) b (omega arith) in
    row_more a b 0 [] row c (row_none a b) (subst (λ k. IsProduct a k c) (sym none) (only_right a c h one)) is

-- the last parts of a composition
dropped_parts : (n : ℕ) (b : List ℕ) → IsComposition b → IsComposition (drop n b)
dropped_parts zero b h = h
dropped_parts (suc n) [] h = tt
dropped_parts (suc n) (y ∷ b) h = dropped_parts n b h.1

dropped_size : (n : ℕ) (b : List ℕ) → sum (drop n b) ≤ sum b
dropped_size zero b = omega arith
dropped_size (suc n) [] = omega arith
dropped_size (suc n) (y ∷ b) = omega (arith, dropped_size n b, sum_by-cons (λ x. x) y b)

module _ (b : List ℕ) (n : ℕ) (le : n ≤ length b) where
  pub last_parts : IsComposition b → IsComposition (drop (length b - n) b)
  last_parts h = dropped_parts (length b - n) b h

  pub last_size : sum (drop (length b - n) b) ≤ sum b
  last_size = dropped_size (length b - n) b

  pub last_length : length (drop (length b - n) b) ≡ n
  last_length = omega (arith, length-drop (length b - n) b)

  -- without their first
  pub last_rest : 1 ≤ n → drop 1 (drop (length b - n) b) ≡ drop (length b - (n - 1)) b
  last_rest some =
      let more : length b - n + 1 ≡ length b - (n - 1) = omega arith in
      drop-drop 1 (length b - n) b ∙ ap (λ m. drop m b) more

pub factors_last : (a b : List ℕ) (n : ℕ) → n ≤ length b → AreFactors a b → AreFactors a (drop (length b - n) b)
factors_last a b n le f = record { first = f.first; second = last_parts b n le f.second; small = omega (arith, last_size b n le, f.small) }

-- what a read of a row says
pub read_cell : (row : List Combination) (n : ℕ) (c : Combination) → n < length row → c ≡ get_or row n c → cell row n ≡ c
read_cell row n c lt is = get_or_default row n (record { rank = 0; den = 1; terms = [] }) c lt ∙ sym is

-- first parts are letters
module _ (a b : List ℕ) (la : 1 ≤ length a) (lb : 1 ≤ length b) (factors : AreFactors a b) where
  one_letter : (x : ℕ) → 0 < x → x ≤ 12 → IsCode (x ∷ [])
  one_letter x some small = code_from_composition (x ∷ []) (some, tt) (omega (arith, sum_by-cons (λ x. x) x []))

  pub first_letters : IsCode (get_or a 0 0 ∷ []) × IsCode (get_or b 0 0 ∷ [])
  first_letters = (
    one_letter (get_or a 0 0) (first_part a la factors.first) (omega (arith, sum_parts a la, factors.small)),
    one_letter (get_or b 0 0) (first_part b lb factors.second) (omega (arith, sum_parts b lb, factors.small)),
  )

  pub sum_letter : IsCode ((get_or a 0 0 + get_or b 0 0) ∷ [])
  sum_letter = one_letter (get_or a 0 0 + get_or b 0 0) (omega (arith, first_part a la factors.first)) (omega (arith, sum_parts a la, sum_parts b lb, factors.small))

-- the last parts of the first factor
pub factors_first : (a b : List ℕ) (n : ℕ) → n ≤ length a → AreFactors a b → AreFactors (drop (length a - n) a) b
factors_first a b n le f = record { first = last_parts a n le f.first; second = f.second; small = omega (arith, last_size a n le, f.small) }

-- the last product of the last row
pub last_cell : (a b : List ℕ) (n : ℕ) (row : List Combination) (c : Combination) → n ≡ length a → AreProducts (drop (length a - n) a) b (length b + 1) row
    → c ≡ get_or row (length row - 1) c → IsProduct a b c
last_cell a b n row c all is read =
    let last : length row - 1 ≡ length b = omega (arith, is.long) in
    let here : length b < length row = omega (arith, is.long) in
    let none : length a - n ≡ 0 = omega (arith, all) in
    let whole : length b - length b ≡ 0 = omega arith in
    subst (λ m. IsProduct (drop m a) b c) none
    (subst (λ m. IsProduct (drop (length a - n) a) (drop m b) c) whole
    (subst (IsProduct (drop (length a - n) a) (drop (length b - length b) b)) (read_cell row (length b) c here (read ∙ ap (λ i. get_or row i c) last)) (is.each (length b) (omega arith))))
