-- The binary search tree of a permutation has the shape of the decreasing tree of its inverse (Hivert, Novelli, Thibon 2005): in infix order its letters are 1 to n, and the places of the letters fall from each node to its subtrees.
use Rattle.std.proofs.Common.{◌≡◌, ◌≢◌, ℕ, zero, suc, ◌+◌, ◌-◌, ◌<◌, ◌≤◌, Bool, true, false, List, [], ◌∷◌, ◌++◌, map, length, refl, sym, ◌∙◌, ap, subst, arith}
use Rattle.std.specs.Prelude.{nat_eq, nat_lt, if◌then◌else◌}
use Rattle.std.specs.List.{range_with_len}
use Rattle.std.proofs.lemmas.Bool.{eq-eqb, ne_eqb}
use Rattle.std.proofs.lemmas.Bool.Decides.{nat_tests}
use Rattle.std.proofs.lemmas.List.{map-append}
use Rattle.realisations.specs.Lists.{one_if}
use Rattle.realisations.specs.Standardisation.{count_same, inverse, place_of}
use Rattle.realisations.specs.Trees.{decreasing_tree, tree_code, tree_size}
use Rattle.realisations.proofs.RisingMaps.{Letters}
use Rattle.basis_representatives.proofs.CodesByLetters.{decreasing_code}
use Rattle.basis_representatives.proofs.Counts.{count_same-append, one_if-self}
use Rattle.basis_representatives.proofs.Letters.{Letters-append, Letters-front, Letters-weaker}
use Rattle.basis_representatives.proofs.Permutations.{HasEachOnce, count_same-permutation, letters-permutation, letters_that_occur}
use Rattle.basis_representatives.proofs.TreeCodes.{code-decreasing_tree, decreasing_code-node, length-decreasing_code, length-tree_code, tree_code_injective}
use Rattle.tree_laws.specs.SearchTrees.{SearchTree, nothing, letter, enter_tree, search_tree, shape}

-- the letters in infix order
abbrev letters_of : SearchTree → List ℕ
letters_of nothing = []
letters_of (letter l x r) = letters_of l ++ (x ∷ letters_of r)

-- smaller letters are on the left, greater ones on the right
abbrev IsSearch : SearchTree → Type 0
IsSearch nothing = Unit {0}
IsSearch (letter l x r) = Letters (λ y. y < x) (letters_of l) × (Letters (λ y. x < y) (letters_of r) × (IsSearch l × IsSearch r))

-- the values of f fall from each node to its subtrees
abbrev Falls : (ℕ → ℕ) → SearchTree → Type 0
Falls f nothing = Unit {0}
Falls f (letter l x r) = Letters (λ y. f y < f x) (letters_of l) × (Letters (λ y. f y < f x) (letters_of r) × (Falls f l × Falls f r))

Letters-back : (P : ℕ → Type 0) (u v : List ℕ) → Letters P (u ++ v) → Letters P v
Letters-back P [] v h = h
Letters-back P (x ∷ u) v h = Letters-back P u v h.1

Letters-map : (P : ℕ → Type 0) (f : ℕ → ℕ) (w : List ℕ) → Letters (λ y. P (f y)) w → Letters P (map f w)
Letters-map P f [] h = tt
Letters-map P f (x ∷ w) h = (h.0, Letters-map P f w h.1)

Letters-both : (P Q : ℕ → Type 0) (w : List ℕ) → Letters P w → Letters Q w → Letters (λ y. P y × Q y) w
Letters-both P Q [] h k = tt
Letters-both P Q (x ∷ w) h k = ((h.0, k.0), Letters-both P Q w h.1 k.1)

length-values : (f : ℕ → ℕ) (w : List ℕ) → length (map f w) ≡ length w
length-values f [] = refl
length-values f (x ∷ w) = ap suc (length-values f w)

-- where the values fall, the shape is the decreasing tree of the values in infix order
code_falls : (f : ℕ → ℕ) (t : SearchTree) → Falls f t → tree_code (shape t) ≡ decreasing_code (map f (letters_of t))
code_falls f nothing h = refl
code_falls f (letter l x r) h =
    let left : tree_code (shape l) ≡ decreasing_code (map f (letters_of l)) = code_falls f l h.1.1.0 in
    let right : tree_code (shape r) ≡ decreasing_code (map f (letters_of r)) = code_falls f r h.1.1.1 in
    let size : tree_size (shape r) ≡ length (map f (letters_of r)) = sym (length-tree_code (shape r)) ∙ ap (λ (c : List ℕ). length c) right ∙ length-decreasing_code (map f (letters_of r)) in
    (λ i. left i ++ (suc (size i) ∷ right i))
    ∙ sym (decreasing_code-node (map f (letters_of l)) (f x) (map f (letters_of r))
    (Letters-map (λ y. y ≤ f x) f (letters_of l) (Letters-weaker (λ y. f y < f x) (λ y. f y ≤ f x) (λ y k. omega (arith, k)) (letters_of l) h.0))
    (Letters-map (λ y. y < f x) f (letters_of r) h.1.0))
    ∙ ap decreasing_code (sym (map-append f (letters_of l) (x ∷ letters_of r)))

-- a letter enters

letters_if : (P : ℕ → Type 0) (b : Bool) (s t : SearchTree) → Letters P (letters_of s) → Letters P (letters_of t) → Letters P (letters_of (if b then s else t))
letters_if P true s t h k = h
letters_if P false s t h k = k

-- what the letters and the new one have, all have then
entered : (P : ℕ → Type 0) (x : ℕ) (t : SearchTree) → P x → Letters P (letters_of t) → Letters P (letters_of (enter_tree x t))
entered P x nothing hx h = (hx, tt)
entered P x (letter l y r) hx h =
    let left = Letters-front P (letters_of l) (y ∷ letters_of r) h in
    let back = Letters-back P (letters_of l) (y ∷ letters_of r) h in
    letters_if P (nat_lt x y) (letter (enter_tree x l) y r) (letter l y (enter_tree x r))
    (Letters-append P (letters_of (enter_tree x l)) (y ∷ letters_of r) (entered P x l hx left) back)
    (Letters-append P (letters_of l) (y ∷ letters_of (enter_tree x r)) left (back.0, entered P x r hx back.1))

-- each letter is there as often as before, the new one once more
count_entered : (i x : ℕ) (t : SearchTree) → count_same i (letters_of (enter_tree x t)) ≡ one_if (nat_eq x i) + count_same i (letters_of t)
count_entered i x nothing = omega arith
count_entered i x (letter l y r) = by_side (nat_lt x y) (count_entered i x l) (count_entered i x r)
  where
    by_side : (b : Bool) → count_same i (letters_of (enter_tree x l)) ≡ one_if (nat_eq x i) + count_same i (letters_of l) → count_same i (letters_of (enter_tree x r)) ≡ one_if (nat_eq x i) + count_same i (letters_of r)
        → count_same i (letters_of (if b then letter (enter_tree x l) y r else letter l y (enter_tree x r))) ≡ one_if (nat_eq x i) + count_same i (letters_of l ++ (y ∷ letters_of r))
    by_side true left right = omega (arith, left, count_same-append i (letters_of (enter_tree x l)) (y ∷ letters_of r), count_same-append i (letters_of l) (y ∷ letters_of r))
    by_side false left right = omega (arith, right, count_same-append i (letters_of l) (y ∷ letters_of (enter_tree x r)), count_same-append i (letters_of l) (y ∷ letters_of r))

-- a new letter keeps the order
search_entered : (x : ℕ) (t : SearchTree) → Letters (λ y. y ≢ x) (letters_of t) → IsSearch t → IsSearch (enter_tree x t)
search_entered x nothing new h = (tt, (tt, (tt, tt)))
search_entered x (letter l y r) new h =
    by_side (nat_lt x y) refl (search_entered x l (Letters-front (λ z. z ≢ x) (letters_of l) (y ∷ letters_of r) new) h.1.1.0) (search_entered x r (Letters-back (λ z. z ≢ x) (letters_of l) (y ∷ letters_of r) new).1 h.1.1.1)
  where
    by_side : (b : Bool) → nat_lt x y ≡ b → IsSearch (enter_tree x l) → IsSearch (enter_tree x r) → IsSearch (if b then letter (enter_tree x l) y r else letter l y (enter_tree x r))
    by_side true e left right =
        let less : x < y = grind (arith, nat_tests, e) in
        (entered (λ z. z < y) x l less h.0, (h.1.0, (left, h.1.1.1)))
    by_side false e left right =
        let other : y ≢ x = (Letters-back (λ z. z ≢ x) (letters_of l) (y ∷ letters_of r) new).0 in
        let low : y ≤ x = grind (arith, nat_tests, e) in
        let more : y < x = omega (arith, low, other) in
        (h.0, (entered (λ z. y < z) x r more h.1.0, (h.1.1.0, right)))

module _ (f g : ℕ → ℕ) (x : ℕ) (first : g x ≡ 1) where
  -- the values of the letters rise by 1, and are at least 1
  abbrev Rises : ℕ → Type 0
  Rises y = (g y ≡ suc (f y)) × (1 ≤ f y)

  falls_same : (t : SearchTree) → Letters Rises (letters_of t) → Falls f t → Falls g t
  falls_same nothing up h = tt
  falls_same (letter l y r) up h =
      let left = Letters-front Rises (letters_of l) (y ∷ letters_of r) up in
      let back = Letters-back Rises (letters_of l) (y ∷ letters_of r) up in (
        Letters-weaker (λ z. Rises z × (f z < f y)) (λ z. g z < g y) (λ z k. omega (arith, k.0.0, k.1, back.0.0)) (letters_of l) (Letters-both Rises (λ z. f z < f y) (letters_of l) left h.0),
        (
          Letters-weaker (λ z. Rises z × (f z < f y)) (λ z. g z < g y) (λ z k. omega (arith, k.0.0, k.1, back.0.0)) (letters_of r) (Letters-both Rises (λ z. f z < f y) (letters_of r) back.1 h.1.0),
          (falls_same l left h.1.1.0, falls_same r back.1 h.1.1.1),
        ),
      )

  -- a new letter with the smallest value is a leaf
  falls_entered : (t : SearchTree) → Letters Rises (letters_of t) → Falls f t → Falls g (enter_tree x t)
  falls_entered nothing up h = (tt, (tt, (tt, tt)))
  falls_entered (letter l y r) up h =
      let left = Letters-front Rises (letters_of l) (y ∷ letters_of r) up in
      let back = Letters-back Rises (letters_of l) (y ∷ letters_of r) up in
      by_side (nat_lt x y) (falls_same (letter l y r) up h) back.0 (falls_entered l left h.1.1.0) (falls_entered r back.1 h.1.1.1)
    where
      by_side : (b : Bool) → Falls g (letter l y r) → Rises y → Falls g (enter_tree x l) → Falls g (enter_tree x r) → Falls g (if b then letter (enter_tree x l) y r else letter l y (enter_tree x r))
      by_side true k up left right = (entered (λ z. g z < g y) x l (omega (arith, first, up.0, up.1)) k.0, (k.1.0, (left, k.1.1.1)))
      by_side false k up left right = (k.0, (entered (λ z. g z < g y) x r (omega (arith, first, up.0, up.1)) k.1.0, (k.1.1.0, right)))

-- places

place_positive : (i : ℕ) (w : List ℕ) → 1 ≤ count_same i w → 1 ≤ place_of i w
place_positive i [] h = absurd (omega (arith, h))
place_positive i (x ∷ w) h = by_test (nat_eq x i)
  where
    by_test : (b : Bool) → 1 ≤ (if b then 1 else suc (place_of i w))
    by_test true = omega arith
    by_test false = omega arith

place_first : (x : ℕ) (w : List ℕ) → place_of x (x ∷ w) ≡ 1
place_first x w = let e : nat_eq x x ≡ true = eq-eqb x x refl in rw e refl

place_later : (i x : ℕ) (w : List ℕ) → i ≢ x → place_of i (x ∷ w) ≡ suc (place_of i w)
place_later i x w other = let e : nat_eq x i ≡ false = ne_eqb x i (λ k. other (sym k)) in rw e refl

-- the search tree of a word in which no letter stands twice
record IsTreeOf (w : List ℕ) (t : SearchTree) : Type 0 where
  search : IsSearch t
  falls : Falls (λ i. place_of i w) t
  same : (i : ℕ) → count_same i (letters_of t) ≡ count_same i w

tree_of_word : (w : List ℕ) → ((i : ℕ) → count_same i w ≤ 1) → IsTreeOf w (search_tree w)
tree_of_word [] once = record { search = tt; falls = tt; same = λ i. refl }
tree_of_word (x ∷ w) once =
    let ih : IsTreeOf w (search_tree w) = tree_of_word w (λ i. omega (arith, once i)) in
    let other : (y : ℕ) → 1 ≤ count_same y (letters_of (search_tree w)) → y ≢ x =
    λ y some e. absurd (omega (arith, some, ih.same y, ap (λ i. count_same i w) e, once x, one_if-self x)) in
    record {
      search = search_entered x (search_tree w) (letters_that_occur (λ y. y ≢ x) (letters_of (search_tree w)) other) ih.search;
      falls = falls_entered (λ i. place_of i w) (λ i. place_of i (x ∷ w)) x (place_first x w) (search_tree w)
          (letters_that_occur (λ y. (place_of y (x ∷ w) ≡ suc (place_of y w)) × (1 ≤ place_of y w)) (letters_of (search_tree w))
          (λ y some. (place_later y x w (other y some), place_positive y w (omega (arith, some, ih.same y)))))
          ih.falls;
      same = λ i. count_entered i x (search_tree w) ∙ ap (λ n. one_if (nat_eq x i) + n) (ih.same i);
    }

-- a range in two parts
range_cut : (a d e : ℕ) → range_with_len a (d + suc e) ≡ range_with_len a d ++ ((a + d) ∷ range_with_len (suc (a + d)) e)
range_cut a zero e =
    let more : 0 + suc e ≡ suc e = omega arith in
    let here : a ≡ a + 0 = omega arith in
    let next : a + 1 ≡ suc (a + 0) = omega arith in
    ap (range_with_len a) more ∙ (λ i. here i ∷ range_with_len (next i) e)
range_cut a (suc d) e =
    let more : suc d + suc e ≡ suc (d + suc e) = omega arith in
    let here : (a + 1) + d ≡ a + suc d = omega arith in
    ap (range_with_len a) more ∙ ap (λ v. a ∷ v) (range_cut (a + 1) d e ∙ ap (λ k. range_with_len (a + 1) d ++ (k ∷ range_with_len (suc k) e)) here)

none_of : (P : ℕ → Type 0) (i : ℕ) (w : List ℕ) → (P i → ⊥) → Letters P w → count_same i w ≡ 0
none_of P i [] out h = refl
none_of P i (x ∷ w) out h =
    let e : nat_eq x i ≡ false = ne_eqb x i (λ k. out (subst P k h.0)) in
    omega (arith, ap one_if e, none_of P i w out h.1)

-- the letters of a search tree that are the numbers from a on, each once, stand in order
in_order : (a n : ℕ) (t : SearchTree) → IsSearch t → Letters (λ x. (a ≤ x) × (x < a + n)) (letters_of t) → ((i : ℕ) → a ≤ i → i < a + n → count_same i (letters_of t) ≡ 1) → letters_of t ≡ range_with_len a n
in_order a zero nothing h within once = refl
in_order a (suc n) nothing h within once = absurd (omega (arith, once a (omega arith) (omega arith)))
in_order a n (letter l y r) h within once =
    let back = Letters-back (λ x. (a ≤ x) × (x < a + n)) (letters_of l) (y ∷ letters_of r) within in
    let d = y - a in
    let e = a + n - suc y in
    let at : a + d ≡ y = omega (arith, back.0.0) in
    let size : n ≡ d + suc e = omega (arith, back.0.0, back.0.1) in
    let left : letters_of l ≡ range_with_len a d =
    in_order a d l h.1.1.0
    (Letters-weaker (λ x. ((a ≤ x) × (x < a + n)) × (x < y)) (λ x. (a ≤ x) × (x < a + d)) (λ x k. (k.0.0, omega (arith, k.1, at))) (letters_of l)
    (Letters-both (λ x. (a ≤ x) × (x < a + n)) (λ x. x < y) (letters_of l) (Letters-front (λ x. (a ≤ x) × (x < a + n)) (letters_of l) (y ∷ letters_of r) within) h.0))
    (λ i from to.
    let less : i < y = omega (arith, to, at) in
    let apart : one_if (nat_eq y i) ≡ 0 = grind (arith, nat_tests, less) in
    omega (arith, once i from (omega (arith, less, back.0.1)), count_same-append i (letters_of l) (y ∷ letters_of r), apart, none_of (λ z. y < z) i (letters_of r) (λ k. absurd (omega (arith, k, less))) h.1.0)) in
    let right : letters_of r ≡ range_with_len (suc y) e =
    in_order (suc y) e r h.1.1.1
    (Letters-weaker (λ x. ((a ≤ x) × (x < a + n)) × (y < x)) (λ x. (suc y ≤ x) × (x < suc y + e)) (λ x k. (omega (arith, k.1), omega (arith, k.0.1, k.1, back.0.1))) (letters_of r)
    (Letters-both (λ x. (a ≤ x) × (x < a + n)) (λ x. y < x) (letters_of r) back.1 h.1.0))
    (λ i from to.
    let more : y < i = omega (arith, from) in
    let apart : one_if (nat_eq y i) ≡ 0 = grind (arith, nat_tests, more) in
    omega (arith, once i (omega (arith, more, back.0.0)) (omega (arith, to, more, back.0.1)), count_same-append i (letters_of l) (y ∷ letters_of r), apart, none_of (λ z. z < y) i (letters_of l) (λ k. absurd (omega (arith, k, more))) h.0)) in
    (λ i. left i ++ (sym at i ∷ right i))
    ∙ ap (λ k. range_with_len a d ++ ((a + d) ∷ range_with_len (suc k) e)) (sym at)
    ∙ sym (range_cut a d e)
    ∙ ap (range_with_len a) (sym size)

-- the search tree of a permutation has the shape of the decreasing tree of its inverse
pub shape-search_tree : (s : List ℕ) → HasEachOnce s → shape (search_tree s) ≡ decreasing_tree (inverse s)
shape-search_tree s h =
    let t = search_tree s in
    let tree : IsTreeOf s (search_tree s) = tree_of_word s (λ i. count_same-permutation s h i) in
    let order : letters_of (search_tree s) ≡ range_with_len 1 (length s) =
    in_order 1 (length s) (search_tree s) tree.search
    (letters_that_occur (λ x. (1 ≤ x) × (x < 1 + length s)) (letters_of (search_tree s))
    (λ x some. let k = letters-permutation s h x (omega (arith, some, tree.same x)) in (k.0, omega (arith, k.1))))
    (λ i from to. tree.same i ∙ h.once i from (omega (arith, to))) in
    tree_code_injective (shape (search_tree s)) (decreasing_tree (inverse s))
    (code_falls (λ i. place_of i s) (search_tree s) tree.falls
    ∙ ap (λ v. decreasing_code (map (λ i. place_of i s) v)) order
    ∙ sym (code-decreasing_tree (inverse s)))
