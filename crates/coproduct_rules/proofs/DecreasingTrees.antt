-- Decreasing trees: a word that is cut at its last greatest letter, and the codes of trees.
use Rattle.std.proofs.Common.{◌≡◌, ℕ, zero, suc, ◌+◌, ◌*◌, ◌<◌, ◌≤◌, Bool, true, false, List, [], ◌∷◌, ◌++◌, length, refl, sym, ◌∙◌, ap, arith, inl, inr}
use Rattle.std.specs.Prelude.{nat_eq, ◌&&◌, ◌||◌, max}
use Rattle.std.specs.List.{AllByRecursion}
use Rattle.std.proofs.lemmas.Bool.{cases_lt, eqb-true, eq-eqb, or_parts}
use Rattle.std.proofs.lemmas.Bool.Decides.{nat_tests}
use Rattle.std.proofs.lemmas.List.{length-append}
use Rattle.realisations.specs.Lists.{is_among, same_list, one_if}
use Rattle.realisations.specs.Words.{greatest}
use Rattle.realisations.specs.Trees.{Tree, empty, node, tree_size, tree_code, before_last, after_last, decreasing_within, decreasing_tree}
use Rattle.basis_representatives.proofs.TreeCodes.{length-tree_code}
use Rattle.coproduct_rules.proofs.Tests.{same_heads, and_first, and_second, or_first, or_right, same_tests}
use Rattle.basis_representatives.proofs.SameLists.{one_if-and, same_list-true, same_list-self}

-- the last letter m cuts a word with no greater letters
pub record CutAtLast (m : ℕ) (w : List ℕ) : Type 0 where
  pub whole : before_last m w ++ (m ∷ after_last m w) ≡ w
  pub front : AllByRecursion (λ y. y ≤ m) (before_last m w)
  pub back : AllByRecursion (λ y. y < m) (after_last m w)

-- where m is no letter all letters are below it
below_all : (m : ℕ) (w : List ℕ) → greatest w ≤ m → is_among m w ≡ false → AllByRecursion (λ y. y < m) w
below_all m [] h e = tt
below_all m (x ∷ w) h e =
    let parts : (nat_eq x m ≡ false) × (is_among m w ≡ false) = or_parts (nat_eq x m) (is_among m w) e in
    (below x m parts.0 (omega arith), below_all m w (omega arith) parts.1)
  where
    below : (x m : ℕ) → nat_eq x m ≡ false → x ≤ m → x < m
    below x m e h = grind (arith, nat_tests)

-- the cut of a word with no letter greater than m, which has the letter m
pub cut_at_last : (m : ℕ) (w : List ℕ) → greatest w ≤ m → is_among m w ≡ true → CutAtLast m w
cut_at_last m [] h e = absurd (cc)
cut_at_last m (x ∷ w) h e = by_test (is_among m w) refl (λ k. cut_at_last m w (omega arith) k)
  where
    by_test : (b : Bool) → is_among m w ≡ b → (is_among m w ≡ true → CutAtLast m w) → CutAtLast m (x ∷ w)
    by_test true k ih =
        let c : CutAtLast m w = ih k in
        record {
          whole = rw k (ap (λ v. x ∷ v) c.whole);
          front = rw k (omega arith, c.front);
          back = rw k c.back;
        }
    by_test false k ih =
        let same : nat_eq x m ≡ true = or_first (nat_eq x m) (is_among m w) k e in
        record {
          whole = rw (k, same) (ap (λ n. n ∷ w) (sym (eqb-true x m same)));
          front = rw (k, same) tt;
          back = rw (k, same) (below_all m w (omega arith) k);
        }

-- the greatest letter is a letter
pub among-greatest : (x : ℕ) (w : List ℕ) → is_among (greatest (x ∷ w)) (x ∷ w) ≡ true
among-greatest x [] = let e : max x 0 ≡ x = omega arith in rw e (let r : nat_eq x x ≡ true = eq-eqb x x refl in rw r refl)
among-greatest x (y ∷ w) = elim (cases_lt x (greatest (y ∷ w))) [
  | inl less ↦
      (let e : max x (greatest (y ∷ w)) ≡ greatest (y ∷ w) = omega arith in
      or_right (nat_eq x (greatest (x ∷ y ∷ w))) _ (ap (λ n. is_among n (y ∷ w)) e ∙ among-greatest y w))
  | inr more ↦ (let e : x ≡ greatest (x ∷ y ∷ w) = omega arith in or_left (nat_eq x (greatest (x ∷ y ∷ w))) _ (eq-eqb x (greatest (x ∷ y ∷ w)) e))
]
  where
    or_left : (a b : Bool) → a ≡ true → a || b ≡ true
    or_left true b e = refl
    or_left false b e = absurd (cc)

-- the cut of a word at its last greatest letter
pub cut_at_greatest : (x : ℕ) (w : List ℕ) → CutAtLast (greatest (x ∷ w)) (x ∷ w)
cut_at_greatest x w = cut_at_last (greatest (x ∷ w)) (x ∷ w) (omega arith) (among-greatest x w)

-- the bound on the length does not matter
within_same : (n k : ℕ) (w : List ℕ) → length w ≤ n → length w ≤ k → decreasing_within n w ≡ decreasing_within k w
within_same zero zero [] h h' = refl
within_same zero (suc k) [] h h' = refl
within_same (suc n) zero [] h h' = refl
within_same (suc n) (suc k) [] h h' = refl
within_same zero k (x ∷ w) h h' = absurd (omega arith)
within_same (suc n) zero (x ∷ w) h h' = absurd (omega arith)
within_same (suc n) (suc k) (x ∷ w) h h' =
    let m : ℕ = greatest (x ∷ w) in
    let cut = cut_at_greatest x w in
    let size : length (before_last m (x ∷ w)) + suc (length (after_last m (x ∷ w))) ≡ suc (length w) = sym (length-append (before_last m (x ∷ w)) (m ∷ after_last m (x ∷ w))) ∙ ap length cut.whole in
    let left = within_same n k (before_last m (x ∷ w)) (omega arith) (omega arith) in
    let right = within_same n k (after_last m (x ∷ w)) (omega arith) (omega arith) in
    λ i. node (left i) (right i)

-- the decreasing tree of a nonempty word has its root at the last greatest letter
tree-cons : (x : ℕ) (w : List ℕ) → decreasing_tree (x ∷ w) ≡ node (decreasing_tree (before_last (greatest (x ∷ w)) (x ∷ w))) (decreasing_tree (after_last (greatest (x ∷ w)) (x ∷ w)))
tree-cons x w =
    let m : ℕ = greatest (x ∷ w) in
    let cut = cut_at_greatest x w in
    let size : length (before_last m (x ∷ w)) + suc (length (after_last m (x ∷ w))) ≡ suc (length w) = sym (length-append (before_last m (x ∷ w)) (m ∷ after_last m (x ∷ w))) ∙ ap length cut.whole in
    let left = within_same (length w) (length (before_last m (x ∷ w))) (before_last m (x ∷ w)) (omega arith) (omega arith) in
    let right = within_same (length w) (length (after_last m (x ∷ w))) (after_last m (x ∷ w)) (omega arith) (omega arith) in
    λ i. node (left i) (right i)

-- the parts of a word whose last greatest letter is m

-- m is no letter of a word of smaller letters
not_among : (m : ℕ) (b : List ℕ) → AllByRecursion (λ y. y < m) b → is_among m b ≡ false
not_among m [] h = refl
not_among m (y ∷ b) h = let e : nat_eq y m ≡ false = grind (arith, nat_tests, h.0) in rw (e, not_among m b h.1) refl

-- m is a letter of a word that has it in the middle
among_middle : (m : ℕ) (a b : List ℕ) → is_among m (a ++ (m ∷ b)) ≡ true
among_middle m [] b = let e : nat_eq m m ≡ true = eq-eqb m m refl in rw e refl
among_middle m (x ∷ a) b = or_right (nat_eq x m) _ (among_middle m a b)

-- what stands before the last m
before_middle : (m : ℕ) (a b : List ℕ) → AllByRecursion (λ y. y < m) b → before_last m (a ++ (m ∷ b)) ≡ a
before_middle m [] b h = let e : nat_eq m m ≡ true = eq-eqb m m refl in rw (not_among m b h, e) refl
before_middle m (x ∷ a) b h = rw (among_middle m a b) (ap (λ w. x ∷ w) (before_middle m a b h))

-- what stands after the last m
after_middle : (m : ℕ) (a b : List ℕ) → AllByRecursion (λ y. y < m) b → after_last m (a ++ (m ∷ b)) ≡ b
after_middle m [] b h = let e : nat_eq m m ≡ true = eq-eqb m m refl in rw (not_among m b h, e) refl
after_middle m (x ∷ a) b h = rw (among_middle m a b) (after_middle m a b h)

-- the greatest of smaller letters
greatest_below : (m : ℕ) (b : List ℕ) → AllByRecursion (λ y. y < m) b → greatest b ≤ m
greatest_below m [] h = omega arith
greatest_below m (y ∷ b) h = omega (arith, h.0, greatest_below m b h.1)

-- the greatest letter is m
greatest_middle : (m : ℕ) (a b : List ℕ) → AllByRecursion (λ y. y ≤ m) a → AllByRecursion (λ y. y < m) b → greatest (a ++ (m ∷ b)) ≡ m
greatest_middle m [] b ha hb = omega (arith, greatest_below m b hb)
greatest_middle m (x ∷ a) b ha hb = omega (arith, ha.0, greatest_middle m a b ha.1 hb)

-- the decreasing tree of a word that is cut at its last greatest letter
pub decreasing_tree-node : (m : ℕ) (a b : List ℕ) → AllByRecursion (λ y. y ≤ m) a → AllByRecursion (λ y. y < m) b
    → decreasing_tree (a ++ (m ∷ b)) ≡ node (decreasing_tree a) (decreasing_tree b)
decreasing_tree-node m a b ha hb =
    cut a ha
    ∙ (λ i. node (decreasing_tree (before_last (greatest_middle m a b ha hb i) (a ++ (m ∷ b)))) (decreasing_tree (after_last (greatest_middle m a b ha hb i) (a ++ (m ∷ b)))))
    ∙ (λ i. node (decreasing_tree (before_middle m a b hb i)) (decreasing_tree (after_middle m a b hb i)))
  where
    cut : (a : List ℕ) → AllByRecursion (λ y. y ≤ m) a
        → decreasing_tree (a ++ (m ∷ b)) ≡ node (decreasing_tree (before_last (greatest (a ++ (m ∷ b))) (a ++ (m ∷ b)))) (decreasing_tree (after_last (greatest (a ++ (m ∷ b))) (a ++ (m ∷ b))))
    cut [] h = tree-cons m b
    cut (x ∷ a) h = tree-cons x (a ++ (m ∷ b))

-- codes

-- each number is at most how many there are from its place on
abbrev IsBounded : List ℕ → Type 0
IsBounded [] = Unit {0}
IsBounded (k ∷ c) = (k ≤ suc (length c)) × IsBounded c

-- two bounded lists one after another
bounded-append : (c d : List ℕ) → IsBounded c → IsBounded d → IsBounded (c ++ d)
bounded-append [] d hc hd = hd
bounded-append (k ∷ c) d hc hd = (omega (arith, hc.0, length-append c d), bounded-append c d hc.1 hd)

-- the code of a tree is bounded
bounded_code : (tree : Tree) → IsBounded (tree_code tree)
bounded_code empty = tt
bounded_code (node l r) = bounded-append (tree_code l) (suc (tree_size r) ∷ tree_code r) (bounded_code l) (omega (arith, length-tree_code r), bounded_code r)

-- the root of a code stands where what follows has the length that it tells, first
same_parts : (c c' d d' : List ℕ) (n n' : ℕ) → IsBounded c → IsBounded c' → length d ≡ n → length d' ≡ n' → c ++ (suc n ∷ d) ≡ c' ++ (suc n' ∷ d') → (c ≡ c') × (d ≡ d')
same_parts [] [] d d' n n' hc hc' hd hd' e = (refl, (same_heads (suc n) (suc n') d d' e).1)
same_parts [] (k ∷ c') d d' n n' hc hc' hd hd' e =
    let heads = same_heads (suc n) k d (c' ++ (suc n' ∷ d')) e in
    absurd (omega (arith, heads.0, ap length heads.1, hc'.0, hd, length-append c' (suc n' ∷ d')))
same_parts (k ∷ c) [] d d' n n' hc hc' hd hd' e =
    let heads = same_heads k (suc n') (c ++ (suc n ∷ d)) d' e in
    absurd (omega (arith, heads.0, ap length heads.1, hc.0, hd', length-append c (suc n ∷ d)))
same_parts (k ∷ c) (k' ∷ c') d d' n n' hc hc' hd hd' e =
    let heads = same_heads k k' (c ++ (suc n ∷ d)) (c' ++ (suc n' ∷ d')) e in
    let rest = same_parts c c' d d' n n' hc.1 hc'.1 hd hd' heads.1 in
    let first : k ≡ k' = heads.0 in
    let tail : c ≡ c' = rest.0 in
    (λ i. first i ∷ tail i, rest.1)

-- whether a tree has the code of another: 1 or 0
abbrev pub is_tree : Tree → Tree → ℕ
is_tree s t = one_if (same_list (tree_code s) (tree_code t))

-- two nodes have one code where both subtrees have
pub is_tree-node : (a b l r : Tree) → is_tree (node a b) (node l r) ≡ is_tree a l * is_tree b r
is_tree-node a b l r = ap one_if (same_tests _ (same_list (tree_code a) (tree_code l) && same_list (tree_code b) (tree_code r)) split join) ∙ one_if-and (same_list (tree_code a) (tree_code l)) (same_list (tree_code b) (tree_code r))
  where
    both : (p q : Bool) → p ≡ true → q ≡ true → p && q ≡ true
    both true q e f = f
    both false q e f = e

    split : same_list (tree_code (node a b)) (tree_code (node l r)) ≡ true → (same_list (tree_code a) (tree_code l) && same_list (tree_code b) (tree_code r)) ≡ true
    split h =
        let parts = same_parts (tree_code a) (tree_code l) (tree_code b) (tree_code r) (tree_size b) (tree_size r) (bounded_code a) (bounded_code l) (length-tree_code b) (length-tree_code r)
        (same_list-true (tree_code (node a b)) (tree_code (node l r)) h) in
        both _ _ (ap (λ c. same_list (tree_code a) c) (sym parts.0) ∙ same_list-self (tree_code a)) (ap (λ c. same_list (tree_code b) c) (sym parts.1) ∙ same_list-self (tree_code b))

    join : (same_list (tree_code a) (tree_code l) && same_list (tree_code b) (tree_code r)) ≡ true → same_list (tree_code (node a b)) (tree_code (node l r)) ≡ true
    join h =
        let left : tree_code a ≡ tree_code l = same_list-true (tree_code a) (tree_code l) (and_first _ (same_list (tree_code b) (tree_code r)) h) in
        let right : tree_code b ≡ tree_code r = same_list-true (tree_code b) (tree_code r) (and_second (same_list (tree_code a) (tree_code l)) _ h) in
        let size : tree_size b ≡ tree_size r = sym (length-tree_code b) ∙ ap length right ∙ length-tree_code r in
        let whole : tree_code (node a b) ≡ tree_code (node l r) = λ i. left i ++ (suc (size i) ∷ right i) in
        ap (λ c. same_list (tree_code (node a b)) c) (sym whole) ∙ same_list-self (tree_code (node a b))

-- a node is not the empty tree
code-node : (l r : Tree) → length (tree_code (node l r)) ≡ suc (tree_size l + tree_size r)
code-node l r = length-tree_code (node l r)

-- a node has not the code of the empty tree
pub is_tree-node_empty : (l r : Tree) → is_tree (node l r) empty ≡ 0
is_tree-node_empty l r = by_code (tree_code (node l r)) (code-node l r)
  where
    by_code : (c : List ℕ) → length c ≡ suc (tree_size l + tree_size r) → one_if (same_list c []) ≡ 0
    by_code [] e = absurd (omega arith)
    by_code (x ∷ c) e = refl

-- nor the empty tree that of a node
pub is_tree-empty_node : (l r : Tree) → is_tree empty (node l r) ≡ 0
is_tree-empty_node l r = by_code (tree_code (node l r)) (code-node l r)
  where
    by_code : (c : List ℕ) → length c ≡ suc (tree_size l + tree_size r) → one_if (same_list [] c) ≡ 0
    by_code [] e = absurd (omega arith)
    by_code (x ∷ c) e = refl

-- the empty word alone has the empty tree
pub is_tree-empty : (w : List ℕ) → is_tree (decreasing_tree w) empty ≡ one_if (same_list w [])
is_tree-empty [] = refl
is_tree-empty (x ∷ w) = ap (λ t. is_tree t empty) (tree-cons x w) ∙ is_tree-node_empty (decreasing_tree (before_last (greatest (x ∷ w)) (x ∷ w))) (decreasing_tree (after_last (greatest (x ∷ w)) (x ∷ w)))
