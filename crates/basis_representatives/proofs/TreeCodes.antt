-- The code of the decreasing tree of a word, letter by letter; codes of trees are injective; a word with a given decreasing tree.
use Rattle.std.proofs.Common.{◌≡◌, ℕ, zero, suc, ◌+◌, ◌<◌, ◌≤◌, Bool, true, false, List, [], ◌∷◌, ◌++◌, length, refl, sym, ◌∙◌, ap, arith, inl, inr}
use Rattle.std.specs.Prelude.{nat_eq, nat_lt, ◌||◌, max, if◌then◌else◌}
use Rattle.std.proofs.lemmas.Bool.{cases_lt, eqb-true, eq-eqb, or_parts, or_left, or_right}
use Rattle.std.proofs.lemmas.Bool.Decides.{nat_tests}
use Rattle.std.proofs.lemmas.List.{length-append}
use Rattle.realisations.specs.Lists.{is_among}
use Rattle.realisations.specs.Words.{greatest}
use Rattle.realisations.specs.Standardisation.{standardise}
use Rattle.realisations.specs.Trees.{Tree, empty, node, tree_size, tree_code, before_last, after_last, decreasing_within, decreasing_tree, subtree_sizes}
use Rattle.realisations.proofs.RisingMaps.{Letters}
use Rattle.basis_representatives.proofs.CodesByLetters.{decreasing_code, smaller_next}
use Rattle.basis_representatives.proofs.Letters.{Letters-append}
use Rattle.basis_representatives.proofs.SameOrder.{SameBelow, SameOrder, standardise_order}

-- the code of a word is as long as the word
pub length-decreasing_code : (w : List ℕ) → length (decreasing_code w) ≡ length w
length-decreasing_code [] = refl
length-decreasing_code (x ∷ w) = ap suc (length-decreasing_code w)

-- the code of a tree is as long as the tree is large
pub length-tree_code : (t : Tree) → length (tree_code t) ≡ tree_size t
length-tree_code empty = refl
length-tree_code (node l r) = omega (arith, length-append (tree_code l) (suc (tree_size r) ∷ tree_code r), length-tree_code l, length-tree_code r)

smaller_next-all : (m : ℕ) (a : List ℕ) → Letters (λ y. y < m) a → smaller_next m a ≡ length a
smaller_next-all m [] h = refl
smaller_next-all m (y ∷ a) h = let e : nat_lt y m ≡ true = grind (arith, nat_tests, h.0) in rw (e, smaller_next-all m a h.1)

smaller_next-stop : (x : ℕ) (b : List ℕ) (m : ℕ) (a : List ℕ) → x ≤ m → smaller_next x (b ++ (m ∷ a)) ≡ smaller_next x b
smaller_next-stop x [] m a h = let e : nat_lt m x ≡ false = grind (arith, nat_tests) in rw e
smaller_next-stop x (y ∷ b) m a h = each (nat_lt y x) (smaller_next-stop x b m a h)
  where
    each : (t : Bool) → smaller_next x (b ++ (m ∷ a)) ≡ smaller_next x b → (if t then suc (smaller_next x (b ++ (m ∷ a))) else 0) ≡ (if t then suc (smaller_next x b) else 0)
    each true ih = ap suc ih
    each false ih = refl

-- the last greatest letter cuts the code as a node does
pub decreasing_code-node : (b : List ℕ) (m : ℕ) (a : List ℕ) → Letters (λ y. y ≤ m) b → Letters (λ y. y < m) a →
    decreasing_code (b ++ (m ∷ a)) ≡ decreasing_code b ++ (suc (length a) ∷ decreasing_code a)
decreasing_code-node [] m a hb ha = rw (smaller_next-all m a ha)
decreasing_code-node (x ∷ b) m a hb ha = rw (smaller_next-stop x b m a hb.0, decreasing_code-node b m a hb.1 ha)

-- the last greatest letter cuts the word
record CutAt (m : ℕ) (w : List ℕ) : Type 0 where
  whole : before_last m w ++ (m ∷ after_last m w) ≡ w
  front : Letters (λ y. y ≤ m) (before_last m w)
  back : Letters (λ y. y < m) (after_last m w)

below_all : (m : ℕ) (w : List ℕ) → greatest w ≤ m → is_among m w ≡ false → Letters (λ y. y < m) w
below_all m [] h e = tt
below_all m (x ∷ w) h e = let o = or_parts (nat_eq x m) (is_among m w) e in (below x m o.0 (omega arith), below_all m w (omega arith) o.1)
  where
    below : (x m : ℕ) → nat_eq x m ≡ false → x ≤ m → x < m
    below x m e h = grind (arith, nat_tests)

cut_at : (m : ℕ) (w : List ℕ) → greatest w ≤ m → is_among m w ≡ true → CutAt m w
cut_at m [] h e = absurd (cc)
cut_at m (x ∷ w) h e = by_rest (is_among m w) refl (λ k. cut_at m w (omega arith) k)
  where
    or_first : (a b : Bool) → b ≡ false → a || b ≡ true → a ≡ true
    or_first true b e h = refl
    or_first false b e h = absurd (cc)

    by_rest : (b : Bool) → is_among m w ≡ b → (is_among m w ≡ true → CutAt m w) → CutAt m (x ∷ w)
    by_rest true k ih =
        let c : CutAt m w = ih k in
        record {
          whole = rw k (ap (λ v. x ∷ v) c.whole);
          front = rw k (omega arith, c.front);
          back = rw k c.back;
        }
    by_rest false k ih =
        let same : nat_eq x m ≡ true = or_first (nat_eq x m) (is_among m w) k e in
        record {
          whole = rw (k, same) (ap (λ n. n ∷ w) (sym (eqb-true x m same)));
          front = rw (k, same) tt;
          back = rw (k, same) (below_all m w (omega arith) k);
        }

is_among-greatest : (x : ℕ) (w : List ℕ) → is_among (greatest (x ∷ w)) (x ∷ w) ≡ true
is_among-greatest x [] = let e : max x 0 ≡ x = omega arith in rw e (or_left (nat_eq x x) false (eq-eqb x x refl))
is_among-greatest x (y ∷ w) =
    elim (cases_lt x (greatest (y ∷ w))) [
      | inl l ↦ (let e : max x (greatest (y ∷ w)) ≡ greatest (y ∷ w) = omega arith in or_right (nat_eq x (greatest (x ∷ y ∷ w))) _ (ap (λ n. is_among n (y ∷ w)) e ∙ is_among-greatest y w))
      | inr l ↦ (let e : x ≡ greatest (x ∷ y ∷ w) = omega arith in or_left (nat_eq x (greatest (x ∷ y ∷ w))) _ (eq-eqb x (greatest (x ∷ y ∷ w)) e))
    ]

code-within : (n : ℕ) (w : List ℕ) → length w ≤ n → tree_code (decreasing_within n w) ≡ decreasing_code w
code-within zero [] h = refl
code-within zero (x ∷ w) h = absurd (omega arith)
code-within (suc n) [] h = refl
code-within (suc n) (x ∷ w) h =
    let m = greatest (x ∷ w) in
    let cut : CutAt m (x ∷ w) = cut_at m (x ∷ w) (omega arith) (is_among-greatest x w) in
    let size : length (before_last m (x ∷ w)) + suc (length (after_last m (x ∷ w))) ≡ suc (length w) = sym (length-append (before_last m (x ∷ w)) (m ∷ after_last m (x ∷ w))) ∙ ap length cut.whole in
    let l : tree_code (decreasing_within n (before_last m (x ∷ w))) ≡ decreasing_code (before_last m (x ∷ w)) = code-within n (before_last m (x ∷ w)) (omega arith) in
    let r : tree_code (decreasing_within n (after_last m (x ∷ w))) ≡ decreasing_code (after_last m (x ∷ w)) = code-within n (after_last m (x ∷ w)) (omega arith) in
    let s : tree_size (decreasing_within n (after_last m (x ∷ w))) ≡ length (after_last m (x ∷ w)) = sym (length-tree_code (decreasing_within n (after_last m (x ∷ w)))) ∙ ap length r ∙ length-decreasing_code (after_last m (x ∷ w)) in
    join _ _ _ _ _ l s r ∙ sym (decreasing_code-node (before_last m (x ∷ w)) m (after_last m (x ∷ w)) cut.front cut.back) ∙ ap decreasing_code cut.whole
  where
    join : (a b c d : List ℕ) (k : ℕ) {j : ℕ} → a ≡ b → j ≡ k → c ≡ d → a ++ (suc j ∷ c) ≡ b ++ (suc k ∷ d)
    join a b c d k p q r = cc

-- the code of the decreasing tree: for each letter, 1 plus the number of smaller letters right after it
pub code-decreasing_tree : (w : List ℕ) → tree_code (decreasing_tree w) ≡ decreasing_code w
code-decreasing_tree w = code-within (length w) w (omega arith)

smaller_next_same : (x : ℕ) (u : List ℕ) (y : ℕ) (v : List ℕ) → SameBelow x u y v → smaller_next x u ≡ smaller_next y v
smaller_next_same x [] y [] h = refl
smaller_next_same x [] y (b ∷ v) h = absurd h
smaller_next_same x (a ∷ u) y [] h = absurd h
smaller_next_same x (a ∷ u) y (b ∷ v) h = rw (h.0, smaller_next_same x u y v h.1)

-- words that compare alike have the same code
pub decreasing_code_same : (u v : List ℕ) → SameOrder u v → decreasing_code u ≡ decreasing_code v
decreasing_code_same [] [] h = refl
decreasing_code_same [] (y ∷ v) h = absurd h
decreasing_code_same (x ∷ u) [] h = absurd h
decreasing_code_same (x ∷ u) (y ∷ v) h = rw (smaller_next_same x u y v h.0, decreasing_code_same u v h.1)

-- the code of a word is that of its standardisation
pub decreasing_code-standardise : (w : List ℕ) → decreasing_code (standardise w) ≡ decreasing_code w
decreasing_code-standardise w = sym (decreasing_code_same w (standardise w) (standardise_order w))

-- no letter is greater than the number of letters from it on
abbrev pub FitsLength : List ℕ → Type 0
FitsLength [] = Unit {0}
FitsLength (k ∷ code) = (k ≤ suc (length code)) × FitsLength code

fits-append : (u v : List ℕ) → FitsLength u → FitsLength v → FitsLength (u ++ v)
fits-append [] v hu hv = hv
fits-append (k ∷ u) v hu hv = (omega (arith, hu.0, length-append u v), fits-append u v hu.1 hv)

-- the code of a tree is such a list
pub fits-tree_code : (t : Tree) → FitsLength (tree_code t)
fits-tree_code empty = tt
fits-tree_code (node l r) = fits-append (tree_code l) (suc (tree_size r) ∷ tree_code r) (fits-tree_code l) (omega (arith, length-tree_code r), fits-tree_code r)

-- the root is at the first letter that is the number of letters from it on
cut_alike : (a a' b b' : List ℕ) → FitsLength a → FitsLength a' → a ++ (suc (length b) ∷ b) ≡ a' ++ (suc (length b') ∷ b') → (a ≡ a') × (b ≡ b')
cut_alike [] [] b b' h h' e = (refl, let tails : b ≡ b' = cc in tails)
cut_alike [] (k ∷ a') b b' h h' e =
    let head : suc (length b) ≡ k = cc in
    let tails : b ≡ a' ++ (suc (length b') ∷ b') = cc in
    absurd (omega (arith, head, h'.0, ap length tails, length-append a' (suc (length b') ∷ b')))
cut_alike (k ∷ a) [] b b' h h' e =
    let head : k ≡ suc (length b') = cc in
    let tails : a ++ (suc (length b) ∷ b) ≡ b' = cc in
    absurd (omega (arith, head, h.0, ap length tails, length-append a (suc (length b) ∷ b)))
cut_alike (k ∷ a) (k' ∷ a') b b' h h' e =
    let head : k ≡ k' = cc in
    let tails : a ++ (suc (length b) ∷ b) ≡ a' ++ (suc (length b') ∷ b') = cc in
    let rest = cut_alike a a' b b' h.1 h'.1 tails in
    ((λ i. head i ∷ rest.0 i), rest.1)

is_nonempty : (u : List ℕ) (k : ℕ) (v : List ℕ) → [] ≡ u ++ (k ∷ v) → ⊥
is_nonempty u k v e = omega (arith, ap length e, length-append u (k ∷ v))

-- a tree is determined by its code
pub tree_code_injective : (t u : Tree) → tree_code t ≡ tree_code u → t ≡ u
tree_code_injective empty empty e = refl
tree_code_injective empty (node l r) e = absurd (is_nonempty (tree_code l) (suc (tree_size r)) (tree_code r) e)
tree_code_injective (node l r) empty e = absurd (is_nonempty (tree_code l) (suc (tree_size r)) (tree_code r) (sym e))
tree_code_injective (node l r) (node l' r') e =
    let code = λ (t : Tree) (n : ℕ) (u : Tree). tree_code t ++ (suc n ∷ tree_code u) in
    let parts = cut_alike (tree_code l) (tree_code l') (tree_code r) (tree_code r') (fits-tree_code l) (fits-tree_code l')
    (ap (λ n. code l n r) (length-tree_code r) ∙ e ∙ sym (ap (λ n. code l' n r') (length-tree_code r'))) in
    let left = tree_code_injective l l' parts.0 in
    let right = tree_code_injective r r' parts.1 in
    λ i. node (left i) (right i)

-- a word has the decreasing tree of its standardisation
pub decreasing_tree-standardise : (w : List ℕ) → decreasing_tree (standardise w) ≡ decreasing_tree w
decreasing_tree-standardise w =
    tree_code_injective (decreasing_tree (standardise w)) (decreasing_tree w)
    (code-decreasing_tree (standardise w) ∙ decreasing_code-standardise w ∙ sym (code-decreasing_tree w))

length-subtree_sizes : (t : Tree) → length (subtree_sizes t) ≡ tree_size t
length-subtree_sizes empty = refl
length-subtree_sizes (node l r) =
    omega (arith, length-append (subtree_sizes l) (suc (tree_size l + tree_size r) ∷ subtree_sizes r), length-subtree_sizes l, length-subtree_sizes r)

sizes_within : (n : ℕ) (t : Tree) → tree_size t ≤ n → Letters (λ y. y ≤ n) (subtree_sizes t)
sizes_within n empty h = tt
sizes_within n (node l r) h =
    Letters-append (λ y. y ≤ n) (subtree_sizes l) (suc (tree_size l + tree_size r) ∷ subtree_sizes r)
    (sizes_within n l (omega arith)) (h, sizes_within n r (omega arith))

sizes_below : (n : ℕ) (t : Tree) → tree_size t < n → Letters (λ y. y < n) (subtree_sizes t)
sizes_below n empty h = tt
sizes_below n (node l r) h =
    Letters-append (λ y. y < n) (subtree_sizes l) (suc (tree_size l + tree_size r) ∷ subtree_sizes r)
    (sizes_below n l (omega arith)) (h, sizes_below n r (omega arith))

-- the sizes of the subtrees, in infix order, are a word with that decreasing tree
pub decreasing_code-subtree_sizes : (t : Tree) → decreasing_code (subtree_sizes t) ≡ tree_code t
decreasing_code-subtree_sizes empty = refl
decreasing_code-subtree_sizes (node l r) =
    let m = suc (tree_size l + tree_size r) in
    decreasing_code-node (subtree_sizes l) m (subtree_sizes r) (sizes_within m l (omega arith)) (sizes_below m r (omega arith))
    ∙ join _ _ _ _ _ (decreasing_code-subtree_sizes l) (length-subtree_sizes r) (decreasing_code-subtree_sizes r)
  where
    join : (a b c d : List ℕ) (k : ℕ) {j : ℕ} → a ≡ b → j ≡ k → c ≡ d → a ++ (suc j ∷ c) ≡ b ++ (suc k ∷ d)
    join a b c d k p q r = cc

-- so they are a word with that tree
pub decreasing_tree-subtree_sizes : (t : Tree) → decreasing_tree (subtree_sizes t) ≡ t
decreasing_tree-subtree_sizes t =
    tree_code_injective (decreasing_tree (subtree_sizes t)) t (code-decreasing_tree (subtree_sizes t) ∙ decreasing_code-subtree_sizes t)
