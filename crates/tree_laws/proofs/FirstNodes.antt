-- Codes of trees by their first letter: the first node in infix order has a right subtree, and the rest is the code of a tree.
use Rattle.std.proofs.Common.{◌≡◌, ℕ, zero, suc, ◌≤◌, List, [], ◌∷◌, ◌++◌, length, take, drop, refl, sym, ◌∙◌, ap, arith}
use Rattle.std.proofs.lemmas.List.{append-nil, append_assoc, length-append, length-take, take-append-drop}
use Rattle.realisations.specs.IndexKinds.{IsTreeCode}
use Rattle.realisations.specs.Trees.{Tree, empty, node, tree_code, tree_size}
use Rattle.basis_representatives.proofs.TreeCodes.{length-tree_code}

-- a first node with this right subtree, before a tree
with_first : Tree → Tree → Tree
with_first v empty = node empty v
with_first v (node l r) = node (with_first v l) r

code-with_first : (v x : Tree) → tree_code (with_first v x) ≡ suc (tree_size v) ∷ (tree_code v ++ tree_code x)
unfolding with_first
code-with_first v empty = ap (λ c. suc (tree_size v) ∷ c) (sym (append-nil (tree_code v)))
code-with_first v (node l r) =
    ap (λ c. c ++ (suc (tree_size r) ∷ tree_code r)) (code-with_first v l)
    ∙ ap (λ c. suc (tree_size v) ∷ c) (append_assoc (tree_code v) (tree_code l) (suc (tree_size r) ∷ tree_code r))

-- a tree before all nodes of another
beside : Tree → Tree → Tree
beside v empty = v
beside v (node l r) = node (beside v l) r

code-beside : (v x : Tree) → tree_code (beside v x) ≡ tree_code v ++ tree_code x
unfolding beside
code-beside v empty = sym (append-nil (tree_code v))
code-beside v (node l r) =
    ap (λ c. c ++ (suc (tree_size r) ∷ tree_code r)) (code-beside v l) ∙ append_assoc (tree_code v) (tree_code l) (suc (tree_size r) ∷ tree_code r)

-- the first node of a tree: its right subtree, and the rest
pub record HasFirst (k : ℕ) (rest : List ℕ) : Type 0 where
  pub right : Tree
  pub others : Tree
  pub letter : k ≡ suc (tree_size right)
  pub whole : rest ≡ tree_code right ++ tree_code others

first_node : (l r : Tree) (k : ℕ) (rest : List ℕ) → tree_code (node l r) ≡ k ∷ rest → HasFirst k rest
first_node empty r k rest is =
    let head : k ≡ suc (tree_size r) = cc in
    let tail : rest ≡ tree_code r = cc in
    record { right = r; others = empty; letter = head; whole = tail ∙ sym (append-nil (tree_code r)) }
first_node (node a b) r k rest is = by_code (tree_code (node a b)) refl (λ j c e. first_node a b j c e)
  where
    by_code : (code : List ℕ) → tree_code (node a b) ≡ code → ((j : ℕ) (c : List ℕ) → tree_code (node a b) ≡ j ∷ c → HasFirst j c) → HasFirst k rest
    by_code [] e ih = absurd (omega (arith, ap length e, length-tree_code (node a b)))
    by_code (j ∷ c) e ih =
        let h = ih j c e in
        let cut : k ∷ rest ≡ j ∷ (c ++ (suc (tree_size r) ∷ tree_code r)) = sym is ∙ ap (λ v. v ++ (suc (tree_size r) ∷ tree_code r)) e in
        let head : k ≡ j = cc in
        let tail : rest ≡ c ++ (suc (tree_size r) ∷ tree_code r) = cc in
        record {
          right = h.right;
          others = node h.others r;
          letter = head ∙ h.letter;
          whole = tail ∙ ap (λ v. v ++ (suc (tree_size r) ∷ tree_code r)) h.whole ∙ append_assoc (tree_code h.right) (tree_code h.others) (suc (tree_size r) ∷ tree_code r);
        }

-- a nonempty code of a tree has a first node
pub has_first : (k : ℕ) (rest : List ℕ) → IsTreeCode (k ∷ rest) → HasFirst k rest
has_first k rest (t, is) = by_tree t is
  where
    by_tree : (t : Tree) → tree_code t ≡ k ∷ rest → HasFirst k rest
    by_tree empty is = absurd (omega (arith, ap length is))
    by_tree (node l r) is = first_node l r k rest is

-- what stands after the first letter is the code of a tree
pub rest_is_tree : (k : ℕ) (rest : List ℕ) → IsTreeCode (k ∷ rest) → IsTreeCode rest
rest_is_tree k rest is = let h = has_first k rest is in (beside h.right h.others, code-beside h.right h.others ∙ sym h.whole)

-- so is what stands after the first letters
pub drop_is_tree : (n : ℕ) (code : List ℕ) → IsTreeCode code → IsTreeCode (drop n code)
drop_is_tree zero code is = is
drop_is_tree (suc n) [] is = is
drop_is_tree (suc n) (k ∷ code) is = drop_is_tree n code (rest_is_tree k code is)

-- the first letter is at least 1, and at most the number of letters
pub first_letter : (k : ℕ) (rest : List ℕ) → IsTreeCode (k ∷ rest) → (1 ≤ k) × (k ≤ suc (length rest))
first_letter k rest is =
    let h = has_first k rest is in
    let low : 1 ≤ k = omega (arith, h.letter) in
    let high : k ≤ suc (length rest) = omega (arith, h.letter, ap length h.whole, length-append (tree_code h.right) (tree_code h.others), length-tree_code h.right) in
    (low, high)

take_front : (u v : List ℕ) → take (length u) (u ++ v) ≡ u
take_front [] v = refl
take_front (x ∷ u) v = ap (λ w. x ∷ w) (take_front u v)

-- after a first letter n + 1 the first n letters are the code of a tree
pub front_is_tree : (n : ℕ) (rest : List ℕ) → IsTreeCode (suc n ∷ rest) → IsTreeCode (take n rest)
front_is_tree n rest is =
    let h = has_first (suc n) rest is in
    let size : length (tree_code h.right) ≡ n = omega (arith, h.letter, length-tree_code h.right) in
    (h.right, sym (ap (λ c. take n c) h.whole ∙ ap (λ m. take m (tree_code h.right ++ tree_code h.others)) (sym size) ∙ take_front (tree_code h.right) (tree_code h.others)))

-- and n + 1 before a code of a tree whose first n letters are one is the code of a tree
pub longer_is_tree : (n : ℕ) (code : List ℕ) → n ≤ length code → IsTreeCode code → IsTreeCode (take n code) → IsTreeCode (suc n ∷ code)
longer_is_tree n code le is (v, front) = by_rest (drop_is_tree n code is)
  where
    by_rest : IsTreeCode (drop n code) → IsTreeCode (suc n ∷ code)
    by_rest (x, back) =
        let size : tree_size v ≡ n = omega (arith, length-tree_code v, ap length front, length-take n code, le) in
        (with_first v x, code-with_first v x ∙ (λ i. suc (size i) ∷ (front i ++ back i)) ∙ ap (λ c. suc n ∷ c) (take-append-drop n code))
