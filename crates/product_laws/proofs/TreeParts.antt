-- Fronts and backs of binary trees, and of their codes.
use Rattle.std.proofs.Common.{◌≡◌, ℕ, zero, suc, ◌+◌, ◌-◌, ◌<◌, ◌≤◌, Bool, true, false, List, [], ◌∷◌, ◌++◌, length, drop, refl, sym, ◌∙◌, ap, arith}
use Rattle.std.specs.Prelude.{min, nat_le, ◌&&◌, if◌then◌else◌}
use Rattle.std.proofs.lemmas.Bool.{and_parts}
use Rattle.std.proofs.lemmas.Bool.Decides.{nat_tests}
use Rattle.realisations.specs.Lists.{same_list}
use Rattle.realisations.specs.Trees.{Tree, empty, node, tree_size, tree_code}
use Rattle.basis_representatives.proofs.SameLists.{cons_same, same_list-true}
use Rattle.basis_representatives.proofs.TreeCodes.{FitsLength, fits-tree_code, length-tree_code, tree_code_injective}
use Rattle.product_laws.specs.TreeCuts.{front_code}
use Rattle.product_laws.proofs.Tests.{same_list-is, same_tests}

-- whether two trees are equal
abbrev pub same_tree : Tree → Tree → Bool
same_tree empty empty = true
same_tree empty (node c d) = false
same_tree (node a b) empty = false
same_tree (node a b) (node c d) = same_tree a c && same_tree b d

-- trees that pass the test are equal
pub same_tree-true : (t u : Tree) → same_tree t u ≡ true → t ≡ u
same_tree-true empty empty e = refl
same_tree-true empty (node c d) e = absurd (cc)
same_tree-true (node a b) empty e = absurd (cc)
same_tree-true (node a b) (node c d) e =
    let h = and_parts (same_tree a c) (same_tree b d) e in
    let left = same_tree-true a c h.0 in
    let right = same_tree-true b d h.1 in
    λ i. node (left i) (right i)

-- a tree passes it with itself
pub same_tree-refl : (t : Tree) → same_tree t t ≡ true
same_tree-refl empty = refl
same_tree-refl (node a b) = rw (same_tree-refl a, same_tree-refl b) refl

-- and so do equal trees
pub same_tree-is : (t u : Tree) → t ≡ u → same_tree t u ≡ true
same_tree-is t u e = ap (λ v. same_tree t v) (sym e) ∙ same_tree-refl t

-- the test of two codes is that of their trees
pub same_codes : (t u : Tree) → same_list (tree_code t) (tree_code u) ≡ same_tree t u
same_codes t u =
    same_tests (same_list (tree_code t) (tree_code u)) (same_tree t u)
    (λ e. same_tree-is t u (tree_code_injective t u (same_list-true (tree_code t) (tree_code u) e)))
    (λ e. same_list-is (tree_code t) (tree_code u) (ap tree_code (same_tree-true t u e)))

-- the first k nodes of a tree, in infix order, as a tree
abbrev pub front_tree : ℕ → Tree → Tree
front_tree k empty = empty
front_tree k (node l r) = if nat_le k (tree_size l) then front_tree k l else node l (front_tree (k - suc (tree_size l)) r)

-- the nodes after the first k
abbrev pub back_tree : ℕ → Tree → Tree
back_tree k empty = empty
back_tree k (node l r) = if nat_le k (tree_size l) then node (back_tree k l) r else back_tree (k - suc (tree_size l)) r

-- the front of two codes: of the first alone, or all of the first and a front of the second

front-within : (n : ℕ) (x y : List ℕ) → n ≤ length x → front_code n (x ++ y) ≡ front_code n x
front-within zero x y le = refl
front-within (suc n) [] y le = absurd (omega (arith, le))
front-within (suc n) (c ∷ x) y le = cons_same refl (front-within n x y (omega (arith, le)))

front-past : (n j : ℕ) (x y : List ℕ) → FitsLength x → n ≡ length x + j → front_code n (x ++ y) ≡ x ++ front_code j y
front-past n j [] y fits e = ap (λ k. front_code k y) (omega (arith, e))
front-past zero j (c ∷ x) y fits e = absurd (omega (arith, e))
front-past (suc n) j (c ∷ x) y fits e = cons_same (omega (arith, fits.0, e)) (front-past n j x y fits.1 (omega (arith, e)))

drop-within : (n : ℕ) (x y : List ℕ) → n ≤ length x → drop n (x ++ y) ≡ drop n x ++ y
drop-within zero x y le = refl
drop-within (suc n) [] y le = absurd (omega (arith, le))
drop-within (suc n) (c ∷ x) y le = drop-within n x y (omega (arith, le))

drop-past : (n j : ℕ) (x y : List ℕ) → n ≡ length x + j → drop n (x ++ y) ≡ drop j y
drop-past n j [] y e = ap (λ k. drop k y) (omega (arith, e))
drop-past zero j (c ∷ x) y e = absurd (omega (arith, e))
drop-past (suc n) j (c ∷ x) y e = drop-past n j x y (omega (arith, e))

split_size : (k m s : ℕ) (t : Bool) → nat_le k m ≡ t → (if t then min k m else suc (m + min (k - suc m) s)) ≡ min k (suc (m + s))
split_size k m s true e = let h : k ≤ m = grind (arith, nat_tests, e) in omega (arith, h)
split_size k m s false e = let h : m < k = grind (arith, nat_tests, e) in omega (arith, h)

size_if : (t : Bool) (x y : Tree) → tree_size (if t then x else y) ≡ (if t then tree_size x else tree_size y)
size_if true x y = refl
size_if false x y = refl

-- the front has k nodes, or all
pub tree_size-front_tree : (k : ℕ) (t : Tree) → tree_size (front_tree k t) ≡ min k (tree_size t)
tree_size-front_tree k empty = omega arith
tree_size-front_tree k (node l r) =
    size_if (nat_le k (tree_size l)) (front_tree k l) (node l (front_tree (k - suc (tree_size l)) r))
    ∙ (λ i. if nat_le k (tree_size l) then tree_size-front_tree k l i else suc (tree_size l + tree_size-front_tree (k - suc (tree_size l)) r i))
    ∙ split_size k (tree_size l) (tree_size r) (nat_le k (tree_size l)) refl

front_code-empty : (k : ℕ) → front_code k [] ≡ []
front_code-empty zero = refl
front_code-empty (suc k) = refl

drop-empty : (k : ℕ) → drop {A = ℕ} k [] ≡ []
drop-empty zero = refl
drop-empty (suc k) = refl

-- the code of the front of a tree is the front of its code
pub front_tree-code : (k : ℕ) (t : Tree) → tree_code (front_tree k t) ≡ front_code k (tree_code t)
front_tree-code k empty = sym (front_code-empty k)
front_tree-code k (node l r) = by_cut (nat_le k (tree_size l)) refl (front_tree-code k l) (front_tree-code (k - suc (tree_size l)) r)
  where
    by_cut : (b : Bool) → nat_le k (tree_size l) ≡ b → tree_code (front_tree k l) ≡ front_code k (tree_code l)
        → tree_code (front_tree (k - suc (tree_size l)) r) ≡ front_code (k - suc (tree_size l)) (tree_code r)
        → tree_code (if b then front_tree k l else node l (front_tree (k - suc (tree_size l)) r)) ≡ front_code k (tree_code (node l r))
    by_cut true e left right =
        let within : k ≤ tree_size l = grind (arith, nat_tests, e) in
        left ∙ sym (front-within k (tree_code l) (suc (tree_size r) ∷ tree_code r) (omega (arith, within, length-tree_code l)))
    by_cut false e left right =
        let past : tree_size l < k = grind (arith, nat_tests, e) in
        let root : suc (tree_size (front_tree (k - suc (tree_size l)) r)) ≡ min (suc (tree_size r)) (suc (k - suc (tree_size l))) =
        omega (arith, tree_size-front_tree (k - suc (tree_size l)) r) in
        (λ i. tree_code l ++ (root i ∷ right i))
        ∙ sym (front-past k (suc (k - suc (tree_size l))) (tree_code l) (suc (tree_size r) ∷ tree_code r) (fits-tree_code l) (omega (arith, past, length-tree_code l)))

-- and that of the back is the back
pub back_tree-code : (k : ℕ) (t : Tree) → tree_code (back_tree k t) ≡ drop k (tree_code t)
back_tree-code k empty = sym (drop-empty k)
back_tree-code k (node l r) = by_cut (nat_le k (tree_size l)) refl (back_tree-code k l) (back_tree-code (k - suc (tree_size l)) r)
  where
    by_cut : (b : Bool) → nat_le k (tree_size l) ≡ b → tree_code (back_tree k l) ≡ drop k (tree_code l)
        → tree_code (back_tree (k - suc (tree_size l)) r) ≡ drop (k - suc (tree_size l)) (tree_code r)
        → tree_code (if b then node (back_tree k l) r else back_tree (k - suc (tree_size l)) r) ≡ drop k (tree_code (node l r))
    by_cut true e left right =
        let within : k ≤ tree_size l = grind (arith, nat_tests, e) in
        ap (λ c. c ++ (suc (tree_size r) ∷ tree_code r)) left
        ∙ sym (drop-within k (tree_code l) (suc (tree_size r) ∷ tree_code r) (omega (arith, within, length-tree_code l)))
    by_cut false e left right =
        let past : tree_size l < k = grind (arith, nat_tests, e) in
        right ∙ sym (drop-past k (suc (k - suc (tree_size l))) (tree_code l) (suc (tree_size r) ∷ tree_code r) (omega (arith, past, length-tree_code l)))
