-- A tree is determined by its code.
use Rattle.std.proofs.Common.{◌≡◌, ℕ, zero, suc, ◌≤◌, List, [], ◌∷◌, ◌++◌, length, refl, sym, ◌∙◌, ap, arith, true, false}
use Rattle.std.specs.Prelude.{nat_eq}
use Rattle.std.proofs.lemmas.Bool.{eq-eqb, ne_eqb}
use Rattle.std.proofs.lemmas.List.{length-append}
use Rattle.realisations.specs.Trees.{Tree, empty, node, tree_size, tree_code, tree_of, tree_within, before_root, after_root}
use Rattle.basis_representatives.proofs.TreeCodes.{FitsLength, fits-tree_code, length-tree_code}

-- the root of a tree, by its code

not_root : (k : ℕ) (a b : List ℕ) (n : ℕ) → k ≤ suc (length a) → nat_eq k (suc (length (a ++ (n ∷ b)))) ≡ false
not_root k a b n h = ne_eqb k (suc (length (a ++ (n ∷ b)))) (λ e. absurd (omega (arith, e, h, length-append a (n ∷ b))))

before_root-at : (a b : List ℕ) → FitsLength a → before_root (a ++ (suc (length b) ∷ b)) ≡ a
before_root-at [] b h = let e : nat_eq (suc (length b)) (suc (length b)) ≡ true = eq-eqb (suc (length b)) (suc (length b)) refl in rw e refl
before_root-at (k ∷ a) b h = rw (not_root k a b (suc (length b)) h.0) (ap (λ v. k ∷ v) (before_root-at a b h.1))

after_root-at : (a b : List ℕ) → FitsLength a → after_root (a ++ (suc (length b) ∷ b)) ≡ b
after_root-at [] b h = let e : nat_eq (suc (length b)) (suc (length b)) ≡ true = eq-eqb (suc (length b)) (suc (length b)) refl in rw e refl
after_root-at (k ∷ a) b h = rw (not_root k a b (suc (length b)) h.0) (after_root-at a b h.1)

tree_within-node : (n : ℕ) (code : List ℕ) → 1 ≤ length code → tree_within (suc n) code ≡ node (tree_within n (before_root code)) (tree_within n (after_root code))
tree_within-node n [] h = absurd (omega arith)
tree_within-node n (k ∷ code) h = refl

tree_within-code : (n : ℕ) (t : Tree) → tree_size t ≤ n → tree_within n (tree_code t) ≡ t
tree_within-code zero empty h = refl
tree_within-code (suc n) empty h = refl
tree_within-code zero (node l r) h = absurd (omega arith)
tree_within-code (suc n) (node l r) h =
    let a = tree_code l in
    let b = tree_code r in
    let code : a ++ (suc (tree_size r) ∷ b) ≡ a ++ (suc (length b) ∷ b) = ap (λ m. a ++ (suc m ∷ b)) (sym (length-tree_code r)) in
    let left : tree_within n (before_root (a ++ (suc (tree_size r) ∷ b))) ≡ l =
    ap (λ c. tree_within n (before_root c)) code ∙ ap (tree_within n) (before_root-at a b (fits-tree_code l)) ∙ tree_within-code n l (omega arith) in
    let right : tree_within n (after_root (a ++ (suc (tree_size r) ∷ b))) ≡ r =
    ap (λ c. tree_within n (after_root c)) code ∙ ap (tree_within n) (after_root-at a b (fits-tree_code l)) ∙ tree_within-code n r (omega arith) in
    tree_within-node n (a ++ (suc (tree_size r) ∷ b)) (omega (arith, length-append a (suc (tree_size r) ∷ b))) ∙ (λ i. node (left i) (right i))

-- a tree is that of its code
pub tree_of-code : (t : Tree) → tree_of (tree_code t) ≡ t
tree_of-code t = tree_within-code (length (tree_code t)) t (omega (arith, length-tree_code t))
