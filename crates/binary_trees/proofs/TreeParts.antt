-- The code of a tree is cut by its root into the codes of both subtrees.
use Rattle.std.proofs.Common.{◌≡◌, ℕ, suc, ◌<◌, ◌≤◌, Bool, true, false, List, [], ◌∷◌, ◌++◌, length, take, refl, sym, ◌∙◌, ap, subst, arith}
use Rattle.std.specs.Prelude.{nat_eq, if◌then◌else◌, MatchBool}
use Rattle.std.proofs.lemmas.Bool.{eq-eqb}
use Rattle.std.proofs.lemmas.Bool.Decides.{nat_tests}
use Rattle.std.proofs.lemmas.List.{length-append, length-take}
use Rattle.realisations.specs.IndexKinds.{IsTreeCode}
use Rattle.realisations.specs.Trees.{Tree, empty, node, tree_size, tree_code, before_root, after_root}
use Rattle.basis_representatives.proofs.TreeCodes.{FitsLength, fits-tree_code, length-tree_code}

before_root-at : (a b : List ℕ) → FitsLength a → before_root (a ++ (suc (length b) ∷ b)) ≡ a
before_root-at [] b h = let e : nat_eq (suc (length b)) (suc (length b)) ≡ true = eq-eqb (suc (length b)) (suc (length b)) refl in rw e refl
before_root-at (k ∷ a) b h =
    let e : nat_eq k (suc (length (a ++ (suc (length b) ∷ b)))) ≡ false = grind (arith, nat_tests, h.0, length-append a (suc (length b) ∷ b)) in
    rw e (ap (λ v. k ∷ v) (before_root-at a b h.1))

after_root-at : (a b : List ℕ) → FitsLength a → after_root (a ++ (suc (length b) ∷ b)) ≡ b
after_root-at [] b h = let e : nat_eq (suc (length b)) (suc (length b)) ≡ true = eq-eqb (suc (length b)) (suc (length b)) refl in rw e refl
after_root-at (k ∷ a) b h =
    let e : nat_eq k (suc (length (a ++ (suc (length b) ∷ b)))) ≡ false = grind (arith, nat_tests, h.0, length-append a (suc (length b) ∷ b)) in
    rw e (after_root-at a b h.1)

-- the root cuts the code of a node into those of the subtrees
pub before_root-node : (l r : Tree) → before_root (tree_code (node l r)) ≡ tree_code l
before_root-node l r =
    ap (λ n. before_root (tree_code l ++ (suc n ∷ tree_code r))) (sym (length-tree_code r)) ∙ before_root-at (tree_code l) (tree_code r) (fits-tree_code l)

pub after_root-node : (l r : Tree) → after_root (tree_code (node l r)) ≡ tree_code r
after_root-node l r =
    ap (λ n. after_root (tree_code l ++ (suc n ∷ tree_code r))) (sym (length-tree_code r)) ∙ after_root-at (tree_code l) (tree_code r) (fits-tree_code l)

-- where there is a root, the list is what stands before it, the root, and what stands after it
pub whole_of_parts : (code : List ℕ) → length (before_root code) < length code → before_root code ++ (suc (length (after_root code)) ∷ after_root code) ≡ code
whole_of_parts [] h = absurd (omega arith)
whole_of_parts (k ∷ code) h = by_root (nat_eq k (suc (length code))) refl (λ j. whole_of_parts code j)
  where
    by_root : (b : Bool) → nat_eq k (suc (length code)) ≡ b → (length (before_root code) < length code → before_root code ++ (suc (length (after_root code)) ∷ after_root code) ≡ code)
        → before_root (k ∷ code) ++ (suc (length (after_root (k ∷ code))) ∷ after_root (k ∷ code)) ≡ k ∷ code
    by_root true e ih = let same : suc (length code) ≡ k = grind (arith, nat_tests, e) in rw e (ap (λ n. n ∷ code) same)
    by_root false e ih =
        let less : length (before_root code) < length code = omega (arith, ap (λ b. length (if b then [] else k ∷ before_root code)) (sym e), h) in
        rw e (ap (λ v. k ∷ v) (ih less))

-- what a nonempty code of a tree has
pub record HasTreeParts (code : List ℕ) : Type 0 where
  pub root : length (before_root code) < length code
  pub before : IsTreeCode (before_root code)
  pub after : IsTreeCode (after_root code)

pub parts_of_tree : (code : List ℕ) → 1 ≤ length code → IsTreeCode code → HasTreeParts code
parts_of_tree code h (t, is) = by_tree t is
  where
    by_tree : (t : Tree) → tree_code t ≡ code → HasTreeParts code
    by_tree empty is = absurd (omega (arith, h, ap length is))
    by_tree (node l r) is =
        let b : tree_code l ≡ before_root code = sym (before_root-node l r) ∙ ap before_root is in
        let a : tree_code r ≡ after_root code = sym (after_root-node l r) ∙ ap after_root is in
        record {
          root = omega (arith, ap length is, ap length b, length-append (tree_code l) (suc (tree_size r) ∷ tree_code r));
          before = (l, b);
          after = (r, a);
        }

-- and what makes a code of a tree
pub tree_of_parts : (code : List ℕ) → HasTreeParts code → IsTreeCode code
tree_of_parts code h = by_trees h.before h.after
  where
    by_trees : IsTreeCode (before_root code) → IsTreeCode (after_root code) → IsTreeCode code
    by_trees (l, b) (r, a) =
        (node l r, (λ i. b i ++ (suc (sym (length-tree_code r) i) ∷ a i)) ∙ ap (λ n. before_root code ++ (suc n ∷ after_root code)) (ap length a) ∙ whole_of_parts code h.root)

-- letters with no root are no code of a tree
pub no_tree : (code : List ℕ) → 1 ≤ length code → before_root code ≡ code → IsTreeCode code → ⊥
no_tree code h e is = absurd (omega (arith, (parts_of_tree code h is).root, ap length e))

-- the codes of trees before and after the root make the code of a tree
pub both_trees : (code front back : List ℕ) (at : ℕ) → at < length code → before_root code ≡ take at code → before_root code ≡ front → after_root code ≡ back
    → IsTreeCode front → IsTreeCode back → IsTreeCode code
both_trees code front back at lt cut ef eb hf hb = tree_of_parts code (record {
  root = omega (arith, lt, ap length cut, length-take at code);
  before = subst IsTreeCode (sym ef) hf;
  after = subst IsTreeCode (sym eb) hb;
})

-- and where one of them is none there is no tree
pub no_front_tree : (code front : List ℕ) → 1 ≤ length code → before_root code ≡ front → (IsTreeCode front → ⊥) → IsTreeCode code → ⊥
no_front_tree code front some ef none is = none (subst IsTreeCode ef (parts_of_tree code some is).before)

pub parts_back : (code back : List ℕ) → 1 ≤ length code → after_root code ≡ back → IsTreeCode code → IsTreeCode back
parts_back code back some eb is = subst IsTreeCode eb (parts_of_tree code some is).after

-- a code with no root is that of the empty tree
pub none_left : (code : List ℕ) → IsTreeCode code → before_root code ≡ code → [] ≡ code
none_left [] h e = refl
none_left (k ∷ code) h e = absurd (omega (arith, (parts_of_tree (k ∷ code) (omega arith) h).root, ap length e))

-- the trees of what stands before and after the root make the tree
pub tree_of_both : (code front back : List ℕ) (t l r : Tree) → 1 ≤ length code → IsTreeCode code → before_root code ≡ front → after_root code ≡ back
    → tree_code l ≡ front → tree_code r ≡ back → t ≡ node l r → tree_code t ≡ code
tree_of_both code front back t l r h is eb ea el er et =
    ap tree_code et
    ∙ (λ i. (el ∙ sym eb) i ++ (suc (sym (length-tree_code r) i) ∷ (er ∙ sym ea) i))
    ∙ ap (λ n. before_root code ++ (suc n ∷ after_root code)) (ap length (er ∙ sym ea))
    ∙ whole_of_parts code (parts_of_tree code h is).root

-- an answer on one condition is one on another that holds where the first one holds, and only there
pub match_same : (P Q : Type 0) (b : Bool) → (P → Q) → (Q → P) → MatchBool b P (P → ⊥) → MatchBool b Q (Q → ⊥)
match_same P Q true to from h = to h
match_same P Q false to from h = λ q. h (from q)

-- and one that is no
pub match_no : (Q : Type 0) (b : Bool) → b ≡ false → (Q → ⊥) → MatchBool b Q (Q → ⊥)
match_no Q true e h = absurd (cc)
match_no Q false e h = h
