-- The classes of words, and the sizes of subtrees as codes.
use Rattle.std.proofs.Common.{◌≡◌, ℕ, suc, ◌+◌, ◌≤◌, List, [], ◌∷◌, ◌++◌, length, refl, sym, ◌∙◌, ap, subst, arith, true}
use Rattle.std.proofs.lemmas.List.{append_assoc, length-append}
use Rattle.basis_names.specs.declared.bases.BasisId.TheVariants.{PbtP}
use Rattle.basis_representatives.proofs.TreeCodes.{code-decreasing_tree, length-decreasing_code, length-tree_code}
use Rattle.binary_trees.proofs.CodesOfTrees.{letters-append, letters-cons}
use Rattle.index_rules.specs.Spaces.{IsClass}
use Rattle.linear_combos.specs.Codes.{IsCode, all_letters}
use Rattle.realisations.specs.Trees.{Tree, empty, node, decreasing_tree, subtree_sizes, tree_code, tree_size}

-- the decreasing tree has a node for each letter
pub size_of_word : (w : List ℕ) → tree_size (decreasing_tree w) ≡ length w
size_of_word w = omega (arith, length-tree_code (decreasing_tree w), ap length (code-decreasing_tree w), length-decreasing_code w)

-- P of it is the one element that occurs at the word
pub tree_class : (p : List ℕ) → IsClass PbtP p (tree_code (decreasing_tree p))
tree_class p = record { index_of = (decreasing_tree p, refl); degree = omega (arith, length-tree_code (decreasing_tree p), size_of_word p); occurs_alone = λ code is. refl }

length-sizes : (t : Tree) → length (subtree_sizes t) ≡ tree_size t
length-sizes empty = refl
length-sizes (node l r) = omega (arith, length-append (subtree_sizes l) (suc (tree_size l + tree_size r) ∷ subtree_sizes r), length-sizes l, length-sizes r)

letters-sizes : (t : Tree) → tree_size t ≤ 15 → all_letters (subtree_sizes t) ≡ true
letters-sizes empty h = refl
letters-sizes (node l r) h =
    letters-append (subtree_sizes l) (suc (tree_size l + tree_size r) ∷ subtree_sizes r) (letters-sizes l (omega (arith, h)))
    (letters-cons (suc (tree_size l + tree_size r)) (subtree_sizes r) (omega arith) (omega (arith, h)) (letters-sizes r (omega (arith, h))))

-- the sizes of the subtrees of a tree of at most 15 nodes are a code
code_of_sizes : (t : Tree) → tree_size t ≤ 15 → IsCode (subtree_sizes t)
code_of_sizes t h = record { short = omega (arith, length-sizes t, h); letters = letters-sizes t h }

-- and so are those up to the root
pub sizes_to_root : (t l r : Tree) (front : List ℕ) (n : ℕ) → t ≡ node l r → tree_size t ≤ 12 → front ≡ subtree_sizes l → n ≡ tree_size t → IsCode (front ++ n ∷ [])
sizes_to_root t l r front n is h ef en = record {
  short = omega (arith, length-append front (n ∷ []), length-sizes l, ap length ef, ap tree_size is, h);
  letters = letters-append front (n ∷ []) (ap all_letters ef ∙ letters-sizes l (omega (arith, h, ap tree_size is))) (letters-cons n [] (omega (arith, en, ap tree_size is)) (omega (arith, h, en)) refl);
}

-- the front, the root and the back are those of the node
pub sizes_of_parts : (t l r : Tree) (whole front back : List ℕ) (n : ℕ) → t ≡ node l r → whole ≡ front ++ n ∷ [] → front ≡ subtree_sizes l → n ≡ tree_size t → back ≡ subtree_sizes r
    → whole ++ back ≡ subtree_sizes t
sizes_of_parts t l r whole front back n is ew ef en eb =
    ap (λ v. v ++ back) ew ∙ append_assoc front (n ∷ []) back
    ∙ (λ i. ef i ++ ((en ∙ ap tree_size is) i ∷ eb i))
    ∙ ap subtree_sizes (sym is)

pub sizes_code : (t l r : Tree) (whole front back : List ℕ) (n : ℕ) → t ≡ node l r → tree_size t ≤ 12 → whole ≡ front ++ n ∷ [] → front ≡ subtree_sizes l → n ≡ tree_size t → back ≡ subtree_sizes r
    → IsCode (whole ++ back)
sizes_code t l r whole front back n is h ew ef en eb = subst IsCode (sym (sizes_of_parts t l r whole front back n is ew ef en eb)) (code_of_sizes t (omega (arith, h)))
