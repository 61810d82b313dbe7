-- Letters before, the codes of two trees, and letters after: the codes of the trees of their product between these letters.
use Rattle.std.proofs.Common.{◌≡◌, ℕ, suc, ◌+◌, ◌-◌, ◌<◌, ◌≤◌, true, List, [], ◌∷◌, ◌++◌, length, take, drop, refl, sym, ◌∙◌, ap, subst, arith}
use Rattle.std.proofs.lemmas.List.{append_assoc, length-append, length-drop, length-take-le}
use Rattle.std.proofs.Math.Seq.{drop-append_seam}
use Rattle.realisations.specs.Codes.{Code}
use Rattle.realisations.specs.IndexKinds.{IsTreeCode}
use Rattle.realisations.specs.Trees.{Tree, empty, node, tree_code, tree_of, tree_size, before_root, after_root}
use Rattle.basis_representatives.proofs.TreeCodes.{length-tree_code}
use Rattle.basis_representatives.proofs.TreesOfCodes.{tree_of-code}
use Rattle.linear_combos.specs.Codes.{IsCode, all_letters}
use Rattle.tree_laws.specs.TreeProducts.{IsProductCode, tree_products}
use Rattle.tree_laws.proofs.ProductTrees.{between, between-alone, both_codes, lists_products}
use Rattle.word_laws.specs.AddedCodes.{AddsEach}
use Rattle.binary_trees.specs.Places.{AreParts, products_between}
use Rattle.binary_trees.proofs.CodesOfTrees.{code_of_tree_code, letters-append, letters-cons, letters-drop, letters-take}
use Rattle.binary_trees.proofs.TreeParts.{after_root-node, before_root-node, none_left}

-- the node of a code, cut at its root
pub record HasNode (code : Code) (at : ℕ) : Type 0 where
  pub left : Tree
  pub right : Tree
  pub whole : tree_code (node left right) ≡ code
  pub front : tree_code left ≡ take at code
  pub back : tree_code right ≡ drop (suc at) code

pub has_node : (code : Code) (at : ℕ) → at < length code → before_root code ≡ take at code → after_root code ≡ drop (suc at) code → IsTreeCode code → HasNode code at
has_node code at lt cut rest (t, is) = by_tree t is
  where
    by_tree : (t : Tree) → tree_code t ≡ code → HasNode code at
    by_tree empty is = absurd (omega (arith, lt, ap (λ (c : Code). length c) is))
    by_tree (node l r) is = record {
      left = l;
      right = r;
      whole = is;
      front = sym (before_root-node l r) ∙ ap before_root is ∙ cut;
      back = sym (after_root-node l r) ∙ ap after_root is ∙ rest;
    }

-- from the root on a code is the root and the code of the right subtree
from_root : (code : Code) (at : ℕ) (n : HasNode code at) → at < length code → drop at code ≡ suc (tree_size n.right) ∷ tree_code n.right
from_root code at n lt =
    let size : length (tree_code n.left) ≡ at = ap (λ (c : Code). length c) n.front ∙ length-take-le at code (omega (arith, lt)) in
    (λ i. drop (sym size i) (sym n.whole i)) ∙ drop-append_seam (tree_code n.left) (suc (tree_size n.right) ∷ tree_code n.right)

-- the tree of the code of a tree
tree_is : (t : Tree) (code : Code) → tree_code t ≡ code → tree_of code ≡ t
tree_is t code e = ap tree_of (sym e) ∙ tree_of-code t

-- the same by trees and by codes
pub products_are : (t u : Tree) (front ct cu rest : Code) → tree_code t ≡ ct → tree_code u ≡ cu → products_between front ct cu rest ≡ between front rest (tree_products t u)
products_are t u front ct cu rest et eu = λ i. between front rest (tree_products (tree_is t ct et i) (tree_is u cu eu i))

-- the empty tree and another
pub adds_second : (front t u rest joined new : Code) (old out : List Code) → AreParts front t u rest → before_root t ≡ t → joined ≡ front ++ u → new ≡ joined ++ rest → out ≡ old ++ new ∷ [] → out ≡ old ++ products_between front t u rest
adds_second front t u rest joined new old out h none ej en eo = by_tree h.second
  where
    by_tree : IsTreeCode u → out ≡ old ++ products_between front t u rest
    by_tree (v, is) =
        let code : new ≡ front ++ (tree_code v ++ rest) = en ∙ ap (λ w. w ++ rest) ej ∙ append_assoc front u rest ∙ ap (λ w. front ++ (w ++ rest)) (sym is) in
        eo ∙ (λ i. old ++ (code i ∷ [])) ∙ ap (λ ws. old ++ ws) (sym (products_are empty v front t u rest (none_left t h.first none) is))

-- a tree and the empty one
pub adds_first : (front t u rest joined new : Code) (old out : List Code) → AreParts front t u rest → 1 ≤ length t → before_root u ≡ u → joined ≡ front ++ t → new ≡ joined ++ rest → out ≡ old ++ new ∷ [] → out ≡ old ++ products_between front t u rest
adds_first front t u rest joined new old out h some none ej en eo = by_tree h.first
  where
    by_node : (v : Tree) → tree_code v ≡ t → out ≡ old ++ products_between front t u rest
    by_node empty is = absurd (omega (arith, some, ap (λ (c : Code). length c) is))
    by_node (node a b) is =
        let code : new ≡ front ++ (tree_code (node a b) ++ rest) = en ∙ ap (λ w. w ++ rest) ej ∙ append_assoc front t rest ∙ ap (λ w. front ++ (w ++ rest)) (sym is) in
        eo ∙ (λ i. old ++ (code i ∷ [])) ∙ ap (λ ws. old ++ ws) (sym (products_are (node a b) empty front t u rest is (none_left u h.second none)))

    by_tree : IsTreeCode t → out ≡ old ++ products_between front t u rest
    by_tree (v, is) = by_node v is

letters_first : (front t u rest : Code) → AreParts front t u rest → all_letters t ≡ true
letters_first front t u rest h = (code_of_tree_code t h.first (omega (arith, h.short))).letters

letters_second : (front t u rest : Code) → AreParts front t u rest → all_letters u ≡ true
letters_second front t u rest h = (code_of_tree_code u h.second (omega (arith, h.short))).letters

-- codes of these parts
pub with_second : (front t u rest : Code) → AreParts front t u rest → IsCode (front ++ u)
with_second front t u rest h = record {
  short = omega (arith, h.short, length-append front u);
  letters = letters-append front u h.before (letters_second front t u rest h);
}

pub with_first : (front t u rest : Code) → AreParts front t u rest → IsCode (front ++ t)
with_first front t u rest h = record {
  short = omega (arith, h.short, length-append front t);
  letters = letters-append front t h.before (letters_first front t u rest h);
}

pub whole_second : (front t u rest joined : Code) → AreParts front t u rest → joined ≡ front ++ u → IsCode (joined ++ rest)
whole_second front t u rest joined h e = subst (λ w. IsCode (w ++ rest)) (sym e) (record {
  short = omega (arith, h.short, length-append (front ++ u) rest, length-append front u);
  letters = letters-append (front ++ u) rest (with_second front t u rest h).letters h.after;
})

pub whole_first : (front t u rest joined : Code) → AreParts front t u rest → joined ≡ front ++ t → IsCode (joined ++ rest)
whole_first front t u rest joined h e = subst (λ w. IsCode (w ++ rest)) (sym e) (record {
  short = omega (arith, h.short, length-append (front ++ t) rest, length-append front t);
  letters = letters-append (front ++ t) rest (with_first front t u rest h).letters h.after;
})

module _ (front t u rest : Code) (i j : ℕ) (h : AreParts front t u rest)
    (li : i < length t) (ti : before_root t ≡ take i t) (tr : after_root t ≡ drop (suc i) t)
    (lj : j < length u) (uj : before_root u ≡ take j u) (ur : after_root u ≡ drop (suc j) u) where
  nt : HasNode t i
  nt = has_node t i li ti tr h.first

  nu : HasNode u j
  nu = has_node u j lj uj ur h.second

  -- the root and what comes after it go to the letters after
  pub back_code : (tail : Code) → tail ≡ drop j u → IsCode (tail ++ rest)
  back_code tail e = subst (λ w. IsCode (w ++ rest)) (sym e) (record {
    short = omega (arith, h.short, length-append (drop j u) rest, length-drop j u);
    letters = letters-append (drop j u) rest (letters-drop j u (letters_second front t u rest h)) h.after;
  })

  -- what comes before the root goes to the letters before
  pub front_code : (head : Code) → head ≡ take i t → IsCode (front ++ head)
  front_code head e = subst (λ w. IsCode (front ++ w)) (sym e) (record {
    short = omega (arith, h.short, length-append front (take i t), length-take-le i t (omega (arith, li)), li);
    letters = letters-append front (take i t) h.before (letters-take i t (letters_first front t u rest h));
  })

  pub start_code : (head joined : Code) (n : ℕ) → head ≡ take i t → joined ≡ front ++ head → n ≡ length t - i + length u → IsCode (joined ++ (n ∷ []))
  start_code head joined n eh ej en =
      let whole : joined ≡ front ++ take i t = ej ∙ ap (λ w. front ++ w) eh in
      let code : IsCode (front ++ take i t) = front_code (take i t) refl in
      subst (λ w. IsCode (w ++ (n ∷ []))) (sym whole) (record {
        short = omega (arith, h.short, length-append (front ++ take i t) (n ∷ []), length-append front (take i t), length-take-le i t (omega (arith, li)), li);
        letters = letters-append (front ++ take i t) (n ∷ []) code.letters (letters-cons n [] (omega (arith, en, li)) (omega (arith, en, h.short)) refl);
      })

  pub left_parts : (left tail back : Code) → left ≡ take j u → tail ≡ drop j u → back ≡ tail ++ rest → AreParts front t left back
  left_parts left tail back el et eb =
      let whole : back ≡ drop j u ++ rest = eb ∙ ap (λ w. w ++ rest) et in
      record {
        first = h.first;
        second = (nu.left, nu.front ∙ sym el);
        short = omega (arith, h.short, lj, ap (λ (c : Code). length c) el, ap (λ (c : Code). length c) whole, length-take-le j u (omega (arith, lj)), length-append (drop j u) rest, length-drop j u);
        before = h.before;
        after = ap all_letters whole ∙ (back_code (drop j u) refl).letters;
      }

  pub right_parts : (head joined start right : Code) (n : ℕ) → head ≡ take i t → joined ≡ front ++ head → n ≡ length t - i + length u → start ≡ joined ++ (n ∷ []) → right ≡ drop (suc i) t → AreParts start right u rest
  right_parts head joined start right n eh ej en es er =
      let whole : joined ≡ front ++ take i t = ej ∙ ap (λ w. front ++ w) eh in
      record {
        first = (nt.right, nt.back ∙ sym er);
        second = h.second;
        short = omega (arith, h.short, li, ap (λ (c : Code). length c) es, ap (λ (c : Code). length c) whole, ap (λ (c : Code). length c) er, length-append joined (n ∷ []), length-append front (take i t), length-take-le i t (omega (arith, li)), length-drop (suc i) t);
        before = ap all_letters es ∙ (start_code head joined n eh ej en).letters;
        after = h.after;
      }

  -- both kinds of roots
  pub adds_both : (left tail back head joined start right : Code) (n : ℕ) (old mid new : List Code)
      → left ≡ take j u → tail ≡ drop j u → back ≡ tail ++ rest
      → head ≡ take i t → joined ≡ front ++ head → n ≡ length t - i + length u → start ≡ joined ++ (n ∷ []) → right ≡ drop (suc i) t
      → mid ≡ old ++ products_between front t left back → new ≡ mid ++ products_between start right u rest
      → new ≡ old ++ products_between front t u rest
  adds_both left tail back head joined start right n old mid new el et eb eh ej en es er first second =
      let ys = between front ((suc (tree_size nu.right) ∷ tree_code nu.right) ++ rest) (tree_products (node nt.left nt.right) nu.left) in
      let xs = between (front ++ (tree_code nt.left ++ (suc (tree_size nt.right + tree_size (node nu.left nu.right)) ∷ []))) rest (tree_products nt.right (node nu.left nu.right)) in
      let first_is : products_between front t left back ≡ ys =
      ap (λ w. products_between front t left w) back_is ∙ products_are (node nt.left nt.right) nu.left front t left ((suc (tree_size nu.right) ∷ tree_code nu.right) ++ rest) nt.whole (nu.front ∙ sym el) in
      let second_is : products_between start right u rest ≡ xs =
      ap (λ w. products_between w right u rest) start_is ∙ products_are nt.right (node nu.left nu.right) (front ++ (tree_code nt.left ++ (suc (tree_size nt.right + tree_size (node nu.left nu.right)) ∷ []))) right u rest (nt.back ∙ sym er) nu.whole in
      second ∙ (λ k. (first ∙ ap (λ ws. old ++ ws) first_is) k ++ second_is k) ∙ append_assoc old ys xs
      ∙ ap (λ ws. old ++ ws) (sym (both_codes nt.left nt.right nu.left nu.right front rest) ∙ sym (products_are (node nt.left nt.right) (node nu.left nu.right) front t u rest nt.whole nu.whole))
    where
      back_is : back ≡ (suc (tree_size nu.right) ∷ tree_code nu.right) ++ rest
      back_is = eb ∙ ap (λ w. w ++ rest) (et ∙ from_root u j nu lj)

      root : n ≡ suc (tree_size nt.right + tree_size (node nu.left nu.right))
      root = omega (arith, en, li, length-tree_code nt.right, ap (λ (c : Code). length c) nt.back, length-drop (suc i) t, length-tree_code (node nu.left nu.right), ap (λ (c : Code). length c) nu.whole)

      start_is : start ≡ front ++ (tree_code nt.left ++ (suc (tree_size nt.right + tree_size (node nu.left nu.right)) ∷ []))
      start_is = es ∙ (λ k. (ej ∙ ap (λ w. front ++ w) (eh ∙ sym nt.front)) k ++ (root k ∷ [])) ∙ append_assoc front (tree_code nt.left) (suc (tree_size nt.right + tree_size (node nu.left nu.right)) ∷ [])

-- at the start nothing stands before and after
pub start_parts : (t u : Tree) (none first second : Code) → tree_size t + tree_size u ≤ 12 → none ≡ [] → first ≡ tree_code t → second ≡ tree_code u → AreParts none first second none
start_parts t u none first second le en et eu = record {
  first = (t, sym et);
  second = (u, sym eu);
  short = omega (arith, le, ap (λ (c : Code). length c) en, ap (λ (c : Code). length c) et, ap (λ (c : Code). length c) eu, length-tree_code t, length-tree_code u);
  before = ap all_letters en;
  after = ap all_letters en;
}

-- so the codes are those of the product
pub product_codes : (t u : Tree) (none first second : Code) (old new : List Code) → none ≡ [] → first ≡ tree_code t → second ≡ tree_code u → old ≡ [] → new ≡ old ++ products_between none first second none → AddsEach (IsProductCode t u) [] new
product_codes t u none first second old new en et eu eo is =
    subst (λ (ws : List Code). AddsEach (IsProductCode t u) [] ws)
    (sym (is ∙ (λ i. eo i ++ products_between (en i) first second (en i)) ∙ products_are t u [] first second [] (sym et) (sym eu) ∙ between-alone (tree_products t u)))
    (lists_products t u)
