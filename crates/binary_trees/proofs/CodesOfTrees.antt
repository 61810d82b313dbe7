-- The codes of trees are codes.
use Rattle.std.proofs.Common.{◌≡◌, ℕ, zero, suc, ◌+◌, ◌≤◌, Bool, true, false, List, [], ◌∷◌, ◌++◌, length, take, drop, refl, sym, ◌∙◌, ap, subst, arith}
use Rattle.std.specs.Prelude.{nat_le, ◌&&◌}
use Rattle.std.proofs.lemmas.Bool.Decides.{nat_tests}
use Rattle.std.proofs.lemmas.List.{length-append, append_assoc, take-append-drop}
use Rattle.linear_combos.specs.Codes.{IsCode, all_letters}
use Rattle.realisations.specs.IndexKinds.{IsTreeCode}
use Rattle.realisations.specs.Trees.{Tree, empty, node, tree_size, tree_code}
use Rattle.basis_representatives.proofs.TreeCodes.{length-tree_code}

-- letters of a concatenation
pub letters-append : (u v : List ℕ) → all_letters u ≡ true → all_letters v ≡ true → all_letters (u ++ v) ≡ true
letters-append [] v hu hv = hv
letters-append (x ∷ u) v hu hv = step (nat_le 1 x && nat_le x 15) (all_letters u) hu (λ k. letters-append u v k hv)
  where
    step : (p q : Bool) → (p && q) ≡ true → (q ≡ true → all_letters (u ++ v) ≡ true) → (p && all_letters (u ++ v)) ≡ true
    step true q e ih = ih e
    step false q e ih = absurd (cc)

-- and of its parts
pub letters-front : (u v : List ℕ) → all_letters (u ++ v) ≡ true → all_letters u ≡ true
letters-front [] v h = refl
letters-front (x ∷ u) v h = step (nat_le 1 x && nat_le x 15) (all_letters (u ++ v)) h (λ k. letters-front u v k)
  where
    step : (p q : Bool) → (p && q) ≡ true → (q ≡ true → all_letters u ≡ true) → (p && all_letters u) ≡ true
    step true q e ih = ih e
    step false q e ih = absurd (cc)

letter : (x : ℕ) → 1 ≤ x → x ≤ 15 → (nat_le 1 x && nat_le x 15) ≡ true
letter x a b = grind (arith, nat_tests)

-- a letter before letters
pub letters-cons : (x : ℕ) (u : List ℕ) → 1 ≤ x → x ≤ 15 → all_letters u ≡ true → all_letters (x ∷ u) ≡ true
letters-cons x u a b h = let e : (nat_le 1 x && nat_le x 15) ≡ true = letter x a b in rw (e, h)

-- the code of a tree of at most 15 nodes has letters
pub letters-tree : (t : Tree) → tree_size t ≤ 15 → all_letters (tree_code t) ≡ true
letters-tree empty h = refl
letters-tree (node l r) h =
    letters-append (tree_code l) (suc (tree_size r) ∷ tree_code r) (letters-tree l (omega (arith, h)))
    (letters-cons (suc (tree_size r)) (tree_code r) (omega arith) (omega (arith, h)) (letters-tree r (omega (arith, h))))

-- the code of a tree of at most 15 nodes is a code
pub code_of_tree : (t : Tree) → tree_size t ≤ 15 → IsCode (tree_code t)
code_of_tree t h = record { short = omega (arith, length-tree_code t, h); letters = letters-tree t h }

-- and so is its front up to the root
pub code_to_root : (t l r : Tree) (front : List ℕ) (n : ℕ) → t ≡ node l r → tree_size t ≤ 15 → front ≡ tree_code l → n ≡ tree_size r → IsCode (front ++ (n + 1) ∷ [])
code_to_root t l r front n is h ef en = record {
  short = omega (arith, length-append front ((n + 1) ∷ []), length-tree_code l, ap length ef, ap tree_size is, h);
  letters = letters-append front ((n + 1) ∷ []) (ap all_letters ef ∙ letters-tree l (omega (arith, h, ap tree_size is)))
      (letters-cons (n + 1) [] (omega arith) (omega (arith, h, en, ap tree_size is)) refl);
}

-- the front, the root and the back make the code of the node
pub code_of_parts : (t l r : Tree) (whole front back : List ℕ) (n : ℕ) → t ≡ node l r → whole ≡ front ++ (n + 1) ∷ [] → front ≡ tree_code l → n ≡ tree_size r → back ≡ tree_code r
    → whole ++ back ≡ tree_code t
code_of_parts t l r whole front back n is ew ef en eb =
    ap (λ v. v ++ back) ew ∙ append_assoc front ((n + 1) ∷ []) back
    ∙ (λ i. ef i ++ (more i ∷ eb i))
    ∙ ap tree_code (sym is)
  where
    more : n + 1 ≡ suc (tree_size r)
    more = omega (arith, en)

-- letters of what is left of a list
pub letters-drop : (n : ℕ) (u : List ℕ) → all_letters u ≡ true → all_letters (drop n u) ≡ true
letters-drop zero u h = h
letters-drop (suc n) [] h = refl
letters-drop (suc n) (x ∷ u) h = letters-drop n u (rest (nat_le 1 x && nat_le x 15) (all_letters u) h)
  where
    rest : (p q : Bool) → (p && q) ≡ true → q ≡ true
    rest true q e = e
    rest false q e = absurd (cc)

-- and of its front
pub letters-take : (n : ℕ) (u : List ℕ) → all_letters u ≡ true → all_letters (take n u) ≡ true
letters-take n u h = letters-front (take n u) (drop n u) (ap all_letters (take-append-drop n u) ∙ h)

-- the same by the code
pub code_of_tree_code : (code : List ℕ) → IsTreeCode code → length code ≤ 15 → IsCode code
code_of_tree_code code (t, is) le = subst IsCode is (code_of_tree t (omega (arith, le, length-tree_code t, ap (λ (c : List ℕ). length c) is)))
