-- The place of the last greatest letter of a word, and the decreasing tree at it.
use Rattle.std.proofs.Common.{◌≡◌, ℕ, zero, suc, ◌+◌, ◌<◌, ◌≤◌, List, [], ◌∷◌, ◌++◌, length, take, drop, get_or, sym, ◌∙◌, ap, arith, inl, inr, subst}
use Rattle.std.specs.List.{AllByRecursion}
use Rattle.std.proofs.lemmas.Bool.{cases_lt}
use Rattle.std.proofs.lemmas.List.{length-drop, take-append-drop, get_or-drop}
use Rattle.std.proofs.Math.Seq.{drop-cons}
use Rattle.realisations.specs.Trees.{Tree, node, tree_size, decreasing_tree}
use Rattle.basis_representatives.proofs.TreeCodes.{code-decreasing_tree, decreasing_code-node, length-decreasing_code, length-tree_code, tree_code_injective}
use Rattle.realisations.proofs.RisingMaps.{Letters}
use Rattle.binary_trees.specs.Places.{IsLastGreatest}

-- the last greatest letter up to a place
pub record IsBestBefore (w : List ℕ) (at best : ℕ) : Type 0 where
  pub in_range : best < length w
  pub front : (j : ℕ) → j < best → get_or w j 0 ≤ get_or w best 0
  pub back : (j : ℕ) → best < j → j < at → get_or w j 0 < get_or w best 0

-- at first it is the first letter
pub best_at_first : (w : List ℕ) → 1 ≤ length w → IsBestBefore w 0 0
best_at_first w h = record {
  in_range = omega (arith, h);
  front = λ j lt. absurd (omega (arith, lt));
  back = λ j gt lt. absurd (omega (arith, lt));
}

-- a letter that is not smaller takes its place
pub best_moves : (w : List ℕ) (at best : ℕ) → at < length w → get_or w best 0 ≤ get_or w at 0 → IsBestBefore w at best → IsBestBefore w (at + 1) at
best_moves w at best h le b = record {
  in_range = h;
  front = λ j lt. elim (cases_lt j best) [
    | inl less ↦ omega (arith, b.front j less, le)
    | inr more ↦ elim (cases_lt best j) [
      | inl past ↦ omega (arith, b.back j past lt, le)
      | inr not_past ↦ omega (arith, ap (λ n. get_or w n 0) (same j best more not_past), le)
    ]
  ];
  back = λ j gt lt. absurd (omega (arith, gt, lt));
}
  where
    same : (j best : ℕ) → best ≤ j → j ≤ best → j ≡ best
    same j best p q = omega (arith, p, q)

-- a smaller letter does not
pub best_stays : (w : List ℕ) (at best : ℕ) → get_or w at 0 < get_or w best 0 → IsBestBefore w at best → IsBestBefore w (at + 1) best
best_stays w at best lt b = record {
  in_range = b.in_range;
  front = b.front;
  back = λ j gt below. elim (cases_lt j at) [
    | inl less ↦ b.back j gt less
    | inr more ↦ omega (arith, ap (λ n. get_or w n 0) (same j at more below), lt)
  ];
}
  where
    same : (j at : ℕ) → at ≤ j → j < at + 1 → j ≡ at
    same j at p q = omega (arith, p, q)

-- what holds at each place holds of each letter
all_from_places : (P : ℕ → Type 0) (xs : List ℕ) → ((j : ℕ) → j < length xs → P (get_or xs j 0)) → AllByRecursion P xs
all_from_places P [] h = tt
all_from_places P (x ∷ xs) h = (h 0 (omega arith), all_from_places P xs (λ j lt. h (suc j) (omega (arith, lt))))

all_in_front : (P : ℕ → Type 0) (n : ℕ) (xs : List ℕ) → ((j : ℕ) → j < n → P (get_or xs j 0)) → AllByRecursion P (take n xs)
all_in_front P zero xs h = tt
all_in_front P (suc n) [] h = tt
all_in_front P (suc n) (x ∷ xs) h = (h 0 (omega arith), all_in_front P n xs (λ j lt. h (suc j) (omega (arith, lt))))

-- after the whole word it is the last greatest letter
pub best_is_last : (w : List ℕ) (at best : ℕ) → length w ≤ at → IsBestBefore w at best → IsLastGreatest w best
best_is_last w at best h b = record {
  in_range = b.in_range;
  front = all_in_front (λ y. y ≤ get_or w best 0) best w b.front;
  back = all_from_places (λ y. y < get_or w best 0) (drop (suc best) w)
      (λ j lt. subst (λ y. y < get_or w best 0) (sym (get_or-drop (suc best) w j 0)) (b.back (suc best + j) (omega arith) (omega (arith, lt, length-drop (suc best) w, h))));
}

-- the decreasing tree of a word that is cut at its last greatest letter
decreasing_tree-node : (m : ℕ) (a b : List ℕ) → Letters (λ y. y ≤ m) a → Letters (λ y. y < m) b
    → decreasing_tree (a ++ (m ∷ b)) ≡ node (decreasing_tree a) (decreasing_tree b)
decreasing_tree-node m a b ha hb =
    let size : length b ≡ tree_size (decreasing_tree b) = sym (length-decreasing_code b) ∙ ap length (sym (code-decreasing_tree b)) ∙ length-tree_code (decreasing_tree b) in
    tree_code_injective (decreasing_tree (a ++ (m ∷ b))) (node (decreasing_tree a) (decreasing_tree b))
    (code-decreasing_tree (a ++ (m ∷ b)) ∙ decreasing_code-node a m b ha hb
    ∙ (λ i. sym (code-decreasing_tree a) i ++ (suc (size i) ∷ sym (code-decreasing_tree b) i)))

-- there the decreasing tree has its root
pub tree_at_greatest : (w : List ℕ) (at : ℕ) → IsLastGreatest w at → decreasing_tree w ≡ node (decreasing_tree (take at w)) (decreasing_tree (drop (suc at) w))
tree_at_greatest w at h =
    ap decreasing_tree (sym (ap (λ v. take at w ++ v) (sym (drop-cons w at 0 h.in_range)) ∙ take-append-drop at w))
    ∙ decreasing_tree-node (get_or w at 0) (take at w) (drop (suc at) w) h.front h.back

-- the trees of both sides make the decreasing tree
pub tree_of_sides : (w : List ℕ) (at : ℕ) (t l r : Tree) → IsLastGreatest w at → l ≡ decreasing_tree (take at w) → r ≡ decreasing_tree (drop (suc at) w) → t ≡ node l r → t ≡ decreasing_tree w
tree_of_sides w at t l r h el er et = et ∙ (λ i. node (el i) (er i)) ∙ sym (tree_at_greatest w at h)
