-- The trees of a product of two binary trees by their roots are those whose front and back the two are.
use Rattle.std.proofs.Common.{◌≡◌, ◌⊎◌, ℕ, suc, ◌+◌, ◌*◌, ◌-◌, ◌<◌, ◌≤◌, Bool, true, false, List, [], ◌∷◌, ◌++◌, map, length, drop, refl, sym, ◌∙◌, ap, subst, arith, inl, inr}
use Rattle.std.specs.Prelude.{nat_le, ◌&&◌, if◌then◌else◌}
use Rattle.std.proofs.lemmas.Bool.{and_parts, cases_lt}
use Rattle.std.proofs.lemmas.Bool.Decides.{nat_tests}
use Rattle.basis_names.specs.declared.bases.BasisId.TheVariants.{PbtP}
use Rattle.realisations.specs.Lists.{one_if, same_list}
use Rattle.realisations.specs.Trees.{Tree, empty, node, tree_size, tree_code}
use Rattle.realisations.proofs.Sums.{sums, sums-append, sums-map, sums_same, sums_none, sums-scale}
use Rattle.basis_representatives.proofs.SameLists.{one_if-and}
use Rattle.basis_representatives.proofs.TreeCodes.{length-tree_code}
use Rattle.linear_combos.specs.CodeLists.{ListsEach}
use Rattle.product_laws.specs.Classes.{splits_into}
use Rattle.product_laws.specs.Laws.{TreeRootsLaw}
use Rattle.product_laws.specs.Products.{IsProductRule}
use Rattle.product_laws.specs.TreeCuts.{front_code, IsTreeProduct}
use Rattle.tree_laws.specs.TreeProducts.{IsInProduct, IsProductCode}
use Rattle.product_laws.proofs.ClassRules.{both_same, same_both}
use Rattle.product_laws.proofs.Tests.{same_tests}
use Rattle.product_laws.proofs.TreeParts.{back_tree, back_tree-code, front_tree, front_tree-code, same_codes, same_tree, same_tree-is, same_tree-true, tree_size-front_tree}
use Rattle.product_laws.proofs.TreeRule.{tree_rule}

-- the trees of a product, by their roots
abbrev tree_products : Tree → Tree → List Tree
tree_products empty u = u ∷ []
tree_products (node a b) empty = node a b ∷ []
tree_products (node a b) (node c d) = map (λ x. node a x) (tree_products b (node c d)) ++ map (λ y. node y d) (tree_products (node a b) c)

-- how often a tree is listed
abbrev tree_count : Tree → List Tree → ℕ
tree_count t ts = sums (λ u. one_if (same_tree t u)) ts

-- edges of fronts and backs

not_within : (k m : ℕ) → m < k → nat_le k m ≡ false
not_within k m h = grind (arith, nat_tests, h)

-- the front of all nodes is the tree
pub front_tree_all : (k : ℕ) (t : Tree) → tree_size t ≤ k → front_tree k t ≡ t
front_tree_all k empty h = refl
front_tree_all k (node l r) h = rw (not_within k (tree_size l) (omega (arith, h))) (ap (λ t. node l t) (front_tree_all (k - suc (tree_size l)) r (omega (arith, h))))

-- nothing is after all nodes
pub back_tree_all : (k : ℕ) (t : Tree) → tree_size t ≤ k → back_tree k t ≡ empty
back_tree_all k empty h = refl
back_tree_all k (node l r) h = rw (not_within k (tree_size l) (omega (arith, h))) (back_tree_all (k - suc (tree_size l)) r (omega (arith, h)))

-- no node is before the first
pub front_tree_none : (t : Tree) → front_tree 0 t ≡ empty
front_tree_none empty = refl
front_tree_none (node l r) = let e : nat_le 0 (tree_size l) ≡ true = grind (arith, nat_tests) in rw e (front_tree_none l)

-- all nodes are after none
pub back_tree_none : (t : Tree) → back_tree 0 t ≡ t
back_tree_none empty = refl
back_tree_none (node l r) = let e : nat_le 0 (tree_size l) ≡ true = grind (arith, nat_tests) in rw e (ap (λ t. node t r) (back_tree_none l))

-- a tree with nothing after its first k nodes has at most k
nothing_after : (k : ℕ) (t : Tree) → back_tree k t ≡ empty → tree_size t ≤ k
nothing_after k empty e = omega arith
nothing_after k (node l r) e = by_cut (λ j. nothing_after j r) (nat_le k (tree_size l)) refl
  where
    by_cut : ((j : ℕ) → back_tree j r ≡ empty → tree_size r ≤ j) → (t : Bool) → nat_le k (tree_size l) ≡ t → suc (tree_size l + tree_size r) ≤ k
    by_cut ih true h =
        let some : node (back_tree k l) r ≡ empty = sym (ap (λ b. if b then node (back_tree k l) r else back_tree (k - suc (tree_size l)) r) h) ∙ e in
        absurd (omega (arith, ap tree_size some))
    by_cut ih false h =
        let past : tree_size l < k = grind (arith, nat_tests, h) in
        let rest : back_tree (k - suc (tree_size l)) r ≡ empty = sym (ap (λ b. if b then node (back_tree k l) r else back_tree (k - suc (tree_size l)) r) h) ∙ e in
        omega (arith, past, ih (k - suc (tree_size l)) rest)

-- trees of different sizes are different
other_size : (t u : Tree) → (tree_size t ≡ tree_size u → ⊥) → same_tree t u ≡ false
other_size t u other = same_tests (same_tree t u) false (λ e. absurd (other (ap tree_size (same_tree-true t u e)))) (λ e. absurd (cc))

-- the tree is cut after the nodes of t into t and u
abbrev is_cut_into : Tree → Tree → Tree → Bool
is_cut_into v t u = same_tree (front_tree (tree_size t) v) t && same_tree (back_tree (tree_size t) v) u

count-left : (l r a : Tree) (ts : List Tree) → tree_count (node l r) (map (λ x. node a x) ts) ≡ one_if (same_tree l a) * tree_count r ts
count-left l r a ts =
    sums-map (λ u. one_if (same_tree (node l r) u)) (λ x. node a x) ts
    ∙ sums_same (λ x. one_if (same_tree l a && same_tree r x)) (λ x. one_if (same_tree l a) * one_if (same_tree r x)) (λ x. one_if-and (same_tree l a) (same_tree r x)) ts
    ∙ sums-scale (one_if (same_tree l a)) (λ x. one_if (same_tree r x)) ts

count-right : (l r d : Tree) (ts : List Tree) → tree_count (node l r) (map (λ y. node y d) ts) ≡ one_if (same_tree r d) * tree_count l ts
count-right l r d ts =
    sums-map (λ u. one_if (same_tree (node l r) u)) (λ y. node y d) ts
    ∙ sums_same (λ y. one_if (same_tree l y && same_tree r d)) (λ y. one_if (same_tree r d) * one_if (same_tree l y)) (λ y. swapped (same_tree l y) (same_tree r d)) ts
    ∙ sums-scale (one_if (same_tree r d)) (λ y. one_if (same_tree l y)) ts
  where
    swapped : (p q : Bool) → one_if (p && q) ≡ one_if q * one_if p
    swapped true true = refl
    swapped true false = refl
    swapped false true = refl
    swapped false false = refl

-- the two cases of a root

root_after : (l r a b c d : Tree) (front : Tree) → suc (tree_size a + tree_size b) ≤ tree_size l
    → one_if (same_tree l a) * one_if (is_cut_into r b (node c d)) + one_if (same_tree r d) * one_if (same_tree front (node a b) && same_tree (back_tree (suc (tree_size a + tree_size b)) l) c)
    ≡ one_if (same_tree front (node a b) && same_tree (node (back_tree (suc (tree_size a + tree_size b)) l) r) (node c d))
root_after l r a b c d front h =
    let no : same_tree l a ≡ false = other_size l a (λ e. omega (arith, e, h)) in
    rw no (three (same_tree front (node a b)) (same_tree (back_tree (suc (tree_size a + tree_size b)) l) c) (same_tree r d) (one_if (is_cut_into r b (node c d))))
  where
    three : (p q s : Bool) (n : ℕ) → 0 * n + one_if s * one_if (p && q) ≡ one_if (p && (q && s))
    three true true true n = omega arith
    three true true false n = omega arith
    three true false s n = omega arith
    three false q s n = omega arith

root_before : (l r a b c d : Tree) → tree_size l < suc (tree_size a + tree_size b)
    → one_if (same_tree l a) * one_if (is_cut_into r b (node c d)) + one_if (same_tree r d) * one_if (same_tree (front_tree (suc (tree_size a + tree_size b)) l) (node a b) && same_tree (back_tree (suc (tree_size a + tree_size b)) l) c)
    ≡ one_if (same_tree (node l (front_tree (suc (tree_size a + tree_size b) - suc (tree_size l)) r)) (node a b) && same_tree (back_tree (suc (tree_size a + tree_size b) - suc (tree_size l)) r) (node c d))
root_before l r a b c d h =
    let no : same_tree (front_tree (suc (tree_size a + tree_size b)) l) (node a b) ≡ false =
    other_size (front_tree (suc (tree_size a + tree_size b)) l) (node a b) (λ e. omega (arith, e, h, tree_size-front_tree (suc (tree_size a + tree_size b)) l)) in
    rw no (by_left (same_tree l a) refl)
  where
    by_left : (t : Bool) → same_tree l a ≡ t
        → one_if t * one_if (is_cut_into r b (node c d)) + one_if (same_tree r d) * one_if false
        ≡ one_if ((t && same_tree (front_tree (suc (tree_size a + tree_size b) - suc (tree_size l)) r) b) && same_tree (back_tree (suc (tree_size a + tree_size b) - suc (tree_size l)) r) (node c d))
    by_left false e = omega arith
    by_left true e =
        let left : l ≡ a = same_tree-true l a e in
        let rest : suc (tree_size a + tree_size b) - suc (tree_size l) ≡ tree_size b = omega (arith, ap tree_size left) in
        rw rest (omega arith)

-- a tree is listed in the product once where it is cut into the factors, and else not
pub count-tree_products : (t u v : Tree) → tree_count v (tree_products t u) ≡ one_if (is_cut_into v t u)
count-tree_products empty u v = rw (front_tree_none v, back_tree_none v) (omega arith)
count-tree_products (node a b) empty v = unit (same_tests (same_tree v (node a b)) (is_cut_into v (node a b) empty) to from)
  where
    unit : {p q : Bool} → p ≡ q → one_if p + 0 ≡ one_if q
    unit e = omega (arith, ap one_if e)

    to : same_tree v (node a b) ≡ true → is_cut_into v (node a b) empty ≡ true
    to e =
        let same : v ≡ node a b = same_tree-true v (node a b) e in
        let size : tree_size v ≤ suc (tree_size a + tree_size b) = omega (arith, ap tree_size same) in
        rw (front_tree_all (suc (tree_size a + tree_size b)) v size, back_tree_all (suc (tree_size a + tree_size b)) v size) (rw e refl)

    from : is_cut_into v (node a b) empty ≡ true → same_tree v (node a b) ≡ true
    from e =
        let h = and_parts (same_tree (front_tree (suc (tree_size a + tree_size b)) v) (node a b)) (same_tree (back_tree (suc (tree_size a + tree_size b)) v) empty) e in
        let size = nothing_after (suc (tree_size a + tree_size b)) v (same_tree-true _ empty h.1) in
        ap (λ w. same_tree w (node a b)) (sym (front_tree_all (suc (tree_size a + tree_size b)) v size)) ∙ h.0
count-tree_products (node a b) (node c d) empty =
    sums-append (λ u. one_if (same_tree empty u)) (map (λ x. node a x) (tree_products b (node c d))) (map (λ y. node y d) (tree_products (node a b) c))
    ∙ omega (
      arith,
      sums-map (λ u. one_if (same_tree empty u)) (λ x. node a x) (tree_products b (node c d)),
      sums_none (λ x. one_if (same_tree empty (node a x))) (λ x. refl) (tree_products b (node c d)),
      sums-map (λ u. one_if (same_tree empty u)) (λ y. node y d) (tree_products (node a b) c),
      sums_none (λ y. one_if (same_tree empty (node y d))) (λ y. refl) (tree_products (node a b) c),
    )
count-tree_products (node a b) (node c d) (node l r) =
    sums-append (λ u. one_if (same_tree (node l r) u)) (map (λ x. node a x) (tree_products b (node c d))) (map (λ y. node y d) (tree_products (node a b) c))
    ∙ (λ i. count-left l r a (tree_products b (node c d)) i + count-right l r d (tree_products (node a b) c) i)
    ∙ (λ i. one_if (same_tree l a) * count-tree_products b (node c d) r i + one_if (same_tree r d) * count-tree_products (node a b) c l i)
    ∙ by_cut (nat_le (suc (tree_size a + tree_size b)) (tree_size l)) refl
  where
    by_cut : (t : Bool) → nat_le (suc (tree_size a + tree_size b)) (tree_size l) ≡ t
        → one_if (same_tree l a) * one_if (is_cut_into r b (node c d)) + one_if (same_tree r d) * one_if (is_cut_into l (node a b) c)
        ≡ one_if (same_tree (if t then front_tree (suc (tree_size a + tree_size b)) l else node l (front_tree (suc (tree_size a + tree_size b) - suc (tree_size l)) r)) (node a b)
        && same_tree (if t then node (back_tree (suc (tree_size a + tree_size b)) l) r else back_tree (suc (tree_size a + tree_size b) - suc (tree_size l)) r) (node c d))
    by_cut true e = root_after l r a b c d (front_tree (suc (tree_size a + tree_size b)) l) (grind (arith, nat_tests, e))
    by_cut false e = root_before l r a b c d (grind (arith, nat_tests, e))

-- a tree is listed where it is in the product

listed : (l a : Tree) → l ≡ a → one_if (same_tree l a) ≡ 1
listed l a e = ap one_if (same_tree-is l a e)

count-rooted : (t u v : Tree) → IsInProduct t u v → 1 ≤ tree_count v (tree_products t u)
count-rooted empty u v h = omega (arith, listed v u h)
count-rooted (node a b) empty v h = omega (arith, listed v (node a b) h)
count-rooted (node a b) (node c d) empty h = absurd h
count-rooted (node a b) (node c d) (node l r) (inl h) =
    let some : 1 ≤ tree_count r (tree_products b (node c d)) = count-rooted b (node c d) r h.1 in
    let first : tree_count (node l r) (map (λ x. node a x) (tree_products b (node c d))) ≡ tree_count r (tree_products b (node c d)) =
    count-left l r a (tree_products b (node c d)) ∙ ap (λ k. k * tree_count r (tree_products b (node c d))) (listed l a h.0) ∙ omega arith in
    omega (arith, sums-append (λ u. one_if (same_tree (node l r) u)) (map (λ x. node a x) (tree_products b (node c d))) (map (λ y. node y d) (tree_products (node a b) c)), first, some)
count-rooted (node a b) (node c d) (node l r) (inr h) =
    let some : 1 ≤ tree_count l (tree_products (node a b) c) = count-rooted (node a b) c l h.1 in
    let second : tree_count (node l r) (map (λ y. node y d) (tree_products (node a b) c)) ≡ tree_count l (tree_products (node a b) c) =
    count-right l r d (tree_products (node a b) c) ∙ ap (λ k. k * tree_count l (tree_products (node a b) c)) (listed r d h.0) ∙ omega arith in
    omega (arith, sums-append (λ u. one_if (same_tree (node l r) u)) (map (λ x. node a x) (tree_products b (node c d))) (map (λ y. node y d) (tree_products (node a b) c)), second, some)

is_listed : (v u : Tree) (b : Bool) → same_tree v u ≡ b → 1 ≤ one_if b + 0 → v ≡ u
is_listed v u true e some = same_tree-true v u e
is_listed v u false e some = absurd (omega (arith, some))

rooted-count : (t u v : Tree) → 1 ≤ tree_count v (tree_products t u) → IsInProduct t u v
rooted-count empty u v some = is_listed v u (same_tree v u) refl some
rooted-count (node a b) empty v some = is_listed v (node a b) (same_tree v (node a b)) refl some
rooted-count (node a b) (node c d) empty some =
    let none : tree_count empty (tree_products (node a b) (node c d)) ≡ 0 = count-tree_products (node a b) (node c d) empty in
    absurd (omega (arith, some, none))
rooted-count (node a b) (node c d) (node l r) some =
    by_tests (same_tree l a) refl (same_tree r d) refl (λ k. rooted-count b (node c d) r k) (λ k. rooted-count (node a b) c l k)
    (omega (
      arith,
      some,
      sums-append (λ u. one_if (same_tree (node l r) u)) (map (λ x. node a x) (tree_products b (node c d))) (map (λ y. node y d) (tree_products (node a b) c)),
      count-left l r a (tree_products b (node c d)),
      count-right l r d (tree_products (node a b) c),
    ))
  where
    by_tests : (p : Bool) → same_tree l a ≡ p → (q : Bool) → same_tree r d ≡ q
        → (1 ≤ tree_count r (tree_products b (node c d)) → IsInProduct b (node c d) r) → (1 ≤ tree_count l (tree_products (node a b) c) → IsInProduct (node a b) c l)
        → 1 ≤ one_if p * tree_count r (tree_products b (node c d)) + one_if q * tree_count l (tree_products (node a b) c)
        → ((l ≡ a) × IsInProduct b (node c d) r) ⊎ ((r ≡ d) × IsInProduct (node a b) c l)
    by_tests true e true f left right some = elim (cases_lt 0 (tree_count r (tree_products b (node c d)))) [
      | inl more ↦ inl (same_tree-true l a e, left more)
      | inr none ↦ inr (same_tree-true r d f, right (omega (arith, some, none)))
    ]
    by_tests true e false f left right some = inl (same_tree-true l a e, left (omega (arith, some)))
    by_tests false e true f left right some = inr (same_tree-true r d f, right (omega (arith, some)))
    by_tests false e false f left right some = absurd (omega (arith, some))

-- the tests of the trees are those of their codes
cuts_of_codes : (t u v : Tree) → is_cut_into v t u ≡ splits_into (λ n code. front_code n code) (λ n code. drop n code) (length (tree_code t)) (tree_code t) (tree_code u) (tree_code v)
cuts_of_codes t u v =
    (λ i. sym (same_codes (front_tree (tree_size t) v) t) i && sym (same_codes (back_tree (tree_size t) v) u) i)
    ∙ (λ i. same_list (front_tree-code (tree_size t) v i) (tree_code t) && same_list (back_tree-code (tree_size t) v i) (tree_code u))
    ∙ (λ i. same_list (front_code (sym (length-tree_code t) i) (tree_code v)) (tree_code t) && same_list (drop (sym (length-tree_code t) i) (tree_code v)) (tree_code u))

-- a tree of the product has the two as its front and back
cut : (t u v : Tree) → IsInProduct t u v → IsTreeProduct (tree_code t) (tree_code u) (tree_code v)
cut t u v h =
    let some : 1 ≤ one_if (is_cut_into v t u) = subst (λ k. 1 ≤ k) (count-tree_products t u v) (count-rooted t u v h) in
    let p = same_both (front_code (length (tree_code t)) (tree_code v)) (tree_code t) (drop (length (tree_code t)) (tree_code v)) (tree_code u)
    (sym (cuts_of_codes t u v) ∙ holds (is_cut_into v t u) some) in
    record { tree = (v, refl); front = p.0; back = p.1 }
  where
    holds : (b : Bool) → 1 ≤ one_if b → b ≡ true
    holds true k = refl
    holds false k = absurd (omega (arith, k))

-- and a tree with this front and back is one of the product
rooted : (t u v : Tree) → IsTreeProduct (tree_code t) (tree_code u) (tree_code v) → IsInProduct t u v
rooted t u v h =
    let test : is_cut_into v t u ≡ true = cuts_of_codes t u v ∙ both_same _ (tree_code t) _ (tree_code u) h.front h.back in
    rooted-count t u v (omega (arith, count-tree_products t u v, ap one_if test))

-- lists of codes that have the same property
lists_same : (P Q : List ℕ → Type 0) → ((code : List ℕ) → P code → Q code) → ((code : List ℕ) → Q code → P code) → (codes : List (List ℕ)) → ListsEach P codes → ListsEach Q codes
lists_same P Q to from codes h = record {
  each = λ code listed. to code (h.each code listed);
  whole = λ code q. h.whole code (from code q);
  in_order = h.in_order;
}

rule_by_roots : (t u : Tree) (codes : List (List ℕ)) → tree_size t + tree_size u ≤ 32 → ListsEach (IsProductCode t u) codes → IsProductRule PbtP (tree_code t) (tree_code u) codes
rule_by_roots t u codes small lists =
    tree_rule (tree_code t) (tree_code u) codes (omega (arith, small, length-tree_code t, length-tree_code u))
    (lists_same (IsProductCode t u) (IsTreeProduct (tree_code t) (tree_code u))
    (λ code h. subst (IsTreeProduct (tree_code t) (tree_code u)) h.2 (cut t u h.0 h.1))
    (λ code h. let v : Tree = h.tree.0 in (v, rooted t u v (subst (IsTreeProduct (tree_code t) (tree_code u)) (sym h.tree.1) h), h.tree.1))
    codes lists)

pub by_roots : TreeRootsLaw
by_roots = record { cut = cut; rooted = rooted; rule = rule_by_roots }
