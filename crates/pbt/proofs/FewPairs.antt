-- The pairs of a tree of at most 7 nodes are few: all these trees are counted, by evaluation.
use Rattle.std.proofs.Common.{◌≡◌, ℕ, zero, suc, ◌+◌, ◌^◌, ◌≤◌, Bool, true, false, length, refl, ◌∙◌, ap, arith}
use Rattle.std.specs.Prelude.{nat_le, ◌&&◌}
use Rattle.std.proofs.lemmas.Bool.{and_parts}
use Rattle.std.proofs.lemmas.Bool.Decides.{nat_tests}
use Rattle.realisations.specs.Trees.{Tree, empty, node, tree_size}
use Rattle.tree_laws.specs.UpperParts.{upper_pairs}

-- a test of all two numbers that add to n
abbrev each_cut : ℕ → (ℕ → ℕ → Bool) → Bool
each_cut zero test = test 0 0
each_cut (suc n) test = test 0 (suc n) && each_cut n (λ i j. test (suc i) j)

cut_passes : (n : ℕ) (test : ℕ → ℕ → Bool) (i j : ℕ) → i + j ≡ n → each_cut n test ≡ true → test i j ≡ true
cut_passes zero test zero zero e h = h
cut_passes zero test zero (suc j) e h = absurd (omega (arith, e))
cut_passes zero test (suc i) j e h = absurd (omega (arith, e))
cut_passes (suc n) test zero j e h =
    let same : j ≡ suc n = omega (arith, e) in
    ap (test 0) same ∙ (and_parts (test 0 (suc n)) (each_cut n (λ i j. test (suc i) j)) h).0
cut_passes (suc n) test (suc i) j e h = cut_passes n (λ i j. test (suc i) j) i j (omega (arith, e)) (and_parts (test 0 (suc n)) (each_cut n (λ i j. test (suc i) j)) h).1

-- a test of all trees of n nodes, at most the first number
abbrev each_tree : ℕ → ℕ → (Tree → Bool) → Bool
each_tree most zero test = test empty
each_tree zero (suc n) test = false
each_tree (suc most) (suc n) test = each_cut n (λ i j. each_tree most i (λ l. each_tree most j (λ r. test (node l r))))

tree_passes : (most n : ℕ) (test : Tree → Bool) (tree : Tree) → tree_size tree ≡ n → each_tree most n test ≡ true → test tree ≡ true
tree_passes most zero test empty e h = h
tree_passes most zero test (node l r) e h = absurd (omega (arith, e))
tree_passes zero (suc n) test tree e h = absurd (cc)
tree_passes (suc most) (suc n) test empty e h = absurd (omega (arith, e))
tree_passes (suc most) (suc n) test (node l r) e h =
    let both : each_tree most (tree_size l) (λ l. each_tree most (tree_size r) (λ r. test (node l r))) ≡ true =
    cut_passes n (λ i j. each_tree most i (λ l. each_tree most j (λ r. test (node l r)))) (tree_size l) (tree_size r) (omega (arith, e)) h in
    tree_passes most (tree_size r) (λ r. test (node l r)) r refl (tree_passes most (tree_size l) (λ l. each_tree most (tree_size r) (λ r. test (node l r))) l refl both)

-- there are at most 2^n pairs
abbrev has_few : ℕ → Tree → Bool
has_few n tree = nat_le (length (upper_pairs tree)) (2 ^ n)

counted : (n : ℕ) → n ≤ 7 → each_tree 7 n (has_few n) ≡ true
counted zero h = refl
counted (suc zero) h = refl
counted (suc (suc zero)) h = refl
counted (suc (suc (suc zero))) h = refl
counted (suc (suc (suc (suc zero)))) h = refl
counted (suc (suc (suc (suc (suc zero))))) h = refl
counted (suc (suc (suc (suc (suc (suc zero)))))) h = refl
counted (suc (suc (suc (suc (suc (suc (suc zero))))))) h = refl
counted (suc (suc (suc (suc (suc (suc (suc (suc n)))))))) h = absurd (omega (arith, h))

pub few_pairs : (tree : Tree) → tree_size tree ≤ 7 → length (upper_pairs tree) ≤ 2 ^ tree_size tree
few_pairs tree small =
    let e : nat_le (length (upper_pairs tree)) (2 ^ tree_size tree) ≡ true = tree_passes 7 (tree_size tree) (has_few (tree_size tree)) tree refl (counted (tree_size tree) small) in
    grind (arith, nat_tests, e)
