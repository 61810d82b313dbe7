-- The rule of the product of PBT.P: the trees whose front and back are the factors.
use Rattle.std.proofs.Common.{◌≡◌, ℕ, zero, suc, ◌≤◌, Bool, true, false, List, [], ◌∷◌, length, take, drop, min, refl, sym, ◌∙◌, ap, subst, arith}
use Rattle.std.specs.Prelude.{nat_lt, if◌then◌else◌}
use Rattle.basis_names.specs.declared.bases.BasisId.TheVariants.{PbtP}
use Rattle.realisations.specs.IndexKinds.{IsTreeCode}
use Rattle.realisations.specs.Trees.{Tree, empty, node, tree_size, tree_code, decreasing_tree}
use Rattle.basis_representatives.proofs.AllRepresentatives.{class_laws}
use Rattle.basis_representatives.proofs.CodesByLetters.{decreasing_code, smaller_next}
use Rattle.basis_representatives.proofs.Letters.{Letters-append}
use Rattle.basis_representatives.proofs.TreeCodes.{code-decreasing_tree, length-decreasing_code, length-tree_code}
use Rattle.product_laws.specs.Classes.{IsByClasses}
use Rattle.product_laws.specs.Laws.{TreeLaw}
use Rattle.product_laws.specs.TreeCuts.{front_code, IsTreeProduct}
use Rattle.product_laws.proofs.ClassRules.{both_same, same_both, rule_of_listed}
use Rattle.product_laws.proofs.DistinctWords.{AreUpTo}

-- fewer letters follow within a front
next-take : (x : ℕ) (n : ℕ) (w : List ℕ) → smaller_next x (take n w) ≡ min (smaller_next x w) n
next-take x zero w = omega arith
next-take x (suc n) [] = omega arith
next-take x (suc n) (y ∷ w) = by_test (nat_lt y x) (next-take x n w)
  where
    by_test : (b : Bool) → smaller_next x (take n w) ≡ min (smaller_next x w) n
        → (if b then suc (smaller_next x (take n w)) else 0) ≡ min (if b then suc (smaller_next x w) else 0) (suc n)
    by_test true e = omega (arith, e)
    by_test false e = omega arith

-- the code of a front of a word is the front of its code
code-take : (n : ℕ) (w : List ℕ) → front_code n (decreasing_code w) ≡ decreasing_code (take n w)
code-take zero w = refl
code-take (suc n) [] = refl
code-take (suc n) (x ∷ w) =
    let first : min (suc (smaller_next x w)) (suc n) ≡ suc (smaller_next x (take n w)) = omega (arith, next-take x n w) in
    λ i. first i ∷ code-take n w i

-- and that of a back is the back
code-drop : (n : ℕ) (w : List ℕ) → drop n (decreasing_code w) ≡ decreasing_code (drop n w)
code-drop zero w = refl
code-drop (suc n) [] = refl
code-drop (suc n) (x ∷ w) = code-drop n w

-- PBT.P is by classes: the decreasing tree of a word
pub by_trees : IsByClasses PbtP (λ p. tree_code (decreasing_tree p)) (λ n code. front_code n code) (λ n code. drop n code)
by_trees = record {
  words = refl;
  occurs_at = λ code p. refl;
  degree = λ p. ap length (code-decreasing_tree p) ∙ length-decreasing_code p;
  index = λ p point. (decreasing_tree p, refl);
  fronts = λ n p point. ap (front_code n) (code-decreasing_tree p) ∙ code-take n p ∙ sym (code-decreasing_tree (take n p));
  backs = λ n p point. ap (drop n) (code-decreasing_tree p) ∙ code-drop n p ∙ sym (code-decreasing_tree (drop n p));
}

-- the letters of the code of a tree are from 1 to its size
letters_of_tree : (t : Tree) (n : ℕ) → tree_size t ≤ n → AreUpTo n (tree_code t)
letters_of_tree empty n le = tt
letters_of_tree (node l r) n le =
    Letters-append (λ x. (1 ≤ x) × (x ≤ n)) (tree_code l) (suc (tree_size r) ∷ tree_code r) (letters_of_tree l n (omega (arith, le)))
    ((omega arith, omega (arith, le)), letters_of_tree r n (omega (arith, le)))

pub letters_of_code : (code : List ℕ) → IsTreeCode code → AreUpTo (length code) code
letters_of_code code (t, is) = subst (λ c. AreUpTo (length c) c) is (letters_of_tree t (length (tree_code t)) (omega (arith, length-tree_code t)))

-- P of T times P of U is the sum of P over the trees whose front and back they are
pub tree_rule : TreeLaw
tree_rule s t codes small lists =
    rule_of_listed PbtP (λ p. tree_code (decreasing_tree p)) (λ n code. front_code n code) (λ n code. drop n code) by_trees class_laws.trees s t (IsTreeProduct s t)
    (λ c h. (h.tree, both_same _ s _ t h.front h.back))
    (λ c is e. let p = same_both (front_code (length s) c) s (drop (length s) c) t e in record { tree = is; front = p.0; back = p.1 })
    (λ c is. (letters_of_code c is, refl))
    codes small lists
