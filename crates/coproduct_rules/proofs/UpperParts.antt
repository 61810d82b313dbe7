-- The coproduct of an element of PBT.P, over the upper parts of its tree (Loday, Ronco 1998; Hivert, Novelli, Thibon 2005).
use Rattle.std.proofs.Common.{◌≡◌, ℕ, ◌+◌, ◌*◌, ◌<◌, ◌≤◌, List, [], ◌∷◌, ◌++◌, map, refl, sym, ◌∙◌, ap, subst, arith}
use Rattle.std.specs.List.{AllByRecursion, flat_map}
use Rattle.realisations.specs.Lists.{same_list, one_if}
use Rattle.realisations.specs.Words.{greatest, shuffles, word_cuts}
use Rattle.realisations.specs.Trees.{Tree, empty, node, before_last, after_last, decreasing_tree}
use Rattle.realisations.proofs.Sums.{sums, sums-add, sums-map, sums-flat_map, sums-scale, sums_same, sums_none}
use Rattle.coproduct_rules.specs.UpperParts.{upper_parts}
use Rattle.coproduct_rules.proofs.DoubleSums.{sums_swap, sums_times, sums-scale_right}
use Rattle.coproduct_laws.proofs.LowAndHigh.{AreLow, AreHigh}
use Rattle.coproduct_laws.proofs.Shuffling.{over_shuffles}
use Rattle.coproduct_rules.proofs.ShuffleCuts.{over_shuffles-nil_right}
use Rattle.coproduct_laws.proofs.ShuffleCounts.{shuffle_count}
use Rattle.coproduct_rules.proofs.ShuffleCuts.{over_word_cuts, over_word_cuts-step, over_word_cuts_same}
use Rattle.coproduct_rules.proofs.ShufflesAtLetter.{over_shuffles_letters, around, shuffles_at_letter}
use Rattle.coproduct_rules.proofs.DecreasingTrees.{CutAtLast, cut_at_greatest, decreasing_tree-node, is_tree, is_tree-node, is_tree-node_empty, is_tree-empty_node, is_tree-empty}

-- in how many ways a word is cut into words with these decreasing trees
abbrev pub forest_count : List Tree → List ℕ → ℕ
forest_count [] w = one_if (same_list w [])
forest_count (tree ∷ trees) w = over_word_cuts (λ a b. is_tree (decreasing_tree a) tree * forest_count trees b) w

-- cutting is associative
cuts_assoc : (h : List ℕ → List ℕ → List ℕ → ℕ) (w : List ℕ) → over_word_cuts (λ a b. over_word_cuts (λ c d. h c d b) a) w ≡ over_word_cuts (λ c e. over_word_cuts (λ d b. h c d b) e) w
cuts_assoc h [] = refl
cuts_assoc h (x ∷ w) =
    let left = over_word_cuts-step (λ a b. over_word_cuts (λ c d. h c d b) a) x w in
    let right = over_word_cuts-step (λ c e. over_word_cuts (λ d b. h c d b) e) x w in
    let first = over_word_cuts-step (λ d b. h [] d b) x w in
    let inner : over_word_cuts (λ a b. over_word_cuts (λ c d. h c d b) (x ∷ a)) w ≡ over_word_cuts (λ a b. h [] (x ∷ a) b) w + over_word_cuts (λ a b. over_word_cuts (λ c d. h (x ∷ c) d b) a) w
    = sums_same (λ (e : List ℕ × List ℕ). over_word_cuts (λ c d. h c d e.1) (x ∷ e.0)) (λ e. h [] (x ∷ e.0) e.1 + over_word_cuts (λ c d. h (x ∷ c) d e.1) e.0)
    (λ e. over_word_cuts-step (λ c d. h c d e.1) x e.0) (word_cuts w)
    ∙ sums-add (λ (e : List ℕ × List ℕ). h [] (x ∷ e.0) e.1) (λ e. over_word_cuts (λ c d. h (x ∷ c) d e.1) e.0) (word_cuts w) in
    omega (arith, left, right, first, inner, cuts_assoc (λ c d b. h (x ∷ c) d b) w)

-- only the cut before the first letter begins with the empty word
cuts_none_first : (k : List ℕ → ℕ) (w : List ℕ) → over_word_cuts (λ a b. one_if (same_list a []) * k b) w ≡ k w
cuts_none_first k [] = omega arith
cuts_none_first k (x ∷ w) =
    over_word_cuts-step (λ a b. one_if (same_list a []) * k b) x w
    ∙ omega (arith, sums_none (λ (e : List ℕ × List ℕ). 0 * k e.1) (λ e. omega arith) (word_cuts w))

-- and only the one after the last letter ends with it
cuts_none_last : (k : List ℕ → ℕ) (w : List ℕ) → over_word_cuts (λ a b. k a * one_if (same_list b [])) w ≡ k w
cuts_none_last k [] = omega arith
cuts_none_last k (x ∷ w) =
    over_word_cuts-step (λ a b. k a * one_if (same_list b [])) x w
    ∙ omega (arith, cuts_none_last (λ a. k (x ∷ a)) w)

-- the cuts for two lists of trees
pub forest_count-append : (s t : List Tree) (w : List ℕ) → over_word_cuts (λ a b. forest_count s a * forest_count t b) w ≡ forest_count (s ++ t) w
forest_count-append [] t w = cuts_none_first (λ b. forest_count t b) w
forest_count-append (tree ∷ s) t w =
    sums_same (λ (e : List ℕ × List ℕ). forest_count (tree ∷ s) e.0 * forest_count t e.1) (λ e. over_word_cuts (λ c d. is_tree (decreasing_tree c) tree * forest_count s d * forest_count t e.1) e.0)
    (λ e. sym (sums-scale_right (forest_count t e.1) (λ (f : List ℕ × List ℕ). is_tree (decreasing_tree f.0) tree * forest_count s f.1) (word_cuts e.0))) (word_cuts w)
    ∙ cuts_assoc (λ c d b. is_tree (decreasing_tree c) tree * forest_count s d * forest_count t b) w
    ∙ sums_same (λ (f : List ℕ × List ℕ). over_word_cuts (λ d b. is_tree (decreasing_tree f.0) tree * forest_count s d * forest_count t b) f.1) (λ f. is_tree (decreasing_tree f.0) tree * forest_count (s ++ t) f.1)
    (λ f. sums_same (λ (g : List ℕ × List ℕ). is_tree (decreasing_tree f.0) tree * forest_count s g.0 * forest_count t g.1) (λ g. is_tree (decreasing_tree f.0) tree * (forest_count s g.0 * forest_count t g.1)) (λ g. omega arith) (word_cuts f.1)
    ∙ sums-scale (is_tree (decreasing_tree f.0) tree) (λ (g : List ℕ × List ℕ). forest_count s g.0 * forest_count t g.1) (word_cuts f.1)
    ∙ ap (λ n. is_tree (decreasing_tree f.0) tree * n) (forest_count-append s t f.1)) (word_cuts w)

-- the cut for one tree
pub forest_count-one : (tree : Tree) (w : List ℕ) → forest_count (tree ∷ []) w ≡ is_tree (decreasing_tree w) tree
forest_count-one tree w = cuts_none_last (λ a. is_tree (decreasing_tree a) tree) w

-- how many upper parts have the tree of v, counted with the ways to cut u into the subtrees that hang below
abbrev pub upper_count : Tree → List ℕ → List ℕ → ℕ
upper_count tree u v = sums (λ e. forest_count e.0 u * is_tree (decreasing_tree v) e.1) (upper_parts tree)

-- the upper parts of a node that have a root
abbrev rooted : Tree → Tree → List (List Tree × Tree)
rooted l r = flat_map (λ a. map (λ b. (a.0 ++ b.0, node a.1 b.1)) (upper_parts r)) (upper_parts l)

-- a sum over the parts with a root is one over the parts of both subtrees
sums_rooted : (f : List Tree × Tree → ℕ) (l r : Tree) → sums f (rooted l r) ≡ sums (λ a. sums (λ b. f (a.0 ++ b.0, node a.1 b.1)) (upper_parts r)) (upper_parts l)
sums_rooted f l r =
    sums-flat_map f (λ (a : List Tree × Tree). map (λ (b : List Tree × Tree). (a.0 ++ b.0, node a.1 b.1)) (upper_parts r)) (upper_parts l)
    ∙ sums_same _ _ (λ (a : List Tree × Tree). sums-map f (λ (b : List Tree × Tree). (a.0 ++ b.0, node a.1 b.1)) (upper_parts r)) (upper_parts l)

-- no part with a root has the empty tree
upper_none : (l r : Tree) (u : List ℕ) → upper_count (node l r) u [] ≡ is_tree (decreasing_tree u) (node l r)
upper_none l r u =
    let none : sums (λ (e : List Tree × Tree). forest_count e.0 u * is_tree empty e.1) (rooted l r) ≡ 0
    = sums_rooted (λ e. forest_count e.0 u * is_tree empty e.1) l r
    ∙ sums_same _ (λ (a : List Tree × Tree). 0)
    (λ a. sums_none (λ (b : List Tree × Tree). forest_count (a.0 ++ b.0) u * is_tree empty (node a.1 b.1)) (λ b. ap (λ n. forest_count (a.0 ++ b.0) u * n) (is_tree-empty_node a.1 b.1) ∙ omega arith) (upper_parts r)) (upper_parts l)
    ∙ sums_none (λ (a : List Tree × Tree). 0) (λ a. refl) (upper_parts l) in
    omega (arith, none, forest_count-one (node l r) u)

-- a word with a root: upper parts of both subtrees, and a cut of u between them
upper_some : (l r : Tree) (u c d v : List ℕ) → decreasing_tree v ≡ node (decreasing_tree c) (decreasing_tree d)
    → over_word_cuts (λ a b. upper_count l a c * upper_count r b d) u ≡ upper_count (node l r) u v
upper_some l r u c d v root =
    sums_same (λ (p : List ℕ × List ℕ). upper_count l p.0 c * upper_count r p.1 d) (λ p. sums (λ a. sums (λ b. term a b p) (upper_parts r)) (upper_parts l))
    (λ p. sums_times (λ (a : List Tree × Tree). forest_count a.0 p.0 * is_tree (decreasing_tree c) a.1) (λ (b : List Tree × Tree). forest_count b.0 p.1 * is_tree (decreasing_tree d) b.1) (upper_parts l) (upper_parts r)) (word_cuts u)
    ∙ sums_swap (λ p a. sums (λ b. term a b p) (upper_parts r)) (word_cuts u) (upper_parts l)
    ∙ sums_same _ (λ a. sums (λ (b : List Tree × Tree). forest_count (a.0 ++ b.0) u * is_tree (decreasing_tree v) (node a.1 b.1)) (upper_parts r))
    (λ a. sums_swap (λ p b. term a b p) (word_cuts u) (upper_parts r) ∙ sums_same _ _ (λ b. gathered a b) (upper_parts r)) (upper_parts l)
    ∙ sym (sums_rooted (λ e. forest_count e.0 u * is_tree (decreasing_tree v) e.1) l r)
    ∙ sym (ap (λ n. forest_count (node l r ∷ []) u * n + sums (λ (e : List Tree × Tree). forest_count e.0 u * is_tree (decreasing_tree v) e.1) (rooted l r)) none ∙ omega arith)
  where
    term : List Tree × Tree → List Tree × Tree → List ℕ × List ℕ → ℕ
    term a b p = (forest_count a.0 p.0 * is_tree (decreasing_tree c) a.1) * (forest_count b.0 p.1 * is_tree (decreasing_tree d) b.1)

    none : is_tree (decreasing_tree v) empty ≡ 0
    none = ap (λ t. is_tree t empty) root ∙ is_tree-node_empty (decreasing_tree c) (decreasing_tree d)

    gathered : (a b : List Tree × Tree)
        → sums (λ (p : List ℕ × List ℕ). (forest_count a.0 p.0 * is_tree (decreasing_tree c) a.1) * (forest_count b.0 p.1 * is_tree (decreasing_tree d) b.1)) (word_cuts u)
        ≡ forest_count (a.0 ++ b.0) u * is_tree (decreasing_tree v) (node a.1 b.1)
    gathered a b =
        sums_same _ (λ (p : List ℕ × List ℕ). forest_count a.0 p.0 * forest_count b.0 p.1 * (is_tree (decreasing_tree c) a.1 * is_tree (decreasing_tree d) b.1)) (λ p. omega arith) (word_cuts u)
        ∙ sums-scale_right (is_tree (decreasing_tree c) a.1 * is_tree (decreasing_tree d) b.1) (λ (p : List ℕ × List ℕ). forest_count a.0 p.0 * forest_count b.0 p.1) (word_cuts u)
        ∙ (λ i. forest_count-append a.0 b.0 u i * sym (ap (λ t. is_tree t (node a.1 b.1)) root ∙ is_tree-node (decreasing_tree c) (decreasing_tree d) a.1 b.1) i)

-- low letters are below a high one
low_below : (g m : ℕ) (w : List ℕ) → g < m → AreLow g w → AllByRecursion (λ x. x < m) w
low_below g m [] h k = tt
low_below g m (x ∷ w) h k = (omega (arith, k.0), low_below g m w h k.1)

-- letters below m are up to m
below_up_to : (m : ℕ) (w : List ℕ) → AllByRecursion (λ x. x < m) w → AllByRecursion (λ x. x ≤ m) w
below_up_to m [] k = tt
below_up_to m (x ∷ w) k = (omega (arith, k.0), below_up_to m w k.1)

-- what holds of each letter holds of those of the front
append_front : (P : ℕ → Type 0) (c d : List ℕ) → AllByRecursion P (c ++ d) → AllByRecursion P c
append_front P [] d h = tt
append_front P (x ∷ c) d h = (h.0, append_front P c d h.1)

-- and of those of the back
append_back : (P : ℕ → Type 0) (c d : List ℕ) → AllByRecursion P (c ++ d) → AllByRecursion P d
append_back P [] d h = h
append_back P (x ∷ c) d h = append_back P c d h.1

-- the shuffles of low letters u and high letters v with a decreasing tree are counted by the upper parts of the tree
pub upper_parts_count : (g : ℕ) (tree : Tree) (u v : List ℕ) → AreLow g u → AreHigh g v → over_shuffles (λ x. is_tree (decreasing_tree x) tree) u v ≡ upper_count tree u v
upper_parts_count g empty u v hu hv =
    sums_same (λ x. is_tree (decreasing_tree x) empty) (λ x. one_if (same_list x [])) is_tree-empty (shuffles u v)
    ∙ shuffle_count g u v hu hv []
    ∙ ap (λ n. one_if (same_list u []) * n) (sym (is_tree-empty v))
    ∙ omega arith
upper_parts_count g (node l r) u [] hu hv = over_shuffles-nil_right (λ x. is_tree (decreasing_tree x) (node l r)) u ∙ sym (upper_none l r u)
upper_parts_count g (node l r) u (y ∷ v) hu hv =
    cut (cut_at_greatest y v) (λ a c. upper_parts_count g l a c) (λ b d. upper_parts_count g r b d)
  where
    m : ℕ
    m = greatest (y ∷ v)

    at_letter : (c d : List ℕ) → AllByRecursion (λ x. x ≤ greatest (y ∷ v)) c → AllByRecursion (λ x. x < greatest (y ∷ v)) d → AreHigh g (c ++ (greatest (y ∷ v) ∷ d))
        → ((a c : List ℕ) → AreLow g a → AreHigh g c → over_shuffles (λ x. is_tree (decreasing_tree x) l) a c ≡ upper_count l a c)
        → ((b d : List ℕ) → AreLow g b → AreHigh g d → over_shuffles (λ x. is_tree (decreasing_tree x) r) b d ≡ upper_count r b d)
        → (a b : List ℕ) → AreLow g a → AreLow g b
        → around (λ x. is_tree (decreasing_tree x) (node l r)) (greatest (y ∷ v)) a b c d ≡ upper_count l a c * upper_count r b d
    at_letter c d hc hd high left right a b ha hb =
        let above : g < greatest (y ∷ v) = (append_back (λ x. g < x) c (greatest (y ∷ v) ∷ d) high).0 in
        over_shuffles_letters (λ x. x ≤ greatest (y ∷ v)) _ (λ x. is_tree (decreasing_tree x) l * over_shuffles (λ z. is_tree (decreasing_tree z) r) b d) a c
        (below_up_to (greatest (y ∷ v)) a (low_below g (greatest (y ∷ v)) a above ha)) hc
        (λ x hx. over_shuffles_letters (λ z. z < greatest (y ∷ v)) _ (λ z. is_tree (decreasing_tree x) l * is_tree (decreasing_tree z) r) b d (low_below g (greatest (y ∷ v)) b above hb) hd
        (λ z hz. ap (λ t. is_tree t (node l r)) (decreasing_tree-node (greatest (y ∷ v)) x z hx hz) ∙ is_tree-node (decreasing_tree x) (decreasing_tree z) l r)
        ∙ sums-scale (is_tree (decreasing_tree x) l) (λ z. is_tree (decreasing_tree z) r) (shuffles b d))
        ∙ sums-scale_right (over_shuffles (λ z. is_tree (decreasing_tree z) r) b d) (λ x. is_tree (decreasing_tree x) l) (shuffles a c)
        ∙ (λ i. left a c ha (append_front (λ x. g < x) c (greatest (y ∷ v) ∷ d) high) i * right b d hb (append_back (λ x. g < x) c (greatest (y ∷ v) ∷ d) high).1 i)

    cut : CutAtLast (greatest (y ∷ v)) (y ∷ v)
        → ((a c : List ℕ) → AreLow g a → AreHigh g c → over_shuffles (λ x. is_tree (decreasing_tree x) l) a c ≡ upper_count l a c)
        → ((b d : List ℕ) → AreLow g b → AreHigh g d → over_shuffles (λ x. is_tree (decreasing_tree x) r) b d ≡ upper_count r b d)
        → over_shuffles (λ x. is_tree (decreasing_tree x) (node l r)) u (y ∷ v) ≡ upper_count (node l r) u (y ∷ v)
    cut at left right =
        let c : List ℕ = before_last (greatest (y ∷ v)) (y ∷ v) in
        let d : List ℕ = after_last (greatest (y ∷ v)) (y ∷ v) in
        let high : AreHigh g (c ++ (greatest (y ∷ v) ∷ d)) = subst (λ w. AreHigh g w) (sym at.whole) hv in
        ap (λ w. over_shuffles (λ x. is_tree (decreasing_tree x) (node l r)) u w) (sym at.whole)
        ∙ shuffles_at_letter (λ x. is_tree (decreasing_tree x) (node l r)) (greatest (y ∷ v)) c d u
        ∙ over_word_cuts_same (λ x. x ≤ g) _ (λ a b. upper_count l a c * upper_count r b d) u hu (λ a b ha hb. at_letter c d at.front at.back high left right a b ha hb)
        ∙ upper_some l r u c d (y ∷ v) (ap decreasing_tree (sym at.whole) ∙ decreasing_tree-node (greatest (y ∷ v)) c d at.front at.back)
