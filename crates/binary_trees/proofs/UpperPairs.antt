-- The pairs of a coproduct by codes: those of a node from those of its subtrees.
use Rattle.std.proofs.Common.{◌≡◌, ℕ, suc, ◌+◌, ◌≤◌, List, [], ◌∷◌, ◌++◌, length, map, refl, sym, ◌∙◌, ap, subst, arith}
use Rattle.std.specs.List.{All, AllByRecursion, flat_map}
use Rattle.std.proofs.lemmas.List.{append-nil, length-append}
use Rattle.std.proofs.lemmas.List.Elements.{All-from_recursion}
use Rattle.realisations.specs.Codes.{Code}
use Rattle.realisations.specs.Trees.{Tree, empty, node, tree_code, tree_size}
use Rattle.realisations.proofs.Every.{every-flat_map, every-map}
use Rattle.basis_representatives.proofs.TreeCodes.{length-tree_code}
use Rattle.basis_representatives.proofs.TreesOfCodes.{tree_of-code}
use Rattle.linear_combos.specs.Codes.{IsCode}
use Rattle.tree_laws.specs.TreeProducts.{tree_products}
use Rattle.tree_laws.specs.UpperParts.{joined_pairs, upper_codes, upper_pairs}
use Rattle.tree_laws.proofs.ProductTrees.{sizes_of_products}
use Rattle.binary_trees.specs.Places.{AreParts, AreSides, each_with, joined_codes}
use Rattle.binary_trees.proofs.CodesOfTrees.{code_of_tree_code, letters-append, letters-cons}

-- the codes of a pair
abbrev codes_of : Tree × Tree → Code × Code
codes_of e = (tree_code e.0, tree_code e.1)

with_part : (t : Tree) (part : Code) → part ≡ tree_code t → (ts : List Tree) → map codes_of (map (λ z. (z, t)) ts) ≡ each_with part (map (λ v. [] ++ (tree_code v ++ [])) ts)
with_part t part e [] = refl
with_part t part e (z ∷ ts) = λ i. (sym (append-nil (tree_code z)) i, sym e i) ∷ with_part t part e ts i

joined : (a b : Tree × Tree) → map codes_of (joined_pairs a b) ≡ joined_codes (codes_of a) (codes_of b)
joined a b =
    with_part (node a.1 b.1) (tree_code a.1 ++ (suc (length (tree_code b.1)) ∷ tree_code b.1)) (ap (λ n. tree_code a.1 ++ (suc n ∷ tree_code b.1)) (length-tree_code b.1)) (tree_products a.0 b.0)
    ∙ (λ i. each_with (tree_code a.1 ++ (suc (length (tree_code b.1)) ∷ tree_code b.1)) (map (λ v. [] ++ (tree_code v ++ [])) (tree_products (sym (tree_of-code a.0) i) (sym (tree_of-code b.0) i))))

map-both : (xs ys : List (Tree × Tree)) → map codes_of (xs ++ ys) ≡ map codes_of xs ++ map codes_of ys
map-both [] ys = refl
map-both (x ∷ xs) ys = ap (λ v. codes_of x ∷ v) (map-both xs ys)

row : (a : Tree × Tree) (bs : List (Tree × Tree)) → map codes_of (flat_map (λ b. joined_pairs a b) bs) ≡ flat_map (λ b. joined_codes (codes_of a) b) (map codes_of bs)
row a [] = refl
row a (b ∷ bs) = map-both (joined_pairs a b) (flat_map (λ b. joined_pairs a b) bs) ∙ (λ i. joined a b i ++ row a bs i)

rows : (ls bs : List (Tree × Tree)) → map codes_of (flat_map (λ a. flat_map (λ b. joined_pairs a b) bs) ls) ≡ flat_map (λ a. flat_map (λ b. joined_codes a b) (map codes_of bs)) (map codes_of ls)
rows [] bs = refl
rows (a ∷ ls) bs = map-both (flat_map (λ b. joined_pairs a b) bs) (flat_map (λ a. flat_map (λ b. joined_pairs a b) bs) ls) ∙ (λ i. row a bs i ++ rows ls bs i)

-- the pairs of a node
pub upper_codes-node : (t l r : Tree) (first : Code) (lefts rights pairs whole : List (Code × Code)) → t ≡ node l r → first ≡ tree_code t → lefts ≡ upper_codes l → rights ≡ upper_codes r
    → pairs ≡ (first, []) ∷ [] → whole ≡ pairs ++ flat_map (λ a. flat_map (λ b. joined_codes a b) rights) lefts → whole ≡ upper_codes t
upper_codes-node t l r first lefts rights pairs whole is ef el er ep ew =
    ew ∙ (λ i. ep i ++ flat_map (λ a. flat_map (λ b. joined_codes a b) (er i)) (el i))
    ∙ (λ i. ((ef ∙ ap tree_code is) i, []) ∷ sym (rows (upper_pairs l) (upper_pairs r)) i)
    ∙ ap upper_codes (sym is)

-- and of the empty tree
pub upper_codes-empty : (t : Tree) (first : Code) (pairs : List (Code × Code)) → t ≡ empty → first ≡ tree_code t → pairs ≡ (first, []) ∷ [] → pairs ≡ upper_codes t
upper_codes-empty t first pairs is ef ep = ep ∙ (λ i. ((ef ∙ ap tree_code is) i, []) ∷ []) ∙ ap upper_codes (sym is)

-- an upper part and a product of the trees below it have all nodes
record HasNodes (n : ℕ) (e : Tree × Tree) : Type 0 where
  all : tree_size e.0 + tree_size e.1 ≡ n

sizes : (t : Tree) → AllByRecursion (HasNodes (tree_size t)) (upper_pairs t)
sizes empty = (record { all = omega arith }, tt)
sizes (node l r) = (
  record { all = omega arith },
  every-flat_map (HasNodes (tree_size l)) (HasNodes (tree_size (node l r))) (λ a. flat_map (λ b. joined_pairs a b) (upper_pairs r))
      (λ a ha. every-flat_map (HasNodes (tree_size r)) (HasNodes (tree_size (node l r))) (λ b. joined_pairs a b)
      (λ b hb. every-map (λ v. tree_size v ≡ tree_size a.0 + tree_size b.0) (HasNodes (tree_size (node l r))) (λ z. (z, node a.1 b.1))
      (λ v hv. record { all = omega (arith, ha.all, hb.all, hv) }) (tree_products a.0 b.0) (sizes_of_products a.0 b.0))
      (upper_pairs r) (sizes r))
      (upper_pairs l) (sizes l),
)

-- the pairs of both subtrees of a tree of at most 12 nodes
pub are_sides : (t l r : Tree) (lefts rights : List (Code × Code)) → t ≡ node l r → tree_size t ≤ 12 → lefts ≡ upper_codes l → rights ≡ upper_codes r → All (λ a. All (AreSides a) rights) lefts
are_sides t l r lefts rights is le el er =
    subst (λ bs. All (λ a. All (AreSides a) bs) lefts) (sym er)
    (subst (λ ls. All (λ a. All (AreSides a) (upper_codes r)) ls) (sym el)
    (All-from_recursion (λ a. All (AreSides a) (upper_codes r)) (upper_codes l)
    (every-map (HasNodes (tree_size l)) (λ a. All (AreSides a) (upper_codes r)) codes_of
    (λ a ha. All-from_recursion (AreSides (codes_of a)) (upper_codes r)
    (every-map (HasNodes (tree_size r)) (AreSides (codes_of a)) codes_of
    (λ b hb. record {
      left_below = (a.0, refl);
      left_part = (a.1, refl);
      right_below = (b.0, refl);
      right_part = (b.1, refl);
      few = omega (arith, le, ap tree_size is, ha.all, hb.all, length-tree_code a.0, length-tree_code a.1, length-tree_code b.0, length-tree_code b.1);
    })
    (upper_pairs r) (sizes r)))
    (upper_pairs l) (sizes l))))

-- codes of joined parts
module _ (a b : Code × Code) (h : AreSides a b) where
  pub below_parts : (none : Code) → none ≡ [] → AreParts none a.0 b.0 none
  below_parts none e = subst (λ c. AreParts c a.0 b.0 c) (sym e) (record {
    first = h.left_below;
    second = h.right_below;
    short = omega (arith, h.few);
    before = refl;
    after = refl;
  })

  pub root_code : IsCode (a.1 ++ (length b.1 + 1) ∷ [])
  root_code = record {
    short = omega (arith, h.few, length-append a.1 ((length b.1 + 1) ∷ []));
    letters = letters-append a.1 ((length b.1 + 1) ∷ []) (code_of_tree_code a.1 h.left_part (omega (arith, h.few))).letters (letters-cons (length b.1 + 1) [] (omega arith) (omega (arith, h.few)) refl);
  }

  pub part_code : (root : Code) → root ≡ a.1 ++ (length b.1 + 1) ∷ [] → IsCode (root ++ b.1)
  part_code root e = subst (λ c. IsCode (c ++ b.1)) (sym e) (record {
    short = omega (arith, h.few, length-append (a.1 ++ (length b.1 + 1) ∷ []) b.1, length-append a.1 ((length b.1 + 1) ∷ []));
    letters = letters-append (a.1 ++ (length b.1 + 1) ∷ []) b.1 root_code.letters (code_of_tree_code b.1 h.right_part (omega (arith, h.few))).letters;
  })
