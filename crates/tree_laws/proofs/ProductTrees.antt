-- The trees of a product: their sizes, and their codes by the two kinds of roots, each once.
use Rattle.std.proofs.Common.{◌≡◌, ◌⊎◌, ℕ, suc, ◌+◌, List, [], ◌∷◌, ◌++◌, length, map, refl, sym, ◌∙◌, ap, subst, arith, inl, inr}
use Rattle.std.specs.List.{AllByRecursion}
use Rattle.std.proofs.lemmas.List.{append-nil, append_assoc}
use Rattle.realisations.proofs.Every.{every-append, every-map}
use Rattle.realisations.specs.Codes.{Code}
use Rattle.realisations.specs.Trees.{Tree, empty, node, tree_code, tree_size}
use Rattle.basis_representatives.proofs.TreeCodes.{length-tree_code, tree_code_injective}
use Rattle.word_laws.specs.AddedCodes.{AddsEach}
use Rattle.word_laws.proofs.AddedCodes.{adds_either, adds_one, adds_same}
use Rattle.tree_laws.specs.TreeProducts.{IsInProduct, IsProductCode, tree_products}

-- a tree of a product has the nodes of both
pub size_in_product : (t u v : Tree) → IsInProduct t u v → tree_size v ≡ tree_size t + tree_size u
size_in_product empty u v h = omega (arith, ap tree_size h)
size_in_product (node a b) empty v h = omega (arith, ap tree_size h)
size_in_product (node a b) (node c d) empty h = absurd h
size_in_product (node a b) (node c d) (node l r) (inl h) = omega (arith, ap tree_size h.0, size_in_product b (node c d) r h.1)
size_in_product (node a b) (node c d) (node l r) (inr h) = omega (arith, ap tree_size h.0, size_in_product (node a b) c l h.1)

same_front : (front u v : List ℕ) → front ++ u ≡ front ++ v → u ≡ v
same_front [] u v e = e
same_front (x ∷ front) u v e = let tails : front ++ u ≡ front ++ v = cc in same_front front u v tails

same_back : (u v back : List ℕ) → length u ≡ length v → u ++ back ≡ v ++ back → u ≡ v
same_back [] [] back s e = refl
same_back [] (y ∷ v) back s e = absurd (omega (arith, s))
same_back (x ∷ u) [] back s e = absurd (omega (arith, s))
same_back (x ∷ u) (y ∷ v) back s e =
    let head : x ≡ y = cc in
    let tails : u ++ back ≡ v ++ back = cc in
    let rest = same_back u v back (omega (arith, s)) tails in
    λ i. head i ∷ rest i

-- the code of a tree of the product, between letters before and after
abbrev pub IsBetween : Tree → Tree → List ℕ → List ℕ → Code → Type 0
IsBetween t u front rest code = (v : Tree) × IsInProduct t u v × (code ≡ front ++ (tree_code v ++ rest))

module _ (a b c d : Tree) (front rest : List ℕ) where
  abbrev first_half : Code → Type 0
  first_half = IsBetween (node a b) c front ((suc (tree_size d) ∷ tree_code d) ++ rest)

  abbrev second_half : Code → Type 0
  second_half = IsBetween b (node c d) (front ++ (tree_code a ++ (suc (tree_size b + tree_size (node c d)) ∷ []))) rest

  -- a root and its right subtree among the letters after
  root_after : (y : Tree) → front ++ (tree_code y ++ ((suc (tree_size d) ∷ tree_code d) ++ rest)) ≡ front ++ (tree_code (node y d) ++ rest)
  root_after y = ap (λ v. front ++ v) (sym (append_assoc (tree_code y) (suc (tree_size d) ∷ tree_code d) rest))

  -- a root and its left subtree among the letters before
  root_before : (x : Tree) → tree_size x ≡ tree_size b + tree_size (node c d)
      → (front ++ (tree_code a ++ (suc (tree_size b + tree_size (node c d)) ∷ []))) ++ (tree_code x ++ rest) ≡ front ++ (tree_code (node a x) ++ rest)
  root_before x size =
      ap (λ n. (front ++ (tree_code a ++ (suc n ∷ []))) ++ (tree_code x ++ rest)) (sym size)
      ∙ append_assoc front (tree_code a ++ (suc (tree_size x) ∷ [])) (tree_code x ++ rest)
      ∙ ap (λ v. front ++ v) (append_assoc (tree_code a) (suc (tree_size x) ∷ []) (tree_code x ++ rest) ∙ sym (append_assoc (tree_code a) (suc (tree_size x) ∷ tree_code x) rest))

  halves : (code : Code) → first_half code ⊎ second_half code → IsBetween (node a b) (node c d) front rest code
  halves code (inl (y, h, e)) = (node y d, inr (refl, h), e ∙ root_after y)
  halves code (inr (x, h, e)) = (node a x, inl (refl, h), e ∙ root_before x (size_in_product b (node c d) x h))

  in_halves : (code : Code) → IsBetween (node a b) (node c d) front rest code → first_half code ⊎ second_half code
  in_halves code (empty, h, e) = absurd h
  in_halves code (node l r, inl (is, h), e) = inr (r, h, e ∙ ap (λ (t : Tree). front ++ (tree_code (node t r) ++ rest)) is ∙ sym (root_before r (size_in_product b (node c d) r h)))
  in_halves code (node l r, inr (is, h), e) = inl (l, h, e ∙ ap (λ (t : Tree). front ++ (tree_code (node l t) ++ rest)) is ∙ sym (root_after l))

  -- the left subtrees have different sizes
  halves_apart : (code : Code) → first_half code → second_half code → ⊥
  halves_apart code (y, h, e) (x, k, e') =
      let size_y : tree_size y ≡ suc (tree_size a + tree_size b) + tree_size c = size_in_product (node a b) c y h in
      let size_x : tree_size x ≡ tree_size b + tree_size (node c d) = size_in_product b (node c d) x k in
      let codes : tree_code (node y d) ++ rest ≡ tree_code (node a x) ++ rest = same_front front _ _ (sym (root_after y) ∙ sym e ∙ e' ∙ root_before x size_x) in
      let long : length (tree_code (node y d)) ≡ length (tree_code (node a x)) = omega (arith, length-tree_code (node y d), length-tree_code (node a x), size_x, size_y) in
      let trees : node y d ≡ node a x = tree_code_injective (node y d) (node a x) (same_back (tree_code (node y d)) (tree_code (node a x)) rest long codes) in
      let lefts : y ≡ a = cc in
      omega (arith, size_y, ap tree_size lefts)

  -- the codes of both halves are those of the product
  pub adds_halves : (old mid new : List Code) → AddsEach first_half old mid → AddsEach second_half mid new → AddsEach (IsBetween (node a b) (node c d) front rest) old new
  adds_halves old mid new first second =
      adds_same (λ w. first_half w ⊎ second_half w) (IsBetween (node a b) (node c d) front rest) old new halves in_halves
      (adds_either first_half second_half old mid new halves_apart first second)

-- the codes of some trees, each between letters before and after
abbrev pub between : List ℕ → List ℕ → List Tree → List Code
between front rest ts = map (λ v. front ++ (tree_code v ++ rest)) ts

-- each tree of the list has the nodes of both
pub sizes_of_products : (t u : Tree) → AllByRecursion (λ v. tree_size v ≡ tree_size t + tree_size u) (tree_products t u)
sizes_of_products empty u = (omega arith, tt)
sizes_of_products (node a b) empty = (omega arith, tt)
sizes_of_products (node a b) (node c d) =
    every-append (λ v. tree_size v ≡ tree_size (node a b) + tree_size (node c d)) (map (λ y. node y d) (tree_products (node a b) c)) (map (λ x. node a x) (tree_products b (node c d)))
    (every-map (λ v. tree_size v ≡ tree_size (node a b) + tree_size c) (λ v. tree_size v ≡ tree_size (node a b) + tree_size (node c d)) (λ y. node y d) (λ y h. omega (arith, h)) (tree_products (node a b) c) (sizes_of_products (node a b) c))
    (every-map (λ v. tree_size v ≡ tree_size b + tree_size (node c d)) (λ v. tree_size v ≡ tree_size (node a b) + tree_size (node c d)) (λ x. node a x) (λ x h. omega (arith, h)) (tree_products b (node c d)) (sizes_of_products b (node c d)))

between-append : (front rest : List ℕ) (ts us : List Tree) → between front rest (ts ++ us) ≡ between front rest ts ++ between front rest us
between-append front rest [] us = refl
between-append front rest (t ∷ ts) us = ap (λ cs. (front ++ (tree_code t ++ rest)) ∷ cs) (between-append front rest ts us)

module _ (a b c d : Tree) (front rest : List ℕ) where
  first_codes : (ts : List Tree) → between front rest (map (λ y. node y d) ts) ≡ between front ((suc (tree_size d) ∷ tree_code d) ++ rest) ts
  first_codes [] = refl
  first_codes (y ∷ ts) = λ i. sym (root_after a b c d front rest y) i ∷ first_codes ts i

  second_codes : (ts : List Tree) → AllByRecursion (λ v. tree_size v ≡ tree_size b + tree_size (node c d)) ts
      → between front rest (map (λ x. node a x) ts) ≡ between (front ++ (tree_code a ++ (suc (tree_size b + tree_size (node c d)) ∷ []))) rest ts
  second_codes [] h = refl
  second_codes (x ∷ ts) h = λ i. sym (root_before a b c d front rest x h.0) i ∷ second_codes ts h.1 i

  -- the codes of both kinds of roots
  pub both_codes : between front rest (tree_products (node a b) (node c d))
      ≡ between front ((suc (tree_size d) ∷ tree_code d) ++ rest) (tree_products (node a b) c)
      ++ between (front ++ (tree_code a ++ (suc (tree_size b + tree_size (node c d)) ∷ []))) rest (tree_products b (node c d))
  both_codes =
      between-append front rest (map (λ y. node y d) (tree_products (node a b) c)) (map (λ x. node a x) (tree_products b (node c d)))
      ∙ (λ i. first_codes (tree_products (node a b) c) i ++ second_codes (tree_products b (node c d)) (sizes_of_products b (node c d)) i)

-- the listed trees are those of the product, each once
pub adds_products : (t u : Tree) (front rest : List ℕ) (old : List Code) → AddsEach (IsBetween t u front rest) old (old ++ between front rest (tree_products t u))
adds_products empty u front rest old = adds_one (IsBetween empty u front rest) (front ++ (tree_code u ++ rest)) old (u, refl, refl) (λ w p. p.2 ∙ ap (λ (v : Tree). front ++ (tree_code v ++ rest)) p.1)
adds_products (node a b) empty front rest old =
    adds_one (IsBetween (node a b) empty front rest) (front ++ (tree_code (node a b) ++ rest)) old (node a b, refl, refl) (λ w p. p.2 ∙ ap (λ (v : Tree). front ++ (tree_code v ++ rest)) p.1)
adds_products (node a b) (node c d) front rest old =
    let tail = (suc (tree_size d) ∷ tree_code d) ++ rest in
    let head = front ++ (tree_code a ++ (suc (tree_size b + tree_size (node c d)) ∷ [])) in
    let first = between front tail (tree_products (node a b) c) in
    let second = between head rest (tree_products b (node c d)) in
    subst (λ (ws : List Code). AddsEach (IsBetween (node a b) (node c d) front rest) old ws)
    (append_assoc old first second ∙ ap (λ ws. old ++ ws) (sym (both_codes a b c d front rest)))
    (adds_halves a b c d front rest old (old ++ first) ((old ++ first) ++ second)
    (adds_products (node a b) c front tail old) (adds_products b (node c d) head rest (old ++ first)))

pub between-alone : (ts : List Tree) → between [] [] ts ≡ map tree_code ts
between-alone [] = refl
between-alone (t ∷ ts) = λ i. append-nil (tree_code t) i ∷ between-alone ts i

-- so are their codes
pub lists_products : (t u : Tree) → AddsEach (IsProductCode t u) [] (map tree_code (tree_products t u))
lists_products t u =
    subst (λ (ws : List Code). AddsEach (IsProductCode t u) [] ws) (between-alone (tree_products t u))
    (adds_same (IsBetween t u [] []) (IsProductCode t u) [] (between [] [] (tree_products t u))
    (λ w p. (p.0, p.1, sym (p.2 ∙ append-nil (tree_code p.0))))
    (λ w p. (p.0, p.1, sym p.2 ∙ sym (append-nil (tree_code p.0))))
    (adds_products t u [] [] []))
