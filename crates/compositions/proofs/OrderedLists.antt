-- Lists in canonical order, made of others.
use Rattle.std.proofs.Common.{◌≡◌, ℕ, zero, suc, List, [], ◌∷◌, ◌++◌, map, get_or, refl, ◌∙◌, ap, subst, arith}
use Rattle.std.specs.List.{All, Contains}
use Rattle.std.specs.Ordering.{nat_cmp}
use Rattle.std.specs.declared.cmp.Ordering.TheVariants.{Less}
use Rattle.std.specs.Cmp.Lexicographic.{slice_cmp}
use Rattle.std.proofs.lemmas.List.{get_or_default, length-map}
use Rattle.std.proofs.lemmas.List.Elements.{All-head, All-tail, All-map, All-append, All-weaker}
use Rattle.realisations.specs.Codes.{Code}
use Rattle.linear_combos.specs.CodeLists.{IsInOrder, ListsEach}

-- each element is in a relation to each later one
abbrev pub Ascending : {X : Type 0} → (X → X → Type 0) → List X → Type 0
Ascending R [] = Unit {0}
Ascending R (x ∷ xs) = All (λ y. R x y) xs × Ascending R xs

-- two lists in a row, each element of the first before each of the second
pub Ascending-append : {X : Type 0} (R : X → X → Type 0) (xs ys : List X) → Ascending R xs → Ascending R ys → All (λ x. All (λ y. R x y) ys) xs → Ascending R (xs ++ ys)
Ascending-append R [] ys hx hy across = hy
Ascending-append R (x ∷ xs) ys hx hy across = (
  All-append (λ y. R x y) xs ys hx.0 (All-head (λ v. All (λ y. R v y) ys) x xs across),
  Ascending-append R xs ys hx.1 hy (All-tail (λ v. All (λ y. R v y) ys) x xs across),
)

-- images under a map that keeps the relation
pub Ascending-map : {X Y : Type 0} (R : X → X → Type 0) (S : Y → Y → Type 0) (f : X → Y) → ((x y : X) → R x y → S (f x) (f y)) → (xs : List X) → Ascending R xs → Ascending S (map f xs)
Ascending-map R S f keeps [] h = tt
Ascending-map R S f keeps (x ∷ xs) h = (All-map (λ y. S (f x) y) f xs (All-weaker (λ y. R x y) (λ y. S (f x) (f y)) (keeps x) xs h.0), Ascending-map R S f keeps xs h.1)

-- the first code comes before the second in canonical order
abbrev pub IsBefore : Code → Code → Type 0
IsBefore v w = slice_cmp nat_cmp v w ≡ Less

-- codes that rise from each one to each later one are in order
pub in_order_from : (codes : List Code) → Ascending IsBefore codes → IsInOrder codes
in_order_from [] h i j less in_range = absurd (omega arith)
in_order_from (v ∷ codes) h zero zero less in_range = absurd (omega arith)
in_order_from (v ∷ codes) h zero (suc j) less in_range = h.0 j [] (omega arith)
in_order_from (v ∷ codes) h (suc i) zero less in_range = absurd (omega arith)
in_order_from (v ∷ codes) h (suc i) (suc j) less in_range = in_order_from codes h.1 i j (omega arith) (omega arith)

-- an image of an element of a list is one of its images
pub Contains-map : {X Y : Type 0} (f : X → Y) (xs : List X) (x : X) → Contains xs x → Contains (map f xs) (f x)
Contains-map {X} f xs x (k, lt, at) = (k, omega (arith, length-map xs f), get_or-map xs k ∙ ap f at)
  where
    get_or-map : (ys : List X) (i : ℕ) → get_or (map f ys) i (f x) ≡ f (get_or ys i x)
    get_or-map [] i = refl
    get_or-map (y ∷ ys) zero = refl
    get_or-map (y ∷ ys) (suc i) = get_or-map ys i

-- codes that all have a property, all codes that have it, in order
pub lists_each : (P : Code → Type 0) (codes : List Code) → All P codes → ((code : Code) → P code → Contains codes code) → Ascending IsBefore codes → ListsEach P codes
lists_each P codes all contains order = record {
  each = λ code (i, lt, at). subst P at (all i [] lt);
  whole = λ code h. let (i, lt, at) = contains code h in (i, lt, get_or_default codes i [] code lt ∙ at);
  in_order = in_order_from codes order;
}

-- codes with one property have another that the same codes have
pub ListsEach-same : (P Q : Code → Type 0) → ((code : Code) → P code → Q code) → ((code : Code) → Q code → P code) → (codes : List Code) → ListsEach P codes → ListsEach Q codes
ListsEach-same P Q to from codes h = record {
  each = λ code listed. to code (h.each code listed);
  whole = λ code q. h.whole code (from code q);
  in_order = h.in_order;
}
