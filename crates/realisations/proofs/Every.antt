-- What each element of a list has.
use Rattle.std.proofs.Common.{List, [], ◌∷◌, ◌++◌, map}
use Rattle.std.specs.List.{AllByRecursion, flat_map}

-- what each element has that has P
pub every-weaker : {X : Type 0} (P Q : X → Type 0) → ((x : X) → P x → Q x) → (xs : List X) → AllByRecursion P xs → AllByRecursion Q xs
every-weaker P Q e [] h = tt
every-weaker P Q e (x ∷ xs) h = (e x h.0, every-weaker P Q e xs h.1)

pub every-append : {X : Type 0} (P : X → Type 0) (xs ys : List X) → AllByRecursion P xs → AllByRecursion P ys → AllByRecursion P (xs ++ ys)
every-append P [] ys h k = k
every-append P (x ∷ xs) ys h k = (h.0, every-append P xs ys h.1 k)

pub every-map : {X Y : Type 0} (P : X → Type 0) (Q : Y → Type 0) (f : X → Y) → ((x : X) → P x → Q (f x)) → (xs : List X) → AllByRecursion P xs → AllByRecursion Q (map f xs)
every-map P Q f e [] h = tt
every-map P Q f e (x ∷ xs) h = (e x h.0, every-map P Q f e xs h.1)

pub every-flat_map : {X Y : Type 0} (P : X → Type 0) (Q : Y → Type 0) (f : X → List Y) → ((x : X) → P x → AllByRecursion Q (f x)) → (xs : List X) → AllByRecursion P xs → AllByRecursion Q (flat_map f xs)
every-flat_map P Q f e [] h = tt
every-flat_map P Q f e (x ∷ xs) h = every-append Q (f x) (flat_map f xs) (e x h.0) (every-flat_map P Q f e xs h.1)

-- what all values have, the elements of each list have
pub every-any : {X : Type 0} (P : X → Type 0) → ((x : X) → P x) → (xs : List X) → AllByRecursion P xs
every-any P e [] = tt
every-any P e (x ∷ xs) = (e x, every-any P e xs)
