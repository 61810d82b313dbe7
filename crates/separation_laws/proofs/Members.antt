-- Members of lists.
use Rattle.std.proofs.Common.{◌≡◌, ℕ, zero, suc, ◌+◌, ◌⊎◌, inl, inr, List, [], ◌∷◌, ◌++◌, ◌<◌, ◌≤◌, map, Bool, true, false, refl, sym, ap, subst, arith}
use Rattle.std.proofs.lemmas.Bool.{cases_lt}
use Rattle.std.specs.List.{AllByRecursion, flat_map, range_with_len}
use Rattle.realisations.specs.Codes.{Code}
use Rattle.realisations.specs.Lists.{one_if, same_list}
use Rattle.basis_representatives.proofs.SameLists.{same_list-true}
use Rattle.word_laws.specs.AddedCodes.{times_in}

-- x is an element of the list
abbrev pub Member : {X : Type 0} → X → List X → Type 0
Member x [] = ⊥
Member x (y ∷ ys) = (y ≡ x) ⊎ Member x ys

-- a member of the first of two lists
pub member_left : {X : Type 0} (x : X) (xs ys : List X) → Member x xs → Member x (xs ++ ys)
member_left x [] ys h = absurd h
member_left x (z ∷ xs) ys h = elim h [
  | inl same ↦ inl same
  | inr later ↦ inr (member_left x xs ys later)
]

-- or of the second
pub member_right : {X : Type 0} (x : X) (xs ys : List X) → Member x ys → Member x (xs ++ ys)
member_right x [] ys h = h
member_right x (z ∷ xs) ys h = inr (member_right x xs ys h)

-- f of a member is a member of the map
pub member-map : {X Y : Type 0} (f : X → Y) (x : X) (xs : List X) → Member x xs → Member (f x) (map f xs)
member-map f x [] h = absurd h
member-map f x (z ∷ xs) h = elim h [
  | inl same ↦ inl (ap f same)
  | inr later ↦ inr (member-map f x xs later)
]

-- a member of f of a member
pub member-flat_map : {X Y : Type 0} (f : X → List Y) (x : X) (y : Y) (xs : List X) → Member x xs → Member y (f x) → Member y (flat_map f xs)
member-flat_map f x y [] h k = absurd h
member-flat_map {X} {Y} f x y (z ∷ xs) h k = elim h [
  | inl same ↦ member_left y (f z) (flat_map f xs) (subst (λ (v : X). Member y (f v)) (sym same) k)
  | inr later ↦ member_right y (f z) (flat_map f xs) (member-flat_map f x y xs later k)
]

-- what holds of f of each member, or of each member of f of it
pub members-map : {X Y : Type 0} (f : X → Y) (P : Y → Type 0) (y : Y) (xs : List X) → ((x : X) → Member x xs → P (f x)) → Member y (map f xs) → P y
members-map f P y [] h k = absurd k
members-map f P y (x ∷ xs) h k = elim k [
  | inl same ↦ subst P same (h x (inl refl))
  | inr later ↦ members-map f P y xs (λ z m. h z (inr m)) later
]

-- a member of two lists is one of the first or of the second
pub member_cases : {X : Type 0} (x : X) (xs ys : List X) → Member x (xs ++ ys) → Member x xs ⊎ Member x ys
member_cases x [] ys h = inr h
member_cases x (z ∷ xs) ys h = elim h [
  | inl same ↦ inl (inl same)
  | inr later ↦ elim (member_cases x xs ys later) [
    | inl left ↦ inl (inr left)
    | inr right ↦ inr right
  ]
]

-- what holds of each member of f of each member
pub members-flat_map : {X Y : Type 0} (f : X → List Y) (P : Y → Type 0) (y : Y) (xs : List X) → ((x : X) → Member x xs → Member y (f x) → P y) → Member y (flat_map f xs) → P y
members-flat_map f P y [] h k = absurd k
members-flat_map f P y (x ∷ xs) h k = elim (member_cases y (f x) (flat_map f xs) k) [
  | inl here ↦ h x (inl refl) here
  | inr later ↦ members-flat_map f P y xs (λ z m. h z (inr m)) later
]

-- a member has what each element has
pub member_every : {X : Type 0} (P : X → Type 0) (x : X) (xs : List X) → AllByRecursion P xs → Member x xs → P x
member_every P x [] all h = absurd h
member_every {X} P x (y ∷ xs) all h = elim h [
  | inl same ↦ subst P same all.0
  | inr later ↦ member_every P x xs all.1 later
]

-- a code that is counted is a member
pub member-times_in : (x : Code) (codes : List Code) → 0 < times_in x codes → Member x codes
member-times_in x [] h = absurd (omega arith)
member-times_in x (c ∷ codes) h = by_test (same_list x c) refl h (member-times_in x codes)
  where
    by_test : (b : Bool) → same_list x c ≡ b → 0 < one_if b + times_in x codes → (0 < times_in x codes → Member x codes) → Member x (c ∷ codes)
    by_test true e k ih = inl (sym (same_list-true x c e))
    by_test false e k ih = inr (ih (omega arith))

-- a number within a range
pub member-range : (x a n : ℕ) → a ≤ x → x < a + n → Member x (range_with_len a n)
member-range x a zero le lt = absurd (omega arith)
member-range x a (suc n) le lt = elim (cases_lt a x) [
  | inl above ↦ inr (member-range x (a + 1) n (omega arith) (omega arith))
  | inr below ↦ inl (let e : a ≡ x = omega arith in e)
]
