-- Lists of bits, each bit chosen from what its place allows.
use Rattle.std.proofs.Common.{◌≡◌, Bool, true, false, List, [], ◌∷◌, ◌++◌, map, get_or, refl, arith}
use Rattle.std.specs.Prelude.{not}
use Rattle.std.specs.List.{All, Contains}
use Rattle.std.proofs.lemmas.Bool.{and_parts, and_from}
use Rattle.std.proofs.lemmas.List.Elements.{All-nil, All-cons, All-append, All-map, All-weaker, Contains-append_left, Contains-append_right}
use Rattle.compositions.specs.declared.growth.Place.{Place}
use Rattle.compositions.specs.declared.growth.Place.TheVariants.{Cut, Joined, Free}
use Rattle.basis_representatives.proofs.Places.{pairwise}
use Rattle.compositions.proofs.OrderedLists.{Ascending, Ascending-append, Ascending-map, Contains-map}

-- whether a place may have a bit: set where a part begins
abbrev pub allows : Place → Bool → Bool
allows Cut bit = bit
allows Joined bit = not bit
allows Free bit = true

-- lists of bits with one more in front, the set bit first
abbrev pub picked : Place → List (List Bool) → List (List Bool)
picked Cut xs = map (λ bits. true ∷ bits) xs
picked Joined xs = map (λ bits. false ∷ bits) xs
picked Free xs = map (λ bits. true ∷ bits) xs ++ map (λ bits. false ∷ bits) xs

-- what a place between the parts, whose bit is set, and one inside them allow
abbrev pub allowed : Place → Place → Bool → Bool → Bool
allowed between inside true bit = allows between bit
allowed between inside false bit = allows inside bit

-- the lists of bits that the places of others allow
abbrev pub bits_over : Place → Place → List Bool → List (List Bool)
bits_over between inside [] = [] ∷ []
bits_over between inside (true ∷ bits) = picked between (bits_over between inside bits)
bits_over between inside (false ∷ bits) = picked inside (bits_over between inside bits)

-- what holds of each list, once an allowed bit is in front
each_picked : (place : Place) (P Q : List Bool → Type 0) → ((x : Bool) (a : List Bool) → allows place x ≡ true → P a → Q (x ∷ a)) → (xs : List (List Bool)) → All P xs → All Q (picked place xs)
each_picked Cut P Q step xs h = All-map Q (λ bits. true ∷ bits) xs (All-weaker P (λ a. Q (true ∷ a)) (λ a. step true a refl) xs h)
each_picked Joined P Q step xs h = All-map Q (λ bits. false ∷ bits) xs (All-weaker P (λ a. Q (false ∷ a)) (λ a. step false a refl) xs h)
each_picked Free P Q step xs h =
    All-append Q (map (λ bits. true ∷ bits) xs) (map (λ bits. false ∷ bits) xs)
    (All-map Q (λ bits. true ∷ bits) xs (All-weaker P (λ a. Q (true ∷ a)) (λ a. step true a refl) xs h))
    (All-map Q (λ bits. false ∷ bits) xs (All-weaker P (λ a. Q (false ∷ a)) (λ a. step false a refl) xs h))

-- each of the lists has bits that are allowed
pub each_over : (between inside : Place) (bits : List Bool) → All (λ a. pairwise (allowed between inside) bits a ≡ true) (bits_over between inside bits)
each_over between inside [] = All-cons (λ a. pairwise (allowed between inside) [] a ≡ true) [] [] refl (All-nil (λ a. pairwise (allowed between inside) [] a ≡ true))
each_over between inside (true ∷ bits) =
    each_picked between (λ a. pairwise (allowed between inside) bits a ≡ true) (λ a. pairwise (allowed between inside) (true ∷ bits) a ≡ true)
    (λ x a allowed_bit rest. and_from (allows between x) (pairwise (allowed between inside) bits a) allowed_bit rest) (bits_over between inside bits) (each_over between inside bits)
each_over between inside (false ∷ bits) =
    each_picked inside (λ a. pairwise (allowed between inside) bits a ≡ true) (λ a. pairwise (allowed between inside) (false ∷ bits) a ≡ true)
    (λ x a allowed_bit rest. and_from (allows inside x) (pairwise (allowed between inside) bits a) allowed_bit rest) (bits_over between inside bits) (each_over between inside bits)

-- a list with an allowed bit in front
contains_picked : (place : Place) (xs : List (List Bool)) (x : Bool) (a : List Bool) → allows place x ≡ true → Contains xs a → Contains (picked place xs) (x ∷ a)
contains_picked Cut xs true a h at = Contains-map (λ bits. true ∷ bits) xs a at
contains_picked Cut xs false a h at = absurd (cc)
contains_picked Joined xs true a h at = absurd (cc)
contains_picked Joined xs false a h at = Contains-map (λ bits. false ∷ bits) xs a at
contains_picked Free xs true a h at = Contains-append_left (map (λ bits. true ∷ bits) xs) (map (λ bits. false ∷ bits) xs) (true ∷ a) (Contains-map (λ bits. true ∷ bits) xs a at)
contains_picked Free xs false a h at = Contains-append_right (map (λ bits. true ∷ bits) xs) (map (λ bits. false ∷ bits) xs) (false ∷ a) (Contains-map (λ bits. false ∷ bits) xs a at)

-- each list of bits that are allowed is there
pub contains_over : (between inside : Place) (bits a : List Bool) → pairwise (allowed between inside) bits a ≡ true → Contains (bits_over between inside bits) a
contains_over between inside [] [] h = (0, omega arith, refl)
contains_over between inside [] (x ∷ a) h = absurd (cc)
contains_over between inside (y ∷ bits) [] h = absurd (cc)
contains_over between inside (true ∷ bits) (x ∷ a) h =
    let parts = and_parts (allows between x) (pairwise (allowed between inside) bits a) h in
    contains_picked between (bits_over between inside bits) x a parts.0 (contains_over between inside bits a parts.1)
contains_over between inside (false ∷ bits) (x ∷ a) h =
    let parts = and_parts (allows inside x) (pairwise (allowed between inside) bits a) h in
    contains_picked inside (bits_over between inside bits) x a parts.0 (contains_over between inside bits a parts.1)

module _ (R : List Bool → List Bool → Type 0) (same : (bit : Bool) (a b : List Bool) → R a b → R (bit ∷ a) (bit ∷ b)) (first : (a b : List Bool) → R (true ∷ a) (false ∷ b)) where
  -- a relation that bits in front keep, and that a set bit before one that is not has
  ascending_picked : (place : Place) (xs : List (List Bool)) → Ascending R xs → Ascending R (picked place xs)
  ascending_picked Cut xs h = Ascending-map R R (λ bits. true ∷ bits) (same true) xs h
  ascending_picked Joined xs h = Ascending-map R R (λ bits. false ∷ bits) (same false) xs h
  ascending_picked Free xs h =
      Ascending-append R (map (λ bits. true ∷ bits) xs) (map (λ bits. false ∷ bits) xs) (Ascending-map R R (λ bits. true ∷ bits) (same true) xs h) (Ascending-map R R (λ bits. false ∷ bits) (same false) xs h)
      (All-map (λ a. All (λ b. R a b) (map (λ bits. false ∷ bits) xs)) (λ bits. true ∷ bits) xs
      (λ i d lt. All-map (λ b. R (true ∷ get_or xs i d) b) (λ bits. false ∷ bits) xs (λ j e lt'. first (get_or xs i d) (get_or xs j e))))

  -- holds from each of the lists to each later one
  pub ascending_over : (between inside : Place) (bits : List Bool) → Ascending R (bits_over between inside bits)
  ascending_over between inside [] = (All-nil (λ b. R [] b), tt)
  ascending_over between inside (true ∷ bits) = ascending_picked between (bits_over between inside bits) (ascending_over between inside bits)
  ascending_over between inside (false ∷ bits) = ascending_picked inside (bits_over between inside bits) (ascending_over between inside bits)
