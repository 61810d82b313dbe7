-- The lists of the finer and of the coarser compositions, and of all of a number.
use Rattle.std.proofs.Common.{◌≡◌, ℕ, Bool, true, false, ◌&&◌, List, [], ◌∷◌, map, refl, sym, ◌∙◌, ap, subst, arith}
use Rattle.std.specs.Prelude.{IsTrue, nat_eq}
use Rattle.std.specs.List.{Contains, sum}
use Rattle.std.proofs.lemmas.Bool.{and_parts, and_from, eqb-true, eq-eqb}
use Rattle.std.proofs.lemmas.List.Elements.{All-nil, All-cons, All-map, All-weaker}
use Rattle.realisations.specs.Codes.{Code}
use Rattle.realisations.specs.Descents.{descent_set, is_finer}
use Rattle.realisations.specs.IndexKinds.{IsComposition, by_composition}
use Rattle.realisations.specs.Lists.{is_subset}
use Rattle.basis_representatives.proofs.Bits.{composition_of, bits_of}
use Rattle.basis_representatives.proofs.Places.{pairwise, within}
use Rattle.basis_representatives.proofs.DescentBits.{IsComposition-composition_of, composition_of-bits_of, is_finer-composition_of}
use Rattle.basis_representatives.proofs.Refinement.{by_bits, is_finer-empty_fine, is_finer-empty_coarse}
use Rattle.linear_combos.specs.CodeLists.{ListsEach, ListsIndices}
use Rattle.compositions.specs.declared.growth.Place.{Place}
use Rattle.compositions.specs.declared.growth.Place.TheVariants.{Cut, Joined, Free}
use Rattle.compositions.specs.Growth.{codes_over}
use Rattle.compositions.proofs.ChosenBits.{allowed, bits_over, each_over, contains_over}
use Rattle.compositions.proofs.GrownCompositions.{codes_over-bits, ascending_compositions, ascending_empty}
use Rattle.compositions.proofs.OrderedLists.{Contains-map, lists_each, ListsEach-same}

-- a test of two compositions that goes bit by bit, by what the places allow
pub record IsByPlaces (between inside : Place) (test : Code → Code → Bool) : Type 0 where
  pub empty : test [] [] ≡ true
  pub other_empty : (a : List Bool) → test [] (composition_of a) ≡ false
  pub empty_other : (bits : List Bool) → test (composition_of bits) [] ≡ false
  pub by_bits : (bits a : List Bool) → test (composition_of bits) (composition_of a) ≡ pairwise (allowed between inside) bits a

module _ (between inside : Place) (test : Code → Code → Bool) (is : IsByPlaces between inside test) where
  -- the compositions that pass, of the empty one
  passing_empty : ListsEach (λ code. IsComposition code × IsTrue (test [] code)) ([] ∷ [])
  passing_empty =
      lists_each (λ code. IsComposition code × IsTrue (test [] code)) ([] ∷ [])
      (All-cons (λ code. IsComposition code × IsTrue (test [] code)) [] [] (tt, is.empty) (All-nil (λ code. IsComposition code × IsTrue (test [] code))))
      (λ code h.
      by_bits (λ ps. IsTrue (test [] ps) → Contains ([] ∷ []) ps) (λ passes. (0, omega arith, refl)) (λ a passes. absurd (let none = is.other_empty a in cc)) code h.0 h.1)
      ascending_empty

  -- and of one with bits
  passing_bits : (bits : List Bool) → ListsEach (λ code. IsComposition code × IsTrue (test (composition_of bits) code)) (map composition_of (bits_over between inside bits))
  passing_bits bits =
      lists_each (λ code. IsComposition code × IsTrue (test (composition_of bits) code)) (map composition_of (bits_over between inside bits))
      (All-map (λ code. IsComposition code × IsTrue (test (composition_of bits) code)) composition_of (bits_over between inside bits)
      (All-weaker (λ a. pairwise (allowed between inside) bits a ≡ true) (λ a. IsComposition (composition_of a) × IsTrue (test (composition_of bits) (composition_of a)))
      (λ a h. (IsComposition-composition_of a, is.by_bits bits a ∙ h)) (bits_over between inside bits) (each_over between inside bits)))
      (λ code h.
      by_bits (λ ps. IsTrue (test (composition_of bits) ps) → Contains (map composition_of (bits_over between inside bits)) ps)
      (λ passes. absurd (let none = is.empty_other bits in cc))
      (λ a passes. Contains-map composition_of (bits_over between inside bits) a (contains_over between inside bits a (sym (is.by_bits bits a) ∙ passes))) code h.0 h.1)
      (ascending_compositions between inside bits)

  -- so the codes are those that pass
  pub passing_codes : (parts : List ℕ) → IsComposition parts → ListsEach (λ code. IsComposition code × IsTrue (test parts code)) (codes_over between inside parts)
  passing_codes [] h = passing_empty
  passing_codes (i ∷ parts) h =
      subst (ListsEach (λ code. IsComposition code × IsTrue (test (i ∷ parts) code))) (sym (codes_over-bits between inside i parts h))
      (subst (λ ps. ListsEach (λ code. IsComposition code × IsTrue (test ps code)) (map composition_of (bits_over between inside (bits_of (i ∷ parts))))) (composition_of-bits_of i parts h)
      (passing_bits (bits_of (i ∷ parts))))

-- two tests of bits that are the same
pairwise-same : (f g : Bool → Bool → Bool) → ((x y : Bool) → f x y ≡ g x y) → (a b : List Bool) → pairwise f a b ≡ pairwise g a b
pairwise-same f g same [] [] = refl
pairwise-same f g same [] (y ∷ b) = refl
pairwise-same f g same (x ∷ a) [] = refl
pairwise-same f g same (x ∷ a) (y ∷ b) = λ i. same x y i && pairwise-same f g same a b i

-- and one the other way round
pairwise-turned : (f : Bool → Bool → Bool) (a b : List Bool) → pairwise f a b ≡ pairwise (λ y x. f x y) b a
pairwise-turned f [] [] = refl
pairwise-turned f [] (y ∷ b) = refl
pairwise-turned f (x ∷ a) [] = refl
pairwise-turned f (x ∷ a) (y ∷ b) = ap (λ p. f x y && p) (pairwise-turned f a b)

finer_place : (y x : Bool) → within y x ≡ allowed Cut Free y x
finer_place true x = refl
finer_place false x = refl

coarser_place : (y x : Bool) → within x y ≡ allowed Free Joined y x
coarser_place true true = refl
coarser_place true false = refl
coarser_place false true = refl
coarser_place false false = refl

-- a finer composition begins parts where the other one does
finer_by_places : IsByPlaces Cut Free (λ parts code. is_finer code parts)
finer_by_places = record {
  empty = refl;
  other_empty = λ a. is_finer-empty_coarse a;
  empty_other = λ bits. is_finer-empty_fine bits;
  by_bits = λ bits a. is_finer-composition_of a bits ∙ pairwise-same within (allowed Cut Free) finer_place bits a;
}

-- a coarser composition begins none where the other one does not
coarser_by_places : IsByPlaces Free Joined (λ parts code. is_finer parts code)
coarser_by_places = record {
  empty = refl;
  other_empty = λ a. is_finer-empty_fine a;
  empty_other = λ bits. is_finer-empty_coarse bits;
  by_bits = λ bits a.
      is_finer-composition_of bits a ∙ pairwise-turned within a bits ∙ pairwise-same (λ y x. within x y) (allowed Free Joined) coarser_place bits a;
}

-- the refinements of a composition
pub lists_refinements : (parts : List ℕ) → IsComposition parts → ListsEach (λ code. IsComposition code × IsTrue (is_finer code parts)) (codes_over Cut Free parts)
lists_refinements parts h = passing_codes Cut Free (λ ps code. is_finer code ps) finer_by_places parts h

-- and its coarsenings
pub lists_coarsenings : (parts : List ℕ) → IsComposition parts → ListsEach (λ code. IsComposition code × IsTrue (is_finer parts code)) (codes_over Free Joined parts)
lists_coarsenings parts h = passing_codes Free Joined (λ ps code. is_finer ps code) coarser_by_places parts h

-- the refinements of a composition of n without descents are all compositions of n
pub lists_all : (n : ℕ) (parts : List ℕ) → sum parts ≡ n → descent_set parts ≡ [] → (codes : List Code)
    → ListsEach (λ code. IsComposition code × IsTrue (is_finer code parts)) codes → ListsIndices by_composition n codes
lists_all n parts size none codes h =
    ListsEach-same (λ code. IsComposition code × IsTrue (is_finer code parts)) (λ code. IsComposition code × (sum code ≡ n))
    (λ code finer. (finer.0, eqb-true (sum code) (sum parts) (and_parts (nat_eq (sum code) (sum parts)) (is_subset (descent_set parts) (descent_set code)) finer.1).0 ∙ size))
    (λ code same. (
      same.0,
      and_from (nat_eq (sum code) (sum parts)) (is_subset (descent_set parts) (descent_set code)) (eq-eqb (sum code) (sum parts) (same.1 ∙ sym size))
          (ap (λ places. is_subset places (descent_set code)) none),
    ))
    codes h
