-- Codes of compositions with letters more in front are such codes.
use Rattle.std.proofs.Common.{ℕ, zero, suc, ◌+◌, ◌-◌, ◌≤◌, List, [], ◌∷◌, map, length, drop, get_or, refl, subst, arith}
use Rattle.std.specs.List.{All, sum}
use Rattle.std.proofs.lemmas.List.Elements.{All-nil, All-cons, All-append, All-map, All-weaker}
use Rattle.std.proofs.lemmas.List.Sums.{sum_by-cons}
use Rattle.linear_combos.specs.Codes.{IsCode}
use Rattle.realisations.specs.Codes.{Code}
use Rattle.realisations.specs.Descents.{longer_first}
use Rattle.realisations.specs.IndexKinds.{IsComposition}
use Rattle.compositions.specs.declared.growth.Place.{Place}
use Rattle.compositions.specs.declared.growth.Place.TheVariants.{Cut, Joined, Free}
use Rattle.compositions.specs.Growth.{CanGrowBy, grown_codes, grown_times, codes_over}
use Rattle.compositions.specs.Sizes.{IsSmallComposition}
use Rattle.compositions.proofs.Existence.{IsCompositionOf}
use Rattle.compositions.proofs.Parts.{code_from_composition}

-- what each code has that had a part put in front, or its first part made larger
each_grown : (P Q : Code → Type 0) → ((parts : Code) → P parts → Q (1 ∷ parts)) → ((parts : Code) → P parts → Q (longer_first parts)) → (place : Place) (codes : List Code) → All P codes → All Q (grown_codes place codes)
each_grown P Q one longer Cut codes h = All-map Q (λ parts. 1 ∷ parts) codes (All-weaker P (λ parts. Q (1 ∷ parts)) one codes h)
each_grown P Q one longer Joined codes h = All-map Q longer_first codes (All-weaker P (λ parts. Q (longer_first parts)) longer codes h)
each_grown P Q one longer Free codes h =
    All-append Q (map (λ parts. 1 ∷ parts) codes) (map longer_first codes) (All-map Q (λ parts. 1 ∷ parts) codes (All-weaker P (λ parts. Q (1 ∷ parts)) one codes h))
    (All-map Q longer_first codes (All-weaker P (λ parts. Q (longer_first parts)) longer codes h))

one_grown : (n : ℕ) (parts : Code) → CanGrowBy (suc n) parts → CanGrowBy n (1 ∷ parts)
one_grown n parts h =
    let size = sum_by-cons (λ (k : ℕ). k) 1 parts in
    record { positive = (omega arith, h.positive); some = omega arith; room = omega (arith, h.room) }

longer_grown : (n : ℕ) (parts : Code) → CanGrowBy (suc n) parts → CanGrowBy n (longer_first parts)
longer_grown n [] h = absurd (omega (arith, h.some))
longer_grown n (i ∷ parts) h =
    let size = sum_by-cons (λ (k : ℕ). k) (suc i) parts in
    let before = sum_by-cons (λ (k : ℕ). k) i parts in
    record { positive = (omega arith, h.positive.1); some = omega arith; room = omega (arith, h.room) }

-- codes that can grow by n and one can still grow by n once they have grown
pub All-grown : (n : ℕ) (place : Place) (codes : List Code) → All (CanGrowBy (suc n)) codes → All (CanGrowBy n) (grown_codes place codes)
All-grown n place codes h = each_grown (CanGrowBy (suc n)) (CanGrowBy n) (one_grown n) (longer_grown n) place codes h

-- a code that can grow is still a code
grown_code : (parts : Code) → CanGrowBy 0 parts → IsCode parts
grown_code parts h = code_from_composition parts h.positive (omega (arith, h.room))

pub IsCode-one : (parts : Code) → CanGrowBy 1 parts → IsCode (1 ∷ parts)
IsCode-one parts h = grown_code (1 ∷ parts) (one_grown 0 parts h)

pub IsCode-longer : (parts : Code) → CanGrowBy 1 parts → IsCode (longer_first parts)
IsCode-longer parts h = grown_code (longer_first parts) (longer_grown 0 parts h)

one_larger : (n : ℕ) (parts : Code) → IsCompositionOf n parts → IsCompositionOf (suc n) (1 ∷ parts)
one_larger n parts h = record { positive = (omega arith, h.positive); size = omega (arith, h.size, sum_by-cons (λ (k : ℕ). k) 1 parts) }

longer_larger : (n : ℕ) (parts : Code) → IsCompositionOf n parts → IsCompositionOf (suc n) (longer_first parts)
longer_larger n [] h = record { positive = (omega arith, tt); size = omega (arith, h.size, sum_by-cons (λ (k : ℕ). k) 1 []) }
longer_larger n (i ∷ parts) h =
    record { positive = (omega arith, h.positive.1); size = omega (arith, h.size, sum_by-cons (λ (k : ℕ). k) (suc i) parts, sum_by-cons (λ (k : ℕ). k) i parts) }

-- compositions of m, with n letters more in front
larger_times : (m n : ℕ) (place : Place) (codes : List Code) → All (IsCompositionOf m) codes → All (IsCompositionOf (n + m)) (grown_times n place codes)
larger_times m zero place codes h = subst (λ k. All (IsCompositionOf k) codes) (omega arith) h
larger_times m (suc n) place codes h =
    subst (λ k. All (IsCompositionOf k) (grown_codes place (grown_times n place codes))) (omega arith)
    (each_grown (IsCompositionOf (n + m)) (IsCompositionOf (suc (n + m))) (one_larger (n + m)) (longer_larger (n + m)) place (grown_times n place codes) (larger_times m n place codes h))

-- the codes that are listed for a composition are compositions of its size
compositions_over : (between inside : Place) (parts : List ℕ) → IsComposition parts → All (IsCompositionOf (sum parts)) (codes_over between inside parts)
compositions_over between inside [] h = All-cons (IsCompositionOf 0) [] [] (record { positive = tt; size = refl }) (All-nil (IsCompositionOf 0))
compositions_over between inside (i ∷ []) h =
    subst (λ k. All (IsCompositionOf k) (grown_times (i - 1) inside ((1 ∷ []) ∷ []))) (omega (arith, h.0, sum_by-cons (λ (k : ℕ). k) i []))
    (larger_times 1 (i - 1) inside ((1 ∷ []) ∷ []) (All-cons (IsCompositionOf 1) (1 ∷ []) [] (record { positive = (omega arith, tt); size = omega (arith, sum_by-cons (λ (k : ℕ). k) 1 []) }) (All-nil (IsCompositionOf 1))))
compositions_over between inside (i ∷ j ∷ parts) h =
    let rest = codes_over between inside (j ∷ parts) in
    let n = sum (j ∷ parts) in
    subst (λ k. All (IsCompositionOf k) (grown_times (i - 1) inside (grown_codes between rest))) (omega (arith, h.0, sum_by-cons (λ (k : ℕ). k) i (j ∷ parts)))
    (larger_times (suc n) (i - 1) inside (grown_codes between rest) (each_grown (IsCompositionOf n) (IsCompositionOf (suc n)) (one_larger n) (longer_larger n) between rest (compositions_over between inside (j ∷ parts) h.1)))

-- those for the parts behind the first can grow by the first
pub rest_grows : (between inside : Place) (parts : List ℕ) (n : ℕ) → IsSmallComposition parts → 2 ≤ length parts → n ≤ get_or parts 0 0 → All (CanGrowBy n) (codes_over between inside (drop 1 parts))
rest_grows between inside [] n h some le = absurd (omega arith)
rest_grows between inside (i ∷ []) n h some le = absurd (omega arith)
rest_grows between inside (i ∷ j ∷ parts) n h some le =
    let size = sum_by-cons (λ (k : ℕ). k) i (j ∷ parts) in
    let rest = sum_by-cons (λ (k : ℕ). k) j parts in
    All-weaker (IsCompositionOf (sum (j ∷ parts))) (CanGrowBy n)
    (λ code is. record { positive = is.positive; some = omega (arith, is.size, h.positive.1.0); room = omega (arith, is.size, h.small) })
    (codes_over between inside (j ∷ parts)) (compositions_over between inside (j ∷ parts) h.positive.1)
