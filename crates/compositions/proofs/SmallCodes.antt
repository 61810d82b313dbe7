-- Codes of small compositions, part by part.
use Rattle.std.proofs.Common.{◌≡◌, ℕ, zero, suc, ◌+◌, ◌-◌, ◌<◌, ◌≤◌, List, [], ◌∷◌, ◌++◌, length, take, drop, get_or, replicate, reverse, refl, sym, ◌∙◌, ap, subst, arith, append_assoc}
use Rattle.std.specs.List.{sum}
use Rattle.std.proofs.lemmas.List.{length-reverse, length-append, reverse-append}
use Rattle.std.proofs.lemmas.List.Sums.{sum_by-cons, sum_by-append}
use Rattle.linear_combos.specs.Codes.{IsCode}
use Rattle.linear_combos.proofs.Letters.{AreLetters, letters_from, letters_to, letters-append}
use Rattle.realisations.specs.Descents.{longer_first, partial_sums, descent_set, complement}
use Rattle.realisations.specs.IndexKinds.{IsComposition}
use Rattle.basis_representatives.proofs.Complements.{complement-turned}
use Rattle.basis_representatives.proofs.Refinement.{IsComposition-complement, sum-complement}
use Rattle.compositions.specs.Sizes.{IsSmallComposition}
use Rattle.compositions.proofs.Parts.{code_from_composition, IsComposition-append}

-- ones are a code
pub IsCode-ones : (n : ℕ) → n ≤ 12 → IsCode (replicate n 1)
IsCode-ones n le = code_from_composition (replicate n 1) (ones n) (omega (arith, sum-ones n))
  where
    ones : (k : ℕ) → IsComposition (replicate k 1)
    ones zero = tt
    ones (suc k) = (omega arith, ones k)

    sum-ones : (k : ℕ) → sum (replicate k 1) ≡ k
    sum-ones zero = refl
    sum-ones (suc k) = omega (arith, sum_by-cons (λ (x : ℕ). x) 1 (replicate k 1), sum-ones k)

-- a reversed list with a first element
reverse-cons : (x : ℕ) (xs : List ℕ) → reverse (x ∷ xs) ≡ reverse xs ++ x ∷ []
reverse-cons x xs = reverse-append (x ∷ []) xs

-- the letters of a reversed list are those of the list
letters-reverse : (xs : List ℕ) → AreLetters xs → AreLetters (reverse xs)
letters-reverse [] h = tt
letters-reverse (x ∷ xs) h = subst AreLetters (sym (reverse-cons x xs)) (letters-append (reverse xs) (x ∷ []) (letters-reverse xs h.1.1) (h.0, (h.1.0, tt)))

-- a reversed code is a code
pub IsCode-reverse : (xs : List ℕ) → IsCode xs → IsCode (reverse xs)
IsCode-reverse xs h = record { short = omega (arith, h.short, length-reverse xs); letters = letters_to (reverse xs) (letters-reverse xs (letters_from xs h.letters)) }

-- one letter more, reversed
pub reverse-take : (xs : List ℕ) (at : ℕ) → at < length xs → reverse (take (at + 1) xs) ≡ get_or xs at 0 ∷ reverse (take at xs)
reverse-take [] at lt = absurd (omega arith)
reverse-take (x ∷ xs) zero lt = refl
reverse-take (x ∷ xs) (suc at) lt =
    let next : suc at + 1 ≡ suc (at + 1) = omega arith in
    rw next (reverse-cons x (take (at + 1) xs) ∙ ap (λ ys. ys ++ x ∷ []) (reverse-take xs at (omega arith)) ∙ ap (λ ys. get_or xs at 0 ∷ ys) (sym (reverse-cons x (take at xs))))

-- a reversed composition is one of the same size
pub IsComposition-reverse : (parts : List ℕ) → IsComposition parts → IsComposition (reverse parts)
IsComposition-reverse [] h = tt
IsComposition-reverse (i ∷ parts) h = subst IsComposition (sym (reverse-cons i parts)) (IsComposition-append (reverse parts) (i ∷ []) (IsComposition-reverse parts h.1) (h.0, tt))

sum-reverse : (parts : List ℕ) → sum (reverse parts) ≡ sum parts
sum-reverse [] = refl
sum-reverse (i ∷ parts) = omega (arith, ap (λ (ps : List ℕ). sum ps) (reverse-cons i parts), sum_by-append (λ (x : ℕ). x) (reverse parts) (i ∷ []), sum_by-cons (λ (x : ℕ). x) i parts, sum_by-cons (λ (x : ℕ). x) i [], sum-reverse parts)

pub small-reverse : (parts : List ℕ) → IsSmallComposition parts → IsSmallComposition (reverse parts)
small-reverse parts h = record { positive = IsComposition-reverse parts h.positive; small = omega (arith, h.small, sum-reverse parts) }

-- the complement is a composition of the same size
pub small-complement : (parts : List ℕ) → IsSmallComposition parts → IsSmallComposition (complement parts)
small-complement parts h =
    subst IsSmallComposition (sym (complement-turned parts h.positive))
    (record { positive = IsComposition-complement parts; small = omega (arith, h.small, sum-complement parts h.positive) })

pub small_code : (parts : List ℕ) → IsSmallComposition parts → IsCode parts
small_code parts h = code_from_composition parts h.positive (omega (arith, h.small))

-- a composition without its first part
pub small-rest : (parts : List ℕ) → IsSmallComposition parts → IsSmallComposition (drop 1 parts)
small-rest [] h = h
small-rest (i ∷ parts) h = record { positive = h.positive.1; small = omega (arith, h.small, sum_by-cons (λ (x : ℕ). x) i parts) }

-- the first part is at least 1 and at most 12
pub small-first : (parts : List ℕ) → IsSmallComposition parts → 1 ≤ length parts → (1 ≤ get_or parts 0 0) × (get_or parts 0 0 ≤ 12)
small-first [] h some = absurd (omega arith)
small-first (i ∷ parts) h some = (omega (arith, h.positive.0), omega (arith, h.small, sum_by-cons (λ (x : ℕ). x) i parts))

-- the complement of one part, and of more
pub complement-last : (parts : List ℕ) → length parts ≡ 1 → complement parts ≡ replicate (get_or parts 0 0) 1
complement-last [] e = absurd (omega arith)
complement-last (i ∷ []) e = refl
complement-last (i ∷ j ∷ parts) e = absurd (omega arith)

pub complement-more : (parts : List ℕ) → 2 ≤ length parts → complement parts ≡ replicate (get_or parts 0 0 - 1) 1 ++ longer_first (complement (drop 1 parts))
complement-more [] e = absurd (omega arith)
complement-more (i ∷ []) e = absurd (omega arith)
complement-more (i ∷ j ∷ parts) e = refl

-- a composition with parts has a complement with parts
pub complement-some : (parts : List ℕ) → IsSmallComposition parts → 1 ≤ length parts → 1 ≤ length (complement parts)
complement-some [] h some = absurd (omega arith)
complement-some (zero ∷ parts) h some = absurd (omega (arith, h.positive.0))
complement-some (suc n ∷ []) h some = omega arith
complement-some (suc n ∷ j ∷ parts) h some = omega (arith, length-append (replicate (suc n - 1) 1) (longer_first (complement (j ∷ parts))), longer-some (complement (j ∷ parts)))
  where
    longer-some : (ps : List ℕ) → 1 ≤ length (longer_first ps)
    longer-some [] = omega arith
    longer-some (k ∷ ps) = omega arith

-- sums of the first parts

-- the descent set of a composition of at most 12 is a code
letters-partial_sums : (s : ℕ) (parts : List ℕ) → IsComposition parts → s + sum parts ≤ 15 → AreLetters (partial_sums s parts)
letters-partial_sums s [] h le = tt
letters-partial_sums s (i ∷ []) h le = tt
letters-partial_sums s (i ∷ j ∷ parts) h le =
    let size = sum_by-cons (λ (k : ℕ). k) i (j ∷ parts) in
    (omega (arith, h.0), (omega arith, letters-partial_sums (s + i) (j ∷ parts) h.1 (omega arith)))

length-partial_sums : (s : ℕ) (parts : List ℕ) → length (partial_sums s parts) ≤ length parts
length-partial_sums s [] = omega arith
length-partial_sums s (i ∷ []) = omega arith
length-partial_sums s (i ∷ j ∷ parts) = omega (arith, length-partial_sums (s + i) (j ∷ parts))

pub IsCode-descent_set : (parts : List ℕ) → IsSmallComposition parts → IsCode (descent_set parts)
IsCode-descent_set parts h = record {
  short = omega (arith, length-partial_sums 0 parts, (small_code parts h).short);
  letters = letters_to (descent_set parts) (letters-partial_sums 0 parts h.positive (omega (arith, h.small)));
}

-- the sums behind some parts, of which there are two more
partial_sums-drop : (s : ℕ) (parts : List ℕ) (at : ℕ) → at + 1 < length parts
    → partial_sums s (drop at parts) ≡ (s + get_or parts at 0) ∷ partial_sums (s + get_or parts at 0) (drop (at + 1) parts)
partial_sums-drop s [] at lt = absurd (omega arith)
partial_sums-drop s (i ∷ []) at lt = absurd (omega arith)
partial_sums-drop s (i ∷ j ∷ parts) zero lt = refl
partial_sums-drop s (i ∷ j ∷ parts) (suc at) lt =
    let next : suc at + 1 ≡ suc (at + 1) = omega arith in
    rw next (partial_sums-drop s (j ∷ parts) at (omega arith))

-- behind all parts but the last there is no sum
pub partial_sums-last : (s : ℕ) (parts : List ℕ) (at : ℕ) → length parts ≤ at + 1 → partial_sums s (drop at parts) ≡ []
partial_sums-last s [] zero le = refl
partial_sums-last s [] (suc at) le = refl
partial_sums-last s (i ∷ []) zero le = refl
partial_sums-last s (i ∷ j ∷ parts) zero le = absurd (omega arith)
partial_sums-last s (i ∷ parts) (suc at) le = partial_sums-last s parts at (omega arith)

-- a part more of a sum, which is at most the whole sum
pub sum-take : (parts : List ℕ) (at : ℕ) → at < length parts → sum (take (at + 1) parts) ≡ sum (take at parts) + get_or parts at 0
sum-take [] at lt = absurd (omega arith)
sum-take (i ∷ parts) zero lt = omega (arith, sum_by-cons (λ (k : ℕ). k) i [])
sum-take (i ∷ parts) (suc at) lt =
    let next : suc at + 1 ≡ suc (at + 1) = omega arith in
    rw next (omega (arith, sum_by-cons (λ (k : ℕ). k) i (take (at + 1) parts), sum_by-cons (λ (k : ℕ). k) i (take at parts), sum-take parts at (omega arith)))

pub sum-take_le : (parts : List ℕ) (at : ℕ) → sum (take at parts) ≤ sum parts
sum-take_le [] zero = omega arith
sum-take_le [] (suc at) = omega arith
sum-take_le (i ∷ parts) zero = omega arith
sum-take_le (i ∷ parts) (suc at) = omega (arith, sum_by-cons (λ (k : ℕ). k) i (take at parts), sum_by-cons (λ (k : ℕ). k) i parts, sum-take_le parts at)

-- one place more, and the ones to come
pub descent_set-next : (parts places : List ℕ) (total letter at : ℕ) → at + 1 < length parts → letter ≡ get_or parts at 0 → descent_set parts ≡ places ++ partial_sums total (drop at parts)
    → descent_set parts ≡ (places ++ (total + letter) ∷ []) ++ partial_sums (total + letter) (drop (at + 1) parts)
descent_set-next parts places total letter at lt is h =
    h ∙ ap (λ ps. places ++ ps) (partial_sums-drop total parts at lt ∙ ap (λ k. (total + k) ∷ partial_sums (total + k) (drop (at + 1) parts)) (sym is))
    ∙ sym (append_assoc places ((total + letter) ∷ []) (partial_sums (total + letter) (drop (at + 1) parts)))
