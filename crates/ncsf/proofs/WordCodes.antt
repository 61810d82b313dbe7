-- The word of a composition is a code.
use Rattle.std.proofs.Common.{◌≡◌, ℕ, zero, suc, ◌+◌, ◌-◌, ◌<◌, ◌≤◌, List, [], ◌∷◌, ◌++◌, length, drop, get_or, replicate, refl, sym, ◌∙◌, ap, arith}
use Rattle.std.specs.List.{sum}
use Rattle.std.proofs.lemmas.List.{length-append, append_assoc, length-replicate, replicate-append-replicate}
use Rattle.std.proofs.lemmas.List.Sums.{sum_by-cons}
use Rattle.compositions.specs.Sizes.{IsSmallComposition}
use Rattle.compositions.proofs.Parts.{length-le-sum}
use Rattle.linear_combos.specs.Codes.{IsCode}
use Rattle.linear_combos.proofs.Letters.{AreLetters, letters_to, letters-append}
use Rattle.linear_combos.proofs.Words.{IsCode-left}
use Rattle.realisations.specs.Descents.{word_of_composition}

-- one letter more behind the others
pub replicate-more : (n x : ℕ) → replicate (n + 1) x ≡ replicate n x ++ x ∷ []
replicate-more n x = sym (replicate-append-replicate n 1 x)

pub code_with_one : (w : List ℕ) (n m x : ℕ) → n < m → IsCode (w ++ replicate m x) → IsCode ((w ++ replicate n x) ++ x ∷ [])
code_with_one w n m x lt is =
    let e : m ≡ (n + 1) + (m - (n + 1)) = omega (arith, lt) in
    let all : w ++ replicate m x ≡ ((w ++ replicate n x) ++ x ∷ []) ++ replicate (m - (n + 1)) x =
    ap (λ k. w ++ replicate k x) e ∙ ap (λ v. w ++ v) (sym (replicate-append-replicate (n + 1) (m - (n + 1)) x)) ∙ sym (append_assoc w (replicate (n + 1) x) (replicate (m - (n + 1)) x))
    ∙ ap (λ v. v ++ replicate (m - (n + 1)) x) (ap (λ v. w ++ v) (replicate-more n x) ∙ sym (append_assoc w (replicate n x) (x ∷ []))) in
    IsCode-left ((w ++ replicate n x) ++ x ∷ []) (replicate (m - (n + 1)) x) (rw (← all) is)

letters-block : (n x : ℕ) → 1 ≤ x → x ≤ 15 → AreLetters (replicate n x)
letters-block zero x one most = tt
letters-block (suc n) x one most = (omega (arith, one), (omega (arith, most), letters-block n x one most))

letters-word : (parts : List ℕ) → length parts ≤ 15 → AreLetters (word_of_composition parts)
letters-word [] le = tt
letters-word (i ∷ parts) le = letters-append (replicate i (suc (length parts))) (word_of_composition parts) (letters-block i (suc (length parts)) (omega arith) (omega (arith, le))) (letters-word parts (omega (arith, le)))

length-word : (parts : List ℕ) → length (word_of_composition parts) ≡ sum parts
length-word [] = refl
length-word (i ∷ parts) =
    omega (arith, length-append (replicate i (suc (length parts))) (word_of_composition parts), length-replicate i (suc (length parts)), length-word parts, sum_by-cons (λ (k : ℕ). k) i parts)

pub word_code : (parts : List ℕ) → IsSmallComposition parts → IsCode (word_of_composition parts)
word_code parts h =
    record { short = omega (arith, length-word parts, h.small); letters = letters_to (word_of_composition parts) (letters-word parts (omega (arith, length-le-sum parts h.positive, h.small))) }

-- the letters of one part behind those of the parts before it
pub word_of-next : (parts : List ℕ) (at : ℕ) (w : List ℕ) → at < length parts → w ++ word_of_composition (drop at parts) ≡ word_of_composition parts
    → (w ++ replicate (get_or parts at 0) (length parts - at)) ++ word_of_composition (drop (at + 1) parts) ≡ word_of_composition parts
word_of-next parts at w lt so_far = append_assoc w (replicate (get_or parts at 0) (length parts - at)) (word_of_composition (drop (at + 1) parts)) ∙ ap (λ v. w ++ v) (sym (next parts at lt)) ∙ so_far
  where
    next : (parts : List ℕ) (at : ℕ) → at < length parts → word_of_composition (drop at parts) ≡ replicate (get_or parts at 0) (length parts - at) ++ word_of_composition (drop (at + 1) parts)
    next [] at lt = absurd (omega (arith, lt))
    next (i ∷ parts) zero lt = let all : suc (length parts) - 0 ≡ suc (length parts) = omega arith in rw all refl
    next (i ∷ parts) (suc at) lt =
        let more : suc at + 1 ≡ suc (at + 1) = omega arith in
        let less : suc (length parts) - suc at ≡ length parts - at = omega arith in
        rw (more, less) (next parts at (omega (arith, lt)))
