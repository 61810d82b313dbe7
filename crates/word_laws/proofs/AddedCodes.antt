-- Lists to which codes were added, each with a property once.
use Rattle.std.proofs.Common.{◌≡◌, ◌⊎◌, ℕ, ◌+◌, ◌<◌, ◌≤◌, Bool, true, false, List, [], ◌∷◌, ◌++◌, length, take, drop, get_or, refl, sym, ◌∙◌, ap, subst, arith, inl, inr}
use Rattle.std.proofs.lemmas.List.{take-append-drop, take_more}
use Rattle.realisations.specs.Codes.{Code}
use Rattle.realisations.specs.Lists.{same_list, one_if}
use Rattle.basis_representatives.proofs.SameLists.{same_list-true, same_list-self}
use Rattle.word_laws.specs.AddedCodes.{times_in, AddsEach}

pub times_in-append : (w : Code) (xs ys : List Code) → times_in w (xs ++ ys) ≡ times_in w xs + times_in w ys
times_in-append w [] ys = omega arith
times_in-append w (x ∷ xs) ys = omega (arith, times_in-append w xs ys)

-- the only code with the property was pushed
pub adds_one : (P : Code → Type 0) (c : Code) (old : List Code) → P c → ((w : Code) → P w → w ≡ c) → AddsEach P old (old ++ c ∷ [])
adds_one P c old here only w = by_test (same_list w c) refl
  where
    times : (b : Bool) → same_list w c ≡ b → times_in w (old ++ c ∷ []) ≡ times_in w old + one_if b
    times b e = times_in-append w old (c ∷ []) ∙ omega (arith, ap one_if e)

    by_test : (b : Bool) → same_list w c ≡ b → (P w × (times_in w (old ++ c ∷ []) ≡ times_in w old + 1)) ⊎ ((P w → ⊥) × (times_in w (old ++ c ∷ []) ≡ times_in w old))
    by_test true e = inl (subst P (sym (same_list-true w c e)) here, times true e)
    by_test false e = inr ((λ p. absurd (omega (arith, ap one_if (sym e ∙ ap (λ v. same_list v c) (only w p) ∙ same_list-self c)))), times false e ∙ omega arith)

-- no code has the property
pub adds_none : (P : Code → Type 0) (old : List Code) → ((w : Code) → P w → ⊥) → AddsEach P old old
adds_none P old none w = inr (none w, refl)

-- the same property in other words
pub adds_same : (P Q : Code → Type 0) (old new : List Code) → ((w : Code) → P w → Q w) → ((w : Code) → Q w → P w) → AddsEach P old new → AddsEach Q old new
adds_same P Q old new to from adds w = by_case (adds w)
  where
    by_case : (P w × (times_in w new ≡ times_in w old + 1)) ⊎ ((P w → ⊥) × (times_in w new ≡ times_in w old)) → (Q w × (times_in w new ≡ times_in w old + 1)) ⊎ ((Q w → ⊥) × (times_in w new ≡ times_in w old))
    by_case (inl some) = inl (to w some.0, some.1)
    by_case (inr none) = inr ((λ q. none.0 (from w q)), none.1)

-- one property after another that excludes it
pub adds_either : (P Q : Code → Type 0) (old mid new : List Code) → ((w : Code) → P w → Q w → ⊥) → AddsEach P old mid → AddsEach Q mid new → AddsEach (λ w. P w ⊎ Q w) old new
adds_either P Q old mid new apart first second w = by_case (first w) (second w)
  where
    by_case : (P w × (times_in w mid ≡ times_in w old + 1)) ⊎ ((P w → ⊥) × (times_in w mid ≡ times_in w old))
        → (Q w × (times_in w new ≡ times_in w mid + 1)) ⊎ ((Q w → ⊥) × (times_in w new ≡ times_in w mid))
        → ((P w ⊎ Q w) × (times_in w new ≡ times_in w old + 1)) ⊎ ((P w ⊎ Q w → ⊥) × (times_in w new ≡ times_in w old))
    by_case (inl p) (inl q) = absurd (apart w p.0 q.0)
    by_case (inl p) (inr q) = inl (inl p.0, q.1 ∙ p.1)
    by_case (inr p) (inl q) = inl (inr q.0, omega (arith, q.1, p.1))
    by_case (inr p) (inr q) = inr (neither p.0 q.0, q.1 ∙ p.1)
      where
        neither : (P w → ⊥) → (Q w → ⊥) → P w ⊎ Q w → ⊥
        neither no_p no_q (inl p) = no_p p
        neither no_p no_q (inr q) = no_q q

-- a code more
pub times_in-more : (w : Code) (codes : List Code) (i : ℕ) → i < length codes → times_in w (take (i + 1) codes) ≡ times_in w (take i codes) + one_if (same_list w (get_or codes i []))
times_in-more w codes i lt =
    ap (times_in w) (take_more codes i [] lt) ∙ times_in-append w (take i codes) (get_or codes i [] ∷ []) ∙ omega arith

times_in-front : (w : Code) (codes : List Code) (i : ℕ) → times_in w (take i codes) ≤ times_in w codes
times_in-front w codes i = omega (arith, ap (times_in w) (take-append-drop i codes), times_in-append w (take i codes) (drop i codes))

-- the codes whose tail is one of the first codes of a list, and then those with the next tail
pub adds_more : (Q : Code → Type 0) (tail : Code → Code) (codes longer new : List Code) (i : ℕ) (v : Code) → i < length codes → v ≡ get_or codes i [] → times_in v codes ≤ 1
    → AddsEach (λ w. Q w × (1 ≤ times_in (tail w) (take i codes))) [] longer → AddsEach (λ w. Q w × (tail w ≡ v)) longer new
    → AddsEach (λ w. Q w × (1 ≤ times_in (tail w) (take (i + 1) codes))) [] new
adds_more Q tail codes longer new i v lt here once first second =
    adds_same (λ w. (Q w × (1 ≤ times_in (tail w) (take i codes))) ⊎ (Q w × (tail w ≡ v))) (λ w. Q w × (1 ≤ times_in (tail w) (take (i + 1) codes))) [] new all parts
    (adds_either (λ w. Q w × (1 ≤ times_in (tail w) (take i codes))) (λ w. Q w × (tail w ≡ v)) [] longer new apart first second)
  where
    more : (w : Code) → times_in w (take (i + 1) codes) ≡ times_in w (take i codes) + one_if (same_list w v)
    more w = times_in-more w codes i lt ∙ ap (λ c. times_in w (take i codes) + one_if (same_list w c)) (sym here)

    own : (w : Code) → w ≡ v → one_if (same_list w v) ≡ 1
    own w is = ap one_if (ap (λ c. same_list c v) is ∙ same_list-self v)

    apart : (w : Code) → Q w × (1 ≤ times_in (tail w) (take i codes)) → Q w × (tail w ≡ v) → ⊥
    apart w p q = absurd (omega (arith, p.1, ap (λ c. times_in c (take i codes)) q.1, more v, own v refl, times_in-front v codes (i + 1), once))

    all : (w : Code) → (Q w × (1 ≤ times_in (tail w) (take i codes))) ⊎ (Q w × (tail w ≡ v)) → Q w × (1 ≤ times_in (tail w) (take (i + 1) codes))
    all w (inl p) = (p.0, omega (arith, p.1, more (tail w)))
    all w (inr q) = (q.0, omega (arith, more (tail w), own (tail w) q.1))

    parts : (w : Code) → Q w × (1 ≤ times_in (tail w) (take (i + 1) codes)) → (Q w × (1 ≤ times_in (tail w) (take i codes))) ⊎ (Q w × (tail w ≡ v))
    parts w p = by_test (same_list (tail w) v) refl
      where
        by_test : (b : Bool) → same_list (tail w) v ≡ b → (Q w × (1 ≤ times_in (tail w) (take i codes))) ⊎ (Q w × (tail w ≡ v))
        by_test true e = inr (p.0, same_list-true (tail w) v e)
        by_test false e = inl (p.0, omega (arith, p.1, more (tail w), ap one_if e))
