-- Filters of lists of codes.
use Rattle.std.proofs.Common.{◌≡◌, ℕ, suc, ◌+◌, ◌*◌, ◌≤◌, Bool, true, false, List, [], ◌∷◌, length, sym, ◌∙◌, ap, arith, zero-add, refl}
use Rattle.std.specs.Prelude.{if◌then◌else◌}
use Rattle.std.specs.List.{AllByRecursion, filter}
use Rattle.realisations.specs.Lists.{same_list, one_if}
use Rattle.basis_representatives.proofs.SameLists.{same_list-true}
use Rattle.word_laws.specs.AddedCodes.{times_in}

-- a code that passes is in the filter as often as before, and one that does not is not
pub times_in-filter : (code : List ℕ) (test : List ℕ → Bool) (codes : List (List ℕ)) → times_in code (filter test codes) ≡ one_if (test code) * times_in code codes
times_in-filter code test [] = omega arith
times_in-filter code test (c ∷ codes) = by_tests (test c) refl (same_list code c) refl (times_in-filter code test codes)
  where
    kept : (a b : Bool) (n k : ℕ) → a ≡ true → n ≡ one_if a * k → one_if b + n ≡ one_if a * (one_if b + k)
    kept true b n k e f = omega (arith, f)
    kept false b n k e f = absurd (cc)

    left_out : (a : Bool) (n k : ℕ) → a ≡ false → n ≡ one_if a * k → n ≡ one_if a * (1 + k)
    left_out true n k e f = absurd (cc)
    left_out false n k e f = omega (arith, f)

    other : (a : Bool) (n k : ℕ) → n ≡ one_if a * k → n ≡ one_if a * (0 + k)
    other true n k f = omega (arith, f)
    other false n k f = omega (arith, f)

    by_tests : (b : Bool) → test c ≡ b → (d : Bool) → same_list code c ≡ d → times_in code (filter test codes) ≡ one_if (test code) * times_in code codes
        → times_in code (if b then c ∷ filter test codes else filter test codes) ≡ one_if (test code) * (one_if (same_list code c) + times_in code codes)
    by_tests true e true f rest = kept (test code) (same_list code c) _ _ (ap test (same_list-true code c f) ∙ e) rest
    by_tests true e false f rest =
        (λ i. one_if (f i) + times_in code (filter test codes)) ∙ zero-add (times_in code (filter test codes)) ∙ rest ∙ other (test code) _ (times_in code codes) refl
        ∙ (λ i. one_if (test code) * (one_if (sym f i) + times_in code codes))
    by_tests false e true f rest =
        left_out (test code) _ (times_in code codes) (ap test (same_list-true code c f) ∙ e) rest
        ∙ (λ i. one_if (test code) * (one_if (sym f i) + times_in code codes))
    by_tests false e false f rest =
        other (test code) _ (times_in code codes) rest ∙ (λ i. one_if (test code) * (one_if (sym f i) + times_in code codes))

-- what each element has, each that is left has
pub every-filter : (P : List ℕ → Type 0) (test : List ℕ → Bool) (codes : List (List ℕ)) → AllByRecursion P codes → AllByRecursion P (filter test codes)
every-filter P test [] h = tt
every-filter P test (c ∷ codes) h = by_test (test c) (every-filter P test codes h.1)
  where
    by_test : (b : Bool) → AllByRecursion P (filter test codes) → AllByRecursion P (if b then c ∷ filter test codes else filter test codes)
    by_test true rest = (h.0, rest)
    by_test false rest = rest

-- no more are left than there were
pub length-filter : (test : List ℕ → Bool) (ws : List (List ℕ)) → length (filter test ws) ≤ length ws
length-filter test [] = omega arith
length-filter test (p ∷ ws) = by_test (test p) (length-filter test ws)
  where
    by_test : (b : Bool) → length (filter test ws) ≤ length ws → length (if b then p ∷ filter test ws else filter test ws) ≤ suc (length ws)
    by_test true e = omega (arith, e)
    by_test false e = omega (arith, e)
