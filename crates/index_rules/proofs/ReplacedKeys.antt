-- Keys with other codes in the place of a component: their parts and their length.
use Rattle.std.proofs.Common.{◌≡◌, ℕ, zero, suc, ◌+◌, ◌-◌, ◌<◌, ◌≤◌, [], ◌∷◌, ◌++◌, length, take, drop, refl, ◌∙◌, ap, arith}
use Rattle.std.specs.Prelude.{slice_index_or}
use Rattle.std.proofs.lemmas.List.{length-append}
use Rattle.change_laws.specs.Lifts.{code_at, replaced}
use Rattle.realisations.specs.Codes.{Code, Key}

-- the codes before a component counted from 1, the new ones, and those after it
pub joined_parts : (component : ℕ) (codes key front back : Key) → 1 ≤ component → front ≡ take (component - 1) key → back ≡ drop component key
    → front ++ codes ++ back ≡ replaced (component - 1) codes key
joined_parts component codes key front back first ef eb =
    let e : component ≡ suc (component - 1) = omega arith in
    λ i. ef i ++ codes ++ (eb ∙ ap (λ n. drop n key) e) i

-- the code of a component counted from 1, as a key shows it
pub code_at-read : (component : ℕ) (key : Key) (code : Code) → 1 ≤ component → component ≤ length key → code ≡ slice_index_or key (component - 1) code → code ≡ code_at (component - 1) key
code_at-read component key code first last is = is ∙ by_place (component - 1) key (omega arith)
  where
    by_place : (k : ℕ) (xs : Key) → k < length xs → slice_index_or xs k code ≡ code_at k xs
    by_place k [] lt = absurd (omega arith)
    by_place zero (x ∷ xs) lt = refl
    by_place (suc k) (x ∷ xs) lt = by_place k xs (omega arith)

-- a key with codes in the place of one has one less, and those
pub length-replaced : (k : ℕ) (codes key : Key) → k < length key → length (replaced k codes key) + 1 ≡ length key + length codes
length-replaced k codes [] lt = absurd (omega arith)
length-replaced zero codes (c ∷ key) lt = omega (arith, length-append codes key)
length-replaced (suc k) codes (c ∷ key) lt = omega (arith, length-replaced k codes key (omega arith))
