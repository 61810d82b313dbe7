-- Steps of the loops.
use Rattle.std.proofs.Common.{◌≡◌, ℕ, zero, suc, ◌+◌, ◌-◌, ◌<◌, Bool, true, false, List, [], ◌∷◌, ◌++◌, length, take, drop, get_or, sym, ◌∙◌, ap, subst, arith, inl, inr, add-one, drop-cons}
use Rattle.std.specs.Prelude.{nat_eq, nat_lt, ◌&&◌, ◌||◌}
use Rattle.std.specs.List.{range_with_len}
use Rattle.std.proofs.lemmas.Bool.{cases_eq}
use Rattle.std.proofs.lemmas.Bool.Decides.{nat_tests}
use Rattle.std.proofs.lemmas.List.{take-append-drop, take_more}
use Rattle.std.proofs.lemmas.List.FromFn.{length-range_with_len}
use Rattle.realisations.specs.Standardisation.{count_same}
use Rattle.basis_representatives.proofs.Entries.{apart_lt}
use Rattle.tableau_laws.specs.LatticeWords.{CanFollow, IsLatticeWord}
use Rattle.tableau_laws.specs.NumberedRows.{letters_in}
use Rattle.tableau_laws.proofs.LatticeSteps.{follows-lattice, lattice-follows, lattice-front}
use Rattle.tableau_laws.proofs.NumberedRows.{letters_in-here, letters_in-there}
use Rattle.tableaux.specs.NumberedTableaux.{follows_in}

-- the rest of a row, where the next letter is in it
pub row_taken : (row i : ℕ) (letters rows : List ℕ) → i < length letters → length letters ≡ length rows → get_or rows i 0 ≡ row
    → letters_in row (drop i letters) (drop i rows) ≡ get_or letters i 0 ∷ letters_in row (drop (i + 1) letters) (drop (i + 1) rows)
row_taken row i letters rows lt e here =
    rw (add-one, drop-cons letters i 0 lt, drop-cons rows i 0 (omega (arith, lt, e)))
    (letters_in-here row (get_or letters i 0) (drop (suc i) letters) (get_or rows i 0) (drop (suc i) rows) here)

-- and where it is in another
pub row_passed : (row i : ℕ) (letters rows : List ℕ) → i < length letters → length letters ≡ length rows → (get_or rows i 0 ≡ row → ⊥)
    → letters_in row (drop i letters) (drop i rows) ≡ letters_in row (drop (i + 1) letters) (drop (i + 1) rows)
row_passed row i letters rows lt e there =
    rw (add-one, drop-cons letters i 0 lt, drop-cons rows i 0 (omega (arith, lt, e)))
    (letters_in-there row (get_or letters i 0) (drop (suc i) letters) (get_or rows i 0) (drop (suc i) rows) there)

-- one number more
range_more : (a n : ℕ) → range_with_len a n ++ ((a + n) ∷ []) ≡ range_with_len a (n + 1)
range_more a zero = let same : a + 0 ≡ a = omega arith in ap (λ m. m ∷ []) same
range_more a (suc n) =
    let same : a + suc n ≡ (a + 1) + n = omega arith in
    let longer : suc (n + 1) ≡ suc n + 1 = omega arith in
    ap (λ w. a ∷ w) (ap (λ m. range_with_len (a + 1) n ++ (m ∷ [])) same ∙ range_more (a + 1) n) ∙ ap (range_with_len a) longer

-- the letters 1, 2, .. with one more
pub more_pushed : (items new : List ℕ) (at x : ℕ) → items ≡ range_with_len 1 at → x ≡ 1 + at → new ≡ items ++ (x ∷ []) → new ≡ range_with_len 1 (at + 1)
more_pushed items new at x so_far is e = e ∙ (λ i. so_far i ++ (is i ∷ [])) ∙ range_more 1 at

-- how many there are
pub length_pushed : (items : List ℕ) (at : ℕ) → items ≡ range_with_len 1 at → length items ≡ at
length_pushed items at e = ap length e ∙ length-range_with_len 1 at

-- the test of a letter that may follow

-- what the test says of a letter other than 1
past_one : (c a b : ℕ) → (nat_eq c 1 || (nat_lt 1 c && nat_lt a b)) ≡ true → (c ≡ 1 → ⊥) → 1 < c
past_one c a b h n = grind (arith, nat_tests, h, n)

is_less : (c a b : ℕ) → (nat_eq c 1 || (nat_lt 1 c && nat_lt a b)) ≡ true → (c ≡ 1 → ⊥) → a < b
is_less c a b h n = grind (arith, nat_tests, h, n)

-- the test holds of 1, and of a later letter that has a letter before it more often
passes_one : (c a b : ℕ) → c ≡ 1 → (nat_eq c 1 || (nat_lt 1 c && nat_lt a b)) ≡ true
passes_one c a b e = grind (arith, nat_tests, e)

passes_past : (c a b : ℕ) → 1 < c → a < b → (nat_eq c 1 || (nat_lt 1 c && nat_lt a b)) ≡ true
passes_past c a b h k = grind (arith, nat_tests, h, k)

-- where it holds the letter may follow
pub can_follow : (code : List ℕ) (c : ℕ) → follows_in code c ≡ true → CanFollow code c
can_follow code c h = elim (cases_eq c 1) [
  | inl one ↦ record { positive = omega (arith, one); below = λ r from e. absurd (omega (arith, one, from, e)) }
  | inr other ↦
      (let past = past_one c (count_same c code) (count_same (c - 1) code) h other in
      let less = is_less c (count_same c code) (count_same (c - 1) code) h other in
      record {
        positive = omega (arith, past);
        below = λ r from e.
            let before : c - 1 ≡ r = omega (arith, e) in
            subst (λ n. count_same n code < count_same r code) e (subst (λ n. count_same c code < count_same n code) before less);
      })
]

-- and only there
pub follows : (code : List ℕ) (c : ℕ) → CanFollow code c → follows_in code c ≡ true
follows code c h = elim (cases_eq c 1) [
  | inl one ↦ passes_one c (count_same c code) (count_same (c - 1) code) one
  | inr other ↦
      (let past : 1 < c = apart_lt 1 c h.positive other in
      let next : c ≡ suc (c - 1) = omega (arith, past) in
      passes_past c (count_same c code) (count_same (c - 1) code) past (subst (λ n. count_same n code < count_same (c - 1) code) (sym next) (h.below (c - 1) (omega (arith, past)) next)))
]

-- a longer front of a lattice word
pub longer_front : (code : List ℕ) (i : ℕ) → i < length code → IsLatticeWord (take i code) → follows_in (take i code) (get_or code i 0) ≡ true → IsLatticeWord (take (i + 1) code)
longer_front code i lt h f =
    subst IsLatticeWord (sym (take_more code i 0 lt)) (lattice-follows (take i code) (get_or code i 0) h (can_follow (take i code) (get_or code i 0) f))

-- where a letter can't follow there is no lattice word
pub no_longer_front : (code : List ℕ) (i : ℕ) → i < length code → follows_in (take i code) (get_or code i 0) ≡ false → IsLatticeWord code → ⊥
no_longer_front code i lt f h =
    let front : IsLatticeWord (take (i + 1) code) = lattice-front (take (i + 1) code) (drop (i + 1) code) (subst IsLatticeWord (sym (take-append-drop (i + 1) code)) h) in
    let passes = follows (take i code) (get_or code i 0) (follows-lattice (take i code) (get_or code i 0) (subst IsLatticeWord (take_more code i 0 lt) front)) in
    absurd (both (follows_in (take i code) (get_or code i 0)) f passes)
  where
    both : (b : Bool) → b ≡ false → b ≡ true → ⊥
    both true f t = absurd (cc)
    both false f t = absurd (cc)
