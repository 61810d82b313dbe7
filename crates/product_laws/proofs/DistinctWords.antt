-- All words of n letters from 1 to m, and that no list has more of them than m^n if it holds none twice.
use Rattle.std.proofs.Common.{◌≡◌, ℕ, zero, suc, ◌+◌, ◌*◌, ◌^◌, ◌<◌, ◌≤◌, List, [], ◌∷◌, ◌++◌, map, length, refl, sym, ◌∙◌, ap, arith, inl, inr}
use Rattle.std.specs.Prelude.{nat_eq}
use Rattle.std.specs.List.{AllByRecursion, range_with_len}
use Rattle.std.proofs.Math.Nat.{mul_comm, pow-zero, pow-suc, pow-le-pow_left}
use Rattle.std.proofs.lemmas.Nat.{pow-add}
use Rattle.std.proofs.lemmas.Bool.{cases_lt, eq-eqb, ne_eqb}
use Rattle.std.proofs.lemmas.List.{length-append, length-map}
use Rattle.std.proofs.lemmas.List.FromFn.{length-range_with_len}
use Rattle.realisations.specs.Lists.{same_list, one_if}
use Rattle.realisations.proofs.Every.{every-append, every-map}
use Rattle.realisations.proofs.RisingMaps.{Letters}
use Rattle.realisations.proofs.Sums.{sums, sums-add, sums_none}
use Rattle.basis_representatives.proofs.SameLists.{one_if-and, same_list-sym}
use Rattle.word_laws.specs.AddedCodes.{times_in}
use Rattle.word_laws.proofs.AddedCodes.{times_in-append}

-- the letters are from 1 to m
abbrev pub AreUpTo : ℕ → List ℕ → Type 0
AreUpTo m w = Letters (λ x. (1 ≤ x) × (x ≤ m)) w

-- words with each of some first letters
abbrev pub with_first : List ℕ → List (List ℕ) → List (List ℕ)
with_first [] ws = []
with_first (x ∷ xs) ws = map (λ w. x ∷ w) ws ++ with_first xs ws

-- the words of n letters from 1 to m
abbrev pub all_words : ℕ → ℕ → List (List ℕ)
all_words m zero = [] ∷ []
all_words m (suc n) = with_first (range_with_len 1 m) (all_words m n)

length-with_first : (xs : List ℕ) (ws : List (List ℕ)) → length (with_first xs ws) ≡ length xs * length ws
length-with_first [] ws = omega arith
length-with_first (x ∷ xs) ws =
    omega (arith, length-append (map (λ w. x ∷ w) ws) (with_first xs ws), length-map ws (λ w. x ∷ w), length-with_first xs ws)

-- there are m^n of them
pub length-all_words : (m n : ℕ) → length (all_words m n) ≡ m ^ n
length-all_words m zero = sym (pow-zero m)
length-all_words m (suc n) =
    length-with_first (range_with_len 1 m) (all_words m n)
    ∙ (λ i. length-range_with_len 1 m i * length-all_words m n i)
    ∙ mul_comm m (m ^ n)
    ∙ sym (pow-suc m n)

-- how often a word is among words with a first letter
times_in-first : (z : ℕ) (w : List ℕ) (x : ℕ) (ws : List (List ℕ)) → times_in (z ∷ w) (map (λ v. x ∷ v) ws) ≡ one_if (nat_eq z x) * times_in w ws
times_in-first z w x [] = omega arith
times_in-first z w x (v ∷ ws) = omega (arith, one_if-and (nat_eq z x) (same_list w v), times_in-first z w x ws)

none_first : (z : ℕ) (w : List ℕ) (a n : ℕ) (ws : List (List ℕ)) → z < a → times_in (z ∷ w) (with_first (range_with_len a n) ws) ≡ 0
none_first z w a zero ws below = refl
none_first z w a (suc n) ws below =
    let other : one_if (nat_eq z a) ≡ 0 = ap one_if (ne_eqb z a (λ e. omega (arith, e, below))) in
    let first : times_in (z ∷ w) (map (λ v. a ∷ v) ws) ≡ 0 = times_in-first z w a ws ∙ ap (λ k. k * times_in w ws) other ∙ omega arith in
    omega (arith, times_in-append (z ∷ w) (map (λ v. a ∷ v) ws) (with_first (range_with_len (a + 1) n) ws), first, none_first z w (a + 1) n ws (omega (arith, below)))

in_first : (z : ℕ) (w : List ℕ) (a n : ℕ) (ws : List (List ℕ)) → a ≤ z → z < a + n → times_in (z ∷ w) (with_first (range_with_len a n) ws) ≡ times_in w ws
in_first z w a zero ws low high = absurd (omega (arith, low, high))
in_first z w a (suc n) ws low high = elim (cases_lt a z) [
  | inl past ↦
      let other : one_if (nat_eq z a) ≡ 0 = ap one_if (ne_eqb z a (λ e. omega (arith, e, past))) in
      let first : times_in (z ∷ w) (map (λ v. a ∷ v) ws) ≡ 0 = times_in-first z w a ws ∙ ap (λ k. k * times_in w ws) other ∙ omega arith in
      omega (arith, times_in-append (z ∷ w) (map (λ v. a ∷ v) ws) (with_first (range_with_len (a + 1) n) ws), first, in_first z w (a + 1) n ws (omega (arith, past)) (omega (arith, high)))
  | inr here ↦
      let same : one_if (nat_eq z a) ≡ 1 = ap one_if (eq-eqb z a (omega (arith, here, low))) in
      let first : times_in (z ∷ w) (map (λ v. a ∷ v) ws) ≡ times_in w ws = times_in-first z w a ws ∙ ap (λ k. k * times_in w ws) same ∙ omega arith in
      omega (arith, times_in-append (z ∷ w) (map (λ v. a ∷ v) ws) (with_first (range_with_len (a + 1) n) ws), first, none_first z w (a + 1) n ws (omega (arith, here)))
]

-- each of these words is among them once
pub times_in-all_words : (m n : ℕ) (w : List ℕ) → AreUpTo m w → length w ≡ n → times_in w (all_words m n) ≡ 1
times_in-all_words m zero [] h size = refl
times_in-all_words m zero (z ∷ w) h size = absurd (omega (arith, size))
times_in-all_words m (suc n) [] h size = absurd (omega (arith, size))
times_in-all_words m (suc n) (z ∷ w) h size =
    in_first z w 1 m (all_words m n) h.0.0 (omega (arith, h.0.1)) ∙ times_in-all_words m n w h.1 (omega (arith, size))

-- and only these are among them
words_with_first : (m n a k : ℕ) (ws : List (List ℕ)) → 1 ≤ a → a + k ≤ suc m → AllByRecursion (λ w. AreUpTo m w × (length w ≡ n)) ws
    → AllByRecursion (λ w. AreUpTo m w × (length w ≡ suc n)) (with_first (range_with_len a k) ws)
words_with_first m n a zero ws low high h = tt
words_with_first m n a (suc k) ws low high h =
    every-append (λ w. AreUpTo m w × (length w ≡ suc n)) (map (λ w. a ∷ w) ws) (with_first (range_with_len (a + 1) k) ws)
    (every-map (λ w. AreUpTo m w × (length w ≡ n)) (λ w. AreUpTo m w × (length w ≡ suc n)) (λ w. a ∷ w) (λ w e. (((low, omega (arith, high)), e.0), omega (arith, e.1))) ws h)
    (words_with_first m n (a + 1) k ws (omega arith) (omega (arith, high)) h)

pub every_word : (m n : ℕ) → AllByRecursion (λ w. AreUpTo m w × (length w ≡ n)) (all_words m n)
every_word m zero = ((tt, refl), tt)
every_word m (suc n) = words_with_first m n 1 m (all_words m n) (omega arith) (omega arith) (every_word m n)

-- how often a word is listed, by the test turned round
pub times_in-turned : (c : List ℕ) (ws : List (List ℕ)) → sums (λ w. one_if (same_list w c)) ws ≡ times_in c ws
times_in-turned c [] = refl
times_in-turned c (w ∷ ws) = omega (arith, ap one_if (same_list-sym w c), times_in-turned c ws)

-- the words of a list that are in another one are as many, counted either way
swapped : (codes ws : List (List ℕ)) → sums (λ w. times_in w codes) ws ≡ sums (λ c. times_in c ws) codes
swapped [] ws = sums_none (λ w. times_in w []) (λ w. refl) ws
swapped (c ∷ codes) ws =
    sums-add (λ w. one_if (same_list w c)) (λ w. times_in w codes) ws
    ∙ (λ i. times_in-turned c ws i + swapped codes ws i)

at_most_one : (f : List ℕ → ℕ) → ((w : List ℕ) → f w ≤ 1) → (ws : List (List ℕ)) → sums f ws ≤ length ws
at_most_one f h [] = omega arith
at_most_one f h (w ∷ ws) = omega (arith, h w, at_most_one f h ws)

one_each : (m n : ℕ) (codes : List (List ℕ)) → AllByRecursion (λ c. AreUpTo m c × (length c ≡ n)) codes → sums (λ c. times_in c (all_words m n)) codes ≡ length codes
one_each m n [] h = refl
one_each m n (c ∷ codes) h = omega (arith, times_in-all_words m n c h.0.0 h.0.1, one_each m n codes h.1)

-- a list that holds none of them twice has at most m^n
pub few_distinct : (m n : ℕ) (codes : List (List ℕ)) → AllByRecursion (λ c. AreUpTo m c × (length c ≡ n)) codes → ((c : List ℕ) → times_in c codes ≤ 1) → length codes ≤ m ^ n
few_distinct m n codes h once =
    omega (arith, one_each m n codes h, swapped codes (all_words m n), at_most_one (λ w. times_in w codes) once (all_words m n), length-all_words m n)

five_more : (n : ℕ) → 2 ^ (5 * suc n) ≡ 32 * 2 ^ (5 * n)
five_more n = let e : 5 * suc n ≡ 5 + 5 * n = omega arith in ap (λ m. 2 ^ m) e ∙ pow-add 2 5 (5 * n)

thirty_two : (n : ℕ) → 32 ^ n ≡ 2 ^ (5 * n)
thirty_two zero = omega arith
thirty_two (suc n) = rw (pow-suc 32 n, five_more n) (omega (arith, thirty_two n))

-- n^n is at most 2^(5n) for n up to 32
pub self_power : (n : ℕ) → n ≤ 32 → n ^ n ≤ 2 ^ (5 * n)
self_power n le = omega (arith, pow-le-pow_left {n = n} {m = 32} le n, thirty_two n)
