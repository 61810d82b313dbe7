-- The lattice words of a length, each once in canonical order, grow letter by letter.
use Rattle.std.proofs.Common.{◌≡◌, ℕ, zero, suc, ◌+◌, ◌-◌, ◌<◌, ◌≤◌, Bool, true, false, List, [], ◌∷◌, ◌++◌, length, map, take, get_or, refl, sym, ◌∙◌, ap, subst, arith, inl, inr}
use Rattle.std.specs.Prelude.{if◌then◌else◌, slice_index_or}
use Rattle.std.specs.List.{All, AllByRecursion, filter, flat_map, range_with_len}
use Rattle.std.proofs.lemmas.Bool.{cases_lt}
use Rattle.std.proofs.lemmas.List.{length-append, length-take, take_all, take_more}
use Rattle.std.proofs.lemmas.List.Elements.{All-from_recursion}
use Rattle.realisations.specs.Codes.{Code}
use Rattle.realisations.specs.IndexKinds.{IsTableauCode, by_tableau}
use Rattle.realisations.specs.Words.{greatest}
use Rattle.realisations.proofs.Every.{every-flat_map, every-weaker}
use Rattle.linear_combos.specs.CodeLists.{ListsIndices}
use Rattle.tableau_laws.specs.LatticeWords.{IsLatticeWord}
use Rattle.tableau_laws.proofs.LatticeColumns.{greatest-lattice}
use Rattle.tableau_laws.proofs.LatticeSteps.{follows-lattice, lattice-empty, lattice-follows, lattice-front}
use Rattle.tableau_laws.proofs.LatticeWords.{lattice-tableau_code, tableau_code-lattice}
use Rattle.tableaux.specs.NumberedTableaux.{IsShorter, follows_in, longer_codes}
use Rattle.tableaux.proofs.CodesInOrder.{AreRising, Comes, IsAmong, among-left, among-right, comes-append, comes-last, in_order-rising, listed-among, one_of, rising-append}
use Rattle.tableaux.proofs.Steps.{can_follow, follows}

-- a lattice word of n letters
abbrev pub IsWordOf : ℕ → Code → Type 0
IsWordOf n c = IsLatticeWord c × (length c ≡ n)

-- the lattice words of n letters, each once, in canonical order
pub record ListsWords (n : ℕ) (codes : List Code) : Type 0 where
  pub each : AllByRecursion (IsWordOf n) codes
  pub whole : (c : Code) → IsLatticeWord c → length c ≡ n → IsAmong c codes
  pub rising : AreRising codes

-- the word of no letter
pub words_empty : ListsWords 0 ([] ∷ [])
words_empty = record {
  each = ((lattice-empty, refl), tt);
  whole = λ c h e. none c e;
  rising = (tt, tt);
}
  where
    none : (c : Code) → length c ≡ 0 → IsAmong c ([] ∷ [])
    none [] e = inl refl
    none (x ∷ c) e = absurd (omega (arith, e))

-- of numbers that pass a test, what their values have
module _ (test : ℕ → Bool) (g : ℕ → Code) where
  -- what each such value has, all of them have
  every-passing : (P : Code → Type 0) (s k : ℕ) → ((x : ℕ) → s ≤ x → test x ≡ true → P (g x)) → AllByRecursion P (map g (filter test (range_with_len s k)))
  every-passing P s zero h = tt
  every-passing P s (suc k) h = by_test (test s) refl (every-passing P (s + 1) k (λ x from passes. h x (omega (arith, from)) passes))
    where
      by_test : (b : Bool) → test s ≡ b → AllByRecursion P (map g (filter test (range_with_len (s + 1) k)))
          → AllByRecursion P (map g (if b then s ∷ filter test (range_with_len (s + 1) k) else filter test (range_with_len (s + 1) k)))
      by_test true e ih = (h s (omega arith) e, ih)
      by_test false e ih = ih

  -- values that rise with the number are in order
  rising-passing : ((x y : ℕ) → x < y → Comes (g x) (g y)) → (s k : ℕ) → AreRising (map g (filter test (range_with_len s k)))
  rising-passing up s zero = tt
  rising-passing up s (suc k) = by_test (test s) (rising-passing up (s + 1) k)
    where
      by_test : (b : Bool) → AreRising (map g (filter test (range_with_len (s + 1) k))) → AreRising (map g (if b then s ∷ filter test (range_with_len (s + 1) k) else filter test (range_with_len (s + 1) k)))
      by_test true ih = (every-passing (λ d. Comes (g s) d) (s + 1) k (λ x from passes. up s x (omega (arith, from))), ih)
      by_test false ih = ih

  -- the value of a number that passes is among them
  among-passing : (x : ℕ) → test x ≡ true → (s k : ℕ) → s ≤ x → x < s + k → IsAmong (g x) (map g (filter test (range_with_len s k)))
  among-passing x passes s zero from to = absurd (omega (arith, from, to))
  among-passing x passes s (suc k) from to = elim (cases_lt s x) [
    | inl past ↦ later (test s) (among-passing x passes (s + 1) k (omega (arith, past)) (omega (arith, to)))
    | inr at ↦ (let same : s ≡ x = omega (arith, from, at) in here same (test s) (ap test same ∙ passes))
  ]
    where
      later : (b : Bool) → IsAmong (g x) (map g (filter test (range_with_len (s + 1) k))) → IsAmong (g x) (map g (if b then s ∷ filter test (range_with_len (s + 1) k) else filter test (range_with_len (s + 1) k)))
      later true h = inr h
      later false h = h

      here : s ≡ x → (b : Bool) → b ≡ true → IsAmong (g x) (map g (if b then s ∷ filter test (range_with_len (s + 1) k) else filter test (range_with_len (s + 1) k)))
      here same true e = inl (ap g same)
      here same false e = absurd (cc)

-- a word with a letter more
each_longer : (n : ℕ) (c : Code) → IsWordOf n c → AllByRecursion (IsWordOf (suc n)) (longer_codes c)
each_longer n c h =
    every-passing (λ x. follows_in c x) (λ x. c ++ (x ∷ [])) (IsWordOf (suc n)) 1 (suc (length c))
    (λ x from passes. (lattice-follows c x h.0 (can_follow c x passes), omega (arith, length-append c (x ∷ []), h.1)))

-- the longer words of the first come before those of the others
longer_before : (n : ℕ) (c : Code) (codes : List Code) → length c ≡ n → AllByRecursion (IsWordOf n) codes → AllByRecursion (λ d. Comes c d) codes
    → AllByRecursion (λ a. AllByRecursion (λ b. Comes a b) (flat_map longer_codes codes)) (longer_codes c)
longer_before n c codes e each up =
    every-passing (λ x. follows_in c x) (λ x. c ++ (x ∷ [])) (λ a. AllByRecursion (λ b. Comes a b) (flat_map longer_codes codes)) 1 (suc (length c))
    (λ x from passes.
    every-flat_map (λ d. IsWordOf n d × Comes c d) (λ b. Comes (c ++ (x ∷ [])) b) longer_codes
    (λ d k. every-passing (λ y. follows_in d y) (λ y. d ++ (y ∷ [])) (λ b. Comes (c ++ (x ∷ [])) b) 1 (suc (length d))
    (λ y from passes. comes-append c d (x ∷ []) (y ∷ []) (omega (arith, e, k.0.1)) k.1))
    codes (both codes each up))
  where
    both : (codes : List Code) → AllByRecursion (IsWordOf n) codes → AllByRecursion (λ d. Comes c d) codes → AllByRecursion (λ d. IsWordOf n d × Comes c d) codes
    both [] h k = tt
    both (d ∷ codes) h k = ((h.0, k.0), both codes h.1 k.1)

-- the longer words are in order
rising_longer : (n : ℕ) (codes : List Code) → AllByRecursion (IsWordOf n) codes → AreRising codes → AreRising (flat_map longer_codes codes)
rising_longer n [] each up = tt
rising_longer n (c ∷ codes) each up =
    rising-append (longer_codes c) (flat_map longer_codes codes) (rising-passing (λ x. follows_in c x) (λ x. c ++ (x ∷ [])) (λ x y less. comes-last c x y less) 1 (suc (length c)))
    (rising_longer n codes each.1 up.1) (longer_before n c codes each.0.1 each.1 up.0)

-- a longer word of one of the words is among them
among_longer : (c d : Code) (codes : List Code) → IsAmong c codes → IsAmong d (longer_codes c) → IsAmong d (flat_map longer_codes codes)
among_longer c d [] h k = absurd h
among_longer c d (a ∷ codes) (inl e) k = among-left d (longer_codes a) (flat_map longer_codes codes) (subst (λ b. IsAmong d (longer_codes b)) (sym e) k)
among_longer c d (a ∷ codes) (inr h) k = among-right d (longer_codes a) (flat_map longer_codes codes) (among_longer c d codes h k)

-- no letter is past the greatest
at_most_greatest : (w : List ℕ) (i : ℕ) → i < length w → get_or w i 0 ≤ greatest w
at_most_greatest [] i lt = absurd (omega (arith, lt))
at_most_greatest (x ∷ w) zero lt = omega arith
at_most_greatest (x ∷ w) (suc i) lt = omega (arith, at_most_greatest w i (omega (arith, lt)))

-- the words of n + 1 letters are those of n letters with a letter more
pub words_longer : (n : ℕ) (codes : List Code) → ListsWords n codes → ListsWords (n + 1) (flat_map longer_codes codes)
words_longer n codes h = subst (λ m. ListsWords m (flat_map longer_codes codes)) (omega arith) (record {
  each = every-flat_map (IsWordOf n) (IsWordOf (suc n)) longer_codes (each_longer n) codes h.each;
  whole = λ d lattice size. subst (λ w. IsAmong w (flat_map longer_codes codes)) (cut d size) (found d lattice size);
  rising = rising_longer n codes h.each h.rising;
})
  where
    cut : (d : Code) → length d ≡ suc n → take n d ++ (get_or d n 0 ∷ []) ≡ d
    cut d size = sym (take_more d n 0 (omega (arith, size))) ∙ take_all (n + 1) d (omega (arith, size))

    found : (d : Code) → IsLatticeWord d → length d ≡ suc n → IsAmong (take n d ++ (get_or d n 0 ∷ [])) (flat_map longer_codes codes)
    found d lattice size =
        let whole : IsLatticeWord (take n d ++ (get_or d n 0 ∷ [])) = subst IsLatticeWord (sym (cut d size)) lattice in
        let can = follows-lattice (take n d) (get_or d n 0) whole in
        let long : length (take n d) ≡ n = omega (arith, length-take n d, size) in
        among_longer (take n d) (take n d ++ (get_or d n 0 ∷ [])) codes (h.whole (take n d) (lattice-front (take n d) (get_or d n 0 ∷ []) whole) long)
        (among-passing (λ x. follows_in (take n d) x) (λ x. take n d ++ (x ∷ [])) (get_or d n 0) (follows (take n d) (get_or d n 0) can) 1 (suc (length (take n d)))
        can.positive (omega (arith, long, at_most_greatest d n (omega (arith, size)), greatest-lattice d lattice, size)))

-- words of less than 12 letters
pub words_shorter : (n : ℕ) (codes : List Code) → n ≤ 11 → ListsWords n codes → All IsShorter codes
words_shorter n codes le h =
    All-from_recursion IsShorter codes (every-weaker (IsWordOf n) IsShorter (λ c k. record { lattice = k.0; small = omega (arith, k.1, le) }) codes h.each)

-- these are the codes of the standard tableaux of this size
pub indices_listed : (n : ℕ) (codes : List Code) → ListsWords n codes → ListsIndices by_tableau n codes
indices_listed n codes h = record {
  each = λ c at. let k = one_of (IsWordOf n) codes h.each at.0 at.1 in subst (λ d. (IsTableauCode d) × (length d ≡ n)) at.2 (tableau_code-lattice (slice_index_or codes at.0 []) k.0, k.1);
  whole = λ c k. listed-among c codes (h.whole c (lattice-tableau_code c k.0) k.1);
  in_order = in_order-rising codes h.rising;
}

-- the numbers from at + 1 to the number of letters and 1

-- the next number and the others
rest_of_range : (code : Code) (at : ℕ) → at < length code + 1 → range_with_len (at + 1) (length code + 1 - at) ≡ (at + 1) ∷ range_with_len (at + 1 + 1) (length code + 1 - (at + 1))
rest_of_range code at lt = let more : length code + 1 - at ≡ suc (length code + 1 - (at + 1)) = omega (arith, lt) in ap (range_with_len (at + 1)) more

-- a letter that may follow
pub letter_follows : (code : Code) (at : ℕ) → at < length code + 1 → follows_in code (at + 1) ≡ true
    → map (λ x. code ++ (x ∷ [])) (filter (λ x. follows_in code x) (range_with_len (at + 1) (length code + 1 - at)))
    ≡ (code ++ ((at + 1) ∷ [])) ∷ map (λ x. code ++ (x ∷ [])) (filter (λ x. follows_in code x) (range_with_len (at + 1 + 1) (length code + 1 - (at + 1))))
letter_follows code at lt passes =
    ap (λ xs. map (λ x. code ++ (x ∷ [])) (filter (λ x. follows_in code x) xs)) (rest_of_range code at lt)
    ∙ ap (λ b. map (λ x. code ++ (x ∷ [])) (if b then (at + 1) ∷ filter (λ x. follows_in code x) (range_with_len (at + 1 + 1) (length code + 1 - (at + 1))) else filter (λ x. follows_in code x) (range_with_len (at + 1 + 1) (length code + 1 - (at + 1))))) passes

-- one that may not
pub letter_fails : (code : Code) (at : ℕ) → at < length code + 1 → follows_in code (at + 1) ≡ false
    → map (λ x. code ++ (x ∷ [])) (filter (λ x. follows_in code x) (range_with_len (at + 1) (length code + 1 - at)))
    ≡ map (λ x. code ++ (x ∷ [])) (filter (λ x. follows_in code x) (range_with_len (at + 1 + 1) (length code + 1 - (at + 1))))
letter_fails code at lt fails =
    ap (λ xs. map (λ x. code ++ (x ∷ [])) (filter (λ x. follows_in code x) xs)) (rest_of_range code at lt)
    ∙ ap (λ b. map (λ x. code ++ (x ∷ [])) (if b then (at + 1) ∷ filter (λ x. follows_in code x) (range_with_len (at + 1 + 1) (length code + 1 - (at + 1))) else filter (λ x. follows_in code x) (range_with_len (at + 1 + 1) (length code + 1 - (at + 1))))) fails
