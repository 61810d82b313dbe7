-- The shuffles of two words, cut after n letters: shuffles of their fronts, and of their backs.
use Rattle.std.proofs.Common.{◌≡◌, ℕ, zero, suc, ◌+◌, ◌*◌, List, [], ◌∷◌, map, length, take, drop, sym, ◌∙◌, ap, arith, zero-add}
use Rattle.std.specs.Prelude.{nat_le}
use Rattle.std.proofs.lemmas.Bool.Decides.{nat_tests}
use Rattle.realisations.specs.Exponents.{number_cuts}
use Rattle.realisations.specs.Lists.{one_if}
use Rattle.realisations.specs.Words.{shuffles}
use Rattle.realisations.proofs.Sums.{sums, sums-append, sums-map, sums-add, sums_same, over_cuts, over_cuts-suc, over_cuts_none}

-- the cuts of a larger number by their second part
over_cuts-last : (n : ℕ) (f : ℕ → ℕ → ℕ) → over_cuts (suc n) f ≡ over_cuts n (λ i j. f i (suc j)) + f (suc n) 0
over_cuts-last zero f = omega arith
over_cuts-last (suc n) f =
    omega (arith, over_cuts-suc (suc n) f, over_cuts-last n (λ i j. f (suc i) j), over_cuts-suc n (λ i j. f i (suc j)))

over_cuts-add : (n : ℕ) (f g : ℕ → ℕ → ℕ) → over_cuts n (λ i j. f i j + g i j) ≡ over_cuts n f + over_cuts n g
over_cuts-add n f g = sums-add (λ (e : ℕ × ℕ). f e.0 e.1) (λ (e : ℕ × ℕ). g e.0 e.1) (number_cuts n)

over_cuts_same : (n : ℕ) (f g : ℕ → ℕ → ℕ) → ((i j : ℕ) → f i j ≡ g i j) → over_cuts n f ≡ over_cuts n g
over_cuts_same n f g h = sums_same (λ (e : ℕ × ℕ). f e.0 e.1) (λ (e : ℕ × ℕ). g e.0 e.1) (λ e. h e.0 e.1) (number_cuts n)

-- only the cut with no first part counts, or only the one with no second part
over_cuts-first_none : (n : ℕ) (f : ℕ → ℕ → ℕ) → ((i j : ℕ) → f (suc i) j ≡ 0) → over_cuts n f ≡ f 0 n
over_cuts-first_none zero f h = omega arith
over_cuts-first_none (suc n) f h = omega (arith, over_cuts-suc n f, over_cuts_none n (λ i j. f (suc i) j) h)

over_cuts-second_none : (n : ℕ) (f : ℕ → ℕ → ℕ) → ((i j : ℕ) → f i (suc j) ≡ 0) → over_cuts n f ≡ f n 0
over_cuts-second_none zero f h = omega arith
over_cuts-second_none (suc n) f h = omega (arith, over_cuts-last n f, over_cuts_none n (λ i j. f i (suc j)) h)

-- both words have so many letters
abbrev pub have : List ℕ → ℕ → List ℕ → ℕ → ℕ
have u i v j = one_if (nat_le i (length u)) * one_if (nat_le j (length v))

-- a product of a function of the front and a function of the back, summed over the shuffles of fronts and of backs
abbrev pub cut_term : (List ℕ → ℕ) → (List ℕ → ℕ) → List ℕ → List ℕ → ℕ → ℕ → ℕ
cut_term f g u v i j = have u i v j * (sums f (shuffles (take i u) (take j v)) * sums g (shuffles (drop i u) (drop j v)))

le_none : (i : ℕ) → one_if (nat_le (suc i) 0) ≡ 0
le_none i = grind (arith, nat_tests)

le_zero : (n : ℕ) → one_if (nat_le 0 n) ≡ 1
le_zero n = grind (arith, nat_tests)

le_suc : (i n : ℕ) → nat_le (suc i) (suc n) ≡ nat_le i n
le_suc i n = grind (arith, nat_tests)

shuffles_none : (f : List ℕ → ℕ) (u : List ℕ) → sums f (shuffles u []) ≡ f u
shuffles_none f [] = omega arith
shuffles_none f (x ∷ u) = omega arith

-- what a shuffle counts as, cut after n letters
abbrev pub shuffle_term : ℕ → (List ℕ → ℕ) → (List ℕ → ℕ) → List ℕ → ℕ
shuffle_term n f g w = one_if (nat_le n (length w)) * (f (take n w) * g (drop n w))

-- the shuffles that begin with a letter
begun : (n : ℕ) (f g : List ℕ → ℕ) (x : ℕ) (ws : List (List ℕ)) → sums (shuffle_term (suc n) f g) (map (λ w. x ∷ w) ws) ≡ sums (shuffle_term n (λ w. f (x ∷ w)) g) ws
begun n f g x ws =
    sums-map (shuffle_term (suc n) f g) (λ w. x ∷ w) ws
    ∙ sums_same (λ w. shuffle_term (suc n) f g (x ∷ w)) (shuffle_term n (λ w. f (x ∷ w)) g) (λ w. ap (λ b. one_if b * (f (x ∷ take n w) * g (drop n w))) (le_suc n (length w))) ws

-- the cuts whose front begins with the first letter of the first word, or of the second
abbrev first_kind : (List ℕ → ℕ) → (List ℕ → ℕ) → ℕ → List ℕ → List ℕ → ℕ → ℕ → ℕ
first_kind f g x u v zero j = 0
first_kind f g x u v (suc i) j = cut_term (λ w. f (x ∷ w)) g u v i j

abbrev second_kind : (List ℕ → ℕ) → (List ℕ → ℕ) → List ℕ → ℕ → List ℕ → ℕ → ℕ → ℕ
second_kind f g u y v i zero = 0
second_kind f g u y v i (suc j) = cut_term (λ w. f (y ∷ w)) g u v i j

moved_first : (n : ℕ) (f g : List ℕ → ℕ) (x : ℕ) (u v : List ℕ) → over_cuts n (cut_term (λ w. f (x ∷ w)) g u v) ≡ over_cuts (suc n) (first_kind f g x u v)
moved_first n f g x u v = omega (arith, over_cuts-suc n (first_kind f g x u v))

moved_second : (n : ℕ) (f g : List ℕ → ℕ) (u : List ℕ) (y : ℕ) (v : List ℕ) → over_cuts n (cut_term (λ w. f (y ∷ w)) g u v) ≡ over_cuts (suc n) (second_kind f g u y v)
moved_second n f g u y v = omega (arith, over_cuts-last n (second_kind f g u y v))

-- a sum over the cuts of a number sees these alone
over_cuts_same_at : (n : ℕ) (f g : ℕ → ℕ → ℕ) → ((i j : ℕ) → i + j ≡ n → f i j ≡ g i j) → over_cuts n f ≡ over_cuts n g
over_cuts_same_at zero f g h = omega (arith, h 0 0 (omega arith))
over_cuts_same_at (suc n) f g h =
    omega (arith, over_cuts-suc n f, over_cuts-suc n g, h 0 (suc n) (omega arith), over_cuts_same_at n (λ i j. f (suc i) j) (λ i j. g (suc i) j) (λ i j e. h (suc i) j (omega (arith, e))))

kinds_joined : (f g : List ℕ → ℕ) (x : ℕ) (u : List ℕ) (y : ℕ) (v : List ℕ) (n i j : ℕ) → i + j ≡ suc n
    → first_kind f g x u (y ∷ v) i j + second_kind f g (x ∷ u) y v i j ≡ cut_term f g (x ∷ u) (y ∷ v) i j
kinds_joined f g x u y v n zero zero e = absurd (omega (arith, e))
kinds_joined f g x u y v n zero (suc j) e =
    zero-add (second_kind f g (x ∷ u) y v 0 (suc j))
    ∙ ap (λ b. one_if (nat_le 0 (length (x ∷ u))) * one_if b * ((f (y ∷ take j v) + 0) * sums g (shuffles (x ∷ u) (drop j v)))) (sym (le_suc j (length v)))
kinds_joined f g x u y v n (suc i) zero e =
    join (one_if (nat_le i (length u))) (one_if (nat_le (suc i) (suc (length u)))) (one_if (nat_le 0 (length (y ∷ v)))) (sums (λ w. f (x ∷ w)) (shuffles (take i u) [])) (f (x ∷ take i u)) (sums g (shuffles (drop i u) (y ∷ v)))
    (ap one_if (le_suc i (length u))) (shuffles_none (λ w. f (x ∷ w)) (take i u))
  where
    join : (a b c p q r : ℕ) → b ≡ a → p ≡ q → a * c * (p * r) + 0 ≡ b * c * ((q + 0) * r)
    join a b c p q r e k = rw (e, k) (omega arith)
kinds_joined f g x u y v n (suc i) (suc j) e =
    join (one_if (nat_le i (length u))) (one_if (nat_le (suc i) (suc (length u)))) (one_if (nat_le j (length v))) (one_if (nat_le (suc j) (suc (length v))))
    (sums (λ w. f (x ∷ w)) (shuffles (take i u) (y ∷ take j v))) (sums (λ w. f (y ∷ w)) (shuffles (x ∷ take i u) (take j v)))
    (sums f (shuffles (x ∷ take i u) (y ∷ take j v))) (sums g (shuffles (drop i u) (drop j v)))
    (ap one_if (le_suc i (length u))) (ap one_if (le_suc j (length v)))
    (sums-append f (map (λ w. x ∷ w) (shuffles (take i u) (y ∷ take j v))) (map (λ w. y ∷ w) (shuffles (x ∷ take i u) (take j v)))
    ∙ (λ k. sums-map f (λ w. x ∷ w) (shuffles (take i u) (y ∷ take j v)) k + sums-map f (λ w. y ∷ w) (shuffles (x ∷ take i u) (take j v)) k))
  where
    join : (a a' b b' p q s r : ℕ) → a' ≡ a → b' ≡ b → s ≡ p + q → a * b' * (p * r) + a' * b * (q * r) ≡ a' * b' * (s * r)
    join a a' b b' p q s r ea eb es = rw (ea, eb, es) (omega arith)

-- the shuffles, cut after n letters, are the shuffles of fronts with n letters together, and of their backs
pub cut_shuffles : (n : ℕ) (f g : List ℕ → ℕ) (u v : List ℕ)
    → sums (shuffle_term n f g) (shuffles u v) ≡ over_cuts n (cut_term f g u v)
cut_shuffles zero f g u v =
    sums_same (λ w. one_if (nat_le 0 (length w)) * (f [] * g w)) (λ w. f [] * g w) (λ w. ap (λ m. m * (f [] * g w)) (le_zero (length w)) ∙ omega arith) (shuffles u v)
    ∙ scale (f []) (shuffles u v)
    ∙ one (one_if (nat_le 0 (length u))) (one_if (nat_le 0 (length v))) (f []) (sums g (shuffles u v)) (le_zero (length u)) (le_zero (length v))
  where
    scale : (k : ℕ) (ws : List (List ℕ)) → sums (λ w. k * g w) ws ≡ k * sums g ws
    scale k [] = omega arith
    scale k (w ∷ ws) = omega (arith, scale k ws)

    one : (a b x y : ℕ) → a ≡ 1 → b ≡ 1 → x * y ≡ a * b * ((x + 0) * y) + 0
    one a b x y ea eb = rw (ea, eb) (omega arith)
cut_shuffles (suc n) f g [] v =
    let only : over_cuts (suc n) (cut_term f g [] v) ≡ cut_term f g [] v 0 (suc n) =
    over_cuts-first_none (suc n) (cut_term f g [] v) (λ i j. ap (λ m. m * one_if (nat_le j (length v)) * (sums f (shuffles (take (suc i) []) (take j v)) * sums g (shuffles (drop (suc i) []) (drop j v)))) (le_none i) ∙ omega arith) in
    one (one_if (nat_le 0 0)) (one_if (nat_le (suc n) (length v))) (f (take (suc n) v)) (g (drop (suc n) v)) (le_zero 0) ∙ sym only
  where
    one : (a b x y : ℕ) → a ≡ 1 → b * (x * y) + 0 ≡ a * b * ((x + 0) * (y + 0))
    one a b x y e = rw e (omega arith)
cut_shuffles (suc n) f g (x ∷ u) [] =
    let only : over_cuts (suc n) (cut_term f g (x ∷ u) []) ≡ cut_term f g (x ∷ u) [] (suc n) 0 =
    over_cuts-second_none (suc n) (cut_term f g (x ∷ u) []) (λ i j. ap (λ m. one_if (nat_le i (length (x ∷ u))) * m * (sums f (shuffles (take i (x ∷ u)) (take (suc j) [])) * sums g (shuffles (drop i (x ∷ u)) (drop (suc j) [])))) (le_none j) ∙ omega arith) in
    one (one_if (nat_le (suc n) (length (x ∷ u)))) (one_if (nat_le 0 0)) (f (take (suc n) (x ∷ u))) (g (drop (suc n) (x ∷ u))) (sums f (shuffles (take (suc n) (x ∷ u)) [])) (sums g (shuffles (drop (suc n) (x ∷ u)) [])) (le_zero 0)
    (shuffles_none f (take (suc n) (x ∷ u))) (shuffles_none g (drop (suc n) (x ∷ u)))
    ∙ sym only
  where
    one : (a b x y p q : ℕ) → b ≡ 1 → p ≡ x → q ≡ y → a * (x * y) + 0 ≡ a * b * (p * q)
    one a b x y p q e ep eq = rw (e, ep, eq) (omega arith)
cut_shuffles (suc n) f g (x ∷ u) (y ∷ v) =
    sums-append (shuffle_term (suc n) f g) (map (λ w. x ∷ w) (shuffles u (y ∷ v))) (map (λ w. y ∷ w) (shuffles (x ∷ u) v))
    ∙ (λ i. begun n f g x (shuffles u (y ∷ v)) i + begun n f g y (shuffles (x ∷ u) v) i)
    ∙ (λ i. cut_shuffles n (λ w. f (x ∷ w)) g u (y ∷ v) i + cut_shuffles n (λ w. f (y ∷ w)) g (x ∷ u) v i)
    ∙ (λ i. moved_first n f g x u (y ∷ v) i + moved_second n f g (x ∷ u) y v i)
    ∙ sym (over_cuts-add (suc n) (first_kind f g x u (y ∷ v)) (second_kind f g (x ∷ u) y v))
    ∙ over_cuts_same_at (suc n) (λ i j. first_kind f g x u (y ∷ v) i j + second_kind f g (x ∷ u) y v i j) (cut_term f g (x ∷ u) (y ∷ v)) (kinds_joined f g x u y v n)
