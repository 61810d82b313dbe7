-- Packing letters into a number loses nothing and keeps the order.
use Rattle.std.proofs.Common.{◌≡◌, ℕ, zero, suc, ◌+◌, ◌*◌, ◌/◌, ◌%◌, ◌^◌, ◌<◌, ◌≤◌, false, List, [], ◌∷◌, ◌++◌, length, get_or, take, drop, refl, sym, ◌∙◌, ap, arith, length-take, length-drop}
use Rattle.std.specs.Prelude.{nat_eq, if◌then◌else◌}
use Rattle.std.specs.Ordering.{nat_cmp, ordering_then}
use Rattle.std.specs.declared.cmp.Ordering.{Ordering}
use Rattle.std.specs.declared.cmp.Ordering.TheVariants.{Less, Equal, Greater}
use Rattle.std.specs.Cmp.Lexicographic.{slice_cmp}
use Rattle.std.proofs.Math.Nat.{pow-suc, mul-le-mul_left, add-mul-div_right}
use Rattle.std.proofs.lemmas.Bool.Decides.{nat_tests}
use Rattle.std.proofs.lemmas.Cmp.{ranked, by_ranked}
use Rattle.std.proofs.lemmas.Nat.{pow-add}
use Rattle.std.proofs.lemmas.List.{take-append-drop}
use Rattle.linear_combos.specs.Packing.{packed, unpacked}
use Rattle.linear_combos.proofs.Letters.{AreLetters, letters-drop}
use Rattle.linear_combos.proofs.Powers.{places_positive, places-suc, digit_div, digit_mod, digit_below}

-- no letters
pub packed-nil : (k : ℕ) → packed k [] ≡ 0
unfolding packed
packed-nil zero = refl
packed-nil (suc k) = refl

-- a letter and those behind it
pub packed-cons : (k x : ℕ) (xs : List ℕ) → packed (suc k) (x ∷ xs) ≡ x * 16 ^ k + packed k xs
unfolding packed
packed-cons k x xs = refl

-- the number has k digits
pub packed_below : (k : ℕ) (xs : List ℕ) → AreLetters xs → packed k xs < 16 ^ k
unfolding packed
packed_below zero xs a = omega arith
packed_below (suc k) [] a = omega (arith, places_positive (suc k))
packed_below (suc k) (x ∷ xs) a = omega (arith, places-suc k, digit_below x (16 ^ k) (packed k xs) 16 (omega (arith, a.1.0)) (packed_below k xs a.1.1))

-- a digit that is not 0 begins the digits
unpacked_step : (k n x p : ℕ) → n / 16 ^ k ≡ x → n % 16 ^ k ≡ p → 1 ≤ x → unpacked (suc k) n ≡ x ∷ unpacked k p
unfolding unpacked
unpacked_step k n x p d m h =
    let f : nat_eq (n / 16 ^ k) 0 ≡ false = grind (arith, nat_tests) in
    ap (λ b. if b then [] else (n / 16 ^ k ∷ unpacked k (n % 16 ^ k))) f
    ∙ ap (λ y. y ∷ unpacked k (n % 16 ^ k)) d ∙ ap (λ q. x ∷ unpacked k q) m

-- no digit
unpacked_none : (k : ℕ) → unpacked k 0 ≡ []
unfolding unpacked
unpacked_none zero = refl
unpacked_none (suc k) =
    let zeros : 0 ≡ 0 * 16 ^ k + 0 = omega arith in
    let d : 0 / 16 ^ k ≡ 0 = ap (λ n. n / 16 ^ k) zeros ∙ digit_div 0 (16 ^ k) 0 (omega (arith, places_positive k)) in
    ap (λ q. if nat_eq q 0 then [] else (q ∷ unpacked k (0 % 16 ^ k))) d

-- unpacking gives the letters back
pub unpacked-packed : (k : ℕ) (xs : List ℕ) → length xs ≤ k → AreLetters xs → unpacked k (packed k xs) ≡ xs
unpacked-packed zero [] le a = ap (unpacked 0) (packed-nil 0) ∙ unpacked_none 0
unpacked-packed zero (x ∷ xs) le a = absurd (omega arith)
unpacked-packed (suc k) [] le a = ap (unpacked (suc k)) (packed-nil (suc k)) ∙ unpacked_none (suc k)
unpacked-packed (suc k) (x ∷ xs) le a =
    let below = packed_below k xs a.1.1 in
    ap (unpacked (suc k)) (packed-cons k x xs)
    ∙ unpacked_step k (x * 16 ^ k + packed k xs) x (packed k xs) (digit_div x (16 ^ k) (packed k xs) below) (digit_mod x (16 ^ k) (packed k xs) below) a.0
    ∙ ap (λ ys. x ∷ ys) (unpacked-packed k xs (omega arith) a.1.1)

cmp_less : (a b : ℕ) → a < b → nat_cmp a b ≡ Less
cmp_less a b h = grind (arith, nat_tests)

cmp_greater : (a b : ℕ) → b < a → nat_cmp a b ≡ Greater
cmp_greater a b h = grind (arith, nat_tests)

cmp_equal : (a b : ℕ) → a ≡ b → nat_cmp a b ≡ Equal
cmp_equal a b h = grind (arith, nat_tests)

-- the same before both changes no comparison
cmp_behind : (c a b : ℕ) → nat_cmp (c + a) (c + b) ≡ nat_cmp a b
cmp_behind c a b = by_ranked (a < b) (a ≡ b) (b < a) (nat_cmp a b) (ranked a b (nat_cmp a b) refl)
    (λ e h. cmp_less (c + a) (c + b) (omega arith) ∙ sym e)
    (λ e h. cmp_equal (c + a) (c + b) (omega arith) ∙ sym e)
    (λ e h. cmp_greater (c + a) (c + b) (omega arith) ∙ sym e)

-- one comparison of leading digits
cmp_step : (b x p y q : ℕ) (o : Ordering) → p < b → q < b → nat_cmp p q ≡ o → nat_cmp (x * b + p) (y * b + q) ≡ ordering_then (nat_cmp x y) o
cmp_step b x p y q o hp hq e = by_ranked (x < y) (x ≡ y) (y < x) (nat_cmp x y) (ranked x y (nat_cmp x y) refl)
    (λ is h. cmp_less (x * b + p) (y * b + q) (omega (arith, digit_below x b p y h hp)) ∙ ap (λ r. ordering_then r o) (sym is))
    (λ is h. ap (λ z. nat_cmp (z * b + p) (y * b + q)) h ∙ cmp_behind (y * b) p q ∙ e ∙ ap (λ r. ordering_then r o) (sym is))
    (λ is h. cmp_greater (x * b + p) (y * b + q) (omega (arith, digit_below y b q x h hq)) ∙ ap (λ r. ordering_then r o) (sym is))

-- the order of the numbers is the lexicographic order of the letters, a proper prefix first
pub packed-cmp : (k : ℕ) (xs ys : List ℕ) → length xs ≤ k → length ys ≤ k → AreLetters xs → AreLetters ys
    → nat_cmp (packed k xs) (packed k ys) ≡ slice_cmp nat_cmp xs ys
packed-cmp k [] [] lx ly ax ay = cmp_equal (packed k []) (packed k []) refl
packed-cmp zero (x ∷ xs) ys lx ly ax ay = absurd (omega arith)
packed-cmp zero [] (y ∷ ys) lx ly ax ay = absurd (omega arith)
packed-cmp (suc k) [] (y ∷ ys) lx ly ax ay =
    cmp_less (packed (suc k) []) (packed (suc k) (y ∷ ys))
    (omega (arith, packed-nil (suc k), packed-cons k y ys, places_positive k, mul-le-mul_left (16 ^ k) ay.0))
packed-cmp (suc k) (x ∷ xs) [] lx ly ax ay =
    cmp_greater (packed (suc k) (x ∷ xs)) (packed (suc k) [])
    (omega (arith, packed-nil (suc k), packed-cons k x xs, places_positive k, mul-le-mul_left (16 ^ k) ax.0))
packed-cmp (suc k) (x ∷ xs) (y ∷ ys) lx ly ax ay =
    ap (λ n. nat_cmp n (packed (suc k) (y ∷ ys))) (packed-cons k x xs)
    ∙ ap (nat_cmp (x * 16 ^ k + packed k xs)) (packed-cons k y ys)
    ∙ cmp_step (16 ^ k) x (packed k xs) y (packed k ys) (slice_cmp nat_cmp xs ys) (packed_below k xs ax.1.1) (packed_below k ys ay.1.1)
    (packed-cmp k xs ys (omega arith) (omega arith) ax.1.1 ay.1.1)

-- letters behind others
pub packed-append : (k j : ℕ) (xs ys : List ℕ) → length xs + j ≡ k → packed k (xs ++ ys) ≡ packed k xs + packed j ys
packed-append k j [] ys e =
    let same : k ≡ j = omega arith in
    ap (λ n. packed n ys) same ∙ omega (arith, packed-nil k)
packed-append zero j (x ∷ xs) ys e = absurd (omega arith)
packed-append (suc k) j (x ∷ xs) ys e =
    omega (arith, packed-cons k x (xs ++ ys), packed-cons k x xs, packed-append k j xs ys (omega arith))

-- places more are factors 16
pub packed-longer : (k j m : ℕ) (ys : List ℕ) → k ≡ j + m → length ys ≤ j → packed k ys ≡ packed j ys * 16 ^ m
packed-longer k j m [] e le = packed-nil k ∙ sym (ap (λ n. n * 16 ^ m) (packed-nil j) ∙ omega arith)
packed-longer zero j m (y ∷ ys) e le = absurd (omega arith)
packed-longer (suc k) zero m (y ∷ ys) e le = absurd (omega arith)
packed-longer (suc k) (suc j) m (y ∷ ys) e le =
    let same : k ≡ j + m = omega arith in
    let p : 16 ^ k ≡ 16 ^ j * 16 ^ m = ap (λ n. 16 ^ n) same ∙ pow-add 16 j m in
    let q = packed-longer k j m ys same (omega arith) in
    omega (arith, packed-cons k y ys, ap (λ n. n * 16 ^ m) (packed-cons j y ys), ap (λ n. y * n) p, q)

-- the digit at a place
digit_within : (a b p : ℕ) → 1 ≤ b → (a * 16 * b + p) / b % 16 ≡ p / b % 16
digit_within a b p h =
    let turned : a * 16 * b + p ≡ p + a * 16 * b = omega arith in
    let e : (a * 16 * b + p) / b ≡ p / b + a * 16 = ap (λ n. n / b) turned ∙ add-mul-div_right p (a * 16) h in
    ap (λ n. n % 16) e ∙ omega arith

pub packed-digit : (k i j : ℕ) (xs : List ℕ) → i + j ≡ k → i < length xs → AreLetters xs → packed (suc k) xs / 16 ^ j % 16 ≡ get_or xs i 0
packed-digit k i j [] e lt a = absurd (omega arith)
packed-digit k zero j (x ∷ xs) e lt a =
    let same : j ≡ k = omega arith in
    let small : x % 16 ≡ x = omega (arith, a.1.0) in
    ap (λ n. packed (suc k) (x ∷ xs) / 16 ^ n % 16) same
    ∙ ap (λ n. n / 16 ^ k % 16) (packed-cons k x xs)
    ∙ ap (λ n. n % 16) (digit_div x (16 ^ k) (packed k xs) (packed_below k xs a.1.1))
    ∙ small
packed-digit zero (suc i) j (x ∷ xs) e lt a = absurd (omega arith)
packed-digit (suc k) (suc i) j (x ∷ xs) e lt a =
    let same : suc k ≡ suc i + j = omega arith in
    let p : 16 ^ suc k ≡ 16 ^ suc i * 16 ^ j = ap (λ n. 16 ^ n) same ∙ pow-add 16 (suc i) j in
    let q : x * 16 ^ suc k ≡ x * 16 ^ i * 16 * 16 ^ j = omega (arith, ap (λ n. x * n) p, ap (λ n. x * (n * 16 ^ j)) (pow-suc 16 i)) in
    ap (λ n. n / 16 ^ j % 16) (packed-cons (suc k) x xs ∙ ap (λ n. n + packed (suc k) xs) q)
    ∙ digit_within (x * 16 ^ i) (16 ^ j) (packed (suc k) xs) (places_positive j)
    ∙ packed-digit k i j xs (omega arith) (omega arith) a.1.1

-- the first places left out, and the rest moved up to their places
pub packed-drop : (k n j : ℕ) (xs : List ℕ) → n + j ≡ k → n ≤ length xs → length xs ≤ k → AreLetters xs
    → packed k xs * 16 ^ n % 16 ^ k ≡ packed k (drop n xs)
packed-drop k n j xs e le fits a =
    let front = take n xs in
    let rest = drop n xs in
    let size : length front ≡ n = omega (arith, length-take n xs) in
    let behind : length rest ≤ j = omega (arith, length-drop n xs) in
    let parts : packed k xs ≡ packed k front + packed j rest = ap (packed k) (sym (take-append-drop n xs)) ∙ packed-append k j front rest (omega arith) in
    let high : packed k front ≡ packed n front * 16 ^ j = packed-longer k n j front (sym e) (omega arith) in
    let low : packed k rest ≡ packed j rest * 16 ^ n = packed-longer k j n rest (omega arith) behind in
    let whole : 16 ^ k ≡ 16 ^ n * 16 ^ j = ap (λ m. 16 ^ m) (sym e) ∙ pow-add 16 n j in
    let moved : packed k xs * 16 ^ n ≡ packed n front * 16 ^ k + packed k rest =
    omega (arith, ap (λ m. m * 16 ^ n) parts, ap (λ m. m * 16 ^ n) high, ap (λ m. packed n front * m) whole, low) in
    ap (λ m. m % 16 ^ k) moved ∙ digit_mod (packed n front) (16 ^ k) (packed k rest) (packed_below k rest (letters-drop n xs a))

-- the last letter is in the last place before the zeros
pub packed-last : (k m j : ℕ) (xs : List ℕ) → length xs ≡ suc m → suc m + j ≡ k → AreLetters xs
    → (packed k xs ≡ packed (suc m) xs * 16 ^ j) × (packed (suc m) xs % 16 ≡ get_or xs m 0)
packed-last k m j xs size e a =
    let digit = packed-digit m m 0 xs (omega arith) (omega arith) a in
    (packed-longer k (suc m) j xs (sym e) (omega arith), omega (arith, digit))
