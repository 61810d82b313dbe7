-- Codes as words of 64 bits: what each operation on the list does to the word.
use Rattle.std.proofs.Common.{add-one, mul-div_cancel, ◌≡◌, ◌≢◌, ℕ, zero, suc, ◌+◌, ◌*◌, ◌/◌, ◌%◌, ◌^◌, ◌-◌, ◌<◌, ◌≤◌, List, [], ◌∷◌, ◌++◌, length, get_or, take, drop, refl, sym, ◌∙◌, ap, subst, arith, length-append, length-take, length-drop}
use Rattle.std.specs.Prelude.{nat_eq}
use Rattle.std.specs.Ordering.{nat_cmp, is_eq}
use Rattle.std.specs.Cmp.Lexicographic.{slice_cmp, pointwise, texts_ties}
use Rattle.std.specs.Int.{w64, trailing_zeros}
use Rattle.std.specs.Int.Count.{trailing_of_zero}
use Rattle.std.proofs.lemmas.Bool.Decides.{nat_tests}
use Rattle.std.proofs.lemmas.List.{take-append-drop}
use Rattle.std.proofs.Math.Seq.{take-suc}
use Rattle.linear_combos.proofs.LastDigit.{places_below}
use Rattle.linear_combos.specs.Codes.{IsCode}
use Rattle.linear_combos.specs.Packing.{packed, letters_in, word_of, HoldsCode}
use Rattle.linear_combos.proofs.Letters.{letters_from, letters_to, letters-take, letters-drop, letters_at_left, letters_at_right, letter_at}
use Rattle.linear_combos.proofs.Powers.{places_positive, places_shifted}
use Rattle.linear_combos.proofs.Packed.{packed-nil, packed_below, unpacked-packed, packed-cmp, packed-append, packed-longer, packed-digit, packed-drop, packed-last, packed-cons}

-- the word of a code holds its letters
pub letters_in-word_of : (xs : List ℕ) → IsCode xs → letters_in (word_of xs) ≡ xs
unfolding letters_in word_of
letters_in-word_of xs is = unpacked-packed 16 xs (omega (arith, is.short)) (letters_from xs is.letters)

pub held : (word : ℕ) (xs : List ℕ) → word ≡ word_of xs → IsCode xs → letters_in word ≡ xs
held word xs e is = ap letters_in e ∙ letters_in-word_of xs is

-- and is the word of a code
pub HoldsCode-word_of : (word : ℕ) (xs : List ℕ) → word ≡ word_of xs → IsCode xs → HoldsCode word
HoldsCode-word_of word xs e is =
    let same = held word xs e is in
    record { code = subst IsCode (sym same) is; whole = ap word_of same ∙ sym e }

-- a word is that of its letters
pub word_from : (word : ℕ) (xs : List ℕ) → HoldsCode word → letters_in word ≡ xs → word ≡ word_of xs
word_from word xs h e = sym h.whole ∙ ap word_of e

pub code_from : (word : ℕ) (xs : List ℕ) → HoldsCode word → letters_in word ≡ xs → IsCode xs
code_from word xs h e = subst IsCode e h.code

-- the word has 64 bits
pub word_below : (xs : List ℕ) → IsCode xs → word_of xs < 2 ^ 64
unfolding word_of
word_below xs is = packed_below 16 xs (letters_from xs is.letters)

-- parts of a code
pub IsCode-left : (xs ys : List ℕ) → IsCode (xs ++ ys) → IsCode xs
IsCode-left xs ys is = record {
  short = omega (arith, is.short, length-append xs ys);
  letters = letters_to xs (letters_at_left xs ys (letters_from (xs ++ ys) is.letters));
}

pub IsCode-right : (xs ys : List ℕ) → IsCode (xs ++ ys) → IsCode ys
IsCode-right xs ys is = record {
  short = omega (arith, is.short, length-append xs ys);
  letters = letters_to ys (letters_at_right xs ys (letters_from (xs ++ ys) is.letters));
}

pub IsCode-take : (n : ℕ) (xs : List ℕ) → IsCode xs → IsCode (take n xs)
IsCode-take n xs is = record {
  short = omega (arith, is.short, length-take n xs);
  letters = letters_to (take n xs) (letters-take n xs (letters_from xs is.letters));
}

pub IsCode-drop : (n : ℕ) (xs : List ℕ) → IsCode xs → IsCode (drop n xs)
IsCode-drop n xs is = record {
  short = omega (arith, is.short, length-drop n xs);
  letters = letters_to (drop n xs) (letters-drop n xs (letters_from xs is.letters));
}

pub IsCode-nil : IsCode []
IsCode-nil = record { short = omega arith; letters = refl }

pub word_of-nil : word_of [] ≡ 0
unfolding word_of
word_of-nil = packed-nil 16

-- the order of the words is the lexicographic order of the letters, a proper prefix first
pub word_cmp : (xs ys : List ℕ) → IsCode xs → IsCode ys → nat_cmp (word_of xs) (word_of ys) ≡ slice_cmp nat_cmp xs ys
unfolding word_of
word_cmp xs ys x y = packed-cmp 16 xs ys (omega (arith, x.short)) (omega (arith, y.short)) (letters_from xs x.letters) (letters_from ys y.letters)

-- the letter at a place, as a shift and the last four bits read it
pub word_digit : (xs : List ℕ) (i : ℕ) → i < length xs → IsCode xs → word_of xs / 2 ^ (60 - 4 * i) % 16 ≡ get_or xs i 0
unfolding word_of
word_digit xs i lt is =
    let bound = is.short in
    let shift : 60 - 4 * i ≡ 4 * (15 - i) = omega arith in
    ap (λ n. packed 16 xs / n % 16) (ap (λ n. 2 ^ n) shift ∙ places_shifted (15 - i))
    ∙ packed-digit 15 i (15 - i) xs (omega arith) lt (letters_from xs is.letters)

-- the word of a list in front of another is their sum, the second moved behind the first
pub word_of-append : (xs ys : List ℕ) → IsCode (xs ++ ys) → word_of (xs ++ ys) ≡ word_of xs + word_of ys / 2 ^ (4 * length xs)
unfolding word_of
word_of-append xs ys is =
    let total : length xs + length ys ≤ 15 = omega (arith, is.short, length-append xs ys) in
    let j = 16 - length xs in
    let longer : packed 16 ys ≡ packed j ys * 16 ^ length xs = packed-longer 16 j (length xs) ys (omega arith) (omega arith) in
    let back : packed 16 ys / 2 ^ (4 * length xs) ≡ packed j ys =
    ap (λ n. packed 16 ys / n) (places_shifted (length xs))
    ∙ ap (λ n. n / 16 ^ length xs) longer ∙ mul-div_cancel (packed j ys) (places_positive (length xs)) in
    packed-append 16 j xs ys (omega arith) ∙ ap (λ n. packed 16 xs + n) (sym back)

-- equality of the words is equality of the letters
nat_eq_cmp : (a b : ℕ) → nat_eq a b ≡ is_eq (nat_cmp a b)
nat_eq_cmp a b = grind (arith, nat_tests)

pub word_eq : (xs ys : List ℕ) → IsCode xs → IsCode ys → nat_eq (word_of xs) (word_of ys) ≡ pointwise nat_eq xs ys
word_eq xs ys x y = nat_eq_cmp (word_of xs) (word_of ys) ∙ ap is_eq (word_cmp xs ys x y) ∙ sym (texts_ties xs ys)

-- one letter behind the others
pub word_of-push : (xs : List ℕ) (x : ℕ) → length xs ≤ 14 → word_of (xs ++ x ∷ []) ≡ word_of xs + x * 2 ^ (60 - 4 * length xs)
unfolding word_of
word_of-push xs x le =
    let j = 15 - length xs in
    let shift : 60 - 4 * length xs ≡ 4 * j = omega arith in
    let power : 2 ^ (60 - 4 * length xs) ≡ 16 ^ j = ap (λ n. 2 ^ n) shift ∙ places_shifted j in
    omega (arith, packed-append 16 (suc j) xs (x ∷ []) (omega arith), packed-cons j x [], packed-nil j, ap (λ n. x * n) power)

-- the first letters left out
pub word_of-drop : (n : ℕ) (xs : List ℕ) → n ≤ length xs → IsCode xs → word_of xs * 2 ^ (4 * n) % 2 ^ 64 ≡ word_of (drop n xs)
unfolding word_of
word_of-drop n xs le is =
    let fits = is.short in
    ap (λ m. packed 16 xs * m % 2 ^ 64) (places_shifted n) ∙ packed-drop 16 n (16 - n) xs (omega arith) le (omega arith) (letters_from xs is.letters)

-- the first letters alone: the word without the others, which stand behind them
pub word_of-take : (n : ℕ) (xs : List ℕ) → n ≤ length xs → IsCode xs → word_of (take n xs) + word_of (drop n xs) / 2 ^ (4 * n) ≡ word_of xs
word_of-take n xs le is =
    let both = take-append-drop n xs in
    let size : length (take n xs) ≡ n = omega (arith, length-take n xs) in
    let parts = word_of-append (take n xs) (drop n xs) (subst IsCode (sym both) is) in
    ap (λ m. word_of (take n xs) + word_of (drop n xs) / 2 ^ (4 * m)) (sym size) ∙ sym parts ∙ ap word_of both

-- the zeros behind the last letter tell how many letters there are
word_len_by : (n : ℕ) (xs : List ℕ) → length xs ≡ n → IsCode xs → 16 - trailing_zeros w64 (word_of xs) / 4 ≡ n
unfolding word_of
word_len_by zero [] size is =
    let zeros : trailing_zeros w64 (packed 16 []) ≡ 64 = ap (trailing_zeros w64) (packed-nil 16) ∙ trailing_of_zero 64 in
    omega (arith, zeros)
word_len_by zero (x ∷ xs) size is = absurd (omega arith)
word_len_by (suc m) xs size is =
    let a = letters_from xs is.letters in
    let bound = is.short in
    let last = packed-last 16 m (15 - m) xs size (omega arith) a in
    let letter = letter_at xs m (omega arith) a in
    let shifted : packed 16 xs ≡ packed (suc m) xs * 2 ^ (4 * (15 - m)) = last.0 ∙ ap (λ n. packed (suc m) xs * n) (sym (places_shifted (15 - m))) in
    let digit : packed (suc m) xs % 16 ≢ 0 = (λ e. absurd (omega (arith, last.1, letter.0))) in
    omega (arith, places_below (15 - m) (packed (suc m) xs) (packed 16 xs) shifted digit (packed_below 16 xs a))

pub word_len : (xs : List ℕ) → IsCode xs → 16 - trailing_zeros w64 (word_of xs) / 4 ≡ length xs
word_len xs is = word_len_by (length xs) xs refl is

-- ---- the same for words that hold the letters

-- the length
pub len_of : (a : ℕ) (xs : List ℕ) → HoldsCode a → letters_in a ≡ xs → 16 - trailing_zeros w64 a / 4 ≡ length xs
len_of a xs h e = ap (λ w. 16 - trailing_zeros w64 w / 4) (word_from a xs h e) ∙ word_len xs (code_from a xs h e)

-- the letter at a place
pub digit_of : (a i : ℕ) (xs : List ℕ) → HoldsCode a → letters_in a ≡ xs → i < length xs → a / 2 ^ (60 - 4 * i) % 16 ≡ get_or xs i 0
digit_of a i xs h e lt = ap (λ w. w / 2 ^ (60 - 4 * i) % 16) (word_from a xs h e) ∙ word_digit xs i lt (code_from a xs h e)

-- one letter more
pub pushed : (a n x y : ℕ) (xs : List ℕ) → a ≡ word_of xs → n ≡ length xs → y ≡ x → IsCode (xs ++ x ∷ [])
    → a + y * 2 ^ (60 - 4 * n) % 2 ^ 64 ≡ word_of (xs ++ x ∷ [])
pushed a n x y xs is size same code =
    let fits : length xs ≤ 14 = omega (arith, code.short, length-append xs (x ∷ [])) in
    let more = word_of-push xs x fits in
    let term : y * 2 ^ (60 - 4 * n) ≡ x * 2 ^ (60 - 4 * length xs) = ap (λ m. m * 2 ^ (60 - 4 * n)) same ∙ ap (λ m. x * 2 ^ (60 - 4 * m)) size in
    omega (arith, more, term, word_below (xs ++ x ∷ []) code)

-- a code behind another
pub joined : (a b n : ℕ) (xs ys : List ℕ) → HoldsCode a → letters_in a ≡ xs → HoldsCode b → letters_in b ≡ ys → n ≡ length xs → IsCode (xs ++ ys)
    → a + b / 2 ^ (4 * n) ≡ word_of (xs ++ ys)
joined a b n xs ys ha ea hb eb size code =
    ap (λ m. a + b / 2 ^ (4 * m)) size ∙ ap (λ m. m + b / 2 ^ (4 * length xs)) (word_from a xs ha ea)
    ∙ ap (λ m. word_of xs + m / 2 ^ (4 * length xs)) (word_from b ys hb eb) ∙ sym (word_of-append xs ys code)

-- the letters behind the first ones
pub dropped : (a n : ℕ) (xs : List ℕ) → HoldsCode a → letters_in a ≡ xs → n ≤ length xs → a * 2 ^ (4 * n) % 2 ^ 64 ≡ word_of (drop n xs)
dropped a n xs h e le = ap (λ w. w * 2 ^ (4 * n) % 2 ^ 64) (word_from a xs h e) ∙ word_of-drop n xs le (code_from a xs h e)

-- the first letters
pub taken : (a b n : ℕ) (xs : List ℕ) → HoldsCode a → letters_in a ≡ xs → HoldsCode b → letters_in b ≡ drop n xs → n ≤ length xs
    → word_of (take n xs) + b / 2 ^ (4 * n) ≡ a
taken a b n xs ha ea hb eb le =
    ap (λ w. word_of (take n xs) + w / 2 ^ (4 * n)) (word_from b (drop n xs) hb eb) ∙ word_of-take n xs le (code_from a xs ha ea) ∙ sym (word_from a xs ha ea)

pub taken_is : (a b n : ℕ) (xs : List ℕ) → HoldsCode a → letters_in a ≡ xs → HoldsCode b → letters_in b ≡ drop n xs → n ≤ length xs
    → a - b / 2 ^ (4 * n) ≡ word_of (take n xs)
taken_is a b n xs ha ea hb eb le = omega (arith, taken a b n xs ha ea hb eb le)

-- the first letters of a code and the next one, as a loop over the letters packs them
pub packed_more : (xs : List ℕ) (i word y : ℕ) → IsCode xs → i < length xs → y ≡ get_or xs i 0 → word ≡ word_of (take i xs)
    → word + y * 2 ^ (60 - 4 * i) % 2 ^ 64 ≡ word_of (take (i + 1) xs)
packed_more xs i word y code lt same is =
    let more : take (i + 1) xs ≡ take i xs ++ get_or xs i 0 ∷ [] = ap (λ n. take n xs) (add-one i) ∙ take-suc xs i 0 lt in
    pushed word i (get_or xs i 0) y (take i xs) is (omega (arith, length-take i xs)) same (subst IsCode more (IsCode-take (i + 1) xs code))
    ∙ ap word_of (sym more)

pub packed_fits : (xs : List ℕ) (i word y : ℕ) → IsCode xs → i < length xs → y ≡ get_or xs i 0 → word ≡ word_of (take i xs)
    → word + y * 2 ^ (60 - 4 * i) % 2 ^ 64 < 2 ^ 64
packed_fits xs i word y code lt same is = omega (arith, packed_more xs i word y code lt same is, word_below (take (i + 1) xs) (IsCode-take (i + 1) xs code))

-- the order of two words that hold letters
pub cmp_of : (a b : ℕ) (xs ys : List ℕ) → HoldsCode a → letters_in a ≡ xs → HoldsCode b → letters_in b ≡ ys → nat_cmp a b ≡ slice_cmp nat_cmp xs ys
cmp_of a b xs ys ha ea hb eb =
    ap (λ w. nat_cmp w b) (word_from a xs ha ea) ∙ ap (nat_cmp (word_of xs)) (word_from b ys hb eb) ∙ word_cmp xs ys (code_from a xs ha ea) (code_from b ys hb eb)
