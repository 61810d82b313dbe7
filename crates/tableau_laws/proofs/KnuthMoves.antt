-- A Knuth move of a word of distinct letters keeps its insertion tableau (Knuth 1970).
use Rattle.std.proofs.Common.{◌≡◌, ℕ, zero, suc, ◌+◌, ◌≤◌, List, [], ◌∷◌, ◌++◌, length, refl, sym, ◌∙◌, ap, arith, append_assoc}
use Rattle.std.specs.Prelude.{Option, Some, None}
use Rattle.std.proofs.lemmas.List.{length-append}
use Rattle.realisations.specs.Standardisation.{count_same}
use Rattle.realisations.specs.Tableaux.{enter_row, insertion_tableau}
use Rattle.basis_representatives.proofs.Counts.{count_same-append, one_if-self}
use Rattle.basis_representatives.proofs.Entries.{Apart, apart-count, count_option, count_same-enter_row, rising-enter_row}
use Rattle.basis_representatives.proofs.RowByRow.{RisingRow, before, enter_all-rows, word_leaves, word_row}
use Rattle.tableau_laws.specs.Knuth.{Move, still, xzy, zxy, yxz, yzx}
use Rattle.tableau_laws.proofs.KnuthRows.{Alike, knuth_1, knuth_2}

-- no letter twice
abbrev pub Distinct : List ℕ → Type 0
Distinct w = (k : ℕ) → count_same k w ≤ 1

-- counts with a letter before the word
before-count : (k : ℕ) (o : Option ℕ) (w : List ℕ) → count_same k (before o w) ≡ count_option k o + count_same k w
before-count k None w = omega arith
before-count k (Some x) w = refl

-- a word that enters a row keeps the letters
word-count : (k : ℕ) (w r : List ℕ) → count_same k (word_row w r) + count_same k (word_leaves w r) ≡ count_same k w + count_same k r
word-count k [] r = omega arith
word-count k (x ∷ w) r =
    omega (arith, count_same-enter_row k x r, word-count k w (enter_row x r).row, before-count k (enter_row x r).leaves (word_leaves w (enter_row x r).row))

-- the letters of a word and of a row are all different
abbrev Together : List ℕ → List ℕ → Type 0
Together w r = (k : ℕ) → count_same k w + count_same k r ≤ 1

-- distinct letters of word and row are apart
together-apart : (x : ℕ) (w r : List ℕ) → Together (x ∷ w) r → Apart x r
together-apart x w r t = apart-count x r (omega (arith, t x, one_if-self x))

-- and stay distinct behind an entry
together-next : (x : ℕ) (w r : List ℕ) → Together (x ∷ w) r → Together w (enter_row x r).row
together-next x w r t = λ k. omega (arith, t k, count_same-enter_row k x r)

-- a word that enters keeps a rising row
word-rising : (w r : List ℕ) → Together w r → RisingRow r → RisingRow (word_row w r)
word-rising [] r t up = up
word-rising (x ∷ w) r t up = word-rising w (enter_row x r).row (together-next x w r t) (rising-enter_row x r up (together-apart x w r t))

-- the row behind a concatenation
word_row-append : (u v r : List ℕ) → word_row (u ++ v) r ≡ word_row v (word_row u r)
word_row-append [] v r = refl
word_row-append (x ∷ u) v r = word_row-append u v (enter_row x r).row

-- a letter before a concatenation
before-append : (o : Option ℕ) (u v : List ℕ) → before o (u ++ v) ≡ before o u ++ v
before-append None u v = refl
before-append (Some x) u v = refl

-- what leaves for a concatenation
word_leaves-append : (u v r : List ℕ) → word_leaves (u ++ v) r ≡ word_leaves u r ++ word_leaves v (word_row u r)
word_leaves-append [] v r = refl
word_leaves-append (x ∷ u) v r =
    ap (before (enter_row x r).leaves) (word_leaves-append u v (enter_row x r).row)
    ∙ before-append (enter_row x r).leaves (word_leaves u (enter_row x r).row) (word_leaves v (word_row u (enter_row x r).row))

-- a move inside a longer word
pub move-before : (p : List ℕ) (v w : List ℕ) → Move v w → Move (p ++ v) (p ++ w)
move-before p v w (still u) = still (p ++ u)
move-before p v w (xzy q s x y z h k) = rw (← append_assoc p q (x ∷ z ∷ y ∷ s), ← append_assoc p q (z ∷ x ∷ y ∷ s)) (xzy (p ++ q) s x y z h k)
move-before p v w (zxy q s x y z h k) = rw (← append_assoc p q (x ∷ z ∷ y ∷ s), ← append_assoc p q (z ∷ x ∷ y ∷ s)) (zxy (p ++ q) s x y z h k)
move-before p v w (yxz q s x y z h k) = rw (← append_assoc p q (y ∷ x ∷ z ∷ s), ← append_assoc p q (y ∷ z ∷ x ∷ s)) (yxz (p ++ q) s x y z h k)
move-before p v w (yzx q s x y z h k) = rw (← append_assoc p q (y ∷ x ∷ z ∷ s), ← append_assoc p q (y ∷ z ∷ x ∷ s)) (yzx (p ++ q) s x y z h k)

-- a move in front of a word
pub move-after : (t : List ℕ) (v w : List ℕ) → Move v w → Move (v ++ t) (w ++ t)
move-after t v w (still u) = still (u ++ t)
move-after t v w (xzy q s x y z h k) = rw (append_assoc q (x ∷ z ∷ y ∷ s) t, append_assoc q (z ∷ x ∷ y ∷ s) t) (xzy q (s ++ t) x y z h k)
move-after t v w (zxy q s x y z h k) = rw (append_assoc q (x ∷ z ∷ y ∷ s) t, append_assoc q (z ∷ x ∷ y ∷ s) t) (zxy q (s ++ t) x y z h k)
move-after t v w (yxz q s x y z h k) = rw (append_assoc q (y ∷ x ∷ z ∷ s) t, append_assoc q (y ∷ z ∷ x ∷ s) t) (yxz q (s ++ t) x y z h k)
move-after t v w (yzx q s x y z h k) = rw (append_assoc q (y ∷ x ∷ z ∷ s) t, append_assoc q (y ∷ z ∷ x ∷ s) t) (yzx q (s ++ t) x y z h k)

-- a move goes both ways
pub move-sym : (v w : List ℕ) → Move v w → Move w v
move-sym v w (still u) = still u
move-sym v w (xzy q s x y z h k) = zxy q s x y z h k
move-sym v w (zxy q s x y z h k) = xzy q s x y z h k
move-sym v w (yxz q s x y z h k) = yzx q s x y z h k
move-sym v w (yzx q s x y z h k) = yxz q s x y z h k

-- words that are alike for the row after p are alike between p and s
alike-inside : (p s v w r : List ℕ) → Alike v w (word_row p r) → Alike (p ++ (v ++ s)) (p ++ (w ++ s)) r
alike-inside p s v w r h = (
  word_row-append p (v ++ s) r ∙ word_row-append v s (word_row p r) ∙ ap (word_row s) h.0 ∙ sym (word_row-append w s (word_row p r)) ∙ sym (word_row-append p (w ++ s) r),
  rw (word_leaves-append p (v ++ s) r, word_leaves-append p (w ++ s) r)
      (move-before (word_leaves p r) (word_leaves (v ++ s) (word_row p r)) (word_leaves (w ++ s) (word_row p r))
      (rw (word_leaves-append v s (word_row p r), word_leaves-append w s (word_row p r))
      (let same_rest : word_leaves s (word_row w (word_row p r)) ≡ word_leaves s (word_row v (word_row p r)) = ap (word_leaves s) (sym h.0) in
      rw same_rest (move-after (word_leaves s (word_row v (word_row p r))) (word_leaves v (word_row p r)) (word_leaves w (word_row p r)) h.1)))),
)

-- and so does likeness
alike-sym : (v w r : List ℕ) → Alike v w r → Alike w v r
alike-sym v w r h = (sym h.0, move-sym (word_leaves v r) (word_leaves w r) h.1)

-- a letter of the word is not in the row that the word before it leaves
inner-apart : (c : ℕ) (p q r : List ℕ) → 1 ≤ count_same c q → Together (p ++ q) r → Apart c (word_row p r)
inner-apart c p q r h t = apart-count c (word_row p r) (omega (arith, t c, count_same-append c p q, word-count c p r))

-- a row stays rising behind a front
inner-rising : (p q r : List ℕ) → Together (p ++ q) r → RisingRow r → RisingRow (word_row p r)
inner-rising p q r t up = word-rising p r (λ k. omega (arith, t k, count_same-append k p q)) up

-- a move of a word that enters a row
alike_move : (v w r : List ℕ) → Move v w → Together v r → RisingRow r → Alike v w r
alike_move v w r (still u) t up = (refl, still (word_leaves u r))
alike_move v w r (xzy p s x y z h k) t up =
    alike-inside p s (x ∷ z ∷ y ∷ []) (z ∷ x ∷ y ∷ []) r
    (knuth_1 x y z (word_row p r) h k (inner-rising p (x ∷ z ∷ y ∷ s) r t up)
    (inner-apart x p (x ∷ z ∷ y ∷ s) r (omega (arith, one_if-self x)) t) (inner-apart z p (x ∷ z ∷ y ∷ s) r (omega (arith, one_if-self z)) t))
alike_move v w r (zxy p s x y z h k) t up =
    alike-inside p s (z ∷ x ∷ y ∷ []) (x ∷ z ∷ y ∷ []) r
    (alike-sym (x ∷ z ∷ y ∷ []) (z ∷ x ∷ y ∷ []) (word_row p r) (knuth_1 x y z (word_row p r) h k (inner-rising p (z ∷ x ∷ y ∷ s) r t up)
    (inner-apart x p (z ∷ x ∷ y ∷ s) r (omega (arith, one_if-self x)) t) (inner-apart z p (z ∷ x ∷ y ∷ s) r (omega (arith, one_if-self z)) t)))
alike_move v w r (yxz p s x y z h k) t up =
    alike-inside p s (y ∷ x ∷ z ∷ []) (y ∷ z ∷ x ∷ []) r
    (knuth_2 x y z (word_row p r) h k (inner-rising p (y ∷ x ∷ z ∷ s) r t up)
    (inner-apart x p (y ∷ x ∷ z ∷ s) r (omega (arith, one_if-self x)) t) (inner-apart y p (y ∷ x ∷ z ∷ s) r (omega (arith, one_if-self y)) t))
alike_move v w r (yzx p s x y z h k) t up =
    alike-inside p s (y ∷ z ∷ x ∷ []) (y ∷ x ∷ z ∷ []) r
    (alike-sym (y ∷ x ∷ z ∷ []) (y ∷ z ∷ x ∷ []) (word_row p r) (knuth_2 x y z (word_row p r) h k (inner-rising p (y ∷ z ∷ x ∷ s) r t up)
    (inner-apart x p (y ∷ z ∷ x ∷ s) r (omega (arith, one_if-self x)) t) (inner-apart y p (y ∷ z ∷ x ∷ s) r (omega (arith, one_if-self y)) t)))

-- a move keeps the length
move-length : (v w : List ℕ) → Move v w → length v ≡ length w
move-length v w (still u) = refl
move-length v w (xzy p s x y z h k) = omega (arith, length-append p (x ∷ z ∷ y ∷ s), length-append p (z ∷ x ∷ y ∷ s))
move-length v w (zxy p s x y z h k) = omega (arith, length-append p (x ∷ z ∷ y ∷ s), length-append p (z ∷ x ∷ y ∷ s))
move-length v w (yxz p s x y z h k) = omega (arith, length-append p (y ∷ x ∷ z ∷ s), length-append p (y ∷ z ∷ x ∷ s))
move-length v w (yzx p s x y z h k) = omega (arith, length-append p (y ∷ x ∷ z ∷ s), length-append p (y ∷ z ∷ x ∷ s))

-- no more letters leave than enter
leaves-length : (w r : List ℕ) → length (word_leaves w r) ≤ length w
leaves-length [] r = omega arith
leaves-length (x ∷ w) r = omega (arith, leaves-length w (enter_row x r).row, one_more (enter_row x r).leaves (word_leaves w (enter_row x r).row))
  where
    one_more : (o : Option ℕ) (v : List ℕ) → length (before o v) ≤ suc (length v)
    one_more None v = omega arith
    one_more (Some y) v = omega arith

-- the same for words of at most n letters
keeps_within : (n : ℕ) (v w : List ℕ) → length v ≤ n → Distinct v → Move v w → insertion_tableau v ≡ insertion_tableau w
keeps_within n [] [] h d m = refl
keeps_within n [] (y ∷ w) h d m = absurd (omega (arith, move-length [] (y ∷ w) m))
keeps_within n (x ∷ v) [] h d m = absurd (omega (arith, move-length (x ∷ v) [] m))
keeps_within zero (x ∷ v) (y ∷ w) h d m = absurd (omega arith)
keeps_within (suc n) (x ∷ v) (y ∷ w) h d m =
    let a : Alike (x ∷ v) (y ∷ w) [] = alike_move (x ∷ v) (y ∷ w) [] m (λ k. omega (arith, d k)) tt in
    let less : length (word_leaves v (x ∷ [])) ≤ n = omega (arith, leaves-length v (x ∷ [])) in
    let apart : Distinct (word_leaves v (x ∷ [])) = λ k. omega (arith, d k, word-count k v (x ∷ [])) in
    let ih : insertion_tableau (word_leaves v (x ∷ [])) ≡ insertion_tableau (word_leaves w (y ∷ [])) = keeps_within n (word_leaves v (x ∷ [])) (word_leaves w (y ∷ [])) less apart a.1 in
    enter_all-rows v (x ∷ []) [] ∙ both (word_row v (x ∷ [])) (word_row w (y ∷ [])) _ _ a.0 ih ∙ sym (enter_all-rows w (y ∷ []) [])
  where
    both : (r s : List ℕ) (t u : List (List ℕ)) → r ≡ s → t ≡ u → r ∷ t ≡ s ∷ u
    both r s t u p q = cc

-- a Knuth move keeps the insertion tableau
pub knuth_keeps : (v w : List ℕ) → Distinct v → Move v w → insertion_tableau v ≡ insertion_tableau w
knuth_keeps v w d m = keeps_within (length v) v w (omega arith) d m
