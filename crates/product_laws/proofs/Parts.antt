-- Parts of compositions: their sums, and what stands before and after a sum.
use Rattle.std.proofs.Common.{◌≡◌, ℕ, suc, ◌+◌, ◌-◌, ◌<◌, true, false, List, [], ◌∷◌, ◌++◌, length, refl, sym, ap, arith}
use Rattle.std.specs.Prelude.{nat_eq, nat_lt, if◌then◌else◌}
use Rattle.std.specs.List.{sum}
use Rattle.std.proofs.lemmas.List.Sums.{sum_by-cons}
use Rattle.std.proofs.lemmas.Bool.Decides.{nat_tests}
use Rattle.realisations.specs.IndexKinds.{IsComposition}
use Rattle.product_laws.specs.Ribbons.{near_concatenation}

-- there is a part
abbrev pub HasPart : List ℕ → Type 0
HasPart [] = ⊥
HasPart (i ∷ parts) = Unit {0}

-- the sum by the first part
pub sum-cons : (i : ℕ) (parts : List ℕ) → sum (i ∷ parts) ≡ i + sum parts
sum-cons i parts = sum_by-cons (λ (k : ℕ). k) i parts

-- a nonempty composition has a positive sum
pub positive_sum : (parts : List ℕ) → IsComposition parts → HasPart parts → 0 < sum parts
positive_sum [] h some = absurd some
positive_sum (i ∷ parts) h some = omega (arith, h.0, sum-cons i parts)

-- the first parts of a composition, up to a positive sum n
abbrev pub front_parts : ℕ → List ℕ → List ℕ
front_parts n [] = []
front_parts n (i ∷ parts) = if nat_lt i n then i ∷ front_parts (n - i) parts else n ∷ []

-- the parts after a sum n
abbrev pub back_parts : ℕ → List ℕ → List ℕ
back_parts n [] = []
back_parts n (i ∷ parts) = if nat_lt i n then back_parts (n - i) parts else (if nat_eq i n then parts else (i - n) ∷ parts)

-- the first part ends before the sum of two or more parts
before_sum : (i h : ℕ) (parts : List ℕ) (n : ℕ) → 0 < h → n ≡ sum (i ∷ h ∷ parts) → (nat_lt i n ≡ true) × (n - i ≡ sum (h ∷ parts))
before_sum i h parts n positive e =
    let more : i < n = omega (arith, e, sum-cons i (h ∷ parts), sum-cons h parts) in
    (grind (arith, nat_tests, more), omega (arith, e, sum-cons i (h ∷ parts)))

at_sum : (i n : ℕ) → n ≡ sum (i ∷ []) → (nat_lt i n ≡ false) × (nat_eq i n ≡ true) × (i ≡ n)
at_sum i n e =
    let same : i ≡ n = omega (arith, e, sum-cons i []) in
    (grind (arith, nat_tests, same), grind (arith, nat_tests, same), same)

past_sum : (i j n : ℕ) → 0 < j → n ≡ sum (i ∷ []) → (nat_lt (i + j) n ≡ false) × (nat_eq (i + j) n ≡ false) × (i ≡ n) × ((i + j) - n ≡ j)
past_sum i j n positive e =
    let same : i ≡ n = omega (arith, e, sum-cons i []) in
    (grind (arith, nat_tests, same), grind (arith, nat_tests, same), same, omega (arith, same))

-- in a concatenation and in a near concatenation the first composition is the front, and the second one is the back

-- the front of I . J is I
pub front-append : (parts k : List ℕ) (n : ℕ) → IsComposition parts → HasPart parts → n ≡ sum parts → front_parts n (parts ++ k) ≡ parts
front-append [] k n h some e = absurd some
front-append (i ∷ []) k n h some e = let t = at_sum i n e in rw (t.0, t.2) refl
front-append (i ∷ j ∷ parts) k n h some e =
    let t = before_sum i j parts n h.1.0 e in
    rw t.0 (ap (λ c. i ∷ c) (front-append (j ∷ parts) k (n - i) h.1 tt t.1))

-- the back of I . J is J
pub back-append : (parts k : List ℕ) (n : ℕ) → IsComposition parts → HasPart parts → n ≡ sum parts → back_parts n (parts ++ k) ≡ k
back-append [] k n h some e = absurd some
back-append (i ∷ []) k n h some e = let t = at_sum i n e in rw (t.0, t.1) refl
back-append (i ∷ j ∷ parts) k n h some e =
    let t = before_sum i j parts n h.1.0 e in
    rw t.0 (back-append (j ∷ parts) k (n - i) h.1 tt t.1)

-- the front of I > J is I
pub front-near_concatenation : (parts k : List ℕ) (n : ℕ) → IsComposition parts → HasPart parts → IsComposition k → HasPart k → n ≡ sum parts
    → front_parts n (near_concatenation parts k) ≡ parts
front-near_concatenation [] k n h some h' some' e = absurd some
front-near_concatenation (i ∷ []) [] n h some h' some' e = absurd some'
front-near_concatenation (i ∷ []) (j ∷ k) n h some h' some' e = let t = past_sum i j n h'.0 e in rw t.0 (ap (λ m. m ∷ []) (sym t.2))
front-near_concatenation (i ∷ j ∷ parts) k n h some h' some' e =
    let t = before_sum i j parts n h.1.0 e in
    rw t.0 (ap (λ c. i ∷ c) (front-near_concatenation (j ∷ parts) k (n - i) h.1 tt h' some' t.1))

-- the back of I > J is J
pub back-near_concatenation : (parts k : List ℕ) (n : ℕ) → IsComposition parts → HasPart parts → IsComposition k → HasPart k → n ≡ sum parts
    → back_parts n (near_concatenation parts k) ≡ k
back-near_concatenation [] k n h some h' some' e = absurd some
back-near_concatenation (i ∷ []) [] n h some h' some' e = absurd some'
back-near_concatenation (i ∷ []) (j ∷ k) n h some h' some' e = let t = past_sum i j n h'.0 e in rw (t.0, t.1) (ap (λ m. m ∷ k) t.3)
back-near_concatenation (i ∷ j ∷ parts) k n h some h' some' e =
    let t = before_sum i j parts n h.1.0 e in
    rw t.0 (back-near_concatenation (j ∷ parts) k (n - i) h.1 tt h' some' t.1)

-- sums, positive parts and numbers of parts of both

-- the sum of I . J
pub sum-append : (parts k : List ℕ) → sum (parts ++ k) ≡ sum parts + sum k
sum-append [] k = omega arith
sum-append (i ∷ parts) k = omega (arith, sum-cons i (parts ++ k), sum-cons i parts, sum-append parts k)

-- the sum of I > J
pub sum-near_concatenation : (parts k : List ℕ) → HasPart k → sum (near_concatenation parts k) ≡ sum parts + sum k
sum-near_concatenation [] k some = omega arith
sum-near_concatenation (i ∷ []) [] some = absurd some
sum-near_concatenation (i ∷ []) (j ∷ k) some = omega (arith, sum-cons i [], sum-cons j k, sum-cons (i + j) k)
sum-near_concatenation (i ∷ h ∷ parts) k some =
    omega (arith, sum-cons i (h ∷ parts), sum-cons i (near_concatenation (h ∷ parts) k), sum-near_concatenation (h ∷ parts) k some)

-- I . J is a composition
pub composition-append : (parts k : List ℕ) → IsComposition parts → IsComposition k → IsComposition (parts ++ k)
composition-append [] k h h' = h'
composition-append (i ∷ parts) k h h' = (h.0, composition-append parts k h.1 h')

-- I > J is a composition
pub composition-near_concatenation : (parts k : List ℕ) → IsComposition parts → IsComposition k → IsComposition (near_concatenation parts k)
composition-near_concatenation [] k h h' = h'
composition-near_concatenation (i ∷ []) [] h h' = h
composition-near_concatenation (i ∷ []) (j ∷ k) h h' = (omega (arith, h.0), h'.1)
composition-near_concatenation (i ∷ g ∷ parts) k h h' = (h.0, composition-near_concatenation (g ∷ parts) k h.1 h')

-- a near concatenation has one part less
pub length-near_concatenation : (parts k : List ℕ) → HasPart parts → HasPart k → suc (length (near_concatenation parts k)) ≡ length (parts ++ k)
length-near_concatenation [] k some some' = absurd some
length-near_concatenation (i ∷ []) [] some some' = absurd some'
length-near_concatenation (i ∷ []) (j ∷ k) some some' = refl
length-near_concatenation (i ∷ h ∷ parts) k some some' = ap suc (length-near_concatenation (h ∷ parts) k tt some')
