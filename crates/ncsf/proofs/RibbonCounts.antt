-- The pairs that are listed for a ribbon are as many, at two words, as the shuffles of these that have its descent composition.
use Rattle.std.proofs.Common.{◌≡◌, ℕ, zero, suc, ◌+◌, ◌-◌, ◌*◌, ◌<◌, ◌≤◌, Bool, true, false, List, [], ◌∷◌, map, refl, sym, ◌∙◌, ap, arith}
use Rattle.std.specs.Prelude.{nat_eq, nat_lt, not, if◌then◌else◌}
use Rattle.std.specs.List.{AllByRecursion}
use Rattle.std.proofs.lemmas.Bool.Decides.{nat_tests}
use Rattle.basis_names.specs.declared.bases.BasisId.TheVariants.{NcsfR}
use Rattle.basis_representatives.proofs.PackedWords.{letters_to_greatest}
use Rattle.basis_representatives.proofs.Steps.{IsComposition-descent_composition}
use Rattle.coproduct_laws.specs.Coproducts.{IsCoproduct}
use Rattle.coproduct_laws.proofs.CoproductCounts.{at_pair, coproduct_by_counts}
use Rattle.coproduct_laws.proofs.LowAndHigh.{AreLow, AreHigh, high_raised}
use Rattle.coproduct_laws.proofs.Shuffling.{over_shuffles, over_shuffles-step}
use Rattle.coproduct_rules.proofs.Chains.{over_shuffles_comm}
use Rattle.coproduct_rules.proofs.Raising.{descent_composition-raise}
use Rattle.coproduct_rules.proofs.ShuffleCuts.{over_shuffles-nil_right}
use Rattle.product_laws.proofs.Parts.{HasPart}
use Rattle.product_laws.proofs.Ribbons.{has_part}
use Rattle.realisations.specs.Descents.{descent_composition, longer_first}
use Rattle.realisations.specs.IndexKinds.{IsComposition}
use Rattle.realisations.specs.Lists.{same_list, one_if}
use Rattle.realisations.specs.Pairings.{longer_compositions}
use Rattle.realisations.specs.Words.{greatest, raise, shuffles}
use Rattle.realisations.proofs.RisingMaps.{Letters}
use Rattle.realisations.proofs.Sums.{sums, sums-append, sums-map, sums-scale, sums_same, sums_none}
use Rattle.ncsf.specs.PairLists.{with_letter, Sides, before_own, before_other, with_side_letter, with_first_letter, with_letters, sides_of, ribbon_pairs}
use Rattle.ncsf.proofs.Sides.{Each, each_longer, longer_composition}

-- a composition of one part or more
pub record IsSome (parts : List ℕ) : Type 0 where
  pub positive : IsComposition parts
  pub some : HasPart parts

pub some_word : (x : ℕ) (w : List ℕ) → IsSome (descent_composition (x ∷ w))
some_word x w = record { positive = IsComposition-descent_composition (x ∷ w); some = has_part x w }

pub some_longer : (b : Bool) (parts : List ℕ) → IsComposition parts → IsSome (with_letter b parts)
some_longer true parts h = record { positive = longer_composition true parts h; some = tt }
some_longer false [] h = record { positive = longer_composition false [] h; some = tt }
some_longer false (i ∷ parts) h = record { positive = longer_composition false (i ∷ parts) h; some = tt }

-- whether two truth values are the same
abbrev same_test : Bool → Bool → Bool
same_test true b = b
same_test false b = not b

-- a letter more

word-longer : (x y : ℕ) (w : List ℕ) → descent_composition (x ∷ y ∷ w) ≡ with_letter (nat_lt y x) (descent_composition (y ∷ w))
word-longer x y w = by_test (nat_lt y x) (descent_composition (y ∷ w))
  where
    by_test : (b : Bool) (c : List ℕ) → (if b then 1 ∷ c else longer_first c) ≡ with_letter b c
    by_test true c = refl
    by_test false c = refl

-- of two compositions with parts
same-longer : (b b' : Bool) (c d : List ℕ) → IsSome c → IsSome d → one_if (same_list (with_letter b c) (with_letter b' d)) ≡ one_if (same_test b b') * one_if (same_list c d)
same-longer b b' [] d hc hd = absurd hc.some
same-longer b b' (i ∷ c) [] hc hd = absurd hd.some
same-longer true true (i ∷ c) (j ∷ d) hc hd = omega arith
same-longer true false (i ∷ c) (j ∷ d) hc hd = let e : nat_eq 1 (suc j) ≡ false = grind (arith, nat_tests, hd.positive.0) in rw e (omega arith)
same-longer false true (i ∷ c) (j ∷ d) hc hd = let e : nat_eq (suc i) 1 ≡ false = grind (arith, nat_tests, hc.positive.0) in rw e (omega arith)
same-longer false false (i ∷ c) (j ∷ d) hc hd = let e : nat_eq (suc i) (suc j) ≡ nat_eq i j = grind (arith, nat_tests) in rw e (omega arith)

-- one part 1 is none of these
one-longer : (b : Bool) (d : List ℕ) → IsSome d → one_if (same_list (1 ∷ []) (with_letter b d)) ≡ 0
one-longer b [] hd = absurd hd.some
one-longer true (j ∷ d) hd = refl
one-longer false (j ∷ d) hd = let e : nat_eq 1 (suc j) ≡ false = grind (arith, nat_tests, hd.positive.0) in rw e refl

longer-one : (b : Bool) (c : List ℕ) → IsSome c → one_if (same_list (with_letter b c) (1 ∷ [])) ≡ 0
longer-one b [] hc = absurd hc.some
longer-one true (i ∷ c) hc = refl
longer-one false (i ∷ c) hc = let e : nat_eq (suc i) 1 ≡ false = grind (arith, nat_tests, hc.positive.0) in rw e refl

some-none : (c : List ℕ) → IsSome c → one_if (same_list c []) ≡ 0
some-none [] hc = absurd hc.some
some-none (i ∷ c) hc = refl

none-some : (c : List ℕ) → IsSome c → one_if (same_list [] c) ≡ 0
none-some [] hc = absurd hc.some
none-some (i ∷ c) hc = refl

-- a letter more in both ways
both-longer : (a : ℕ) (u j : List ℕ) → IsComposition j → sums (λ parts. one_if (same_list (descent_composition (a ∷ u)) parts)) (longer_compositions j) ≡ one_if (same_list (descent_composition u) j)
both-longer a [] [] h = refl
both-longer a [] (i ∷ j) h =
    let some : IsSome (i ∷ j) = record { positive = h; some = tt } in
    omega (arith, one-longer true (i ∷ j) some, one-longer false (i ∷ j) some)
both-longer a (x ∷ u) [] h =
    let word : one_if (same_list (descent_composition (a ∷ x ∷ u)) (1 ∷ [])) ≡ one_if (same_list (with_letter (nat_lt x a) (descent_composition (x ∷ u))) (1 ∷ [])) = ap (λ c. one_if (same_list c (1 ∷ []))) (word-longer a x u) in
    omega (arith, word, longer-one (nat_lt x a) (descent_composition (x ∷ u)) (some_word x u), some-none (descent_composition (x ∷ u)) (some_word x u))
both-longer a (x ∷ u) (i ∷ j) h =
    let some : IsSome (i ∷ j) = record { positive = h; some = tt } in
    ap (λ c. one_if (same_list c (1 ∷ i ∷ j)) + (one_if (same_list c (suc i ∷ j)) + 0)) (word-longer a x u)
    ∙ (λ k. same-longer (nat_lt x a) true (descent_composition (x ∷ u)) (i ∷ j) (some_word x u) some k + (same-longer (nat_lt x a) false (descent_composition (x ∷ u)) (i ∷ j) (some_word x u) some k + 0))
    ∙ by_test (nat_lt x a) (one_if (same_list (descent_composition (x ∷ u)) (i ∷ j)))
  where
    by_test : (b : Bool) (n : ℕ) → one_if (same_test b true) * n + (one_if (same_test b false) * n + 0) ≡ n
    by_test true n = omega arith
    by_test false n = omega arith

-- the compositions of a pair: of the letters of one kind there are some
pub record IsOwn (e : List ℕ × List ℕ) : Type 0 where
  pub own : IsSome e.0
  pub other : IsComposition e.1

-- no pair occurs where there are none
listed_none : (v : List ℕ) (pairs : List (List ℕ × List ℕ)) → AllByRecursion IsOwn pairs → at_pair NcsfR [] v pairs ≡ 0
listed_none v [] h = refl
listed_none v (e ∷ pairs) h =
    ap (λ n. n * one_if (same_list (descent_composition v) e.1) + at_pair NcsfR [] v pairs) (none-some e.0 h.0.own) ∙ omega (arith, listed_none v pairs h.1)

-- the pairs with a letter more before one of its own kind
listed-own : (b : Bool) (a x : ℕ) (u v : List ℕ) (pairs : List (List ℕ × List ℕ)) → AllByRecursion IsOwn pairs
    → at_pair NcsfR (a ∷ x ∷ u) v (before_own b pairs) ≡ one_if (same_test (nat_lt x a) b) * at_pair NcsfR (x ∷ u) v pairs
listed-own b a x u v [] h = omega arith
listed-own b a x u v (e ∷ pairs) h =
    let first : one_if (same_list (descent_composition (a ∷ x ∷ u)) (with_letter b e.0)) ≡ one_if (same_test (nat_lt x a) b) * one_if (same_list (descent_composition (x ∷ u)) e.0) =
    ap (λ c. one_if (same_list c (with_letter b e.0))) (word-longer a x u) ∙ same-longer (nat_lt x a) b (descent_composition (x ∷ u)) e.0 (some_word x u) h.0.own in
    (λ i. first i * one_if (same_list (descent_composition v) e.1) + listed-own b a x u v pairs h.1 i) ∙ omega arith

listed-own_one : (b : Bool) (a : ℕ) (v : List ℕ) (pairs : List (List ℕ × List ℕ)) → AllByRecursion IsOwn pairs → at_pair NcsfR (a ∷ []) v (before_own b pairs) ≡ 0
listed-own_one b a v [] h = refl
listed-own_one b a v (e ∷ pairs) h =
    (λ i. one-longer b e.0 h.0.own i * one_if (same_list (descent_composition v) e.1) + listed-own_one b a v pairs h.1 i) ∙ omega arith

-- and before one of the other kind
listed-other : (a : ℕ) (u v : List ℕ) (pairs : List (List ℕ × List ℕ)) → AllByRecursion IsOwn pairs → at_pair NcsfR (a ∷ u) v (before_other pairs) ≡ at_pair NcsfR v u pairs
listed-other a u v [] h = refl
listed-other a u v (e ∷ pairs) h =
    sums-append weight (map (λ parts. (parts, e.0)) (longer_compositions e.1)) (before_other pairs)
    ∙ (λ i. one e h.0.other i + listed-other a u v pairs h.1 i)
  where
    weight : List ℕ × List ℕ → ℕ
    weight e = one_if (same_list (descent_composition (a ∷ u)) e.0) * one_if (same_list (descent_composition v) e.1)

    one : (e : List ℕ × List ℕ) → IsComposition e.1
        → sums (λ (e : List ℕ × List ℕ). one_if (same_list (descent_composition (a ∷ u)) e.0) * one_if (same_list (descent_composition v) e.1)) (map (λ parts. (parts, e.0)) (longer_compositions e.1))
        ≡ one_if (same_list (descent_composition v) e.0) * one_if (same_list (descent_composition u) e.1)
    one e h =
        sums-map (λ (e : List ℕ × List ℕ). one_if (same_list (descent_composition (a ∷ u)) e.0) * one_if (same_list (descent_composition v) e.1)) (λ (parts : List ℕ). (parts, e.0)) (longer_compositions e.1)
        ∙ sums_same (λ parts. one_if (same_list (descent_composition (a ∷ u)) parts) * one_if (same_list (descent_composition v) e.0)) (λ parts. one_if (same_list (descent_composition v) e.0) * one_if (same_list (descent_composition (a ∷ u)) parts)) (λ parts. omega arith) (longer_compositions e.1)
        ∙ sums-scale (one_if (same_list (descent_composition v) e.0)) (λ parts. one_if (same_list (descent_composition (a ∷ u)) parts)) (longer_compositions e.1)
        ∙ ap (λ n. one_if (same_list (descent_composition v) e.0) * n) (both-longer a u e.1 h)

listed-side : (b c : Bool) (a : ℕ) (u v : List ℕ) (own other : List (List ℕ × List ℕ)) → AllByRecursion IsOwn other
    → at_pair NcsfR (a ∷ u) v (with_side_letter b c own other) ≡ at_pair NcsfR (a ∷ u) v (before_own b own) + one_if c * at_pair NcsfR v u other
listed-side b true a u v own other h =
    sums-append (λ (e : List ℕ × List ℕ). one_if (same_list (descent_composition (a ∷ u)) e.0) * one_if (same_list (descent_composition v) e.1)) (before_own b own) (before_other other)
    ∙ omega (arith, listed-other a u v other h)
listed-side b false a u v own other h = omega arith

-- pairs list the shuffles that begin with a letter of one kind, P, where the other letters are of the kind Q
abbrev pub Lists : (ℕ → Type 0) → (ℕ → Type 0) → List ℕ → List (List ℕ × List ℕ) → Type 0
Lists P Q parts pairs = (a : ℕ) (u v : List ℕ) → P a → Letters P u → Letters Q v → over_shuffles (λ w. one_if (same_list (descent_composition (a ∷ w)) parts)) u v ≡ at_pair NcsfR (a ∷ u) v pairs

-- one letter more, of the kind P, which falls to those of the kind Q or not
module _ (P Q : ℕ → Type 0) (cross : Bool) (crosses : (x y : ℕ) → P x → Q y → nat_lt y x ≡ cross)
    (b : Bool) (parts : List ℕ) (own other : List (List ℕ × List ℕ)) (some : IsSome parts) (each_own : AllByRecursion IsOwn own) (each_other : AllByRecursion IsOwn other)
    (lists_own : Lists P Q parts own) (lists_other : Lists Q P parts other) where
  word-next : (a y : ℕ) (w : List ℕ) → one_if (same_list (descent_composition (a ∷ y ∷ w)) (with_letter b parts)) ≡ one_if (same_test (nat_lt y a) b) * one_if (same_list (descent_composition (y ∷ w)) parts)
  word-next a y w = ap (λ c. one_if (same_list c (with_letter b parts))) (word-longer a y w) ∙ same-longer (nat_lt y a) b (descent_composition (y ∷ w)) parts (some_word y w) some

  -- first a letter of the same kind
  own_next : (a x : ℕ) (u v : List ℕ) → P x → Letters P u → Letters Q v
      → over_shuffles (λ w. one_if (same_list (descent_composition (a ∷ x ∷ w)) (with_letter b parts))) u v ≡ one_if (same_test (nat_lt x a) b) * at_pair NcsfR (x ∷ u) v own
  own_next a x u v px pu qv =
      sums_same (λ w. one_if (same_list (descent_composition (a ∷ x ∷ w)) (with_letter b parts))) (λ w. one_if (same_test (nat_lt x a) b) * one_if (same_list (descent_composition (x ∷ w)) parts)) (word-next a x) (shuffles u v)
      ∙ sums-scale (one_if (same_test (nat_lt x a) b)) (λ w. one_if (same_list (descent_composition (x ∷ w)) parts)) (shuffles u v)
      ∙ ap (λ n. one_if (same_test (nat_lt x a) b) * n) (lists_own x u v px pu qv)

  -- first one of the other kind
  other_next : (a y : ℕ) (u v : List ℕ) → P a → Q y → Letters P u → Letters Q v
      → over_shuffles (λ w. one_if (same_list (descent_composition (a ∷ y ∷ w)) (with_letter b parts))) u v ≡ one_if (same_test cross b) * at_pair NcsfR (y ∷ v) u other
  other_next a y u v pa qy pu qv =
      sums_same (λ w. one_if (same_list (descent_composition (a ∷ y ∷ w)) (with_letter b parts))) (λ w. one_if (same_test (nat_lt y a) b) * one_if (same_list (descent_composition (y ∷ w)) parts)) (word-next a y) (shuffles u v)
      ∙ sums-scale (one_if (same_test (nat_lt y a) b)) (λ w. one_if (same_list (descent_composition (y ∷ w)) parts)) (shuffles u v)
      ∙ (λ i. one_if (same_test (crosses a y pa qy i) b) * (over_shuffles_comm (λ w. one_if (same_list (descent_composition (y ∷ w)) parts)) u v ∙ lists_other y v u qy qv pu) i)

  pub lists-side : Lists P Q (with_letter b parts) (with_side_letter b (same_test cross b) own other)
  lists-side a [] [] pa pu qv =
      let zero_times : one_if (same_test cross b) * at_pair NcsfR [] [] other ≡ one_if (same_test cross b) * 0 = ap (λ n. one_if (same_test cross b) * n) (listed_none [] other each_other) in
      omega (arith, one-longer b parts some, listed-side b (same_test cross b) a [] [] own other each_other, listed-own_one b a [] own each_own, zero_times)
  lists-side a [] (y ∷ v) pa pu qv =
      let word : over_shuffles (λ w. one_if (same_list (descent_composition (a ∷ w)) (with_letter b parts))) [] (y ∷ v) ≡ one_if (same_test (nat_lt y a) b) * one_if (same_list (descent_composition (y ∷ v)) parts) + 0 =
      ap (λ n. n + 0) (word-next a y v) in
      let rest : one_if (same_list (descent_composition (y ∷ v)) parts) ≡ at_pair NcsfR (y ∷ v) [] other =
      sym (over_shuffles-nil_right (λ w. one_if (same_list (descent_composition (y ∷ w)) parts)) v) ∙ lists_other y v [] qv.0 qv.1 tt in
      let both : one_if (same_test (nat_lt y a) b) * one_if (same_list (descent_composition (y ∷ v)) parts) ≡ one_if (same_test cross b) * at_pair NcsfR (y ∷ v) [] other =
      λ i. one_if (same_test (crosses a y pa qv.0 i) b) * rest i in
      omega (arith, word, both, listed-side b (same_test cross b) a [] (y ∷ v) own other each_other, listed-own_one b a (y ∷ v) own each_own)
  lists-side a (x ∷ u) [] pa pu qv =
      let word : over_shuffles (λ w. one_if (same_list (descent_composition (a ∷ w)) (with_letter b parts))) (x ∷ u) [] ≡ one_if (same_test (nat_lt x a) b) * one_if (same_list (descent_composition (x ∷ u)) parts) + 0 =
      ap (λ n. n + 0) (word-next a x u) in
      let rest : one_if (same_list (descent_composition (x ∷ u)) parts) ≡ at_pair NcsfR (x ∷ u) [] own =
      sym (over_shuffles-nil_right (λ w. one_if (same_list (descent_composition (x ∷ w)) parts)) u) ∙ lists_own x u [] pu.0 pu.1 tt in
      let both : one_if (same_test (nat_lt x a) b) * one_if (same_list (descent_composition (x ∷ u)) parts) ≡ one_if (same_test (nat_lt x a) b) * at_pair NcsfR (x ∷ u) [] own =
      ap (λ n. one_if (same_test (nat_lt x a) b) * n) rest in
      let nothing : one_if (same_test cross b) * at_pair NcsfR [] (x ∷ u) other ≡ one_if (same_test cross b) * 0 = ap (λ n. one_if (same_test cross b) * n) (listed_none (x ∷ u) other each_other) in
      omega (arith, word, both, nothing, listed-side b (same_test cross b) a (x ∷ u) [] own other each_other, listed-own b a x u [] own each_own)
  lists-side a (x ∷ u) (y ∷ v) pa pu qv =
      over_shuffles-step (λ w. one_if (same_list (descent_composition (a ∷ w)) (with_letter b parts))) x u y v
      ∙ (λ i. own_next a x u (y ∷ v) pu.0 pu.1 qv i + other_next a y (x ∷ u) v pa qv.0 pu qv.1 i)
      ∙ omega (arith, listed-side b (same_test cross b) a (x ∷ u) (y ∷ v) own other each_other, listed-own b a x u (y ∷ v) own each_own)

-- a word of one letter

longer_word : (a x : ℕ) (w : List ℕ) → one_if (same_list (descent_composition (a ∷ x ∷ w)) (1 ∷ [])) ≡ 0
longer_word a x w = ap (λ c. one_if (same_list c (1 ∷ []))) (word-longer a x w) ∙ longer-one (nat_lt x a) (descent_composition (x ∷ w)) (some_word x w)

no_word : (x : ℕ) (w : List ℕ) → one_if (same_list (descent_composition (x ∷ w)) []) ≡ 0
no_word x w = some-none (descent_composition (x ∷ w)) (some_word x w)

lists-one : (P Q : ℕ → Type 0) → Lists P Q (1 ∷ []) ((1 ∷ [], []) ∷ [])
lists-one P Q a [] [] pa pu qv = refl
lists-one P Q a [] (y ∷ v) pa pu qv = omega (arith, longer_word a y v, no_word y v)
lists-one P Q a (x ∷ u) [] pa pu qv = omega (arith, longer_word a x u)
lists-one P Q a (x ∷ u) (y ∷ v) pa pu qv =
    let first = sums_none (λ w. one_if (same_list (descent_composition (a ∷ x ∷ w)) (1 ∷ []))) (longer_word a x) (shuffles u (y ∷ v)) in
    let second = sums_none (λ w. one_if (same_list (descent_composition (a ∷ y ∷ w)) (1 ∷ []))) (longer_word a y) (shuffles (x ∷ u) v) in
    let right : one_if (same_list (descent_composition (a ∷ x ∷ u)) (1 ∷ [])) * one_if (same_list (descent_composition (y ∷ v)) []) ≡ 0 * one_if (same_list (descent_composition (y ∷ v)) []) =
    ap (λ n. n * one_if (same_list (descent_composition (y ∷ v)) [])) (longer_word a x u) in
    omega (arith, over_shuffles-step (λ w. one_if (same_list (descent_composition (a ∷ w)) (1 ∷ []))) x u y v, first, second, right)

-- both sides
pub record ListSides (g : ℕ) (parts : List ℕ) (sides : Sides) : Type 0 where
  pub some : IsSome parts
  pub each : Each IsOwn sides
  pub low : Lists (λ x. x ≤ g) (λ x. g < x) parts sides.low
  pub high : Lists (λ x. g < x) (λ x. x ≤ g) parts sides.high

never_falls : (g x y : ℕ) → x ≤ g → g < y → nat_lt y x ≡ false
never_falls g x y h k = grind (arith, nat_tests)

always_falls : (g x y : ℕ) → g < x → y ≤ g → nat_lt y x ≡ true
always_falls g x y h k = grind (arith, nat_tests)

-- pairs of compositions with a letter more have some letters of their own kind
pub each_own : (P : List ℕ × List ℕ → Type 0) → ((e : List ℕ × List ℕ) → P e → IsComposition e.0 × IsComposition e.1) → (b : Bool) (sides : Sides) → Each P sides → Each IsOwn (with_first_letter b sides)
each_own P both b sides h =
    each_longer P IsOwn (λ b e p. record { own = some_longer b e.0 (both e p).0; other = (both e p).1 }) (λ b e p. record { own = some_longer b e.1 (both e p).1; other = (both e p).0 }) b sides h

sides_longer : (g : ℕ) (b : Bool) (parts : List ℕ) (sides : Sides) → ListSides g parts sides → ListSides g (with_letter b parts) (with_first_letter b sides)
sides_longer g b parts sides h = record {
  some = some_longer b parts h.some.positive;
  each = each_own IsOwn (λ e own. (own.own.positive, own.other)) b sides h.each;
  low = lists-side (λ x. x ≤ g) (λ x. g < x) false (never_falls g) b parts sides.low sides.high h.some h.each.low h.each.high h.low h.high;
  high = lists-side (λ x. g < x) (λ x. x ≤ g) true (always_falls g) b parts sides.high sides.low h.some h.each.high h.each.low h.high h.low;
}

sides_with_letters : (g n : ℕ) (parts : List ℕ) (sides : Sides) → ListSides g (1 ∷ parts) sides → ListSides g (suc n ∷ parts) (with_letters n sides)
sides_with_letters g zero parts sides h = h
sides_with_letters g (suc n) parts sides h = sides_longer g false (suc n ∷ parts) (with_letters n sides) (sides_with_letters g n parts sides h)

pub list_sides : (g : ℕ) (parts : List ℕ) → IsSome parts → ListSides g parts (sides_of parts)
list_sides g [] h = absurd h.some
list_sides g (zero ∷ parts) h = absurd (omega (arith, h.positive.0))
list_sides g (suc i ∷ []) h =
    let e : suc i - 1 ≡ i = omega arith in
    let one : IsSome (1 ∷ []) = record { positive = (omega arith, tt); some = tt } in
    let own : IsOwn (1 ∷ [], []) = record { own = one; other = tt } in
    rw e
    (sides_with_letters g i [] (with_first_letter false (sides_of []))
    (record { some = one; each = record { low = (own, tt); high = (own, tt) }; low = lists-one (λ x. x ≤ g) (λ x. g < x); high = lists-one (λ x. g < x) (λ x. x ≤ g) }))
list_sides g (suc i ∷ j ∷ parts) h =
    let e : suc i - 1 ≡ i = omega arith in
    rw e (sides_with_letters g i (j ∷ parts) (with_first_letter true (sides_of (j ∷ parts))) (sides_longer g true (j ∷ parts) (sides_of (j ∷ parts)) (list_sides g (j ∷ parts) (record { positive = h.positive.1; some = tt }))))

-- the other way round
listed-turned : (u v : List ℕ) (pairs : List (List ℕ × List ℕ)) → at_pair NcsfR u v (map (λ e. (e.1, e.0)) pairs) ≡ at_pair NcsfR v u pairs
listed-turned u v [] = refl
listed-turned u v (e ∷ pairs) = omega (arith, listed-turned u v pairs)

-- both sides together
listed-pairs : (parts u v : List ℕ) → at_pair NcsfR u v (ribbon_pairs parts) ≡ at_pair NcsfR u v (sides_of parts).low + at_pair NcsfR v u (sides_of parts).high
listed-pairs parts u v =
    sums-append (λ (e : List ℕ × List ℕ). one_if (same_list (descent_composition u) e.0) * one_if (same_list (descent_composition v) e.1)) (sides_of parts).low (map (λ e. (e.1, e.0)) (sides_of parts).high)
    ∙ ap (λ n. at_pair NcsfR u v (sides_of parts).low + n) (listed-turned u v (sides_of parts).high)

all_some : (g : ℕ) (parts u v : List ℕ) → IsSome parts → AreLow g u → AreHigh g v → over_shuffles (λ w. one_if (same_list (descent_composition w) parts)) u v ≡ at_pair NcsfR u v (ribbon_pairs parts)
all_some g parts [] [] some low high =
    let h = list_sides g parts some in
    omega (arith, none-some parts some, listed-pairs parts [] [], listed_none [] (sides_of parts).low h.each.low, listed_none [] (sides_of parts).high h.each.high)
all_some g parts [] (y ∷ v) some low high =
    let h = list_sides g parts some in
    let first = over_shuffles-nil_right (λ w. one_if (same_list (descent_composition (y ∷ w)) parts)) v in
    omega (arith, first, h.high y v [] high.0 high.1 tt, listed-pairs parts [] (y ∷ v), listed_none (y ∷ v) (sides_of parts).low h.each.low)
all_some g parts (x ∷ u) [] some low high =
    let h = list_sides g parts some in
    let first = over_shuffles-nil_right (λ w. one_if (same_list (descent_composition (x ∷ w)) parts)) u in
    omega (arith, first, h.low x u [] low.0 low.1 tt, listed-pairs parts (x ∷ u) [], listed_none (x ∷ u) (sides_of parts).high h.each.high)
all_some g parts (x ∷ u) (y ∷ v) some low high =
    let h = list_sides g parts some in
    omega (
      arith,
      over_shuffles-step (λ w. one_if (same_list (descent_composition w) parts)) x u y v,
      h.low x u (y ∷ v) low.0 low.1 high,
      over_shuffles_comm (λ w. one_if (same_list (descent_composition (y ∷ w)) parts)) (x ∷ u) v,
      h.high y v (x ∷ u) high.0 high.1 low,
      listed-pairs parts (x ∷ u) (y ∷ v),
    )

all_none : (u v : List ℕ) → over_shuffles (λ w. one_if (same_list (descent_composition w) [])) u v ≡ at_pair NcsfR u v (ribbon_pairs [])
all_none [] v = omega arith
all_none (x ∷ u) [] = omega arith
all_none (x ∷ u) (y ∷ v) =
    let first = sums_none (λ w. one_if (same_list (descent_composition (x ∷ w)) [])) (no_word x) (shuffles u (y ∷ v)) in
    let second = sums_none (λ w. one_if (same_list (descent_composition (y ∷ w)) [])) (no_word y) (shuffles (x ∷ u) v) in
    let right : one_if (same_list (descent_composition (x ∷ u)) []) * one_if (same_list (descent_composition (y ∷ v)) []) ≡ 0 * one_if (same_list (descent_composition (y ∷ v)) []) =
    ap (λ n. n * one_if (same_list (descent_composition (y ∷ v)) [])) (no_word x u) in
    omega (arith, over_shuffles-step (λ w. one_if (same_list (descent_composition w) [])) x u y v, first, second, right)

all_listed : (g : ℕ) (parts u v : List ℕ) → IsComposition parts → AreLow g u → AreHigh g v → over_shuffles (λ w. one_if (same_list (descent_composition w) parts)) u v ≡ at_pair NcsfR u v (ribbon_pairs parts)
all_listed g [] u v h low high = all_none u v
all_listed g (i ∷ parts) u v h low high = all_some g (i ∷ parts) u v (record { positive = h; some = tt }) low high

-- so the pairs are those of the coproduct
pub ribbon_pairs_coproduct : (parts : List ℕ) → IsComposition parts → IsCoproduct NcsfR parts (ribbon_pairs parts)
ribbon_pairs_coproduct parts h =
    coproduct_by_counts NcsfR parts (ribbon_pairs parts) (λ u v hu hv.
    all_listed (greatest u) parts u (raise (greatest u) v) h (letters_to_greatest u (greatest u) (omega arith)) (high_raised (greatest u) v hv)
    ∙ sums_same (λ (e : List ℕ × List ℕ). one_if (same_list (descent_composition u) e.0) * one_if (same_list (descent_composition (raise (greatest u) v)) e.1)) (λ e. one_if (same_list (descent_composition u) e.0) * one_if (same_list (descent_composition v) e.1))
    (λ e. ap (λ c. one_if (same_list (descent_composition u) e.0) * one_if (same_list c e.1)) (descent_composition-raise (greatest u) v)) (ribbon_pairs parts))
