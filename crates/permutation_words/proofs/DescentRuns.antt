-- Descent compositions, letter by letter: the parts that are done, and the part that grows.
use Rattle.std.proofs.Common.{◌≡◌, ℕ, zero, suc, ◌+◌, ◌-◌, ◌<◌, ◌≤◌, Bool, true, false, List, [], ◌∷◌, ◌++◌, length, drop, get_or, refl, sym, ◌∙◌, ap, subst, arith, drop-cons, append_assoc}
use Rattle.std.specs.Prelude.{nat_lt, if◌then◌else◌}
use Rattle.std.proofs.lemmas.Bool.Decides.{nat_tests}
use Rattle.std.proofs.lemmas.List.{drop_all}
use Rattle.linear_combos.specs.Codes.{IsCode}
use Rattle.realisations.specs.Descents.{longer_first, descent_composition}
use Rattle.linear_combos.proofs.Words.{IsCode-left}
use Rattle.permutation_words.proofs.Codes.{IsCode-descent_composition}

-- the first part n larger; n alone where there is none
abbrev pub first_longer_by : ℕ → List ℕ → List ℕ
first_longer_by n [] = n ∷ []
first_longer_by n (i ∷ parts) = (n + i) ∷ parts

longer-first_longer_by : (n : ℕ) (parts : List ℕ) → first_longer_by n (longer_first parts) ≡ first_longer_by (n + 1) parts
longer-first_longer_by n [] = refl
longer-first_longer_by n (i ∷ parts) = let e : n + suc i ≡ n + 1 + i = omega arith in ap (λ j. j ∷ parts) e

by_none : (b : Bool) (parts : List ℕ) → (if b then 1 ∷ parts else longer_first parts) ≡ first_longer_by 0 (if b then 1 ∷ parts else longer_first parts)
by_none true parts = refl
by_none false [] = refl
by_none false (i ∷ parts) = let e : suc i ≡ 0 + suc i = omega arith in ap (λ j. j ∷ parts) e

-- before the first letter nothing has grown
pub start_of_runs : (w : List ℕ) → 1 ≤ length w → descent_composition w ≡ first_longer_by 0 (descent_composition w)
start_of_runs [] some = absurd (omega (arith, some))
start_of_runs (x ∷ []) some = refl
start_of_runs (x ∷ y ∷ w) some = by_none (nat_lt y x) (descent_composition (y ∷ w))

-- the letters at two places in a row, and what follows them
from_place : (w : List ℕ) (i : ℕ) → suc i < length w → drop i w ≡ get_or w i 0 ∷ get_or w (suc i) 0 ∷ drop (suc (suc i)) w
from_place w i lt = drop-cons w i 0 (omega arith) ∙ ap (λ v. get_or w i 0 ∷ v) (drop-cons w (suc i) 0 lt)

at_descent : (x y n : ℕ) (w : List ℕ) → y < x → 1 ≤ n → first_longer_by (n - 1) (descent_composition (x ∷ y ∷ w)) ≡ n ∷ descent_composition (y ∷ w)
at_descent x y n w lt some =
    let test : nat_lt y x ≡ true = grind (arith, nat_tests) in
    let e : n - 1 + 1 ≡ n = omega arith in
    ap (λ b. first_longer_by (n - 1) (if b then 1 ∷ descent_composition (y ∷ w) else longer_first (descent_composition (y ∷ w)))) test
    ∙ ap (λ k. k ∷ descent_composition (y ∷ w)) e

at_ascent : (x y n : ℕ) (w : List ℕ) → x ≤ y → 1 ≤ n → first_longer_by (n - 1) (descent_composition (x ∷ y ∷ w)) ≡ first_longer_by n (descent_composition (y ∷ w))
at_ascent x y n w le some =
    let test : nat_lt y x ≡ false = grind (arith, nat_tests) in
    let e : n - 1 + 1 ≡ n = omega arith in
    ap (λ b. first_longer_by (n - 1) (if b then 1 ∷ descent_composition (y ∷ w) else longer_first (descent_composition (y ∷ w)))) test
    ∙ longer-first_longer_by (n - 1) (descent_composition (y ∷ w))
    ∙ ap (λ k. first_longer_by k (descent_composition (y ∷ w))) e

-- the runs of a word at the place i: the parts that are done, and the letters of the part so far
pub record AreRuns (w parts : List ℕ) (part i : ℕ) : Type 0 where
  pub composition : descent_composition w ≡ parts ++ first_longer_by (part - 1) (descent_composition (drop (i - 1) w))
  pub some : 1 ≤ part
  pub behind : part ≤ i

back_one : (i : ℕ) → suc i - 1 ≡ i
back_one i = omega arith

composition_at : (w parts : List ℕ) (part i : ℕ) → AreRuns w parts part (suc i) → descent_composition w ≡ parts ++ first_longer_by (part - 1) (descent_composition (drop i w))
composition_at w parts part i runs = runs.composition ∙ ap (λ k. parts ++ first_longer_by (part - 1) (descent_composition (drop k w))) (back_one i)

-- behind a descent the part is done
pub part_done : (w parts parts' : List ℕ) (i part part' : ℕ) → AreRuns w parts part i → i < length w → get_or w i 0 < get_or w (i - 1) 0
    → parts' ≡ parts ++ part ∷ [] → part' ≡ 1 → AreRuns w parts' part' (i + 1)
part_done w parts parts' zero part part' runs lt descent is is' = absurd (omega (arith, runs.some, runs.behind))
part_done w parts parts' (suc i) part part' runs lt descent is is' =
    let place : suc i + 1 - 1 ≡ suc i = omega arith in
    let rest : drop (suc i) w ≡ get_or w (suc i) 0 ∷ drop (suc (suc i)) w = drop-cons w (suc i) 0 lt in
    let now : descent_composition w ≡ parts ++ part ∷ descent_composition (drop (suc i) w) =
    composition_at w parts part i runs
    ∙ ap (λ v. parts ++ first_longer_by (part - 1) (descent_composition v)) (from_place w i lt)
    ∙ ap (λ v. parts ++ v) (at_descent (get_or w i 0) (get_or w (suc i) 0) part (drop (suc (suc i)) w) (subst (λ k. get_or w (suc i) 0 < get_or w k 0) (back_one i) descent) runs.some)
    ∙ ap (λ v. parts ++ part ∷ descent_composition v) (sym rest) in
    let start : descent_composition (drop (suc i) w) ≡ first_longer_by 0 (descent_composition (drop (suc i) w)) =
    subst (λ v. descent_composition v ≡ first_longer_by 0 (descent_composition v)) (sym rest) (start_of_runs (get_or w (suc i) 0 ∷ drop (suc (suc i)) w) (omega arith)) in
    record {
      composition =
          now ∙ sym (append_assoc parts (part ∷ []) (descent_composition (drop (suc i) w)))
          ∙ ap (λ v. v ++ descent_composition (drop (suc i) w)) (sym is)
          ∙ ap (λ v. parts' ++ v) start
          ∙ ap (λ k. parts' ++ first_longer_by (k - 1) (descent_composition (drop (suc i) w))) (sym is')
          ∙ ap (λ k. parts' ++ first_longer_by (part' - 1) (descent_composition (drop k w))) (sym place);
      some = omega (arith, is');
      behind = omega (arith, is');
    }

-- else it grows
pub part_grows : (w parts parts' : List ℕ) (i part part' : ℕ) → AreRuns w parts part i → i < length w → get_or w (i - 1) 0 ≤ get_or w i 0
    → parts' ≡ parts → part' ≡ part + 1 → AreRuns w parts' part' (i + 1)
part_grows w parts parts' zero part part' runs lt ascent is is' = absurd (omega (arith, runs.some, runs.behind))
part_grows w parts parts' (suc i) part part' runs lt ascent is is' =
    let place : suc i + 1 - 1 ≡ suc i = omega arith in
    let grown : part ≡ part' - 1 = omega (arith, is') in
    record {
      composition =
          composition_at w parts part i runs
          ∙ ap (λ v. parts ++ first_longer_by (part - 1) (descent_composition v)) (from_place w i lt)
          ∙ ap (λ v. parts ++ v) (at_ascent (get_or w i 0) (get_or w (suc i) 0) part (drop (suc (suc i)) w) (subst (λ k. get_or w k 0 ≤ get_or w (suc i) 0) (back_one i) ascent) runs.some)
          ∙ ap (λ v. parts ++ first_longer_by part (descent_composition v)) (sym (drop-cons w (suc i) 0 lt))
          ∙ ap (λ v. v ++ first_longer_by part (descent_composition (drop (suc i) w))) (sym is)
          ∙ ap (λ k. parts' ++ first_longer_by k (descent_composition (drop (suc i) w))) grown
          ∙ ap (λ k. parts' ++ first_longer_by (part' - 1) (descent_composition (drop k w))) (sym place);
      some = omega (arith, is');
      behind = omega (arith, is', runs.behind);
    }

-- at the end the last part is done
pub last_part : (w parts : List ℕ) (i part : ℕ) → AreRuns w parts part i → i ≡ length w → descent_composition w ≡ parts ++ part ∷ []
last_part w parts zero part runs end = absurd (omega (arith, runs.some, runs.behind))
last_part w parts (suc i) part runs end =
    let last : drop i w ≡ get_or w i 0 ∷ [] = drop-cons w i 0 (omega (arith, end)) ∙ ap (λ v. get_or w i 0 ∷ v) (drop_all (suc i) w (omega (arith, end))) in
    let e : part - 1 + 1 ≡ part = omega (arith, runs.some) in
    composition_at w parts part i runs ∙ ap (λ v. parts ++ first_longer_by (part - 1) (descent_composition v)) last ∙ ap (λ k. parts ++ k ∷ []) e

-- the parts up to the one that is done make a code
pub done_code : (w parts rest : List ℕ) (part : ℕ) → length w ≤ 15 → descent_composition w ≡ parts ++ part ∷ rest → IsCode (parts ++ part ∷ [])
done_code w parts rest part short is =
    IsCode-left (parts ++ part ∷ []) rest (subst IsCode (is ∙ sym (append_assoc parts (part ∷ []) rest)) (IsCode-descent_composition w short))

-- the part that is done at a descent makes a code with those before it
pub code_at_descent : (w parts : List ℕ) (i part : ℕ) → AreRuns w parts part i → i < length w → get_or w i 0 < get_or w (i - 1) 0 → length w ≤ 15 → IsCode (parts ++ part ∷ [])
code_at_descent w parts zero part runs lt descent short = absurd (omega (arith, runs.some, runs.behind))
code_at_descent w parts (suc i) part runs lt descent short =
    done_code w parts (descent_composition (get_or w (suc i) 0 ∷ drop (suc (suc i)) w)) part short
    (composition_at w parts part i runs
    ∙ ap (λ v. parts ++ first_longer_by (part - 1) (descent_composition v)) (from_place w i lt)
    ∙ ap (λ v. parts ++ v) (at_descent (get_or w i 0) (get_or w (suc i) 0) part (drop (suc (suc i)) w) (subst (λ k. get_or w (suc i) 0 < get_or w k 0) (back_one i) descent) runs.some))
