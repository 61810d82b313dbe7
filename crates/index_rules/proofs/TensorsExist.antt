-- Two canonical combinations have a tensor product, where it has room.
use Rattle.std.proofs.Common.{◌≡◌, ℕ, zero, suc, ◌+◌, ◌*◌, ◌^◌, ◌<◌, ◌≤◌, length, [], ◌++◌, refl, subst, arith, add-one}
use Rattle.std.proofs.Math.IntN.{◌*ℤ◌, *ℤ-zero}
use Rattle.std.proofs.Math.Nat.{mul-le-mul_right}
use Rattle.std.proofs.lemmas.Int.{ints}
use Rattle.std.proofs.lemmas.List.{length-append}
use Rattle.index_rules.proofs.ReducedCombos.{lowest_exists}
use Rattle.linear_combos.proofs.Edits.{zero_canonical}
use Rattle.linear_combos.proofs.Gathering.{add_exists}
use Rattle.linear_combos.proofs.Tensors.{product_room, product_added, row_added, IsTensor-over}
use Rattle.linear_combos.specs.Combos.{IsTensor}
use Rattle.linear_combos.specs.Merges.{AreProducts}
use Rattle.realisations.specs.Codes.{Key}
use Rattle.realisations.specs.Combinations.{Combination, AreTerms, IsCanonical, norm_of, term_at}
use Rattle.realisations.specs.Readings.{Terms}

-- canonical terms of the products so far
record IsSoFar (a b : Combination) (i j : ℕ) (ts : Terms) : Type 0 where
  ordered : AreTerms (a.rank + b.rank) ts
  products : AreProducts a.terms b.terms i j ts

-- a canonical combination that is the tensor product of two
pub record IsTensorMade (a b c : Combination) : Type 0 where
  pub canonical : IsCanonical c.rank c.den c.terms
  pub tensor : IsTensor a b c

module _ (a b : Combination) (ha : IsCanonical a.rank a.den a.terms) (hb : IsCanonical b.rank b.den b.terms) (room : norm_of a.terms * norm_of b.terms < 2 ^ 127) where
  -- the next product
  next_exists : (i j : ℕ) → i < length a.terms → j < length b.terms → (ts : Terms) → IsSoFar a b i j ts → (us : Terms) × IsSoFar a b i (suc j) us
  next_exists i j here there ts so_far =
      let num = (term_at a.terms i).0 *ℤ (term_at b.terms j).0 in
      let key : Key = (term_at a.terms i).1 ++ (term_at b.terms j).1 in
      let fits : length key ≡ a.rank + b.rank = omega (arith, length-append (term_at a.terms i).1 (term_at b.terms j).1, ha.ordered.ranks i here, hb.ordered.ranks j there) in
      let (us, is) = add_exists (a.rank + b.rank) ts num key so_far.ordered fits (product_room a.terms b.terms i j ts so_far.products here there room) in (
        us,
        record {
          ordered = is.terms;
          products = subst (λ n. AreProducts a.terms b.terms i n us) (add-one j) (product_added a.terms b.terms i j ts so_far.products here there us num key refl refl is.adds is.norm);
        },
      )

  -- those of a term with the first terms of the second combination
  row_exists : (i : ℕ) → i < length a.terms → (ts : Terms) → IsSoFar a b i 0 ts → (j : ℕ) → j ≤ length b.terms → (us : Terms) × IsSoFar a b i j us
  row_exists i here ts so_far zero le = (ts, so_far)
  row_exists i here ts so_far (suc j) le = let (us, part) = row_exists i here ts so_far j (omega (arith, le)) in next_exists i j here (omega (arith, le)) us part

  -- those of the first terms with all of the second combination
  rows_exist : (i : ℕ) → i ≤ length a.terms → (ts : Terms) × IsSoFar a b i 0 ts
  rows_exist zero le = (
    [],
    record {
      ordered = (zero_canonical (a.rank + b.rank)).ordered;
      products = record {
        in_left = omega arith;
        in_right = omega arith;
        weighs = λ w. omega (arith, ints, *ℤ-zero (term_at a.terms 0).0);
        norm = omega arith;
        keys = λ key has. absurd (omega (arith, has.1));
      };
    },
  )
  rows_exist (suc i) le =
      let (ts, rows) = rows_exist i (omega (arith, le)) in
      let (us, row) = row_exists i (omega (arith, le)) ts rows (length b.terms) (omega arith) in
      (us, record { ordered = row.ordered; products = subst (λ n. AreProducts a.terms b.terms n 0 us) (add-one i) (row_added a.terms b.terms i us row.products (omega (arith, le))) })

  -- all products, over the product of the denominators
  pub tensor_exists : a.den * b.den < 2 ^ 127 → (c : Combination) × IsTensorMade a b c
  tensor_exists small =
      let below : 1 * b.den ≤ a.den * b.den = mul-le-mul_right b.den ha.lowest.positive in
      let (ts, all) = rows_exist (length a.terms) (omega arith) in
      let (c, is) = lowest_exists (record { rank = a.rank + b.rank; den = 1; terms = ts }) (a.den * b.den) (omega (arith, below, hb.lowest.positive)) small all.ordered in
      (c, record { canonical = is.canonical; tensor = IsTensor-over a b c ts all.products is.over })
