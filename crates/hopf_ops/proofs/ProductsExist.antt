-- The law of existence for products: two values that pass the checks of a product have a value that reads as it.
use Rattle.std.proofs.Common.{◌≡◌, ℕ, zero, suc, ◌+◌, ◌*◌, ◌^◌, ◌<◌, ◌≤◌, ◌⊎◌, List, [], ◌∷◌, ◌++◌, length, take, inl, inr, refl, sym, ◌∙◌, ap, subst, arith, unsigned_abs, add-one}
use Rattle.std.proofs.Math.IntN.{ℤ, pos, ◌+ℤ◌, ◌*ℤ◌, *ℤ_comm}
use Rattle.std.proofs.Math.Nat.{mul-le-mul}
use Rattle.std.specs.Prelude.{All}
use Rattle.std.proofs.lemmas.List.{take_all}
use Rattle.std.proofs.lemmas.List.Sums.{sum_by-append}
use Rattle.hopf_num.specs.Fractions.{Ratio}
use Rattle.realisations.specs.Combinations.{Combination, IsCanonical, IsLowest, HasKey, norm_of, term_at, weighed}
use Rattle.realisations.specs.Indices.{degree_of, total_degree}
use Rattle.realisations.specs.Readings.{Terms, leaf, product, AgreeAt}
use Rattle.realisations.proofs.Coefficients.{Codes}
use Rattle.realisations.proofs.Linearity.{weighed-append}
use Rattle.index_rules.proofs.TensorsExist.{tensor_exists}
use Rattle.linear_combos.proofs.Edits.{lowest_one, zero_canonical}
use Rattle.linear_combos.proofs.Gathering.{gathered}
use Rattle.basis_names.specs.declared.bases.BasisId.{BasisId}
use Rattle.hopf_laws.specs.Bases.{least_limit}
use Rattle.hopf_laws.specs.Values.{Expansion, IsValue, Expands, reading_of, degree_of_value}
use Rattle.basis_routes.specs.Checks.{Passes}
use Rattle.basis_routes.proofs.Degrees.{least_limit-small}
use Rattle.basis_routes.proofs.RulesExist.{elements_product_exists}
use Rattle.hopf_ops.specs.Gathering.{IsGathered, AreFactors, AreFactorKeys, IsProductOfKeys, AreGathered, AddsMultiple, degree_of_product}
use Rattle.hopf_ops.specs.Operations.{product_room}
use Rattle.hopf_ops.proofs.Gathering.{none_gathered, factor_keys, product_room as next_room, product_gathered, row_gathered, all_gathered}
use Rattle.hopf_ops.proofs.MultiplesExist.{multiple_exists}
use Rattle.hopf_ops.proofs.ProductsOfKeys.{other_factors, one_component, more_components, norms_room}
use Rattle.hopf_ops.proofs.ProductsOfValues.{room_of_dens, room_of_norms, degree_over, of_indices, gathered_value, gathered_reads}
use Rattle.hopf_ops.proofs.SumsExist.{AreOfRank, times, weighed-times_factor, norm-times_factor, keys-times_factor, keys-append, rank-of_keys, keys-of_rank}

-- two keys of indices whose degrees add to at most the limit have a product
pub keys_product_exists : (bases : List BasisId) (left right : Codes) → 1 ≤ length bases → AreFactorKeys bases left right → (c : Combination) × IsProductOfKeys bases left right c
keys_product_exists [] left right some h = absurd (omega arith)
keys_product_exists (basis ∷ bases) [] right some h = absurd h.left_indices
keys_product_exists (basis ∷ bases) (x ∷ k) [] some h = absurd h.right_indices
keys_product_exists (basis ∷ []) (x ∷ k) (y ∷ l) some h =
    let first = elements_product_exists basis x y h.built.0 h.left_indices.0 h.right_indices.0 (omega (arith, h.degree)) in
    (first.0, one_component basis [] x y k l first.0 refl h first.1)
keys_product_exists (basis ∷ next ∷ bases) (x ∷ k) (y ∷ l) some h =
    let first = elements_product_exists basis x y h.built.0 h.left_indices.0 h.right_indices.0 (omega (arith, h.degree)) in
    let others = keys_product_exists (next ∷ bases) k l (omega arith) (other_factors basis (next ∷ bases) x y k l h (omega arith)) in
    let dens : first.0.den * others.0.den ≡ 1 = λ i. first.1.whole i * others.1.whole i in
    let both = tensor_exists first.0 others.0 first.1.canonical others.1.canonical
    (norms_room (norm_of first.0.terms) (norm_of others.0.terms) (degree_of basis x + degree_of basis y) (total_degree (next ∷ bases) k + total_degree (next ∷ bases) l)
    first.1.small others.1.small (omega (arith, h.degree, least_limit-small (basis ∷ next ∷ bases)))) (omega (arith, dens)) in
    (both.0, more_components basis (next ∷ bases) x y k l first.0 others.0 both.0 first.1 others.1 both.1.tensor both.1.canonical)

-- a canonical combination to which a multiple of another was added
record IsAdded (old : Combination) (num : ℤ) (by new : Combination) : Type 0 where
  pub canonical : IsCanonical new.rank new.den new.terms
  pub adds : AddsMultiple old num by.terms (length by.terms) new

module _ (old : Combination) (num : ℤ) (by : Combination) where
  -- keys of the terms and the multiple
  keys-added : (key : Codes) → HasKey (old.terms ++ times num by.terms) key → HasKey old.terms key ⊎ HasKey by.terms key
  keys-added key has = elim (keys-append old.terms (times num by.terms) key has) [
    | inl left ↦ inl left
    | inr right ↦ inr (keys-times_factor num by.terms key right)
  ]

  -- they have one rank
  rank-added : AreOfRank old.rank old.terms → AreOfRank old.rank by.terms → AreOfRank old.rank (old.terms ++ times num by.terms)
  rank-added ho hb = rank-of_keys old.rank (old.terms ++ times num by.terms) (λ key has. elim (keys-added key has) [
    | inl left ↦ keys-of_rank old.rank old.terms ho key left
    | inr right ↦ keys-of_rank old.rank by.terms hb key right
  ])

  -- their norm
  norm-added : norm_of (old.terms ++ times num by.terms) ≡ norm_of old.terms + unsigned_abs num * norm_of by.terms
  norm-added = omega (arith, sum_by-append (λ (u : ℤ × Codes). unsigned_abs u.0) old.terms (times num by.terms), norm-times_factor num by.terms)

  -- their weight
  weighed-added : (w : Codes → ℤ) → weighed w (old.terms ++ times num by.terms) ≡ weighed w old.terms +ℤ (num *ℤ weighed w by.terms)
  weighed-added w =
      weighed-append w old.terms (times num by.terms)
      ∙ ap (λ z. weighed w old.terms +ℤ z) (weighed-times_factor w num by.terms ∙ *ℤ_comm (weighed w by.terms) num)

  -- a multiple of a combination can be added to one over 1, where it has room
  added_exists : IsCanonical old.rank old.den old.terms → IsCanonical by.rank by.den by.terms → by.rank ≡ old.rank → old.den ≡ 1
      → norm_of old.terms + unsigned_abs num * norm_of by.terms < 2 ^ 127 → (new : Combination) × IsAdded old num by new
  added_exists ho hb same one room =
      let all : take (length by.terms) by.terms ≡ by.terms = take_all (length by.terms) by.terms (omega arith) in
      let g = gathered old.rank (old.terms ++ times num by.terms) (rank-added ho.ordered.ranks (λ i lt. hb.ordered.ranks i lt ∙ same)) (omega (arith, norm-added, room)) in (
        record { rank = old.rank; den = old.den; terms = g.0 },
        record {
          canonical = record { ordered = g.1.terms; lowest = subst (λ d. IsLowest d g.0) (sym one) (lowest_one g.0) };
          adds = record {
            rank = refl;
            den = refl;
            weighs = λ w. g.1.weighs w ∙ weighed-added w ∙ ap (λ us. weighed w old.terms +ℤ (num *ℤ weighed w us)) (sym all);
            keys = λ key has. keys-added key (g.1.keys key has);
            norm = subst (λ us. norm_of g.0 ≤ norm_of old.terms + unsigned_abs num * norm_of us) (sym all) (omega (arith, g.1.norm, norm-added));
          };
        },
      )

-- a canonical combination of the products gathered so far
record IsSoFar (bases : List BasisId) (ts us : Terms) (i j : ℕ) (c : Combination) : Type 0 where
  pub canonical : IsCanonical c.rank c.den c.terms
  pub gathered : AreGathered bases ts us i j c

module _ (bases : List BasisId) (a b : Combination) (factors : AreFactors bases a b) where
  -- the products gathered so far and the next one
  next_exists : (i j : ℕ) → i < length a.terms → j < length b.terms → (c : Combination) → IsSoFar bases a.terms b.terms i j c
      → (new : Combination) × IsSoFar bases a.terms b.terms i (suc j) new
  next_exists i j here there c so_far =
      let x = (term_at a.terms i).1 in
      let y = (term_at b.terms j).1 in
      let num = (term_at a.terms i).0 *ℤ (term_at b.terms j).0 in
      let p = keys_product_exists bases x y factors.some (factor_keys bases a b factors i j here there) in
      let room = next_room bases a b factors i j here there c so_far.gathered p.0 p.1 in
      let new = added_exists c num p.0 so_far.canonical p.1.canonical (p.1.rank ∙ sym so_far.gathered.rank) so_far.gathered.whole room in (
        new.0,
        record {
          canonical = new.1.canonical;
          gathered = subst (λ n. AreGathered bases a.terms b.terms i n new.0) (add-one j)
              (product_gathered bases a b factors i j here there c so_far.gathered p.0 p.1 new.0 new.1.adds);
        },
      )

  -- those of a term with the first j terms of the second list
  part_exists : (i : ℕ) → i < length a.terms → (c : Combination) → IsSoFar bases a.terms b.terms i 0 c → (j : ℕ) → j ≤ length b.terms
      → (new : Combination) × IsSoFar bases a.terms b.terms i j new
  part_exists i here c so_far zero le = (c, so_far)
  part_exists i here c so_far (suc j) le =
      let part = part_exists i here c so_far j (omega arith) in
      next_exists i j here (omega arith) part.0 part.1

  -- those of the first i terms with all of the second list
  rows_exist : (i : ℕ) → i ≤ length a.terms → (c : Combination) × IsSoFar bases a.terms b.terms i 0 c
  rows_exist zero le =
      let none : Combination = record { rank = length bases; den = 1; terms = [] } in
      (none, record { canonical = zero_canonical (length bases); gathered = none_gathered bases a.terms b.terms none (length bases) refl refl })
  rows_exist (suc i) le =
      let rows = rows_exist i (omega arith) in
      let row = part_exists i (omega arith) rows.0 rows.1 (length b.terms) (omega arith) in (
        row.0,
        record {
          canonical = row.1.canonical;
          gathered = subst (λ n. AreGathered bases a.terms b.terms n 0 row.0) (add-one i) (row_gathered bases a.terms b.terms i row.0 (omega arith) row.1.gathered);
        },
      )

  -- the products of each two terms can be gathered
  pub gathered_exists : (c : Combination) × IsGathered bases (degree_of_product bases a.terms b.terms) a b c
  gathered_exists =
      let all = rows_exist (length a.terms) (omega arith) in
      (all.0, all_gathered bases a b all.0 all.1.canonical all.1.gathered)

-- values over the same bases have a product, where it is within the limit and has room
pub product_value : (a b : Expansion) → IsValue a → IsValue b → b.bases ≡ a.bases → 1 ≤ length a.bases → degree_of_value a + degree_of_value b ≤ least_limit a.bases
    → All Passes (product_room (5 * (degree_of_value a + degree_of_value b)) a b) → (v : Expansion) × Expands a.bases (product (reading_of a) (reading_of b)) v
product_value a b ha hb same some within room =
    let x = a.combination in
    let y = b.combination in
    let n = degree_of_product a.bases x.terms y.terms in
    let degree : degree_of_value a + degree_of_value b ≡ n = ap (λ m. degree_of_value a + m) (sym (degree_over b a.bases same)) in
    let small : n ≤ least_limit a.bases = subst (λ m. m ≤ least_limit a.bases) degree within in
    let fits : norm_of x.terms * norm_of y.terms * 2 ^ (5 * n) < 2 ^ 127 =
    subst (λ m. norm_of x.terms * norm_of y.terms * 2 ^ (5 * m) < 2 ^ 127) degree (room_of_norms _ a b room) in
    let factors : AreFactors a.bases x y =
    record { some = some; built = ha.built; left_over = of_indices a a.bases ha refl; right_over = of_indices b a.bases hb same; degree = small; room = fits } in
    let g = gathered_exists a.bases x y factors in
    let by : Ratio = record { num = pos 1; den = x.den * y.den } in
    let positive : 1 ≤ x.den * y.den = omega (arith, mul-le-mul ha.canonical.lowest.positive hb.canonical.lowest.positive) in
    let dens : x.den * y.den < 2 ^ 127 = room_of_dens _ a b room in
    let whole : g.0.den * (x.den * y.den) ≡ 1 * (x.den * y.den) = ap (λ d. d * (x.den * y.den)) g.1.whole in
    let c = multiple_exists g.0 by g.1.canonical positive (omega (arith, dens, whole)) (omega (arith, g.1.canonical.ordered.small)) in (
      record { bases = a.bases; combination = c.0 },
      record {
        value = gathered_value a.bases n (x.den * y.den) x y g.0 c.0 ha.short ha.built small g.1 c.1.multiple c.1.canonical;
        over = refl;
        reads = λ ps points.
            subst (λ bases. AgreeAt (leaf a.bases c.0.den c.0.terms) (product (reading_of a) (leaf bases y.den y.terms)) ps) (sym same)
            (gathered_reads a.bases n x y g.0 c.0 g.1 c.1.multiple ps points);
      },
    )
