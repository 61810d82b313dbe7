-- Steps of the gathered product of two combinations.
use Rattle.std.proofs.Common.{◌≡◌, ℕ, ◌+◌, ◌*◌, ◌^◌, ◌<◌, ◌≤◌, ◌⊎◌, [], length, List, map, take, inl, inr, refl, sym, ◌∙◌, ap, subst, arith, unsigned_abs}
use Rattle.std.proofs.Math.IntN.{ℤ, pos, ◌+ℤ◌, ◌*ℤ◌, *ℤ-zero}
use Rattle.std.proofs.Math.Nat.{mul-le-mul_left, mul-le-mul_right}
use Rattle.std.proofs.Math.Pow.{pow_mono}
use Rattle.std.proofs.lemmas.Nat.{pow_pos}
use Rattle.std.proofs.lemmas.Int.{ints, unsigned_abs-mul}
use Rattle.std.proofs.lemmas.List.{take_all}
use Rattle.hopf_num.proofs.Ring.{*ℤ-+ℤ, *ℤ_assoc, *ℤ-pos_cancel}
use Rattle.realisations.specs.Combinations.{Combination, IsCanonical, HasKey, norm_of, term_at, weighed, AddsTerm}
use Rattle.realisations.specs.Indices.{AreIndices, total_degree}
use Rattle.realisations.specs.Bases.{kind_of}
use Rattle.realisations.specs.Points.{ArePoints}
use Rattle.realisations.specs.Readings.{Terms, leaf, product, of_key, occurrence, numerator}
use Rattle.realisations.proofs.Coefficients.{Codes}
use Rattle.realisations.proofs.Linearity.{reads_bilinearly}
use Rattle.linear_combos.specs.Combos.{IsSumOfTerms}
use Rattle.linear_combos.proofs.Edits.{lowest_one}
use Rattle.linear_combos.proofs.Merging.{weighed-more}
use Rattle.linear_combos.proofs.Weights.{norm-more, norm-part}
use Rattle.basis_names.specs.declared.bases.BasisId.{BasisId}
use Rattle.basis_routes.proofs.Degrees.{degree-le-greatest}
use Rattle.hopf_ops.specs.Gathering.{IsGathered, AreFactors, AreFactorKeys, IsProductOfKeys, AreGathered, AddsMultiple, degree_of_product}

-- a factor before the weight of one term more
scaled-more : (x : ℤ) (w : Codes → ℤ) (ts : Terms) (i : ℕ) → i < length ts
    → x *ℤ weighed w (take (i + 1) ts) ≡ x *ℤ weighed w (take i ts) +ℤ ((x *ℤ (term_at ts i).0) *ℤ w (term_at ts i).1)
scaled-more x w ts i lt =
    ap (λ z. x *ℤ z) (weighed-more w ts i lt) ∙ *ℤ-+ℤ x (weighed w (take i ts)) ((term_at ts i).0 *ℤ w (term_at ts i).1)
    ∙ ap (λ z. x *ℤ weighed w (take i ts) +ℤ z) (*ℤ_assoc x (term_at ts i).0 (w (term_at ts i).1))

-- before the first term nothing was added
pub adds_none : (old : Combination) (num : ℤ) (by : Terms) → AddsMultiple old num by 0 old
adds_none old num by = record { rank = refl; den = refl; weighs = λ w. omega (arith, ints, *ℤ-zero num); keys = λ key has. inl has; norm = omega arith }

module _ (old : Combination) (num : ℤ) (by : Terms) (i : ℕ) (mid : Combination) (so_far : AddsMultiple old num by i mid) (here : i < length by) where
  -- the multiple of the next term has room
  pub multiple_room : norm_of old.terms + unsigned_abs num * norm_of by < 2 ^ 127 → norm_of mid.terms + unsigned_abs (num *ℤ (term_at by i).0) < 2 ^ 127
  multiple_room room =
      omega (
        arith,
        so_far.norm,
        unsigned_abs-mul num (term_at by i).0,
        ap (λ n. unsigned_abs num * n) (norm-more by i here),
        mul-le-mul_left (unsigned_abs num) (norm-part by (i + 1)),
        room,
      )

  -- and was added
  pub multiple_more : (new : Combination) (m : ℤ) (key : Codes) → m ≡ num *ℤ (term_at by i).0 → key ≡ (term_at by i).1 → new.rank ≡ mid.rank → new.den ≡ mid.den
      → AddsTerm mid.terms new.terms m key → norm_of new.terms ≤ norm_of mid.terms + unsigned_abs m → AddsMultiple old num by (i + 1) new
  multiple_more new m key m_is key_is rank den adds norm = record {
    rank = rank ∙ so_far.rank;
    den = den ∙ so_far.den;
    weighs = λ w.
        let term : m *ℤ w key ≡ (num *ℤ (term_at by i).0) *ℤ w (term_at by i).1 = λ n. m_is n *ℤ w (key_is n) in
        omega (arith, ints, adds.weighs w, so_far.weighs w, scaled-more num w by i here, term);
    keys = λ k has. elim (adds.keys k has) [
      | inl old_key ↦ so_far.keys k old_key
      | inr same ↦ inr (i, here, sym key_is ∙ sym same)
    ];
    norm = omega (
      arith,
      norm,
      so_far.norm,
      ap (λ z. unsigned_abs z) m_is,
      unsigned_abs-mul num (term_at by i).0,
      ap (λ n. unsigned_abs num * n) (norm-more by i here),
    );
  }

-- the norm with a product of two terms more, whose own norm is within the growth p
more_norm : (n a u x v y p q : ℕ) → n ≤ (a * u + x * v) * p → q ≤ p → n + x * y * q ≤ (a * u + x * (v + y)) * p
more_norm n a u x v y p q so_far small = omega (arith, mul-le-mul_left (x * y) small)

-- whole rows and a part of the next one are within all products
part_norm : (n a u x v p : ℕ) → a + x ≤ n → v ≤ u → (a * u + x * v) * p ≤ n * u * p
part_norm n a u x v p rows part =
    let within : a * u + x * v ≤ n * u = omega (arith, mul-le-mul_left x part, mul-le-mul_right u rows) in
    mul-le-mul_right p within

-- before the first product there are no terms
pub none_gathered : (bases : List BasisId) (ts us : Terms) (c : Combination) (rank : ℕ) → rank ≡ length bases → c ≡ record { rank = rank; den = 1; terms = [] } → AreGathered bases ts us 0 0 c
none_gathered bases ts us c rank long is =
    subst (AreGathered bases ts us 0 0) (sym is) (record {
      rank = long;
      whole = refl;
      indices = λ key has. absurd (omega (arith, has.1));
      degrees = λ key has. absurd (omega (arith, has.1));
      norm = omega arith;
      reads = λ ps points. omega (arith, ints, *ℤ-zero (term_at ts 0).0);
    })

module _ (bases : List BasisId) (a b : Combination) (factors : AreFactors bases a b) (i j : ℕ) (here : i < length a.terms) (there : j < length b.terms) where
  -- the keys of two terms have a product
  pub factor_keys : AreFactorKeys bases ((term_at a.terms i).1) ((term_at b.terms j).1)
  factor_keys = record {
    built = factors.built;
    left_indices = factors.left_over.indices _ (i, here, refl);
    right_indices = factors.right_over.indices _ (j, there, refl);
    degree = omega (arith, factors.degree, degree-le-greatest bases a.terms ((term_at a.terms i).1) (i, here, refl), degree-le-greatest bases b.terms ((term_at b.terms j).1) (j, there, refl));
  }

  -- the norm up to the next product is within all
  next_norm : (norm_of (take i a.terms) * norm_of b.terms + unsigned_abs (term_at a.terms i).0 * (norm_of (take j b.terms) + unsigned_abs (term_at b.terms j).0))
      * 2 ^ (5 * degree_of_product bases a.terms b.terms) < 2 ^ 127
  next_norm =
      let rows : norm_of (take i a.terms) + unsigned_abs (term_at a.terms i).0 ≤ norm_of a.terms = omega (arith, norm-more a.terms i here, norm-part a.terms (i + 1)) in
      let part : norm_of (take j b.terms) + unsigned_abs (term_at b.terms j).0 ≤ norm_of b.terms = omega (arith, norm-more b.terms j there, norm-part b.terms (j + 1)) in
      omega (
        arith,
        factors.room,
        part_norm (norm_of a.terms) (norm_of (take i a.terms)) (norm_of b.terms) (unsigned_abs (term_at a.terms i).0)
            (norm_of (take j b.terms) + unsigned_abs (term_at b.terms j).0) (2 ^ (5 * degree_of_product bases a.terms b.terms)) rows part,
      )

  -- the product of their numerators has room
  pub numerators_room : unsigned_abs ((term_at a.terms i).0 *ℤ (term_at b.terms j).0) < 2 ^ 127
  numerators_room =
      let growth = 2 ^ (5 * degree_of_product bases a.terms b.terms) in
      let some : 1 ≤ growth = omega (arith, pow_pos (5 * degree_of_product bases a.terms b.terms)) in
      omega (
        arith,
        unsigned_abs-mul (term_at a.terms i).0 (term_at b.terms j).0,
        mul-le-mul_left (unsigned_abs (term_at a.terms i).0 * unsigned_abs (term_at b.terms j).0) some,
        more_norm 0 (norm_of (take i a.terms)) (norm_of b.terms) (unsigned_abs (term_at a.terms i).0) (norm_of (take j b.terms)) (unsigned_abs (term_at b.terms j).0) growth growth (omega arith) (omega arith),
        next_norm,
      )

module _ (bases : List BasisId) (a b : Combination) (factors : AreFactors bases a b) (i j : ℕ) (here : i < length a.terms) (there : j < length b.terms)
    (c : Combination) (so_far : AreGathered bases a.terms b.terms i j c) (p : Combination) (is : IsProductOfKeys bases ((term_at a.terms i).1) ((term_at b.terms j).1) p) where
  -- the norm with the next product
  product_norm : norm_of c.terms + unsigned_abs ((term_at a.terms i).0 *ℤ (term_at b.terms j).0) * norm_of p.terms
      ≤ (norm_of (take i a.terms) * norm_of b.terms + unsigned_abs (term_at a.terms i).0 * (norm_of (take j b.terms) + unsigned_abs (term_at b.terms j).0))
      * 2 ^ (5 * degree_of_product bases a.terms b.terms)
  product_norm =
      let degrees : 5 * (total_degree bases (term_at a.terms i).1 + total_degree bases (term_at b.terms j).1) ≤ 5 * degree_of_product bases a.terms b.terms =
      omega (arith, degree-le-greatest bases a.terms ((term_at a.terms i).1) (i, here, refl), degree-le-greatest bases b.terms ((term_at b.terms j).1) (j, there, refl)) in
      let small : norm_of p.terms ≤ 2 ^ (5 * degree_of_product bases a.terms b.terms) = omega (arith, is.small, pow_mono degrees) in
      rw (unsigned_abs-mul (term_at a.terms i).0 (term_at b.terms j).0)
      (more_norm (norm_of c.terms) (norm_of (take i a.terms)) (norm_of b.terms) (unsigned_abs (term_at a.terms i).0) (norm_of (take j b.terms)) (unsigned_abs (term_at b.terms j).0)
      (2 ^ (5 * degree_of_product bases a.terms b.terms)) (norm_of p.terms) so_far.norm small)

  -- the next product has room
  pub product_room : norm_of c.terms + unsigned_abs ((term_at a.terms i).0 *ℤ (term_at b.terms j).0) * norm_of p.terms < 2 ^ 127
  product_room = omega (arith, product_norm, next_norm bases a b factors i j here there)

  -- keys of the sum so far or of the next product
  product_key : (key : Codes) → HasKey c.terms key ⊎ HasKey p.terms key → AreIndices bases key × (total_degree bases key ≤ degree_of_product bases a.terms b.terms)
  product_key key (inl has) = (so_far.indices key has, so_far.degrees key has)
  product_key key (inr has) = (
    is.indices key has,
    omega (arith, is.degrees key has, degree-le-greatest bases a.terms ((term_at a.terms i).1) (i, here, refl), degree-le-greatest bases b.terms ((term_at b.terms j).1) (j, there, refl)),
  )

  -- the product reads as that of the keys
  product_reads : (ps : Codes) → ArePoints (map kind_of bases) ps
      → numerator (leaf bases 1 p.terms) ps ≡ numerator (product (of_key bases ((term_at a.terms i).1)) (of_key bases ((term_at b.terms j).1))) ps
  product_reads ps points =
      *ℤ-pos_cancel _ _ 1 (omega arith) (is.reads ps points)

  -- a multiple of it was added
  pub product_gathered : (new : Combination) → AddsMultiple c ((term_at a.terms i).0 *ℤ (term_at b.terms j).0) p.terms (length p.terms) new → AreGathered bases a.terms b.terms i (j + 1) new
  product_gathered new adds =
      let x = (term_at a.terms i).0 in
      let y = (term_at b.terms j).0 in
      let whole : take (length p.terms) p.terms ≡ p.terms = take_all (length p.terms) p.terms (omega arith) in
      record {
        rank = adds.rank ∙ so_far.rank;
        whole = adds.den ∙ so_far.whole;
        indices = λ key has. (product_key key (adds.keys key has)).0;
        degrees = λ key has. (product_key key (adds.keys key has)).1;
        norm = omega (
          arith,
          adds.norm,
          ap (λ us. unsigned_abs (x *ℤ y) * norm_of us) whole,
          product_norm,
          ap (λ n. (norm_of (take i a.terms) * norm_of b.terms + unsigned_abs x * n) * 2 ^ (5 * degree_of_product bases a.terms b.terms)) (norm-more b.terms j there),
        );
        reads = λ ps points.
            let w = λ (key : Codes). pos (occurrence bases key ps) in
            let g = λ (l : Codes). numerator (product (of_key bases ((term_at a.terms i).1)) (of_key bases l)) ps in
            let added : (x *ℤ y) *ℤ weighed w (take (length p.terms) p.terms) ≡ (x *ℤ y) *ℤ g (term_at b.terms j).1 =
            ap (λ us. (x *ℤ y) *ℤ weighed w us) whole ∙ ap (λ z. (x *ℤ y) *ℤ z) (product_reads ps points) in
            omega (arith, ints, adds.weighs w, so_far.reads ps points, added, scaled-more x g b.terms j there);
      }

-- a row is finished
pub row_gathered : (bases : List BasisId) (ts us : Terms) (i : ℕ) (c : Combination) → i < length ts → AreGathered bases ts us i (length us) c → AreGathered bases ts us (i + 1) 0 c
row_gathered bases ts us i c here is =
    let x = (term_at ts i).0 in
    let growth = 2 ^ (5 * degree_of_product bases ts us) in
    let whole : take (length us) us ≡ us = take_all (length us) us (omega arith) in
    record {
      rank = is.rank;
      whole = is.whole;
      indices = is.indices;
      degrees = is.degrees;
      norm = omega (arith, is.norm, ap (λ l. unsigned_abs x * norm_of l * growth) whole, ap (λ n. n * norm_of us * growth) (norm-more ts i here));
      reads = λ ps points.
          let f = λ (k l : Codes). numerator (product (of_key bases k) (of_key bases l)) ps in
          omega (
            arith,
            ints,
            is.reads ps points,
            ap (λ l. x *ℤ weighed (f (term_at ts i).1) l) whole,
            weighed-more (λ k. weighed (f k) us) ts i here,
            *ℤ-zero (term_at ts (i + 1)).0,
          );
    }

-- what gathers terms that are products is made of the same products
gathers_kept : (bases : List BasisId) (ts us : Terms) (i j : ℕ) (c d : Combination) → AreGathered bases ts us i j c → IsSumOfTerms c.rank c.terms d → AreGathered bases ts us i j d
gathers_kept bases ts us i j c d old sum = record {
  rank = sum.rank_is ∙ old.rank;
  whole = sum.whole;
  indices = λ key has. old.indices key (sum.gathers.keys key has);
  degrees = λ key has. old.degrees key (sum.gathers.keys key has);
  norm = omega (arith, sum.gathers.norm, old.norm);
  reads = λ ps points. sum.gathers.weighs (λ key. pos (occurrence bases key ps)) ∙ old.reads ps points;
}

-- and is canonical
sum_canonical : (rank : ℕ) (ts : Terms) (d : Combination) → IsSumOfTerms rank ts d → IsCanonical d.rank d.den d.terms
sum_canonical rank ts d sum =
    subst (λ r. IsCanonical r d.den d.terms) (sym sum.rank_is) (subst (λ n. IsCanonical rank n d.terms) (sym sum.whole) (record { ordered = sum.gathers.terms; lowest = lowest_one d.terms }))

-- all rows are the product
pub all_gathered : (bases : List BasisId) (a b c : Combination) → IsCanonical c.rank c.den c.terms → AreGathered bases a.terms b.terms (length a.terms) 0 c
    → IsGathered bases (degree_of_product bases a.terms b.terms) a b c
all_gathered bases a b c canonical is =
    let whole : take (length a.terms) a.terms ≡ a.terms = take_all (length a.terms) a.terms (omega arith) in
    record {
      canonical = canonical;
      whole = is.whole;
      over = record { rank = is.rank; indices = is.indices };
      degrees = is.degrees;
      reads = λ ps points.
          let f = λ (k l : Codes). numerator (product (of_key bases k) (of_key bases l)) ps in
          let all : numerator (leaf bases 1 c.terms) ps ≡ weighed (λ k. weighed (f k) b.terms) a.terms =
          omega (arith, ints, is.reads ps points, ap (weighed (λ k. weighed (f k) b.terms)) whole, *ℤ-zero (term_at a.terms (length a.terms)).0) in
          all ∙ sym (reads_bilinearly bases a.den b.den a.terms b.terms ps);
    }

-- the sum of all products
pub sum_gathered : (bases : List BasisId) (a b c d : Combination) → AreGathered bases a.terms b.terms (length a.terms) 0 c → IsSumOfTerms c.rank c.terms d
    → IsGathered bases (degree_of_product bases a.terms b.terms) a b d
sum_gathered bases a b c d all sum = all_gathered bases a b d (sum_canonical c.rank c.terms d sum) (gathers_kept bases a.terms b.terms (length a.terms) 0 c d all sum)
