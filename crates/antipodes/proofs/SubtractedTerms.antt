-- Steps of taking a multiple of a combination of codes away, each of them followed by a second code.
use Rattle.std.proofs.Common.{◌≡◌, ℕ, ◌+◌, ◌*◌, ◌^◌, ◌<◌, ◌≤◌, [], ◌∷◌, length, take, inl, inr, refl, ◌∙◌, ap, arith, unsigned_abs}
use Rattle.std.specs.Prelude.{slice_index_or}
use Rattle.std.proofs.Math.IntN.{ℤ, neg_ℤ, ◌+ℤ◌, ◌*ℤ◌, *ℤ-zero, *ℤ_comm}
use Rattle.std.proofs.Math.Nat.{mul-le-mul_left}
use Rattle.std.proofs.lemmas.Int.{ints, unsigned_abs-mul}
use Rattle.hopf_num.proofs.Ring.{*ℤ-+ℤ, *ℤ_assoc, *ℤ-neg_ℤ}
use Rattle.antipode_laws.specs.Recursion.{first_code}
use Rattle.antipodes.specs.Subtracting.{SubtractsFollowed}
use Rattle.linear_combos.proofs.Merging.{weighed-more}
use Rattle.linear_combos.proofs.Weights.{norm-more, norm-part}
use Rattle.realisations.specs.Codes.{Code, Key}
use Rattle.realisations.specs.Combinations.{Combination, norm_of, term_at, weighed, AddsTerm}
use Rattle.realisations.specs.Readings.{Terms}

-- a factor before the weight of one term more
scaled-more : (x : ℤ) (w : Key → ℤ) (ts : Terms) (i : ℕ) → i < length ts
    → x *ℤ weighed w (take (i + 1) ts) ≡ x *ℤ weighed w (take i ts) +ℤ ((x *ℤ (term_at ts i).0) *ℤ w (term_at ts i).1)
scaled-more x w ts i lt =
    ap (λ z. x *ℤ z) (weighed-more w ts i lt) ∙ *ℤ-+ℤ x (weighed w (take i ts)) ((term_at ts i).0 *ℤ w (term_at ts i).1)
    ∙ ap (λ z. x *ℤ weighed w (take i ts) +ℤ z) (*ℤ_assoc x (term_at ts i).0 (w (term_at ts i).1))

-- minus a number times another
neg-times : (x y : ℤ) → neg_ℤ x *ℤ y ≡ neg_ℤ (x *ℤ y)
neg-times x y = *ℤ_comm (neg_ℤ x) y ∙ *ℤ-neg_ℤ y x ∙ ap neg_ℤ (*ℤ_comm y x)

-- the absolute value of minus a number
pub abs-neg : (x : ℤ) → unsigned_abs (neg_ℤ x) ≡ unsigned_abs x
abs-neg x = omega (arith, ints)

-- the first code of a key, as a key shows it
pub first_read : (key : Key) (code : Code) → length key ≡ 1 → code ≡ slice_index_or key 0 code → code ≡ first_code key
first_read [] code long is = absurd (omega (arith, long))
first_read (a ∷ key) code long is = is

-- before the first term nothing was taken away
pub subtracts_none : (old : Combination) (num : ℤ) (second : Code) (by : Terms) → SubtractsFollowed old num second by 0 old
subtracts_none old num second by = record { rank = refl; den = refl; weighs = λ w. omega (arith, ints, *ℤ-zero num); keys = λ k' has. inl has; norm = omega arith }

module _ (old : Combination) (num : ℤ) (second : Code) (by : Terms) (i : ℕ) (mid : Combination) (so_far : SubtractsFollowed old num second by i mid) (here : i < length by) where
  -- the multiple of the next term has room
  pub term_room : norm_of old.terms + unsigned_abs num * norm_of by < 2 ^ 127 → norm_of mid.terms + unsigned_abs (num *ℤ (term_at by i).0) < 2 ^ 127
  term_room room =
      omega (
        arith,
        so_far.norm,
        unsigned_abs-mul num (term_at by i).0,
        ap (λ n. unsigned_abs num * n) (norm-more by i here),
        mul-le-mul_left (unsigned_abs num) (norm-part by (i + 1)),
        room,
      )

  -- and was taken away
  pub subtracts_more : (new : Combination) (m : ℤ) (put : Key) → m ≡ neg_ℤ (num *ℤ (term_at by i).0) → put ≡ first_code ((term_at by i).1) ∷ second ∷ [] → new.rank ≡ mid.rank → new.den ≡ mid.den
      → AddsTerm mid.terms new.terms m put → norm_of new.terms ≤ norm_of mid.terms + unsigned_abs m → SubtractsFollowed old num second by (i + 1) new
  subtracts_more new m put m_is put_is rank den adds norm = record {
    rank = rank ∙ so_far.rank;
    den = den ∙ so_far.den;
    weighs = λ w.
        let f : Key → ℤ = λ codes. w (first_code codes ∷ second ∷ []) in
        let term : m *ℤ w put ≡ neg_ℤ ((num *ℤ (term_at by i).0) *ℤ f (term_at by i).1) = (λ n. m_is n *ℤ w (put_is n)) ∙ neg-times (num *ℤ (term_at by i).0) (f (term_at by i).1) in
        omega (arith, ints, adds.weighs w, so_far.weighs w, scaled-more num f by i here, term);
    keys = λ k' has. elim (adds.keys k' has) [
      | inl old_key ↦ so_far.keys k' old_key
      | inr same ↦ inr ((term_at by i).1, (i, here, refl), same ∙ put_is)
    ];
    norm = omega (
      arith,
      norm,
      so_far.norm,
      ap (λ z. unsigned_abs z) m_is,
      abs-neg (num *ℤ (term_at by i).0),
      unsigned_abs-mul num (term_at by i).0,
      ap (λ n. unsigned_abs num * n) (norm-more by i here),
    );
  }
