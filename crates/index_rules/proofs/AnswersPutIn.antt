-- Steps of adding a multiple of an answer, put into a component of a key.
use Rattle.std.proofs.Common.{◌≡◌, ℕ, ◌+◌, ◌*◌, ◌^◌, ◌<◌, ◌≤◌, length, take, inl, inr, refl, ◌∙◌, ap, arith, unsigned_abs}
use Rattle.std.proofs.Math.IntN.{ℤ, ◌+ℤ◌, ◌*ℤ◌, *ℤ-zero}
use Rattle.std.proofs.Math.Nat.{mul-le-mul_left}
use Rattle.std.proofs.lemmas.Int.{ints, unsigned_abs-mul}
use Rattle.hopf_num.proofs.Ring.{*ℤ-+ℤ, *ℤ_assoc}
use Rattle.change_laws.specs.Lifts.{replaced}
use Rattle.index_rules.specs.Lifting.{AddsReplaced}
use Rattle.linear_combos.proofs.Merging.{weighed-more}
use Rattle.linear_combos.proofs.Weights.{norm-more, norm-part}
use Rattle.realisations.specs.Codes.{Key}
use Rattle.realisations.specs.Combinations.{Combination, norm_of, term_at, weighed, AddsTerm}
use Rattle.realisations.specs.Readings.{Terms}

-- a factor before the weight of one term more
scaled-more : (x : ℤ) (w : Key → ℤ) (ts : Terms) (i : ℕ) → i < length ts
    → x *ℤ weighed w (take (i + 1) ts) ≡ x *ℤ weighed w (take i ts) +ℤ ((x *ℤ (term_at ts i).0) *ℤ w (term_at ts i).1)
scaled-more x w ts i lt =
    ap (λ z. x *ℤ z) (weighed-more w ts i lt) ∙ *ℤ-+ℤ x (weighed w (take i ts)) ((term_at ts i).0 *ℤ w (term_at ts i).1)
    ∙ ap (λ z. x *ℤ weighed w (take i ts) +ℤ z) (*ℤ_assoc x (term_at ts i).0 (w (term_at ts i).1))

-- before the first term nothing was added
pub adds_none : (old : Combination) (num : ℤ) (k : ℕ) (key : Key) (by : Terms) → AddsReplaced old num k key by 0 old
adds_none old num k key by = record { rank = refl; den = refl; weighs = λ w. omega (arith, ints, *ℤ-zero num); keys = λ k' has. inl has; norm = omega arith }

module _ (old : Combination) (num : ℤ) (k : ℕ) (key : Key) (by : Terms) (i : ℕ) (mid : Combination) (so_far : AddsReplaced old num k key by i mid) (here : i < length by) where
  -- the multiple of the next term has room
  pub term_room : norm_of old.terms + unsigned_abs num * norm_of by < 2 ^ 127 → norm_of mid.terms + unsigned_abs (num *ℤ (term_at by i).0) < 2 ^ 127
  term_room room =
      omega (
        arith,
        so_far.norm,
        unsigned_abs-mul num (term_at by i).0,
        ap (λ n. unsigned_abs num * n) (norm-more by i here),
        mul-le-mul_left (unsigned_abs num) (norm-part by (i + 1)),
        room,
      )

  -- and was added
  pub adds_more : (new : Combination) (m : ℤ) (put : Key) → m ≡ num *ℤ (term_at by i).0 → put ≡ replaced k ((term_at by i).1) key → new.rank ≡ mid.rank → new.den ≡ mid.den
      → AddsTerm mid.terms new.terms m put → norm_of new.terms ≤ norm_of mid.terms + unsigned_abs m → AddsReplaced old num k key by (i + 1) new
  adds_more new m put m_is put_is rank den adds norm = record {
    rank = rank ∙ so_far.rank;
    den = den ∙ so_far.den;
    weighs = λ w.
        let f : Key → ℤ = λ codes. w (replaced k codes key) in
        let term : m *ℤ w put ≡ (num *ℤ (term_at by i).0) *ℤ f (term_at by i).1 = λ n. m_is n *ℤ w (put_is n) in
        omega (arith, ints, adds.weighs w, so_far.weighs w, scaled-more num f by i here, term);
    keys = λ k' has. elim (adds.keys k' has) [
      | inl old_key ↦ so_far.keys k' old_key
      | inr same ↦ inr ((term_at by i).1, (i, here, refl), same ∙ put_is)
    ];
    norm = omega (
      arith,
      norm,
      so_far.norm,
      ap (λ z. unsigned_abs z) m_is,
      unsigned_abs-mul num (term_at by i).0,
      ap (λ n. unsigned_abs num * n) (norm-more by i here),
    );
  }
