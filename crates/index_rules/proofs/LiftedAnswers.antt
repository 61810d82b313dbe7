-- Steps of the lift of a rule: the answers at the terms of a combination, gathered one by one.
use Rattle.std.proofs.Common.{◌≡◌, ℕ, zero, suc, ◌+◌, ◌*◌, ◌^◌, ◌<◌, ◌≤◌, length, List, [], ◌∷◌, ◌++◌, map, take, inl, inr, refl, sym, ◌∙◌, ap, subst, arith, unsigned_abs}
use Rattle.std.specs.Int.{◌∣◌}
use Rattle.std.proofs.Math.IntN.{pos, ◌*ℤ◌, *ℤ-one, *ℤ_comm, one}
use Rattle.std.proofs.Math.Nat.{mul-le-mul_left, mul-le-mul_right}
use Rattle.std.proofs.Math.Pow.{pow_mono}
use Rattle.std.proofs.lemmas.Int.{ints}
use Rattle.std.proofs.lemmas.List.{take_all}
use Rattle.basis_names.specs.declared.bases.BasisId.{BasisId}
use Rattle.hopf_num.proofs.Ring.{*ℤ-pos_cancel}
use Rattle.change_laws.specs.Lifts.{replaced, occurrence_beside}
use Rattle.change_laws.proofs.LiftedKeys.{weighed-replaced}
use Rattle.index_rules.specs.Lifting.{AddsReplaced, AreLifted, IsLiftedWhole}
use Rattle.index_rules.specs.Lifts.{PutFacts, IsPut, reads_as}
use Rattle.index_rules.specs.Rules.{IsAnswerWithin, greatest_of}
use Rattle.index_rules.proofs.ReducedCombos.{reduced}
use Rattle.linear_combos.specs.Combos.{IsMultiple, IsSumOfTerms}
use Rattle.linear_combos.proofs.Edits.{lowest_one}
use Rattle.linear_combos.proofs.Merging.{weighed-more}
use Rattle.linear_combos.proofs.Weights.{norm-more, norm-part}
use Rattle.realisations.specs.Bases.{kind_of}
use Rattle.realisations.specs.Codes.{Key}
use Rattle.realisations.specs.Combinations.{Combination, IsCanonical, HasKey, norm_of, term_at, weighed}
use Rattle.realisations.specs.Indices.{AreIndices}
use Rattle.realisations.specs.Points.{Points, ArePoints}
use Rattle.realisations.specs.Readings.{Terms, leaf, occurrence, numerator}
use Rattle.realisations.proofs.TuplesOfPoints.{length-points_over}

-- the answer is that for a key
abbrev pub AnswersKey : PutFacts → Key → Combination → Type 0
AnswersKey facts key c = IsAnswerWithin facts.growth facts.bases (facts.degree key) (facts.reading key) c

-- the degree of each key is at most the greatest
pub degree-le-greatest : (degree : Key → ℕ) (ts : Terms) (key : Key) → HasKey ts key → degree key ≤ greatest_of degree ts
degree-le-greatest degree [] key has = absurd (omega (arith, has.1))
degree-le-greatest degree (t ∷ ts) key (zero, lt, is) = omega (arith, ap degree is)
degree-le-greatest degree (t ∷ ts) key (suc i, lt, is) = let rest = degree-le-greatest degree ts key (i, omega (arith, lt), is) in omega (arith, rest)

-- before the first term there are none
pub none_lifted : (facts : PutFacts) (k width : ℕ) (ts : Terms) (c : Combination) (rank : ℕ) → rank + 1 ≡ width + length facts.bases → c ≡ record { rank = rank; den = 1; terms = [] }
    → AreLifted facts k width ts 0 c
none_lifted facts k width ts c rank long is =
    subst (AreLifted facts k width ts 0) (sym is) (record {
      rank = long;
      whole = refl;
      room = omega arith;
      norm = omega arith;
      keys = λ key has. absurd (omega (arith, has.1));
      reads = λ before after ps qs rs eb ep over points. refl;
    })

-- an answer put into component k reads as the answers for the key there
put_reads : (facts : PutFacts) (k : ℕ) (before after : List BasisId) (key : Key) (ps qs rs : Points) (p : Combination) → length before ≡ k → length ps ≡ k
    → AreIndices (before ++ facts.basis ∷ after) (facts.shorter key) → ArePoints (map kind_of facts.bases) qs → AnswersKey facts key p
    → weighed (λ codes. pos (occurrence (before ++ (facts.bases ++ after)) (replaced k codes (facts.shorter key)) (ps ++ (qs ++ rs)))) p.terms ≡ reads_as facts before after ps qs rs key
put_reads facts k before after key ps qs rs p eb ep over points is =
    subst (λ m. length ps ≡ m
    → weighed (λ codes. pos (occurrence (before ++ (facts.bases ++ after)) (replaced m codes (facts.shorter key)) (ps ++ (qs ++ rs)))) p.terms ≡ reads_as facts before after ps qs rs key) eb put_at ep
  where
    reads : numerator (leaf facts.bases 1 p.terms) qs ≡ numerator (facts.reading key) qs
    reads =
        *ℤ-pos_cancel (numerator (leaf facts.bases 1 p.terms) qs) (numerator (facts.reading key) qs) 1 (omega arith)
        (ap (λ m. numerator (leaf facts.bases 1 p.terms) qs *ℤ pos m) (sym (facts.whole key)) ∙ is.answer.reads qs points)

    put_at : length ps ≡ length before
        → weighed (λ codes. pos (occurrence (before ++ (facts.bases ++ after)) (replaced (length before) codes (facts.shorter key)) (ps ++ (qs ++ rs)))) p.terms ≡ reads_as facts before after ps qs rs key
    put_at same =
        weighed-replaced before after facts.bases facts.basis (facts.shorter key) p.terms ps qs rs over is.answer.indices same (length-points_over facts.bases qs points)
        ∙ ap (λ z. pos (occurrence_beside before after (facts.shorter key) ps rs) *ℤ z) reads

-- the norm with an answer more, whose own norm is within the growth p
more_norm : (n a x p q : ℕ) → n ≤ a * p → q ≤ p → n + x * q ≤ (a + x) * p
more_norm n a x p q so_far small = omega (arith, mul-le-mul_left x small)

module _ (facts : PutFacts) (k width : ℕ) (ts : Terms) (i : ℕ) (here : i < length ts) (mid : Combination) (so_far : AreLifted facts k width ts i mid)
    (p : Combination) (is : AnswersKey facts (term_at ts i).1 p) where
  -- the norm with the next answer, where the answer has at most b bits for each degree
  answer_norm : (b : ℕ) → norm_of mid.terms ≤ norm_of (take i ts) * 2 ^ (b * greatest_of facts.degree ts) → norm_of p.terms ≤ 2 ^ (b * facts.degree (term_at ts i).1)
      → norm_of mid.terms + unsigned_abs (term_at ts i).0 * norm_of p.terms ≤ (norm_of (take i ts) + unsigned_abs (term_at ts i).0) * 2 ^ (b * greatest_of facts.degree ts)
  answer_norm b before small =
      let degrees : b * facts.degree (term_at ts i).1 ≤ b * greatest_of facts.degree ts = mul-le-mul_left b (degree-le-greatest facts.degree ts ((term_at ts i).1) (i, here, refl)) in
      more_norm (norm_of mid.terms) (norm_of (take i ts)) (unsigned_abs (term_at ts i).0) (2 ^ (b * greatest_of facts.degree ts)) (norm_of p.terms) before (omega (arith, small, pow_mono degrees))

  -- the next answer has room
  pub answer_room : norm_of ts * 2 ^ (5 * greatest_of facts.degree ts) < 2 ^ 127 → norm_of mid.terms + unsigned_abs (term_at ts i).0 * norm_of p.terms < 2 ^ 127
  answer_room room =
      let part : norm_of (take i ts) + unsigned_abs (term_at ts i).0 ≤ norm_of ts = omega (arith, norm-more ts i here, norm-part ts (i + 1)) in
      omega (arith, answer_norm 5 so_far.room is.answer.small, mul-le-mul_right (2 ^ (5 * greatest_of facts.degree ts)) part, room)

  new_norm : (new : Combination) → AddsReplaced mid (term_at ts i).0 k (facts.shorter (term_at ts i).1) p.terms (length p.terms) new → (b : ℕ) → norm_of mid.terms ≤ norm_of (take i ts) * 2 ^ (b * greatest_of facts.degree ts)
      → norm_of p.terms ≤ 2 ^ (b * facts.degree (term_at ts i).1) → norm_of new.terms ≤ norm_of (take (i + 1) ts) * 2 ^ (b * greatest_of facts.degree ts)
  new_norm new adds b before small =
      omega (
        arith,
        adds.norm,
        ap (λ us. unsigned_abs (term_at ts i).0 * norm_of us) (take_all (length p.terms) p.terms (omega arith)),
        answer_norm b before small,
        ap (λ n. n * 2 ^ (b * greatest_of facts.degree ts)) (norm-more ts i here),
      )

  -- and was put into the key
  pub answer_lifted : (new : Combination) → AddsReplaced mid (term_at ts i).0 k (facts.shorter (term_at ts i).1) p.terms (length p.terms) new → AreLifted facts k width ts (i + 1) new
  answer_lifted new adds =
      let num = (term_at ts i).0 in
      let key : Key = (term_at ts i).1 in
      let whole : take (length p.terms) p.terms ≡ p.terms = take_all (length p.terms) p.terms (omega arith) in
      record {
        rank = ap (λ n. n + 1) adds.rank ∙ so_far.rank;
        whole = adds.den ∙ so_far.whole;
        room = new_norm new adds 5 so_far.room is.answer.small;
        norm = new_norm new adds facts.growth so_far.norm is.norm;
        keys = λ k' has. elim (adds.keys k' has) [
          | inl old ↦ so_far.keys k' old
          | inr put ↦ record { key = key; codes = put.0; has = (i, here, refl); is = put.2; indices = is.answer.indices put.0 put.1; degrees = is.answer.degrees put.0 put.1 }
        ];
        reads = λ before after ps qs rs eb ep over points.
            let w = λ (k' : Key). pos (occurrence (before ++ (facts.bases ++ after)) k' (ps ++ (qs ++ rs))) in
            let f = λ (codes : Key). w (replaced k codes (facts.shorter key)) in
            let put = put_reads facts k before after key ps qs rs p eb ep (over key (i, here, refl)) points is in
            omega (
              arith,
              ints,
              adds.weighs w,
              so_far.reads before after ps qs rs eb ep over points,
              ap (λ us. num *ℤ weighed f us) whole,
              ap (λ z. num *ℤ z) put,
              weighed-more (reads_as facts before after ps qs rs) ts i here,
            );
      }

-- the answers at all terms, gathered
pub all_gathered : (facts : PutFacts) (k width : ℕ) (old mid new : Combination) → AreLifted facts k width old.terms (length old.terms) mid → IsSumOfTerms mid.rank mid.terms new → IsLiftedWhole facts k width old new
all_gathered facts k width old mid new is sum = record {
  canonical = subst (λ r. IsCanonical r new.den new.terms) (sym sum.rank_is) (subst (λ d. IsCanonical mid.rank d new.terms) (sym sum.whole) (record { ordered = sum.gathers.terms; lowest = lowest_one new.terms }));
  all = record {
    rank = ap (λ n. n + 1) sum.rank_is ∙ is.rank;
    whole = sum.whole;
    room = omega (arith, sum.gathers.norm, is.room);
    norm = omega (arith, sum.gathers.norm, is.norm);
    keys = λ key has. is.keys key (sum.gathers.keys key has);
    reads = λ before after ps qs rs eb ep over points.
        sum.gathers.weighs (λ key. pos (occurrence (before ++ (facts.bases ++ after)) key (ps ++ (qs ++ rs))))
        ∙ is.reads before after ps qs rs eb ep over points;
  };
}

-- the lift over 1, divided by the denominator
pub lift_over : (facts : PutFacts) (k width : ℕ) (old whole new : Combination) (den : ℕ) → den ≡ old.den → IsCanonical old.rank old.den old.terms → IsLiftedWhole facts k width old whole → IsCanonical new.rank new.den new.terms
    → IsMultiple whole (record { num = pos 1; den = den }) new → IsPut facts k width old new
unfolding one
lift_over facts k width old whole new den same old_canonical is canonical over = record {
  canonical = canonical;
  rank = ap (λ n. n + 1) over.rank ∙ is.all.rank;
  keys = λ key has. is.all.keys key (over.keys key has);
  reads = λ before after ps qs rs eb ep keys points.
      let w = λ (key : Key). pos (occurrence (before ++ (facts.bases ++ after)) key (ps ++ (qs ++ rs))) in
      let value = weighed w new.terms in
      let dens : pos old.den ≡ pos whole.den *ℤ pos den =
      ap pos (sym same) ∙ sym (*ℤ-one (pos den)) ∙ *ℤ_comm (pos den) (pos 1) ∙ ap (λ m. pos m *ℤ pos den) (sym is.all.whole) in
      ap (λ z. value *ℤ z) dens
      ∙ over.weighs w
      ∙ ap (λ z. z *ℤ pos new.den) (*ℤ-one _ ∙ is.all.reads before after ps qs rs eb ep keys points ∙ ap (weighed (reads_as facts before after ps qs rs)) all);
  den = subst (λ d. new.den ∣ d) same small.0;
  norm = omega (arith, small.1, is.all.norm, ap (λ ts. norm_of ts * 2 ^ (facts.growth * greatest_of facts.degree old.terms)) all);
}
  where
    all : take (length old.terms) old.terms ≡ old.terms
    all = take_all (length old.terms) old.terms (omega arith)

    small : (new.den ∣ den) × (norm_of new.terms ≤ norm_of whole.terms)
    small = reduced whole new den (omega (arith, same, old_canonical.lowest.positive)) (omega (arith, same, old_canonical.lowest.small)) is.canonical.ordered is.all.whole canonical over
