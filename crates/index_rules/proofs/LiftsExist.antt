-- The law of existence of lifts: where each key has an answer, all of them can be put into a component and gathered.
use Rattle.std.proofs.Common.{◌≡◌, ℕ, zero, suc, ◌+◌, ◌-◌, ◌*◌, ◌^◌, ◌<◌, ◌≤◌, length, [], refl, sym, ◌∙◌, ap, subst, arith, unsigned_abs, add-one}
use Rattle.std.proofs.Math.IntN.{ℤ, ◌*ℤ◌}
use Rattle.change_laws.specs.Lifts.{code_at, replaced}
use Rattle.index_rules.specs.Laws.{LiftExistsLaw, ProductsExistLaw}
use Rattle.index_rules.specs.Lifting.{AddsReplaced, AreLifted, IsLiftedWhole}
use Rattle.index_rules.specs.Lifts.{PutFacts, IsPut, one_code, two_codes}
use Rattle.index_rules.specs.Rules.{greatest_of}
use Rattle.index_rules.proofs.AnswersPutIn.{adds_none, adds_more, term_room}
use Rattle.index_rules.proofs.LiftedAnswers.{AnswersKey, none_lifted, answer_room, answer_lifted, lift_over}
use Rattle.index_rules.proofs.ReducedCombos.{divided_exists}
use Rattle.index_rules.proofs.ReplacedKeys.{length-replaced}
use Rattle.linear_combos.proofs.Edits.{lowest_one, zero_canonical}
use Rattle.linear_combos.proofs.Gathering.{add_exists}
use Rattle.linear_combos.specs.Combos.{HasRank}
use Rattle.realisations.specs.Codes.{Key}
use Rattle.realisations.specs.Combinations.{Combination, AreTerms, IsCanonical, IsLowest, HasKey, norm_of, term_at}
use Rattle.realisations.specs.Readings.{Terms}

-- canonical terms to which a multiple of the first terms of a list was added, each put into component k of a key
record IsAdded (old : Combination) (num : ℤ) (k : ℕ) (key : Key) (by : Terms) (i : ℕ) (new : Combination) : Type 0 where
  ordered : AreTerms new.rank new.terms
  adds : AddsReplaced old num k key by i new

-- where they have room, they can be added one by one
module _ (old : Combination) (num : ℤ) (k : ℕ) (key : Key) (rank : ℕ) (by : Terms) (ordered : AreTerms old.rank old.terms) (ranks : HasRank rank by) (here : k < length key)
    (long : length key + rank ≡ old.rank + 1) (room : norm_of old.terms + unsigned_abs num * norm_of by < 2 ^ 127) where
  added_exists : (i : ℕ) → i ≤ length by → (new : Combination) × IsAdded old num k key by i new
  added_exists zero le = (old, record { ordered = ordered; adds = adds_none old num k key by })
  added_exists (suc i) le =
      let lt : i < length by = omega (arith, le) in
      let (mid, so_far) = added_exists i (omega (arith, le)) in
      let put : Key = replaced k (term_at by i).1 key in
      let fits : length put ≡ mid.rank = omega (arith, length-replaced k (term_at by i).1 key here, ranks i lt, long, so_far.adds.rank) in
      let (us, is) = add_exists mid.rank mid.terms (num *ℤ (term_at by i).0) put so_far.ordered fits (term_room old num k key by i mid so_far.adds lt room) in
      let new : Combination = record { rank = mid.rank; den = mid.den; terms = us } in (
        new,
        record {
          ordered = is.terms;
          adds = subst (λ n. AddsReplaced old num k key by n new) (add-one i) (adds_more old num k key by i mid so_far.adds lt new (num *ℤ (term_at by i).0) put refl refl refl refl is.adds is.norm);
        },
      )

-- canonical terms of the answers at the first terms
record IsSoFar (facts : PutFacts) (k width : ℕ) (ts : Terms) (i : ℕ) (c : Combination) : Type 0 where
  ordered : AreTerms c.rank c.terms
  lifted : AreLifted facts k width ts i c

module _ (facts : PutFacts) (k width : ℕ) (old : Combination) (canonical : IsCanonical old.rank old.den old.terms) (here : k < width)
    (long : (key : Key) → HasKey old.terms key → length (facts.shorter key) ≡ width)
    (answers : (key : Key) → HasKey old.terms key → (c : Combination) × AnswersKey facts key c)
    (room : norm_of old.terms * 2 ^ (5 * greatest_of facts.degree old.terms) < 2 ^ 127) where
  -- the answers so far and the next one
  next_exists : (i : ℕ) → i < length old.terms → (mid : Combination) → IsSoFar facts k width old.terms i mid → (new : Combination) × IsSoFar facts k width old.terms (suc i) new
  next_exists i lt mid so_far =
      let num = (term_at old.terms i).0 in
      let key : Key = (term_at old.terms i).1 in
      let (p, is) = answers key (i, lt, refl) in
      let wide : length (facts.shorter key) ≡ width = long key (i, lt, refl) in
      let (new, adds) = added_exists mid num k (facts.shorter key) p.rank p.terms so_far.ordered is.answer.canonical.ordered.ranks (omega (arith, wide, here))
      (omega (arith, wide, is.answer.rank, so_far.lifted.rank)) (answer_room facts k width old.terms i lt mid so_far.lifted p is room) (length p.terms) (omega arith) in (
        new,
        record { ordered = adds.ordered; lifted = subst (λ n. AreLifted facts k width old.terms n new) (add-one i) (answer_lifted facts k width old.terms i lt mid so_far.lifted p is new adds.adds) },
      )

  -- all answers, gathered one by one
  all_exist : (i : ℕ) → i ≤ length old.terms → (c : Combination) × IsSoFar facts k width old.terms i c
  all_exist zero le =
      let rank = width - 1 + length facts.bases in
      let none : Combination = record { rank = rank; den = 1; terms = [] } in
      (none, record { ordered = (zero_canonical rank).ordered; lifted = none_lifted facts k width old.terms none rank (omega (arith, here)) refl })
  all_exist (suc i) le = let (mid, so_far) = all_exist i (omega (arith, le)) in next_exists i (omega (arith, le)) mid so_far

  -- over 1 and then over the denominator they are what is put in
  pub put_exists : (new : Combination) × IsPut facts k width old new
  put_exists =
      let (whole, all) = all_exist (length old.terms) (omega arith) in
      let lifted : IsLiftedWhole facts k width old whole = record {
        canonical = record { ordered = all.ordered; lowest = subst (λ d. IsLowest d whole.terms) (sym all.lifted.whole) (lowest_one whole.terms) };
        all = all.lifted;
      } in
      let (new, lowest, over) = divided_exists whole old.den canonical.lowest.positive canonical.lowest.small all.ordered all.lifted.whole in
      (new, lift_over facts k width old whole new old.den refl canonical lifted lowest over)

-- the keys have as many codes as the combination
rank_of-key : (c : Combination) → IsCanonical c.rank c.den c.terms → (key : Key) → HasKey c.terms key → length key ≡ c.rank
rank_of-key c canonical key (i, lt, is) = ap (λ (v : Key). length v) (sym is) ∙ canonical.ordered.ranks i lt

-- rules with answers have lifts
pub lifts_exist : LiftExistsLaw
lifts_exist facts answers k old canonical can =
    put_exists (one_code facts k) k old.rank old canonical can.here (rank_of-key old canonical) (λ key has. answers (code_at k key) (can.indices key has)) can.room

-- and neighbours with products can be multiplied
pub products_exist : ProductsExistLaw
products_exist basis growth products k old canonical can =
    put_exists (two_codes basis growth k) k (old.rank - 1) old canonical (omega (arith, can.here))
    (λ key has. let rank = rank_of-key old canonical key has in omega (arith, length-replaced (suc k) [] key (omega (arith, rank, can.here)), rank))
    (λ key has. let factors = can.factors key has in products (code_at k key) (code_at (suc k) key) factors.first factors.second factors.degree) can.room
