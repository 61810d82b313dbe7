-- How many words become a monomial once letters commute, at which an element occurs: letter by letter, by the coproduct of the element.
use Rattle.std.proofs.Common.{◌≡◌, ℕ, zero, suc, ◌+◌, ◌*◌, List, [], ◌∷◌, map, replicate, refl, sym, ◌∙◌, ap, subst, arith}
use Rattle.std.specs.List.{AllByRecursion}
use Rattle.std.proofs.Math.IntN.{pos, ◌*ℤ◌}
use Rattle.std.proofs.lemmas.Int.{ints}
use Rattle.basis_names.specs.declared.bases.BasisId.{BasisId}
use Rattle.realisations.specs.Bases.{kind_of}
use Rattle.realisations.specs.Codes.{Code}
use Rattle.realisations.specs.Indices.{IsIndex, degree_of}
use Rattle.realisations.specs.Lists.{one_if}
use Rattle.realisations.specs.Occurrence.{occurs}
use Rattle.realisations.specs.Points.{Point, word, IsPoint, ArePoints}
use Rattle.realisations.specs.Readings.{commute, on_ordinal_sum}
use Rattle.realisations.specs.Words.{raise, shuffles, words_from, words_of}
use Rattle.realisations.proofs.PointsOfReadings.{at_points as points_law, word_replicated}
use Rattle.realisations.proofs.Sums.{sums, sums-add, sums-flat_map, sums-scale, sums_none, sums_same}
use Rattle.coproduct_laws.specs.Coproducts.{IsCoproductRule}
use Rattle.coproduct_laws.proofs.CoproductCounts.{at_pair, at_points}
use Rattle.coproduct_laws.proofs.Shuffling.{over_shuffles, over_shuffles-map}
use Rattle.coproduct_rules.proofs.KeyReadings.{numerator-coproduct, numerator-pairs}
use Rattle.inclusion_laws.proofs.LetterOne.{greatest_ones}

-- at how many of the words that become a monomial an element occurs
abbrev pub words_at : BasisId → Code → Point → ℕ
words_at basis code p = sums (λ w. one_if (occurs basis code w)) (words_of p)

-- the words from a later letter on are the raised words
words_raised : (f : List ℕ → ℕ) (i : ℕ) (p : Point) → sums f (words_from (suc i) p) ≡ sums (λ w. f (raise 1 w)) (words_from i p)
words_raised f i [] = refl
words_raised f i (n ∷ p) =
    sums-flat_map f (λ w. shuffles (replicate n (suc i)) w) (words_from (suc (suc i)) p)
    ∙ words_raised (λ w. over_shuffles f (replicate n (suc i)) w) (suc i) p
    ∙ sums_same (λ w. over_shuffles f (replicate n (suc i)) (raise 1 w)) (λ w. over_shuffles (λ v. f (raise 1 v)) (replicate n i) w)
    (λ w. ap (λ u. over_shuffles f u (raise 1 w)) (sym (raised_block n)) ∙ over_shuffles-map f (λ x. 1 + x) (replicate n i) w) (words_from (suc i) p)
    ∙ sym (sums-flat_map (λ v. f (raise 1 v)) (λ w. shuffles (replicate n i) w) (words_from (suc i) p))
  where
    next : 1 + i ≡ suc i
    next = omega arith

    raised_block : (n : ℕ) → map (λ x. 1 + x) (replicate n i) ≡ replicate n (suc i)
    raised_block zero = refl
    raised_block (suc n) = λ j. next j ∷ raised_block n j

-- what holds for each point of a list
pub sums_every : {X : Type 0} (P : X → Type 0) (f g : X → ℕ) → ((x : X) → P x → f x ≡ g x) → (xs : List X) → AllByRecursion P xs → sums f xs ≡ sums g xs
sums_every P f g same [] h = refl
sums_every P f g same (x ∷ xs) h = omega (arith, same x h.0, sums_every P f g same xs h.1)

-- two sums change places
sums_turned : {X Y : Type 0} (f : X → Y → ℕ) (xs : List X) (ys : List Y) → sums (λ x. sums (f x) ys) xs ≡ sums (λ y. sums (λ x. f x y) xs) ys
sums_turned f [] ys = sym (sums_none (λ y. 0) (λ y. refl) ys)
sums_turned f (x ∷ xs) ys = ap (λ n. sums (f x) ys + n) (sums_turned f xs ys) ∙ sym (sums-add (f x) (λ y. sums (λ x'. f x' y) xs) ys)

-- the words that become a monomial are points
pub words_are_points : (p : Point) → AllByRecursion (IsPoint word) (words_of p)
words_are_points p = from (words_of p) (points_law.operations commute 0 (word ∷ []) (p ∷ []) (λ e. absurd (cc)) (tt, tt))
  where
    from : (ws : List (List ℕ)) → AllByRecursion (λ (r : ℕ × List (List ℕ)). ArePoints (word ∷ []) r.1) (map (λ q. (0, q ∷ [])) ws) → AllByRecursion (IsPoint word) ws
    from [] h = tt
    from (w ∷ ws) h = (h.0.0, from ws h.1)

-- a coproduct rule is an equation between two counts
pub rule_counts : (basis : BasisId) (code : Code) (pairs : List (Code × Code)) → IsCoproductRule basis code pairs → (u v : Point) → IsPoint (kind_of basis) u → IsPoint (kind_of basis) v
    → at_points basis code (on_ordinal_sum (kind_of basis) u v) ≡ at_pair basis u v pairs
rule_counts basis code pairs rule u v hu hv =
    let same : pos (at_pair basis u v pairs) *ℤ pos 1 ≡ pos (at_points basis code (on_ordinal_sum (kind_of basis) u v)) *ℤ pos 1 =
    ap (λ z. z *ℤ pos 1) (sym (numerator-pairs basis u v pairs)) ∙ rule.reads u v hu hv ∙ ap (λ z. z *ℤ pos 1) (numerator-coproduct basis code u v) in
    omega (arith, ints, same)

-- a basis of words whose indices have images: raised words make no difference, nor do zeros; the coproduct of an index goes to that of its image at a first exponent; and they occur alike at the empty word and at words of one letter
pub record HasImages (from to : BasisId) (image : Code → Code) : Type 0 where
  pub words : kind_of from ≡ word
  pub pairs : Code → List (Code × Code)
  pub rule : (code : Code) → IsIndex from code → IsCoproductRule from code (pairs code)
  pub raised : (code : Code) (w : Point) → occurs from code (raise 1 w) ≡ occurs from code w
  pub zeros : (code : Code) (p : Point) → occurs to code (0 ∷ p) ≡ occurs to code p
  pub nothing : (code : Code) → IsIndex from code → occurs from code [] ≡ occurs to (image code) []
  pub block : (n : ℕ) (code : Code) → IsIndex from code → occurs from code (replicate (suc n) 1) ≡ occurs to (image code) (suc n ∷ [])
  pub images : (n : ℕ) (p : Point) (code : Code) → IsIndex from code
      → one_if (occurs to (image code) (suc n ∷ p)) ≡ sums (λ (e : Code × Code). one_if (occurs to (image e.0) (suc n ∷ [])) * one_if (occurs to (image e.1) p)) (pairs code)

module _ (from to : BasisId) (image : Code → Code) (has : HasImages from to image) where
  -- a first exponent n + 1 puts a block of letters 1 among raised words
  first_block : (n : ℕ) (p : Point) (code : Code) → IsIndex from code
      → words_at from code (suc n ∷ p) ≡ sums (λ (e : Code × Code). one_if (occurs from e.0 (replicate (suc n) 1)) * words_at from e.1 p) (has.pairs code)
  first_block n p code is =
      let f : List ℕ → ℕ = λ w. one_if (occurs from code w) in
      let ones : List ℕ = replicate (suc n) 1 in
      let term : Point → Code × Code → ℕ = λ w e. one_if (occurs from e.0 ones) * one_if (occurs from e.1 w) in
      sums-flat_map f (λ w. shuffles ones w) (words_from 2 p)
      ∙ words_raised (λ w. over_shuffles f ones w) 1 p
      ∙ sums_every (IsPoint word) (λ w. over_shuffles f ones (raise 1 w)) (λ w. sums (term w) (has.pairs code))
      (λ w point. ap (λ g. over_shuffles f ones (raise g w)) (sym (greatest_ones n)) ∙ counts w point) (words_of p) (words_are_points p)
      ∙ sums_turned term (words_of p) (has.pairs code)
      ∙ sums_same (λ (e : Code × Code). sums (λ w. term w e) (words_of p)) (λ (e : Code × Code). one_if (occurs from e.0 ones) * words_at from e.1 p)
      (λ e. sums-scale (one_if (occurs from e.0 ones)) (λ w. one_if (occurs from e.1 w)) (words_of p)) (has.pairs code)
    where
      counts : (w : Point) → IsPoint word w → at_points from code (on_ordinal_sum word (replicate (suc n) 1) w) ≡ at_pair from (replicate (suc n) 1) w (has.pairs code)
      counts w point =
          let is_word = sym has.words in
          ap (λ kind. at_points from code (on_ordinal_sum kind (replicate (suc n) 1) w)) is_word
          ∙ rule_counts from code (has.pairs code) (has.rule code is) (replicate (suc n) 1) w
          (subst (λ kind. IsPoint kind (replicate (suc n) 1)) is_word (word_replicated (suc n) 1 (omega arith))) (subst (λ kind. IsPoint kind w) is_word point)

  -- so an element occurs at as many of the words that become a monomial as its image occurs there
  pub words_at-image : (p : Point) (code : Code) → IsIndex from code → words_at from code p ≡ one_if (occurs to (image code) p)
  words_at-image [] code is = omega (arith, ap one_if (has.nothing code is))
  words_at-image (zero ∷ p) code is =
      sums-flat_map (λ w. one_if (occurs from code w)) (λ w. w ∷ []) (words_from 2 p)
      ∙ words_raised (λ w. one_if (occurs from code w) + 0) 1 p
      ∙ sums_same (λ w. one_if (occurs from code (raise 1 w)) + 0) (λ w. one_if (occurs from code w)) (λ w. omega (arith, ap one_if (has.raised code w))) (words_of p)
      ∙ words_at-image p code is
      ∙ ap one_if (sym (has.zeros (image code) p))
  words_at-image (suc n ∷ p) code is =
      first_block n p code is
      ∙ sums_every (λ (e : Code × Code). IsIndex from e.0 × IsIndex from e.1 × (degree_of from e.0 + degree_of from e.1 ≡ degree_of from code))
      (λ (e : Code × Code). one_if (occurs from e.0 (replicate (suc n) 1)) * words_at from e.1 p)
      (λ (e : Code × Code). one_if (occurs to (image e.0) (suc n ∷ [])) * one_if (occurs to (image e.1) p))
      (λ e h. (λ i. one_if (has.block n e.0 h.0 i) * words_at-image p e.1 h.1 i)) (has.pairs code) (has.rule code is).indices
      ∙ sym (has.images n p code is)
