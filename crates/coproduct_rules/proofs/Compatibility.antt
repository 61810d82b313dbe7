-- The coproduct of a product of two elements is the product of their coproducts.
use Rattle.std.proofs.Common.{◌≡◌, ℕ, ◌+◌, ◌*◌, ◌<◌, ◌≤◌, List, [], ◌∷◌, ◌++◌, map, refl, sym, ◌∙◌, ap, arith}
use Rattle.std.proofs.Math.IntN.{ℤ, pos, ◌+ℤ◌, ◌*ℤ◌}
use Rattle.std.proofs.lemmas.Int.{ints}
use Rattle.std.specs.List.{flat_map}
use Rattle.realisations.specs.Lists.{one_if, int_sum, with_sign}
use Rattle.realisations.specs.Words.{greatest, raise, shuffles, shifted_shuffles}
use Rattle.realisations.specs.Exponents.{number_cuts, exponent_cuts}
use Rattle.realisations.specs.Standardisation.{pack}
use Rattle.basis_names.specs.declared.bases.BasisId.{BasisId}
use Rattle.realisations.specs.Points.{Kind, exponents, word, pattern, IsPoint}
use Rattle.realisations.specs.Bases.{kind_of}
use Rattle.realisations.specs.Occurrence.{occurs}
use Rattle.realisations.specs.Readings.{applied, coproduct, product, element, numerator, on_ordinal_sum, cuts, all_cuts}
use Rattle.realisations.proofs.Pattern.{occurs-pattern}
use Rattle.realisations.proofs.Sums.{sums, sums-map, sums-flat_map, sums-scale, sums_same}
use Rattle.coproduct_rules.specs.Laws.{CompatibilityLaw}
use Rattle.coproduct_rules.proofs.DoubleSums.{sums-scale_right}
use Rattle.coproduct_laws.proofs.LowAndHigh.{AreLow}
use Rattle.basis_representatives.proofs.PackedWords.{letters_to_greatest}
use Rattle.coproduct_laws.proofs.CoproductCounts.{at_points}
use Rattle.coproduct_rules.proofs.KeyReadings.{numerator-coproduct}
use Rattle.coproduct_laws.proofs.Shuffling.{over_shuffles}
use Rattle.coproduct_rules.proofs.ShuffleCuts.{over_word_cuts, over_word_cuts_same, over_parts, cuts_of_shuffles, over_word_cuts-map}
use Rattle.coproduct_rules.proofs.RaisedShuffles.{pack_alike}

-- sums of integers that are natural numbers
int_sum-pos : {X : Type 0} (h : X → ℤ) (g : X → ℕ) → ((x : X) → h x ≡ pos (g x)) → (xs : List X) → int_sum (map h xs) ≡ pos (sums g xs)
int_sum-pos h g same [] = refl
int_sum-pos h g same (x ∷ xs) = omega (arith, ints, same x, int_sum-pos h g same xs)

-- a sum over a mapped list
int_sum-map : {X Y : Type 0} (h : Y → ℤ) (f : X → Y) (xs : List X) → int_sum (map h (map f xs)) ≡ int_sum (map (λ x. h (f x)) xs)
int_sum-map h f [] = refl
int_sum-map h f (x ∷ xs) = ap (λ z. h (f x) +ℤ z) (int_sum-map h f xs)

-- a sum over two lists
int_sum-append : {X : Type 0} (h : X → ℤ) (xs ys : List X) → int_sum (map h (xs ++ ys)) ≡ int_sum (map h xs) +ℤ int_sum (map h ys)
int_sum-append h [] ys = omega (arith, ints)
int_sum-append h (x ∷ xs) ys = omega (arith, ints, int_sum-append h xs ys)

-- a sum over lists that are made of others
int_sum-flat_map : {X Y : Type 0} (h : Y → ℤ) (f : X → List Y) (xs : List X) → int_sum (map h (flat_map f xs)) ≡ int_sum (map (λ x. int_sum (map h (f x))) xs)
int_sum-flat_map h f [] = refl
int_sum-flat_map h f (x ∷ xs) = int_sum-append h (f x) (flat_map f xs) ∙ ap (λ z. int_sum (map h (f x)) +ℤ z) (int_sum-flat_map h f xs)

module _ (basis : BasisId) (a b : List ℕ) where
  -- how often the product occurs at a point, as a sum over its cuts
  abbrev product_at : List ℕ → ℕ
  product_at x = sums (λ c. one_if (occurs basis a c.0) * one_if (occurs basis b c.1)) (cuts (kind_of basis) x)

  -- the product of two elements at a point
  numerator-product : (x : List ℕ) → numerator (product (element basis a) (element basis b)) (x ∷ []) ≡ pos (product_at x)
  numerator-product x =
      int_sum-flat_map _ (λ (c : List ℕ × List ℕ). map (λ (d : List (List ℕ) × List (List ℕ)). (c.0 ∷ d.0, c.1 ∷ d.1)) (([], []) ∷ [])) (cuts (kind_of basis) x)
      ∙ int_sum-pos _ (λ c. one_if (occurs basis a c.0) * one_if (occurs basis b c.1)) (λ c. omega (arith, ints)) (cuts (kind_of basis) x)

  -- the coproduct of the product
  left_side : (u v : List ℕ) → numerator (applied coproduct 0 (product (element basis a) (element basis b))) (u ∷ v ∷ []) ≡ pos (sums product_at (on_ordinal_sum (kind_of basis) u v))
  left_side u v =
      int_sum-map (λ (r : ℕ × List (List ℕ)). with_sign r.0 (numerator (product (element basis a) (element basis b)) r.1)) (λ p. (0, p ∷ [])) (on_ordinal_sum (kind_of basis) u v)
      ∙ int_sum-pos _ product_at numerator-product (on_ordinal_sum (kind_of basis) u v)

  -- the product of the coproducts
  abbrev cut_at : List ℕ → List ℕ → ℕ
  cut_at u v =
      sums (λ c. sums (λ d. at_points basis a (on_ordinal_sum (kind_of basis) c.0 d.0) * at_points basis b (on_ordinal_sum (kind_of basis) c.1 d.1)) (cuts (kind_of basis) v)) (cuts (kind_of basis) u)

  -- the product of the coproducts at two points
  right_side : (u v : List ℕ) → numerator (product (applied coproduct 0 (element basis a)) (applied coproduct 0 (element basis b))) (u ∷ v ∷ []) ≡ pos (cut_at u v)
  right_side u v =
      int_sum-flat_map factors (λ (c : List ℕ × List ℕ). map (λ (d : List (List ℕ) × List (List ℕ)). (c.0 ∷ d.0, c.1 ∷ d.1)) (all_cuts (kind_of basis ∷ []) (v ∷ []))) (cuts (kind_of basis) u)
      ∙ int_sum-pos _ _
      (λ c. int_sum-map factors (λ (d : List (List ℕ) × List (List ℕ)). (c.0 ∷ d.0, c.1 ∷ d.1)) (all_cuts (kind_of basis ∷ []) (v ∷ []))
      ∙ int_sum-flat_map (λ (d : List (List ℕ) × List (List ℕ)). factors (c.0 ∷ d.0, c.1 ∷ d.1)) (λ (d : List ℕ × List ℕ). map (λ (e : List (List ℕ) × List (List ℕ)). (d.0 ∷ e.0, d.1 ∷ e.1)) (([], []) ∷ [])) (cuts (kind_of basis) v)
      ∙ int_sum-pos _ (λ d. at_points basis a (on_ordinal_sum (kind_of basis) c.0 d.0) * at_points basis b (on_ordinal_sum (kind_of basis) c.1 d.1)) (λ d. both c d) (cuts (kind_of basis) v)) (cuts (kind_of basis) u)
    where
      factors : List (List ℕ) × List (List ℕ) → ℤ
      factors e = numerator (applied coproduct 0 (element basis a)) e.0 *ℤ numerator (applied coproduct 0 (element basis b)) e.1

      both : (c d : List ℕ × List ℕ)
          → (numerator (applied coproduct 0 (element basis a)) (c.0 ∷ d.0 ∷ []) *ℤ numerator (applied coproduct 0 (element basis b)) (c.1 ∷ d.1 ∷ [])) +ℤ pos 0
          ≡ pos (at_points basis a (on_ordinal_sum (kind_of basis) c.0 d.0) * at_points basis b (on_ordinal_sum (kind_of basis) c.1 d.1))
      both c d = (λ i. (numerator-coproduct basis a c.0 d.0 i *ℤ numerator-coproduct basis b c.1 d.1 i) +ℤ pos 0) ∙ omega (arith, ints)

-- the cuts of two lists of exponents one after another are the cuts of both
exponent_cuts-append : (f : List ℕ → List ℕ → ℕ) (u v : List ℕ)
    → sums (λ c. f c.0 c.1) (exponent_cuts (u ++ v)) ≡ sums (λ c. sums (λ d. f (c.0 ++ d.0) (c.1 ++ d.1)) (exponent_cuts v)) (exponent_cuts u)
exponent_cuts-append f [] v = omega arith
exponent_cuts-append f (n ∷ u) v =
    cut f (u ++ v)
    ∙ sums_same _ _ (λ (e : ℕ × ℕ). exponent_cuts-append (λ p q. f (e.0 ∷ p) (e.1 ∷ q)) u v) (number_cuts n)
    ∙ sym (cut (λ p q. sums (λ d. f (p ++ d.0) (q ++ d.1)) (exponent_cuts v)) u)
  where
    cut : (h : List ℕ → List ℕ → ℕ) (w : List ℕ) → sums (λ c. h c.0 c.1) (exponent_cuts (n ∷ w)) ≡ sums (λ e. sums (λ c. h (e.0 ∷ c.0) (e.1 ∷ c.1)) (exponent_cuts w)) (number_cuts n)
    cut h w =
        sums-flat_map (λ (c : List ℕ × List ℕ). h c.0 c.1) (λ (e : ℕ × ℕ). map (λ (c : List ℕ × List ℕ). (e.0 ∷ c.0, e.1 ∷ c.1)) (exponent_cuts w)) (number_cuts n)
        ∙ sums_same _ _ (λ (e : ℕ × ℕ). sums-map (λ (c : List ℕ × List ℕ). h c.0 c.1) (λ (c : List ℕ × List ℕ). (e.0 ∷ c.0, e.1 ∷ c.1)) (exponent_cuts w)) (number_cuts n)

-- a product of two sums over shuffles
parts_apart : (f h : List ℕ → ℕ) (p q c d : List ℕ) → over_parts (λ x y. f x * h y) p q c d ≡ over_shuffles f p c * over_shuffles h q d
parts_apart f h p q c d =
    sums_same _ (λ x. f x * over_shuffles h q d) (λ x. sums-scale (f x) h (shuffles q d)) (shuffles p c) ∙ sums-scale_right (over_shuffles h q d) f (shuffles p c)

-- an element of a word basis occurs as often at the shuffles of u and v, however far v is raised above u
module _ (basis : BasisId) (is : kind_of basis ≡ word) where
  -- an element of a word basis occurs at a word as at its packing
  word_pattern : (code x : List ℕ) → occurs basis code x ≡ occurs basis code (pack x)
  word_pattern code x = occurs-pattern basis code x ∙ ap (λ kind. occurs basis code (pattern kind x)) is

  -- the sum over the shuffles is the same however far v is raised above u
  raised_alike : (code : List ℕ) (g : ℕ) (u v : List ℕ) → AreLow g u → IsPoint word v
      → over_shuffles (λ x. one_if (occurs basis code x)) u (raise g v) ≡ over_shuffles (λ x. one_if (occurs basis code x)) u (raise (greatest u) v)
  raised_alike code g u v low positive =
      pack_alike (λ x. one_if (occurs basis code x)) (λ x y same. ap one_if (word_pattern code x ∙ ap (λ w. occurs basis code w) same ∙ sym (word_pattern code y))) g u v low positive

  -- both sides for words
  word_sides : (a b u v : List ℕ) → IsPoint word v
      → sums (λ x. over_word_cuts (λ p q. one_if (occurs basis a p) * one_if (occurs basis b q)) x) (shifted_shuffles u v)
      ≡ over_word_cuts (λ p q. over_word_cuts (λ c d. at_points basis a (shifted_shuffles p c) * at_points basis b (shifted_shuffles q d)) v) u
  word_sides a b u v positive =
      cuts_of_shuffles (λ p q. one_if (occurs basis a p) * one_if (occurs basis b q)) u (raise (greatest u) v)
      ∙ over_word_cuts_same (λ x. x ≤ greatest u) _ _ u (letters_to_greatest u (greatest u) (omega arith))
      (λ p q low low'. over_word_cuts-map (λ x. greatest u + x) (λ c d. over_parts (λ x y. one_if (occurs basis a x) * one_if (occurs basis b y)) p q c d) v
      ∙ over_word_cuts_same (λ x. 0 < x) _ _ v positive
      (λ c d hc hd. parts_apart (λ x. one_if (occurs basis a x)) (λ x. one_if (occurs basis b x)) p q (raise (greatest u) c) (raise (greatest u) d)
      ∙ (λ i. raised_alike a (greatest u) p c low hc i * raised_alike b (greatest u) q d low' hd i)))

-- by kinds
sides : (basis : BasisId) (kind : Kind) → kind_of basis ≡ kind → (a b u v : List ℕ) → IsPoint kind v
    → sums (λ x. sums (λ c. one_if (occurs basis a c.0) * one_if (occurs basis b c.1)) (cuts kind x)) (on_ordinal_sum kind u v)
    ≡ sums (λ c. sums (λ d. at_points basis a (on_ordinal_sum kind c.0 d.0) * at_points basis b (on_ordinal_sum kind c.1 d.1)) (cuts kind v)) (cuts kind u)
sides basis exponents is a b u v hv =
    one_point _ ∙ exponent_cuts-append (λ p q. one_if (occurs basis a p) * one_if (occurs basis b q)) u v
    ∙ sums_same _ _ (λ (c : List ℕ × List ℕ). sums_same _ _ (λ (d : List ℕ × List ℕ). omega arith) (exponent_cuts v)) (exponent_cuts u)
  where
    one_point : (n : ℕ) → n + 0 ≡ n
    one_point n = omega arith
sides basis word is a b u v hv = word_sides basis is a b u v hv

-- the coproduct of a product of two elements reads as the product of their coproducts
pub compatible : CompatibilityLaw
compatible basis a b u v hu hv =
    ap (λ z. z *ℤ pos 1) (left_side basis a b u v ∙ ap pos (sides basis (kind_of basis) refl a b u v hv) ∙ sym (right_side basis a b u v))
