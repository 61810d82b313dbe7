-- Words that are split into blocks of given lengths, each of which passes a test, and their shuffles.
use Rattle.std.proofs.Common.{◌≡◌, ℕ, zero, suc, ◌+◌, ◌*◌, ◌<◌, ◌≤◌, Bool, true, List, [], ◌∷◌, map, length, refl, sym, ◌∙◌, ap, arith}
use Rattle.std.proofs.lemmas.List.{length-map}
use Rattle.realisations.specs.Lists.{same_list, one_if}
use Rattle.realisations.specs.Words.{shuffles, word_cuts}
use Rattle.realisations.specs.Exponents.{number_cuts, exponent_cuts, without_zeros}
use Rattle.realisations.proofs.Sums.{sums, sums-map, sums-flat_map, sums-scale, sums_same, sums_none, one_if_same, over_cuts_single}
use Rattle.coproduct_rules.proofs.DoubleSums.{sums_swap, sums_times, sums-scale_right}
use Rattle.coproduct_laws.proofs.LowAndHigh.{AreLow, AreHigh}
use Rattle.coproduct_laws.proofs.Shuffling.{over_shuffles}
use Rattle.coproduct_laws.proofs.ShuffleCounts.{shuffle_count}
use Rattle.coproduct_laws.proofs.Rearrangements.{over_rearrangements}
use Rattle.coproduct_rules.proofs.RearrangedLengths.{rearranges-length}
use Rattle.coproduct_rules.proofs.ShuffleCuts.{over_word_cuts, over_word_cuts-step, over_word_cuts-map, over_word_cuts_same, over_parts, cuts_of_shuffles}

-- in how many ways, one or none, a word is cut into blocks of these lengths that pass a test
abbrev pub splits : (List ℕ → Bool) → List ℕ → List ℕ → ℕ
splits test [] w = one_if (same_list w [])
splits test (i ∷ parts) w = over_word_cuts (λ a b. one_if_same (length a) i * (one_if (test a) * splits test parts b)) w

-- the length of a shuffle
shuffle_lengths : (f : ℕ → List ℕ → ℕ) (u v : List ℕ) → over_shuffles (λ w. f (length w) w) u v ≡ over_shuffles (λ w. f (length u + length v) w) u v
shuffle_lengths f u v =
    over_rearrangements (λ w. f (length w) w) (λ w. f (length u + length v) w) u v
    (λ w r. ap (λ n. f n w) (rearranges-length u v w r))

-- a number is cut into two numbers in all ways, each of which one of two sums picks
convolution : {X Y : Type 0} (left : X → ℕ) (right : Y → ℕ) (f : X → ℕ) (g : Y → ℕ) (n : ℕ) (xs : List X) (ys : List Y)
    → sums (λ m. sums (λ x. one_if_same (left x) m.0 * f x) xs * sums (λ y. one_if_same (right y) m.1 * g y) ys) (number_cuts n)
    ≡ sums (λ x. sums (λ y. one_if_same (left x + right y) n * (f x * g y)) ys) xs
convolution left right f g n xs ys =
    sums_same (λ (m : ℕ × ℕ). sums (λ x. one_if_same (left x) m.0 * f x) xs * sums (λ y. one_if_same (right y) m.1 * g y) ys)
    (λ m. sums (λ x. sums (λ y. one_if_same (left x) m.0 * f x * (one_if_same (right y) m.1 * g y)) ys) xs)
    (λ m. sums_times (λ x. one_if_same (left x) m.0 * f x) (λ y. one_if_same (right y) m.1 * g y) xs ys) (number_cuts n)
    ∙ sums_swap (λ (m : ℕ × ℕ) x. sums (λ y. one_if_same (left x) m.0 * f x * (one_if_same (right y) m.1 * g y)) ys) (number_cuts n) xs
    ∙ sums_same _ (λ x. sums (λ y. one_if_same (left x + right y) n * (f x * g y)) ys)
    (λ x. sums_swap (λ (m : ℕ × ℕ) y. one_if_same (left x) m.0 * f x * (one_if_same (right y) m.1 * g y)) (number_cuts n) ys
    ∙ sums_same _ (λ y. one_if_same (left x + right y) n * (f x * g y))
    (λ y. sums_same (λ (m : ℕ × ℕ). one_if_same (left x) m.0 * f x * (one_if_same (right y) m.1 * g y)) (λ m. one_if_same (left x) m.0 * (one_if_same (right y) m.1 * (f x * g y)))
    (λ m. omega arith) (number_cuts n)
    ∙ over_cuts_single n (left x) (right y) (f x * g y)) ys) xs

module _ (g : ℕ) (test : List ℕ → Bool)
    (multiplies : (a b : List ℕ) → AreLow g a → AreHigh g b → over_shuffles (λ x. one_if (test x)) a b ≡ one_if (test a) * one_if (test b)) where
  -- the shuffles of the parts of two cuts
  split_parts : (i : ℕ) (parts a b c d : List ℕ) → AreLow g a → AreHigh g c
      → over_parts (λ x y. one_if_same (length x) i * (one_if (test x) * splits test parts y)) a b c d
      ≡ one_if_same (length a + length c) i * (one_if (test a) * one_if (test c) * over_shuffles (λ y. splits test parts y) b d)
  split_parts i parts a b c d ha hc =
      sums_same _ (λ x. one_if_same (length x) i * one_if (test x) * over_shuffles (λ y. splits test parts y) b d)
      (λ x. sums_same _ (λ y. one_if_same (length x) i * one_if (test x) * splits test parts y) (λ y. omega arith) (shuffles b d)
      ∙ sums-scale (one_if_same (length x) i * one_if (test x)) (λ y. splits test parts y) (shuffles b d)) (shuffles a c)
      ∙ sums-scale_right (over_shuffles (λ y. splits test parts y) b d) (λ x. one_if_same (length x) i * one_if (test x)) (shuffles a c)
      ∙ ap (λ n. n * over_shuffles (λ y. splits test parts y) b d)
      (shuffle_lengths (λ n x. one_if_same n i * one_if (test x)) a c
      ∙ sums-scale (one_if_same (length a + length c) i) (λ x. one_if (test x)) (shuffles a c)
      ∙ ap (λ n. one_if_same (length a + length c) i * n) (multiplies a c ha hc))
      ∙ omega arith

  -- the shuffles of u and v that split in one way are counted by the ways to split u and v into parts of the blocks
  pub splits_shuffles : (parts u v : List ℕ) → AreLow g u → AreHigh g v
      → over_shuffles (λ x. splits test parts x) u v ≡ sums (λ c. splits test c.0 u * splits test c.1 v) (exponent_cuts parts)
  splits_shuffles [] u v hu hv = shuffle_count g u v hu hv [] ∙ omega arith
  splits_shuffles (i ∷ parts) u v hu hv =
      cuts_of_shuffles (λ x y. one_if_same (length x) i * (one_if (test x) * splits test parts y)) u v
      ∙ over_word_cuts_same (λ x. x ≤ g) _ (λ a b. over_word_cuts (λ c d. one_if_same (length a + length c) i * (one_if (test a) * one_if (test c) * pairs b d)) v) u hu
      (λ a b ha hb. over_word_cuts_same (λ x. g < x) _ (λ c d. one_if_same (length a + length c) i * (one_if (test a) * one_if (test c) * pairs b d)) v hv
      (λ c d hc hd. split_parts i parts a b c d ha hc
      ∙ ap (λ n. one_if_same (length a + length c) i * (one_if (test a) * one_if (test c) * n)) (splits_shuffles parts b d hb hd)))
      ∙ sym right
    where
      pairs : List ℕ → List ℕ → ℕ
      pairs b d = sums (λ (e : List ℕ × List ℕ). splits test e.0 b * splits test e.1 d) (exponent_cuts parts)

      term : List ℕ × List ℕ → List ℕ × List ℕ → List ℕ × List ℕ → ℕ
      term e p q = one_if_same (length p.0 + length q.0) i * ((one_if (test p.0) * splits test e.0 p.1) * (one_if (test q.0) * splits test e.1 q.1))

      inner : (p q : List ℕ × List ℕ) → sums (λ (e : List ℕ × List ℕ). one_if_same (length p.0 + length q.0) i * ((one_if (test p.0) * splits test e.0 p.1) * (one_if (test q.0) * splits test e.1 q.1))) (exponent_cuts parts)
          ≡ one_if_same (length p.0 + length q.0) i * (one_if (test p.0) * one_if (test q.0) * sums (λ (e : List ℕ × List ℕ). splits test e.0 p.1 * splits test e.1 q.1) (exponent_cuts parts))
      inner p q =
          sums_same _ (λ (e : List ℕ × List ℕ). one_if_same (length p.0 + length q.0) i * (one_if (test p.0) * one_if (test q.0)) * (splits test e.0 p.1 * splits test e.1 q.1))
          (λ e. omega arith) (exponent_cuts parts)
          ∙ sums-scale (one_if_same (length p.0 + length q.0) i * (one_if (test p.0) * one_if (test q.0))) (λ (e : List ℕ × List ℕ). splits test e.0 p.1 * splits test e.1 q.1) (exponent_cuts parts)
          ∙ omega arith

      right : sums (λ c. splits test c.0 u * splits test c.1 v) (exponent_cuts (i ∷ parts))
          ≡ over_word_cuts (λ a b. over_word_cuts (λ c d. one_if_same (length a + length c) i * (one_if (test a) * one_if (test c) * sums (λ (e : List ℕ × List ℕ). splits test e.0 b * splits test e.1 d) (exponent_cuts parts))) v) u
      right =
          sums-flat_map (λ (c : List ℕ × List ℕ). splits test c.0 u * splits test c.1 v) (λ (m : ℕ × ℕ). map (λ (e : List ℕ × List ℕ). (m.0 ∷ e.0, m.1 ∷ e.1)) (exponent_cuts parts)) (number_cuts i)
          ∙ sums_same _ (λ (m : ℕ × ℕ). sums (λ (e : List ℕ × List ℕ). splits test (m.0 ∷ e.0) u * splits test (m.1 ∷ e.1) v) (exponent_cuts parts))
          (λ m. sums-map (λ (c : List ℕ × List ℕ). splits test c.0 u * splits test c.1 v) (λ (e : List ℕ × List ℕ). (m.0 ∷ e.0, m.1 ∷ e.1)) (exponent_cuts parts)) (number_cuts i)
          ∙ sums_swap (λ (m : ℕ × ℕ) (e : List ℕ × List ℕ). splits test (m.0 ∷ e.0) u * splits test (m.1 ∷ e.1) v) (number_cuts i) (exponent_cuts parts)
          ∙ sums_same _ (λ e. sums (λ p. sums (λ q. term e p q) (word_cuts v)) (word_cuts u))
          (λ e. convolution (λ (p : List ℕ × List ℕ). length p.0) (λ (q : List ℕ × List ℕ). length q.0)
          (λ p. one_if (test p.0) * splits test e.0 p.1) (λ q. one_if (test q.0) * splits test e.1 q.1) i (word_cuts u) (word_cuts v)) (exponent_cuts parts)
          ∙ sums_swap (λ e p. sums (λ q. term e p q) (word_cuts v)) (exponent_cuts parts) (word_cuts u)
          ∙ sums_same _ _ (λ p. sums_swap (λ e q. term e p q) (exponent_cuts parts) (word_cuts v) ∙ sums_same _ _ (λ q. inner p q) (word_cuts v)) (word_cuts u)

-- a block of length 0 does not matter where the empty word passes
splits-nothing : (test : List ℕ → Bool) (parts w : List ℕ) → test [] ≡ true → splits test (0 ∷ parts) w ≡ splits test parts w
splits-nothing test parts [] e = rw e (omega arith)
splits-nothing test parts (x ∷ w) e =
    over_word_cuts-step (λ a b. one_if_same (length a) 0 * (one_if (test a) * splits test parts b)) x w
    ∙ rw e (omega (arith, sums_none (λ (c : List ℕ × List ℕ). one_if_same (length (x ∷ c.0)) 0 * (one_if (test (x ∷ c.0)) * splits test parts c.1)) (λ c. omega arith) (word_cuts w)))

-- blocks of length 0 do not matter
pub splits-without_zeros : (test : List ℕ → Bool) (parts w : List ℕ) → test [] ≡ true → splits test (without_zeros parts) w ≡ splits test parts w
splits-without_zeros test [] w e = refl
splits-without_zeros test (zero ∷ parts) w e = splits-without_zeros test parts w e ∙ sym (splits-nothing test parts w e)
splits-without_zeros test (suc i ∷ parts) w e =
    sums_same _ _ (λ (c : List ℕ × List ℕ). ap (λ n. one_if_same (length c.0) (suc i) * (one_if (test c.0) * n)) (splits-without_zeros test parts c.1 e)) (word_cuts w)

-- a map of the letters that keeps the test keeps the splits
pub splits-map : (f : ℕ → ℕ) (test : List ℕ → Bool) → ((w : List ℕ) → test (map f w) ≡ test w) → (parts w : List ℕ) → splits test parts (map f w) ≡ splits test parts w
splits-map f test same [] [] = refl
splits-map f test same [] (x ∷ w) = refl
splits-map f test same (i ∷ parts) w =
    over_word_cuts-map f (λ a b. one_if_same (length a) i * (one_if (test a) * splits test parts b)) w
    ∙ sums_same _ _ (λ (c : List ℕ × List ℕ). λ n. one_if_same (length-map c.0 f n) i * (one_if (same c.0 n) * splits-map f test same parts c.1 n)) (word_cuts w)
