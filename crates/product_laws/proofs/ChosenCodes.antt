-- Each product of two elements of a class basis has a rule: the classes of the representatives among all words whose front and back are the factors.
use Rattle.std.proofs.Common.{◌≡◌, ℕ, ◌+◌, ◌*◌, ◌≤◌, Bool, true, false, List, [], ◌∷◌, map, length, refl, sym, ◌∙◌, ap, subst, arith}
use Rattle.std.specs.Prelude.{◌&&◌, if◌then◌else◌}
use Rattle.std.specs.List.{filter}
use Rattle.std.proofs.lemmas.List.{length-map}
use Rattle.basis_names.specs.declared.bases.BasisId.{BasisId}
use Rattle.realisations.specs.Bases.{representative}
use Rattle.realisations.specs.Indices.{IsIndex, degree_of}
use Rattle.realisations.specs.Lists.{same_list, one_if}
use Rattle.realisations.proofs.Every.{every-map}
use Rattle.realisations.proofs.Sums.{sums, sums_same, sums-scale}
use Rattle.basis_representatives.specs.Laws.{AreClasses}
use Rattle.basis_representatives.proofs.Letters.{Letters-weaker}
use Rattle.basis_representatives.proofs.SameLists.{same_list-true}
use Rattle.word_laws.specs.AddedCodes.{times_in}
use Rattle.product_laws.specs.Classes.{IsByClasses, splits_into}
use Rattle.product_laws.specs.Products.{IsProductRule}
use Rattle.product_laws.proofs.ClassProducts.{indices_read}
use Rattle.product_laws.proofs.ClassRules.{class_of-representative, degree_of-split}
use Rattle.product_laws.proofs.DistinctWords.{AreUpTo, all_words, every_word, length-all_words, self_power, times_in-all_words}
use Rattle.product_laws.proofs.Filters.{every-filter, length-filter}
use Rattle.product_laws.proofs.Tests.{same_list-is, same_tests}

-- how often a code is among the images of the words that pass a test
times_in-chosen : (code : List ℕ) (test : List ℕ → Bool) (f : List ℕ → List ℕ) (ws : List (List ℕ))
    → times_in code (map f (filter test ws)) ≡ sums (λ p. one_if (test p) * one_if (same_list code (f p))) ws
times_in-chosen code test f [] = refl
times_in-chosen code test f (p ∷ ws) = by_test (test p) (times_in-chosen code test f ws)
  where
    by_test : (b : Bool) → times_in code (map f (filter test ws)) ≡ sums (λ p. one_if (test p) * one_if (same_list code (f p))) ws
        → times_in code (map f (if b then p ∷ filter test ws else filter test ws)) ≡ one_if b * one_if (same_list code (f p)) + sums (λ p. one_if (test p) * one_if (same_list code (f p))) ws
    by_test true e = omega (arith, e)
    by_test false e = omega (arith, e)

times_in-sum : (w : List ℕ) (ws : List (List ℕ)) → times_in w ws ≡ sums (λ p. one_if (same_list w p)) ws
times_in-sum w [] = refl
times_in-sum w (v ∷ ws) = omega (arith, times_in-sum w ws)

module _ (basis : BasisId) (class_of : List ℕ → List ℕ) (front back : ℕ → List ℕ → List ℕ) (by : IsByClasses basis class_of front back) (classes : AreClasses basis)
    (fits : (code : List ℕ) → IsIndex basis code → AreUpTo (degree_of basis code) (representative basis code) × (length (representative basis code) ≡ degree_of basis code))
    (left right : List ℕ) where
  abbrev whole : ℕ
  whole = degree_of basis left + degree_of basis right

  abbrev splits : List ℕ → Bool
  splits code = splits_into front back (degree_of basis left) left right code

  abbrev is_chosen : List ℕ → Bool
  is_chosen p = same_list (representative basis (class_of p)) p && splits (class_of p)

  abbrev chosen_codes : List (List ℕ)
  chosen_codes = map class_of (filter (λ p. is_chosen p) (all_words whole whole))

  -- a word is chosen with the class of an index where it is its representative
  one_word : (code : List ℕ) → IsIndex basis code → (p : List ℕ)
      → one_if (is_chosen p) * one_if (same_list code (class_of p)) ≡ one_if (splits code) * one_if (same_list (representative basis code) p)
  one_word code is p = by_test (same_list code (class_of p)) refl
    where
      join : (a b : Bool) → one_if (a && b) * 1 ≡ one_if b * one_if a
      join true b = omega arith
      join false b = omega arith

      by_test : (b : Bool) → same_list code (class_of p) ≡ b → one_if (is_chosen p) * one_if b ≡ one_if (splits code) * one_if (same_list (representative basis code) p)
      by_test true e =
          let same : class_of p ≡ code = sym (same_list-true code (class_of p) e) in
          (λ i. one_if (same_list (representative basis (same i)) p && splits (same i)) * 1)
          ∙ join (same_list (representative basis code) p) (splits code)
      by_test false e =
          let other : same_list (representative basis code) p ≡ false = same_tests _ false
          (λ f. absurd (differs (sym e ∙ same_list-is code (class_of p) (sym (class_of-representative basis class_of front back by classes code is) ∙ ap class_of (same_list-true (representative basis code) p f)))))
          (λ f. absurd (cc)) in
          omega (arith, ap (λ b. one_if (splits code) * one_if b) other)
        where
          differs : false ≡ true → ⊥
          differs f = absurd (cc)

  -- so each index with these parts is there once, and no other one
  chosen_once : (code : List ℕ) → IsIndex basis code → times_in code chosen_codes ≡ one_if (splits code)
  chosen_once code is =
      times_in-chosen code (λ p. is_chosen p) class_of (all_words whole whole)
      ∙ sums_same (λ p. one_if (is_chosen p) * one_if (same_list code (class_of p))) (λ p. one_if (splits code) * one_if (same_list (representative basis code) p)) (one_word code is) (all_words whole whole)
      ∙ sums-scale (one_if (splits code)) (λ p. one_if (same_list (representative basis code) p)) (all_words whole whole)
      ∙ ap (λ k. one_if (splits code) * k) (sym (times_in-sum (representative basis code) (all_words whole whole)))
      ∙ by_test (splits code) refl
    where
      by_test : (b : Bool) → splits code ≡ b → one_if b * times_in (representative basis code) (all_words whole whole) ≡ one_if b
      by_test false e = omega arith
      by_test true e =
          let degree : degree_of basis code ≡ whole = degree_of-split basis class_of front back by classes left right code is e in
          let h = fits code is in
          let once : times_in (representative basis code) (all_words whole whole) ≡ 1 =
          times_in-all_words whole whole (representative basis code) (subst (λ n. AreUpTo n (representative basis code)) degree h.0) (h.1 ∙ degree) in
          omega (arith, once)

  -- they are a rule of degree at most 32
  pub chosen_rule : whole ≤ 32 → (codes : List (List ℕ)) × IsProductRule basis left right codes
  chosen_rule small = (
    chosen_codes,
    record {
      reads = λ p point. indices_read basis class_of front back by left right chosen_codes chosen_once p point;
      indices = every-map (λ p. AreUpTo whole p × (length p ≡ whole)) (λ code. IsIndex basis code × (degree_of basis code ≡ whole)) class_of
          (λ p h. (by.index p (Letters-weaker (λ x. (1 ≤ x) × (x ≤ whole)) (λ x. 1 ≤ x) (λ x k. k.0) p h.0), by.degree p ∙ h.1))
          (filter (λ p. is_chosen p) (all_words whole whole))
          (every-filter (λ p. AreUpTo whole p × (length p ≡ whole)) (λ p. is_chosen p) (all_words whole whole) (every_word whole whole));
      few = omega (
        arith,
        length-map (filter (λ p. is_chosen p) (all_words whole whole)) class_of,
        length-filter (λ p. is_chosen p) (all_words whole whole),
        length-all_words whole whole,
        self_power whole small,
      );
    },
  )
