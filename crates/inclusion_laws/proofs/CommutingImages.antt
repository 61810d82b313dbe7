-- Commuting images of elements: alone, and through a finer basis.
use Rattle.std.proofs.Common.{◌≡◌, ℕ, ◌+◌, ◌*◌, ◌^◌, ◌≤◌, List, [], ◌∷◌, map, length, refl, sym, ◌∙◌, ap, subst, arith}
use Rattle.std.specs.List.{AllByRecursion}
use Rattle.std.proofs.Math.IntN.{pos}
use Rattle.std.proofs.Math.Nat.{one-le-pow}
use Rattle.std.proofs.lemmas.Int.{ints}
use Rattle.std.proofs.lemmas.List.{length-map}
use Rattle.basis_names.specs.declared.bases.BasisId.{BasisId}
use Rattle.realisations.specs.Bases.{kind_of}
use Rattle.realisations.specs.Codes.{Code}
use Rattle.realisations.specs.Combinations.{Combination}
use Rattle.realisations.specs.Indices.{IsIndex, degree_of}
use Rattle.realisations.specs.Lists.{int_sum, one_if, with_sign}
use Rattle.realisations.specs.Occurrence.{occurs}
use Rattle.realisations.specs.Points.{Kind, Point, word, IsPoint}
use Rattle.realisations.specs.Readings.{applied, commute, element, numerator, reads_at}
use Rattle.realisations.specs.Words.{words_of}
use Rattle.realisations.proofs.Every.{every-map, every-weaker}
use Rattle.realisations.proofs.Sums.{sums, sums-add, sums_none}
use Rattle.linear_combos.specs.Combos.{IsSumOfTerms}
use Rattle.product_laws.specs.Products.{AreOfDegree, terms_of_codes}
use Rattle.product_laws.proofs.ElementProducts.{element_at, occurrences}
use Rattle.inclusion_laws.specs.CommutingImages.{CommutesAs, CommutesThrough, IsImage, IsImageAlone}
use Rattle.inclusion_laws.proofs.CountsOfWords.{sums_every, words_are_points, words_at}
use Rattle.inclusion_laws.proofs.Inclusions.{GoesOver}
use Rattle.inclusion_laws.specs.Inclusions.{those_over}
use Rattle.inclusion_laws.proofs.SumsOfElements.{AreOver, answered, gathered_code, gathered_codes, norm_of-codes}

sum_at_words : (basis : BasisId) (code : Code) (ws : List Point)
    → int_sum (map (λ (r : ℕ × List Point). with_sign r.0 (numerator (element basis code) r.1)) (map (λ (q : Point). (0, q ∷ [])) ws)) ≡ pos (sums (λ w. one_if (occurs basis code w)) ws)
sum_at_words basis code [] = refl
sum_at_words basis code (w ∷ ws) = omega (arith, ints, element_at basis code w, sum_at_words basis code ws)

-- the commuting image of an element is read as the number of words at which it occurs
numerator-commute : (basis : BasisId) → kind_of basis ≡ word → (code : Code) (p : Point) → numerator (applied commute 0 (element basis code)) (p ∷ []) ≡ pos (words_at basis code p)
numerator-commute basis words code p =
    ap (λ (kind : Kind). int_sum (map (λ (r : ℕ × List Point). with_sign r.0 (numerator (element basis code) r.1)) (reads_at 0 commute (kind ∷ []) (p ∷ [])))) words
    ∙ sum_at_words basis code (words_of p)

-- what a commuting image owes: its codes are indices of the degree n of the element, at most 2^(k n) where n is at most 2^k, and occur at each list of exponents as often together as the element at words
pub record AreImages (from to : BasisId) (index : Code) (codes : List Code) : Type 0 where
  pub words : kind_of from ≡ word
  pub indices : AreOfDegree to (degree_of from index) codes
  pub small : length codes ≤ 2 ^ (5 * degree_of from index)
  pub few : (k : ℕ) → degree_of from index ≤ 2 ^ k → length codes ≤ 2 ^ (k * degree_of from index)
  pub occur : (p : Point) → occurrences to codes p ≡ words_at from index p

-- they add up to it
pub imaged : (from to : BasisId) (index : Code) (codes : List Code) (c : Combination) → AreImages from to index codes → IsSumOfTerms 1 (terms_of_codes codes) c → IsImage from to index c
imaged from to index codes c of is = record {
  answer = answered to (degree_of from index) (applied commute 0 (element from index)) codes c
      (record { whole = refl; indices = of.indices; small = of.small; reads = λ p point. ap pos (of.occur p) ∙ sym (numerator-commute from of.words index p) }) is;
  norm = λ k le. omega (arith, norm_of-codes codes, is.gathers.norm, of.few k le);
}

-- images are indices of the same degree
abbrev pub KeepsDegrees : BasisId → BasisId → (Code → Code) → Type 0
KeepsDegrees from to image = (index : Code) → IsIndex from index → IsIndex to (image index) × (degree_of to (image index) ≡ degree_of from index)

-- an element occurs at as many of the words that become a monomial as its image occurs there
abbrev pub CountsAsImage : BasisId → BasisId → (Code → Code) → Type 0
CountsAsImage from to image = (p : Point) (code : Code) → IsIndex from code → words_at from code p ≡ one_if (occurs to (image code) p)

-- the commuting image of an element whose index has an image
pub commutes_as : (from to : BasisId) (image : Code → Code) → kind_of from ≡ word → KeepsDegrees from to image → CountsAsImage from to image → CommutesAs from to image
commutes_as from to image words keeps counts = record {
  sums = λ index c is sum. one_image index c is sum;
  exists = λ index is. let g = gathered_code (image index) in (g.0, one_image index g.0 is g.1);
}
  where
    alone : (index : Code) → IsIndex from index → AreImages from to index (image index ∷ [])
    alone index is = record {
      words = words;
      indices = (keeps index is, tt);
      small = one-le-pow (5 * degree_of from index) 2 (omega arith);
      few = λ k le. one-le-pow (k * degree_of from index) 2 (omega arith);
      occur = λ p. omega (arith, counts p index is);
    }

    one_image : (index : Code) (c : Combination) → IsIndex from index → IsSumOfTerms 1 (terms_of_codes (image index ∷ [])) c → IsImageAlone from to index c
    one_image index c is sum = record {
      image = imaged from to index (image index ∷ []) c (alone index is) sum;
      norm = omega (arith, norm_of-codes (image index ∷ []), sum.gathers.norm);
    }

-- how many of the images occur at some exponents
images_occur : (fine to : BasisId) (image : Code → Code) → CountsAsImage fine to image → (p : Point) (codes : List Code) → AllByRecursion (λ code. IsIndex fine code) codes
    → occurrences to (map image codes) p ≡ sums (λ w. occurrences fine codes w) (words_of p)
images_occur fine to image counts p [] h = sym (sums_none (λ w. 0) (λ w. refl) (words_of p))
images_occur fine to image counts p (code ∷ codes) h =
    (λ i. sym (counts p code h.0) i + images_occur fine to image counts p codes h.1 i)
    ∙ sym (sums-add (λ w. one_if (occurs fine code w)) (λ w. occurrences fine codes w) (words_of p))

-- the commuting image of an element over a finer basis, whose indices have images
pub commutes_through : (fine coarse to : BasisId) (over image : Code → Code) → kind_of fine ≡ word → kind_of coarse ≡ word → KeepsDegrees fine to image → CountsAsImage fine to image → GoesOver fine coarse over
    → CommutesThrough fine coarse to over image
commutes_through fine coarse to over image words words' keeps counts goes = record {
  sums = λ index codes c le lists sum. imaged coarse to index (map image (those_over over index codes)) c (images_of index (those_over over index codes) (goes.listed index codes le lists)) sum;
  exists = λ index le.
      let found = goes.found index le in
      let of = images_of index found.0 found.1 in
      let g = gathered_codes (degree_of coarse index) (map image found.0) of.small le in
      (g.0, imaged coarse to index (map image found.0) g.0 of g.1);
}
  where
    images_of : (index : Code) (codes : List Code) → AreOver fine coarse index codes → AreImages coarse to index (map image codes)
    images_of index codes are = record {
      words = words';
      indices = every-map (λ code. IsIndex fine code × (degree_of fine code ≡ degree_of coarse index)) (λ code. IsIndex to code × (degree_of to code ≡ degree_of coarse index)) image
          (λ code h. let k = keeps code h.0 in (k.0, k.1 ∙ h.1)) codes are.indices;
      small = omega (arith, length-map codes image, are.small);
      few = λ k le. omega (arith, length-map codes image, are.few k le);
      occur = λ p.
          images_occur fine to image counts p codes (every-weaker (λ code. IsIndex fine code × (degree_of fine code ≡ degree_of coarse index)) (λ code. IsIndex fine code) (λ code h. h.0) codes are.indices)
          ∙ sums_every (IsPoint word) (λ w. occurrences fine codes w) (λ w. one_if (occurs coarse index w)) (λ w point. are.occur w (subst (λ kind. IsPoint kind w) (sym words) point)) (words_of p) (words_are_points p);
    }
