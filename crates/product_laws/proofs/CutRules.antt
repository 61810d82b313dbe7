-- The rules of the products of FQSym.G and WQSym.M: the permutations and the packed words whose front and back have given patterns.
use Rattle.std.proofs.Common.{◌≡◌, ℕ, ◌≤◌, IsTrue, List, [], ◌∷◌, length, take, drop, refl}
use Rattle.std.proofs.lemmas.List.{length-map}
use Rattle.basis_names.specs.declared.bases.BasisId.TheVariants.{FqsymG, WqsymM}
use Rattle.realisations.specs.IndexKinds.{is_packed, is_permutation}
use Rattle.realisations.specs.Standardisation.{pack, rank_in, standardise}
use Rattle.realisations.proofs.RisingMaps.{Letters}
use Rattle.basis_representatives.proofs.AllRepresentatives.{class_laws}
use Rattle.basis_representatives.proofs.PackedWords.{all_letters, packed_from, packed-pack, letters_to_greatest}
use Rattle.basis_representatives.proofs.Permutations.{each_once, permutation_from, permutation-standardise, letters-permutation, letters_that_occur}
use Rattle.basis_representatives.proofs.SameOrder.{length-standardise}
use Rattle.coproduct_laws.proofs.CutLetters.{greatest-packed}
use Rattle.word_laws.specs.Merges.{IsConvolution, IsMerge}
use Rattle.product_laws.specs.Classes.{IsByClasses}
use Rattle.product_laws.specs.Laws.{ConvolutionLaw, MergeLaw}
use Rattle.product_laws.proofs.ClassRules.{both_same, same_both, rule_of_listed}
use Rattle.product_laws.proofs.DistinctWords.{AreUpTo}
use Rattle.product_laws.proofs.OrderOfParts.{standardise-take, standardise-drop, pack-take, pack-drop}

-- FQSym.G is by classes: the standardisation of a word
pub by_standardisations : IsByClasses FqsymG (λ p. standardise p) (λ n s. standardise (take n s)) (λ n s. standardise (drop n s))
by_standardisations = record {
  words = refl;
  occurs_at = λ code p. refl;
  degree = λ p. length-standardise p;
  index = λ p point. permutation_from (standardise p) (permutation-standardise p);
  fronts = λ n p point. standardise-take n p;
  backs = λ n p point. standardise-drop n p;
}

length-pack : (p : List ℕ) → length (pack p) ≡ length p
length-pack p = length-map p (λ x. rank_in p x)

-- WQSym.M is by classes: the packing of a word
pub by_packings : IsByClasses WqsymM (λ p. pack p) (λ n w. pack (take n w)) (λ n w. pack (drop n w))
by_packings = record {
  words = refl;
  occurs_at = λ code p. refl;
  degree = λ p. length-pack p;
  index = λ p point. packed_from (pack p) (packed-pack p);
  fronts = λ n p point. pack-take n p point;
  backs = λ n p point. pack-drop n p point;
}

pub two_letters : (P Q : ℕ → Type 0) (w : List ℕ) → Letters P w → Letters Q w → Letters (λ x. P x × Q x) w
two_letters P Q [] h k = tt
two_letters P Q (x ∷ w) h k = ((h.0, k.0), two_letters P Q w h.1 k.1)

-- the letters of permutations and packed words are from 1 to their lengths
pub letters_of_permutation : (s : List ℕ) → IsTrue (is_permutation s) → AreUpTo (length s) s
letters_of_permutation s h = letters_that_occur (λ x. (1 ≤ x) × (x ≤ length s)) s (letters-permutation s (each_once s h))

pub letters_of_packed : (w : List ℕ) → IsTrue (is_packed w) → AreUpTo (length w) w
letters_of_packed w h =
    let all = all_letters w h in
    two_letters (λ x. 1 ≤ x) (λ x. x ≤ length w) w all.positive (letters_to_greatest w (length w) (greatest-packed w all))

-- G of s times G of t is the sum of G over the convolutions
pub convolution_rule : ConvolutionLaw
convolution_rule s t codes small lists =
    rule_of_listed FqsymG (λ p. standardise p) (λ n c. standardise (take n c)) (λ n c. standardise (drop n c)) by_standardisations class_laws.by_inverses s t (IsConvolution s t)
    (λ c h. (h.permutation, both_same _ s _ t h.front h.back))
    (λ c is e. let p = same_both (standardise (take (length s) c)) s (standardise (drop (length s) c)) t e in record { permutation = is; front = p.0; back = p.1 })
    (λ c is. (letters_of_permutation c is, refl))
    codes small lists

-- M of u times M of v is the sum of M over the merges
pub merge_rule : MergeLaw
merge_rule u v codes small lists =
    rule_of_listed WqsymM (λ p. pack p) (λ n c. pack (take n c)) (λ n c. pack (drop n c)) by_packings class_laws.packed_words u v (IsMerge u v)
    (λ c h. (h.packed, both_same _ u _ v h.front h.back))
    (λ c is e. let p = same_both (pack (take (length u) c)) u (pack (drop (length u) c)) v e in record { packed = is; front = p.0; back = p.1 })
    (λ c is. (letters_of_packed c is, refl))
    codes small lists
