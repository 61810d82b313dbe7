-- The product of two elements of a class basis: the indices whose front and back are the factors.
use Rattle.std.proofs.Common.{◌≡◌, ℕ, ◌*◌, List, [], ◌∷◌, take, drop, refl, sym, ◌∙◌, ap, arith}
use Rattle.std.specs.Prelude.{◌&&◌}
use Rattle.basis_names.specs.declared.bases.BasisId.{BasisId}
use Rattle.realisations.specs.Indices.{degree_of}
use Rattle.realisations.specs.Lists.{same_list, one_if}
use Rattle.realisations.specs.Points.{IsPoint, word}
use Rattle.basis_representatives.proofs.SameLists.{one_if-and, same_list-true}
use Rattle.word_laws.specs.AddedCodes.{times_in}
use Rattle.product_laws.specs.Classes.{IsByClasses}
use Rattle.product_laws.specs.Laws.{ClassLaw}
use Rattle.product_laws.specs.Products.{IsProduct}
use Rattle.product_laws.proofs.ElementProducts.{occurrences, OccursAtLength, reads_as_product}

module _ (basis : BasisId) (class_of : List ℕ → List ℕ) (front back : ℕ → List ℕ → List ℕ) (by : IsByClasses basis class_of front back) where
  -- the listed codes that are the class of a word
  occurrences-times_in : (codes : List (List ℕ)) (p : List ℕ) → occurrences basis codes p ≡ times_in (class_of p) codes
  occurrences-times_in [] p = refl
  occurrences-times_in (code ∷ codes) p = omega (arith, ap one_if (by.occurs_at code p), occurrences-times_in codes p)

  -- an element of a class basis occurs at words of its degree
  pub class_at_length : (code : List ℕ) → OccursAtLength basis code (degree_of basis code)
  class_at_length code p e = sym (by.degree p) ∙ ap (degree_of basis) (same_list-true (class_of p) code (sym (by.occurs_at code p) ∙ e))

  -- codes that hold the class of each word once where the classes of its front and back are s and t, and else not, read as the product
  pub classes_read : (codes : List (List ℕ)) (s t : List ℕ)
      → ((p : List ℕ) → IsPoint word p → times_in (class_of p) codes ≡ one_if (same_list (class_of (take (degree_of basis s) p)) s && same_list (class_of (drop (degree_of basis s) p)) t))
      → IsProduct basis s t codes
  classes_read codes s t counts =
      reads_as_product basis codes s t (degree_of basis s) by.words (class_at_length s)
      (λ p point.
      occurrences-times_in codes p
      ∙ counts p point
      ∙ one_if-and (same_list (class_of (take (degree_of basis s) p)) s) (same_list (class_of (drop (degree_of basis s) p)) t)
      ∙ (λ i. one_if (sym (by.occurs_at s (take (degree_of basis s) p)) i) * one_if (sym (by.occurs_at t (drop (degree_of basis s) p)) i)))

-- codes that hold each index once where its front is s and its back is t, and else not, read as the product
pub indices_read : ClassLaw
indices_read basis class_of front back by s t codes counts =
    classes_read basis class_of front back by codes s t
    (λ p point.
    counts (class_of p) (by.index p point)
    ∙ (λ i. one_if (same_list (by.fronts (degree_of basis s) p point i) s && same_list (by.backs (degree_of basis s) p point i) t)))
