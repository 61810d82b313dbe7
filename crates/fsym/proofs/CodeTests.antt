-- The test of codes is that of lists of numbers.
use Rattle.std.proofs.Common.{◌≡◌, ℕ, Bool, true, false, List, refl, sym, ◌∙◌, ap}
use Rattle.std.specs.Prelude.{not, nat_eq}
use Rattle.std.specs.Cmp.Lexicographic.{other_text, pointwise, same_text}
use Rattle.basis_representatives.proofs.SameLists.{same_list-true}
use Rattle.product_laws.proofs.Tests.{same_list-is, same_tests}
use Rattle.realisations.specs.Lists.{same_list}

pub same_test : (a b : List ℕ) → pointwise nat_eq a b ≡ same_list a b
same_test a b = same_tests (pointwise nat_eq a b) (same_list a b) (λ e. same_list-is a b (same_text a b (sym e))) (λ e. by_test (pointwise nat_eq a b) refl (same_list-true a b e))
  where
    by_test : (t : Bool) → pointwise nat_eq a b ≡ t → a ≡ b → pointwise nat_eq a b ≡ true
    by_test true e same = e
    by_test false e same = absurd (other_text a b (sym e) same)

-- what is told of the first of two equal lists, that it differs from a third one or does not, is so of the second
module _ (a b c : List ℕ) (ne : Bool) (is : a ≡ b) (told : ne ≡ not (pointwise nat_eq a c)) where
  test : pointwise nat_eq a c ≡ same_list b c
  test = same_test a c ∙ ap (λ v. same_list v c) is

  pub is_other : ne ≡ true → same_list b c ≡ false
  is_other e = sym test ∙ failed (pointwise nat_eq a c) (sym told ∙ e)
    where
      failed : (t : Bool) → not t ≡ true → t ≡ false
      failed true h = absurd (cc)
      failed false h = refl

  pub is_same : ne ≡ false → same_list b c ≡ true
  is_same e = sym test ∙ passed (pointwise nat_eq a c) (sym told ∙ e)
    where
      passed : (t : Bool) → not t ≡ false → t ≡ true
      passed true h = refl
      passed false h = absurd (cc)
