-- The rule of the product of two elements of a class basis: the indices whose front and back are the factors, each once.
use Rattle.std.proofs.Common.{◌≡◌, ℕ, ◌+◌, ◌≤◌, true, List, length, take, drop, sym, ◌∙◌, ap, subst, arith}
use Rattle.std.specs.Prelude.{◌&&◌}
use Rattle.std.proofs.lemmas.Bool.{and_parts, and_from}
use Rattle.std.proofs.lemmas.List.{length-take, length-drop}
use Rattle.basis_names.specs.declared.bases.BasisId.{BasisId}
use Rattle.realisations.specs.Bases.{representative}
use Rattle.realisations.specs.Indices.{IsIndex, degree_of}
use Rattle.realisations.specs.Lists.{same_list}
use Rattle.realisations.specs.Points.{IsPoint, word}
use Rattle.basis_representatives.specs.Laws.{AreClasses}
use Rattle.basis_representatives.proofs.PointsOfIndices.{representative_point}
use Rattle.basis_representatives.proofs.SameLists.{same_list-self, same_list-true}
use Rattle.linear_combos.specs.CodeLists.{ListsEach}
use Rattle.product_laws.specs.Classes.{IsByClasses, splits_into}
use Rattle.product_laws.specs.Products.{IsProductRule}
use Rattle.product_laws.proofs.ClassProducts.{indices_read}
use Rattle.product_laws.proofs.DistinctWords.{AreUpTo, few_distinct, self_power}
use Rattle.product_laws.proofs.ListedOnce.{each_listed, times_in-listed, times_in-at_most}
use Rattle.product_laws.proofs.Tests.{same_list-is}

pub both_same : (a b c d : List ℕ) → a ≡ b → c ≡ d → (same_list a b && same_list c d) ≡ true
both_same a b c d e f = and_from (same_list a b) (same_list c d) (same_list-is a b e) (same_list-is c d f)

pub same_both : (a b c d : List ℕ) → (same_list a b && same_list c d) ≡ true → (a ≡ b) × (c ≡ d)
same_both a b c d e = let t = and_parts (same_list a b) (same_list c d) e in (same_list-true a b t.0, same_list-true c d t.1)

-- a class basis whose indices have representatives: the class of its representative is an index
module _ (basis : BasisId) (class_of : List ℕ → List ℕ) (front back : ℕ → List ℕ → List ℕ) (by : IsByClasses basis class_of front back) (classes : AreClasses basis) where
  pub class_of-representative : (code : List ℕ) → IsIndex basis code → class_of (representative basis code) ≡ code
  class_of-representative code is =
      same_list-true (class_of (representative basis code)) code
      (sym (by.occurs_at code (representative basis code)) ∙ classes code is code is ∙ same_list-self code)

  pub point-representative : (code : List ℕ) → IsIndex basis code → IsPoint word (representative basis code)
  point-representative code is = subst (λ kind. IsPoint kind (representative basis code)) by.words (representative_point basis code is)

  -- an index whose front and back are two others has the sum of their degrees
  pub degree_of-split : (left right code : List ℕ) → IsIndex basis code → splits_into front back (degree_of basis left) left right code ≡ true
      → degree_of basis code ≡ degree_of basis left + degree_of basis right
  degree_of-split left right code is e =
      let n : ℕ = degree_of basis left in
      let p : List ℕ = representative basis code in
      let parts = same_both (front n code) left (back n code) right e in
      let class : class_of p ≡ code = class_of-representative code is in
      let first : length (take n p) ≡ degree_of basis left =
      sym (by.degree (take n p)) ∙ ap (degree_of basis) (sym (by.fronts n p (point-representative code is)) ∙ ap (front n) class ∙ parts.0) in
      let second : length (drop n p) ≡ degree_of basis right =
      sym (by.degree (drop n p)) ∙ ap (degree_of basis) (sym (by.backs n p (point-representative code is)) ∙ ap (back n) class ∙ parts.1) in
      let whole : degree_of basis code ≡ length p = ap (degree_of basis) (sym class) ∙ by.degree p in
      omega (arith, whole, first, second, length-take n p, length-drop n p)

  -- a rule: the indices, each once, whose front and back are the factors, if their codes are words of letters up to their length
  pub rule_of_listed : (left right : List ℕ) (P : List ℕ → Type 0)
      → ((code : List ℕ) → P code → IsIndex basis code × (splits_into front back (degree_of basis left) left right code ≡ true))
      → ((code : List ℕ) → IsIndex basis code → splits_into front back (degree_of basis left) left right code ≡ true → P code)
      → ((code : List ℕ) → IsIndex basis code → AreUpTo (degree_of basis code) code × (length code ≡ degree_of basis code))
      → (codes : List (List ℕ)) → degree_of basis left + degree_of basis right ≤ 32 → ListsEach P codes → IsProductRule basis left right codes
  rule_of_listed left right P shows means letters codes small lists = record {
    reads = λ p point. indices_read basis class_of front back by left right codes
        (λ code is. times_in-listed P codes lists code (splits_into front back (degree_of basis left) left right code) (λ h. (shows code h).1) (means code is)) p point;
    indices = each_listed P _ codes lists.each (λ code h. ((shows code h).0, degree code h));
    few = omega (arith, few_distinct n n codes (each_listed P _ codes lists.each each) (times_in-at_most codes lists.in_order), self_power n small);
  }
    where
      n : ℕ
      n = degree_of basis left + degree_of basis right

      degree : (code : List ℕ) → P code → degree_of basis code ≡ n
      degree code h = degree_of-split left right code (shows code h).0 (shows code h).1

      each : (code : List ℕ) → P code → AreUpTo n code × (length code ≡ n)
      each code h = subst (λ m. AreUpTo m code × (length code ≡ m)) (degree code h) (letters code (shows code h).0)
