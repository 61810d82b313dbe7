-- The antipode, convolved with the identity, is the counit and then the unit: for functions of words and of exponents.
use Rattle.std.proofs.Common.{◌≡◌, ℕ, true, List, [], ◌∷◌, ◌++◌, length, sym, ◌∙◌, ap, arith}
use Rattle.std.specs.Prelude.{ℤ, pos, if◌then◌else◌}
use Rattle.std.specs.List.{sum, concat}
use Rattle.std.proofs.lemmas.Int.{ints}
use Rattle.std.proofs.lemmas.List.{append-nil}
use Rattle.std.proofs.lemmas.List.Folds.{concat-append}
use Rattle.realisations.specs.Lists.{with_sign}
use Rattle.realisations.specs.Exponents.{is_one, without_zeros, exponent_pieces_up_to}
use Rattle.realisations.specs.Points.{Kind, exponents, word}
use Rattle.antipode_laws.specs.Units.{is_unit, without_zeros_of}
use Rattle.antipode_laws.proofs.IntegerSums.{sum_over_same, one_value}
use Rattle.antipode_laws.proofs.ExponentsOfOne.{without_zeros-one_first, without_zeros-one_last}
use Rattle.antipode_laws.proofs.ExponentCuts.{over_cuts_same}
use Rattle.antipode_laws.proofs.ExponentAntipodes.{over_pieces-zero, signed_up_to, front_convolution, back_convolution}
use Rattle.antipode_laws.proofs.WordAntipodes.{front_convolution as word_front, back_convolution as word_back}
use Rattle.antipode_laws.proofs.OperationReads.{over_ordinal_sum, over_point_cuts, takeuchi}

-- a function of points of this kind does not see zeros among exponents
abbrev pub IgnoresZeros : Kind → (List ℕ → ℤ) → Type 0
IgnoresZeros kind f = (p : List ℕ) → f p ≡ f (without_zeros_of kind p)

-- the antipode in the first component
abbrev pub convolved_left : Kind → (List ℕ → ℤ) → List ℕ → ℤ
convolved_left kind f p = over_point_cuts kind (λ u v. takeuchi kind (λ w. over_ordinal_sum kind f w v) u) p

-- the antipode in the second component
abbrev pub convolved_right : Kind → (List ℕ → ℤ) → List ℕ → ℤ
convolved_right kind f p = over_point_cuts kind (λ u v. takeuchi kind (λ w. over_ordinal_sum kind f u w) v) p

signed_same : (k : ℕ) (f g : List (List ℕ) → ℤ) → ((c : List (List ℕ)) → f c ≡ g c) → (p : List ℕ) → signed_up_to k f p ≡ signed_up_to k g p
signed_same k f g e p = sum_over_same _ _ (λ c. ap (with_sign (length c)) (e c)) (exponent_pieces_up_to k p)

concat-last : (c : List (List ℕ)) (v : List ℕ) → concat (c ++ (v ∷ [])) ≡ concat c ++ v
concat-last c v = concat-append c (v ∷ []) ∙ ap (λ w. concat c ++ w) (append-nil v)

-- where the unit is 1 it is the value at the empty point, and else nothing
pub convolved_left_is : (kind : Kind) (f : List ℕ → ℤ) → IgnoresZeros kind f → (p : List ℕ) → convolved_left kind f p ≡ (if is_unit kind p then f [] else pos 0)
convolved_left_is word f e [] = omega (arith, ints)
convolved_left_is word f e (x ∷ p) = word_front f x p
convolved_left_is exponents f e p =
    let h : List (List ℕ) → ℤ = λ c. f (concat c) in
    over_cuts_same p _ (λ u v. signed_up_to (sum u) (λ c. h (c ++ (v ∷ []))) u)
    (λ u v s. signed_same (sum u) _ _
    (λ c. one_value (λ w. over_ordinal_sum exponents f w v) (concat c) ∙ one_value f (concat c ++ v) ∙ ap f (sym (concat-last c v))) u)
    ∙ front_convolution h (λ c z k. e (concat (c ++ (z ∷ []))) ∙ ap f (last c z k) ∙ sym (e (concat c))) p
    ∙ over_pieces-zero h p
  where
    last : (c : List (List ℕ)) (z : List ℕ) → is_one z ≡ true → without_zeros (concat (c ++ (z ∷ []))) ≡ without_zeros (concat c)
    last c z k = ap without_zeros (concat-last c z) ∙ without_zeros-one_last (concat c) z k

-- and so it is with the antipode in the second component
pub convolved_right_is : (kind : Kind) (f : List ℕ → ℤ) → IgnoresZeros kind f → (p : List ℕ) → convolved_right kind f p ≡ (if is_unit kind p then f [] else pos 0)
convolved_right_is word f e [] = omega (arith, ints)
convolved_right_is word f e (x ∷ p) = word_back f x p
convolved_right_is exponents f e p =
    let h : List (List ℕ) → ℤ = λ c. f (concat c) in
    over_cuts_same p _ (λ u v. signed_up_to (sum v) (λ c. h (u ∷ c)) v)
    (λ u v s. signed_same (sum v) _ _ (λ c. one_value (λ w. over_ordinal_sum exponents f u w) (concat c) ∙ one_value f (u ++ concat c)) v)
    ∙ back_convolution h (λ z c k. e (z ++ concat c) ∙ ap f (without_zeros-one_first z (concat c) k) ∙ sym (e (concat c))) p
    ∙ over_pieces-zero h p
