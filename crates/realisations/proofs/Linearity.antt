-- Readings are linear in their terms, and their products are bilinear.
use Rattle.std.proofs.Common.{◌≡◌, ℕ, zero, suc, List, [], ◌∷◌, ◌++◌, map, refl, sym, ◌∙◌, ap, arith}
use Rattle.std.proofs.Math.IntN.{ℤ, pos, ◌+ℤ◌, ◌*ℤ◌, neg_ℤ, *ℤ_comm, *ℤ-zero}
use Rattle.std.proofs.lemmas.Int.{ints}
use Rattle.realisations.specs.Lists.{int_sum, with_sign}
use Rattle.basis_names.specs.declared.bases.BasisId.{BasisId}
use Rattle.realisations.specs.Bases.{kind_of}
use Rattle.realisations.specs.Readings.{Terms, leaf, occurrence, numerator, of_key, all_cuts, reads_at}
use Rattle.realisations.specs.Combinations.{weighed}
use Rattle.realisations.specs.Laws.{LinearityLaw, OperationLaw, GatheringLaw, BilinearityLaw}
use Rattle.hopf_num.proofs.Ring.{*ℤ-+ℤ, *ℤ-neg_ℤ, *ℤ_assoc}
use Rattle.realisations.proofs.Coefficients.{Codes}

-- a key reads as its occurrence
pub numerator-of_key : (bases : List BasisId) (key ps : Codes) → numerator (of_key bases key) ps ≡ pos (occurrence bases key ps)
numerator-of_key bases key ps = omega (arith, ints)

-- a combination is the sum of its terms
pub reads_linearly : LinearityLaw
reads_linearly bases den ts ps = λ i. weighed (λ key. sym (numerator-of_key bases key ps) i) ts

-- adding a term adds its reading
pub reads_gathered : GatheringLaw
reads_gathered bases den old new num key ps adds =
    adds.weighs (λ k. pos (occurrence bases k ps))
    ∙ ap (λ z. numerator (leaf bases den old) ps +ℤ (num *ℤ z)) (sym (numerator-of_key bases key ps))

-- a product with a sum, a factor on the left
weighed-scale : (z : ℤ) (f : Codes → ℤ) (ts : Terms) → z *ℤ weighed f ts ≡ weighed (λ k. z *ℤ f k) ts
weighed-scale z f [] = *ℤ-zero z
weighed-scale z f (t ∷ ts) =
    let head : z *ℤ (t.0 *ℤ f t.1) ≡ t.0 *ℤ (z *ℤ f t.1) =
    *ℤ_assoc z t.0 (f t.1) ∙ ap (λ w. w *ℤ f t.1) (*ℤ_comm z t.0) ∙ sym (*ℤ_assoc t.0 z (f t.1)) in
    omega (arith, ints, *ℤ-+ℤ z (t.0 *ℤ f t.1) (weighed f ts), head, weighed-scale z f ts)

-- a product of two sums is the sum of the products
pub weighed-times : (f g : Codes → ℤ) (ts us : Terms) → weighed f ts *ℤ weighed g us ≡ weighed (λ k. weighed (λ l. f k *ℤ g l) us) ts
weighed-times f g ts us =
    *ℤ_comm (weighed f ts) (weighed g us)
    ∙ weighed-scale (weighed g us) f ts
    ∙ (λ i. weighed (λ k. (*ℤ_comm (weighed g us) (f k) ∙ weighed-scale (f k) g us) i) ts)

weighed-none : (ts : Terms) → weighed (λ k. pos 0) ts ≡ pos 0
weighed-none [] = refl
weighed-none (t ∷ ts) = omega (arith, ints, *ℤ-zero t.0, weighed-none ts)

weighed-add : (f g : Codes → ℤ) (ts : Terms) → weighed (λ k. f k +ℤ g k) ts ≡ weighed f ts +ℤ weighed g ts
weighed-add f g [] = refl
weighed-add f g (t ∷ ts) = omega (arith, ints, *ℤ-+ℤ t.0 (f t.1) (g t.1), weighed-add f g ts)

-- a sum over a list of weighed sums is weighed by the sums over the list
int_sum-weighed : {X : Type 0} (h : X → Codes → ℤ) (ts : Terms) (xs : List X)
    → int_sum (map (λ x. weighed (h x) ts) xs) ≡ weighed (λ k. int_sum (map (λ x. h x k) xs)) ts
int_sum-weighed h ts [] = sym (weighed-none ts)
int_sum-weighed h ts (x ∷ xs) =
    ap (λ z. weighed (h x) ts +ℤ z) (int_sum-weighed h ts xs)
    ∙ sym (weighed-add (h x) (λ k. int_sum (map (λ y. h y k) xs)) ts)

-- so is a sum over a list of products of two weighed sums
int_sum-times : {X : Type 0} (f g : X → Codes → ℤ) (ts us : Terms) (xs : List X)
    → int_sum (map (λ x. weighed (f x) ts *ℤ weighed (g x) us) xs)
    ≡ weighed (λ k. weighed (λ l. int_sum (map (λ x. f x k *ℤ g x l) xs)) us) ts
int_sum-times f g ts us xs =
    (λ i. int_sum (map (λ x. weighed-times (f x) (g x) ts us i) xs))
    ∙ int_sum-weighed (λ x k. weighed (λ l. f x k *ℤ g x l) us) ts xs
    ∙ (λ i. weighed (λ k. int_sum-weighed (λ x l. f x k *ℤ g x l) us xs i) ts)

-- a sign before a weighed sum
-- terms and then others
pub weighed-append : (g : Codes → ℤ) (ts us : Terms) → weighed g (ts ++ us) ≡ weighed g ts +ℤ weighed g us
weighed-append g [] us = omega (arith, ints)
weighed-append g (t ∷ ts) us = omega (arith, ints, weighed-append g ts us)

weighed-neg : (g : Codes → ℤ) (ts : Terms) → neg_ℤ (weighed g ts) ≡ weighed (λ k. neg_ℤ (g k)) ts
weighed-neg g [] = refl
weighed-neg g (t ∷ ts) = omega (arith, ints, *ℤ-neg_ℤ t.0 (g t.1), weighed-neg g ts)

weighed-with_sign : (n : ℕ) (g : Codes → ℤ) (ts : Terms) → with_sign n (weighed g ts) ≡ weighed (λ k. with_sign n (g k)) ts
weighed-with_sign zero g ts = refl
weighed-with_sign (suc n) g ts = ap neg_ℤ (weighed-with_sign n g ts) ∙ weighed-neg (λ k. with_sign n (g k)) ts

-- an operation reads its operand at fixed points, with signs
pub operates_linearly : OperationLaw
operates_linearly operation n bases den ts ps =
    (λ i. int_sum (map (λ (r : ℕ × Codes). weighed-with_sign r.0 (λ k. pos (occurrence bases k r.1)) ts i) (reads_at n operation (map kind_of bases) ps)))
    ∙ int_sum-weighed (λ (r : ℕ × Codes) k. with_sign r.0 (pos (occurrence bases k r.1))) ts (reads_at n operation (map kind_of bases) ps)
    ∙ (λ i. weighed (λ k. int_sum (map (λ (r : ℕ × Codes). with_sign r.0 (sym (numerator-of_key bases k r.1) i)) (reads_at n operation (map kind_of bases) ps))) ts)

-- a product is the sum of the products of the terms
pub reads_bilinearly : BilinearityLaw
reads_bilinearly bases d e ts us ps =
    int_sum-times (λ (c : Codes × Codes) k. pos (occurrence bases k c.0)) (λ (c : Codes × Codes) l. pos (occurrence bases l c.1)) ts us (all_cuts (map kind_of bases) ps)
    ∙ (λ i. weighed (λ k. weighed (λ l. int_sum (map (λ c. sym (numerator-of_key bases k c.0) i *ℤ sym (numerator-of_key bases l c.1) i) (all_cuts (map kind_of bases) ps))) us) ts)
