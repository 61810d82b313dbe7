-- The cuts of a word: how many there are, which comes next, and that a word is u followed by v for one cut or none.
use Rattle.std.proofs.Common.{◌≡◌, ℕ, zero, suc, ◌+◌, ◌*◌, ◌≤◌, List, [], ◌∷◌, ◌++◌, map, length, take, drop, refl, sym, ◌∙◌, ap, arith}
use Rattle.std.specs.Prelude.{nat_eq}
use Rattle.std.specs.List.{AllByRecursion}
use Rattle.std.proofs.lemmas.List.{length-map, map-append}
use Rattle.realisations.specs.Lists.{same_list, one_if}
use Rattle.realisations.specs.Words.{word_cuts}
use Rattle.realisations.proofs.Every.{every-map}
use Rattle.realisations.proofs.Sums.{sums, sums-map, sums-scale, sums_same, sums_none}
use Rattle.basis_representatives.proofs.SameLists.{one_if-and}

-- one cut more than letters
pub length-word_cuts : (w : List ℕ) → length (word_cuts w) ≡ suc (length w)
length-word_cuts [] = refl
length-word_cuts (x ∷ w) = omega (arith, length-map {B = List ℕ × List ℕ} (word_cuts w) (λ (c : List ℕ × List ℕ). (x ∷ c.0, c.1)), length-word_cuts w)

-- each cut is u and v, of which the word is made
pub each_cut_of : (P : List ℕ × List ℕ → Type 0) (w : List ℕ) → ((u v : List ℕ) → u ++ v ≡ w → P (u, v)) → AllByRecursion P (word_cuts w)
each_cut_of P [] each = (each [] [] refl, tt)
each_cut_of P (x ∷ w) each = (
  each [] (x ∷ w) refl,
  every-map (λ (c : List ℕ × List ℕ). c.0 ++ c.1 ≡ w) P (λ (c : List ℕ × List ℕ). (x ∷ c.0, c.1)) (λ c e. each (x ∷ c.0) c.1 (ap (λ v. x ∷ v) e)) (word_cuts w)
      (each_cut_of (λ c. c.0 ++ c.1 ≡ w) w (λ u v e. e)),
)

take-map : {X Y : Type 0} (f : X → Y) (k : ℕ) (xs : List X) → take k (map f xs) ≡ map f (take k xs)
take-map f zero xs = refl
take-map f (suc k) [] = refl
take-map f (suc k) (x ∷ xs) = ap (λ ys. f x ∷ ys) (take-map f k xs)

-- the cuts up to one more place end with that at this place
pub word_cuts-next : (k : ℕ) (w : List ℕ) → k ≤ length w → take (suc k) (word_cuts w) ≡ take k (word_cuts w) ++ (take k w, drop k w) ∷ []
word_cuts-next zero [] le = refl
word_cuts-next zero (x ∷ w) le = refl
word_cuts-next (suc k) [] le = absurd (omega arith)
word_cuts-next (suc k) (x ∷ w) le =
    let longer : List ℕ × List ℕ → List ℕ × List ℕ = λ c. (x ∷ c.0, c.1) in
    let before : List ℕ × List ℕ = ([], x ∷ w) in
    let here : List ℕ × List ℕ = (take k w, drop k w) in
    ap (λ cs. before ∷ cs)
    (take-map longer (suc k) (word_cuts w)
    ∙ ap (map longer) (word_cuts-next k w (omega arith))
    ∙ map-append longer (take k (word_cuts w)) (here ∷ [])
    ∙ ap (λ cs. cs ++ longer here ∷ []) (sym (take-map longer k (word_cuts w))))

-- sums over the cuts of a word with a first letter: the cut before it, and those after it
sums-word_cuts : (f : List ℕ × List ℕ → ℕ) (x : ℕ) (w : List ℕ) → sums f (word_cuts (x ∷ w)) ≡ f ([], x ∷ w) + sums (λ c. f (x ∷ c.0, c.1)) (word_cuts w)
sums-word_cuts f x w = ap (λ n. f ([], x ∷ w) + n) (sums-map f (λ (c : List ℕ × List ℕ). (x ∷ c.0, c.1)) (word_cuts w))

-- u followed by v is a word for one of its cuts, or for none
pub word_cuts_count : (a b w : List ℕ) → one_if (same_list (a ++ b) w) ≡ sums (λ e. one_if (same_list a e.0) * one_if (same_list b e.1)) (word_cuts w)
word_cuts_count [] b [] = omega arith
word_cuts_count [] b (x ∷ w) =
    sym (sums-word_cuts (λ e. one_if (same_list [] e.0) * one_if (same_list b e.1)) x w
    ∙ omega (arith, sums_none (λ (c : List ℕ × List ℕ). 0 * one_if (same_list b c.1)) (λ c. omega arith) (word_cuts w)))
word_cuts_count (y ∷ a) b [] = omega arith
word_cuts_count (y ∷ a) b (x ∷ w) =
    one_if-and (nat_eq y x) (same_list (a ++ b) w)
    ∙ ap (λ n. one_if (nat_eq y x) * n) (word_cuts_count a b w)
    ∙ sym (sums-scale (one_if (nat_eq y x)) (λ (c : List ℕ × List ℕ). one_if (same_list a c.0) * one_if (same_list b c.1)) (word_cuts w))
    ∙ sums_same (λ (c : List ℕ × List ℕ). one_if (nat_eq y x) * (one_if (same_list a c.0) * one_if (same_list b c.1))) (λ c. one_if (same_list (y ∷ a) (x ∷ c.0)) * one_if (same_list b c.1))
    (λ c. omega (arith, ap (λ n. n * one_if (same_list b c.1)) (one_if-and (nat_eq y x) (same_list a c.0)))) (word_cuts w)
    ∙ sym (sums-word_cuts (λ e. one_if (same_list (y ∷ a) e.0) * one_if (same_list b e.1)) x w ∙ omega arith)
