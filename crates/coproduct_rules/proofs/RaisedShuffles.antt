-- Shuffles of a word with one raised above it: what depends on packings alone does not see how far it is raised.
use Rattle.std.proofs.Common.{◌≡◌, ℕ, ◌+◌, ◌-◌, ◌<◌, ◌≤◌, Bool, true, false, if◌then◌else◌, List, [], ◌∷◌, map, refl, sym, ◌∙◌, ap, arith}
use Rattle.std.specs.Prelude.{nat_le}
use Rattle.std.proofs.lemmas.Bool.Decides.{nat_tests}
use Rattle.realisations.specs.Points.{word, IsPoint}
use Rattle.realisations.specs.Standardisation.{pack}
use Rattle.realisations.specs.Words.{greatest, raise, shuffles}
use Rattle.realisations.proofs.Every.{every-any}
use Rattle.realisations.proofs.RisingMaps.{pack-map}
use Rattle.realisations.proofs.Sums.{sums_same}
use Rattle.basis_representatives.proofs.SameLists.{cons_same}
use Rattle.coproduct_laws.proofs.LowAndHigh.{AreLow, greatest_from_low}
use Rattle.coproduct_laws.proofs.Shuffling.{over_shuffles, over_shuffles-map}
use Rattle.basis_representatives.proofs.PackedWords.{letters_to_greatest}

-- letters past k raised by d
abbrev past_raised : ℕ → ℕ → ℕ → ℕ
past_raised k d x = if nat_le x k then x else x + d

raised_low : (k d x : ℕ) → x ≤ k → past_raised k d x ≡ x
raised_low k d x h = let e : nat_le x k ≡ true = grind (arith, nat_tests) in rw e refl

raised_high : (k d x : ℕ) → k < x → past_raised k d x ≡ x + d
raised_high k d x h = let e : nat_le x k ≡ false = grind (arith, nat_tests) in rw e refl

-- it rises
raised_rises : (k d x y : ℕ) → x < y → past_raised k d x < past_raised k d y
raised_rises k d x y less = by_cases (nat_le x k) refl (nat_le y k) refl
  where
    by_cases : (a : Bool) → nat_le x k ≡ a → (b : Bool) → nat_le y k ≡ b → past_raised k d x < past_raised k d y
    by_cases true p true q = rw (p, q) less
    by_cases true p false q = rw (p, q) (omega arith)
    by_cases false p true q =
        let above : k < x = grind (arith, nat_tests) in
        let below : y ≤ k = grind (arith, nat_tests) in
        absurd (omega arith)
    by_cases false p false q = rw (p, q) (omega arith)

-- it leaves low letters
map_low : (k d : ℕ) (u : List ℕ) → AreLow k u → map (past_raised k d) u ≡ u
map_low k d [] h = refl
map_low k d (x ∷ u) h = cons_same (raised_low k d x h.0) (map_low k d u h.1)

-- and takes letters raised by k to letters raised by k + d
map_high : (k d : ℕ) (v : List ℕ) → IsPoint word v → map (past_raised k d) (raise k v) ≡ raise (k + d) v
map_high k d [] h = refl
map_high k d (x ∷ v) h =
    let sums : k + x + d ≡ k + d + x = omega arith in
    cons_same (raised_high k d (k + x) (omega (arith, h.0)) ∙ sums) (map_high k d v h.1)

-- so it keeps packings
pack_kept : (k d : ℕ) (w : List ℕ) → pack (map (past_raised k d) w) ≡ pack w
pack_kept k d w = pack-map (λ x. Unit {0}) (past_raised k d) (λ x y hx hy less. raised_rises k d x y less) w (every-any (λ x. Unit {0}) (λ x. tt) w)

-- a function of packings has one sum over the shuffles, however far v is raised above u
pub pack_alike : (f : List ℕ → ℕ) → ((x y : List ℕ) → pack x ≡ pack y → f x ≡ f y) → (g : ℕ) (u v : List ℕ) → AreLow g u → IsPoint word v
    → over_shuffles f u (raise g v) ≡ over_shuffles f u (raise (greatest u) v)
pack_alike f same g u v low points =
    let k = greatest u in
    let d = g - greatest u in
    let lows : AreLow k u = letters_to_greatest u k (omega arith) in
    let g_is : k + d ≡ g = let le : greatest u ≤ g = greatest_from_low g u low in omega arith in
    (λ i. over_shuffles f (sym (map_low k d u lows) i) ((ap (λ n. raise n v) (sym g_is) ∙ sym (map_high k d v points)) i))
    ∙ over_shuffles-map f (past_raised k d) u (raise k v)
    ∙ sums_same (λ w. f (map (past_raised k d) w)) f (λ w. same (map (past_raised k d) w) w (pack_kept k d w)) (shuffles u (raise k v))
