-- What each letter of a word has.
use Rattle.std.proofs.Common.{◌≡◌, ℕ, zero, suc, ◌+◌, ◌<◌, ◌≤◌, List, [], ◌∷◌, ◌++◌, map, replicate, refl, arith}
use Rattle.std.specs.List.{range_with_len}
use Rattle.realisations.specs.Words.{greatest}
use Rattle.realisations.proofs.RisingMaps.{Letters}
use Rattle.basis_representatives.proofs.SameLists.{cons_same}

-- what P implies
pub Letters-weaker : (P Q : ℕ → Type 0) → ((x : ℕ) → P x → Q x) → (w : List ℕ) → Letters P w → Letters Q w
Letters-weaker P Q implies [] h = tt
Letters-weaker P Q implies (x ∷ w) h = (implies x h.0, Letters-weaker P Q implies w h.1)

-- in two words together
pub Letters-append : (P : ℕ → Type 0) (u v : List ℕ) → Letters P u → Letters P v → Letters P (u ++ v)
Letters-append P [] v hu hv = hv
Letters-append P (x ∷ u) v hu hv = (hu.0, Letters-append P u v hu.1 hv)

-- in the first of two words
pub Letters-front : (P : ℕ → Type 0) (u v : List ℕ) → Letters P (u ++ v) → Letters P u
Letters-front P [] v h = tt
Letters-front P (x ∷ u) v h = (h.0, Letters-front P u v h.1)

-- in a block of equal letters
pub Letters-replicate : (P : ℕ → Type 0) (n x : ℕ) → P x → Letters P (replicate n x)
Letters-replicate P zero x h = tt
Letters-replicate P (suc n) x h = (h, Letters-replicate P n x h)

-- in a range
pub Letters-range : (P : ℕ → Type 0) (a n : ℕ) → ((x : ℕ) → a ≤ x → x < a + n → P x) → Letters P (range_with_len a n)
Letters-range P a zero h = tt
Letters-range P a (suc n) h = (h a (omega arith) (omega arith), Letters-range P (a + 1) n (λ x from to. h x (omega arith) (omega arith)))

-- among the values of a function on a range
pub Letters-values : (P : ℕ → Type 0) (f : ℕ → ℕ) (a n : ℕ) → ((x : ℕ) → a ≤ x → x < a + n → P (f x)) → Letters P (map f (range_with_len a n))
Letters-values P f a zero h = tt
Letters-values P f a (suc n) h = (h a (omega arith) (omega arith), Letters-values P f (a + 1) n (λ x from to. h x (omega arith) (omega arith)))

-- maps that agree on the letters
pub map_same : (f g : ℕ → ℕ) (P : ℕ → Type 0) → ((x : ℕ) → P x → f x ≡ g x) → (w : List ℕ) → Letters P w → map f w ≡ map g w
map_same f g P h [] l = refl
map_same f g P h (x ∷ w) l = cons_same (h x l.0) (map_same f g P h w l.1)

-- the letters are from 1 to b
abbrev pub UpTo : ℕ → List ℕ → Type 0
UpTo b w = Letters (λ x. (1 ≤ x) × (x ≤ b)) w

-- positive letters are from 1 to the greatest
pub up_to_greatest : (w : List ℕ) (m : ℕ) → greatest w ≤ m → Letters (λ x. 1 ≤ x) w → UpTo m w
up_to_greatest [] m h l = tt
up_to_greatest (x ∷ w) m h l = ((l.0, omega arith), up_to_greatest w m (omega arith) l.1)
