-- Lists of pairs with more in front, and their tensors.
use Rattle.std.proofs.Common.{◌≡◌, ℕ, zero, suc, ◌+◌, ◌<◌, ◌≤◌, List, [], ◌∷◌, ◌++◌, map, length, take, drop, get_or, refl, sym, ◌∙◌, ap, arith}
use Rattle.std.specs.List.{All, flat_map, sum}
use Rattle.std.proofs.Math.IntN.{ℤ, pos}
use Rattle.std.proofs.lemmas.List.{append_assoc, append-nil, get_or-map, length-map}
use Rattle.std.proofs.lemmas.List.Elements.{All-from_recursion, All-weaker}
use Rattle.std.proofs.lemmas.List.Sums.{sum_by-cons}
use Rattle.coproduct_laws.specs.Coproducts.{terms_of_pairs}
use Rattle.coproduct_rules.specs.PartCuts.{part_cuts}
use Rattle.coproduct_rules.proofs.PartPairs.{complete_rule}
use Rattle.ncsf.specs.PairLists.{CanGrowBy, with_parts, with_part_cut}
use Rattle.realisations.specs.Codes.{Code, Key}
use Rattle.realisations.specs.Combinations.{term_at}
use Rattle.realisations.specs.Exponents.{number_cuts, exponent_cuts, without_zeros}
use Rattle.realisations.specs.IndexKinds.{IsComposition}

-- the tensor at a place
pub term_at-pairs : (pairs : List (Code × Code)) (i : ℕ) → i < length pairs → term_at (terms_of_pairs pairs) i ≡ (pos 1, (get_or pairs i ([], [])).0 ∷ (get_or pairs i ([], [])).1 ∷ [])
term_at-pairs pairs i lt = get_or-map (λ (e : Code × Code). (pos 1, e.0 ∷ e.1 ∷ [])) pairs i ([], []) (pos 0, []) lt

pub length-tensors : (pairs : List (Code × Code)) → length (terms_of_pairs pairs) ≡ length pairs
length-tensors pairs = length-map {B = ℤ × Key} pairs (λ (e : Code × Code). (pos 1, e.0 ∷ e.1 ∷ []))

-- the cuts of a number at a place
pub length-number_cuts : (n : ℕ) → length (number_cuts n) ≡ suc n
length-number_cuts zero = refl
length-number_cuts (suc n) = omega (arith, length-number_cuts n, length-map {B = ℕ × ℕ} (number_cuts n) (λ (e : ℕ × ℕ). (suc e.0, e.1)))

pub number_cuts-at : (n k m : ℕ) → k + m ≡ n → get_or (number_cuts n) k (0, 0) ≡ (k, m)
number_cuts-at zero zero m e = let same : 0 ≡ m = omega (arith, e) in ap (λ j. (0, j)) same
number_cuts-at zero (suc k) m e = absurd (omega (arith, e))
number_cuts-at (suc n) zero m e = let same : suc n ≡ m = omega (arith, e) in ap (λ j. (0, j)) same
number_cuts-at (suc n) (suc k) m e =
    get_or-map (λ (e : ℕ × ℕ). (suc e.0, e.1)) (number_cuts n) k (0, 0) (0, 0) (omega (arith, e, length-number_cuts n))
    ∙ ap (λ (e : ℕ × ℕ). (suc e.0, e.1)) (number_cuts-at n k m (omega (arith, e)))

-- one list more
pub flat_map-more : {A B : Type 0} (f : A → List B) (xs : List A) (k : ℕ) (d : A) → k < length xs → flat_map f (take (k + 1) xs) ≡ flat_map f (take k xs) ++ f (get_or xs k d)
flat_map-more f [] k d lt = absurd (omega (arith, lt))
flat_map-more f (x ∷ xs) zero d lt = append-nil (f x)
flat_map-more f (x ∷ xs) (suc k) d lt =
    let next : suc k + 1 ≡ suc (k + 1) = omega arith in
    rw next (ap (λ v. f x ++ v) (flat_map-more f xs k d (omega (arith, lt))) ∙ sym (append_assoc (f x) (flat_map f (take k xs)) (f (get_or xs k d))))

-- lists without zeros, part by part
without_zeros-first : (a : ℕ) (c : List ℕ) → without_zeros (a ∷ c) ≡ without_zeros (a ∷ []) ++ without_zeros c
without_zeros-first zero c = refl
without_zeros-first (suc a) c = refl

-- one part more
map-append : {A B : Type 0} (f : A → B) (xs ys : List A) → map f (xs ++ ys) ≡ map f xs ++ map f ys
map-append f [] ys = refl
map-append f (x ∷ xs) ys = ap (λ zs. f x ∷ zs) (map-append f xs ys)

one_cut : (a b : ℕ) (cuts : List (List ℕ × List ℕ))
    → map (λ (c : List ℕ × List ℕ). (without_zeros c.0, without_zeros c.1)) (map (λ (c : List ℕ × List ℕ). (a ∷ c.0, b ∷ c.1)) cuts)
    ≡ map (λ e. with_parts a b e) (map (λ (c : List ℕ × List ℕ). (without_zeros c.0, without_zeros c.1)) cuts)
one_cut a b [] = refl
one_cut a b (c ∷ cuts) = λ i. (without_zeros-first a c.0 i, without_zeros-first b c.1 i) ∷ one_cut a b cuts i

all_cuts : (ns : List (ℕ × ℕ)) (cuts : List (List ℕ × List ℕ))
    → map (λ (c : List ℕ × List ℕ). (without_zeros c.0, without_zeros c.1)) (flat_map (λ (n : ℕ × ℕ). map (λ (c : List ℕ × List ℕ). (n.0 ∷ c.0, n.1 ∷ c.1)) cuts) ns)
    ≡ flat_map (λ (n : ℕ × ℕ). map (λ e. with_parts n.0 n.1 e) (map (λ (c : List ℕ × List ℕ). (without_zeros c.0, without_zeros c.1)) cuts)) ns
all_cuts [] cuts = refl
all_cuts (n ∷ ns) cuts =
    map-append (λ (c : List ℕ × List ℕ). (without_zeros c.0, without_zeros c.1)) (map (λ (c : List ℕ × List ℕ). (n.0 ∷ c.0, n.1 ∷ c.1)) cuts) (flat_map (λ (n : ℕ × ℕ). map (λ (c : List ℕ × List ℕ). (n.0 ∷ c.0, n.1 ∷ c.1)) cuts) ns)
    ∙ (λ i. one_cut n.0 n.1 cuts i ++ all_cuts ns cuts i)

pub part_cuts-next : (parts : List ℕ) → 1 ≤ length parts → with_part_cut (get_or parts 0 0) (part_cuts (drop 1 parts)) ≡ part_cuts parts
part_cuts-next [] some = absurd (omega (arith, some))
part_cuts-next (p ∷ parts) some = sym (all_cuts (number_cuts p) (exponent_cuts parts))

-- the cuts of the parts behind the first can grow by the first
pub cuts_grow : (parts : List ℕ) → 1 ≤ length parts → IsComposition parts → sum parts ≤ 12 → All (CanGrowBy (get_or parts 0 0)) (part_cuts (drop 1 parts))
cuts_grow [] some h le = absurd (omega (arith, some))
cuts_grow (p ∷ parts) some h le =
    All-weaker (λ (e : Code × Code). IsComposition e.0 × IsComposition e.1 × (sum e.0 + sum e.1 ≡ sum parts)) (CanGrowBy p)
    (λ e is. record { first = is.0; second = is.1; room = omega (arith, is.2, le, sum_by-cons (λ (k : ℕ). k) p parts) }) (part_cuts parts)
    (All-from_recursion (λ (e : Code × Code). IsComposition e.0 × IsComposition e.1 × (sum e.0 + sum e.1 ≡ sum parts)) (part_cuts parts) (complete_rule parts h.1).indices)
