-- A code that is built letter by letter.
use Rattle.std.proofs.Common.{◌≡◌, ℕ, ◌+◌, ◌<◌, ◌≤◌, List, [], ◌∷◌, ◌++◌, length, take, get_or, refl, sym, ◌∙◌, ap, subst}
use Rattle.std.proofs.lemmas.List.{take_more, take_all}
use Rattle.linear_combos.specs.Codes.{IsCode}
use Rattle.linear_combos.proofs.Words.{IsCode-take}

-- one letter more of a list
pub next_front : (list out : List ℕ) (i j x : ℕ) → i < length list → j ≡ i + 1 → out ≡ take i list → x ≡ get_or list i 0 → out ++ x ∷ [] ≡ take j list
next_front list out i j x lt next so_far is =
    ap (λ w. w ++ x ∷ []) so_far ∙ ap (λ y. take i list ++ y ∷ []) is ∙ sym (take_more list i 0 lt) ∙ ap (λ n. take n list) (sym next)

-- the fronts of a code are codes
pub next_code : (list out : List ℕ) (i x : ℕ) → IsCode list → i < length list → out ≡ take i list → x ≡ get_or list i 0 → IsCode (out ++ x ∷ [])
next_code list out i x code lt so_far is = subst IsCode (sym (next_front list out i (i + 1) x lt refl so_far is)) (IsCode-take (i + 1) list code)

-- the whole list
pub whole_front : (list out : List ℕ) (n : ℕ) → length list ≤ n → out ≡ take n list → out ≡ list
whole_front list out n le so_far = so_far ∙ take_all n list le
