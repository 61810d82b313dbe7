-- The complement of a composition, by its bits.
use Rattle.std.proofs.Common.{◌≡◌, ℕ, zero, suc, ◌-◌, Bool, true, false, List, [], ◌∷◌, ◌++◌, map, replicate, refl, sym, ◌∙◌, ap, arith}
use Rattle.std.specs.Prelude.{not}
use Rattle.realisations.specs.Descents.{complement, longer_first}
use Rattle.realisations.specs.IndexKinds.{IsComposition}
use Rattle.basis_representatives.proofs.Bits.{composition_of, bits_of, turned_composition}

-- no descent inside a part, so each place is one of the complement
ones : (n : ℕ) → composition_of (map not (replicate n false)) ≡ replicate (suc n) 1
ones zero = refl
ones (suc n) = ap (λ parts. 1 ∷ parts) (ones n)

-- a part and then others
front : (n : ℕ) (bits : List Bool) → composition_of (map not (replicate n false ++ true ∷ bits)) ≡ replicate n 1 ++ longer_first (composition_of (map not bits))
front zero bits = refl
front (suc n) bits = ap (λ parts. 1 ∷ parts) (front n bits)

one_less : (n : ℕ) → suc n - 1 ≡ n
one_less n = omega arith

pub complement-turned : (parts : List ℕ) → IsComposition parts → complement parts ≡ turned_composition parts
complement-turned [] h = refl
complement-turned (zero ∷ parts) h = absurd (omega (arith, h.0))
complement-turned (suc n ∷ []) h = sym (ones n)
complement-turned (suc n ∷ j ∷ parts) h =
    ap (λ m. replicate m 1 ++ longer_first (complement (j ∷ parts))) (one_less n)
    ∙ ap (λ rest. replicate n 1 ++ longer_first rest) (complement-turned (j ∷ parts) h.1)
    ∙ sym (front n (bits_of (j ∷ parts)))
