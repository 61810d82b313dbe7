-- Tests as truth values.
use Rattle.std.proofs.Common.{◌≡◌, Bool, true, false, List, ℕ, refl, sym, ◌∙◌, ap}
use Rattle.std.specs.Prelude.{◌||◌}
use Rattle.realisations.specs.Lists.{same_list}
use Rattle.basis_representatives.proofs.SameLists.{same_list-self}

-- two tests that hold together are equal
pub same_tests : (a b : Bool) → (a ≡ true → b ≡ true) → (b ≡ true → a ≡ true) → a ≡ b
same_tests true b f g = sym (f refl)
same_tests false true f g = g refl
same_tests false false f g = refl

-- where the first of two tests fails and one holds, the second does
pub or_rest : (a b : Bool) → a ≡ false → a || b ≡ true → b ≡ true
or_rest true b e h = absurd (cc)
or_rest false b e h = h

-- where the second one fails, the first does
pub or_first : (a b : Bool) → b ≡ false → a || b ≡ true → a ≡ true
or_first true b e h = refl
or_first false b e h = absurd (cc)

-- equal lists pass the test
pub same_list-is : (a b : List ℕ) → a ≡ b → same_list a b ≡ true
same_list-is a b e = ap (λ c. same_list a c) (sym e) ∙ same_list-self a
