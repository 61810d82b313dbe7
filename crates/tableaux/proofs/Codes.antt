-- Words that are codes: fronts of codes, and lattice words.
use Rattle.std.proofs.Common.{◌≡◌, ℕ, ◌≤◌, List, ◌++◌, length, subst, sym, arith}
use Rattle.std.proofs.lemmas.List.{length-append}
use Rattle.linear_combos.specs.Codes.{IsCode}
use Rattle.linear_combos.proofs.Letters.{letters_at_left, letters_from, letters_to}
use Rattle.permutation_words.proofs.Codes.{IsCode-greatest}
use Rattle.tableau_laws.specs.LatticeWords.{IsLatticeWord}
use Rattle.tableau_laws.proofs.LatticeColumns.{greatest-lattice}

-- the front of a code is a code
pub IsCode-front : (u v w : List ℕ) → u ++ v ≡ w → IsCode w → IsCode u
IsCode-front u v w e h =
    let k : IsCode (u ++ v) = subst IsCode (sym e) h in
    record { short = omega (arith, k.short, length-append u v); letters = letters_to u (letters_at_left u v (letters_from (u ++ v) k.letters)) }

-- a lattice word of at most 15 letters
pub IsCode-lattice : (code : List ℕ) → IsLatticeWord code → length code ≤ 15 → IsCode code
IsCode-lattice code h le = IsCode-greatest code h.positive (omega (arith, greatest-lattice code h, le)) le
