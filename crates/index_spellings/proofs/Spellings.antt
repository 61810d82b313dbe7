-- What a list spells: the code of one object within a limit, or nothing.
use Rattle.std.proofs.Common.{◌≡◌, ℕ, zero, suc, ◌≤◌, Bool, true, false, ◌&&◌, List, [], ◌∷◌, ◌++◌, Option, Some, None, refl, append_assoc, arith, if◌then◌else◌}
use Rattle.std.specs.Prelude.{nat_le}
use Rattle.std.proofs.lemmas.Bool.{leb-true, le-leb}
use Rattle.realisations.specs.Codes.{Code}
use Rattle.realisations.specs.IndexKinds.{IsComposition}
use Rattle.index_spellings.specs.Items.{before}
use Rattle.index_spellings.specs.Indices.{all_positive, code_within}

-- numbers before others, where there are these
abbrev pub behind : List ℕ → Option (List ℕ) → Option (List ℕ)
behind code None = None
behind code (Some more) = Some (code ++ more)

pub behind-before : (code : List ℕ) (n : ℕ) (more : Option (List ℕ)) → behind code (before n more) ≡ behind (code ++ n ∷ []) more
behind-before code n None = refl
behind-before code n (Some more) = rw append_assoc

pub composition-positive : (ns : List ℕ) → all_positive ns ≡ true → IsComposition ns
composition-positive [] h = tt
composition-positive (zero ∷ ns) h = absurd (cc)
composition-positive (suc n ∷ ns) h = (omega arith, composition-positive ns h)

pub positive-composition : (ns : List ℕ) → IsComposition ns → all_positive ns ≡ true
positive-composition [] h = refl
positive-composition (zero ∷ ns) h = absurd (omega (arith, h.0))
positive-composition (suc n ∷ ns) h = positive-composition ns h.1

both-true : (p q : Bool) → (p && q) ≡ true → (p ≡ true) × (q ≡ true)
both-true true q e = (refl, e)
both-true false q e = absurd (cc)

module _ {A : Type 0} (limit : ℕ) (test : A → Bool) (degree : A → ℕ) (code_of : A → Code) where
  -- an object that passes the test and is within the limit
  abbrev pub Passes : A → Type 0
  Passes x = (test x ≡ true) × (degree x ≤ limit)

  -- it is there, and its code is spelled
  pub code-spelled : (o : Option A) (x : A) → o ≡ Some x → Passes x → Some (code_of x) ≡ code_within limit test degree code_of o
  code-spelled o x is h = rw (is, h.0, le-leb (degree x) limit h.1) refl

  -- what is spelled is the code of such an object
  pub spelled-passes : (o : Option A) (code : Code) → code_within limit test degree code_of o ≡ Some code → (x : A) × (o ≡ Some x) × (Passes x) × (code_of x ≡ code)
  spelled-passes None code h = absurd (cc)
  spelled-passes (Some x) code h = by_test (test x && nat_le (degree x) limit) refl h
    where
      by_test : (b : Bool) → (test x && nat_le (degree x) limit) ≡ b → (if b then Some (code_of x) else None) ≡ Some code → (y : A) × (Some x ≡ Some y) × (Passes y) × (code_of y ≡ code)
      by_test true e h =
          let both = both-true (test x) (nat_le (degree x) limit) e in
          let same : code_of x ≡ code = cc in
          (x, refl, (both.0, leb-true (degree x) limit both.1), same)
      by_test false e h = absurd (cc)

  -- where there is none, nothing is spelled
  pub nothing-spelled : (o : Option A) → ((x : A) → o ≡ Some x → Passes x → ⊥) → None ≡ code_within limit test degree code_of o
  nothing-spelled o none = by_answer (code_within limit test degree code_of o) refl
    where
      by_answer : (answer : Option Code) → code_within limit test degree code_of o ≡ answer → None ≡ answer
      by_answer None e = refl
      by_answer (Some code) e = let is = spelled-passes o code e in absurd (none is.0 is.1 is.2)
