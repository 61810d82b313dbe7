-- What each term has, and what each key has.
use Rattle.std.proofs.Common.{◌≡◌, ℕ, zero, suc, ◌+◌, ◌<◌, ◌≤◌, List, [], ◌∷◌, ◌++◌, length, set, remove, refl, subst, arith}
use Rattle.std.proofs.Math.IntN.{ℤ}
use Rattle.basis_names.specs.declared.bases.BasisId.{BasisId}
use Rattle.realisations.specs.Codes.{Key}
use Rattle.realisations.specs.Combinations.{HasKey, term_at}
use Rattle.realisations.specs.Indices.{AreIndices, IsIndex, degree_of, total_degree}
use Rattle.realisations.specs.Readings.{Terms}
use Rattle.realisations.proofs.Coefficients.{Each, each_from}
use Rattle.linear_combos.specs.Keys.{code_at}
use Rattle.separation_laws.specs.Conversions.{basis_at}

-- the key of each term has this
abbrev pub EachKey : (Key → Type 0) → Terms → Type 0
EachKey P ts = Each (λ (t : ℤ × Key). P t.1) ts

-- the two forms of it
pub each_key_from : (P : Key → Type 0) (ts : Terms) → ((key : Key) → HasKey ts key → P key) → EachKey P ts
each_key_from P ts h = each_from (λ (t : ℤ × Key). P t.1) ts (λ i lt. h ((term_at ts i).1) (i, lt, refl))

-- what each term's key has, each key of the terms has
pub each_key_at : (P : Key → Type 0) (ts : Terms) → EachKey P ts → (key : Key) → HasKey ts key → P key
each_key_at P [] h key has = absurd (omega (arith, has.1))
each_key_at P (t ∷ ts) h key (zero, lt, is) = subst P is h.0
each_key_at P (t ∷ ts) h key (suc i, lt, is) = each_key_at P ts h.1 key (i, omega arith, is)

-- what is weaker
pub each_weaker : (P Q : ℤ × Key → Type 0) → ((t : ℤ × Key) → P t → Q t) → (ts : Terms) → Each P ts → Each Q ts
each_weaker P Q f [] h = tt
each_weaker P Q f (t ∷ ts) h = (f t h.0, each_weaker P Q f ts h.1)

-- what has both
pub each_both : (P Q : ℤ × Key → Type 0) (ts : Terms) → Each P ts → Each Q ts → Each (λ (t : ℤ × Key). P t × Q t) ts
each_both P Q [] h k = tt
each_both P Q (t ∷ ts) h k = ((h.0, k.0), each_both P Q ts h.1 k.1)

-- what the terms of two lists have, those of both together have
pub each-append : (P : ℤ × Key → Type 0) (ts us : Terms) → Each P ts → Each P us → Each P (ts ++ us)
each-append P [] us h k = k
each-append P (t ∷ ts) us h k = (h.0, each-append P ts us h.1 k)

-- its code in a component is an index of the component's basis
pub index_at : (n : ℕ) (bases : List BasisId) (key : Key) → n < length bases → AreIndices bases key → IsIndex (basis_at bases n) (code_at key n)
index_at n [] key lt h = absurd (omega arith)
index_at n (basis ∷ bases) [] lt h = absurd h
index_at zero (basis ∷ bases) (code ∷ key) lt h = h.0
index_at (suc n) (basis ∷ bases) (code ∷ key) lt h = index_at n bases key (omega arith) h.1

-- and may be replaced by an index of another basis
pub indices-set : (n : ℕ) (bases : List BasisId) (basis : BasisId) (key : Key) (code : List ℕ) → n < length bases → AreIndices bases key → IsIndex basis code
    → AreIndices (set bases n basis) (set key n code)
indices-set n [] basis key code lt h is = absurd (omega arith)
indices-set n (r ∷ bases) basis [] code lt h is = absurd h
indices-set zero (r ∷ bases) basis (c ∷ key) code lt h is = (is, h.1)
indices-set (suc n) (r ∷ bases) basis (c ∷ key) code lt h is = (h.0, indices-set n bases basis key code (omega arith) h.1 is)

-- the total degree of a key whose code was replaced
pub total_degree-set : (n : ℕ) (bases : List BasisId) (basis : BasisId) (key : Key) (code : List ℕ) → n < length bases → AreIndices bases key
    → total_degree (set bases n basis) (set key n code) + degree_of (basis_at bases n) (code_at key n) ≡ total_degree bases key + degree_of basis code
total_degree-set n [] basis key code lt h = absurd (omega arith)
total_degree-set n (r ∷ bases) basis [] code lt h = absurd h
total_degree-set zero (r ∷ bases) basis (c ∷ key) code lt h = omega arith
total_degree-set (suc n) (r ∷ bases) basis (c ∷ key) code lt h = omega (arith, total_degree-set n bases basis key code (omega arith) h.1)

-- the degree in a component is within the total degree
pub degree_at-le : (n : ℕ) (bases : List BasisId) (key : Key) → n < length bases → AreIndices bases key → degree_of (basis_at bases n) (code_at key n) ≤ total_degree bases key
degree_at-le n [] key lt h = absurd (omega arith)
degree_at-le n (basis ∷ bases) [] lt h = absurd h
degree_at-le zero (basis ∷ bases) (code ∷ key) lt h = omega arith
degree_at-le (suc n) (basis ∷ bases) (code ∷ key) lt h = omega (arith, degree_at-le n bases key (omega arith) h.1)

-- the other codes of a key of indices are indices of the other bases
pub indices-remove : (n : ℕ) (bases : List BasisId) (key : Key) → AreIndices bases key → AreIndices (remove bases n) (remove key n)
indices-remove zero [] [] h = tt
indices-remove (suc n) [] [] h = tt
indices-remove n [] (code ∷ key) h = absurd h
indices-remove n (basis ∷ bases) [] h = absurd h
indices-remove zero (basis ∷ bases) (code ∷ key) h = h.1
indices-remove (suc n) (basis ∷ bases) (code ∷ key) h = (h.0, indices-remove n bases key h.1)

-- what each term has, the term at each place has
pub each_term_at : (P : ℤ × Key → Type 0) (ts : Terms) → Each P ts → (i : ℕ) → i < length ts → P (term_at ts i)
each_term_at P [] h i lt = absurd (omega arith)
each_term_at P (t ∷ ts) h zero lt = h.0
each_term_at P (t ∷ ts) h (suc i) lt = each_term_at P ts h.1 i (omega arith)
