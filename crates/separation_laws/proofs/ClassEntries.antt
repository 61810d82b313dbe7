-- The element of a code over a basis of words, read at the representative of each class: terms over the class basis of an algebra.
use Rattle.std.proofs.Common.{◌≡◌, ℕ, ◌+◌, ◌*◌, ◌≤◌, Bool, true, false, List, [], ◌∷◌, map, length, refl, sym, ◌∙◌, ap, subst, arith, unsigned_abs}
use Rattle.std.specs.List.{AllByRecursion}
use Rattle.std.proofs.Math.IntN.{ℤ, pos, ◌+ℤ◌, ◌*ℤ◌, pos-*ℤ-pos}
use Rattle.std.proofs.lemmas.Int.{ints}
use Rattle.std.proofs.lemmas.List.Sums.{sum_by-cons}
use Rattle.basis_names.specs.declared.bases.AlgebraId.{AlgebraId}
use Rattle.basis_names.specs.declared.bases.BasisId.{BasisId}
use Rattle.realisations.specs.Bases.{kind_of}
use Rattle.realisations.specs.Codes.{Code, Key}
use Rattle.realisations.specs.Combinations.{norm_of, weighed}
use Rattle.realisations.specs.Indices.{IsIndex, degree_of}
use Rattle.realisations.specs.Lists.{one_if, same_list}
use Rattle.realisations.specs.Occurrence.{occurs}
use Rattle.realisations.specs.Points.{Point, word}
use Rattle.realisations.specs.Readings.{Terms}
use Rattle.basis_representatives.proofs.SameLists.{same_list-true}
use Rattle.word_laws.specs.AddedCodes.{times_in}
use Rattle.linear_combos.specs.Keys.{code_at}
use Rattle.separation_laws.specs.Classes.{IsClassBasis, class_basis, class_for}
use Rattle.separation_laws.proofs.Classes.{length-occurs, length-representative, word_for}
use Rattle.separation_laws.proofs.EachTerm.{EachKey}
use Rattle.separation_laws.proofs.ExpandedKeys.{AreOfDegreeOf}
use Rattle.separation_laws.proofs.Expansions.{OccursAs}
use Rattle.separation_laws.proofs.Listings.{IsListing}

-- each code with a number
abbrev numbered : (Code → ℕ) → List Code → Terms
numbered f codes = map (λ c. (pos (f c), c ∷ [])) codes

-- at one code they weigh its number, as often as it is listed
weighed-numbered : (f : Code → ℕ) (x : Code) (codes : List Code) → weighed (λ k. pos (one_if (same_list x (code_at k 0)))) (numbered f codes) ≡ pos (f x * times_in x codes)
weighed-numbered f x [] = ap pos (let e : 0 ≡ f x * 0 = omega arith in e)
weighed-numbered f x (c ∷ codes) = by_test (same_list x c) refl (weighed-numbered f x codes)
  where
    by_test : (b : Bool) → same_list x c ≡ b → weighed (λ k. pos (one_if (same_list x (code_at k 0)))) (numbered f codes) ≡ pos (f x * times_in x codes)
        → pos (f c) *ℤ pos (one_if b) +ℤ weighed (λ k. pos (one_if (same_list x (code_at k 0)))) (numbered f codes) ≡ pos (f x * (one_if b + times_in x codes))
    by_test true e rest =
        let same : f x ≡ f c = ap f (same_list-true x c e) in
        let first : f c * 1 ≡ f c = omega arith in
        let all : f x * (1 + times_in x codes) ≡ f x + f x * times_in x codes = omega arith in
        omega (arith, ints, rest, pos-*ℤ-pos (f c) 1, ap pos first, ap pos all, ap pos same)
    by_test false e rest =
        let none : f c * 0 ≡ 0 = omega arith in
        let all : f x * (0 + times_in x codes) ≡ f x * times_in x codes = omega arith in
        omega (arith, ints, rest, pos-*ℤ-pos (f c) 0, ap pos none, ap pos all)

norm-numbered : (f : Code → ℕ) (codes : List Code) → ((c : Code) → f c ≤ 1) → norm_of (numbered f codes) ≤ length codes
norm-numbered f [] small = omega arith
norm-numbered f (c ∷ codes) small =
    omega (arith, sum_by-cons (λ (t : ℤ × Key). unsigned_abs t.0) (pos (f c), c ∷ []) (numbered f codes), small c, norm-numbered f codes small)

each-numbered : (P : Code → Type 0) (f : Code → ℕ) (codes : List Code) → AllByRecursion P codes → EachKey (λ k. P (code_at k 0)) (numbered f codes)
each-numbered P f [] h = tt
each-numbered P f (c ∷ codes) h = (h.0, each-numbered P f codes h.1)

one_if-small : (b : Bool) → one_if b ≤ 1
one_if-small true = omega arith
one_if-small false = omega arith

-- the classes of the degree of a code, each with 1 where the element occurs at its representative
abbrev pub class_entries : BasisId → AlgebraId → (ℕ → List Code) → Code → Terms
class_entries basis target listing code = numbered (λ c. one_if (occurs basis code (word_for target c))) (listing (degree_of basis code))

module _ (target : AlgebraId) (classes : IsClassBasis (class_basis target) (class_for target)) (growth : ℕ) (listing : ℕ → List Code) (lists : IsListing (class_basis target) growth listing)
    (basis : BasisId) (kind : kind_of basis ≡ word) where
  -- they are indices of its degree
  pub degree-class_entries : (code : Code) → AreOfDegreeOf basis (class_basis target) code (class_entries basis target listing code)
  degree-class_entries code =
      each-numbered (λ c. IsIndex (class_basis target) c × (degree_of (class_basis target) c ≡ degree_of basis code)) (λ c. one_if (occurs basis code (word_for target c)))
      (listing (degree_of basis code)) (lists.each (degree_of basis code))

  -- no more than there are indices
  pub norm-class_entries : (code : Code) → norm_of (class_entries basis target listing code) ≤ length (listing (degree_of basis code))
  norm-class_entries code = norm-numbered (λ c. one_if (occurs basis code (word_for target c))) (listing (degree_of basis code)) (λ c. one_if-small (occurs basis code (word_for target c)))

  -- and occur at a word together as the element does at the representative of its class
  pub occur-class_entries : (code : Code) (p : Point) → OccursAs (class_basis target) (class_entries basis target listing code) p basis code (word_for target (class_for target p))
  occur-class_entries code p =
      let x = class_for target p in
      (λ i. weighed (λ k. pos (one_if (classes.occurs_in (code_at k 0) p i))) (class_entries basis target listing code))
      ∙ weighed-numbered (λ c. one_if (occurs basis code (word_for target c))) x (listing (degree_of basis code))
      ∙ ap pos (by_test (occurs basis code (word_for target x)) refl)
    where
      by_test : (b : Bool) → occurs basis code (word_for target (class_for target p)) ≡ b → one_if b * times_in (class_for target p) (listing (degree_of basis code)) ≡ one_if b
      by_test true e =
          let x = class_for target p in
          let same : degree_of (class_basis target) x ≡ degree_of basis code =
          sym (length-representative (class_basis target) (class_for target) classes x (classes.index p)) ∙ length-occurs basis kind code (word_for target x) e in
          let once : times_in x (listing (degree_of basis code)) ≡ 1 = subst (λ m. times_in x (listing m) ≡ 1) same (lists.once x (classes.index p)) in
          omega (arith, once)
      by_test false e = omega arith
