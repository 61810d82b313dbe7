-- Laws of finite tests, for terms over a class basis in component n. Public functions with empty bodies ensure them (`src/finite_tests.rt`).
use Rattle.std.specs.Prelude.{◌≡◌, ◌≢◌, ℕ, ◌<◌, ◌≤◌, ◌↔◌, ℤ, IsTrue, List, length, set}
use Rattle.basis_names.specs.declared.bases.AlgebraId.{AlgebraId}
use Rattle.basis_names.specs.declared.bases.BasisId.{BasisId}
use Rattle.linear_combos.specs.CodeLists.{ListsIndices}
use Rattle.linear_combos.specs.Keys.{code_at}
use Rattle.realisations.specs.Bases.{has_words, representative}
use Rattle.realisations.specs.Codes.{Code, Key}
use Rattle.realisations.specs.Combinations.{Combination, AreTerms, IsCanonical, norm_of}
use Rattle.realisations.specs.IndexKinds.{by_packed_word, is_packed}
use Rattle.realisations.specs.Pairings.{up_to}
use Rattle.realisations.specs.Points.{Point}
use Rattle.realisations.specs.Readings.{Terms, leaf}
use Rattle.separation_laws.specs.Classes.{class_basis, class_for, index_of_word, is_class_basis}
use Rattle.separation_laws.specs.Conversions.{basis_at, HasWordComponent, Expresses, IsConversion}
use Rattle.separation_laws.specs.FiniteTests.{IsFiner, IsInClassOf, coarse_class, part, TermsHaveOnePart, HasTerm, TwinsInClass, TermsHaveTwins, kept, AreFirstWords, IsOtherPart, IsFirstPair}
use Rattle.separation_laws.specs.Scans.{word_at, ArePackedWords, NoneParted, NonePartners}
use Rattle.separation_laws.specs.Separation.{ReadAlike, ReadDifferently, IsPartner, IsSeparatingPair, HasNoPair}

-- canonical terms over these bases, with this class basis in component n
pub record AreOverClasses (fine : BasisId) (bases : List BasisId) (n d : ℕ) (ts : Terms) : Type 0 where
  pub component : HasWordComponent bases n d ts
  pub basis : basis_at bases n ≡ fine
  pub terms : AreTerms (length bases) ts

-- two words read differently exactly where the parts of their indices differ; a word has a partner exactly where some index of the class of its own has another part; and there is no separating pair exactly where the code of each term has the same part as each index of its class
pub record PartLaw : Type 0 where
  pub differ : (fine : BasisId) → IsTrue (is_class_basis fine) → (bases : List BasisId) (n d den : ℕ) (ts : Terms) → AreOverClasses fine bases n d ts → (u v : Point) →
      ReadDifferently (leaf bases den ts) n u v ↔ (part n (index_of_word fine u) ts ≢ part n (index_of_word fine v) ts)
  pub partner : (fine : BasisId) (target : AlgebraId) → IsFiner fine target → (bases : List BasisId) (n d den : ℕ) (ts : Terms) → AreOverClasses fine bases n d ts → (u : Point) →
      ((v : Point) × IsPartner (leaf bases den ts) n target u v) ↔ ((other : Code) × IsOtherPart n fine target ts (index_of_word fine u) other)
  pub no_pair : (fine : BasisId) (target : AlgebraId) → IsFiner fine target → (bases : List BasisId) (n d den : ℕ) (ts : Terms) → AreOverClasses fine bases n d ts →
      HasNoPair (leaf bases den ts) n target ↔ TermsHaveOnePart n fine target ts

-- the same by numerators: there is no separating pair exactly where each term has its twins; where the terms of its class have them, a word has no partner; and it has one where some term lacks a twin
pub record TwinLaw : Type 0 where
  pub no_pair : (fine : BasisId) (target : AlgebraId) → IsFiner fine target → (bases : List BasisId) (n d den : ℕ) (ts : Terms) → AreOverClasses fine bases n d ts →
      HasNoPair (leaf bases den ts) n target ↔ TermsHaveTwins n fine target ts
  pub no_partner : (fine : BasisId) (target : AlgebraId) → IsFiner fine target → (bases : List BasisId) (n d den : ℕ) (ts : Terms) → AreOverClasses fine bases n d ts →
      (u : Point) → TwinsInClass n fine target ts (class_for target u) → (v : Point) → IsPartner (leaf bases den ts) n target u v → ⊥
  pub partner : (fine : BasisId) (target : AlgebraId) → IsFiner fine target → (bases : List BasisId) (n d den : ℕ) (ts : Terms) → AreOverClasses fine bases n d ts →
      (u : Point) (num : ℤ) (key : Key) → HasTerm ts num key → coarse_class target fine (code_at key n) ≡ class_for target u →
      (other : Code) → IsInClassOf target fine (code_at key n) other → (HasTerm ts num (set key n other) → ⊥) →
      (v : Point) × IsPartner (leaf bases den ts) n target u v

-- a canonical combination over these bases, with this class basis in component n
pub record IsOverClasses (fine : BasisId) (bases : List BasisId) (n d : ℕ) (c : Combination) : Type 0 where
  pub component : HasWordComponent bases n d c.terms
  pub basis : basis_at bases n ≡ fine
  pub rank : c.rank ≡ length bases
  pub canonical : IsCanonical c.rank c.den c.terms

-- the same by a way down and up again: there is no separating pair exactly where the combination that the kept terms make, brought back to the class basis, is the combination; and then what they make is its conversion, with no larger norm and denominator
pub record ReturnLaw : Type 0 where
  pub no_pair : (fine : BasisId) (target : AlgebraId) → IsFiner fine target → (bases : List BasisId) (n d : ℕ) (c down up : Combination) → IsOverClasses fine bases n d c →
      Expresses (set bases n (class_basis target)) (leaf (set bases n (class_basis target)) c.den (kept n fine target c.terms)) down →
      Expresses bases (leaf (set bases n (class_basis target)) down.den down.terms) up →
      HasNoPair (leaf bases c.den c.terms) n target ↔ (up ≡ c)
  pub down : (fine : BasisId) (target : AlgebraId) → IsFiner fine target → (bases : List BasisId) (n d : ℕ) (c down : Combination) → IsOverClasses fine bases n d c →
      Expresses (set bases n (class_basis target)) (leaf (set bases n (class_basis target)) c.den (kept n fine target c.terms)) down →
      HasNoPair (leaf bases c.den c.terms) n target →
      IsConversion (set bases n (class_basis target)) d (norm_of c.terms) c.den (leaf bases c.den c.terms) down

-- each class basis has first words; the first pair of indices in their order has the separating pair as its first words, and where there is a separating pair the indices of its words are such a pair
pub record FirstWordLaw : Type 0 where
  pub exist : (fine : BasisId) → IsTrue (is_class_basis fine) → (first : Code → Point) × AreFirstWords fine first
  pub pair : (fine : BasisId) (first : Code → Point) (target : AlgebraId) → IsFiner fine target → AreFirstWords fine first → (bases : List BasisId) (n d den : ℕ) (ts : Terms) →
      AreOverClasses fine bases n d ts → (code other : Code) → IsFirstPair n fine first target ts code other → IsSeparatingPair (leaf bases den ts) n target (first code) (first other)
  pub indices : (fine : BasisId) (first : Code → Point) (target : AlgebraId) → IsFiner fine target → AreFirstWords fine first → (bases : List BasisId) (n d den : ℕ) (ts : Terms) →
      AreOverClasses fine bases n d ts → (u v : Point) → IsSeparatingPair (leaf bases den ts) n target u v → IsFirstPair n fine first target ts (index_of_word fine u) (index_of_word fine v)

-- the lists of the packed words of each length, one after another, are the packed words in their order. A scan of them up to the degree finds the separating pair, its first word with a partner and the first partner of this one; or that there is none. And there is none exactly where each reads like the representative of its class. Here any basis of words may be in component n
pub record ScanLaw : Type 0 where
  pub words : (d : ℕ) (listing : ℕ → List Code) → ((n : ℕ) → n ≤ d → ListsIndices by_packed_word n (listing n)) → ArePackedWords d (up_to listing d)
  pub none : (target : AlgebraId) → IsTrue (has_words target) → (bases : List BasisId) (n d den : ℕ) (ts : Terms) → HasWordComponent bases n d ts →
      (ws : List Point) → ArePackedWords d ws → NoneParted (leaf bases den ts) n target ws (length ws) → HasNoPair (leaf bases den ts) n target
  pub pair : (target : AlgebraId) → IsTrue (has_words target) → (bases : List BasisId) (n d den : ℕ) (ts : Terms) → HasWordComponent bases n d ts →
      (ws : List Point) → ArePackedWords d ws → (i j : ℕ) → i < length ws → j < length ws →
      NoneParted (leaf bases den ts) n target ws i → NonePartners (leaf bases den ts) n target ws (word_at ws i) j → IsPartner (leaf bases den ts) n target (word_at ws i) (word_at ws j) →
      IsSeparatingPair (leaf bases den ts) n target (word_at ws i) (word_at ws j)
  pub representatives : (target : AlgebraId) → IsTrue (has_words target) → (bases : List BasisId) (n d den : ℕ) (ts : Terms) → HasWordComponent bases n d ts →
      HasNoPair (leaf bases den ts) n target ↔ ((w : Point) → IsTrue (is_packed w) → length w ≤ d → ReadAlike (leaf bases den ts) n w (representative (class_basis target) (class_for target w)))
