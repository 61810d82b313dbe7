-- Words whose front and back have given patterns: permutations by their standardisations, packed words by their packings. And the steps by which they are found, from the smallest letter on.
use Rattle.std.specs.Prelude.{◌≡◌, ℕ, ◌+◌, ◌<◌, ◌≤◌, IsTrue, List, length, take, drop}
use Rattle.std.specs.List.{AllByRecursion}
use Rattle.realisations.specs.IndexKinds.{is_packed, is_permutation}
use Rattle.realisations.specs.Standardisation.{count_same, pack, standardise}
use Rattle.realisations.specs.Words.{greatest}
use Rattle.word_laws.specs.Spreads.{IsSpread}

-- a permutation whose first letters have the standardisation a, and the others the standardisation b (Malvenuto, Reutenauer 1995)
pub record IsConvolution (a b w : List ℕ) : Type 0 where
  pub permutation : IsTrue (is_permutation w)
  pub front : standardise (take (length a) w) ≡ a
  pub back : standardise (drop (length a) w) ≡ b

-- a packed word whose first letters have the packing a, and the others the packing b (Hivert 1999)
pub record IsMerge (a b w : List ℕ) : Type 0 where
  pub packed : IsTrue (is_packed w)
  pub front : pack (take (length a) w) ≡ a
  pub back : pack (drop (length a) w) ≡ b

-- the word w is u and v one behind the other, both spread past n
pub record AreSpread (n : ℕ) (u v w : List ℕ) : Type 0 where
  pub front : IsSpread n u (take (length u) w)
  pub back : IsSpread n v (drop (length u) w)

-- the packed ones of these
pub record IsMergePast (n : ℕ) (u v w : List ℕ) : Type 0 where
  pub packed : IsTrue (is_packed w)
  pub spread : AreSpread n u v w

-- and the permutations
pub record IsConvolutionPast (n : ℕ) (u v w : List ℕ) : Type 0 where
  pub permutation : IsTrue (is_permutation w)
  pub spread : AreSpread n u v w

-- a front and a back of at most 12 letters together whose letters up to n are settled: each of these is in one of them, and past n both have each letter up to their greatest
pub record IsMergeFront (n : ℕ) (u v : List ℕ) : Type 0 where
  pub positive_front : AllByRecursion (λ x. 1 ≤ x) u
  pub positive_back : AllByRecursion (λ x. 1 ≤ x) v
  pub settled : (x : ℕ) → 1 ≤ x → x ≤ n → 1 ≤ count_same x u + count_same x v
  pub open_front : (x : ℕ) → n < x → x ≤ greatest u → 1 ≤ count_same x u
  pub open_back : (x : ℕ) → n < x → x ≤ greatest v → 1 ≤ count_same x v
  pub front_past : n ≤ greatest u
  pub back_past : n ≤ greatest v
  pub small : greatest u + greatest v ≤ n + 12
  pub short : length u + length v ≤ 12

-- the same for permutations: each of the settled letters is there once, and each letter past n once in its part
pub record IsConvolutionFront (n : ℕ) (u v : List ℕ) : Type 0 where
  pub positive_front : AllByRecursion (λ x. 1 ≤ x) u
  pub positive_back : AllByRecursion (λ x. 1 ≤ x) v
  pub settled : (x : ℕ) → 1 ≤ x → x ≤ n → count_same x u + count_same x v ≡ 1
  pub open_front : (x : ℕ) → n < x → x ≤ greatest u → count_same x u ≡ 1
  pub open_back : (x : ℕ) → n < x → x ≤ greatest v → count_same x v ≡ 1
  pub front_past : n ≤ greatest u
  pub back_past : n ≤ greatest v
  pub whole : greatest u + greatest v ≡ n + (length u + length v)
  pub short : length u + length v ≤ 12
