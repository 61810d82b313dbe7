-- The code of a binary tree, cut after some of its nodes.
use Rattle.std.specs.Prelude.{◌≡◌, ℕ, zero, suc, min, [], ◌∷◌, length, drop, refl}
use Rattle.realisations.specs.Codes.{Code}
use Rattle.realisations.specs.IndexKinds.{IsTreeCode}

-- the code of the first n nodes of a tree, in infix order: the right subtree of a node that goes past them ends with them
abbrev pub front_code : ℕ → Code → Code
front_code zero code = []
front_code (suc n) [] = []
front_code (suc n) (c ∷ code) = min c (suc n) ∷ front_code n code

-- the code of a tree whose first nodes form the tree of s, and whose others form that of t: their code is that of t as it stands (Loday, Ronco 1998)
pub record IsTreeProduct (s t code : Code) : Type 0 where
  pub tree : IsTreeCode code
  pub front : front_code (length s) code ≡ s
  pub back : drop (length s) code ≡ t

-- of 211, a root with a left child that has a right child, the first two nodes form 21, and the last one is 1
pub front_code-211 : front_code 2 (2 ∷ 1 ∷ 1 ∷ []) ≡ 2 ∷ 1 ∷ []
front_code-211 = refl

-- of 321, a root with a right child that has a right child, the first node forms 1
pub front_code-321 : front_code 1 (3 ∷ 2 ∷ 1 ∷ []) ≡ 1 ∷ []
front_code-321 = refl
