-- Known values of the definitions, by evaluation: the classes of two words for each algebra, and that these separate FQSym.G of 213 from NCSF.
use Rattle.std.specs.Prelude.{◌≡◌, pos, [], ◌∷◌, refl, insert}
use Rattle.basis_names.specs.declared.bases.AlgebraId.TheVariants.{Ncsf, Fqsym, Wqsym, Fsym, Pbt}
use Rattle.basis_names.specs.declared.bases.BasisId.TheVariants.{FqsymF, FqsymG}
use Rattle.realisations.specs.Readings.{element, numerator}
use Rattle.separation_laws.specs.Classes.{class_for, index_of_word}
use Rattle.separation_laws.specs.FiniteTests.{coarse_class, kept, part}

-- 211 and 212 have one descent composition and one tableau, but two standardisations and two trees
pub ncsf-211 : class_for Ncsf (2 ∷ 1 ∷ 1 ∷ []) ≡ 1 ∷ 2 ∷ []
ncsf-211 = refl

pub ncsf-212 : class_for Ncsf (2 ∷ 1 ∷ 2 ∷ []) ≡ 1 ∷ 2 ∷ []
ncsf-212 = refl

pub fqsym-211 : class_for Fqsym (2 ∷ 1 ∷ 1 ∷ []) ≡ 3 ∷ 1 ∷ 2 ∷ []
fqsym-211 = refl

pub fqsym-212 : class_for Fqsym (2 ∷ 1 ∷ 2 ∷ []) ≡ 2 ∷ 1 ∷ 3 ∷ []
fqsym-212 = refl

pub pbt-211 : class_for Pbt (2 ∷ 1 ∷ 1 ∷ []) ≡ 3 ∷ 1 ∷ 1 ∷ []
pbt-211 = refl

pub pbt-212 : class_for Pbt (2 ∷ 1 ∷ 2 ∷ []) ≡ 2 ∷ 1 ∷ 1 ∷ []
pbt-212 = refl

pub fsym-211 : class_for Fsym (2 ∷ 1 ∷ 1 ∷ []) ≡ 1 ∷ 2 ∷ 1 ∷ []
fsym-211 = refl

pub fsym-212 : class_for Fsym (2 ∷ 1 ∷ 2 ∷ []) ≡ 1 ∷ 2 ∷ 1 ∷ []
fsym-212 = refl

-- 213 has the standardisation of 212, and another packing
pub fqsym-213 : class_for Fqsym (2 ∷ 1 ∷ 3 ∷ []) ≡ 2 ∷ 1 ∷ 3 ∷ []
fqsym-213 = refl

pub wqsym-212 : class_for Wqsym (2 ∷ 1 ∷ 2 ∷ []) ≡ 2 ∷ 1 ∷ 2 ∷ []
wqsym-212 = refl

-- F of 231 occurs at 211, G of 312
pub index_of_word-f : index_of_word FqsymF (2 ∷ 1 ∷ 1 ∷ []) ≡ 2 ∷ 3 ∷ 1 ∷ []
index_of_word-f = refl

pub index_of_word-g : index_of_word FqsymG (2 ∷ 1 ∷ 1 ∷ []) ≡ 3 ∷ 1 ∷ 2 ∷ []
index_of_word-g = refl

-- G of 213 is read 0 at 211 and 1 at 212, so these two separate it from NCSF
pub g_213-at-211 : numerator (element FqsymG (2 ∷ 1 ∷ 3 ∷ [])) (insert [] 0 (2 ∷ 1 ∷ 1 ∷ [])) ≡ pos 0
g_213-at-211 = refl

pub g_213-at-212 : numerator (element FqsymG (2 ∷ 1 ∷ 3 ∷ [])) (insert [] 0 (2 ∷ 1 ∷ 2 ∷ [])) ≡ pos 1
g_213-at-212 = refl

-- the class of 231 over F for PBT is that of its inverse
pub coarse_class-f : coarse_class Pbt FqsymF (2 ∷ 3 ∷ 1 ∷ []) ≡ 3 ∷ 1 ∷ 1 ∷ []
coarse_class-f = refl

-- the part of a code in the second component
pub part-second : part 1 (2 ∷ []) ((pos 5, (1 ∷ []) ∷ (2 ∷ []) ∷ []) ∷ (pos 7, (3 ∷ []) ∷ (1 ∷ []) ∷ []) ∷ []) ≡ (pos 5, (1 ∷ []) ∷ []) ∷ []
part-second = refl

-- of G of 213 and of 312, both with descent composition 12, one is kept
pub kept-ribbon : kept 0 FqsymG Ncsf ((pos 4, (2 ∷ 1 ∷ 3 ∷ []) ∷ []) ∷ (pos 5, (3 ∷ 1 ∷ 2 ∷ []) ∷ []) ∷ []) ≡ (pos 5, (1 ∷ 2 ∷ []) ∷ []) ∷ []
kept-ribbon = refl
