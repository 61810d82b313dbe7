-- Laws of coproducts, by rules on indices. Public functions with empty bodies ensure them (`src/laws.rt`).
use Rattle.std.specs.Prelude.{◌≡◌, ◌≤◌, List, [], ◌∷◌, length}
use Rattle.basis_names.specs.declared.bases.BasisId.{BasisId}
use Rattle.basis_names.specs.declared.bases.BasisId.TheVariants.{FqsymG, QsymM, WqsymM}
use Rattle.realisations.specs.Answers.{IsAnswer}
use Rattle.realisations.specs.Combinations.{Combination, IsCanonical, norm_of}
use Rattle.realisations.specs.Indices.{IsIndex, degree_of}
use Rattle.realisations.specs.Readings.{applied, coproduct, element}
use Rattle.realisations.specs.Words.{word_cuts}
use Rattle.coproduct_laws.specs.AddedPairs.{AddsPairs}
use Rattle.coproduct_laws.specs.Coproducts.{IsCoproductRule}
use Rattle.coproduct_laws.specs.ValueCuts.{value_cuts}
use Rattle.realisations.specs.Codes.{Code}

-- WQSym.M of a packed word: for each k the letters up to k, and those past k lowered by k (Hivert 1999)
abbrev pub PackedCoproductLaw : Type 0
PackedCoproductLaw = (w : Code) → IsIndex WqsymM w → IsCoproductRule WqsymM w (value_cuts w)

-- FQSym.G of a permutation: for each k the values up to k, and those past k lowered by k (Duchamp, Hivert, Thibon 2002)
abbrev pub ValueCoproductLaw : Type 0
ValueCoproductLaw = (s : Code) → IsIndex FqsymG s → IsCoproductRule FqsymG s (value_cuts s)

-- QSym.M of a composition: for each cut of its parts the first ones, and the others (Gessel 1984)
abbrev pub MonomialCoproductLaw : Type 0
MonomialCoproductLaw = (parts : Code) → IsIndex QsymM parts → IsCoproductRule QsymM parts (word_cuts parts)

-- a canonical combination of rank 2 over 1, to which the pairs of a coproduct rule were added, each once, and whose norm is at most their number, is the answer
abbrev pub AnswerLaw : Type 0
AnswerLaw = (basis : BasisId) (code : Code) (pairs : List (Code × Code)) (c : Combination) → IsCoproductRule basis code pairs →
    IsCanonical c.rank c.den c.terms → c.rank ≡ 2 → c.den ≡ 1 → norm_of c.terms ≤ length pairs → AddsPairs [] c.terms pairs →
    IsAnswer (basis ∷ basis ∷ []) (degree_of basis code) (applied coproduct 0 (element basis code)) c
