-- Codes as indices of the bases of NCSF, and words as points.
use Rattle.std.proofs.Common.{◌≡◌, ◌↔◌, IsTrue, refl, sym, ap, subst, arith}
use Rattle.std.specs.Prelude.{nat_le}
use Rattle.std.specs.List.{sum}
use Rattle.std.proofs.lemmas.Bool.{leb-true, le-leb}
use Rattle.basis_names.specs.declared.bases.BasisId.{BasisId}
use Rattle.basis_names.specs.declared.bases.BasisId.TheVariants.{NcsfR}
use Rattle.basis_representatives.proofs.Steps.{IsComposition-descent_composition}
use Rattle.compositions.proofs.Parts.{composition_from_letters}
use Rattle.index_rules.specs.Spaces.{IsIndexWithin, IsClass, limit_for}
use Rattle.linear_combos.specs.Codes.{IsCode}
use Rattle.realisations.specs.Bases.{index_kind_of}
use Rattle.realisations.specs.Codes.{Code}
use Rattle.realisations.specs.Descents.{descent_composition}
use Rattle.realisations.specs.IndexKinds.{IsOfKind, by_composition, degree_by}
use Rattle.realisations.specs.Indices.{degree_of}
use Rattle.realisations.proofs.DescentCompositions.{descends}

-- every code is a composition, so its sum decides
pub code_within : (basis : BasisId) (code : Code) → index_kind_of basis ≡ by_composition → limit_for basis ≡ 10 → IsCode code → IsTrue (nat_le (sum code) 10) ↔ IsIndexWithin basis code
code_within basis code kind limit is =
    let degree : degree_of basis code ≡ sum code = ap (λ k. degree_by k code) kind in (
      λ small. record { index = subst (λ k. IsOfKind k code) (sym kind) (composition_from_letters code is.letters); degree = omega (arith, degree, limit, leb-true (sum code) 10 small) },
      λ index. le-leb (sum code) 10 (omega (arith, degree, limit, index.degree)),
    )

-- a word is of the class of its descent composition
pub class_of_word : (p class : Code) → class ≡ descent_composition p → IsClass NcsfR p class
class_of_word p class is = rw is (record { index_of = IsComposition-descent_composition p; degree = (descends p).0; occurs_alone = λ code h. refl })
