-- The laws of classes, separation and conversion.
use Rattle.std.proofs.Common.{◌≡◌, ℕ, IsTrue, ◌≤◌, inl, inr, List, set, refl, subst}
use Rattle.basis_names.specs.Bases.{algebra_of}
use Rattle.basis_names.specs.declared.bases.AlgebraId.{AlgebraId}
use Rattle.basis_names.specs.declared.bases.AlgebraId.TheVariants.{Fqsym, Fsym, Ncsf, Pbt, Qsym, Wqsym}
use Rattle.basis_names.specs.declared.bases.BasisId.{BasisId}
use Rattle.realisations.specs.Bases.{has_words, kind_of, lies_in}
use Rattle.realisations.specs.Indices.{AreIndices, total_degree}
use Rattle.realisations.specs.Points.{word}
use Rattle.realisations.specs.Readings.{Terms, leaf}
use Rattle.basis_representatives.proofs.Bits.{inside}
use Rattle.change_laws.proofs.CompositionsByBits.{alike}
use Rattle.separation_laws.specs.Classes.{class_basis}
use Rattle.separation_laws.specs.Conversions.{HasWordComponent, LiesOver, basis_at}
use Rattle.separation_laws.specs.Laws.{ClassBasisLaw, ConversionLaw, PairLaw, SeparationLaw, UpwardLaw}
use Rattle.separation_laws.specs.Separation.{HasNoPair}
use Rattle.separation_laws.proofs.Alike.{ClassesReadAlike, alike_from_terms, alike_in_class}
use Rattle.separation_laws.proofs.ClassBases.{classes_of, indices_by_classes, indices_of}
use Rattle.separation_laws.proofs.CoarserClasses.{determined, occurs_alike, words_of}
use Rattle.separation_laws.proofs.ConversionsByChange.{conversion_exists, terms_exist}
use Rattle.separation_laws.proofs.ConversionsExist.{terms_over_classes}
use Rattle.separation_laws.proofs.DecidedReadings.{AreTermsOver}
use Rattle.separation_laws.proofs.EachTerm.{each_key_at, each_key_from}
use Rattle.separation_laws.proofs.SeparatingPairs.{alike_without_pair, no_pair, one_pair, pair_or_alike}

-- the two forms of terms over bases
pub over_from : (bases : List BasisId) (n d : ℕ) (ts : Terms) → HasWordComponent bases n d ts → AreTermsOver bases d ts
over_from bases n d ts h = record {
  indices = each_key_from (AreIndices bases) ts h.indices;
  degrees = each_key_from (λ key. total_degree bases key ≤ d) ts h.degrees;
}

-- where there is no separating pair words of one class read alike
pub alike_from_none : (target : AlgebraId) → IsTrue (has_words target) → (bases : List BasisId) (n d den : ℕ) (ts : Terms) → HasWordComponent bases n d ts → HasNoPair (leaf bases den ts) n target
    → ClassesReadAlike (leaf bases den ts) n target
alike_from_none target words bases n d den ts h none = alike_without_pair target (classes_of target words) n bases h.there h.kind den d ts (over_from bases n d ts h) none

pub class_bases : ClassBasisLaw
class_bases = record { algebras = classes_of; bases = indices_of; indices = indices_by_classes; coarser = determined }

-- the class basis of an algebra is one of its bases
algebra_of-class_basis : (target : AlgebraId) → algebra_of (class_basis target) ≡ target
algebra_of-class_basis Qsym = refl
algebra_of-class_basis Ncsf = refl
algebra_of-class_basis Fqsym = refl
algebra_of-class_basis Wqsym = refl
algebra_of-class_basis Fsym = refl
algebra_of-class_basis Pbt = refl

-- each algebra of words lies in itself
lies_in-itself : (target : AlgebraId) → IsTrue (lies_in target target)
lies_in-itself Qsym = refl
lies_in-itself Ncsf = refl
lies_in-itself Fqsym = refl
lies_in-itself Wqsym = refl
lies_in-itself Fsym = refl
lies_in-itself Pbt = refl

-- terms over a basis of the algebra that read as the leaf does leave no separating pair
none_from_terms : (to : BasisId) → kind_of to ≡ word → (bases : List BasisId) (n d den : ℕ) (ts : Terms) → HasWordComponent bases n d ts → LiesOver to bases n (leaf bases den ts)
    → HasNoPair (leaf bases den ts) n (algebra_of to)
none_from_terms to kind bases n d den ts h (e, us, positive, over) =
    no_pair (leaf bases den ts) n (algebra_of to)
    (alike_from_terms n bases den ts h.there (over_from bases n d ts h).indices h.kind to kind e us positive over (algebra_of to) (occurs_alike to (algebra_of to) kind (lies_in-itself (algebra_of to))))

pub separation : SeparationLaw
separation = record {
  over_classes = λ target words bases n d den ts h positive. (
    λ none.
        let made = terms_over_classes target words n bases h.there h.kind den ts (over_from bases n d ts h).indices (alike_from_none target words bases n d den ts h none) in
        (den, made.0, positive, made.1),
    λ lies. subst (HasNoPair (leaf bases den ts) n) (algebra_of-class_basis target) (none_from_terms (class_basis target) (classes_of target words).kind bases n d den ts h lies),
  );
  over_any = λ to kind bases n d den ts h positive small. (
    λ none.
        let made = terms_exist to kind n bases h.there h.kind den d ts (over_from bases n d ts h) small (alike_from_none (algebra_of to) (words_of to kind) bases n d den ts h none) in
        (den, made.0, positive, record { indices = each_key_at (AreIndices (set bases n to)) made.0 made.1.over.indices; reads = made.1.reads }),
    none_from_terms to kind bases n d den ts h,
  );
}

pub pairs : PairLaw
pairs = record {
  decided = λ target words bases n d den ts h.
      elim (pair_or_alike target (classes_of target words) n bases h.there h.kind den d ts (over_from bases n d ts h)) [
        | inl pair ↦ inl pair
        | inr alike ↦ inr (no_pair (leaf bases den ts) n target alike)
      ];
  unique = one_pair;
}

pub conversions : ConversionLaw
conversions to kind bases n d den ts h room none =
    conversion_exists to kind n bases h.there h.kind den d ts (over_from bases n d ts h) room (alike_from_none (algebra_of to) (words_of to kind) bases n d den ts h none)

pub upwards : UpwardLaw
upwards target bases n d den ts h inside =
    no_pair (leaf bases den ts) n target
    (alike_in_class n bases den ts target h.there (over_from bases n d ts h).indices (occurs_alike (basis_at bases n) target h.kind inside))
