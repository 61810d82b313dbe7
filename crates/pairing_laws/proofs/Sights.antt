-- What combinations of rank 1 see of a point, and up to which degree they are not 0.
use Rattle.std.proofs.Common.{◌≡◌, ℕ, ◌*◌, ◌<◌, ◌≤◌, Bool, true, false, List, [], ◌∷◌, length, refl, sym, ◌∙◌, ap, arith}
use Rattle.std.specs.Prelude.{nat_eq}
use Rattle.std.specs.List.{concat, sum}
use Rattle.std.proofs.Math.IntN.{ℤ, pos, ◌*ℤ◌, *ℤ-zero}
use Rattle.std.proofs.lemmas.Bool.{eqb-true}
use Rattle.std.proofs.lemmas.List.{length-map}
use Rattle.std.proofs.lemmas.List.FromFn.{length-map-range_with_len}
use Rattle.basis_names.specs.Bases.{algebra_of}
use Rattle.basis_names.specs.declared.bases.AlgebraId.TheVariants.{Qsym, Ncsf, Fqsym}
use Rattle.basis_names.specs.declared.bases.BasisId.{BasisId}
use Rattle.basis_names.specs.declared.bases.BasisId.TheVariants.{QsymM, QsymF, NcsfS, NcsfL, NcsfR, FqsymF, FqsymG, WqsymM, FsymS, PbtP}
use Rattle.realisations.specs.Bases.{kind_of, lies_in}
use Rattle.realisations.specs.Codes.{Code, Key}
use Rattle.realisations.specs.Combinations.{weighed}
use Rattle.realisations.specs.Descents.{descent_composition, descent_set, is_finer, places_outside}
use Rattle.realisations.specs.Exponents.{without_zeros}
use Rattle.realisations.specs.Indices.{AreIndices, degree_of, total_degree}
use Rattle.realisations.specs.Lists.{is_subset, one_if, same_list}
use Rattle.realisations.specs.Occurrence.{occurs}
use Rattle.realisations.specs.Points.{Kind, exponents, word, Point}
use Rattle.realisations.specs.Readings.{Terms, leaf, occurrence}
use Rattle.realisations.specs.Standardisation.{inverse, pack, rank_in, standardise}
use Rattle.realisations.specs.Tableaux.{insertion_tableau, recording_tableau, row_of, tableau_code}
use Rattle.realisations.specs.Trees.{decreasing_tree, tree_code}
use Rattle.realisations.proofs.DescentCompositions.{descends}
use Rattle.realisations.proofs.Pattern.{occurs-pattern}
use Rattle.basis_representatives.proofs.ClassTests.{is_complementary, occurs-complete, occurs-elementary, occurs-fundamental}
use Rattle.basis_representatives.proofs.Entries.{length-enter_all}
use Rattle.basis_representatives.proofs.Inverses.{length-inverse}
use Rattle.basis_representatives.proofs.Refinement.{sum-finer}
use Rattle.basis_representatives.proofs.SameLists.{same_list-true}
use Rattle.basis_representatives.proofs.SameOrder.{descent_composition-standardise, length-standardise}
use Rattle.basis_representatives.proofs.TreeCodes.{code-decreasing_tree, decreasing_tree-standardise, length-decreasing_code}
use Rattle.coproduct_rules.proofs.Tests.{and_first}
use Rattle.antipode_laws.proofs.IntegerSums.{sum_over_same, sum_over-zero}
use Rattle.antipode_laws.proofs.WeighedKeys.{weighed_same_keys}
use Rattle.pairing_laws.specs.Sight.{Sees, IsUpTo, AreUpTo, degree_of_point}
use Rattle.pairing_laws.proofs.ExponentAdjointness.{sum-without_zeros}

-- the elements of a basis occur alike at points of which a function tells the same
abbrev OccursBy : (Point → Point) → BasisId → Type 0
OccursBy tells basis = (code : Code) (p q : Point) → tells p ≡ tells q → occurs basis code p ≡ occurs basis code q

-- and so its combinations read alike there
leaf_sees : (basis : BasisId) (kind : Kind) (tells : Point → Point) → kind_of basis ≡ kind → OccursBy tells basis → (den : ℕ) (ts : Terms) → Sees kind tells (leaf (basis ∷ []) den ts)
leaf_sees basis kind tells is by den ts = record {
  kinds = ap (λ k. k ∷ []) is;
  same = λ p q e. λ i. weighed (λ key. pos (alike p q e key i)) ts;
}
  where
    alike : (p q : Point) → tells p ≡ tells q → (key : Key) → occurrence (basis ∷ []) key (p ∷ []) ≡ occurrence (basis ∷ []) key (q ∷ [])
    alike p q e [] = refl
    alike p q e (code ∷ key) = ap (λ b. one_if b * occurrence [] key []) (by code p q e)

-- bases of NCSF see descents
ncsf_by_descents : (basis : BasisId) → algebra_of basis ≡ Ncsf → OccursBy (λ w. descent_composition w) basis
ncsf_by_descents NcsfR h code p q e = ap (λ c. same_list c code) e
ncsf_by_descents NcsfS h code p q e = occurs-complete code p ∙ ap (is_finer code) e ∙ sym (occurs-complete code q)
ncsf_by_descents NcsfL h code p q e = occurs-elementary code p ∙ ap (is_complementary code) e ∙ sym (occurs-elementary code q)
ncsf_by_descents QsymM h code p q e = absurd (cc)
ncsf_by_descents QsymF h code p q e = absurd (cc)
ncsf_by_descents FqsymF h code p q e = absurd (cc)
ncsf_by_descents FqsymG h code p q e = absurd (cc)
ncsf_by_descents WqsymM h code p q e = absurd (cc)
ncsf_by_descents FsymS h code p q e = absurd (cc)
ncsf_by_descents PbtP h code p q e = absurd (cc)

-- the standardisation tells the descents
tells_descents : (p q : Point) → standardise p ≡ standardise q → descent_composition p ≡ descent_composition q
tells_descents p q e = sym (descent_composition-standardise p) ∙ ap descent_composition e ∙ descent_composition-standardise q

-- bases of algebras in FQSym see standardisations
words_by_standardisation : (basis : BasisId) → lies_in (algebra_of basis) Fqsym ≡ true → OccursBy (λ w. standardise w) basis
words_by_standardisation NcsfR h code p q e = ncsf_by_descents NcsfR refl code p q (tells_descents p q e)
words_by_standardisation NcsfS h code p q e = ncsf_by_descents NcsfS refl code p q (tells_descents p q e)
words_by_standardisation NcsfL h code p q e = ncsf_by_descents NcsfL refl code p q (tells_descents p q e)
words_by_standardisation QsymM h code p q e = absurd (cc)
words_by_standardisation QsymF h code p q e = absurd (cc)
words_by_standardisation FqsymF h code p q e = ap (λ s. same_list (inverse s) code) e
words_by_standardisation FqsymG h code p q e = ap (λ s. same_list s code) e
words_by_standardisation WqsymM h code p q e = absurd (cc)
words_by_standardisation FsymS h code p q e = ap (λ s. same_list (tableau_code (insertion_tableau (inverse s))) code) e
words_by_standardisation PbtP h code p q e =
    ap (λ t. same_list (tree_code t) code) (sym (decreasing_tree-standardise p) ∙ ap decreasing_tree e ∙ decreasing_tree-standardise q)

-- bases of QSym see the exponents that are not 0
qsym_by_parts : (basis : BasisId) → algebra_of basis ≡ Qsym → OccursBy (λ p. without_zeros p) basis
qsym_by_parts QsymM h code p q e = occurs-pattern QsymM code p ∙ ap (occurs QsymM code) e ∙ sym (occurs-pattern QsymM code q)
qsym_by_parts QsymF h code p q e = occurs-pattern QsymF code p ∙ ap (occurs QsymF code) e ∙ sym (occurs-pattern QsymF code q)
qsym_by_parts NcsfR h code p q e = absurd (cc)
qsym_by_parts NcsfS h code p q e = absurd (cc)
qsym_by_parts NcsfL h code p q e = absurd (cc)
qsym_by_parts FqsymF h code p q e = absurd (cc)
qsym_by_parts FqsymG h code p q e = absurd (cc)
qsym_by_parts WqsymM h code p q e = absurd (cc)
qsym_by_parts FsymS h code p q e = absurd (cc)
qsym_by_parts PbtP h code p q e = absurd (cc)

-- their kinds of points

pub words_of_fqsym : (basis : BasisId) → lies_in (algebra_of basis) Fqsym ≡ true → kind_of basis ≡ word
words_of_fqsym NcsfR h = refl
words_of_fqsym NcsfS h = refl
words_of_fqsym NcsfL h = refl
words_of_fqsym QsymM h = absurd (cc)
words_of_fqsym QsymF h = absurd (cc)
words_of_fqsym FqsymF h = refl
words_of_fqsym FqsymG h = refl
words_of_fqsym WqsymM h = refl
words_of_fqsym FsymS h = refl
words_of_fqsym PbtP h = refl

pub exponents_of_qsym : (basis : BasisId) → algebra_of basis ≡ Qsym → kind_of basis ≡ exponents
exponents_of_qsym QsymM h = refl
exponents_of_qsym QsymF h = refl
exponents_of_qsym NcsfR h = absurd (cc)
exponents_of_qsym NcsfS h = absurd (cc)
exponents_of_qsym NcsfL h = absurd (cc)
exponents_of_qsym FqsymF h = absurd (cc)
exponents_of_qsym FqsymG h = absurd (cc)
exponents_of_qsym WqsymM h = absurd (cc)
exponents_of_qsym FsymS h = absurd (cc)
exponents_of_qsym PbtP h = absurd (cc)

-- combinations of these algebras
pub sees_standardisation : (basis : BasisId) → lies_in (algebra_of basis) Fqsym ≡ true → (den : ℕ) (ts : Terms) → Sees word (λ w. standardise w) (leaf (basis ∷ []) den ts)
sees_standardisation basis h den ts = leaf_sees basis word (λ w. standardise w) (words_of_fqsym basis h) (words_by_standardisation basis h) den ts

pub sees_descents : (basis : BasisId) → algebra_of basis ≡ Ncsf → (den : ℕ) (ts : Terms) → Sees word (λ w. descent_composition w) (leaf (basis ∷ []) den ts)
sees_descents basis h den ts = leaf_sees basis word (λ w. descent_composition w) (words_of_fqsym basis (ap (λ g. lies_in g Fqsym) h)) (ncsf_by_descents basis h) den ts

pub sees_parts : (basis : BasisId) → algebra_of basis ≡ Qsym → (den : ℕ) (ts : Terms) → Sees exponents (λ p. without_zeros p) (leaf (basis ∷ []) den ts)
sees_parts basis h den ts = leaf_sees basis exponents (λ p. without_zeros p) (exponents_of_qsym basis h) (qsym_by_parts basis h) den ts

-- an element occurs at points of the degree of its index
in_degree : (basis : BasisId) (code : Code) (p : Point) → occurs basis code p ≡ true → degree_of_point (kind_of basis) p ≡ degree_of basis code
in_degree QsymM code p e = sym (sum-without_zeros p) ∙ ap sum (same_list-true (without_zeros p) code e)
in_degree QsymF code p e = sym (sum-without_zeros p) ∙ sum-finer (without_zeros p) code (sym (occurs-fundamental code p) ∙ e)
in_degree NcsfR code p e = sym (descends p).0 ∙ ap sum (same_list-true (descent_composition p) code e)
in_degree NcsfS code p e = sym (descends p).0 ∙ sym (sum-finer code (descent_composition p) (sym (occurs-complete code p) ∙ e))
in_degree NcsfL code p e =
    sym (descends p).0
    ∙ eqb-true (sum (descent_composition p)) (sum code)
    (and_first (nat_eq (sum (descent_composition p)) (sum code)) (is_subset (places_outside code) (descent_set (descent_composition p))) (sym (occurs-elementary code p) ∙ e))
in_degree FqsymG code p e = sym (length-standardise p) ∙ ap (λ (c : List ℕ). length c) (same_list-true (standardise p) code e)
in_degree FqsymF code p e = sym (length-inverse (standardise p) ∙ length-standardise p) ∙ ap (λ (c : List ℕ). length c) (same_list-true (inverse (standardise p)) code e)
in_degree WqsymM code p e = sym (length-map p (λ x. rank_in p x)) ∙ ap (λ (c : List ℕ). length c) (same_list-true (pack p) code e)
in_degree FsymS code p e =
    let s = inverse (standardise p) in
    let size : length (tableau_code (insertion_tableau s)) ≡ length s =
    length-map-range_with_len (λ i. row_of i (insertion_tableau s)) 1 (length (concat (insertion_tableau s))) ∙ omega (arith, length-enter_all s []) in
    sym (size ∙ length-inverse (standardise p) ∙ length-standardise p) ∙ ap (λ (c : List ℕ). length c) (same_list-true (tableau_code (recording_tableau p)) code e)
in_degree PbtP code p e =
    sym (ap (λ (c : List ℕ). length c) (code-decreasing_tree p) ∙ length-decreasing_code p) ∙ ap (λ (c : List ℕ). length c) (same_list-true (tree_code (decreasing_tree p)) code e)

-- so combinations are 0 past the degrees of their keys
pub leaf_up_to : (n : ℕ) (basis : BasisId) (den : ℕ) (ts : Terms) → AreUpTo n basis ts → IsUpTo n (kind_of basis) (leaf (basis ∷ []) den ts)
leaf_up_to n basis den ts within = record {
  kinds = refl;
  past = λ p large.
      weighed_same_keys (λ key. pos (occurrence (basis ∷ []) key (p ∷ []))) (λ key. pos 0) ts (λ key has. nowhere p large key (within.indices key has) (within.degrees key has))
      ∙ sum_over_same (λ (t : ℤ × Key). t.0 *ℤ pos 0) (λ (t : ℤ × Key). pos 0) (λ (t : ℤ × Key). *ℤ-zero t.0) ts
      ∙ sum_over-zero ts;
}
  where
    nowhere : (p : Point) → n < degree_of_point (kind_of basis) p → (key : Key) → AreIndices (basis ∷ []) key → total_degree (basis ∷ []) key ≤ n → pos (occurrence (basis ∷ []) key (p ∷ [])) ≡ pos 0
    nowhere p large [] h d = absurd h
    nowhere p large (code ∷ c ∷ key) h d = absurd h.1
    nowhere p large (code ∷ []) h d = by_test (occurs basis code p) refl
      where
        by_test : (b : Bool) → occurs basis code p ≡ b → pos (one_if b * 1) ≡ pos 0
        by_test false e = refl
        by_test true e = absurd (omega (arith, in_degree basis code p e, d, large))
