-- What reads as the antipode of an index of one of the nine bases, within the degree limit, has a small norm, and so it is the antipode.
use Rattle.std.proofs.Common.{◌≡◌, ℕ, suc, ◌*◌, ◌^◌, ◌≤◌, true, List, [], ◌∷◌, length, refl, sym, ◌∙◌, ap, subst, arith, unsigned_abs}
use Rattle.std.specs.Prelude.{replicate}
use Rattle.std.specs.List.{sum}
use Rattle.std.proofs.lemmas.List.{length-append, length-replicate}
use Rattle.basis_names.specs.declared.bases.BasisId.{BasisId}
use Rattle.basis_names.specs.declared.bases.BasisId.TheVariants.{QsymM, QsymF, NcsfS, NcsfL, NcsfR, FqsymF, FqsymG, WqsymM, FsymS, PbtP}
use Rattle.antipode_laws.specs.Recursion.{IsAntipodeOf}
use Rattle.antipodes.proofs.BoundedSums.{up_to_ten}
use Rattle.antipodes.proofs.ClassNorms.{norm_of_classes}
use Rattle.antipodes.proofs.CompositionNorms.{HasInverse, norm_of_compositions, monomials, fundamentals, completes, elementaries, ribbons}
use Rattle.antipodes.proofs.ReadAntipodes.{ReadsAsAntipode}
use Rattle.antipodes.proofs.ReadingBounds.{most_at, most_of_word, small_reading}
use Rattle.antipodes.proofs.SubtractedParts.{over_one}
use Rattle.basis_representatives.proofs.Bits.{turned_composition}
use Rattle.basis_representatives.proofs.Complements.{complement-turned}
use Rattle.basis_representatives.proofs.Inverses.{length-inverse}
use Rattle.basis_representatives.proofs.PointsOfIndices.{representative_point}
use Rattle.basis_representatives.proofs.Refinement.{sum-complement}
use Rattle.coproduct_rules.proofs.DegreeCuts.{sum-first}
use Rattle.inclusion_laws.proofs.ListedIndices.{IsOfLetters, packed_words, permutations_f, permutations_g, tableaux, trees}
use Rattle.index_rules.specs.Spaces.{IsIndexWithin, limit_for, degree_at}
use Rattle.product_laws.proofs.ClassRules.{class_of-representative}
use Rattle.product_laws.proofs.TableauRule.{by_tableaux}
use Rattle.product_laws.proofs.TreeRule.{by_trees}
use Rattle.realisations.specs.Bases.{kind_of, representative}
use Rattle.realisations.specs.Codes.{Code}
use Rattle.realisations.specs.Combinations.{Combination, IsCanonical, norm_of}
use Rattle.realisations.specs.Descents.{word_of_composition}
use Rattle.realisations.specs.Indices.{IsIndex, degree_of}
use Rattle.realisations.specs.Points.{Kind, exponents, word}
use Rattle.realisations.specs.Readings.{leaf, applied, antipode, element, numerator}

-- the word of a composition has as many letters as its size
length-word_of_composition : (parts : List ℕ) → length (word_of_composition parts) ≡ sum parts
length-word_of_composition [] = refl
length-word_of_composition (i ∷ parts) =
    omega (arith, length-append (replicate i (suc (length parts))) (word_of_composition parts), length-replicate i (suc (length parts)), length-word_of_composition parts, sum-first i parts)

-- the representative of an index has its degree
representative_degree : (basis : BasisId) → (code : Code) → IsIndex basis code → degree_at (kind_of basis) (representative basis code) ≡ degree_of basis code
representative_degree QsymM code h = refl
representative_degree QsymF code h = refl
representative_degree NcsfS code h = length-word_of_composition code
representative_degree NcsfL code h =
    ap (λ v. length (word_of_composition v)) (complement-turned code h) ∙ length-word_of_composition (turned_composition code) ∙ sum-complement code h
representative_degree NcsfR code h = length-word_of_composition code
representative_degree FqsymF code h = length-inverse code
representative_degree FqsymG code h = refl
representative_degree WqsymM code h = refl
representative_degree FsymS code h =
    sym (by_tableaux.degree (representative FsymS code)) ∙ ap (λ c. length c) (class_of-representative FsymS _ _ _ by_tableaux tableaux.classes code h)
representative_degree PbtP code h = sym (by_trees.degree (representative PbtP code)) ∙ ap (λ c. length c) (class_of-representative PbtP _ _ _ by_trees trees.classes code h)

-- no degree is past ten
limit_ten : (basis : BasisId) → limit_for basis ≤ 10
limit_ten QsymM = omega arith
limit_ten QsymF = omega arith
limit_ten NcsfS = omega arith
limit_ten NcsfL = omega arith
limit_ten NcsfR = omega arith
limit_ten FqsymF = omega arith
limit_ten FqsymG = omega arith
limit_ten WqsymM = omega arith
limit_ten FsymS = omega arith
limit_ten PbtP = omega arith

-- what is read at the representative of an index of the same degree
read_at_representative : (basis : BasisId) → (code : Code) → IsIndexWithin basis code → (c : Combination) → ReadsAsAntipode basis code c
    → (other : Code) → IsIndex basis other → degree_of basis other ≡ degree_of basis code
    → unsigned_abs (numerator (leaf (basis ∷ []) 1 c.terms) (representative basis other ∷ [])) ≤ most_at (kind_of basis) (degree_of basis code)
read_at_representative basis code within c is other index degree =
    let p = representative basis other in
    let here : degree_at (kind_of basis) p ≡ degree_of basis code = representative_degree basis other index ∙ degree in
    let reads : numerator (leaf (basis ∷ []) 1 c.terms) (p ∷ []) ≡ numerator (applied antipode 0 (element basis code)) (p ∷ []) = over_one _ _ (is.reads (p ∷ []) (representative_point basis other index, tt)) in
    omega (
      arith,
      ap unsigned_abs reads,
      small_reading basis code p (omega (arith, here, within.degree, limit_ten basis)),
      ap (most_at (kind_of basis)) here,
    )

-- over 1
canonical_whole : (c : Combination) → c.den ≡ 1 → IsCanonical c.rank c.den c.terms → IsCanonical c.rank 1 c.terms
canonical_whole c whole canonical = subst (λ d. IsCanonical c.rank d c.terms) whole canonical

-- compositions, up to degree ten
room_of_compositions : (kind : Kind) (n : ℕ) → n ≤ 10 → (most_at kind n * 2 ^ n) * 2 ^ n ≤ 2 ^ (5 * n)
room_of_compositions exponents n le =
    up_to_ten (λ n. (most_at exponents n * 2 ^ n) * 2 ^ n ≤ 2 ^ (5 * n)) (omega arith) (omega arith) (omega arith) (omega arith) (omega arith) (omega arith) (omega arith) (omega arith) (omega arith) (omega arith) (omega arith) n le
room_of_compositions word n le =
    up_to_ten (λ n. (most_at word n * 2 ^ n) * 2 ^ n ≤ 2 ^ (5 * n)) (omega arith) (omega arith) (omega arith) (omega arith) (omega arith) (omega arith) (omega arith) (omega arith) (omega arith) (omega arith) (omega arith) n le

by_compositions : (basis : BasisId) → HasInverse basis → (code : Code) → IsIndexWithin basis code → (c : Combination) → ReadsAsAntipode basis code c → norm_of c.terms ≤ 2 ^ (5 * degree_of basis code)
by_compositions basis has code within c is =
    omega (
      arith,
      norm_of_compositions basis has (degree_of basis code) c.terms c.rank (canonical_whole c is.whole is.canonical) is.indices is.degrees (most_at (kind_of basis) (degree_of basis code)) (read_at_representative basis code within c is),
      room_of_compositions (kind_of basis) (degree_of basis code) (omega (arith, within.degree, limit_ten basis)),
    )

-- words, up to seven letters
room_of_words : (n : ℕ) → n ≤ 7 → most_of_word n * n ^ n ≤ 2 ^ (5 * n)
room_of_words n le =
    up_to_ten (λ n. n ≤ 7 → most_of_word n * n ^ n ≤ 2 ^ (5 * n))
    (λ l. omega arith) (λ l. omega arith) (λ l. omega arith) (λ l. omega arith) (λ l. omega arith) (λ l. omega arith) (λ l. omega arith) (λ l. omega arith)
    (λ l. absurd (omega (arith, l))) (λ l. absurd (omega (arith, l))) (λ l. absurd (omega (arith, l))) n (omega (arith, le)) le

by_words : (basis : BasisId) → kind_of basis ≡ word → limit_for basis ≤ 7 → IsOfLetters basis → (code : Code) → IsIndexWithin basis code → (c : Combination) → ReadsAsAntipode basis code c → norm_of c.terms ≤ 2 ^ (5 * degree_of basis code)
by_words basis words low of code within c is =
    omega (
      arith,
      norm_of_classes basis (degree_of basis code) c.terms c.rank (canonical_whole c is.whole is.canonical) is.indices is.degrees of (most_at (kind_of basis) (degree_of basis code)) (read_at_representative basis code within c is),
      ap (λ kind. most_at kind (degree_of basis code) * degree_of basis code ^ degree_of basis code) words,
      room_of_words (degree_of basis code) (omega (arith, within.degree, low)),
    )

-- all ten
small_antipodes : (basis : BasisId) → (code : Code) → IsIndexWithin basis code → (c : Combination) → ReadsAsAntipode basis code c → norm_of c.terms ≤ 2 ^ (5 * degree_of basis code)
small_antipodes QsymM = by_compositions QsymM monomials
small_antipodes QsymF = by_compositions QsymF fundamentals
small_antipodes NcsfS = by_compositions NcsfS completes
small_antipodes NcsfL = by_compositions NcsfL elementaries
small_antipodes NcsfR = by_compositions NcsfR ribbons
small_antipodes FqsymF = by_words FqsymF refl (omega arith) permutations_f
small_antipodes FqsymG = by_words FqsymG refl (omega arith) permutations_g
small_antipodes WqsymM = by_words WqsymM refl (omega arith) packed_words
small_antipodes FsymS = by_words FsymS refl (omega arith) tableaux
small_antipodes PbtP = by_words PbtP refl (omega arith) trees

-- so it is the antipode
pub is_antipode : (basis : BasisId) → (code : Code) → IsIndexWithin basis code → (c : Combination) → ReadsAsAntipode basis code c → IsAntipodeOf basis code c
is_antipode basis code within c is = record {
  canonical = is.canonical;
  rank = is.rank;
  whole = is.whole;
  small = small_antipodes basis code within c is;
  indices = is.indices;
  degrees = is.degrees;
  reads = is.reads;
}
