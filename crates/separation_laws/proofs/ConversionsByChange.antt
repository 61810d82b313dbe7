-- Conversions to any basis of an algebra of words: through its class basis and a change.
use Rattle.std.proofs.Common.{◌≡◌, ℕ, ◌+◌, ◌*◌, ◌^◌, ◌<◌, ◌≤◌, List, length, map, set, insert, remove, sym, ◌∙◌, ap, subst, arith, length-set, set-set, pow_mono, pow-add, le_trans, mul-le-mul_left, mul-le-mul_right}
use Rattle.std.proofs.Math.IntN.{ℤ}
use Rattle.std.proofs.lemmas.List.{get_or-set_same}
use Rattle.basis_names.specs.Bases.{algebra_of}
use Rattle.basis_names.specs.declared.bases.AlgebraId.{AlgebraId}
use Rattle.basis_names.specs.declared.bases.AlgebraId.TheVariants.{Fqsym, Fsym, Ncsf, Pbt, Qsym, Wqsym}
use Rattle.basis_names.specs.declared.bases.BasisId.{BasisId}
use Rattle.basis_names.specs.declared.bases.BasisId.TheVariants.{QsymM}
use Rattle.realisations.specs.Bases.{kind_of}
use Rattle.realisations.specs.Codes.{Key}
use Rattle.realisations.specs.Combinations.{Combination, norm_of}
use Rattle.realisations.specs.Indices.{AreIndices, IsIndex, degree_of, total_degree}
use Rattle.realisations.specs.Points.{ArePoints, IsPoint, Point, Points, word}
use Rattle.realisations.specs.Readings.{AgreeAt, Terms, leaf, numerator}
use Rattle.linear_combos.specs.Keys.{code_at}
use Rattle.change_laws.proofs.CompositionsByBits.{alike}
use Rattle.separation_laws.specs.Classes.{class_basis}
use Rattle.separation_laws.specs.Conversions.{IsConversion, basis_at}
use Rattle.separation_laws.specs.Laws.{HasLinearRoom}
use Rattle.separation_laws.proofs.Alike.{ClassesReadAlike}
use Rattle.separation_laws.proofs.ClassBases.{classes_of}
use Rattle.separation_laws.proofs.CoarserClasses.{words_of}
use Rattle.separation_laws.proofs.Components.{kinds-set, length-others}
use Rattle.separation_laws.proofs.ConversionsExist.{conversion_of_terms, converted, degrees-converted, indices-converted, norm-converted, numerator-converted, reads_at_words}
use Rattle.separation_laws.proofs.DecidedReadings.{AreTermsOver}
use Rattle.separation_laws.proofs.EachTerm.{EachKey, degree_at-le, each_both, each_weaker, index_at}
use Rattle.separation_laws.proofs.Entries.{HasEntries, change_growth, has_entries}
use Rattle.separation_laws.proofs.ExpandedKeys.{IsReplacedAt, degrees-expanded, indices-expanded}
use Rattle.separation_laws.proofs.Expansions.{OccursAs, expanded, norm-expanded, numerator-expanded}
use Rattle.separation_laws.proofs.Listings.{growth_of, has_listing}

module _ (from to : BasisId) (growth : ℕ) (has : HasEntries from to growth) (n : ℕ) (bases : List BasisId) (lt : n < length bases) (is : basis_at bases n ≡ from)
    (den d : ℕ) (small : d ≤ 32) (ts : Terms) (over : AreTermsOver bases d ts) where
  -- the code of a key in the component is an index of small degree
  small_index : (key : Key) → AreIndices bases key × (total_degree bases key ≤ d) → IsIndex from (code_at key n) × (degree_of from (code_at key n) ≤ d)
  small_index key h = (
    subst (λ basis. IsIndex basis (code_at key n)) is (index_at n bases key lt h.0),
    (let same = ap (λ basis. degree_of basis (code_at key n)) is in omega (arith, same, degree_at-le n bases key lt h.0, h.1)),
  )

  -- what each key has
  each_small : (P : Key → Type 0) → ((key : Key) → AreIndices bases key → IsIndex from (code_at key n) → degree_of from (code_at key n) ≤ d → P key) → EachKey P ts
  each_small P shows =
      each_weaker (λ (t : ℤ × Key). AreIndices bases t.1 × (total_degree bases t.1 ≤ d)) (λ (t : ℤ × Key). P t.1)
      (λ t h. let index = small_index t.1 h in shows t.1 h.0 index.0 index.1) ts
      (each_both (λ (t : ℤ × Key). AreIndices bases t.1) (λ (t : ℤ × Key). total_degree bases t.1 ≤ d) ts over.indices over.degrees)

  -- the elements over the other basis
  abbrev pub changed : Terms
  changed = expanded n has.entries ts

  each_changed : EachKey (IsReplacedAt n bases from to has.entries) ts
  each_changed = each_small (IsReplacedAt n bases from to has.entries) (λ key h index le. (h, (has.are (code_at key n) index (le_trans le small)).indices))

  -- have keys of indices, of no larger degree
  pub over-changed : AreTermsOver (set bases n to) d changed
  over-changed = record {
    indices = indices-expanded n bases lt from to is has.entries ts each_changed;
    degrees = degrees-expanded n bases lt from to is has.entries ts d each_changed over.degrees;
  }

  -- read as before wherever a word is put into the component
  pub numerator-changed : (den' : ℕ) (qs : Points) → ArePoints (remove (map kind_of bases) n) qs → (p : Point) → IsPoint word p
      → numerator (leaf (set bases n to) den' changed) (insert qs n p) ≡ numerator (leaf bases den ts) (insert qs n p)
  numerator-changed den' qs others p point =
      numerator-expanded n bases lt from to is has.entries qs (length-others n bases qs lt others) p p den den' ts
      (each_small (λ key. AreIndices bases key × OccursAs to (has.entries (code_at key n)) p from (code_at key n) p)
      (λ key h index le. (h, (has.are (code_at key n) index (le_trans le small)).occur p point)))

  -- and have a norm that is as much larger as the change says
  pub norm-changed : norm_of changed ≤ norm_of ts * 2 ^ (growth * d)
  norm-changed =
      norm-expanded n (2 ^ (growth * d)) has.entries ts
      (each_small (λ key. norm_of (has.entries (code_at key n)) ≤ 2 ^ (growth * d))
      (λ key h index le.
      let more : growth * degree_of from (code_at key n) ≤ growth * d = mul-le-mul_left growth le in
      le_trans (has.light (code_at key n) index (le_trans le small)) (pow_mono more)))

-- the bits of both steps together
both_growths : (target : AlgebraId) → growth_of target + change_growth target ≤ 5
both_growths Qsym = omega arith
both_growths Ncsf = omega arith
both_growths Fqsym = omega arith
both_growths Wqsym = omega arith
both_growths Fsym = omega arith
both_growths Pbt = omega arith

-- two growths one after another
growths : (m k l i j d : ℕ) → k ≤ m * 2 ^ (i * d) → l ≤ k * 2 ^ (j * d) → i + j ≤ 5 → l ≤ m * 2 ^ (5 * d)
growths m k l i j d first second few =
    let whole : i * d + j * d ≡ (i + j) * d = omega arith in
    let within : (i + j) * d ≤ 5 * d = mul-le-mul_right d few in
    let step : k * 2 ^ (j * d) ≤ m * 2 ^ (i * d) * 2 ^ (j * d) = mul-le-mul_right (2 ^ (j * d)) first in
    let room : 2 ^ (i * d + j * d) ≤ 2 ^ (5 * d) = pow_mono (let le : i * d + j * d ≤ 5 * d = omega (arith, whole, within) in le) in
    let powers : 2 ^ (i * d) * 2 ^ (j * d) ≤ 2 ^ (5 * d) = omega (arith, room, pow-add 2 (i * d) (j * d)) in
    let last : m * (2 ^ (i * d) * 2 ^ (j * d)) ≤ m * 2 ^ (5 * d) = mul-le-mul_left m powers in
    let same : m * (2 ^ (i * d) * 2 ^ (j * d)) ≡ m * 2 ^ (i * d) * 2 ^ (j * d) = omega arith in
    omega (arith, second, step, last, same)

-- terms over another basis in one component that read as these do, and have a norm within the linear rule
pub record AreConverted (n : ℕ) (to : BasisId) (bases : List BasisId) (den d : ℕ) (ts us : Terms) : Type 0 where
  pub over : AreTermsOver (set bases n to) d us
  pub norm : norm_of us ≤ norm_of ts * 2 ^ (5 * d)
  pub reads : (ps : Points) → ArePoints (map kind_of (set bases n to)) ps → AgreeAt (leaf (set bases n to) den us) (leaf bases den ts) ps

-- where words of one class read alike, there are such terms over any basis of the algebra
pub terms_exist : (to : BasisId) → kind_of to ≡ word → (n : ℕ) (bases : List BasisId) → n < length bases → kind_of (basis_at bases n) ≡ word
    → (den d : ℕ) (ts : Terms) → AreTermsOver bases d ts → d ≤ 32 → ClassesReadAlike (leaf bases den ts) n (algebra_of to) → (us : Terms) × AreConverted n to bases den d ts us
terms_exist to kind' n bases lt kind den d ts over small alike =
    let target = algebra_of to in
    let words = words_of to kind' in
    let classes = classes_of target words in
    let has = has_listing target words in
    let more = has_entries to kind' in
    let C = class_basis target in
    let bases1 = set bases n C in
    let set_long = length-set bases n C in
    let lt1 : n < length bases1 = omega arith in
    let is1 : basis_at bases1 n ≡ C = get_or-set_same bases n C QsymM lt in
    let us = converted target classes (growth_of target) has.listing has.is n bases lt kind den ts over.indices in
    let over1 : AreTermsOver bases1 d us = record {
      indices = indices-converted target classes (growth_of target) has.listing has.is n bases lt kind den ts over.indices;
      degrees = degrees-converted target classes (growth_of target) has.listing has.is n bases lt kind den ts over.indices d over.degrees;
    } in
    let vs = changed C to (change_growth target) more n bases1 lt1 is1 den d small us over1 in
    let over2 : AreTermsOver (set bases1 n to) d vs = over-changed C to (change_growth target) more n bases1 lt1 is1 den d small us over1 in
    let same : set bases1 n to ≡ set bases n to = set-set bases n C to in
    let over3 : AreTermsOver (set bases n to) d vs = subst (λ bs. AreTermsOver bs d vs) same over2 in
    let kinds : map kind_of bases1 ≡ map kind_of bases = kinds-set n bases C (kind ∙ sym classes.kind) in
    let norm : norm_of vs ≤ norm_of ts * 2 ^ (5 * d) =
    growths (norm_of ts) (norm_of us) (norm_of vs) (growth_of target) (change_growth target) d
    (norm-converted target classes (growth_of target) has.listing has.is n bases lt kind den ts over.indices d small over.degrees)
    (norm-changed C to (change_growth target) more n bases1 lt1 is1 den d small us over1) (both_growths target) in
    let reads = λ (qs : Points) (others : ArePoints (remove (map kind_of bases) n) qs) (p : Point) (point : IsPoint word p).
    ap (λ bs. numerator (leaf bs den vs) (insert qs n p)) (sym same)
    ∙ numerator-changed C to (change_growth target) more n bases1 lt1 is1 den d small us over1 den qs (subst (λ ks. ArePoints (remove ks n) qs) (sym kinds) others) p point
    ∙ numerator-converted target classes (growth_of target) has.listing has.is n bases lt kind den ts over.indices alike den qs others p in
    (vs, record { over = over3; norm = norm; reads = reads_at_words n bases to lt kind kind' den ts vs reads })

-- and a canonical combination, where the linear rule holds
pub conversion_exists : (to : BasisId) → kind_of to ≡ word → (n : ℕ) (bases : List BasisId) → n < length bases → kind_of (basis_at bases n) ≡ word
    → (den d : ℕ) (ts : Terms) → AreTermsOver bases d ts → HasLinearRoom d den (norm_of ts) → ClassesReadAlike (leaf bases den ts) n (algebra_of to)
    → (c : Combination) × IsConversion (set bases n to) d (norm_of ts * 2 ^ (5 * d)) den (leaf bases den ts) c
conversion_exists to kind' n bases lt kind den d ts over room alike =
    let made = terms_exist to kind' n bases lt kind den d ts over room.degree alike in
    conversion_of_terms (set bases n to) (leaf bases den ts) den d (norm_of ts * 2 ^ (5 * d)) made.0 made.1.over.indices made.1.over.degrees made.1.norm room.norm room.positive room.small made.1.reads
