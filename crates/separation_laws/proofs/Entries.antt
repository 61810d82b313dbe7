-- The elements of the class basis of an algebra of words as terms over each other basis of the algebra.
use Rattle.std.proofs.Common.{◌≡◌, ℕ, zero, suc, ◌*◌, ◌^◌, ◌<◌, ◌≤◌, ◌⊎◌, inl, inr, Bool, true, false, [], ◌∷◌, refl, sym, ◌∙◌, ap, subst, arith, le_trans, pow_mono}
use Rattle.std.specs.List.{sum}
use Rattle.std.proofs.Math.IntN.{ℤ, pos, ◌+ℤ◌, ◌*ℤ◌}
use Rattle.std.proofs.lemmas.Bool.{cases_lt}
use Rattle.basis_names.specs.Bases.{algebra_of}
use Rattle.basis_names.specs.declared.bases.AlgebraId.{AlgebraId}
use Rattle.basis_names.specs.declared.bases.AlgebraId.TheVariants.{Ncsf}
use Rattle.basis_names.specs.declared.bases.BasisId.{BasisId}
use Rattle.basis_names.specs.declared.bases.BasisId.TheVariants.{FqsymF, FqsymG, FsymS, NcsfL, NcsfR, NcsfS, PbtP, QsymF, QsymM, WqsymM}
use Rattle.hopf_num.proofs.Ring.{*ℤ-pos_cancel}
use Rattle.realisations.specs.Answers.{IsAnswer}
use Rattle.realisations.specs.Bases.{kind_of}
use Rattle.realisations.specs.Codes.{Code, Key}
use Rattle.realisations.specs.Combinations.{Combination, norm_of}
use Rattle.realisations.specs.IndexKinds.{IsComposition}
use Rattle.realisations.specs.Indices.{AreIndices, IsIndex, degree_of, total_degree}
use Rattle.realisations.specs.Lists.{one_if}
use Rattle.realisations.specs.Occurrence.{occurs}
use Rattle.realisations.specs.Points.{IsPoint, Point, word}
use Rattle.realisations.specs.Readings.{Terms, element, leaf, numerator, occurrence}
use Rattle.realisations.specs.Standardisation.{inverse}
use Rattle.realisations.proofs.Coefficients.{weighed_same}
use Rattle.basis_representatives.proofs.Inverses.{length-inverse}
use Rattle.linear_combos.specs.Keys.{code_at}
use Rattle.change_laws.specs.Changes.{HasChanges}
use Rattle.change_laws.proofs.ChangeAnswers.{numerator-element}
use Rattle.change_laws.proofs.NcsfChanges.{ncsf_changes_exist}
use Rattle.inclusion_laws.proofs.InclusionsOfClasses.{inverse_index, occurs-inverse}
use Rattle.separation_laws.specs.Classes.{class_basis}
use Rattle.separation_laws.proofs.EachTerm.{each_key_from, each_weaker}
use Rattle.separation_laws.proofs.ExpandedKeys.{AreOfDegreeOf}
use Rattle.separation_laws.proofs.Expansions.{OccursAs}
use Rattle.separation_laws.proofs.Least.{Decided}

-- terms of indices of the same degree that occur together where the element of a code does
pub record AreEntries (from to : BasisId) (code : Code) (us : Terms) : Type 0 where
  pub indices : AreOfDegreeOf from to code us
  pub occur : (p : Point) → IsPoint word p → OccursAs to us p from code p

-- such terms for each index up to degree 32, with few terms
pub record HasEntries (from to : BasisId) (growth : ℕ) : Type 0 where
  pub entries : Code → Terms
  pub are : (code : Code) → IsIndex from code → degree_of from code ≤ 32 → AreEntries from to code (entries code)
  pub light : (code : Code) → IsIndex from code → degree_of from code ≤ 32 → norm_of (entries code) ≤ 2 ^ (growth * degree_of from code)

-- the one element of a code
one_entry : (from to : BasisId) (code other : Code) → IsIndex to other → degree_of to other ≡ degree_of from code → ((p : Point) → occurs to other p ≡ occurs from code p)
    → AreEntries from to code ((pos 1, other ∷ []) ∷ [])
one_entry from to code other index degree same = record {
  indices = ((index, degree), tt);
  occur = λ p point. (let e : pos 1 *ℤ pos (one_if (occurs to other p)) +ℤ pos 0 ≡ pos (one_if (occurs to other p)) = once (occurs to other p) in e) ∙ ap (λ b. pos (one_if b)) (same p);
}
  where
    once : (b : Bool) → pos 1 *ℤ pos (one_if b) +ℤ pos 0 ≡ pos (one_if b)
    once true = refl
    once false = refl

-- the class basis itself
itself : (basis : BasisId) → HasEntries basis basis 0
itself basis = record {
  entries = λ code. (pos 1, code ∷ []) ∷ [];
  are = λ code is le. one_entry basis basis code code is refl (λ p. refl);
  light = λ code is le. let none : 0 * degree_of basis code ≡ 0 = omega arith in omega (arith, ap (λ k. 2 ^ k) none);
}

-- G of a permutation is F of its inverse
by_inverses : HasEntries FqsymG FqsymF 0
by_inverses = record {
  entries = λ code. (pos 1, inverse code ∷ []) ∷ [];
  are = λ code is le. one_entry FqsymG FqsymF code (inverse code) (inverse_index code is) (length-inverse code) (λ p. sym ((occurs-inverse code p is).1));
  light = λ code is le. let none : 0 * degree_of FqsymG code ≡ 0 = omega arith in omega (arith, ap (λ k. 2 ^ k) none);
}

-- a key of one index
index_of_key : (to : BasisId) (n : ℕ) (k : Key) → AreIndices (to ∷ []) k → total_degree (to ∷ []) k ≡ n → IsIndex to (code_at k 0) × (degree_of to (code_at k 0) ≡ n)
index_of_key to n [] h e = absurd h
index_of_key to n (c ∷ []) h e = (h.0, omega (arith, e))
index_of_key to n (c ∷ d ∷ k) h e = absurd h.1

occurrence_of_key : (to : BasisId) (k : Key) (p : Point) → AreIndices (to ∷ []) k → occurrence (to ∷ []) k (p ∷ []) ≡ one_if (occurs to (code_at k 0) p)
occurrence_of_key to [] p h = absurd h
occurrence_of_key to (c ∷ []) p h = omega arith
occurrence_of_key to (c ∷ d ∷ k) p h = absurd h.1

-- the terms of an answer that is an element
entries_of_answer : (from to : BasisId) → kind_of to ≡ word → (code : Code) (c : Combination) → IsAnswer (to ∷ []) (degree_of from code) (element from code) c → AreEntries from to code c.terms
entries_of_answer from to kind code c is = record {
  indices = each_key_from (λ k. IsIndex to (code_at k 0) × (degree_of to (code_at k 0) ≡ degree_of from code)) c.terms
      (λ k has. index_of_key to (degree_of from code) k (is.indices k has) (is.degrees k has));
  occur = occur;
}
  where
    occur : (p : Point) → IsPoint word p → OccursAs to c.terms p from code p
    occur p point =
        weighed_same (λ k. pos (one_if (occurs to (code_at k 0) p))) (λ k. pos (occurrence (to ∷ []) k (p ∷ []))) c.terms
        (each_weaker (λ (t : ℤ × Key). AreIndices (to ∷ []) t.1) (λ (t : ℤ × Key). pos (one_if (occurs to (code_at t.1 0) p)) ≡ pos (occurrence (to ∷ []) t.1 (p ∷ [])))
        (λ t h. ap pos (sym (occurrence_of_key to t.1 p h))) c.terms (each_key_from (AreIndices (to ∷ [])) c.terms is.indices))
        ∙ *ℤ-pos_cancel (numerator (leaf (to ∷ []) 1 c.terms) (p ∷ [])) (numerator (element from code) (p ∷ [])) 1 (omega arith)
        (is.reads (p ∷ []) (subst (λ k. IsPoint k p) (sym kind) point, tt))
        ∙ numerator-element from code p

-- a list of numbers is a composition or not
decided_composition : (code : Code) → Decided (IsComposition code)
decided_composition [] = inl tt
decided_composition (zero ∷ code) = inr (λ h. absurd (omega (arith, h.0)))
decided_composition (suc a ∷ code) = elim (decided_composition code) [
  | inl is ↦ inl (omega arith, is)
  | inr not ↦ inr (λ h. not h.1)
]

-- the terms of the change of a composition of small size
abbrev changed_entries : (to : BasisId) → HasChanges NcsfR to → (code : Code) → Decided (IsComposition code) → (sum code < 127) ⊎ (127 ≤ sum code) → Terms
changed_entries to has code (inl is) (inl small) = (has code is small).0.terms
changed_entries to has code (inl is) (inr large) = []
changed_entries to has code (inr not) size = []

are_changed : (to : BasisId) → kind_of to ≡ word → (has : HasChanges NcsfR to) (code : Code) → IsComposition code → sum code ≤ 32
    → (d : Decided (IsComposition code)) (size : (sum code < 127) ⊎ (127 ≤ sum code)) → AreEntries NcsfR to code (changed_entries to has code d size) × (norm_of (changed_entries to has code d size) ≤ 2 ^ sum code)
are_changed to kind has code h le (inl is) (inl small) =
    let c = has code is small in
    (entries_of_answer NcsfR to kind code c.0 c.1.answer, c.1.norm)
are_changed to kind has code h le (inl is) (inr large) = absurd (omega arith)
are_changed to kind has code h le (inr not) size = absurd (not h)

-- ribbons over another basis of NCSF
by_change : (to : BasisId) → kind_of to ≡ word → HasChanges NcsfR to → HasEntries NcsfR to 1
by_change to kind has = record {
  entries = λ code. changed_entries to has code (decided_composition code) (cases_lt (sum code) 127);
  are = λ code is le. (are_changed to kind has code is le (decided_composition code) (cases_lt (sum code) 127)).0;
  light = λ code is le.
      let norm = (are_changed to kind has code is le (decided_composition code) (cases_lt (sum code) 127)).1 in
      let same : 1 * sum code ≡ sum code = omega arith in
      omega (arith, norm, ap (λ k. 2 ^ k) same);
}

-- one bit more for each degree over NCSF.S and NCSF.L, and else none
abbrev pub change_growth : AlgebraId → ℕ
change_growth Ncsf = 1
change_growth _ = 0

-- more bits than needed
more_bits : (from to : BasisId) → HasEntries from to 0 → HasEntries from to 1
more_bits from to has = record {
  entries = has.entries;
  are = has.are;
  light = λ code is le. le_trans (has.light code is le) (pow_mono (omega arith));
}

pub has_entries : (to : BasisId) → kind_of to ≡ word → HasEntries (class_basis (algebra_of to)) to (change_growth (algebra_of to))
has_entries QsymM kind = absurd (cc)
has_entries QsymF kind = absurd (cc)
has_entries NcsfS kind = by_change NcsfS refl ncsf_changes_exist.ribbon_in_complete
has_entries NcsfL kind = by_change NcsfL refl ncsf_changes_exist.ribbon_in_elementary
has_entries NcsfR kind = more_bits NcsfR NcsfR (itself NcsfR)
has_entries FqsymF kind = by_inverses
has_entries FqsymG kind = itself FqsymG
has_entries WqsymM kind = itself WqsymM
has_entries FsymS kind = itself FsymS
has_entries PbtP kind = itself PbtP
