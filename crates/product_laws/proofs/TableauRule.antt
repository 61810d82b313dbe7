-- The rule of the product of FSym.S: the standard tableaux whose front and back are the factors.
use Rattle.std.proofs.Common.{◌≡◌, ℕ, suc, ◌-◌, ◌≤◌, IsTrue, List, [], ◌∷◌, map, length, take, drop, refl, sym, ◌∙◌, ap, arith, inl, inr}
use Rattle.std.specs.Prelude.{nat_le, nat_lt, ◌&&◌, if◌then◌else◌}
use Rattle.std.specs.List.{concat}
use Rattle.std.proofs.lemmas.Bool.{cases_lt}
use Rattle.std.proofs.lemmas.Bool.Decides.{nat_tests}
use Rattle.std.proofs.lemmas.List.{length-take, take_all}
use Rattle.std.proofs.lemmas.List.FromFn.{length-map-range_with_len}
use Rattle.basis_names.specs.declared.bases.BasisId.TheVariants.{FsymS}
use Rattle.realisations.specs.IndexKinds.{IsTableauCode, is_permutation}
use Rattle.realisations.specs.Standardisation.{standardise}
use Rattle.realisations.specs.Tableaux.{insertion_tableau, recording_tableau, row_of, rows_of, tableau_code}
use Rattle.realisations.proofs.RisingMaps.{Letters}
use Rattle.basis_representatives.proofs.AllRepresentatives.{class_laws}
use Rattle.basis_representatives.proofs.Entries.{length-enter_all}
use Rattle.basis_representatives.proofs.PackedWords.{letters_to_greatest}
use Rattle.basis_representatives.proofs.Permutations.{HasEachOnce, permutation_from, letters-permutation, letters_that_occur}
use Rattle.basis_representatives.proofs.TableauCodes.{rows_of-code}
use Rattle.coproduct_laws.specs.ValueCuts.{letters_up_to, letters_past}
use Rattle.tableau_laws.specs.Intervals.{letters_between, restricted}
use Rattle.tableau_laws.specs.LatticeWords.{IsLatticeWord}
use Rattle.tableau_laws.proofs.LatticeColumns.{greatest-lattice}
use Rattle.tableau_laws.proofs.LatticeWords.{lattice-tableau_code}
use Rattle.tableau_laws.proofs.NumberedTableaux.{standard-insertion}
use Rattle.tableau_laws.proofs.StandardIntervals.{restriction, standardise-between}
use Rattle.product_laws.specs.Classes.{IsByClasses}
use Rattle.product_laws.specs.Laws.{TableauLaw}
use Rattle.product_laws.specs.TableauCuts.{back_tableau, IsTableauProduct}
use Rattle.product_laws.proofs.ClassRules.{both_same, same_both, rule_of_listed}
use Rattle.product_laws.proofs.CutRules.{two_letters}
use Rattle.product_laws.proofs.CutTableaux.{code-low}
use Rattle.product_laws.proofs.DistinctWords.{AreUpTo}
use Rattle.product_laws.proofs.ShuffleRule.{lowered_places}
use Rattle.product_laws.proofs.SortedPlaces.{sorted_places, permutation-sorted_places, length-sorted_places, front_places}

-- the code of P of a word is as long as the word
length-code : (w : List ℕ) → length (tableau_code (insertion_tableau w)) ≡ length w
length-code w =
    length-map-range_with_len (λ i. row_of i (insertion_tableau w)) 1 (length (concat (insertion_tableau w)))
    ∙ omega (arith, length-enter_all w [])

-- the code of the class of a front is the front of the code
code-take : (n : ℕ) (p : List ℕ) → take n (tableau_code (recording_tableau p)) ≡ tableau_code (recording_tableau (take n p))
code-take n p = elim (cases_lt (length p) n) [
  | inl past ↦
      take_all n (tableau_code (recording_tableau p)) (omega (arith, length-code (sorted_places p), length-sorted_places p, past))
      ∙ ap (λ w. tableau_code (recording_tableau w)) (sym (take_all n p (omega (arith, past))))
  | inr within ↦
      let size : length (letters_up_to n (sorted_places p)) ≡ n =
      ap length (front_places n p) ∙ length-sorted_places (take n p) ∙ omega (arith, length-take n p, within) in
      sym (code-low n (sorted_places p) (permutation-sorted_places p) (omega (arith, length-sorted_places p, within)) size)
      ∙ ap (λ s. tableau_code (insertion_tableau s)) (front_places n p)
]

-- the letters past n of a permutation are those from n + 1 to its length
between_past : (n k : ℕ) (w : List ℕ) → Letters (λ x. x ≤ k) w → letters_between (suc n) k w ≡ letters_past n w
between_past n k [] h = refl
between_past n k (x ∷ w) h =
    let same : (nat_le (suc n) x && nat_le x k) ≡ nat_lt n x = tests n k x h.0 in
    λ i. if same i then x ∷ between_past n k w h.1 i else between_past n k w h.1 i
  where
    tests : (n k x : ℕ) → x ≤ k → (nat_le (suc n) x && nat_le x k) ≡ nat_lt n x
    tests n k x le = grind (arith, nat_tests, le)

code-drop : (n : ℕ) (p : List ℕ) → back_tableau n (tableau_code (recording_tableau p)) ≡ tableau_code (recording_tableau (drop n p))
code-drop n p =
    let s : List ℕ = sorted_places p in
    let hs : HasEachOnce s = permutation-sorted_places p in
    let is : IsTrue (is_permutation s) = permutation_from s hs in
    let size : length (tableau_code (insertion_tableau s)) ≡ length s = length-code s in
    let rows : rows_of (tableau_code (insertion_tableau s)) ≡ insertion_tableau s = rows_of-code (insertion_tableau s) (standard-insertion s is) in
    let less : suc n - 1 ≡ n = omega arith in
    let letters : standardise (letters_between (suc n) (length s) s) ≡ sorted_places (drop n p) =
    standardise-between (suc n) (length s) s hs
    ∙ (λ i. map (λ x. x - less i) (between_past n (length s) s (letters_that_occur (λ x. x ≤ length s) s (λ x occurs. (letters-permutation s hs x occurs).1)) i))
    ∙ lowered_places n p in
    (λ i. tableau_code (restricted (suc n) (size i) (rows i)))
    ∙ ap tableau_code (sym (restriction.tableau_restricts (suc n) (length s) (insertion_tableau s) s is refl))
    ∙ ap (λ w. tableau_code (insertion_tableau w)) letters

-- FSym.S is by classes: the recording tableau of a word
pub by_tableaux : IsByClasses FsymS (λ p. tableau_code (recording_tableau p)) (λ n code. take n code) (λ n code. back_tableau n code)
by_tableaux = record {
  words = refl;
  occurs_at = λ code p. refl;
  degree = λ p. length-code (sorted_places p) ∙ length-sorted_places p;
  index = λ p point. (recording_tableau p, standard-insertion (sorted_places p) (permutation_from (sorted_places p) (permutation-sorted_places p)), refl);
  fronts = λ n p point. code-take n p;
  backs = λ n p point. code-drop n p;
}

-- the letters of the code of a tableau are from 1 to its size
pub letters_of_tableau : (code : List ℕ) → IsTableauCode code → AreUpTo (length code) code
letters_of_tableau code h =
    let lattice : IsLatticeWord code = lattice-tableau_code code h in
    two_letters (λ x. 1 ≤ x) (λ x. x ≤ length code) code lattice.positive (letters_to_greatest code (length code) (greatest-lattice code lattice))

-- S of a times S of b is the sum of S over the tableaux whose front and back they are
pub tableau_rule : TableauLaw
tableau_rule a b codes small lists =
    rule_of_listed FsymS (λ p. tableau_code (recording_tableau p)) (λ n code. take n code) (λ n code. back_tableau n code) by_tableaux class_laws.tableaux a b (IsTableauProduct a b)
    (λ c h. (h.tableau, both_same _ a _ b h.front h.back))
    (λ c is e. let p = same_both (take (length a) c) a (back_tableau (length a) c) b e in record { tableau = is; front = p.0; back = p.1 })
    (λ c is. (letters_of_tableau c is, refl))
    codes small lists
