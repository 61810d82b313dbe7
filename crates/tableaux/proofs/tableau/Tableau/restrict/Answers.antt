use Rattle.std.proofs.Common.{length, sym, ◌∙◌, ap, subst, arith}
use Rattle.std.specs.Prelude.{IsTrue}
use Rattle.realisations.specs.IndexKinds.{is_permutation, is_standard_tableau}
use Rattle.realisations.specs.Standardisation.{standardise}
use Rattle.realisations.specs.Tableaux.{insertion_tableau}
use Rattle.basis_representatives.proofs.Permutations.{count_same-permutation, each_once}
use Rattle.tableau_laws.specs.Intervals.{letters_between, tableau_between}
use Rattle.tableau_laws.proofs.NumberedTableaux.{standard-insertion}
use Rattle.tableau_laws.proofs.StandardIntervals.{restriction}
use Rattle.tableaux.proofs.Restricting.{length-standardised, permutation-standardised}
use Rattle.tableaux.proofs.tableau.Tableau.restrict.Goals as goal

pub inserted-requires-clause-distinct : goal.inserted-requires-clause-distinct
inserted-requires-clause-distinct c = λ k.
    let permutes = subst (λ w. IsTrue (is_permutation w)) (sym c.between.ensures) (permutation-standardised c.args.from c.args.to c.reading_word-word.result) in
    count_same-permutation c.between.result (each_once c.between.result permutes) k

pub inserted-requires-clause-small : goal.inserted-requires-clause-small
inserted-requires-clause-small c =
    omega (arith, ap length c.between.ensures, length-standardised c.args.from c.args.to c.reading_word-word.result, c.reading_word-word.ensures.small)

pub returns-clause-own : goal.returns-clause-own
returns-clause-own c = c.inserted.ensures ∙ ap insertion_tableau c.between.ensures ∙ ap (tableau_between c.args.from c.args.to) c.reading_word-word.ensures.value

pub returns-clause-all : goal.returns-clause-all
returns-clause-all c = λ s h e.
    c.inserted.ensures
    ∙ ap insertion_tableau c.between.ensures
    ∙ ap (tableau_between c.args.from c.args.to) c.reading_word-word.ensures.value
    ∙ sym (restriction.tableau_restricts c.args.from c.args.to c.args.self.now s h e)

pub returns-clause-standard : goal.returns-clause-standard
returns-clause-standard c =
    subst (λ t. IsTrue (is_standard_tableau t)) (sym (c.inserted.ensures ∙ ap insertion_tableau c.between.ensures))
    (standard-insertion (standardise (letters_between c.args.from c.args.to c.reading_word-word.result)) (permutation-standardised c.args.from c.args.to c.reading_word-word.result))
