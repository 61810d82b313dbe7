use Rattle.std.proofs.Common.{sym, ◌∙◌, ap, subst}
use Rattle.std.specs.Prelude.{IsTrue}
use Rattle.realisations.specs.IndexKinds.{is_permutation, is_standard_tableau}
use Rattle.realisations.specs.Tableaux.{insertion_tableau}
use Rattle.basis_representatives.proofs.Permutations.{count_same-permutation, each_once}
use Rattle.tableau_laws.proofs.NumberedTableaux.{standard-insertion}
use Rattle.tableaux.proofs.insertion.schensted.Goals as goal

pub inserted-requires-clause-distinct : goal.inserted-requires-clause-distinct
inserted-requires-clause-distinct c = λ k.
    count_same-permutation c.code.result.now (each_once c.code.result.now (subst (λ w. IsTrue (is_permutation w)) (sym c.code.ensures.value) c.code.ensures.small.permutation)) k

pub returns-clause-standard : goal.returns-clause-standard
returns-clause-standard c =
    subst (λ t. IsTrue (is_standard_tableau t)) (sym (c.inserted.ensures ∙ ap insertion_tableau c.code.ensures.value)) (standard-insertion c.args.permutation.now c.code.ensures.small.permutation)
