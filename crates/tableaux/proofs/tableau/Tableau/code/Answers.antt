use Rattle.std.proofs.Common.{◌∙◌, ap, subst, sym}
use Rattle.std.specs.Prelude.{IsTrue}
use Rattle.realisations.specs.IndexKinds.{is_standard_tableau}
use Rattle.realisations.specs.Tableaux.{tableau_code}
use Rattle.tableau_laws.proofs.NumberedTableaux.{code-standard}
use Rattle.tableaux.proofs.tableau.Tableau.code.Goals as goal

pub returns : goal.returns
returns c =
    code-standard c.self.inside.letters.items c.self.inside.rows c.self.invariant.numbered (subst (λ rows. IsTrue (is_standard_tableau rows)) (sym c.self.view_is) c.requires)
    ∙ ap tableau_code c.self.view_is
