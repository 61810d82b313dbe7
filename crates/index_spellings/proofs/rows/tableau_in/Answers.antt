use Rattle.std.proofs.Common.{◌∙◌, length, arith}
use Rattle.std.specs.List.{concat}
use Rattle.realisations.specs.IndexKinds.{is_standard_tableau}
use Rattle.realisations.specs.Tableaux.{tableau_code}
use Rattle.index_spellings.specs.Items.{rows_in}
use Rattle.index_spellings.proofs.Spellings.{nothing-spelled}
use Rattle.index_spellings.proofs.StandardRows.{kept_tableau}
use Rattle.index_spellings.proofs.rows.tableau_in.Goals as goal

pub returns-in_err-kept : goal.returns-in_err-kept
returns-in_err-kept c =
    c.from_residual.ensures
    ∙ nothing-spelled c.args.limit is_standard_tableau (λ rows. length (concat rows)) tableau_code (rows_in c.args.items.now)
    (λ rows is h. c.in_err-kept.ensures rows is (kept_tableau rows h.0 (omega (arith, h.1, c.requires))))
