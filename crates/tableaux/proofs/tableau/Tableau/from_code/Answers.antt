use Rattle.std.proofs.Common.{◌∙◌, ap, sym, subst, arith}
use Rattle.std.specs.Prelude.{IsTrue, MatchBool}
use Rattle.realisations.specs.IndexKinds.{is_standard_tableau}
use Rattle.realisations.specs.Tableaux.{tableau_code}
use Rattle.tableau_laws.specs.LatticeWords.{IsLatticeWord}
use Rattle.tableau_laws.proofs.LatticeWords.{code-rows_of, lattice-tableau_code, standard-lattice}
use Rattle.tableaux.proofs.tableau.Tableau.from_code.Goals as goal
use Rattle.tableaux.proofs.tableau.Tableau.from_code.Goals.{then-len-gt-MOST-via-then-len-gt-MOST, then-len-gt-MOST-via-else-len-gt-MOST+then-not-is_lattice_word}

pub returns-then-len-gt-MOST : goal.returns-then-len-gt-MOST
returns-then-len-gt-MOST c = λ h.
    elim c.then-len-gt-MOST.branch [
      | then-len-gt-MOST-via-then-len-gt-MOST w ↦ absurd (omega (arith, w.if-len-gt-MOST.true, c.len.ensures.value, h.small))
      | then-len-gt-MOST-via-else-len-gt-MOST+then-not-is_lattice_word w ↦
          subst (λ b. MatchBool b (IsLatticeWord c.args.code.now) (IsLatticeWord c.args.code.now → ⊥)) w.if-not-is_lattice_word.true w.is_lattice_word.ensures (lattice-tableau_code c.args.code.now h.tableau)
    ]

pub returns : goal.returns
returns c =
    let lattice : IsLatticeWord c.args.code.now =
    subst (λ b. MatchBool b (IsLatticeWord c.args.code.now) (IsLatticeWord c.args.code.now → ⊥)) c.if-not-is_lattice_word.false c.is_lattice_word.ensures in (
      c.numbered.ensures,
      subst (λ rows. IsTrue (is_standard_tableau rows)) (sym c.numbered.ensures) (standard-lattice c.args.code.now lattice),
      ap tableau_code c.numbered.ensures ∙ code-rows_of c.args.code.now lattice.positive,
      omega (arith, c.if-len-gt-MOST.false, c.len.ensures.value),
    )
