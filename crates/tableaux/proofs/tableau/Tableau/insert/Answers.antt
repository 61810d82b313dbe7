use Rattle.std.proofs.Common.{◌≡◌, ◌≤◌, length, sym, ◌∙◌, ap, subst, arith}
use Rattle.std.specs.List.{concat}
use Rattle.std.specs.Prelude.{Some}
use Rattle.realisations.specs.Standardisation.{count_below, count_same}
use Rattle.realisations.specs.Tableaux.{enter}
use Rattle.tableau_laws.proofs.NumberedTableaux.{rows-entered}
use Rattle.tableaux.proofs.Kept.{at-letters, at-rows, code-entered, kept-entered, room-letters}
use Rattle.tableaux.proofs.tableau.Tableau.insert.Goals as goal

pub prefix-requires : goal.prefix-requires
prefix-requires c =
    at-rows c.args.letter c.self.inside.letters.items c.self.inside.rows c.self.invariant (subst (λ rows. length (concat rows) ≤ 11) (sym c.self.view_is) c.requires.room)
    (subst (λ rows. count_same c.args.letter (concat rows) ≡ 0) (sym c.self.view_is) c.requires.new) c.smaller-at.result (c.smaller-at.ensures ∙ ap (count_below c.args.letter) c.as_slice.ensures.value)

pub suffix-behind-requires : goal.suffix-behind-requires
suffix-behind-requires c =
    at-rows c.args.letter c.self.inside.letters.items c.self.inside.rows c.self.invariant (subst (λ rows. length (concat rows) ≤ 11) (sym c.self.view_is) c.requires.room)
    (subst (λ rows. count_same c.args.letter (concat rows) ≡ 0) (sym c.self.view_is) c.requires.new) c.smaller-at.result (c.smaller-at.ensures ∙ ap (count_below c.args.letter) c.as_slice.ensures.value)

pub bump-self-inside-requires : goal.bump-self-inside-requires
bump-self-inside-requires c =
    code-entered c.args.letter c.self.inside.letters.items c.self.inside.rows c.self.invariant (subst (λ rows. length (concat rows) ≤ 11) (sym c.self.view_is) c.requires.room)
    (subst (λ rows. count_same c.args.letter (concat rows) ≡ 0) (sym c.self.view_is) c.requires.new) c.smaller-at.result c.prefix.result c.with-front.result c.suffix-behind.result
    (c.smaller-at.ensures ∙ ap (count_below c.args.letter) c.as_slice.ensures.value) c.prefix.ensures c.with-front.ensures c.suffix-behind.ensures

pub insert-requires : goal.insert-requires
insert-requires c =
    let room = subst (λ rows. length (concat rows) ≤ 11) (sym c.self.view_is) c.requires.room in
    let absent = subst (λ rows. count_same c.args.letter (concat rows) ≡ 0) (sym c.self.view_is) c.requires.new in (
      omega arith,
      (
        at-letters c.args.letter c.self.inside.letters.items c.self.inside.rows c.self.invariant room absent c.smaller-at.result (c.smaller-at.ensures ∙ ap (count_below c.args.letter) c.as_slice.ensures.value),
        room-letters c.args.letter c.self.inside.letters.items c.self.inside.rows c.self.invariant room absent,
      ),
    )

pub invariant_of-self : goal.invariant_of-self
invariant_of-self c =
    kept-entered c.args.letter c.self.inside.letters.items c.self.inside.rows c.self.invariant (subst (λ rows. length (concat rows) ≤ 11) (sym c.self.view_is) c.requires.room)
    (subst (λ rows. count_same c.args.letter (concat rows) ≡ 0) (sym c.self.view_is) c.requires.new) c.smaller-at.result c.prefix.result c.with-front.result c.suffix-behind.result
    c.insert.new.self.items c.bump-self-inside.result (c.smaller-at.ensures ∙ ap (count_below c.args.letter) c.as_slice.ensures.value) c.prefix.ensures c.with-front.ensures c.suffix-behind.ensures
    c.insert.ensures.items c.bump-self-inside.ensures

pub returns : goal.returns
returns c =
    rows-entered c.args.letter c.self.inside.letters.items c.self.inside.rows c.self.invariant.numbered (subst (λ rows. count_same c.args.letter (concat rows) ≡ 0) (sym c.self.view_is) c.requires.new)
    c.smaller-at.result c.prefix.result c.with-front.result c.suffix-behind.result
    c.insert.new.self.items c.bump-self-inside.result (c.smaller-at.ensures ∙ ap (count_below c.args.letter) c.as_slice.ensures.value) c.prefix.ensures c.with-front.ensures c.suffix-behind.ensures
    c.insert.ensures.items c.bump-self-inside.ensures
    ∙ ap (enter (Some c.args.letter)) c.self.view_is
