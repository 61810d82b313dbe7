use Rattle.std.proofs.Common.{◌≡◌, ◌∙◌, ap}
use Rattle.basis_representatives.proofs.SameLists.{same_list-sym}
use Rattle.realisations.specs.Tableaux.{insertion_tableau, reading_word, tableau_code}
use Rattle.fsym.proofs.CodeTests.{is_other, is_same}
use Rattle.fsym.proofs.cutting.read_tableau.Goals as goal

pub returns-then-ne : goal.returns-then-ne
returns-then-ne c =
    let own : c.reading_word.result ≡ reading_word (insertion_tableau c.args.word.now) = c.reading_word.ensures.value ∙ ap reading_word c.inserted-tableau.ensures.value in
    same_list-sym c.args.word.now (reading_word (insertion_tableau c.args.word.now))
    ∙ is_other c.reading_word.result (reading_word (insertion_tableau c.args.word.now)) c.args.word.now c.ne.result own c.ne.ensures c.if-ne.true

pub returns : goal.returns
returns c =
    let own : c.reading_word.result ≡ reading_word (insertion_tableau c.args.word.now) = c.reading_word.ensures.value ∙ ap reading_word c.inserted-tableau.ensures.value in (
      same_list-sym c.args.word.now (reading_word (insertion_tableau c.args.word.now))
          ∙ is_same c.reading_word.result (reading_word (insertion_tableau c.args.word.now)) c.args.word.now c.ne.result own c.ne.ensures c.if-ne.false,
      c.code.ensures ∙ ap tableau_code c.inserted-tableau.ensures.value,
    )
