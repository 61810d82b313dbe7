use Rattle.std.proofs.Common.{◌≡◌, ◌≤◌, ◌+◌, inr, List, ℕ, length, rules, true, false, ap, ◌∙◌, subst, sym}
use Rattle.std.proofs.lemmas.Result.{err_from_is_err_and}
use Rattle.hopf_io.specs.Prefixes.{IsPrefix}
use Rattle.hopf.specs.Outcomes.{IsOutcome, line_of}
use Rattle.hopf.proofs.OneOutcome.{outcome_once}
use Rattle.hopf.proofs.session.Session.end_statement.Goals as goal

pub returns-in_err-send_line-clause-err : goal.returns-in_err-send_line-clause-err
returns-in_err-send_line-clause-err g c =
    let p = err_from_is_err_and c.from_residual-in_err-send_line.result c.from_residual-in_err-send_line.ensures.1 in
    let old = c.args.self.now in
    let whole : c.as_slice-2.result.now ≡ line_of (old.statements + 1) c.in_ok-outcome.outcome = search rules in
    let here : IsOutcome old.names old.pending c.in_ok-outcome.outcome c.outcome_of_text.new.names =
    subst (λ (text : List ℕ). IsOutcome old.names text c.in_ok-outcome.outcome c.outcome_of_text.new.names) c.as_slice.ensures c.in_ok-outcome.ensures.outcome in
    let (written, appended, front) = c.in_err-send_line.ensures.part in
    rw p.1 (record {
      written = written;
      appended = appended;
      prefix = λ outcome left is.
          let same = outcome_once old.names old.pending c.in_ok-outcome.outcome outcome c.outcome_of_text.new.names left c.outcome_of_text.ensures.values here is in
          subst (λ (l : List ℕ). IsPrefix written l) (whole ∙ ap (line_of (old.statements + 1)) same.0) front;
      names = inr (c.in_ok-outcome.outcome, subst (λ names. IsOutcome old.names old.pending c.in_ok-outcome.outcome names) (sym c.count_outcome.ensures.names) here);
    })

pub returns-in_err-send_line-clause-steady : goal.returns-in_err-send_line-clause-steady
returns-in_err-send_line-clause-steady g c n outcome left room is fits =
    let old = c.args.self.now in
    let here : IsOutcome old.names old.pending c.in_ok-outcome.outcome c.outcome_of_text.new.names =
    subst (λ (text : List ℕ). IsOutcome old.names text c.in_ok-outcome.outcome c.outcome_of_text.new.names) c.as_slice.ensures c.in_ok-outcome.ensures.outcome in
    let same = outcome_once old.names old.pending c.in_ok-outcome.outcome outcome c.outcome_of_text.new.names left c.outcome_of_text.ensures.values here is in
    let whole : c.as_slice-2.result.now ≡ line_of (old.statements + 1) c.in_ok-outcome.outcome = search rules in
    let enough : length c.as_slice-2.result.now ≤ n = rw (whole, same.0) fits in
    let never : false ≡ true = (c.in_err-send_line.ensures.steady n room enough).0 in
    absurd (cc)
