use Rattle.std.proofs.Common.{◌≡◌, ◌+◌, ◌<◌, true, false, arith, sym, ◌∙◌}
use Rattle.hopf_io.specs.Faults.{Rose}
use Rattle.hopf.specs.declared.reading.TheConstants.{INPUT_LIMIT}
use Rattle.hopf.proofs.Completeness.{done_or_memory}
use Rattle.hopf.proofs.run.run.Goals.{then-is_command, else-is_command}
use Rattle.hopf.proofs.run.run.Goals as goal

pub returns-clause-complete : goal.returns-clause-complete
returns-clause-complete g c command no_read_fault no_write_fault within = elim c.if-is_command.branch [
  | then-is_command w ↦
      let told = w.run_session-status.ensures in
      done_or_memory c.if-is_command.status
      (λ is. told.not_usage (sym w.status-is ∙ is))
      (λ is.
      let rose : Rose (g.I.Source.faults c.args.input.now) (g.I.Source.faults c.if-is_command.input) = rw w.input-is (told.read_fault (sym w.status-is ∙ is)) in
      no_read_fault rose)
      (λ is.
      let rose : Rose (g.O.Sink.faults c.args.out.now) (g.O.Sink.faults c.if-is_command.out) = rw w.out-is (told.write_fault (sym w.status-is ∙ is)) in
      no_write_fault rose)
      (λ is.
      let past : g.I.Source.given c.args.input.now + INPUT_LIMIT < g.I.Source.given c.if-is_command.input = rw w.input-is (told.limit.0 (sym w.status-is ∙ is)) in
      omega arith)
  | else-is_command w ↦
      let not_command : c.is_command.result ≡ false = w.if-is_command.false in
      let is_command : c.is_command.result ≡ true = c.is_command.ensures ∙ command in
      absurd (cc)
]
