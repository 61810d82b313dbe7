use Rattle.std.proofs.Common.{◌≡◌, ◌≤◌, length, rules}
use Rattle.hopf.specs.Statuses.{status_line}
use Rattle.hopf.proofs.status.report.Goals as goal

pub returns-else-is_ok-clause-steady : goal.returns-else-is_ok-clause-steady
returns-else-is_ok-clause-steady g c n room fits =
    let same : c.as_bytes-line.result.now ≡ status_line c.args.status = search rules in
    let enough : length c.as_bytes-line.result.now ≤ n = rw same fits in
    let sent = (c.send_all.ensures.steady n room enough).0 in
    let not_sent = c.if-is_ok.false in
    let answer = c.is_ok.ensures.value in
    absurd (cc (sent, not_sent, answer))
