use Rattle.std.proofs.Common.{codes, arith}
use Rattle.report_audit.proofs.lemmas.lines.ReadingLemmas.{same_begin, pair_once, spaced_ends}
use Rattle.report_audit.proofs.lines.block_line.read_move.Goals as goal

pub returns-in_err-ids : goal.returns-in_err-ids
returns-in_err-ids c = rw c.from_residual.ensures (λ m is e. c.in_err-ids.ensures (m.vehicle, m.rider) _
    (record { whole = e; lawful = (is.0, is.1); ends = spaced_ends m.seconds }))

pub returns-in_err-seconds : goal.returns-in_err-seconds
returns-in_err-seconds c =
    rw c.from_residual-in_err-seconds.ensures
    (λ m is e. c.in_err-seconds.ensures m.seconds (omega (arith, is.2))
    (same_begin (pair_once (codes "move ") 1000000000 1000000000 (omega arith) (omega arith)) c.in_ok-ids.ensures (m.vehicle, m.rider) _ (is.0, is.1)
    (spaced_ends m.seconds) e).1)
