use Rattle.report_audit.proofs.Common.{IsId}
use Rattle.report_audit.proofs.lemmas.lines.ReadingLemmas.{both_none_first, both_none_second, spaced_apart}
use Rattle.report_audit.proofs.lines.CommandLemmas.{two_once}
use Rattle.report_audit.proofs.lines.command.three_first.Goals as goal

pub returns-in_err-ids : goal.returns-in_err-ids
returns-in_err-ids c = rw c.from_residual.ensures (both_none_first IsId spaced_apart c.in_err-ids.ensures)

pub returns-in_err-time : goal.returns-in_err-time
returns-in_err-time c =
    rw c.from_residual-in_err-time.ensures (both_none_second IsId spaced_apart (two_once c.args.words.now) c.in_ok-ids.ensures c.in_err-time.ensures)
