use Rattle.std.proofs.Common.{codes}
use Rattle.report_audit.proofs.lemmas.lines.ReadingLemmas.{both_none_first, both_none_second}
use Rattle.report_audit.proofs.lines.CommandLemmas.{AreTwo, pair_apart, two_once}
use Rattle.report_audit.proofs.lines.command.four_first.Goals as goal

pub returns-in_err-ids : goal.returns-in_err-ids
returns-in_err-ids c = rw c.from_residual.ensures (both_none_first AreTwo pair_apart c.in_err-ids.ensures)

pub returns-in_err-next : goal.returns-in_err-next
returns-in_err-next c =
    rw c.from_residual-in_err-next.ensures
    (both_none_second AreTwo pair_apart (two_once (codes " submit ")) c.in_ok-ids.ensures c.in_err-next.ensures)
