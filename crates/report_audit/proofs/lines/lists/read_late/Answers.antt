use Rattle.std.proofs.Common.{codes, arith}
use Rattle.report_audit.proofs.Common.{order_text}
use Rattle.report_audit.proofs.lines.StopLemmas.{order_ends}
use Rattle.report_audit.proofs.lemmas.lines.ReadingLemmas.{same_begin, numbered_once}
use Rattle.report_audit.proofs.lines.lists.read_late.Goals as goal

pub returns-in_default : goal.returns-in_default
returns-in_default c late is e =
    c.in_default.ensures late.vehicle (order_text (late.delay, late.stops)) (record { whole = e; lawful = is.0; ends = order_ends (late.delay, late.stops) })

pub returns-in_default-2 : goal.returns-in_default-2
returns-in_default-2 c late is e =
    (rw c.in_default-2.is at c.in_ok-delay.ensures) (late.delay, late.stops) is.1
    (same_begin (numbered_once (codes "late ") 1000000000 (omega arith)) c.in-Some.ensures late.vehicle (order_text (late.delay, late.stops)) is.0
    (order_ends (late.delay, late.stops)) e).1
