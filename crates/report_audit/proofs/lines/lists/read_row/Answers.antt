use Rattle.std.proofs.Common.{codes, arith}
use Rattle.report_audit.proofs.lines.ListLemmas.{many_end, spaced_item}
use Rattle.report_audit.proofs.lemmas.lines.ReadingLemmas.{same_begin, pair_once}
use Rattle.report_audit.proofs.lines.lists.read_row.Goals as goal

pub returns-in_default : goal.returns-in_default
returns-in_default c row is e =
    c.in_default.ensures (row.vehicle, row.cost) _ (record { whole = e; lawful = (is.0, omega (arith, is.1)); ends = many_end spaced_item row.riders })

pub returns-in_default-2 : goal.returns-in_default-2
returns-in_default-2 c row is e =
    (rw c.in_default-2.is at c.in_ok-riders.ensures) row.riders is.2
    (same_begin (pair_once (codes "row ") 1000000000 18446744073709551615 (omega arith) (omega arith)) c.in-Some.ensures (row.vehicle, row.cost) _
    (is.0, omega (arith, is.1)) (many_end spaced_item row.riders) e).1
