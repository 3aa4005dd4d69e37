use Rattle.std.proofs.Common.{codes, arith}
use Rattle.report_audit.proofs.lines.ListLemmas.{many_end}
use Rattle.report_audit.proofs.lemmas.lines.ReadingLemmas.{same_begin, pair_once}
use Rattle.report_audit.proofs.lines.StopLemmas.{stop_item}
use Rattle.report_audit.proofs.lines.lists.read_trip.Goals as goal

pub returns-in_default : goal.returns-in_default
returns-in_default c trip is e =
    c.in_default.ensures (trip.vehicle, trip.cost) _ (record { whole = e; lawful = (is.0, omega (arith, is.1)); ends = many_end stop_item trip.stops })

pub returns-in_default-2 : goal.returns-in_default-2
returns-in_default-2 c trip is e =
    (rw c.in_default-2.is at c.in_ok-stops.ensures) trip.stops is.2
    (same_begin (pair_once (codes "trip ") 1000000000 18446744073709551615 (omega arith) (omega arith)) c.in-Some.ensures (trip.vehicle, trip.cost) _
    (is.0, omega (arith, is.1)) (many_end stop_item trip.stops) e).1
