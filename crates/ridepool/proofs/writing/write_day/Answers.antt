use Rattle.std.proofs.Common.{Err, ap}
use Rattle.ridepool.proofs.WriteLemmas.{behind_head, unbegun}
use Rattle.ridepool.proofs.writing.write_day.Goals as goal

pub returns-in-Ok-clause-report : goal.returns-in-Ok-clause-report
returns-in-Ok-clause-report g c = λ made holds.
    behind_head _ _ _ _ _ _ _ _ _ _ _ _ _ c.write_driven.result c.in-Ok.ensures.bytes c.write_first.ensures.never_falls
    (c.write_driven.ensures.rounds made holds)

pub returns-in-Err-clause-report : goal.returns-in-Err-clause-report
returns-in-Err-clause-report g c = λ made holds.
    unbegun _ _ _ _ _ _ _ _ _ _ c.in-Err.fault _ c.status_of.ensures c.in-Err.ensures.bytes (λ is. c.in-Err.ensures.fault (ap Err is))
