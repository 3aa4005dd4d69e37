use Rattle.std.proofs.Common.{Err, ap, refl}
use Rattle.live_dispatch.proofs.DeskLemmas.{last-is}
use Rattle.live_dispatch.proofs.desk.write_last.Goals as goal

pub returns-in-Ok-clause-wrote : goal.returns-in-Ok-clause-wrote
returns-in-Ok-clause-wrote g c = λ before last is.
    let same = last-is c.args.entries.now before last c.index-entries-entries.result is c.index-entries-entries.is in
    rw (← same) (c.in-Ok.ensures.bytes, c.tell_close.ensures)

pub returns-in-Err-clause-wrote : goal.returns-in-Err-clause-wrote
returns-in-Err-clause-wrote g c = λ before last is.
    let same = last-is c.args.entries.now before last c.index-entries-entries.result is c.index-entries-entries.is in
    rw (← same) (c.in-Err.ensures.bytes, (λ e. c.in-Err.ensures.fault (ap Err e)), refl)
