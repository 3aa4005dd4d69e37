use Rattle.ridepool.proofs.Common.{err_from_is_err_and, StopsAt}
use Rattle.ridepool.proofs.ReadingLemmas.{script_read}
use Rattle.ridepool.proofs.reading.script_from.Goals as goal

pub returns-in_err-bytes : goal.returns-in_err-bytes
returns-in_err-bytes g c =
    let p = err_from_is_err_and c.from_residual.result c.from_residual.ensures.1 in
    rw (p.1, p.2) (StopsAt.unread _ c.in_err-bytes.ensures)

pub returns : goal.returns
returns g c =
    script_read _ _ c.deref.result.now c.accept_script.result c.in_ok-bytes.ensures c.deref.ensures.value
    c.accept_script.ensures.script c.accept_script.ensures.refused c.accept_script.ensures.no_memory
