use Rattle.ridepool.proofs.Common.{err_from_is_err_and, StopsAt}
use Rattle.ridepool.proofs.ReadingLemmas.{network_read}
use Rattle.ridepool.proofs.reading.network_from.Goals as goal

pub returns-in_err-bytes : goal.returns-in_err-bytes
returns-in_err-bytes g c =
    let p = err_from_is_err_and c.from_residual.result c.from_residual.ensures.1 in
    rw (p.1, p.2) (StopsAt.unread _ c.in_err-bytes.ensures)

pub returns : goal.returns
returns g c =
    network_read _ _ c.deref.result.now c.accept_network.result c.in_ok-bytes.ensures c.deref.ensures.value
    c.accept_network.ensures.network c.accept_network.ensures.refused c.accept_network.ensures.no_memory
