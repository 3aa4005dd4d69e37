use Rattle.ridepool.proofs.Common.{err_from_is_err_and, StopsAt}
use Rattle.ridepool.proofs.ReadingLemmas.{fleet_read}
use Rattle.ridepool.proofs.reading.fleet_from.Goals as goal

pub returns-in_err-bytes-clause-read : goal.returns-in_err-bytes-clause-read
returns-in_err-bytes-clause-read g c =
    let p = err_from_is_err_and c.from_residual.result c.from_residual.ensures.1 in
    rw (p.1, p.2) (StopsAt.unread _ c.in_err-bytes.ensures)

pub returns-clause-read : goal.returns-clause-read
returns-clause-read g c =
    fleet_read _ c.args.network.now.nodes _ c.deref.result.now c.accept_fleet.result c.in_ok-bytes.ensures c.deref.ensures.value
    c.accept_fleet.ensures.fleet c.accept_fleet.ensures.refused c.accept_fleet.ensures.no_memory
