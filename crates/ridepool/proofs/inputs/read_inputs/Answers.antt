use Rattle.std.proofs.Common.{refl}
use Rattle.ridepool.proofs.Common.{err_from_is_err_and}
use Rattle.ridepool.proofs.InputLemmas.{network_stop, fleet_stop, script_stop, stop_hides}
use Rattle.ridepool.proofs.inputs.read_inputs.Goals as goal

pub returns-in_err-network-clause-read : goal.returns-in_err-network-clause-read
returns-in_err-network-clause-read g c report untouched =
    let why = c.in_err-network.ensures in
    let p = err_from_is_err_and c.from_residual.result c.from_residual.ensures.1 in
    rw (p.1, p.2) (record { inputs = network_stop _ _ (refl, refl, untouched) why; refused = stop_hides _ _ _ _ _ why })

pub returns-in-Err-clause-read : goal.returns-in-Err-clause-read
returns-in-Err-clause-read g c report untouched =
    let why = c.in-Err.ensures.read in
    record { inputs = fleet_stop _ _ (c.in_ok-network.network, c.in_ok-network.ensures, refl, untouched) why; refused = stop_hides _ _ _ _ _ why }

pub returns-in-Err-script_from-clause-read : goal.returns-in-Err-script_from-clause-read
returns-in-Err-script_from-clause-read g c report untouched =
    let why = c.in-Err-script_from.ensures in
    record {
      inputs = script_stop _ _ (c.in_ok-network.network, c.in-Ok.fleet, c.in_ok-network.ensures, c.in-Ok.ensures.read, untouched) why;
      refused = stop_hides _ _ _ _ _ why;
    }
