use Rattle.std.proofs.Common.{◌+◌, ◌≡◌, arith}
use Rattle.input_rows.proofs.Common.{vehicle_row, fleet_part}
use Rattle.input_rows.proofs.made.WrittenLemmas.{Writes-none, Writes-next}
use Rattle.input_rows.proofs.made.fleet.put_fleet.Goals as goal

pub loop-n-init : goal.loop-n-init
loop-n-init c = Writes-none (λ n. vehicle_row c.args.shape.now (n + 1)) _ _

pub loop-n-preserved : goal.loop-n-preserved
loop-n-preserved c = Writes-next (λ n. vehicle_row c.args.shape.now (n + 1)) c.loop-n.n _ _ _ _ _ _ c.loop-n.invariant c.in_ok-put_vehicle.ensures

pub returns : goal.returns
unfolding fleet_part
returns c = let ended : c.loop-n.n ≡ c.args.shape.now.vehicles = omega (arith, c.from-n-end.ensures) in rw ended at c.loop-n.invariant
