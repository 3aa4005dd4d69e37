use Rattle.std.proofs.Common.{◌≡◌, take, map}
use Rattle.dispatch_engine.proofs.Common.{vehicle_at, rider_id}
use Rattle.dispatch_engine.proofs.outcome.lines.rv_lines.Given as goal

abbrev pub invariant-loop-edge : goal.invariant-loop-edge
invariant-loop-edge l = l.lines.items ≡ map (λ edge. ((vehicle_at l.settled edge.vehicle).id, rider_id l.settled edge.rider)) (take l.edge-index l.edges)
