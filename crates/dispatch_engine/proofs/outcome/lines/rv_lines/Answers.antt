use Rattle.std.proofs.Common.{ℕ, get_or, ap, refl}
use Rattle.dispatch_engine.proofs.Common.{rider_id, vehicle_at, SettledVehicle}
use Rattle.trip_graph.specs.declared.pairs.rv_edge.RvEdge.{RvEdge}
use Rattle.dispatch_engine.proofs.outcome.ListLemmas.{map_pushed}
use Rattle.dispatch_engine.proofs.lemmas.outcome.TripLemmas.{vehicle_read}
use Rattle.dispatch_engine.proofs.outcome.lines.rv_lines.Goals as goal

abbrev no_edge : RvEdge
no_edge = record { vehicle = 0; rider = 0 }

pub loop-edge-preserved : goal.loop-edge-preserved
loop-edge-preserved c =
    let settled = c.args.settled.now in let i = c.loop-edge.edge-index in let edge = get_or c.args.edges.now i no_edge in
    let told : RvEdge → ℕ × ℕ = λ edge. ((vehicle_at settled edge.vehicle).id, rider_id settled edge.rider) in
    let read = c.index-as_slice-edge in
    let vehicle = vehicle_read settled c.as_slice.result.now edge.vehicle read.result c.as_slice.ensures
    (c.requires.vehicles i no_edge c.loop-edge-test.true) in
    map_pushed told c.args.edges.now i no_edge (told edge) c.loop-edge.lines.items c.push.new.self.items c.loop-edge-test.true c.loop-edge.invariant
    (rw (← ap (λ (one : SettledVehicle). one.id) vehicle, ← c.id_of.ensures) c.in_ok-push.ensures.items) refl
