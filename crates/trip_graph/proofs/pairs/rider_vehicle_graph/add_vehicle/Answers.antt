use Rattle.std.proofs.Common.{length, refl, ap, arith}
use Rattle.trip_graph.proofs.Common.{travel_time, IsRvEdge, RvEdge, no_edge, pair_of}
use Rattle.trip_graph.proofs.lemmas.pairs.Listing.{lists_taken, lists_passed, lists_next}
use Rattle.trip_graph.proofs.pairs.rider_vehicle_graph.add_vehicle.Goals as goal

pub loop-rider-preserved-then-not-branch : goal.loop-rider-preserved-then-not-branch
loop-rider-preserved-then-not-branch g c =
    lists_passed RvEdge pair_of (λ v r. record { vehicle = v; rider = r }) no_edge (IsRvEdge (travel_time c.args.times.now) c.args.settled.now) c.args.vehicle
    c.loop-rider.rider
    c.loop-rider.edges.items (rw c.if-not-branch.true at c.in_ok-can_serve.ensures) c.loop-rider.invariant

pub loop-rider-preserved : goal.loop-rider-preserved
loop-rider-preserved g c =
    rw c.in_ok-push.ensures.items
    (lists_taken RvEdge pair_of (λ v r. record { vehicle = v; rider = r }) no_edge (IsRvEdge (travel_time c.args.times.now) c.args.settled.now) c.args.vehicle
    c.loop-rider.rider
    c.loop-rider.edges.items (record { vehicle = c.args.vehicle; rider = c.loop-rider.rider }) refl refl (rw c.if-not-branch.false at c.in_ok-can_serve.ensures)
    c.loop-rider.invariant)

pub returns : goal.returns
returns g c =
    let all = ap length c.as_slice-rider-end.ensures in
    lists_next RvEdge pair_of (λ v r. record { vehicle = v; rider = r }) no_edge (IsRvEdge (travel_time c.args.times.now) c.args.settled.now) c.args.vehicle
    c.loop-rider.rider
    c.loop-rider.edges.items (λ d e. let under = e.riders.within 0 0 (omega arith) in omega arith) c.loop-rider.invariant
