use Rattle.std.proofs.Common.{length, ap, arith}
use Rattle.trip_graph.proofs.Common.{travel_time, IsRvEdge, RvEdge, no_edge, pair_of}
use Rattle.trip_graph.proofs.lemmas.pairs.Listing.{lists_none, lists_whole}
use Rattle.trip_graph.proofs.pairs.rider_vehicle_graph.all_edges.Goals as goal

pub loop-vehicle-init : goal.loop-vehicle-init
loop-vehicle-init g c =
    rw c.new-edges.ensures.items
    (lists_none RvEdge pair_of (λ v r. record { vehicle = v; rider = r }) no_edge (IsRvEdge (travel_time c.args.times.now) c.args.settled.now))

pub returns : goal.returns
returns g c =
    let graph = c.loop-vehicle.invariant in
    let all = ap length c.as_slice-vehicle-end.ensures in
    record {
      right = graph.right;
      rising = graph.rising;
      whole = lists_whole RvEdge pair_of (λ v r. record { vehicle = v; rider = r }) no_edge (IsRvEdge (travel_time c.args.times.now) c.args.settled.now)
          c.loop-vehicle.vehicle _
          c.loop-vehicle.edges.items (omega arith) (λ v r e. e.vehicle) graph;
    }
