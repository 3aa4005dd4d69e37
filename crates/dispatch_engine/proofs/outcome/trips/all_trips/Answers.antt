use Rattle.std.proofs.Common.{◌≡◌, ℕ, ◌<◌, not, true, false, List, [], ◌∷◌, ◌++◌, length, sym, ap, ◌∙◌, subst}
use Rattle.dispatch_engine.proofs.Common.{AllZip, range_with_len, travel_time, SettledVehicle, vehicle_at, IsTripOf}
use Rattle.dispatch_engine.proofs.lemmas.limits.Promises.{filter_range_skips, filter_range_takes}
use Rattle.std.specs.List.{filter}
use Rattle.dispatch_engine.proofs.lemmas.outcome.TripLemmas.{all_zip_push, vehicle_read}
use Rattle.dispatch_engine.proofs.outcome.trips.all_trips.Goals as goal

pub loop-vehicle-preserved-then-vehicles-vehicle : goal.loop-vehicle-preserved-then-vehicles-vehicle
loop-vehicle-preserved-then-vehicles-vehicle g c =
    let instance = c.args.graphs.now.instance.now in let settled = instance.settled.now in let v = c.loop-vehicle.vehicle in
    let R = IsTripOf instance.points.now (travel_time instance.times.now) settled c.args.graphs.now.graph.now c.args.chosen.now in
    let within = subst (λ (list : List SettledVehicle). v < length list) c.as_slice-vehicles.ensures c.loop-vehicle-test.true in
    let here = ap (λ (one : SettledVehicle). one.late) (vehicle_read settled c.as_slice-vehicles.result.now v _ c.as_slice-vehicles.ensures within) in
    let late : (vehicle_at settled v).late ≡ true = sym here ∙ c.if-vehicles-vehicle.true in
    subst (λ (list : List ℕ). AllZip R list c.loop-vehicle.trips.items)
    (sym (filter_range_skips (λ n. not (vehicle_at settled n).late) v (ap not late))) c.loop-vehicle.invariant

pub loop-vehicle-preserved : goal.loop-vehicle-preserved
loop-vehicle-preserved g c =
    let instance = c.args.graphs.now.instance.now in let settled = instance.settled.now in let v = c.loop-vehicle.vehicle in
    let R = IsTripOf instance.points.now (travel_time instance.times.now) settled c.args.graphs.now.graph.now c.args.chosen.now in
    let within = subst (λ (list : List SettledVehicle). v < length list) c.as_slice-vehicles.ensures c.loop-vehicle-test.true in
    let here = ap (λ (one : SettledVehicle). one.late) (vehicle_read settled c.as_slice-vehicles.result.now v _ c.as_slice-vehicles.ensures within) in
    let in_time : (vehicle_at settled v).late ≡ false = sym here ∙ c.if-vehicles-vehicle.false in
    rw c.in_ok-push.ensures.items
    (subst (λ (list : List ℕ). AllZip R list (c.loop-vehicle.trips.items ++ c.in_ok-trip.trip ∷ []))
    (sym (filter_range_takes (λ n. not (vehicle_at settled n).late) v (ap not in_time)))
    (all_zip_push R (filter (λ n. not (vehicle_at settled n).late) (range_with_len 0 v)) c.loop-vehicle.trips.items v c.in_ok-trip.trip c.loop-vehicle.invariant
    c.in_ok-trip.ensures))
