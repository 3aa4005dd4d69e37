use Rattle.std.proofs.Common.{◌+◌, ℕ, sym, ap, ◌∙◌, subst, arith}
use Rattle.dispatch_engine.proofs.Common.{travel_time, length_push, no_vehicle, IsSettledVehicle, HasVehiclePlaces}
use Rattle.dispatch_engine.proofs.limits.Pairing.{pairs_more, pairs_all}
use Rattle.dispatch_engine.proofs.limits.settled_vehicles.settled_vehicles.Goals as goal

pub settled_vehicle-requires-clause-places : goal.settled_vehicle-requires-clause-places
settled_vehicle-requires-clause-places c =
    subst (HasVehiclePlaces c.args.basis.now.points.now) (sym c.vehicle-item.is) (c.requires.places c.loop-vehicle.vehicle-index c.vehicle-item.result
    c.loop-vehicle-test.true)

pub loop-vehicle-preserved : goal.loop-vehicle-preserved
loop-vehicle-preserved c =
    let R = IsSettledVehicle c.args.basis.now.settings.now c.args.basis.now.points.now (travel_time c.args.basis.now.times.now) c.args.basis.now.sealed_at
    c.args.basis.now.requests.now c.args.basis.now.plain.now in
    rw c.in_ok-push.ensures.items (record {
      count = length_push c.loop-vehicle.settled.items c.in_ok-one.one ∙ ap (λ (n : ℕ). n + 1) c.loop-vehicle.invariant.count;
      each = pairs_more R no_vehicle c.loop-vehicle.vehicle-index c.args.vehicles.now c.loop-vehicle.settled.items c.vehicle-item.result c.in_ok-one.one
          c.loop-vehicle-test.true c.vehicle-item.is c.loop-vehicle.invariant.count c.in_ok-one.ensures c.loop-vehicle.invariant.each;
    })

pub returns : goal.returns
returns c =
    let R = IsSettledVehicle c.args.basis.now.settings.now c.args.basis.now.points.now (travel_time c.args.basis.now.times.now) c.args.basis.now.sealed_at
    c.args.basis.now.requests.now c.args.basis.now.plain.now in
    record {
      count = (let n = c.loop-vehicle.invariant.count in omega arith);
      each = pairs_all R no_vehicle c.loop-vehicle.vehicle-index c.args.vehicles.now c.loop-vehicle.settled.items (omega arith) c.loop-vehicle.invariant.each;
    }
