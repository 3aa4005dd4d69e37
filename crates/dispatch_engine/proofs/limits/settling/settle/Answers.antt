use Rattle.std.proofs.Common.{ℕ, sym, subst}
use Rattle.dispatch_engine.proofs.Common.{travel_time, Batch, ArePoints, IsSound, ArePlain, IsSettled, AreSettledVehicles}
use Rattle.dispatch_engine.proofs.limits.Places.{rider_places, vehicle_places}
use Rattle.dispatch_engine.proofs.limits.Assembly.{held_numbers, assembled, settled_right, settled_sound}
use Rattle.dispatch_engine.proofs.limits.settling.settle.Goals as goal

pub plain_riders-requires-clause-places : goal.plain_riders-requires-clause-places
plain_riders-requires-clause-places c =
    rw c.as_slice-requests.ensures (rider_places _ c.args.points.now (subst (λ (b : Batch). ArePoints b c.args.points.now) (sym c.snapshot.view_is)
    c.requires.points))

pub settled_vehicles-requires-clause-places : goal.settled_vehicles-requires-clause-places
settled_vehicles-requires-clause-places c =
    rw c.as_slice.ensures (vehicle_places _ c.args.points.now (subst (λ (b : Batch). ArePoints b c.args.points.now) (sym c.snapshot.view_is) c.requires.points))

pub settled_vehicles-requires-clause-seats : goal.settled_vehicles-requires-clause-seats
settled_vehicles-requires-clause-seats c = rw c.as_slice.ensures c.snapshot.invariant.seats

pub riders_as_promised-requires-clause-within : goal.riders_as_promised-requires-clause-within
riders_as_promised-requires-clause-within c =
    let i = c.snapshot.inside in let settings = c.args.settings.now in let points = c.args.points.now in let tau = travel_time c.args.times.now in
    let batch : Batch = record { number = i.batch; sealed_at = i.now; vehicles = i.vehicles; riders = i.riders; expired = i.expired } in
    let av : AreSettledVehicles settings points tau batch.sealed_at batch.riders c.in_ok-plain.plain.items batch.vehicles c.in_ok-vehicles.vehicles.items =
    rw (c.as_slice-requests.ensures, c.as_slice.ensures, c.deref.ensures.value) at c.in_ok-vehicles.ensures in
    let numbers = held_numbers settings points tau batch c.in_ok-plain.plain.items c.in_ok-vehicles.vehicles.items av in
    rw (c.deref-3.ensures.value, c.as_slice-requests.ensures) numbers

pub returns : goal.returns
returns c =
    let i = c.snapshot.inside in let settings = c.args.settings.now in let points = c.args.points.now in let tau = travel_time c.args.times.now in
    let batch : Batch = record { number = i.batch; sealed_at = i.now; vehicles = i.vehicles; riders = i.riders; expired = i.expired } in
    let plain = c.in_ok-plain.plain.items in let vehicles = c.in_ok-vehicles.vehicles.items in let riders = c.in_ok-riders.riders.items in
    let pl : ArePlain settings points tau batch.riders plain = rw c.as_slice-requests.ensures at c.in_ok-plain.ensures in
    let av : AreSettledVehicles settings points tau batch.sealed_at batch.riders plain batch.vehicles vehicles =
    rw (c.as_slice-requests.ensures, c.as_slice.ensures, c.deref.ensures.value) at c.in_ok-vehicles.ensures in
    let ak = rw (c.as_slice-requests.ensures, c.deref-2.ensures.value, c.deref-3.ensures.value) at c.in_ok-riders.ensures in
    let right = settled_right settings points tau batch plain vehicles riders pl av ak in
    let sound = settled_sound settings points tau batch plain vehicles riders pl av ak c.snapshot.invariant c.get.ensures.within in
    rw (c.of.ensures, c.of-2.ensures, c.most_seats.ensures, c.as_slice-2.ensures, c.from.ensures, c.get.ensures.value) (record {
      settled = subst (λ (b : Batch). IsSettled settings points tau b (assembled settings points tau batch plain vehicles riders pl av ak)) c.snapshot.view_is
          right;
      sound = subst (λ (n : ℕ). IsSound settings.trip n tau (assembled settings points tau batch plain vehicles riders pl av ak)) (sym c.requires.table) sound;
    })
