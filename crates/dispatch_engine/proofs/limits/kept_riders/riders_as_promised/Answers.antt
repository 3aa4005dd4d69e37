use Rattle.std.proofs.Common.{◌≡◌, ℕ, List, subst}
use Rattle.dispatch_engine.proofs.Common.{AreKept}
use Rattle.std.specs.List.{Contains}
use Rattle.dispatch_engine.proofs.lemmas.limits.Promises.{kept_by_more}
use Rattle.dispatch_engine.proofs.limits.kept_riders.riders_as_promised.Goals as goal

pub loop-vehicle-preserved : goal.loop-vehicle-preserved
loop-vehicle-preserved c =
    let wait = c.args.wait in let requests = c.args.requests.now in let plain = c.args.plain.now in
    let held : c.as_slice.result.now ≡ c.vehicle-item.result.held.items = (cc (c.as_slice.ensures.value, c.vehicle-item.is)) in
    let own = subst (λ (t : List ℕ). AreKept wait requests plain (Contains t) c.loop-vehicle.riders.items c.keep_promises.new.riders.items) held
    c.keep_promises.ensures in
    kept_by_more wait requests plain c.loop-vehicle.vehicle-index c.vehicle-item.result c.args.vehicles.now c.loop-vehicle.riders.items
    c.keep_promises.new.riders.items
    c.loop-vehicle-test.true c.vehicle-item.is c.loop-vehicle.invariant own
