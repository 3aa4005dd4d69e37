use Rattle.std.proofs.Common.{◌≡◌, ◌≤◌, List, subst, sym, IfOk, IfSome, IfNone}
use Rattle.stop_orders.proofs.Common.{point_count, travel_time, Stop, Serves, order_delay, IsRoutable}
use Rattle.stop_orders.proofs.search.UnlimitedLemmas.{routable_unlimited, unlimited}
use Rattle.stop_orders.proofs.search.unlimited.least_delay_unlimited.Goals as goal

pub least_route-requires : goal.least_route-requires
least_route-requires c = record {
  valid = subst (λ u. IsRoutable (point_count c.args.times.now) u) (sym c.without_limits_of-unlimited.ensures)
      (routable_unlimited (point_count c.args.times.now) c.args.task.now c.requires.valid);
}

pub returns : goal.returns
returns c =
    let tau = travel_time c.args.times.now in
    let r = c.least_route.result in
    let is = c.without_limits_of-unlimited.ensures in
    let serves = subst (λ u. IfOk r (λ found. IfSome found (λ route. Serves tau u route.stops.items))) is c.least_route.ensures.serves in
    let delay = subst (λ u. IfOk r (λ found. IfSome found (λ route. route.delay ≡ order_delay tau u route.stops.items))) is c.least_route.ensures.delay in
    let least = subst (λ u. IfOk r (λ found. IfSome found (λ route. (stops : List Stop) → Serves tau u stops → route.delay ≤ order_delay tau u stops))) is
    c.least_route.ensures.least in
    let none = subst (λ u. IfOk r (λ found. IfNone found ((stops : List Stop) → Serves tau u stops → ⊥))) is c.least_route.ensures.none in
    let all = unlimited (point_count c.args.times.now) tau c.args.times.now.table.times c.args.task.now c.requires.valid c.requires.alone r serves delay least
    none in
    record { order = all.0; reaches = all.1; delay = all.2; least = all.3; none = all.4 }
