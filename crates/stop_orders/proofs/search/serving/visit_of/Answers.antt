use Rattle.std.proofs.Common.{length, subst, ap, arith}
use Rattle.stop_orders.proofs.Common.{IsKnown, Pickup, Dropoff}
use Rattle.stop_orders.proofs.search.AheadLemmas.{leg_read}
use Rattle.stop_orders.proofs.search.serving.visit_of.Goals as goal

pub bounds-deref-i : goal.bounds-deref-i
bounds-deref-i c =
    let known = subst (λ s. IsKnown (length c.args.task.now.riders.items) (length c.args.task.now.aboard.items) s) c.in-Pick.is c.requires in
    omega (arith, known, ap length c.deref.ensures.0)

pub bounds-deref-i-in-Drop : goal.bounds-deref-i-in-Drop
bounds-deref-i-in-Drop c =
    let known = subst (λ s. IsKnown (length c.args.task.now.riders.items) (length c.args.task.now.aboard.items) s) c.in-Drop.is c.requires in
    omega (arith, known, ap length c.deref-in-Drop.ensures.0)

pub bounds-deref-j : goal.bounds-deref-j
bounds-deref-j c =
    let known = subst (λ s. IsKnown (length c.args.task.now.riders.items) (length c.args.task.now.aboard.items) s) c.in-Alight.is c.requires in
    omega (arith, known, ap length c.deref-in-Alight.ensures.0)

pub returns-in-Pick : goal.returns-in-Pick
returns-in-Pick c =
    let known = subst (λ s. IsKnown (length c.args.task.now.riders.items) (length c.args.task.now.aboard.items) s) c.in-Pick.is c.requires in
    let leg = leg_read c.args.task.now.riders.items c.deref.result.now c.in-Pick.i c.index-deref-i.result c.deref.ensures.0 c.index-deref-i.is known in
    rw c.in-Pick.is (ap (λ l. Pickup l.origin l.latest_pickup l.party) leg)

pub returns-in-Drop : goal.returns-in-Drop
returns-in-Drop c =
    let known = subst (λ s. IsKnown (length c.args.task.now.riders.items) (length c.args.task.now.aboard.items) s) c.in-Drop.is c.requires in
    let leg = leg_read c.args.task.now.riders.items c.deref-in-Drop.result.now c.in-Drop.i c.index-deref-i-in-Drop.result c.deref-in-Drop.ensures.0
    c.index-deref-i-in-Drop.is known in
    rw c.in-Drop.is (ap (λ l. Dropoff l.destination l.latest_dropoff l.ideal l.party) leg)

pub returns-in-Alight : goal.returns-in-Alight
returns-in-Alight c =
    let known = subst (λ s. IsKnown (length c.args.task.now.riders.items) (length c.args.task.now.aboard.items) s) c.in-Alight.is c.requires in
    let leg = leg_read c.args.task.now.aboard.items c.deref-in-Alight.result.now c.in-Alight.j c.index-deref-j.result c.deref-in-Alight.ensures.0
    c.index-deref-j.is known in
    rw c.in-Alight.is (ap (λ l. Dropoff l.destination l.latest_dropoff l.ideal l.party) leg)
