use Rattle.std.proofs.Common.{◌≤◌, subst, sym, ap, arith}
use Rattle.stop_orders.proofs.Common.{IsKnown, task_riders, task_passengers, boarding_of, visit_at, Dropoff}
use Rattle.stop_orders.proofs.search.AheadLemmas.{leg_read}
use Rattle.stop_orders.proofs.search.LabelLemmas.{label_picked}
use Rattle.stop_orders.proofs.search.label.label_after.Goals as goal

pub overflow_sub-result : goal.overflow_sub-result
overflow_sub-result c =
    let known = subst (λ s. IsKnown (task_riders c.args.task.now) (task_passengers c.args.task.now) s) c.in-Pick.is c.requires.known in
    let leg = leg_read c.args.task.now.riders.items c.deref.result.now c.in-Pick.i c.index-deref-i.result c.deref.ensures.0 c.index-deref-i.is known in
    let seats = subst (λ s. boarding_of (visit_at c.args.task.now s) ≤ c.args.label.now.room) c.in-Pick.is c.requires.seats in
    omega (arith, c.get.ensures.value, ap (λ l. l.party) leg, seats)

pub label_out-requires-clause-dropoff : goal.label_out-requires-clause-dropoff
label_out-requires-clause-dropoff c =
    let known = subst (λ s. IsKnown (task_riders c.args.task.now) (task_passengers c.args.task.now) s) c.in-Drop.is c.requires.known in
    let leg = leg_read c.args.task.now.riders.items c.deref-in-Drop.result.now c.in-Drop.i c.index-deref-i-in-Drop.result c.deref-in-Drop.ensures.0
    c.index-deref-i-in-Drop.is known in
    ap (λ l. Dropoff l.destination l.latest_dropoff l.ideal l.party) (sym leg)

pub label_out-requires-in-Alight-clause-dropoff : goal.label_out-requires-in-Alight-clause-dropoff
label_out-requires-in-Alight-clause-dropoff c =
    let known = subst (λ s. IsKnown (task_riders c.args.task.now) (task_passengers c.args.task.now) s) c.in-Alight.is c.requires.known in
    let leg = leg_read c.args.task.now.aboard.items c.deref-in-Alight.result.now c.in-Alight.j c.index-deref-j.result c.deref-in-Alight.ensures.0
    c.index-deref-j.is known in
    ap (λ l. Dropoff l.destination l.latest_dropoff l.ideal l.party) (sym leg)

pub returns-in-Pick : goal.returns-in-Pick
returns-in-Pick c =
    let known = subst (λ s. IsKnown (task_riders c.args.task.now) (task_passengers c.args.task.now) s) c.in-Pick.is c.requires.known in
    let leg = leg_read c.args.task.now.riders.items c.deref.result.now c.in-Pick.i c.index-deref-i.result c.deref.ensures.0 c.index-deref-i.is known in
    label_picked c.args.task.now c.args.label.now c.args.stop c.in-Pick.i c.args.second c.with.result c.get.result c.index-deref-i.result c.in-Pick.is leg
    c.with.ensures c.get.ensures.value
