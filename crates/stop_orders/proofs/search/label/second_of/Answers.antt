use Rattle.std.proofs.Common.{◌≤◌, subst, sym, ap, ◌∙◌, arith}
use Rattle.stop_orders.proofs.Common.{travel_time, IsKnown, task_riders, task_passengers, place_of, latest_of, boarding_of, visit_at}
use Rattle.stop_orders.proofs.search.AheadLemmas.{leg_read}
use Rattle.stop_orders.proofs.search.LabelLemmas.{visits, no_seats}
use Rattle.stop_orders.proofs.search.label.second_of.Goals as goal

pub returns-then-get-label : goal.returns-then-get-label
returns-then-get-label c =
    let known = subst (λ s. IsKnown (task_riders c.args.task.now) (task_passengers c.args.task.now) s) c.in-Pick.is c.requires.known in
    let leg = leg_read c.args.task.now.riders.items c.deref.result.now c.in-Pick.i c.index-deref-i.result c.deref.ensures.0 c.index-deref-i.is known in
    no_seats (travel_time c.args.times.now) c.args.task.now c.args.label.now c.args.stop c.in-Pick.i c.index-deref-i.result c.get.result c.in-Pick.is leg
    c.get.ensures.value c.if-get-label.true

pub returns-else-get-label : goal.returns-else-get-label
returns-else-get-label c =
    let known = subst (λ s. IsKnown (task_riders c.args.task.now) (task_passengers c.args.task.now) s) c.in-Pick.is c.requires.known in
    let leg = leg_read c.args.task.now.riders.items c.deref.result.now c.in-Pick.i c.index-deref-i.result c.deref.ensures.0 c.index-deref-i.is known in
    let place = ap (λ l. l.origin) leg ∙ ap (λ s. place_of (visit_at c.args.task.now s)) (sym c.in-Pick.is) in
    let latest = ap (λ l. l.latest_pickup) leg ∙ ap (λ s. latest_of (visit_at c.args.task.now s)) (sym c.in-Pick.is) in
    let seats = subst (λ s. boarding_of (visit_at c.args.task.now s) ≤ c.args.label.now.room) (sym c.in-Pick.is)
    (omega (arith, c.get.ensures.value, c.if-get-label.false, ap (λ l. l.party) leg)) in
    visits (travel_time c.args.times.now) c.args.task.now c.args.label.now c.args.stop c.second_in_time.result c.index-deref-i.result.origin
    c.index-deref-i.result.latest_pickup place latest seats c.second_in_time.ensures

pub returns-in-Drop : goal.returns-in-Drop
returns-in-Drop c =
    let known = subst (λ s. IsKnown (task_riders c.args.task.now) (task_passengers c.args.task.now) s) c.in-Drop.is c.requires.known in
    let leg = leg_read c.args.task.now.riders.items c.deref-in-Drop.result.now c.in-Drop.i c.index-deref-i-in-Drop.result c.deref-in-Drop.ensures.0
    c.index-deref-i-in-Drop.is known in
    let place = ap (λ l. l.destination) leg ∙ ap (λ s. place_of (visit_at c.args.task.now s)) (sym c.in-Drop.is) in
    let latest = ap (λ l. l.latest_dropoff) leg ∙ ap (λ s. latest_of (visit_at c.args.task.now s)) (sym c.in-Drop.is) in
    visits (travel_time c.args.times.now) c.args.task.now c.args.label.now c.args.stop c.second_in_time-in-Drop.result
    c.index-deref-i-in-Drop.result.destination c.index-deref-i-in-Drop.result.latest_dropoff place latest
    (subst (λ s. boarding_of (visit_at c.args.task.now s) ≤ c.args.label.now.room) (sym c.in-Drop.is) (omega arith)) c.second_in_time-in-Drop.ensures

pub returns-in-Alight : goal.returns-in-Alight
returns-in-Alight c =
    let known = subst (λ s. IsKnown (task_riders c.args.task.now) (task_passengers c.args.task.now) s) c.in-Alight.is c.requires.known in
    let leg = leg_read c.args.task.now.aboard.items c.deref-in-Alight.result.now c.in-Alight.j c.index-deref-j.result c.deref-in-Alight.ensures.0
    c.index-deref-j.is known in
    let place = ap (λ l. l.destination) leg ∙ ap (λ s. place_of (visit_at c.args.task.now s)) (sym c.in-Alight.is) in
    let latest = ap (λ l. l.latest_dropoff) leg ∙ ap (λ s. latest_of (visit_at c.args.task.now s)) (sym c.in-Alight.is) in
    visits (travel_time c.args.times.now) c.args.task.now c.args.label.now c.args.stop c.second_in_time-in-Alight.result c.index-deref-j.result.destination
    c.index-deref-j.result.latest_dropoff place latest (subst (λ s. boarding_of (visit_at c.args.task.now s) ≤ c.args.label.now.room) (sym c.in-Alight.is)
    (omega arith)) c.second_in_time-in-Alight.ensures
