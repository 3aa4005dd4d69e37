use Rattle.std.proofs.Common.{◌≡◌, ℕ, ◌<◌, length, sym, ◌∙◌, subst, arith}
use Rattle.std.proofs.lemmas.Bool.{eqb-true}
use Rattle.report_audit.proofs.lemmas.points.OrderLemmas.{ReadsBack, read_next, read_stuck, read_too_many, read_all}
use Rattle.report_audit.proofs.points.orders.read_order.Goals as goal

pub returns-then-is_full : goal.returns-then-is_full
returns-then-is_full c = λ points tau stops o is.
    let long = c.loop-stop.invariant.long in
    let full : length c.loop-stop.order.items ≡ 22 = eqb-true (length c.loop-stop.order.items) 22 (sym c.is_full.ensures.value ∙ c.if-is_full.true) in
    let more : 22 < length c.args.told.now = omega (arith, long, full) in
    read_too_many c.args.settled.now c.args.vehicle c.args.trip.now c.args.told.now c.requires.few c.requires.passengers more points tau stops o is

pub returns-in_default : goal.returns-in_default
returns-in_default c = λ points tau stops o is.
    read_stuck c.args.settled.now c.args.vehicle c.args.trip.now c.args.told.now c.loop-stop.stop-index c.stop-item.result c.loop-stop-test.true
    (λ nodes stop second known same. let found = c.read_stop.ensures nodes stop second known (c.stop-item.is ∙ same) in let none = c.in_default.is in cc)
    points tau stops o is

pub loop-stop-preserved : goal.loop-stop-preserved
loop-stop-preserved c =
    rw c.push.ensures.items
    (read_next c.args.settled.now c.args.vehicle c.args.trip.now c.args.told.now c.loop-stop.stop-index c.stop-item.result c.loop-stop.order.items
    c.in-Some.next c.loop-stop-test.true c.loop-stop.invariant
    (λ nodes stop second known same. let found = c.read_stop.ensures nodes stop second known (c.stop-item.is ∙ same) in let some = c.in-Some.is in cc))

pub returns : goal.returns
returns c = λ points tau stops o is.
    let all : c.loop-stop.stop-index ≡ length c.args.told.now = omega arith in
    read_all c.args.settled.now c.args.vehicle c.args.trip.now c.args.told.now c.loop-stop.order.items
    (subst (λ (k : ℕ). ReadsBack c.args.settled.now c.args.vehicle c.args.trip.now c.args.told.now k c.loop-stop.order.items) all c.loop-stop.invariant)
    points tau stops o is
