use Rattle.std.proofs.Common.{List, sym, ap, ◌∙◌, subst}
use Rattle.report_audit.proofs.Common.{travel_time, Stop, ReachesAll, order_delay}
use Rattle.std.proofs.lemmas.Bool.{eq-eqb, eqb-true}
use Rattle.report_audit.proofs.lemmas.points.LateLemmas.{rightly_no, late_order_of, late_reaches, late_delay, late_from}
use Rattle.report_audit.proofs.points.late.is_late_order.Goals as goal

pub returns-in_default-delay_of : goal.returns-in_default-delay_of
returns-in_default-delay_of c =
    let instance = c.args.instance.now in let points = instance.points.now in let tau = travel_time instance.times.now in let settled =
    instance.settled.now in let v = c.args.vehicle in let task = c.args.task.now in rightly_no (λ late.
    let only = c.in-Some.ensures.only late.stops (late_order_of points tau settled v task c.requires.task c.args.delay c.args.told.now late) late.told in
    c.in_default-delay_of.ensures (late_reaches points tau settled v task c.requires.task c.args.delay c.args.told.now late c.as_slice.result.now
    (c.as_slice.ensures.value ∙ only)))

pub returns : goal.returns
returns c =
    let instance = c.args.instance.now in let points = instance.points.now in let tau = travel_time instance.times.now in let settled =
    instance.settled.now in let v = c.args.vehicle in let task = c.args.task.now in
    let slice = c.as_slice.ensures.value in
    let reaches = c.in-Some-delay_of.ensures.0 in
    let has = c.in-Some-delay_of.ensures.1 in (
      λ is. late_from points tau settled v task c.requires.task c.args.delay c.args.told.now c.in-Some.order.items
          c.in-Some.ensures.order (subst (λ (stops : List Stop). ReachesAll tau task stops) slice reaches)
          (sym (ap (λ (stops : List Stop). order_delay tau task stops) slice) ∙ sym has ∙ eqb-true c.in-Some-delay_of.found c.args.delay is) c.requires.least
          c.in-Some.ensures.told,
      λ late.
          let only = c.in-Some.ensures.only late.stops (late_order_of points tau settled v task c.requires.task c.args.delay c.args.told.now late) late.told in
          eq-eqb c.in-Some-delay_of.found c.args.delay (has ∙ late_delay points tau settled v task c.requires.task c.args.delay c.args.told.now late
          c.as_slice.result.now (slice ∙ only)),
    )
