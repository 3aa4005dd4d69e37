use Rattle.std.proofs.Common.{ℕ, ◌<◌, [], ◌∷◌, ◌++◌, length, sym, ap, ◌∙◌, subst, arith}
use Rattle.trip_graph.proofs.Common.{
  length-map,
  length_push,
  Task,
  point_count,
  travel_time,
  IsTask,
  IsBelow,
  IsServable,
  IsLeastDelay,
  serves,
  costs,
  rider_count,
}
use Rattle.trip_graph.proofs.vehicle.GrownLevels.{taken, passed}
use Rattle.trip_graph.proofs.vehicle.RowGrowth.{last_rider, row_of, one_too_many, longer_task}
use Rattle.trip_graph.proofs.Lists.{on_err}
use Rattle.trip_graph.proofs.vehicle.row_growth.add_trip.Goals as goal

pub returns-then-not-may_share-clause-answer : goal.returns-then-not-may_share-clause-answer
returns-then-not-may_share-clause-answer g c =
    let growth = c.args.growth.now in (
      passed (rider_count growth) (serves growth) (costs growth) c.requires.can.rule c.args.longer.now.riders.now c.args.longer.now.rider
          c.args.growing.now.found.items
          (c.may_share.ensures c.if-not-may_share.true) c.requires.upto,
      c.requires.room,
    )

pub returns-then-not-is_possible-clause-answer : goal.returns-then-not-is_possible-clause-answer
returns-then-not-is_possible-clause-answer g c =
    let growth = c.args.growth.now in
    let is = c.as_slice-trip.ensures.value ∙ c.with_rider-riders.ensures in (
      passed (rider_count growth) (serves growth) (costs growth) c.requires.can.rule c.args.longer.now.riders.now c.args.longer.now.rider
          c.args.growing.now.found.items
          (λ s. c.is_possible.ensures c.if-not-is_possible.true (subst (serves growth) (sym is) s)) c.requires.upto,
      c.requires.room,
    )

pub returns-in_default-clause-answer : goal.returns-in_default-clause-answer
returns-in_default-clause-answer g c =
    let growth = c.args.growth.now in
    let same = longer_task growth.settled.now growth.vehicle c.args.task.now c.args.longer.now.riders.now c.args.longer.now.rider c.as_slice.result.now
    c.index-as_slice-longer.result c.requires.task c.as_slice.ensures c.requires.trip in
    let none = rw c.in_default.is at c.in_ok-cost.ensures.none in (
      passed (rider_count growth) (serves growth) (costs growth) c.requires.can.rule c.args.longer.now.riders.now c.args.longer.now.rider
          c.args.growing.now.found.items
          (λ s. none (subst (IsServable (travel_time growth.times.now)) (sym same) s.servable)) c.requires.upto,
      c.requires.room,
    )

pub returns-then-len-growth-clause-answer : goal.returns-then-len-growth-clause-answer
returns-then-len-growth-clause-answer g c =
    let growth = c.args.growth.now in
    let same = longer_task growth.settled.now growth.vehicle c.args.task.now c.args.longer.now.riders.now c.args.longer.now.rider c.as_slice.result.now
    c.index-as_slice-longer.result c.requires.task c.as_slice.ensures c.requires.trip in
    let least = subst (λ t. IsLeastDelay (travel_time growth.times.now) t c.in-Some.cost) same (rw c.in-Some.is at c.in_ok-cost.ensures.least) in
    let good = row_of (serves growth) (costs growth) (c.args.longer.now.riders.now ++ c.args.longer.now.rider ∷ [])
    (record { riders = c.with_rider-riders.result; cost = c.in-Some.cost }) c.with_rider-riders.ensures
    (record {
      vehicle = c.requires.can.vehicle;
      riders = c.requires.trip;
      size = omega (
        arith,
        length_push c.args.longer.now.riders.now
            c.args.longer.now.rider,
      );
      servable = (least.stops, least.serves);
    }) least in
    one_too_many (serves growth) (costs growth) _ growth.room _ c.args.growing.now.found.items _
    (taken (rider_count growth) (serves growth) (costs growth) c.requires.can.rule c.args.longer.now.riders.now c.args.longer.now.rider
    c.args.growing.now.found.items _ c.with_rider-riders.ensures good c.requires.upto) (omega arith)

pub returns-clause-answer : goal.returns-clause-answer
returns-clause-answer g c =
    let growth = c.args.growth.now in
    let same = longer_task growth.settled.now growth.vehicle c.args.task.now c.args.longer.now.riders.now c.args.longer.now.rider c.as_slice.result.now
    c.index-as_slice-longer.result c.requires.task c.as_slice.ensures c.requires.trip in
    let least = subst (λ t. IsLeastDelay (travel_time growth.times.now) t c.in-Some.cost) same (rw c.in-Some.is at c.in_ok-cost.ensures.least) in
    let good = row_of (serves growth) (costs growth) (c.args.longer.now.riders.now ++ c.args.longer.now.rider ∷ [])
    (record { riders = c.with_rider-riders.result; cost = c.in-Some.cost }) c.with_rider-riders.ensures
    (record {
      vehicle = c.requires.can.vehicle;
      riders = c.requires.trip;
      size = omega (
        arith,
        length_push c.args.longer.now.riders.now
            c.args.longer.now.rider,
      );
      servable = (least.stops, least.serves);
    }) least in
    rw c.in_ok-push.ensures.items (
      taken (rider_count growth) (serves growth) (costs growth) c.requires.can.rule c.args.longer.now.riders.now c.args.longer.now.rider
          c.args.growing.now.found.items _ c.with_rider-riders.ensures good c.requires.upto,
      omega (arith, length_push c.args.growing.now.found.items (record { riders = c.with_rider-riders.result; cost = c.in-Some.cost })),
    )

pub cost_with-requires-clause-valid : goal.cost_with-requires-clause-valid
cost_with-requires-clause-valid g c =
    let growth = c.args.growth.now in
    let longer = length_push c.args.longer.now.riders.now c.args.longer.now.rider in
    let same = longer_task growth.settled.now growth.vehicle c.args.task.now c.args.longer.now.riders.now c.args.longer.now.rider c.as_slice.result.now
    c.index-as_slice-longer.result c.requires.task c.as_slice.ensures c.requires.trip in
    subst (IsTask (point_count growth.times.now)) (sym same)
    ((c.requires.can.sound.each growth.vehicle c.requires.can.vehicle).tasks (c.args.longer.now.riders.now ++ c.args.longer.now.rider ∷ []) c.requires.trip
    (omega arith))

pub is_possible-requires-clause-below : goal.is_possible-requires-clause-below
is_possible-requires-clause-below g c =
    let sized = ap length (c.as_slice-trip.ensures.value ∙ c.with_rider-riders.ensures) in let longer =
    length_push c.args.longer.now.riders.now c.args.longer.now.rider in
    subst (λ (n : ℕ). IsBelow (serves c.args.growth.now) n c.args.rows.now) (omega arith) c.requires.below

pub is_possible-requires-clause-some : goal.is_possible-requires-clause-some
is_possible-requires-clause-some g c =
    let sized = ap length (c.as_slice-trip.ensures.value ∙ c.with_rider-riders.ensures) in omega
    (arith, length_push c.args.longer.now.riders.now c.args.longer.now.rider)

pub is_possible-requires-clause-size : goal.is_possible-requires-clause-size
is_possible-requires-clause-size g c =
    let sized = ap length (c.as_slice-trip.ensures.value ∙ c.with_rider-riders.ensures) in omega
    (arith, length_push c.args.longer.now.riders.now c.args.longer.now.rider)

pub bounds-as_slice-longer : goal.bounds-as_slice-longer
bounds-as_slice-longer g c = omega (arith, last_rider _ _ _ c.requires.trip, ap length c.as_slice.ensures)

pub bounds-as_slice-longer-else-not-is_possible : goal.bounds-as_slice-longer-else-not-is_possible
bounds-as_slice-longer-else-not-is_possible g c = omega (arith, last_rider _ _ _ c.requires.trip, ap length c.as_slice.ensures)

pub cost_with-requires-clause-room : goal.cost_with-requires-clause-room
cost_with-requires-clause-room g c = subst (λ (t : Task). length t.riders.items < 6) (sym c.requires.task) (rw length-map c.requires.size)

pub offset_bounds-as_slice-longer : goal.offset_bounds-as_slice-longer
offset_bounds-as_slice-longer g c = record { fits = omega (arith, last_rider _ _ _ c.requires.trip, ap length c.as_slice.ensures, c.as_slice.type_inv.1) }

pub returns-in_err-cost-clause-answer : goal.returns-in_err-cost-clause-answer
returns-in_err-cost-clause-answer g c = on_err c.from_residual.result _ c.from_residual.ensures.0

pub returns-in_err-cost-clause-task : goal.returns-in_err-cost-clause-task
returns-in_err-cost-clause-task g c = on_err c.from_residual.result _ c.from_residual.ensures.0

pub returns-in_err-push-clause-answer : goal.returns-in_err-push-clause-answer
returns-in_err-push-clause-answer g c = on_err c.from_residual-in_err-push.result _ c.from_residual-in_err-push.ensures.0

pub returns-in_err-push-clause-task : goal.returns-in_err-push-clause-task
returns-in_err-push-clause-task g c = on_err c.from_residual-in_err-push.result _ c.from_residual-in_err-push.ensures.0
