use Rattle.std.proofs.Common.{length, true, false}
use Rattle.std.proofs.lemmas.Bool.{le-leb, leb-true}
use Rattle.report_audit.proofs.Common.{both_ways, travel_time, vehicle_at, IsLate}
use Rattle.report_audit.proofs.lemmas.points.LateLemmas.{rightly_no}
use Rattle.report_audit.proofs.lemmas.points.WalkLemmas.{late_read, walk_end, walk_next, walk_skips, walk_stuck}
use Rattle.report_audit.proofs.points.late.are_late.Goals as goal

pub loop-vehicle-preserved-then-not-vehicles-vehicle : goal.loop-vehicle-preserved-then-not-vehicles-vehicle
loop-vehicle-preserved-then-not-vehicles-vehicle c =
    let settled = c.args.instance.now.settled.now in let v = c.loop-vehicle.vehicle in
    let here = late_read settled c.as_slice-vehicles.result.now v _ false c.as_slice-vehicles.ensures c.loop-vehicle-test.true c.if-not-vehicles-vehicle.true in
    rw (walk_skips (λ v. (vehicle_at settled v).late) (length settled.vehicles) v here.0 here.1) at c.loop-vehicle.invariant

pub returns-then-place-late : goal.returns-then-place-late
returns-then-place-late c =
    let settled = c.args.instance.now.settled.now in let v = c.loop-vehicle.vehicle in
    let here = late_read settled c.as_slice-vehicles.result.now v _ true c.as_slice-vehicles.ensures c.loop-vehicle-test.true c.if-not-vehicles-vehicle.false in
    rightly_no (λ all. walk_stuck _ (λ v. (vehicle_at settled v).late) (length settled.vehicles) v c.args.late.now c.loop-vehicle.place here.0 here.1
    c.if-place-late.true (c.loop-vehicle.invariant.0 all))

pub returns-then-not-branch : goal.returns-then-not-branch
returns-then-not-branch c =
    let settled = c.args.instance.now.settled.now in let v = c.loop-vehicle.vehicle in
    let here = late_read settled c.as_slice-vehicles.result.now v _ true c.as_slice-vehicles.ensures c.loop-vehicle-test.true c.if-not-vehicles-vehicle.false in
    let next = walk_next _ (λ v. (vehicle_at settled v).late) (length settled.vehicles) v c.args.late.now c.loop-vehicle.place here.0 here.1
    c.index-late-place.result c.if-place-late.false c.index-late-place.is in
    rightly_no (λ all. both_ways _ c.if-not-branch.true (c.in_ok-is_late.ensures.1 (next.0 (c.loop-vehicle.invariant.0 all)).0))

pub loop-vehicle-preserved : goal.loop-vehicle-preserved
loop-vehicle-preserved c =
    let settled = c.args.instance.now.settled.now in let v = c.loop-vehicle.vehicle in
    let here = late_read settled c.as_slice-vehicles.result.now v _ true c.as_slice-vehicles.ensures c.loop-vehicle-test.true c.if-not-vehicles-vehicle.false in
    let next = walk_next (IsLate c.args.instance.now.points.now (travel_time c.args.instance.now.times.now) settled) (λ v. (vehicle_at settled v).late)
    (length settled.vehicles) v c.args.late.now c.loop-vehicle.place here.0 here.1 c.index-late-place.result c.if-place-late.false c.index-late-place.is in
    (λ all. (next.0 (c.loop-vehicle.invariant.0 all)).1, λ rest. c.loop-vehicle.invariant.1 (next.1 (c.in_ok-is_late.ensures.0 c.if-not-branch.false, rest)))

pub returns : goal.returns
returns c =
    let settled = c.args.instance.now.settled.now in
    let end = walk_end (IsLate c.args.instance.now.points.now (travel_time c.args.instance.now.times.now) settled) (λ v. (vehicle_at settled v).late)
    (length settled.vehicles) c.loop-vehicle.vehicle c.args.late.now c.loop-vehicle.place
    (rw c.as_slice-vehicles.ensures at c.loop-vehicle-test.false) in (
      λ yes. c.loop-vehicle.invariant.1 (end.1 (leb-true (length c.args.late.now) c.loop-vehicle.place yes)),
      λ all. le-leb (length c.args.late.now)
          c.loop-vehicle.place (end.0 (c.loop-vehicle.invariant.0 all)),
    )
