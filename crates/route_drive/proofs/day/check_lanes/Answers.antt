use Rattle.std.proofs.Common.{◌≡◌, ◌<◌, length, Some, None, rules, arith}
use Rattle.route_drive.proofs.Common.{first_fault-some, first_fault-none, lane_fault}
use Rattle.route_drive.proofs.day.check_lanes.Goals as goal

pub returns-then-has_foreign : goal.returns-then-has_foreign
returns-then-has_foreign c =
    let round = c.args.round.now in
    let size : length c.args.round.now.lanes ≡ 16 = c.keeps.ensures.sixteen in
    let within : c.loop-lane.lane < length c.args.round.now.lanes = omega arith in
    let here : lane_fault c.args.round.now c.loop-lane.lane ≡ Some _ = search rules in
    first_fault-some (lane_fault round) (length round.lanes) c.loop-lane.lane _ within c.loop-lane.invariant here

pub loop-lane-preserved : goal.loop-lane-preserved
loop-lane-preserved c =
    let here : lane_fault c.args.round.now c.loop-lane.lane ≡ None = search rules in
    first_fault-none (lane_fault c.args.round.now) c.loop-lane.lane c.loop-lane.invariant here
