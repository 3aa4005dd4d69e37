use Rattle.std.proofs.Common.{◌≡◌, ◌<◌, Err, length, map, take, ap, arith}
use Rattle.route_drive.proofs.Common.{All-append, IsInTime, left_commands, stop_command, second_of, longest, Command}
use Rattle.route_drive.specs.declared.entering.Stopped.TheVariants.{TooLate}
use Rattle.route_drive.proofs.EnterLemmas.{Adds-trans, left_late, left-more}
use Rattle.route_drive.proofs.rounds.last_round.Goals as goal

pub returns-in-Err-clause-late : goal.returns-in-Err-clause-late
returns-in-Err-clause-late c = λ is.
    let size = c.requires.same in
    let within : c.loop-k.k < length c.args.vehicles.now = omega arith in
    left_late (λ (c : Command). longest < second_of c) c.args.vehicles.now c.args.courses.now c.loop-k.k c.index-vehicles-k.result c.index-courses-k.result
    within (omega (arith, within, size))
    c.index-vehicles-k.is c.index-courses-k.is (let late : c.in-Err.stopped ≡ TooLate = cc in rw c.as_slice.ensures.value at
    (c.in-Err.ensures.late (ap Err late)))

pub loop-k-preserved : goal.loop-k-preserved
loop-k-preserved c =
    let vehicles = c.args.vehicles.now in
    let courses = c.args.courses.now in
    let within : c.loop-k.k < length c.args.vehicles.now = omega arith in
    let more = left-more vehicles courses c.loop-k.k c.index-vehicles-k.result c.index-courses-k.result c.requires.same within c.index-vehicles-k.is
    c.index-courses-k.is in
    let before = left_commands (take c.loop-k.k vehicles) (take c.loop-k.k courses) in
    let own = map (stop_command c.index-vehicles-k.result.id) c.index-courses-k.result.stops.items in
    record {
      entered = rw more (Adds-trans 0 c.in-Ok.round c.loop-k.round c.enter_left.new.round before own c.loop-k.invariant.entered
          (rw c.as_slice.ensures.value at c.in-Ok-enter_left.ensures.entered));
      in_time = rw more (All-append IsInTime before own c.loop-k.invariant.in_time (rw c.as_slice.ensures.value at c.in-Ok-enter_left.ensures.in_time));
    }
