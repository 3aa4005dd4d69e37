use Rattle.std.proofs.Common.{◌<◌, length, take, arith, sym}
use Rattle.route_drive.proofs.Common.{All-append, IsInTime, told_by, told_of}
use Rattle.route_drive.proofs.EnterLemmas.{told-more, Adds-trans}
use Rattle.route_drive.proofs.entering.enter_places.Goals as goal

pub returns-in-Err-clause-late : goal.returns-in-Err-clause-late
returns-in-Err-clause-late c = λ is.
    let each = c.requires.each in
    let within : c.loop-k.k < length c.args.vehicles.now = omega arith in
    (c.loop-k.k, c.index-places-k.result, omega (arith, within, each), sym c.index-places-k.is, c.in-Err.ensures.late is)

pub loop-k-preserved : goal.loop-k-preserved
loop-k-preserved c =
    let vehicles = c.args.vehicles.now in
    let courses = c.args.courses.now in
    let places = c.args.places.now in
    let within : c.loop-k.k < length c.args.vehicles.now = omega arith in
    let more = told-more c.args.now vehicles courses places c.loop-k.k c.index-vehicles-k.result c.index-courses-k.result c.index-places-k.result
    c.requires.same c.requires.each within
    c.index-vehicles-k.is c.index-courses-k.is c.index-places-k.is in
    let before = told_by c.args.now (take c.loop-k.k vehicles) (take c.loop-k.k courses) (take c.loop-k.k places) in
    let own = told_of c.args.now c.index-vehicles-k.result.id c.index-courses-k.result c.index-places-k.result in
    record {
      entered = rw more (Adds-trans 0 c.args.round.now c.loop-k.round c.enter_vehicle.new.round before own c.loop-k.invariant.entered c.in-Ok.ensures.entered);
      in_time = rw more (All-append IsInTime before own c.loop-k.invariant.in_time c.in-Ok.ensures.in_time);
    }
