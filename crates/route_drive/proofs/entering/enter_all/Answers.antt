use Rattle.route_drive.proofs.Common.{told_by}
use Rattle.route_drive.proofs.EnterLemmas.{if_ok_and, if_ok_map, placed_entered, placed_late, placed-size}
use Rattle.route_drive.proofs.entering.enter_all.Goals as goal

pub enter_places-requires-clause-each : goal.enter_places-requires-clause-each
enter_places-requires-clause-each g c =
    rw c.deref.ensures.value
    (placed-size c.args.solver.now.network.now c.args.solver.now.settings.now.dwell c.args.now c.args.vehicles.now c.args.courses.now c.in-Ok.places.items
    c.requires.same c.in-Ok.ensures)

pub returns-in-Ok-clause-entered : goal.returns-in-Ok-clause-entered
returns-in-Ok-clause-entered g c =
    let vehicles = c.args.vehicles.now in
    let courses = c.args.courses.now in
    let places = c.in-Ok.places.items in
    if_ok_map c.enter_places.result _ _ (if_ok_and c.enter_places.result _ _ (rw c.deref.ensures.value at c.enter_places.ensures.entered)
    (rw c.deref.ensures.value at c.enter_places.ensures.in_time))
    (λ done told. (
      told_by c.args.now vehicles courses places,
      placed_entered c.args.solver.now.network.now c.args.solver.now.settings.now.dwell c.args.now vehicles courses places c.requires.same c.in-Ok.ensures,
      told.1,
      told.0,
    ))

pub returns-in-Ok-clause-late : goal.returns-in-Ok-clause-late
returns-in-Ok-clause-late g c = λ is.
    placed_late c.args.solver.now.network.now c.args.solver.now.settings.now.dwell c.args.now c.args.vehicles.now c.args.courses.now c.in-Ok.places.items
    c.requires.same c.in-Ok.ensures
    (rw c.deref.ensures.value at (c.enter_places.ensures.late is))
