use Rattle.std.proofs.Common.{◌≡◌, Err, arith, ap, length, refl, subst, ◌∙◌}
use Rattle.ridepool.proofs.Common.{Inputs, IsDayFor, BeginsRounds, EndsRounds, RunsAll, RunsFirst, day_ending, head_of}
use Rattle.ridepool.proofs.BookLemmas.{new_book, nobody_told, ready_book}
use Rattle.ridepool.proofs.WriteLemmas.{nothing_written, behind_head, unbegun, report_from, run_serves, day_serves, day_fault}
use Rattle.ridepool.proofs.writing.write_by.Goals as goal

pub returns-in_default-clause-report : goal.returns-in_default-clause-report
returns-in_default-clause-report g c = nothing_written _ (g.K.Sink.written c.args.out.now) _ (g.K.Sink.faults c.args.out.now)

pub opened_book-requires : goal.opened_book-requires
opened_book-requires g c = c.requires.named

pub drive_day-driven-requires-clause-new : goal.drive_day-driven-requires-clause-new
drive_day-driven-requires-clause-new g c κs within =
    new_book (record {
      settings = c.args.solver.now.settings.now;
      roads = c.args.solver.now.network.now;
      vehicles = c.args.fleet.now;
      rounds =
          c.args.script.now;
    }) c.in-Ok.book c.keeps.ensures c.in-Ok.ensures

pub drive_day-driven-requires-clause-day : goal.drive_day-driven-requires-clause-day
drive_day-driven-requires-clause-day g c κs within = subst (λ m. IsDayFor m c.args.script.now) c.in-Drive.is c.requires.day

pub drive_day-driven-requires-clause-fresh : goal.drive_day-driven-requires-clause-fresh
drive_day-driven-requires-clause-fresh g c κs within = (refl, refl, refl, rw c.empty-day.ensures.rounds tt)

pub write_day-written-requires : goal.write_day-written-requires
write_day-written-requires g c = λ nobody.
    let took = c.in-Ok-driven.ensures.run.1 in
    let size : length c.args.notifiers.now.items ≡ c.args.notifiers.now.len = (let ok = c.args.notifiers.now.ok.0 in omega (arith, ok)) in
    nobody_told c.args.notifiers.now.len (length c.args.notifiers.now.items) c.is_empty-told.result _ size c.is_empty-told.ensures
    (took.2 ∙ c.empty-day.ensures.told) nobody

pub returns-in-Err-clause-report : goal.returns-in-Err-clause-report
returns-in-Err-clause-report g c =
    day_fault _ c.in-Ok.book (g.K.Sink.written c.args.out.now) _ (g.K.Sink.faults c.args.out.now) c.in-Err.fault c.late_status.result c.in-Drive.is
    c.in-Ok.ensures c.late_status.ensures
    _ c.in-Err.ensures.late

pub write_each-requires-clause-ready : goal.write_each-requires-clause-ready
write_each-requires-clause-ready g c κs within =
    ready_book (record {
      settings = c.args.solver.now.settings.now;
      roads = c.args.solver.now.network.now;
      vehicles = c.args.fleet.now;
      rounds =
          c.args.script.now;
    }) c.in-Ok.book c.in-Ok.ensures

pub write_each-requires-clause-empty : goal.write_each-requires-clause-empty
write_each-requires-clause-empty g c κs within = ap (λ b. b.entries) c.in-Ok.ensures

pub returns-in-Ok-driven-clause-report : goal.returns-in-Ok-driven-clause-report
returns-in-Ok-driven-clause-report g c =
    let i : Inputs = record {
      settings = c.args.solver.now.settings.now;
      roads = c.args.solver.now.network.now;
      vehicles = c.args.fleet.now;
      rounds =
          c.args.script.now;
    } in
    let run = c.in-Ok-driven.run' in
    let made = c.in-Ok-driven.ensures.run.0 in
    let took = c.in-Ok-driven.ensures.run.1 in
    let settings = took.0 ∙ c.empty-day.ensures.settings in
    let network = took.1 ∙ c.empty-day.ensures.network in
    report_from i (BeginsRounds made) (EndsRounds made (day_ending run made)) (day_serves i c.in-Ok.book made run c.in-Drive.is c.in-Ok.ensures
    c.in-Ok-driven.ensures.run.2)
    (g.K.Sink.written c.args.out.now) (g.K.Sink.written c.write_day-written.new.out) _ _ (g.K.Sink.faults c.args.out.now)
    (g.K.Sink.faults c.write_day-written.new.out) c.write_day-written.result
    (rw (settings, network) at (c.write_day-written.ensures.report made took.3))

pub returns-in-Ok-write_first-clause-report : goal.returns-in-Ok-write_first-clause-report
returns-in-Ok-write_first-clause-report g c =
    let i : Inputs = record {
      settings = c.args.solver.now.settings.now;
      roads = c.args.solver.now.network.now;
      vehicles = c.args.fleet.now;
      rounds =
          c.args.script.now;
    } in
    let P = RunsFirst i.settings i.roads c.in-Ok.book c.rounds.result.now in
    let Q = RunsAll i.settings i.roads c.in-Ok.book c.rounds.result.now in
    report_from i P Q (run_serves i c.in-Ok.book c.rounds.result.now c.in_default-mode.not-Drive c.in-Ok.ensures c.rounds.ensures.rounds)
    (g.K.Sink.written c.args.out.now) (g.K.Sink.written c.write_each.new.out) _ _ (g.K.Sink.faults c.args.out.now) (g.K.Sink.faults c.write_each.new.out)
    c.write_each.result
    (behind_head i.settings i.roads P Q (head_of i) (g.K.Sink.written c.args.out.now) (g.K.Sink.written c.write_first.new.out)
    (g.K.Sink.written c.write_each.new.out) _ _
    (g.K.Sink.faults c.args.out.now) (g.K.Sink.faults c.write_first.new.out) (g.K.Sink.faults c.write_each.new.out) c.write_each.result
    c.in-Ok-write_first.ensures.bytes c.write_first.ensures.never_falls c.write_each.ensures.rounds)

pub returns-in-Err-write_first-clause-report : goal.returns-in-Err-write_first-clause-report
returns-in-Err-write_first-clause-report g c =
    let i : Inputs = record {
      settings = c.args.solver.now.settings.now;
      roads = c.args.solver.now.network.now;
      vehicles = c.args.fleet.now;
      rounds =
          c.args.script.now;
    } in
    let P = RunsFirst i.settings i.roads c.in-Ok.book c.args.script.now in
    let Q = RunsAll i.settings i.roads c.in-Ok.book c.args.script.now in
    let before = g.K.Sink.written c.args.out.now in
    let after = g.K.Sink.written c.write_first.new.out in
    let low = g.K.Sink.faults c.args.out.now in
    let high = g.K.Sink.faults c.write_first.new.out in
    report_from i P Q (run_serves i c.in-Ok.book c.args.script.now c.in_default-mode.not-Drive c.in-Ok.ensures refl) before after _ _ low high
    (Err c.status_of.result)
    (unbegun i.settings i.roads P Q (head_of i) before after _ low high c.in-Err-write_first.fault c.status_of.result c.status_of.ensures
    c.in-Err-write_first.ensures.bytes
    (λ is. c.in-Err-write_first.ensures.fault (ap Err is)))

pub returns-in-Ok-driven-clause-never_falls : goal.returns-in-Ok-driven-clause-never_falls
returns-in-Ok-driven-clause-never_falls g c = c.write_day-written.ensures.never_falls

pub returns-in-Ok-write_first-clause-never_falls : goal.returns-in-Ok-write_first-clause-never_falls
returns-in-Ok-write_first-clause-never_falls g c = omega (arith, c.write_first.ensures.never_falls, c.write_each.ensures.never_falls)

pub returns-in-Err-write_first-clause-never_falls : goal.returns-in-Err-write_first-clause-never_falls
returns-in-Err-write_first-clause-never_falls g c = c.write_first.ensures.never_falls
