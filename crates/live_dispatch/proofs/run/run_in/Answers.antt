use Rattle.std.proofs.Common.{◌≡◌, refl, ap, ◌∙◌}
use Rattle.live_dispatch.specs.Desk.{desk_of, DeskView, OutputsView, outputs_seen}
use Rattle.live_dispatch.specs.declared.desk.DeskRoot.{DeskRoot}
use Rattle.live_dispatch.specs.Phase.{desk_after}
use Rattle.live_dispatch.proofs.CutLemmas.{no-log, open-run}
use Rattle.live_dispatch.proofs.ReadLemmas.{desk-is}
use Rattle.live_dispatch.proofs.run.run_in.Goals as goal

pub returns-in-Ok-start-clause-run : goal.returns-in-Ok-start-clause-run
returns-in-Ok-start-clause-run g c =
    let outputs : OutputsView = outputs_seen g.K.Sink.written g.K.Sink.faults g.N.Notifier.told g.N.Notifier.faults g.N.Notifier.steady
    c.args.batch.outputs.sink c.args.batch.outputs.notifiers.items in
    let parts = c.into_parts-book.result in
    let now : OutputsView = outputs_seen g.K.Sink.written g.K.Sink.faults g.N.Notifier.told g.N.Notifier.faults g.N.Notifier.steady parts.1.sink
    parts.1.notifiers.items in
    let settings = c.args.solver.now.settings.now in
    let start : DeskView = desk_of c.args.batch.book settings.proof outputs in
    let held : c.in-Ok-start.lock.start ≡ start = c.in-Ok-start.ensures.lock.0 ∙ c.of-desk.ensures.desk in
    let both = c.work_both-first.ensures in
    let proof : c.finish-desk.result.proof ≡ settings.proof = ap (λ (r : DeskRoot). r.proof) c.finish-desk.ensures.root ∙ ap (λ (d : DeskView). d.proof) held in
    open-run settings c.args.solver.now.network.now c.args.snapshot.now c.args.round (g.L.RowSource.to_come c.args.batch.lines)
    (g.L.RowSource.to_come c.work_both-first.result.1.lines)
    c.finish-desk.result (desk_after c.args.batch.book settings.proof outputs parts.0 now parts.2) c.in-Ok-start.lock.start start c.work_both-first.result.0.1
    c.work_both-first.result.1.stop
    c.work_both-first.result.0.0 c.work_both-first.result.1.pass
    (desk-is c.finish-desk.result c.args.batch.book parts.0 settings.proof g.J.Opening.opened outputs now parts.2 c.into_parts-book.ensures.parts proof
    c.requires.opened)
    held refl c.into_parts-book.ensures.kept c.finish-desk.ensures.root c.finish-desk.ensures.log (no-log start c.requires.empty) both.closed both.read
