use Rattle.live_dispatch.specs.Desk.{outputs_seen}
use Rattle.live_dispatch.proofs.run.run_open.Given as goal

abbrev pub ghosts-run_in : goal.ghosts-run_in
ghosts-run_in g a = record {
  opened = outputs_seen g.K.Sink.written g.K.Sink.faults g.N.Notifier.told g.N.Notifier.faults g.N.Notifier.steady
      a.batch.outputs.sink a.batch.outputs.notifiers.items;
}
