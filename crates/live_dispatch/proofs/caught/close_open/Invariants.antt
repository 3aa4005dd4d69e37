use Rattle.live_dispatch.specs.Desk.{outputs_seen}
use Rattle.live_dispatch.proofs.caught.close_open.Given as goal

abbrev pub ghosts-close_in : goal.ghosts-close_in
ghosts-close_in g a = record {
  opened = outputs_seen g.K.Sink.written g.K.Sink.faults g.N.Notifier.told g.N.Notifier.faults g.N.Notifier.steady
      a.outputs.sink a.outputs.notifiers.items;
}
