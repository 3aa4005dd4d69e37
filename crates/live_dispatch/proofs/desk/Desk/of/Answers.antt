use Rattle.live_dispatch.specs.Desk.{outputs_seen}
use Rattle.live_dispatch.proofs.DeskLemmas.{desk-opened}
use Rattle.live_dispatch.proofs.desk.Desk.of.Goals as goal

pub invariant_of-result : goal.invariant_of-result
invariant_of-result g c =
    rw c.requires.opened
    (desk-opened c.args.book c.args.proof (outputs_seen g.K.Sink.written g.K.Sink.faults g.N.Notifier.told g.N.Notifier.faults g.N.Notifier.steady
    c.args.outputs.sink c.args.outputs.notifiers.items)
    c.keeps.ensures c.requires.empty c.requires.first)

pub returns-clause-kept : goal.returns-clause-kept
returns-clause-kept g c =
    rw c.requires.opened
    (desk-opened c.args.book c.args.proof (outputs_seen g.K.Sink.written g.K.Sink.faults g.N.Notifier.told g.N.Notifier.faults g.N.Notifier.steady
    c.args.outputs.sink c.args.outputs.notifiers.items)
    c.keeps.ensures c.requires.empty c.requires.first)
