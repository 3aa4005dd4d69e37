use Rattle.std.proofs.Common.{◌≤◌, map, take}
use Rattle.ridepool.proofs.Common.{notifier_seen}
use Rattle.ridepool.proofs.WriteLemmas.{HasWritten}
use Rattle.ridepool.proofs.writing.write_each.Given as goal

abbrev pub invariant-loop-round : goal.invariant-loop-round
invariant-loop-round g l =
    HasWritten l.solver.settings.now l.solver.network.now l.initial.current (take l.round-index l.rounds) (g.K.Sink.written l.initial.out)
    (g.K.Sink.written l.out)
    (map (λ n. notifier_seen (goal.Notifier-dyn g (n.vtable, n.value)) n.value) l.initial.notifiers.items)
    (map (λ n. notifier_seen (goal.Notifier-dyn g (n.vtable, n.value)) n.value) l.notifiers.items) l.current
    × (g.K.Sink.faults l.initial.out ≤ g.K.Sink.faults l.out)
