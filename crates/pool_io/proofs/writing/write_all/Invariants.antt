use Rattle.std.proofs.Common.{◌-◌, ◌≤◌, length, take}
use Rattle.pool_io.proofs.Common.{Appends}
use Rattle.pool_io.proofs.writing.write_all.Given as goal

abbrev pub invariant-writes : goal.invariant-writes
invariant-writes g l =
    (l.done ≤ length l.bytes) × Appends (g.K.Sink.written l.fn.sink) (g.K.Sink.written l.sink) (take l.done l.bytes) ×
    (g.K.Sink.faults l.fn.sink ≤ g.K.Sink.faults l.sink)

abbrev pub decreases-writes : goal.decreases-writes
decreases-writes g l = length l.bytes - l.done
