use Rattle.std.proofs.Common.{◌≡◌, ◌+◌, ◌-◌, ◌≤◌, take, vec_len}
use Rattle.pool_io.proofs.Common.{Consumes}
use Rattle.pool_io.proofs.reading.read_all.Given as goal

abbrev pub invariant-reads : goal.invariant-reads
invariant-reads g l =
    (l.filled ≤ vec_len l.bytes) × (l.filled ≤ l.limit) × (vec_len l.bytes ≤ l.limit + 1)
    × Consumes (g.S.Source.left l.fn.source) (g.S.Source.left l.source) (take l.filled l.bytes.items)
    × (g.S.Source.taken l.source ≡ g.S.Source.taken l.fn.source + l.filled)
    × (g.S.Source.faults l.fn.source ≤ g.S.Source.faults l.source)

abbrev pub decreases-reads : goal.decreases-reads
decreases-reads g l = l.limit + 1 - l.filled
