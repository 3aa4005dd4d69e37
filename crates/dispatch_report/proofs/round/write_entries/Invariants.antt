use Rattle.std.proofs.Common.{◌≡◌, ◌++◌, drop, ℕ, List}
use Rattle.dispatch_report.proofs.Common.{entries_lines, sink_seen, WritesLines}
use Rattle.dispatch_report.proofs.round.write_entries.Given as goal

abbrev pub invariant-loop-entry : goal.invariant-loop-entry
invariant-loop-entry g l =
    (done : List (List ℕ)) × WritesLines (sink_seen g.K.Sink.written g.K.Sink.faults l.initial.sink l.sink) l.initial.page.piece.now.items
    l.page.piece.now.items l.initial.page.so_far l.page.so_far done
    × (done ++ entries_lines l.proof l.position (drop l.entry-index l.entries) ≡ entries_lines l.proof l.first l.entries)
