use Rattle.std.proofs.Common.{take}
use Rattle.dispatch_report.proofs.Common.{sink_seen, WritesLines}
use Rattle.std.specs.List.{flat_map}
use Rattle.dispatch_report.proofs.SummaryLemmas.{entry_summary}
use Rattle.dispatch_report.proofs.summary.write_batches.Given as goal

abbrev pub invariant-loop-entry : goal.invariant-loop-entry
invariant-loop-entry g l =
    WritesLines (sink_seen g.K.Sink.written g.K.Sink.faults l.initial.sink l.sink) l.initial.page.piece.now.items l.page.piece.now.items l.initial.page.so_far
    l.page.so_far (flat_map entry_summary (take l.entry-index l.entries))
