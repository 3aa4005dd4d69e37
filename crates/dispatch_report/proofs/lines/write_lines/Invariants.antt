use Rattle.std.proofs.Common.{map, take}
use Rattle.dispatch_report.proofs.Common.{sink_seen, WritesLines}
use Rattle.dispatch_report.proofs.lines.write_lines.Given as goal

abbrev pub invariant-items : goal.invariant-items
invariant-items g l =
    WritesLines (sink_seen g.K.Sink.written g.K.Sink.faults l.initial.sink l.sink) l.initial.page.piece.now.items l.page.piece.now.items l.initial.page.so_far
    l.page.so_far (map (g.L.Line.text l.kind) (take l.item-index l.items))
