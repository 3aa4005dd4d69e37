use Rattle.std.proofs.Common.{take}
use Rattle.route_drive.proofs.Common.{AddsServed}
use Rattle.route_drive.proofs.counts.note_entries.Given as goal

abbrev pub invariant-loop-entry : goal.invariant-loop-entry
invariant-loop-entry l = AddsServed (take l.entry-index l.entries) l.initial.served l.served
