use Rattle.std.proofs.Common.{◌≤◌}
use Rattle.input_rows.specs.work.live.Steps.{IsSameScript}
use Rattle.input_rows.proofs.live.start.read_start.Given as goal

abbrev pub invariant-lines : goal.invariant-lines
invariant-lines g l = IsSameScript l.fn.lines.to_come l.lines.to_come × (l.fn.lines.faults ≤ l.lines.faults)
