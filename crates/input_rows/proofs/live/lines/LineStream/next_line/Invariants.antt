use Rattle.std.proofs.Common.{◌≤◌, vec_len}
use Rattle.input_rows.specs.work.live.Pieces.{HasTaken}
use Rattle.input_rows.proofs.live.lines.LineStream.next_line.Given as goal

abbrev pub invariant-pieces : goal.invariant-pieces
invariant-pieces g l =
    HasTaken l.fn.self.to_come l.self.to_come l.line.items × (vec_len l.line ≤ 65537) × (l.fn.self.faults ≤ l.self.faults)
