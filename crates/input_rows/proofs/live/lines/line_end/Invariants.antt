use Rattle.std.proofs.Common.{take}
use Rattle.input_rows.specs.work.live.Pieces.{EndsNoLine}
use Rattle.input_rows.proofs.live.lines.line_end.Given as goal

abbrev pub invariant-loop-place : goal.invariant-loop-place
invariant-loop-place l = EndsNoLine (take l.place l.bytes)
